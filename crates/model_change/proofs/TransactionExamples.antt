-- Lists that transactions give, and normal forms.
use Rattle.std.proofs.Common.{◌≡◌, ℕ, ◌^◌, ◌-◌, true, false, List, [], ◌∷◌, ◌++◌, Some, None, Ok, codes, refl}
use Rattle.ve_kinds.specs.declared.kind.Kind.TheVariants.{P, H2, Ul, Li}
use Rattle.ve_base.specs.declared.marks.Mark.{Mark}
use Rattle.model_items.specs.declared.plain_item.PlainItem.TheVariants.{Char}
use Rattle.model_change.specs.Attributes.{AttrChange}
use Rattle.model_change.specs.Transaction.{Retain, Replace, Attribute, is_normal}
use Rattle.model_change.specs.Fault.{apply}
use Rattle.model_change.proofs.ExampleItems.{open_, close_, chars_, end_, paragraph, inserts}

-- `c` with the marks that stand round it, in `<p><b>a</b><b>b</b></p>`
abbrev bold : List Mark
bold = record { tag = codes "b"; attrs = [] } ∷ []

marked_text : apply (Retain 3 ∷ Replace [] (Char 99 bold ∷ []) ∷ Retain 3 ∷ []) (open_ P ∷ Char 97 bold ∷ Char 98 bold ∷ close_ P ∷ end_)
    ≡ Ok (open_ P ∷ Char 97 bold ∷ Char 98 bold ∷ Char 99 bold ∷ close_ P ∷ end_)
marked_text = refl

-- a removal over two kinds: the paragraph's closing and the heading's opening go, and the heading's
-- closing becomes the paragraph's
two_kinds_join : apply (Retain 2 ∷ Replace (chars_ (codes "b") ++ (close_ P ∷ open_ H2 ∷ chars_ (codes "c"))) [] ∷ Retain 1 ∷ Replace (close_ H2 ∷ []) (close_ P ∷ []) ∷ Retain 2 ∷ [])
    (paragraph (codes "ab") ++ (open_ H2 ∷ (chars_ (codes "cd") ++ (close_ H2 ∷ end_))))
    ≡ Ok (paragraph (codes "ad") ++ end_)
two_kinds_join = refl

-- a removal that leaves the brackets between
brackets_stay : apply (Retain 2 ∷ Replace (chars_ (codes "b")) [] ∷ Retain 4 ∷ Replace (chars_ (codes "c")) [] ∷ Retain 6 ∷ [])
    (paragraph (codes "ab") ++ (open_ Ul ∷ open_ Li ∷ (paragraph (codes "cd") ++ (close_ Li ∷ close_ Ul ∷ end_))))
    ≡ Ok (paragraph (codes "a") ++ (open_ Ul ∷ open_ Li ∷ (paragraph (codes "d") ++ (close_ Li ∷ close_ Ul ∷ end_))))
brackets_stay = refl

normal : is_normal (inserts 1 (codes "A") 3) ≡ true
normal = refl

nothing_is_normal : is_normal [] ≡ true
nothing_is_normal = refl

empty_retain : is_normal (Retain 0 ∷ []) ≡ false
empty_retain = refl

empty_replace : is_normal (Retain 1 ∷ Replace [] [] ∷ []) ≡ false
empty_replace = refl

two_retains : is_normal (Retain 1 ∷ Retain 2 ∷ []) ≡ false
two_retains = refl

two_replaces : is_normal (Replace (chars_ (codes "a")) [] ∷ Replace [] (chars_ (codes "b")) ∷ []) ≡ false
two_replaces = refl

abbrev sets : List ℕ → AttrChange
sets name = record { name = name; from = None; to = Some (codes "x"); kept = None }

attributes_of_one_place : is_normal (Attribute (sets (codes "id")) ∷ Attribute (sets (codes "lang")) ∷ Retain 1 ∷ []) ≡ true
attributes_of_one_place = refl

one_name_twice : is_normal (Attribute (sets (codes "id")) ∷ Attribute (sets (codes "lang")) ∷ Attribute (sets (codes "id")) ∷ Retain 1 ∷ []) ≡ false
one_name_twice = refl

attribute_at_the_end : is_normal (Attribute (sets (codes "id")) ∷ []) ≡ false
attribute_at_the_end = refl

attribute_before_replace : is_normal (Attribute (sets (codes "id")) ∷ Replace (chars_ (codes "a")) [] ∷ []) ≡ false
attribute_before_replace = refl

-- the bound on all lengths, at the number and at the next one
at_the_bound : is_normal (Retain (2 ^ 60 - 1) ∷ Replace [] (chars_ (codes "a")) ∷ []) ≡ true
at_the_bound = refl

past_the_bound : is_normal (Retain (2 ^ 60) ∷ Replace [] (chars_ (codes "a")) ∷ []) ≡ false
past_the_bound = refl
