-- Verdicts over small lists.
use Rattle.std.proofs.Common.{◌≡◌, ℕ, zero, suc, false, List, [], ◌∷◌, ◌++◌, Some, None, Ok, refl}
use Rattle.ve_kinds.specs.declared.kind.Kind.{Kind}
use Rattle.ve_kinds.specs.declared.kind.Kind.TheVariants.{P, Ul, Li, Div, Br, Section, InternalList, InternalItem}
use Rattle.ve_base.specs.Empty.{empty_head}
use Rattle.model_items.specs.declared.plain_item.PlainItem.{PlainItem}
use Rattle.model_items.specs.declared.plain_item.PlainItem.TheVariants.{Char, Opening, Closing}
use Rattle.model_items.specs.declared.law_fault.LawFault.TheVariants.{Unlawful, TooDeep}
use Rattle.model_items.specs.Law.{start, after, verdict}

abbrev open_ : Kind → PlainItem
open_ kind = Opening kind empty_head [] [] None false

abbrev close_ : Kind → PlainItem
close_ kind = Closing kind []

abbrev a_ : PlainItem
a_ = Char 97 []

abbrev end_ : List PlainItem
end_ = open_ InternalList ∷ close_ InternalList ∷ []

empty_page : verdict end_ ≡ None
empty_page = refl

-- the internal list has to come
nothing : verdict [] ≡ Some (Unlawful 0)
nothing = refl

paragraph : verdict (open_ P ∷ a_ ∷ close_ P ∷ end_) ≡ None
paragraph = refl

-- an li stands in a list alone
li_in_root : verdict (open_ Li ∷ close_ Li ∷ open_ P ∷ a_ ∷ close_ P ∷ end_) ≡ Some (Unlawful 0)
li_in_root = refl

-- characters stand in content branches alone
bare_character : verdict (open_ Div ∷ a_ ∷ close_ Div ∷ end_) ≡ Some (Unlawful 1)
bare_character = refl

nothing_in_a_leaf : verdict (open_ P ∷ open_ Br ∷ a_ ∷ close_ Br ∷ close_ P ∷ end_) ≡ Some (Unlawful 2)
nothing_in_a_leaf = refl

other_closing : verdict (open_ Ul ∷ close_ Li ∷ end_) ≡ Some (Unlawful 1)
other_closing = refl

nothing_after_the_internal_list : verdict (end_ ++ (open_ P ∷ close_ P ∷ [])) ≡ Some (Unlawful 2)
nothing_after_the_internal_list = refl

one_internal_list : verdict (end_ ++ end_) ≡ Some (Unlawful 2)
one_internal_list = refl

internal_list_in_a_node : verdict (open_ Section ∷ open_ InternalList ∷ close_ InternalList ∷ close_ Section ∷ []) ≡ Some (Unlawful 1)
internal_list_in_a_node = refl

internal_item : verdict (open_ InternalList ∷ open_ InternalItem ∷ open_ P ∷ close_ P ∷ close_ InternalItem ∷ close_ InternalList ∷ []) ≡ None
internal_item = refl

-- a list that ends too early
unclosed : verdict (open_ P ∷ a_ ∷ []) ≡ Some (Unlawful 2)
unclosed = refl

-- div elements round a list
abbrev in_divs : ℕ → List PlainItem → List PlainItem
in_divs zero items = items
in_divs (suc n) items = open_ Div ∷ (in_divs n items ++ (close_ Div ∷ []))

-- a hundred nodes may be open, and one more may not
hundred : verdict (in_divs 99 (open_ P ∷ a_ ∷ close_ P ∷ []) ++ end_) ≡ None
hundred = refl

hundred_and_one : verdict (in_divs 100 (open_ P ∷ a_ ∷ close_ P ∷ []) ++ end_) ≡ Some (TooDeep 100)
hundred_and_one = refl

-- what isn't allowed anyway is unlawful, also there
unlawful_there : verdict (in_divs 100 (open_ Li ∷ close_ Li ∷ []) ++ end_) ≡ Some (Unlawful 100)
unlawful_there = refl

in_the_middle : after start (open_ Ul ∷ open_ Li ∷ open_ P ∷ a_ ∷ []) ≡ Ok (record { stack = P ∷ Li ∷ Ul ∷ []; seen = false })
in_the_middle = refl
