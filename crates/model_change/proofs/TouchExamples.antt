-- Nodes that small changes touch, and a change in a long list.
use Rattle.std.proofs.Common.{◌≡◌, ℕ, zero, suc, ◌+◌, ◌%◌, false, List, [], ◌∷◌, ◌++◌, map, None, codes, refl}
use Rattle.ve_kinds.specs.declared.kind.Kind.{Kind}
use Rattle.ve_kinds.specs.declared.kind.Kind.TheVariants.{P, H2, InternalList}
use Rattle.ve_base.specs.Empty.{empty_head}
use Rattle.model_items.specs.declared.plain_item.PlainItem.{PlainItem}
use Rattle.model_items.specs.declared.plain_item.PlainItem.TheVariants.{Char, Opening, Closing}
use Rattle.model_change.specs.Transaction.{Retain, Replace}
use Rattle.model_change.specs.Touch.{touch}

abbrev open_ : Kind → PlainItem
open_ kind = Opening kind empty_head [] [] None false

abbrev chars_ : List ℕ → List PlainItem
chars_ = map (λ c. Char c [])

abbrev paragraph : List ℕ → List PlainItem
paragraph text = open_ P ∷ (chars_ text ++ (Closing P [] ∷ []))

abbrev end_ : List PlainItem
end_ = open_ InternalList ∷ Closing InternalList [] ∷ []

-- typing into a paragraph: its text, itself and the root, by their lengths
typing : touch (Retain 2 ∷ Replace [] (chars_ (codes "X")) ∷ Retain 4 ∷ []) (paragraph (codes "ab") ++ end_) ≡ 3
typing = refl

-- a split: one new paragraph with its text; the text and the paragraph before, and the root, by
-- their lengths
split : touch (Retain 2 ∷ Replace [] (Closing P [] ∷ open_ P ∷ []) ∷ Retain 4 ∷ []) (paragraph (codes "ab") ++ end_) ≡ 5
split = refl

-- another kind: one paragraph goes and one heading comes, and the text has another parent
converted : touch (Replace (open_ P ∷ []) (open_ H2 ∷ []) ∷ Retain 2 ∷ Replace (Closing P [] ∷ []) (Closing H2 [] ∷ []) ∷ Retain 2 ∷ []) (paragraph (codes "ab") ++ end_) ≡ 3
converted = refl

nothing : touch (Retain 6 ∷ []) (paragraph (codes "ab") ++ end_) ≡ 0
nothing = refl

-- so many letters from a number on, going round the alphabet
abbrev letters : ℕ → ℕ → List PlainItem
letters from zero = []
letters from (suc n) = Char (97 + from % 26) [] ∷ letters (suc from) n

-- paragraphs of 18 letters, the first from the letter of a number
abbrev paragraphs : ℕ → ℕ → List PlainItem
paragraphs from zero = end_
paragraphs from (suc n) = open_ P ∷ (letters from 18 ++ (Closing P [] ∷ paragraphs (suc from) n))

-- in a list of 402 nodes, typing touches three all the same
in_a_long_list : touch (Retain 2 ∷ Replace [] (chars_ (codes "X")) ∷ Retain 4000 ∷ []) (paragraphs 0 200) ≡ 3
in_a_long_list = refl
