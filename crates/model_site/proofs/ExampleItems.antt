-- Words for the lists of the examples.
use Rattle.std.proofs.Common.{ℕ, zero, suc, ◌+◌, ◌-◌, false, List, [], ◌∷◌, ◌++◌, map, length, codes, None}
use Rattle.ve_kinds.specs.declared.kind.Kind.{Kind}
use Rattle.ve_kinds.specs.declared.kind.Kind.TheVariants.{P, InternalList}
use Rattle.ve_base.specs.declared.attrs.Attr.{Attr}
use Rattle.ve_base.specs.declared.head.Head.{Head}
use Rattle.ve_base.specs.declared.marks.Mark.{Mark}
use Rattle.model_items.specs.declared.plain_item.PlainItem.{PlainItem}
use Rattle.model_items.specs.declared.plain_item.PlainItem.TheVariants.{Char, Opening, Closing}
use Rattle.model_change.specs.Transaction.{Retain, Replace, Transaction}
use Rattle.model_site.specs.Replica.{Replica, opened_with}

abbrev pub head_of : List Attr → Head
head_of attrs = record { tag = []; attrs = attrs; raw = []; reference = None; owner = false }

abbrev pub open_ : Kind → List Attr → PlainItem
open_ kind attrs = Opening kind (head_of attrs) [] [] None false

abbrev pub close_ : Kind → PlainItem
close_ kind = Closing kind []

abbrev pub bold : List Mark
bold = record { tag = codes "b"; attrs = [] } ∷ []

abbrev pub italic : List Mark
italic = record { tag = codes "i"; attrs = [] } ∷ []

abbrev pub marked : List Mark → List ℕ → List PlainItem
marked marks = map (λ c. Char c marks)

abbrev pub chars_ : List ℕ → List PlainItem
chars_ = marked []

-- a page of one paragraph, with the internal list
abbrev pub page_of : List PlainItem → List PlainItem
page_of inside = open_ P [] ∷ (inside ++ (close_ P ∷ open_ InternalList [] ∷ close_ InternalList ∷ []))

abbrev pub page : List ℕ → List PlainItem
page text = page_of (chars_ text)

abbrev pub opened : List ℕ → Replica
opened text = opened_with (page text)

abbrev pub passes : ℕ → Transaction
passes zero = []
passes (suc n) = Retain (suc n) ∷ []

-- items put in at a position, or taken out from it on, in a list of so many items
abbrev pub inserts : ℕ → List PlainItem → ℕ → Transaction
inserts at items long = passes at ++ Replace [] items ∷ passes (long - at)

abbrev pub removes : ℕ → List PlainItem → ℕ → Transaction
removes at items long = passes at ++ Replace items [] ∷ passes (long - (at + length items))
