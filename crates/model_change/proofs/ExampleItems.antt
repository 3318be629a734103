-- Words for the lists of the examples.
use Rattle.std.proofs.Common.{ℕ, false, List, [], ◌∷◌, ◌++◌, map, None}
use Rattle.ve_kinds.specs.declared.kind.Kind.{Kind}
use Rattle.ve_kinds.specs.declared.kind.Kind.TheVariants.{P, InternalList}
use Rattle.ve_base.specs.declared.attrs.Attr.{Attr}
use Rattle.model_items.specs.declared.plain_item.PlainItem.{PlainItem}
use Rattle.model_items.specs.declared.plain_item.PlainItem.TheVariants.{Char, Opening, Closing}
use Rattle.model_change.specs.Transaction.{Retain, Replace, Transaction}

abbrev pub with_attrs : Kind → List Attr → PlainItem
with_attrs kind attrs = Opening kind (record { tag = []; attrs = attrs; raw = []; reference = None; owner = false }) [] [] None false

abbrev pub open_ : Kind → PlainItem
open_ kind = with_attrs kind []

abbrev pub close_ : Kind → PlainItem
close_ kind = Closing kind []

abbrev pub chars_ : List ℕ → List PlainItem
chars_ = map (λ c. Char c [])

-- the internal list, with which each page ends
abbrev pub end_ : List PlainItem
end_ = open_ InternalList ∷ close_ InternalList ∷ []

abbrev pub paragraph : List ℕ → List PlainItem
paragraph text = open_ P ∷ (chars_ text ++ (close_ P ∷ []))

abbrev pub attr_ : List ℕ → List ℕ → Attr
attr_ name value = record { name = name; value = value }

-- the insertion of a text between so many items
abbrev pub inserts : ℕ → List ℕ → ℕ → Transaction
inserts before text suffix = Retain before ∷ Replace [] (chars_ text) ∷ Retain suffix ∷ []
