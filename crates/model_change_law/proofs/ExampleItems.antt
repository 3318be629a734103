-- Words for the lists of the examples.
use Rattle.std.proofs.Common.{ℕ, false, List, [], ◌∷◌, ◌++◌, map, None}
use Rattle.ve_base.specs.declared.attrs.Attr.{Attr}
use Rattle.ve_kinds.specs.declared.kind.Kind.{Kind}
use Rattle.ve_kinds.specs.declared.kind.Kind.TheVariants.{P}
use Rattle.model_items.specs.declared.plain_item.PlainItem.{PlainItem}
use Rattle.model_items.specs.declared.plain_item.PlainItem.TheVariants.{Char, Opening, Closing}
use Rattle.model_change.specs.Transaction.{Retain, Replace, Transaction}

abbrev pub letters : List ℕ → List PlainItem
letters = map (λ c. Char c [])

abbrev pub with_attrs : Kind → List Attr → PlainItem
with_attrs kind attrs = Opening kind (record { tag = []; attrs = attrs; raw = []; reference = None; owner = false }) [] [] None false

abbrev pub paragraph : List ℕ → List PlainItem
paragraph text = with_attrs P [] ∷ (letters text ++ (Closing P [] ∷ []))

-- the insertion of a text between so many items
abbrev pub inserts : ℕ → List ℕ → ℕ → Transaction
inserts before text after = Retain before ∷ Replace [] (letters text) ∷ Retain after ∷ []
