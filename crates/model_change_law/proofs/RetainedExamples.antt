-- An item that is retained, with an attribute set on it.
use Rattle.std.proofs.Common.{◌≡◌, List, [], ◌∷◌, slice_get, Some, None, codes, refl}
use Rattle.ve_kinds.specs.declared.kind.Kind.TheVariants.{P}
use Rattle.model_items.specs.declared.plain_item.PlainItem.{PlainItem}
use Rattle.model_change.specs.Attributes.{AttrChange}
use Rattle.model_change.specs.Transaction.{Retain, Replace, Attribute, Transaction, edited}
use Rattle.model_change.specs.Fault.{placed_changes}
use Rattle.model_change.specs.Touch.{new_place}
use Rattle.model_change_law.proofs.ExampleItems.{with_attrs, paragraph}
use Rattle.model_change_law.specs.Retained.{changes_at, all_changed, without_attrs}

abbrev sets_id : AttrChange
sets_id = record { name = codes "id"; from = None; to = Some (codes "x"); kept = None }

-- a paragraph is put in before another one, on which an attribute is set
abbrev before_it : Transaction
before_it = Replace [] (paragraph (codes "new")) ∷ Attribute sets_id ∷ Retain 4 ∷ []

abbrev page : List PlainItem
page = paragraph (codes "ab")

its_place : new_place before_it 0 ≡ Some 5
its_place = refl

its_changes : changes_at 0 (placed_changes 0 before_it) ≡ sets_id ∷ []
its_changes = refl

stands_there : slice_get (edited before_it page) 5 ≡ Some (all_changed (sets_id ∷ []) (with_attrs P []))
stands_there = refl

with_its_attribute : all_changed (sets_id ∷ []) (with_attrs P []) ≡ with_attrs P (record { name = codes "id"; value = codes "x" } ∷ [])
with_its_attribute = refl

but_for_attributes : without_attrs (with_attrs P (record { name = codes "id"; value = codes "x" } ∷ [])) ≡ with_attrs P []
but_for_attributes = refl

-- nothing is said of the letter behind it, which stays
no_changes : changes_at 1 (placed_changes 0 before_it) ≡ []
no_changes = refl

letter_stays : slice_get (edited before_it page) 6 ≡ slice_get page 1
letter_stays = refl
