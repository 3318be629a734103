-- The items that edits of worked lists insert.
use Rattle.std.proofs.Common.{◌≡◌, List, [], ◌∷◌, ◌++◌, Option, Some, None, refl}
use Rattle.std.specs.Prelude.{codes, Result, Ok, Err}
use Rattle.ve_kinds.specs.declared.kind.Kind.TheVariants.{P}
use Rattle.model_items.specs.declared.plain_item.PlainItem.{PlainItem}
use Rattle.model_change.specs.Transaction.{Transaction, all_inserted}
use Rattle.model_edit.specs.Edits.{Change, Set}
use Rattle.model_edit.specs.Insert.{split}
use Rattle.model_items.proofs.ExampleItems.{c, text, attr, with_attrs, internal}
use Rattle.model_edit_law.specs.ApartLaws.{inserted_pieces}

-- in the order of the edits, whichever they are
three_edits : inserted_pieces (Change 1 2 (text (codes "ab")) ∷ Set 5 (codes "class") None ∷ Change 7 0 (c P ∷ []) ∷ []) ≡ text (codes "ab") ++ c P ∷ []
three_edits = refl

abbrev inserted_by : {E : Type 0} → Result Transaction E → Option (List PlainItem)
inserted_by (Err e) = None
inserted_by (Ok t) = Some (all_inserted t)

-- `<p id="1" class="2">ab</p>` split between the letters: the copy has no `id`
apart_split : inserted_by (split (with_attrs P (attr (codes "id") (codes "1") ∷ attr (codes "class") (codes "2") ∷ []) ∷ text (codes "ab") ++ c P ∷ internal) 2 1)
    ≡ Some (c P ∷ with_attrs P (attr (codes "class") (codes "2") ∷ []) ∷ [])
apart_split = refl

-- `<p class="1" class="2">ab</p>`: names that the list has not apart the copy has not
doubled_split : inserted_by (split (with_attrs P (attr (codes "class") (codes "1") ∷ attr (codes "class") (codes "2") ∷ []) ∷ text (codes "ab") ++ c P ∷ internal) 2 1)
    ≡ Some (c P ∷ with_attrs P (attr (codes "class") (codes "1") ∷ attr (codes "class") (codes "2") ∷ []) ∷ [])
doubled_split = refl
