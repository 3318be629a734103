-- What operations change, and what undoing them does.
use Rattle.std.proofs.Common.{◌≡◌, ℕ, List, [], ◌∷◌, None, codes, refl}
use Rattle.model_items.specs.declared.item.Item.{Item}
use Rattle.model_items.specs.declared.item.Item.TheVariants.{Char}
use Rattle.model_site.specs.declared.patch.Patch.{Patch}
use Rattle.ve_tx.specs.Operation.{Operation, Replace, Retain}
use Rattle.ve_tx.specs.declared.op.Op.{Op}
use Rattle.ve_tx.specs.declared.op.Op.TheVariants as op
use Rattle.ve_site.specs.Patches.{all_changed, all_turned, changed_by_all, undone_by_all}

abbrev patch : (at removed inserted : ℕ) → Patch
patch at removed inserted = record { at = at; removed = removed; inserted = inserted }

abbrev letter : Item
letter = Char 97 None

-- two letters come after the first item, and an attribute of the third of the old items changes
abbrev ops : List Op
ops = op.Retain 1 ∷ op.Replace [] (letter ∷ letter ∷ []) ∷ op.Retain 1 ∷ op.Attribute (codes "id") None None ∷ op.Retain 2 ∷ []

in_the_new_list : all_changed 0 ops ≡ patch 1 0 2 ∷ patch 4 1 1 ∷ []
in_the_new_list = refl

-- undone, positions are those of the old list
in_the_old_list : all_changed 0 (all_turned ops) ≡ patch 1 2 0 ∷ patch 2 1 1 ∷ []
in_the_old_list = refl

abbrev comes : List Operation
comes = Retain 3 ∷ Replace [] (letter ∷ []) ∷ []

abbrev goes : List Operation
goes = Replace (letter ∷ letter ∷ []) [] ∷ Retain 2 ∷ []

one_after_the_other : changed_by_all (comes ∷ goes ∷ []) ≡ patch 3 0 1 ∷ patch 0 2 0 ∷ []
one_after_the_other = refl

the_last_is_undone_first : undone_by_all (comes ∷ goes ∷ []) ≡ patch 0 0 2 ∷ patch 3 1 0 ∷ []
the_last_is_undone_first = refl
