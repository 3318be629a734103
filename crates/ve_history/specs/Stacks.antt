-- The stacks of undo and redo.
use Rattle.std.specs.Prelude.{ℕ, ◌-◌, List, length, take}
use Rattle.ve_tx.specs.declared.entry.Entry.{Entry}
use Rattle.ve_tx.specs.declared.parcel.Parcel.{Parcel}

-- The entries done, the oldest first; those undone, the last one first; and how many more either
-- stack takes without memory.
pub record Stacks : Type 0 where
  pub done : List Entry
  pub undone : List Parcel
  pub spare : ℕ

-- all entries but the last
abbrev pub without_last : List Entry → List Entry
without_last done = take (length done - 1) done
