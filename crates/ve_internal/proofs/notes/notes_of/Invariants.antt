use Rattle.std.proofs.Common.{◌-◌, ◌≤◌, length, take}
use Rattle.model_items.specs.Plain.{plain_list}
use Rattle.ve_internal.specs.Noted.{HasNoted}
use Rattle.ve_internal.proofs.notes.notes_of.Given as goal

abbrev pub invariant-loop-at : goal.invariant-loop-at
invariant-loop-at l = record {
  within : l.at ≤ length l.list.items;
  noted : HasNoted l.notes (plain_list l.store (take l.at l.list.items));
}

abbrev pub decreases-loop-at : goal.decreases-loop-at
decreases-loop-at l = length l.list.items - l.at
