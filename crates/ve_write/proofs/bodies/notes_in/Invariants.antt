use Rattle.std.proofs.Common.{◌≡◌, ◌≤◌, ◌+◌, ◌-◌, List, drop, length}
use Rattle.ve_base.specs.declared.value.Value.{Value}
use Rattle.model_items.specs.Plain.{plain_list}
use Rattle.ve_write.specs.BodyTexts.{notes_place}
use Rattle.ve_write.proofs.bodies.notes_in.Given as goal

abbrev pub invariant-loop-at : goal.invariant-loop-at
invariant-loop-at l = record {
  within : l.at ≤ length l.items;
  rest : (values : List Value) → l.at + notes_place (plain_list values (drop l.at l.items)) ≡ notes_place (plain_list values l.items);
}

abbrev pub decreases-loop-at : goal.decreases-loop-at
decreases-loop-at l = length l.items - l.at
