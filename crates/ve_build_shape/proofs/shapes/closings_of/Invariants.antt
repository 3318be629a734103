use Rattle.std.proofs.Common.{◌≡◌, ◌≤◌, List, length, drop}
use Rattle.std.specs.Prelude.{All}
use Rattle.ve_base.specs.declared.value.Value.{Value}
use Rattle.model_items.specs.Plain.{plain_list, CitesWell}
use Rattle.model_edit.specs.Wrap.{closings_of}
use Rattle.ve_build_shape.proofs.shapes.closings_of.Given as goal

abbrev pub decreases-loop-left : goal.decreases-loop-left
decreases-loop-left l = l.left

abbrev pub invariant-loop-left : goal.invariant-loop-left
invariant-loop-left l = record {
  within : l.left ≤ length l.fn.shapes;
  means : (values : List Value) → plain_list values l.closings ≡ closings_of (drop l.left l.fn.shapes);
  cites : (values : List Value) → All (CitesWell values) l.closings;
}
