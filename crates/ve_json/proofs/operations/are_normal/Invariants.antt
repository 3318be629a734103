use Rattle.std.proofs.Common.{◌≡◌, ◌≤◌, true, drop, length}
use Rattle.model_world.specs.Operations.{words_are_normal}
use Rattle.ve_tx.specs.Noted.{HaveSameNames}
use Rattle.ve_json.specs.Settings.{names_set}
use Rattle.ve_json.proofs.operations.are_normal.Given as goal

abbrev pub invariant-loop-i : goal.invariant-loop-i
invariant-loop-i l = record {
  within : l.i ≤ length l.ops;
  normal : words_are_normal (drop l.i l.ops) ≡ true;
  names : HaveSameNames l.names (names_set (drop l.i l.ops));
}

abbrev pub decreases-loop-i : goal.decreases-loop-i
decreases-loop-i l = l.i
