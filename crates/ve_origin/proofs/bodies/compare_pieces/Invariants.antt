use Rattle.std.proofs.Common.{length, ◌-◌, ◌≤◌, ◌+◌, drop}
use Rattle.ve_origin.specs.declared.bodies.Compared.{Compared}
use Rattle.ve_origin.specs.Bodies.{Compares}
use Rattle.ve_origin.proofs.bodies.compare_pieces.Given as goal

abbrev pub invariant-loop-i : goal.invariant-loop-i
invariant-loop-i l = record {
  within : l.i ≤ length l.one;
  bound : l.open ≤ l.depth + l.i;
  rest : (c : Compared) → Compares l.open (drop l.i l.one) (drop l.i l.other) c → Compares l.initial.depth l.one l.other c;
}

abbrev pub decreases-loop-i : goal.decreases-loop-i
decreases-loop-i l = length l.one - l.i
