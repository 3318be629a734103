use Rattle.std.proofs.Common.{◌≡◌, ◌≤◌, ◌+◌, ◌^◌, ℕ, List, drop}
use Rattle.model_change.specs.Attributes.{AttrChange}
use Rattle.model_change.specs.Join.{some_meet}
use Rattle.ve_tx.specs.Normal.{total_size}
use Rattle.ve_rebase.specs.Places.{places, AllFrom}
use Rattle.ve_rebase.proofs.places.advance.Given as goal

abbrev pub invariant-loop-i : goal.invariant-loop-i
invariant-loop-i l = record {
  small : l.at + total_size (drop l.i l.ops) ≤ 2 ^ 62;
  skipped : (cs : List (ℕ × AttrChange)) → AllFrom l.to cs →
      some_meet cs (places l.fn.from.at (drop l.fn.from.passed l.ops)) ≡ some_meet cs (places l.at (drop l.i l.ops));
}
