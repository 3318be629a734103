use Rattle.std.proofs.Common.{◌≡◌, ◌+◌, drop}
use Rattle.ve_tx.specs.Spliced.{come_count}
use Rattle.ve_editor.proofs.back.with_come.Given as goal

abbrev pub invariant-loop-splice : goal.invariant-loop-splice
invariant-loop-splice l = l.sum + come_count (drop l.splice-index l.splices) ≡ l.number + come_count l.splices
