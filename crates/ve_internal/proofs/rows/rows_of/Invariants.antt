use Rattle.std.proofs.Common.{take}
use Rattle.ve_internal.specs.Noted.{AreRows}
use Rattle.ve_internal.proofs.rows.rows_of.Given as goal

abbrev pub invariant-loop-cited : goal.invariant-loop-cited
invariant-loop-cited l = AreRows l.notes (take l.cited-index l.notes.refs.items) l.rows
