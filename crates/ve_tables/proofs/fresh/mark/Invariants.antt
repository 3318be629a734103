use Rattle.std.proofs.Common.{Bool, true, false}
use Rattle.ve_tables.proofs.MarkLemmas.{AreDoneTo}
use Rattle.ve_tables.proofs.fresh.mark.Given as goal

abbrev pub invariant-loop-column : goal.invariant-loop-column
invariant-loop-column l = AreDoneTo {A = Bool} false (λ old. true) l.cell l.column l.fn.taken.items l.taken.items
