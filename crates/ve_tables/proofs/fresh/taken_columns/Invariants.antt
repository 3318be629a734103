use Rattle.ve_tables.proofs.FreshLemmas.{AreTakenTo}
use Rattle.ve_tables.proofs.fresh.taken_columns.Given as goal

abbrev pub invariant-loop-cell : goal.invariant-loop-cell
invariant-loop-cell l = AreTakenTo l.row l.grid l.cell-index l.taken.items
