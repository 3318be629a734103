use Rattle.std.proofs.Common.{take}
use Rattle.ve_tables.specs.Fresh.{AreCellsPut}
use Rattle.ve_tables.proofs.fresh.put_cells.Given as goal

abbrev pub invariant-loop-taken : goal.invariant-loop-taken
invariant-loop-taken l = AreCellsPut l.fn.items (take l.taken-index l.taken) l.items
