use Rattle.std.proofs.Common.{◌≡◌, ◌++◌, map, drop}
use Rattle.ve_tables.specs.Rows.{row_of, rows_at}
use Rattle.ve_tables.proofs.rows.push_rows.Given as goal

abbrev pub invariant-loop-i : goal.invariant-loop-i
invariant-loop-i l = map row_of l.rows ++ rows_at (drop l.i l.places) ≡ map row_of l.fn.rows ++ rows_at l.places
