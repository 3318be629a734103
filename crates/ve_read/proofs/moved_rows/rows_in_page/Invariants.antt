use Rattle.std.proofs.Common.{◌≡◌, ◌-◌, length}
use Rattle.ve_read.proofs.RowLemmas.{moved_first}
use Rattle.ve_read.proofs.moved_rows.rows_in_page.Given as goal

abbrev pub invariant-loop-k : goal.invariant-loop-k
invariant-loop-k l = l.rows.items ≡ moved_first l.from l.k l.fn.table

abbrev pub decreases-loop-k : goal.decreases-loop-k
decreases-loop-k l = length l.rows.items - l.k
