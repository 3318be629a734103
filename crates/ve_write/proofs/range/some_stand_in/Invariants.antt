use Rattle.std.proofs.Common.{◌≡◌, false, take}
use Rattle.std.specs.List.{list_any}
use Rattle.ve_write.specs.Range.{stands_in}
use Rattle.ve_write.proofs.range.some_stand_in.Given as goal

abbrev pub invariant-loop-row : goal.invariant-loop-row
invariant-loop-row l = list_any (λ row. stands_in l.from l.to row.at) (take l.row-index l.rows) ≡ false
