use Rattle.std.proofs.Common.{◌≡◌, take}
use Rattle.ve_items.specs.Blocks.{joined}
use Rattle.ve_items.proofs.linear.Linear.copy.Given as goal

abbrev pub invariant-loop-k : goal.invariant-loop-k
invariant-loop-k l = record {
  items : l.copy.items ≡ joined (take l.k l.self-inside.table.blocks);
  spare : l.copy.spare ≡ 0;
}
