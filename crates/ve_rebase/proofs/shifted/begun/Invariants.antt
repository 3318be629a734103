use Rattle.std.proofs.Common.{◌≡◌, All, map, take}
use Rattle.ve_rebase.specs.Shifted.{IsShifted, AreWritten, operations}
use Rattle.ve_rebase.proofs.shifted.begun.Given as goal

abbrev pub invariant-loop-tx : goal.invariant-loop-tx
invariant-loop-tx l = record {
  shifted : All IsShifted l.all.items;
  written : AreWritten (take l.tx-index l.txs) l.all.items;
  kept : map operations l.all.items ≡ take l.tx-index l.txs;
}
