use Rattle.std.proofs.Common.{List, All, map, take}
use Rattle.ve_base.specs.declared.value.Value.{Value}
use Rattle.ve_tx.specs.Cites.{TxCites}
use Rattle.ve_rebase.specs.Shifted.{AreWritten, operations}
use Rattle.ve_rebase.proofs.shifted.written.Given as goal

abbrev pub invariant-loop-one : goal.invariant-loop-one
invariant-loop-one l = record {
  written : AreWritten l.txs (take l.one-index l.all);
  cite : (values : List Value) → All (TxCites values) (map operations (take l.one-index l.all)) → All (TxCites values) l.txs;
}
