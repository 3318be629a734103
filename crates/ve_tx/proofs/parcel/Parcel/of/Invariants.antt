use Rattle.std.proofs.Common.{[]}
use Rattle.ve_tx.specs.Cites.{TxCites}
use Rattle.ve_tx.specs.Copied.{AreCopied}
use Rattle.ve_tx.specs.Operation.{by_value}
use Rattle.ve_tx.specs.Parcel.{transaction_cited}
use Rattle.ve_tx.proofs.AlikeLemmas.{Going}
use Rattle.ve_tx.proofs.parcel.Parcel.of.Given as goal

abbrev pub invariant-loop-tx : goal.invariant-loop-tx
invariant-loop-tx l =
    AreCopied l.store l.copies.places.keys l.copies.values × Going by_value TxCites transaction_cited l.store [] l.copies.values l.entry.txs l.tx-index l.txs
