use Rattle.std.proofs.Common.{List, subst}
use Rattle.model_change.specs.Transaction.{Transaction}
use Rattle.model_change.specs.Replay.{reversal}
use Rattle.ve_tx.specs.ByValue.{parcel_by_value}
use Rattle.ve_rebase.specs.Lists.{RunFromOneLength}
use Rattle.ve_peer_undo.proofs.CountedLemmas.{all_counted}
use Rattle.ve_peer_undo.proofs.live.takes_first.Goals as goal

pub left_without-requires-clause-run : goal.left_without-requires-clause-run
left_without-requires-clause-run c =
    subst (λ (ts : List Transaction). RunFromOneLength ts (reversal (parcel_by_value c.args.own.now))) (all_counted c.args.numbers.now c.args.parcels.now c.requires.kept.many) c.requires.run
