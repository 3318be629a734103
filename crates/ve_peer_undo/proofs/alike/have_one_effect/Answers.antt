use Rattle.ve_peer_undo.proofs.EffectLemmas.{lent_stand, lent_told}
use Rattle.ve_peer_undo.proofs.alike.have_one_effect.Goals as goal

pub same_transactions-requires-clause-one : goal.same_transactions-requires-clause-one
same_transactions-requires-clause-one c =
    lent_stand c.args.one.now.values c.as_slice.result.now c.args.one.now.entry.txs c.as_slice-2.result.now c.as_slice.ensures c.as_slice-2.ensures c.requires.one

pub same_transactions-requires-clause-other : goal.same_transactions-requires-clause-other
same_transactions-requires-clause-other c =
    lent_stand c.args.other.now.values c.as_slice-3.result.now c.args.other.now.entry.txs c.as_slice-4.result.now c.as_slice-3.ensures c.as_slice-4.ensures c.requires.other

pub returns : goal.returns
returns c =
    lent_told c.args.one.now.values c.as_slice.result.now c.args.other.now.values c.as_slice-3.result.now c.args.one.now.entry.txs c.as_slice-2.result.now
    c.args.other.now.entry.txs c.as_slice-4.result.now c.same_transactions.result c.as_slice.ensures c.as_slice-2.ensures c.as_slice-3.ensures c.as_slice-4.ensures
    c.requires.one c.requires.other c.same_transactions.ensures
