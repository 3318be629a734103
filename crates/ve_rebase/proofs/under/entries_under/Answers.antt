use Rattle.std.proofs.Common.{◌++◌, subst}
use Rattle.ve_rebase.specs.Shifted.{AreWritten}
use Rattle.ve_rebase.proofs.UnderLemmas.{under_made}
use Rattle.ve_rebase.proofs.under.entries_under.Goals as goal

pub returns : goal.returns
returns c =
    under_made c.args.foreign.now c.in_ok-committed.committed (c.args.sent.now ++ c.args.unsent.now) c.in_ok-over.over.items c.in_ok-over.kept c.in_ok-over.ensures
    (subst (AreWritten c.in_ok-committed.committed.entry.txs) c.as_slice.ensures.value c.in_ok-committed.ensures.written) c.in_ok-committed.ensures.outline c.in_ok-committed.ensures.cites
