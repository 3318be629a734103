use Rattle.std.proofs.Common.{[], ◌++◌, subst}
use Rattle.ve_rebase.specs.Moved.{AreWrittenInto}
use Rattle.ve_rebase.proofs.MovedLemmas.{all_meet, all_made}
use Rattle.ve_rebase.proofs.all_under.entries_under_all.Goals as goal

pub moved_over_all-requires-clause-shifted : goal.moved_over_all-requires-clause-shifted
moved_over_all-requires-clause-shifted c = c.in_ok-all.ensures.shifted

pub moved_over_all-requires-clause-meet : goal.moved_over_all-requires-clause-meet
moved_over_all-requires-clause-meet c = all_meet c.args.foreign.now (c.args.sent.now ++ c.args.unsent.now) c.in_ok-all.all.items c.in_ok-all.ensures (c.requires [])

pub returns : goal.returns
returns c =
    let both = c.args.sent.now ++ c.args.unsent.now in
    all_made c.args.foreign.now both c.in_ok-all.all.items c.moved_over_all.new.mine.items c.in_ok-committed.committed c.in_ok-kept.kept c.in_ok-all.ensures c.in_ok-committed.ensures
    (subst (λ l. AreWrittenInto both l c.in_ok-kept.kept) c.as_slice.ensures.value c.in_ok-kept.ensures)
