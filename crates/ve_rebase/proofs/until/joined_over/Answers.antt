use Rattle.std.proofs.Common.{subst}
use Rattle.std.proofs.lemmas.Result.{err_from_is_err_and}
use Rattle.ve_rebase.specs.Shifted.{AreWritten}
use Rattle.ve_rebase.proofs.UntilLemmas.{entry_starts, entry_joined, entry_refused}
use Rattle.ve_rebase.proofs.until.joined_over.Goals as goal

pub rows-requires-clause-one_length : goal.rows-requires-clause-one_length
rows-requires-clause-one_length c =
    entry_starts c.args.over.now.items c.in_ok-entry.entry.items c.args.mine.now
    (subst (λ l. AreWritten l c.in_ok-entry.entry.items) c.as_slice.ensures c.in_ok-entry.ensures.written) c.in_ok-entry.ensures.shifted c.requires.meet

pub returns-in_err-rows-clause-refused : goal.returns-in_err-rows-clause-refused
returns-in_err-rows-clause-refused c =
    let p = err_from_is_err_and c.from_residual-in_err-rows.result c.from_residual-in_err-rows.ensures.1 in
    rw (p.1, p.2) (entry_refused c.args.over.now.items c.in_ok-entry.entry.items c.args.mine.now c.in_err-rows.field-0.0
    (subst (λ l. AreWritten l c.in_ok-entry.entry.items) c.as_slice.ensures c.in_ok-entry.ensures.written) c.in_err-rows.ensures.refused)

pub returns-clause-joined : goal.returns-clause-joined
returns-clause-joined c =
    entry_joined c.args.over.now.items c.in_ok-entry.entry.items c.rows.new.committed.items c.rows.new.mine.items c.args.mine.now c.in_ok-made.made
    (subst (λ l. AreWritten l c.in_ok-entry.entry.items) c.as_slice.ensures c.in_ok-entry.ensures.written) c.in_ok-entry.ensures.shifted c.in_ok-rows.ensures.rows
    (subst (AreWritten c.in_ok-made.made.entry.txs) c.as_slice-2.ensures.value c.in_ok-made.ensures.written) c.in_ok-made.ensures.outline c.in_ok-made.ensures.cites
