use Rattle.std.proofs.Common.{[], map, ap, subst, ◌∙◌}
use Rattle.std.proofs.lemmas.Result.{err_from_is_err_and}
use Rattle.ve_rebase.specs.Shifted.{AreWritten, operations}
use Rattle.ve_rebase.proofs.WrittenLemmas.{start_together, lists_joined, lists_refused, cite_kept}
use Rattle.ve_rebase.proofs.join_lists.lists.Goals as goal

pub rows-requires-clause-one_length : goal.rows-requires-clause-one_length
rows-requires-clause-one_length c =
    start_together c.args.committed.now c.args.mine.now c.in_ok-over.over.items c.in_ok-mine_over.mine_over.items
    (subst (λ l. AreWritten l c.in_ok-over.over.items) c.as_slice.ensures c.in_ok-over.ensures.written)
    (subst (λ l. AreWritten l c.in_ok-mine_over.mine_over.items) c.as_slice-2.ensures c.in_ok-mine_over.ensures.written)
    c.in_ok-over.ensures.shifted c.in_ok-mine_over.ensures.shifted (c.requires [])

pub returns-in_err-rows-clause-refused : goal.returns-in_err-rows-clause-refused
returns-in_err-rows-clause-refused c =
    let p = err_from_is_err_and c.from_residual-in_err-rows.result c.from_residual-in_err-rows.ensures.1 in
    rw (p.1, p.2) (lists_refused c.args.committed.now c.args.mine.now c.in_ok-over.over.items c.in_ok-mine_over.mine_over.items c.in_err-rows.field-0.0
    (subst (λ l. AreWritten l c.in_ok-over.over.items) c.as_slice.ensures c.in_ok-over.ensures.written)
    (subst (λ l. AreWritten l c.in_ok-mine_over.mine_over.items) c.as_slice-2.ensures c.in_ok-mine_over.ensures.written)
    c.in_err-rows.ensures.refused)

pub returns-clause-joined : goal.returns-clause-joined
returns-clause-joined c =
    lists_joined c.args.committed.now c.args.mine.now c.in_ok-over.over.items c.in_ok-mine_over.mine_over.items c.rows.new.committed.items c.rows.new.mine.items
    c.in_ok-written.field-0 c.in_ok-written-2.field-0
    (subst (λ l. AreWritten l c.in_ok-over.over.items) c.as_slice.ensures c.in_ok-over.ensures.written)
    (subst (λ l. AreWritten l c.in_ok-mine_over.mine_over.items) c.as_slice-2.ensures c.in_ok-mine_over.ensures.written)
    c.in_ok-rows.ensures.rows
    (subst (AreWritten c.in_ok-written.field-0) c.as_slice-3.ensures.value c.in_ok-written.ensures.written)
    (subst (AreWritten c.in_ok-written-2.field-0) c.as_slice-4.ensures.value c.in_ok-written-2.ensures.written)

pub returns-clause-committed_cite : goal.returns-clause-committed_cite
returns-clause-committed_cite c = λ values.
    cite_kept values c.args.committed.now c.in_ok-over.over.items c.as_slice-3.result.now c.in_ok-written.field-0
    (c.in_ok-over.ensures.kept ∙ c.as_slice.ensures) (ap (map operations) c.as_slice-3.ensures.value ∙ c.in_ok-rows.ensures.rows.kept) (c.in_ok-written.ensures.cite values)

pub returns-clause-mine_cite : goal.returns-clause-mine_cite
returns-clause-mine_cite c = λ values.
    cite_kept values c.args.mine.now c.in_ok-mine_over.mine_over.items c.as_slice-4.result.now c.in_ok-written-2.field-0
    (c.in_ok-mine_over.ensures.kept ∙ c.as_slice-2.ensures) (ap (map operations) c.as_slice-4.ensures.value ∙ c.in_ok-rows.ensures.rows.mine_kept) (c.in_ok-written-2.ensures.cite values)
