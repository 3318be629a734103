use Rattle.std.proofs.Common.{map, ap, subst, ◌∙◌}
use Rattle.std.proofs.lemmas.Result.{err_from_is_err_and}
use Rattle.ve_rebase.specs.Entries.{outline, operations_of}
use Rattle.ve_rebase.specs.Shifted.{AreWritten}
use Rattle.ve_rebase.proofs.EntryLemmas.{entries_start, entries_joined, entries_refused}
use Rattle.ve_rebase.proofs.entries.entry_over_list.Goals as goal

pub rows-requires-clause-one_length : goal.rows-requires-clause-one_length
rows-requires-clause-one_length c =
    entries_start c.args.committed.now c.args.mine.now c.in_ok-over.over.items c.in_ok-mine_over.mine_over.items
    (subst (λ l. AreWritten (operations_of l) c.in_ok-over.over.items) c.as_slice.ensures c.in_ok-over.ensures.written)
    (subst (λ l. AreWritten l c.in_ok-mine_over.mine_over.items) c.as_slice-2.ensures c.in_ok-mine_over.ensures.written)
    c.in_ok-over.ensures.shifted c.in_ok-mine_over.ensures.shifted c.requires

pub returns-in_err-rows-clause-refused : goal.returns-in_err-rows-clause-refused
returns-in_err-rows-clause-refused c =
    let p = err_from_is_err_and c.from_residual-in_err-rows.result c.from_residual-in_err-rows.ensures.1 in
    rw (p.1, p.2) (entries_refused c.args.committed.now c.args.mine.now c.in_ok-over.over.items c.in_ok-mine_over.mine_over.items c.in_err-rows.field-0.0
    (subst (λ l. AreWritten (operations_of l) c.in_ok-over.over.items) c.as_slice.ensures c.in_ok-over.ensures.written)
    (subst (λ l. AreWritten l c.in_ok-mine_over.mine_over.items) c.as_slice-2.ensures c.in_ok-mine_over.ensures.written)
    c.in_err-rows.ensures.refused)

pub returns-clause-joined : goal.returns-clause-joined
returns-clause-joined c =
    entries_joined c.args.committed.now c.in_ok-parcels_with.field-0 c.args.mine.now c.in_ok-parcel_with.field-0 c.in_ok-over.over.items c.in_ok-mine_over.mine_over.items
    c.rows.new.committed.items c.rows.new.mine.items
    (subst (λ l. AreWritten (operations_of l) c.in_ok-over.over.items) c.as_slice.ensures c.in_ok-over.ensures.written)
    (subst (λ l. AreWritten l c.in_ok-mine_over.mine_over.items) c.as_slice-2.ensures c.in_ok-mine_over.ensures.written)
    c.in_ok-rows.ensures.rows
    (subst (AreWritten (operations_of c.in_ok-parcels_with.field-0)) c.as_slice-4.ensures.value c.in_ok-parcels_with.ensures.written)
    (subst (AreWritten c.in_ok-parcel_with.field-0.entry.txs) c.as_slice-5.ensures.value c.in_ok-parcel_with.ensures.written)
    (c.in_ok-parcels_with.ensures.outlines ∙ ap (map outline) c.as_slice-3.ensures) c.in_ok-parcel_with.ensures.outline
