use Rattle.std.proofs.Common.{List, sym, ap, subst, ◌∙◌}
use Rattle.std.proofs.lemmas.Result.{err_from_is_err_and}
use Rattle.ve_base.specs.declared.value.Value.{Value}
use Rattle.ve_rebase.specs.Lists.{IsRefusedAs}
use Rattle.ve_rebase.specs.Moved.{IsMovedOver}
use Rattle.ve_rebase.specs.Shifted.{AreRows, AreWritten, StartTogether, joined_rows}
use Rattle.ve_rebase.proofs.MovedLemmas.{moved_starts, one_moved, one_refused}
use Rattle.ve_rebase.proofs.all_under.moved_over.Goals as goal

pub rows-requires-clause-one_length : goal.rows-requires-clause-one_length
rows-requires-clause-one_length c =
    let copied = c.in_ok-put_into.ensures ∙ c.as_slice-2.ensures.value in
    subst (StartTogether c.in_ok-over.over.items) (sym copied)
    (moved_starts c.args.foreign.now c.in_ok-over.over.items c.args.mine.now.items
    (subst (λ l. AreWritten l c.in_ok-over.over.items) c.as_slice.ensures c.in_ok-over.ensures.written) c.in_ok-over.ensures.shifted c.requires.meet)

pub returns-in_err-rows-clause-refused : goal.returns-in_err-rows-clause-refused
returns-in_err-rows-clause-refused c =
    let p = err_from_is_err_and c.from_residual-in_err-rows.result c.from_residual-in_err-rows.ensures.1 in
    let copied = c.in_ok-put_into.ensures ∙ c.as_slice-2.ensures.value in
    let refused = subst (λ l. (values : List (List Value)) (others : List Value) → IsRefusedAs (joined_rows values others c.in_ok-over.over.items l) c.in_err-rows.field-0.0) copied
    c.in_err-rows.ensures.refused in
    rw (p.1, p.2) (one_refused c.args.foreign.now c.in_ok-over.over.items c.args.mine.now.items
    (subst (λ l. AreWritten l c.in_ok-over.over.items) c.as_slice.ensures c.in_ok-over.ensures.written) c.in_ok-over.ensures.shifted c.in_err-rows.field-0.0 refused)

pub returns-clause-moved : goal.returns-clause-moved
returns-clause-moved c =
    let copied = c.in_ok-put_into.ensures ∙ c.as_slice-2.ensures.value in
    subst (λ l. IsMovedOver c.args.foreign.now c.args.mine.now.items l c.in_ok-made.made) (sym (ap (λ v. v.items) c.swap.ensures.x_after))
    (one_moved c.args.foreign.now c.in_ok-over.over.items c.args.mine.now.items
    (subst (λ l. AreWritten l c.in_ok-over.over.items) c.as_slice.ensures c.in_ok-over.ensures.written) c.in_ok-over.ensures.shifted
    c.rows.new.committed.items c.rows.new.mine.items c.in_ok-made.made
    (subst (λ l. AreRows c.in_ok-over.over.items l c.rows.new.committed.items c.rows.new.mine.items) copied c.in_ok-rows.ensures.rows)
    (subst (AreWritten c.in_ok-made.made.entry.txs) c.as_slice-3.ensures.value c.in_ok-made.ensures.written) c.in_ok-made.ensures.outline c.in_ok-made.ensures.cites)
