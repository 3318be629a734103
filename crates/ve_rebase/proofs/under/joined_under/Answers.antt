use Rattle.std.proofs.Common.{List, [], All, map, sym, subst, ◌∙◌}
use Rattle.std.proofs.lemmas.Result.{err_from_is_err_and}
use Rattle.ve_base.specs.declared.value.Value.{Value}
use Rattle.ve_tx.specs.Cites.{TxCites}
use Rattle.ve_rebase.specs.Lists.{IsRefusedAs}
use Rattle.ve_rebase.specs.Shifted.{AreRows, AreWritten, StartTogether, joined_rows, operations}
use Rattle.ve_rebase.specs.Under.{over_values}
use Rattle.ve_rebase.proofs.UnderLemmas.{under_joined}
use Rattle.ve_rebase.proofs.UntilLemmas.{entry_starts, entry_refused}
use Rattle.ve_rebase.proofs.under.joined_under.Goals as goal

pub rows-requires-clause-one_length : goal.rows-requires-clause-one_length
rows-requires-clause-one_length c =
    let moved = c.in_ok-moved.ensures ∙ c.as_slice.ensures.value in
    subst (λ l. StartTogether l c.in_ok-entry.entry.items) (sym moved)
    (entry_starts c.args.over.now.items c.in_ok-entry.entry.items (over_values [] c.args.mine.now)
    (subst (λ l. AreWritten l c.in_ok-entry.entry.items) c.as_slice-2.ensures c.in_ok-entry.ensures.written) c.in_ok-entry.ensures.shifted (c.requires.meet []))

pub returns-in_err-rows-clause-refused : goal.returns-in_err-rows-clause-refused
returns-in_err-rows-clause-refused c =
    let p = err_from_is_err_and c.from_residual-in_err-rows.result c.from_residual-in_err-rows.ensures.1 in
    let moved = c.in_ok-moved.ensures ∙ c.as_slice.ensures.value in
    let refused = subst (λ l. (values : List (List Value)) (others : List Value) → IsRefusedAs (joined_rows values others l c.in_ok-entry.entry.items) c.in_err-rows.field-0.0) moved
    c.in_err-rows.ensures.refused in
    rw (p.1, p.2) (λ values others. entry_refused c.args.over.now.items c.in_ok-entry.entry.items (over_values others c.args.mine.now) c.in_err-rows.field-0.0
    (subst (λ l. AreWritten l c.in_ok-entry.entry.items) c.as_slice-2.ensures c.in_ok-entry.ensures.written) refused values)

pub returns-clause-joined : goal.returns-clause-joined
returns-clause-joined c =
    let moved = c.in_ok-moved.ensures ∙ c.as_slice.ensures.value in
    under_joined c.args.over.now.items c.in_ok-entry.entry.items c.rows.new.committed.items c.rows.new.mine.items c.args.mine.now c.in_ok-txs.txs
    (subst (λ l. AreWritten l c.in_ok-entry.entry.items) c.as_slice-2.ensures c.in_ok-entry.ensures.written) c.in_ok-entry.ensures.shifted (c.in_ok-entry.ensures.kept ∙ c.as_slice-2.ensures)
    (subst (λ l. AreRows l c.in_ok-entry.entry.items c.rows.new.committed.items c.rows.new.mine.items) moved c.in_ok-rows.ensures.rows)
    (subst (AreWritten c.in_ok-txs.txs) c.as_slice-3.ensures.value c.in_ok-txs.ensures.written)
    (λ values h. c.in_ok-txs.ensures.cite values (subst (λ l. All (TxCites values) (map operations l)) (sym c.as_slice-3.ensures.value) h))
