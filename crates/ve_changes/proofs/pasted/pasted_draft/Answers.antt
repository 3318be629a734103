use Rattle.std.proofs.Common.{sym, ap, ◌∙◌, subst}
use Rattle.std.specs.Prelude.{All}
use Rattle.std.proofs.lemmas.Result.{err_from_is_err_and}
use Rattle.model_items.specs.Plain.{plain_list, CitesWell}
use Rattle.ve_edits.proofs.StackLemmas.{stack_is}
use Rattle.ve_store.specs.Following.{Following, together}
use Rattle.ve_changes.proofs.PastedLemmas.{none_of, pasted_badly, pasted_draft, insertion_refused, refused_there, read_there}
use Rattle.ve_changes.proofs.pasted.pasted_draft.Goals as goal

pub returns-in_default-clause-drafts : goal.returns-in_default-clause-drafts
returns-in_default-clause-drafts c =
    let S = c.args.doc.store.now in
    pasted_badly (plain_list S c.args.doc.list.now.items) c.args.at c.args.html.now (c.open_at.ensures.none (none_of c.open_at.result c.in_default.not-Some) S)

pub returns-in_err-pieces-clause-drafts : goal.returns-in_err-pieces-clause-drafts
returns-in_err-pieces-clause-drafts c =
    let p = err_from_is_err_and c.from_residual.result c.from_residual.ensures.1 in
    let S = c.args.doc.store.now in
    let items = c.args.doc.list.now.items in
    let here = c.in-Some.ensures.some in
    let stack = stack_is S items c.args.at c.in-Some.state here.leads in
    rw (p.1, p.2)
    (refused_there S (plain_list S items) c.args.at c.args.html.now c.as_str.result.now c.in-Some.state.stack c.as_str.ensures.bytes stack (here.good S)
    c.in_err-pieces.field-0.0 c.in_err-pieces.ensures.refused)

pub insertion-requires-clause-follows : goal.insertion-requires-clause-follows
insertion-requires-clause-follows c = c.in_ok-pieces.ensures.grows.0 ∙ ap (λ (f : Following). f.after) c.new-values.ensures

pub insertion-requires-clause-pieces : goal.insertion-requires-clause-pieces
insertion-requires-clause-pieces c = subst (All (CitesWell (together c.args.doc.store.now c.fragment.new.new))) (sym c.as_slice.ensures) c.in_ok-pieces.ensures.cites

pub returns-in_err-tx-clause-drafts : goal.returns-in_err-tx-clause-drafts
returns-in_err-tx-clause-drafts c =
    let p = err_from_is_err_and c.from_residual-in_err-tx.result c.from_residual-in_err-tx.ensures.1 in
    let S = c.args.doc.store.now in
    let items = c.args.doc.list.now.items in
    let here = c.in-Some.ensures.some in
    let mid = c.fragment.new.new in
    let got = c.in_ok-pieces.ensures in
    let read =
    read_there S (plain_list S items) c.args.at c.args.html.now c.as_str.result.now c.in-Some.state.stack c.as_str.ensures.bytes (stack_is S items c.args.at c.in-Some.state here.leads) (here.good S)
    c.new-values.result mid c.as_slice.result.now c.new-values.ensures got.spelled got.within (ap (plain_list (together S mid)) c.as_slice.ensures ∙ got.items) got.values in
    rw (p.1, p.2) (insertion_refused S (plain_list S items) c.args.at c.args.html.now mid c.as_slice.result.now c.in_err-tx.field-0.0 read c.in_err-tx.ensures.refused)

pub returns-in_err-pieces-clause-memory : goal.returns-in_err-pieces-clause-memory
returns-in_err-pieces-clause-memory c =
    let p = err_from_is_err_and c.from_residual.result c.from_residual.ensures.1 in
    rw (p.1, p.2) (λ _. c.in-Some.ensures.some.good c.args.doc.store.now)

pub returns-in_err-tx-clause-memory : goal.returns-in_err-tx-clause-memory
returns-in_err-tx-clause-memory c =
    let p = err_from_is_err_and c.from_residual-in_err-tx.result c.from_residual-in_err-tx.ensures.1 in
    rw (p.1, p.2) (λ _. c.in-Some.ensures.some.good c.args.doc.store.now)

pub returns-clause-drafts : goal.returns-clause-drafts
returns-clause-drafts c =
    let S = c.args.doc.store.now in
    let items = c.args.doc.list.now.items in
    let here = c.in-Some.ensures.some in
    let mid = c.fragment.new.new in
    let got = c.in_ok-pieces.ensures in
    let made = c.in_ok-tx.ensures in
    let read =
    read_there S (plain_list S items) c.args.at c.args.html.now c.as_str.result.now c.in-Some.state.stack c.as_str.ensures.bytes (stack_is S items c.args.at c.in-Some.state here.leads) (here.good S)
    c.new-values.result mid c.as_slice.result.now c.new-values.ensures got.spelled got.within (ap (plain_list (together S mid)) c.as_slice.ensures ∙ got.items) got.values in
    pasted_draft S (plain_list S items) c.args.at c.args.html.now mid c.insertion.new.new c.as_slice.result.now c.in_ok-tx.tx read made.means made.cites
    (made.grows.0 ∙ got.grows.0 ∙ ap (λ (f : Following). f.after) c.new-values.ensures) made.values
