use Rattle.std.proofs.Common.{[], ◌∷◌, arith, ap, sym, subst, ◌∙◌}
use Rattle.std.proofs.lemmas.Result.{err_from_is_err_and}
use Rattle.model_edit.specs.Translate.{between}
use Rattle.model_site.specs.Site.{with_entry, with_selection}
use Rattle.model_world.specs.declared.edit_command.EditCommand.TheVariants as change
use Rattle.model_world.specs.declared.edit_command.TextMarks.TheVariants.{Left}
use Rattle.model_world.specs.declared.command.Request.TheVariants as request
use Rattle.model_world.specs.Edits.{change_of}
use Rattle.ve_changes.specs.Stops.{edit_stop}
use Rattle.ve_editor.specs.Edited.{drafted, drafted_values}
use Rattle.ve_session.specs.Asked.{IsStopped}
use Rattle.ve_session.proofs.BatchLemmas.{caret_there, still_there}
use Rattle.ve_session.proofs.CaretLemmas.{is_typed}
use Rattle.ve_session.proofs.DraftLemmas.{drafted_at}
use Rattle.ve_session.proofs.TurnLemmas.{edit_was}
use Rattle.ve_session.proofs.TypedLemmas.{barred_typing, edited_there, typed_batch, typing_cost, untyped}
use Rattle.ve_sites.specs.Shared.{site_at, with_site_at}
use Rattle.ve_session.proofs.typing.type_here.Goals as goal

pub returns-in_err-draft-clause-refused : goal.returns-in_err-draft-clause-refused
returns-in_err-draft-clause-refused g c =
    let p = err_from_is_err_and c.from_residual.result c.from_residual.ensures.1 in
    rw (p.1, p.2)
    (untyped c.args.k c.args.session.now c.args.text.now c.args.at c.requires.caret c.requires.at c.in_err-draft.field-0.0 _ c.doc_at.ensures.items c.in_err-draft.ensures.refused)

pub edit-requires-clause-draft : goal.edit-requires-clause-draft
edit-requires-clause-draft g c =
    (drafted_at (λ items. change_of items (change.Text c.args.at c.args.text.now Left)) _ _ _ _ c.in_ok-draft.draft c.doc_at.ensures.store c.doc_at.ensures.items c.in_ok-draft.ensures.ok).draft

pub edit-requires-clause-apart : goal.edit-requires-clause-apart
edit-requires-clause-apart g c =
    let s = site_at c.args.session.now c.args.k in
    let put = change.Text c.args.at c.args.text.now Left in
    let d = drafted_at (λ items. change_of items put) _ _ _ _ c.in_ok-draft.draft c.doc_at.ensures.store c.doc_at.ensures.items c.in_ok-draft.ensures.ok in
    (c.layers_fit.ensures.changes s.replica.items put (drafted s.replica.store c.in_ok-draft.draft) tt c.requires.may.sound d.same).apart

pub returns-in-Err-clause-refused : goal.returns-in-Err-clause-refused
returns-in-Err-clause-refused g c =
    let s = site_at c.args.session.now c.args.k in
    let d = drafted_at (λ items. change_of items (change.Text c.args.at c.args.text.now Left)) _ _ _ _ c.in_ok-draft.draft c.doc_at.ensures.store c.doc_at.ensures.items c.in_ok-draft.ensures.ok in
    subst (λ w. IsStopped (request.TypeText c.args.text.now) c.args.k c.args.session.now w) (sym c.from.ensures)
    (barred_typing c.args.k c.args.session.now c.args.text.now c.args.at c.requires.caret c.requires.at (drafted s.replica.store c.in_ok-draft.draft) c.in-Err.fault d.same c.in-Err.ensures.refused)

pub returns-in-Err-clause-steps : goal.returns-in-Err-clause-steps
returns-in-Err-clause-steps g c = λ h.
    let unstepped = c.in-Err.ensures.unstepped (λ e. h (c.from.ensures ∙ ap edit_stop e)) in omega (arith, unstepped)

pub select-requires-clause-site : goal.select-requires-clause-site
select-requires-clause-site g c =
    let old = c.args.session.now in
    let k = c.args.k in
    let t = drafted (site_at old k).replica.store c.in_ok-draft.draft in
    still_there k (with_entry (t ∷ []) (site_at old k)) old c.edit.new.self (edited_there t k old c.edit.new.self c.in-Ok.ensures.site c.in-Ok.ensures.same) c.requires.site

pub select-requires-clause-stands : goal.select-requires-clause-stands
select-requires-clause-stands g c =
    let old = c.args.session.now in
    let k = c.args.k in
    let t = drafted (site_at old k).replica.store c.in_ok-draft.draft in
    let d = drafted_at (λ items. change_of items (change.Text c.args.at c.args.text.now Left)) _ _ _ _ c.in_ok-draft.draft c.doc_at.ensures.store c.doc_at.ensures.items c.in_ok-draft.ensures.ok in
    let batch = typed_batch k old c.args.text.now c.args.at c.requires.caret c.requires.at t d.same (edit_was t (site_at old k) (site_at c.edit.new.self k) c.in-Ok.ensures.site).0 in
    caret_there k old c.edit.new.self (t ∷ []) c.in_ok-caret.caret c.requires.site (edited_there t k old c.edit.new.self c.in-Ok.ensures.site c.in-Ok.ensures.same)
    (c.in_ok-caret.ensures (drafted_values (site_at old k).replica.store c.in_ok-draft.draft)) (c.requires.may.caret (t ∷ []) batch)

pub len_at-requires : goal.len_at-requires
len_at-requires g c =
    let old = c.args.session.now in
    let k = c.args.k in
    let t = drafted (site_at old k).replica.store c.in_ok-draft.draft in
    let middle = edited_there t k old c.edit.new.self c.in-Ok.ensures.site c.in-Ok.ensures.same in
    record {
      site = still_there k (with_selection (between c.in_ok-caret.caret c.in_ok-caret.caret) (site_at c.edit.new.self k)) c.edit.new.self c.select.new.self c.select.ensures
          (still_there k (with_entry (t ∷ []) (site_at old k)) old c.edit.new.self middle c.requires.site);
    }

pub returns-clause-answer : goal.returns-clause-answer
returns-clause-answer g c =
    let old = c.args.session.now in
    let k = c.args.k in
    let t = drafted (site_at old k).replica.store c.in_ok-draft.draft in
    let d = drafted_at (λ items. change_of items (change.Text c.args.at c.args.text.now Left)) _ _ _ _ c.in_ok-draft.draft c.doc_at.ensures.store c.doc_at.ensures.items c.in_ok-draft.ensures.ok in
    let batch = typed_batch k old c.args.text.now c.args.at c.requires.caret c.requires.at t d.same (edit_was t (site_at old k) (site_at c.edit.new.self k) c.in-Ok.ensures.site).0 in
    let middle = edited_there t k old c.edit.new.self c.in-Ok.ensures.site c.in-Ok.ensures.same in
    let at = c.in_ok-caret.ensures (drafted_values (site_at old k).replica.store c.in_ok-draft.draft) in
    let new = c.select.ensures ∙ ap (λ n. with_site_at k (with_selection (between n n) (site_at c.edit.new.self k)) c.edit.new.self) at in
    is_typed k old c.select.new.self (t ∷ []) c.requires.site c.args.text.now c.edit.new.self c.len_at.result batch middle new c.len_at.ensures

pub returns-clause-steps : goal.returns-clause-steps
returns-clause-steps g c = λ _.
    let old = c.args.session.now in
    let k = c.args.k in
    let s = site_at old k in
    let t = drafted s.replica.store c.in_ok-draft.draft in
    let d = drafted_at (λ items. change_of items (change.Text c.args.at c.args.text.now Left)) _ _ _ _ c.in_ok-draft.draft c.doc_at.ensures.store c.doc_at.ensures.items c.in_ok-draft.ensures.ok in
    typing_cost k old c.args.text.now c.args.at c.requires.caret c.requires.at t c.args.steps.now c.edit.new.steps d.same (edit_was t s (site_at c.edit.new.self k) c.in-Ok.ensures.site).0
    c.edit.ensures.steps
