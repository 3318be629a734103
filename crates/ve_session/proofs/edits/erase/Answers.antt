use Rattle.std.proofs.Common.{ap, ◌∙◌}
use Rattle.std.proofs.lemmas.Result.{err_from_is_err_and}
use Rattle.std.specs.Prelude.{Ok}
use Rattle.model_site.specs.Replica.{Replica}
use Rattle.model_world.specs.declared.edit_command.EditCommand.TheVariants as change
use Rattle.model_world.specs.declared.command.Request.TheVariants as request
use Rattle.model_world.specs.Edits.{checked_transaction, change_of}
use Rattle.ve_changes.specs.Stops.{IsRefused}
use Rattle.ve_editor.specs.Edited.{drafted}
use Rattle.ve_session.specs.Asked.{IsAnswered, IsPerformed, IsStopped}
use Rattle.ve_session.proofs.CostLemmas.{cost_of_meant}
use Rattle.ve_session.proofs.DraftLemmas.{drafted_at, erase_cost, erased_at, erases, err_as, ok_as, unerased}
use Rattle.ve_session.proofs.TurnLemmas.{answered_by, barred}
use Rattle.ve_sites.specs.Shared.{site_at}
use Rattle.ve_session.proofs.edits.erase.Goals as goal

pub returns-in_err-draft-clause-refused : goal.returns-in_err-draft-clause-refused
returns-in_err-draft-clause-refused g c =
    let old = c.args.session.now in
    let selected = c.selection-selection.ensures ∙ ap (λ s. s.replica.selection) c.site.ensures in
    let e = erased_at c.args.k old c.args.dir c.args.by _ _ c.in_ok-range.range c.doc_at.ensures.items selected c.in_ok-range.ensures.ok in
    let p = err_from_is_err_and c.from_residual-in_err-draft.result c.from_residual-in_err-draft.ensures.1 in
    rw (p.1, p.2)
    (unerased c.args.k old c.args.dir c.args.by c.in_ok-range.range e c.min.result c.max.result c.min.ensures c.max.ensures c.in_err-draft.field-0.0 _ c.doc_at-2.ensures.items c.in_err-draft.ensures.refused)

pub perform-requires-clause-apart : goal.perform-requires-clause-apart
perform-requires-clause-apart g c =
    let s = site_at c.args.session.now c.args.k in
    let remove = change.Remove c.min.result c.max.result in
    let d = drafted_at (λ items. change_of items remove) _ _ _ _ c.in_ok-draft.draft c.doc_at-2.ensures.store c.doc_at-2.ensures.items c.in_ok-draft.ensures.ok in
    (c.layers_fit.ensures.changes s.replica.items remove (drafted s.replica.store c.in_ok-draft.draft) tt c.requires.may.sound d.same).apart

pub returns-clause-answer : goal.returns-clause-answer
returns-clause-answer g c =
    let old = c.args.session.now in
    let s = site_at old c.args.k in
    let remove = change.Remove c.min.result c.max.result in
    let t = drafted s.replica.store c.in_ok-draft.draft in
    let r = request.Erase c.args.dir c.args.by in
    let selected = c.selection-selection.ensures ∙ ap (λ s. s.replica.selection) c.site.ensures in
    let e = erased_at c.args.k old c.args.dir c.args.by _ _ c.in_ok-range.range c.doc_at.ensures.items selected c.in_ok-range.ensures.ok in
    let d = drafted_at (λ items. change_of items remove) _ _ _ _ c.in_ok-draft.draft c.doc_at-2.ensures.store c.doc_at-2.ensures.items c.in_ok-draft.ensures.ok in
    ok_as (λ a. IsPerformed t c.args.k old a c.perform.new.session) (λ a. IsAnswered r c.args.k old a c.perform.new.session) c.perform.result
    (λ a is. answered_by r c.args.k old (change_of s.replica.items remove)
    (erases c.args.k old c.args.dir c.args.by c.in_ok-range.range e c.min.result c.max.result c.min.ensures c.max.ensures) t a c.perform.new.session d.same is) c.perform.ensures.answer

pub returns-clause-refused : goal.returns-clause-refused
returns-clause-refused g c =
    let old = c.args.session.now in
    let s = site_at old c.args.k in
    let remove = change.Remove c.min.result c.max.result in
    let t = drafted s.replica.store c.in_ok-draft.draft in
    let r = request.Erase c.args.dir c.args.by in
    let selected = c.selection-selection.ensures ∙ ap (λ s. s.replica.selection) c.site.ensures in
    let e = erased_at c.args.k old c.args.dir c.args.by _ _ c.in_ok-range.range c.doc_at.ensures.items selected c.in_ok-range.ensures.ok in
    let d = drafted_at (λ items. change_of items remove) _ _ _ _ c.in_ok-draft.draft c.doc_at-2.ensures.store c.doc_at-2.ensures.items c.in_ok-draft.ensures.ok in
    err_as (λ why. IsRefused why (checked_transaction s.replica (Ok t))) (IsStopped r c.args.k old) c.perform.result
    (λ why is. barred r c.args.k old (change_of s.replica.items remove)
    (erases c.args.k old c.args.dir c.args.by c.in_ok-range.range e c.min.result c.max.result c.min.ensures c.max.ensures) t why d.same is) c.perform.ensures.refused

pub returns-clause-steps : goal.returns-clause-steps
returns-clause-steps g c = λ h.
    let old = c.args.session.now in
    let s = site_at old c.args.k in
    let remove = change.Remove c.min.result c.max.result in
    let selected = c.selection-selection.ensures ∙ ap (λ s. s.replica.selection) c.site.ensures in
    let e = erased_at c.args.k old c.args.dir c.args.by _ _ c.in_ok-range.range c.doc_at.ensures.items selected c.in_ok-range.ensures.ok in
    let d = drafted_at (λ items. change_of items remove) _ _ _ _ c.in_ok-draft.draft c.doc_at-2.ensures.store c.doc_at-2.ensures.items c.in_ok-draft.ensures.ok in
    erase_cost c.args.k old c.args.dir c.args.by c.in_ok-range.range e c.min.result c.max.result c.min.ensures c.max.ensures c.args.steps.now c.perform.new.steps
    (cost_of_meant s.replica (change_of s.replica.items remove) (drafted s.replica.store c.in_ok-draft.draft) c.args.steps.now c.perform.new.steps d.same (c.perform.ensures.steps h))
