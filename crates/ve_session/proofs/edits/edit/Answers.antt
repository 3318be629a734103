use Rattle.std.specs.Prelude.{Ok, IsOk}
use Rattle.model_world.specs.declared.command.Request.TheVariants as request
use Rattle.model_world.specs.Edits.{checked_transaction, change_of}
use Rattle.ve_changes.specs.Drafts.{MayWantDraft}
use Rattle.ve_changes.specs.Stops.{IsRefused}
use Rattle.ve_changes.specs.declared.faults.ChangeStop.TheVariants as stop
use Rattle.ve_editor.specs.Edited.{drafted}
use Rattle.ve_session.specs.Asked.{IsAnswered, IsPerformed, IsStopped}
use Rattle.ve_session.proofs.CostLemmas.{cost_of_meant}
use Rattle.ve_session.proofs.DraftLemmas.{drafted_at, err_as, ok_as}
use Rattle.ve_session.proofs.StopLemmas.{may_want}
use Rattle.ve_session.proofs.TurnLemmas.{answered_by, barred}
use Rattle.ve_session.proofs.WantLemmas.{made_wants}
use Rattle.ve_sites.specs.Shared.{site_at}
use Rattle.std.proofs.Common.{◌≡◌, refl, rules, sym, subst}
use Rattle.ve_session.proofs.edits.edit.Goals as goal

pub perform-requires-clause-apart : goal.perform-requires-clause-apart
perform-requires-clause-apart g c =
    let s = site_at c.args.session.now c.args.k in
    let d = drafted_at (λ items. change_of items c.args.change.now) _ _ _ _ c.in_ok-draft.draft c.doc_at.ensures.store c.doc_at.ensures.items c.in_ok-draft.ensures.ok in
    (c.layers_fit.ensures.changes s.replica.items c.args.change.now (drafted s.replica.store c.in_ok-draft.draft) c.requires.may.written c.requires.may.sound d.same).apart

pub returns-clause-answer : goal.returns-clause-answer
returns-clause-answer g c =
    let old = c.args.session.now in
    let s = site_at old c.args.k in
    let t = drafted s.replica.store c.in_ok-draft.draft in
    let r = request.Edit c.args.change.now in
    let d = drafted_at (λ items. change_of items c.args.change.now) _ _ _ _ c.in_ok-draft.draft c.doc_at.ensures.store c.doc_at.ensures.items c.in_ok-draft.ensures.ok in
    ok_as (λ a. IsPerformed t c.args.k old a c.perform.new.session) (λ a. IsAnswered r c.args.k old a c.perform.new.session) c.perform.result
    (λ a is. answered_by r c.args.k old (change_of s.replica.items c.args.change.now) (λ page. refl) t a c.perform.new.session d.same is) c.perform.ensures.answer

pub returns-clause-refused : goal.returns-clause-refused
returns-clause-refused g c =
    let old = c.args.session.now in
    let s = site_at old c.args.k in
    let t = drafted s.replica.store c.in_ok-draft.draft in
    let r = request.Edit c.args.change.now in
    let d = drafted_at (λ items. change_of items c.args.change.now) _ _ _ _ c.in_ok-draft.draft c.doc_at.ensures.store c.doc_at.ensures.items c.in_ok-draft.ensures.ok in
    err_as (λ why. IsRefused why (checked_transaction s.replica (Ok t))) (IsStopped r c.args.k old) c.perform.result
    (λ why is. barred r c.args.k old (change_of s.replica.items c.args.change.now) (λ page. refl) t why d.same is) c.perform.ensures.refused

pub returns-clause-steps : goal.returns-clause-steps
returns-clause-steps g c = λ h.
    let r = (site_at c.args.session.now c.args.k).replica in
    let d = drafted_at (λ items. change_of items c.args.change.now) _ _ _ _ c.in_ok-draft.draft c.doc_at.ensures.store c.doc_at.ensures.items c.in_ok-draft.ensures.ok in
    cost_of_meant r (change_of r.items c.args.change.now) (drafted r.store c.in_ok-draft.draft) c.args.steps.now c.perform.new.steps d.same (c.perform.ensures.steps h)

pub returns-in_err-draft-clause-memory : goal.returns-in_err-draft-clause-memory
returns-in_err-draft-clause-memory g c =
    let wants : (c.in_err-draft.field-0.0 ≡ stop.Memory → MayWantDraft (site_at c.args.session.now c.args.k).replica.items c.args.change.now) =
    λ e. subst (λ items. MayWantDraft items c.args.change.now) c.doc_at.ensures.items (c.in_err-draft.ensures.memory e) in
    search rules

pub returns-clause-memory : goal.returns-clause-memory
returns-clause-memory g c =
    let s = site_at c.args.session.now c.args.k in
    let d = drafted_at (λ items. change_of items c.args.change.now) _ _ _ _ c.in_ok-draft.draft c.doc_at.ensures.store c.doc_at.ensures.items c.in_ok-draft.ensures.ok in
    may_want c.perform.result _ (made_wants s.replica.items c.args.change.now (subst IsOk (sym d.same) refl))
