use Rattle.std.proofs.Common.{◌≤◌, ◌+◌, List, sym, subst, ◌∙◌}
use Rattle.std.proofs.lemmas.Result.{err_from_is_err_and}
use Rattle.std.specs.Prelude.{Ok}
use Rattle.model_items.specs.declared.plain_item.PlainItem.{PlainItem}
use Rattle.model_world.specs.Edits.{checked_transaction}
use Rattle.ve_changes.specs.Moves.{moved_by}
use Rattle.ve_changes.specs.Stops.{IsRefused}
use Rattle.ve_editor.specs.Edited.{drafted}
use Rattle.ve_session.specs.Asked.{asker, IsAnswered, IsPerformed, IsStopped}
use Rattle.ve_session.proofs.CostLemmas.{cost_of_meant}
use Rattle.ve_session.proofs.DraftLemmas.{drafted_at, err_as, move_costs, move_fits, move_same, ok_as}
use Rattle.ve_session.proofs.TurnLemmas.{answered_by, barred, unmeant}
use Rattle.ve_sites.specs.Shared.{member_at, site_at}
use Rattle.ve_session.proofs.edits.move_part.Goals as goal

pub returns-in_err-draft-clause-refused : goal.returns-in_err-draft-clause-refused
returns-in_err-draft-clause-refused g c =
    let old = c.args.session.now in
    let s = site_at old c.args.k in
    let r = c.args.request.now in
    let p = err_from_is_err_and c.from_residual.result c.from_residual.ensures.1 in
    rw (p.1, p.2)
    (unmeant r c.args.k old (moved_by s.replica.items r) (λ page. move_same (asker page old c.args.k) r c.requires.moves ∙ c.moves_are_asked.ensures (asker page old c.args.k) r c.requires.moves) c.in_err-draft.field-0.0
    (subst (λ (l : List PlainItem). IsRefused c.in_err-draft.field-0.0 (moved_by l r)) c.doc_at.ensures.items c.in_err-draft.ensures.refused))

pub perform-requires-clause-apart : goal.perform-requires-clause-apart
perform-requires-clause-apart g c =
    let s = site_at c.args.session.now c.args.k in
    let d = drafted_at (λ items. moved_by items c.args.request.now) _ _ _ _ c.in_ok-draft.draft c.doc_at.ensures.store c.doc_at.ensures.items c.in_ok-draft.ensures.ok in
    (move_fits c.layers_fit.ensures.moves s.replica.items c.args.request.now (drafted s.replica.store c.in_ok-draft.draft) c.requires.moves c.requires.may.sound d.same).apart

pub returns-clause-answer : goal.returns-clause-answer
returns-clause-answer g c =
    let old = c.args.session.now in
    let s = site_at old c.args.k in
    let t = drafted s.replica.store c.in_ok-draft.draft in
    let r = c.args.request.now in
    let d = drafted_at (λ items. moved_by items c.args.request.now) _ _ _ _ c.in_ok-draft.draft c.doc_at.ensures.store c.doc_at.ensures.items c.in_ok-draft.ensures.ok in
    ok_as (λ a. IsPerformed t c.args.k old a c.perform.new.session) (λ a. IsAnswered r c.args.k old a c.perform.new.session) c.perform.result
    (λ a is. answered_by r c.args.k old (moved_by s.replica.items c.args.request.now) (λ page. move_same (asker page old c.args.k) r c.requires.moves ∙ c.moves_are_asked.ensures (asker page old c.args.k) r c.requires.moves) t a c.perform.new.session d.same is) c.perform.ensures.answer

pub returns-clause-refused : goal.returns-clause-refused
returns-clause-refused g c =
    let old = c.args.session.now in
    let s = site_at old c.args.k in
    let t = drafted s.replica.store c.in_ok-draft.draft in
    let r = c.args.request.now in
    let d = drafted_at (λ items. moved_by items c.args.request.now) _ _ _ _ c.in_ok-draft.draft c.doc_at.ensures.store c.doc_at.ensures.items c.in_ok-draft.ensures.ok in
    err_as (λ why. IsRefused why (checked_transaction s.replica (Ok t))) (IsStopped r c.args.k old) c.perform.result
    (λ why is. barred r c.args.k old (moved_by s.replica.items c.args.request.now) (λ page. move_same (asker page old c.args.k) r c.requires.moves ∙ c.moves_are_asked.ensures (asker page old c.args.k) r c.requires.moves) t why d.same is) c.perform.ensures.refused

pub returns-clause-steps : goal.returns-clause-steps
returns-clause-steps g c = λ h.
    let old = c.args.session.now in
    let r = (site_at old c.args.k).replica in
    let d = drafted_at (λ items. moved_by items c.args.request.now) _ _ _ _ c.in_ok-draft.draft c.doc_at.ensures.store c.doc_at.ensures.items c.in_ok-draft.ensures.ok in
    subst (λ n. c.perform.new.steps ≤ c.args.steps.now + n) (sym (move_costs c.args.request.now old.session (member_at old c.args.k) c.requires.moves))
    (cost_of_meant r (moved_by r.items c.args.request.now) (drafted r.store c.in_ok-draft.draft) c.args.steps.now c.perform.new.steps d.same (c.perform.ensures.steps h))
