use Rattle.std.proofs.Common.{arith, ap, ◌∙◌, subst, sym}
use Rattle.std.proofs.lemmas.Result.{err_from_is_err_and}
use Rattle.model_items.specs.Plain.{plain_list}
use Rattle.model_site.specs.Refused.{edit_cause}
use Rattle.model_world.specs.Edits.{change_on}
use Rattle.ve_changes.specs.Stops.{IsRefused, edit_stop}
use Rattle.ve_changes.proofs.StopLemmas.{edit_stops}
use Rattle.ve_editor.specs.Edited.{drafted}
use Rattle.ve_editor.specs.Page.{IsPage}
use Rattle.ve_offsets.specs.Docs.{page_items}
use Rattle.ve_changes.proofs.BatchLemmas.{allowed_is, cost_of_one, drafted_on, may_run, not_allowed, undrafted}
use Rattle.ve_editor.specs.Page.{replica_of}
use Rattle.ve_changes.proofs.batch.perform_one.Goals as goal

pub change_draft-requires-clause-page : goal.change_draft-requires-clause-page
change_draft-requires-clause-page g c =
    subst (λ s. IsPage s c.doc.result.list.now.items c.doc.result.tree.now) (sym c.doc.ensures.store) c.doc.ensures.page

pub returns-in_err-draft-clause-refused : goal.returns-in_err-draft-clause-refused
returns-in_err-draft-clause-refused g c =
    let p = err_from_is_err_and c.from_residual.result c.from_residual.ensures.1 in
    let items = ap (λ s. plain_list s c.doc.result.list.now.items) c.doc.ensures.store ∙ c.doc.ensures.items in
    rw (p.1, p.2) (undrafted (replica_of c.args.trial.now.page) (page_items c.doc.result) c.args.change.now c.in_err-draft.field-0.0 items c.in_err-draft.ensures.refused)

pub perform-requires : goal.perform-requires
perform-requires g c =
    let items = ap (λ s. plain_list s c.doc.result.list.now.items) c.doc.ensures.store ∙ c.doc.ensures.items in
    record { draft = (drafted_on (replica_of c.args.trial.now.page) c.doc.result.store.now (page_items c.doc.result) c.args.change.now c.in_ok-draft.draft c.doc.ensures.store items c.in_ok-draft.ensures.ok).draft }

pub returns-in-Ok-clause-ok : goal.returns-in-Ok-clause-ok
returns-in-Ok-clause-ok g c =
    let r = replica_of c.args.trial.now.page in
    let items = ap (λ s. plain_list s c.doc.result.list.now.items) c.doc.ensures.store ∙ c.doc.ensures.items in
    let d = drafted_on r c.doc.result.store.now (page_items c.doc.result) c.args.change.now c.in_ok-draft.draft c.doc.ensures.store items c.in_ok-draft.ensures.ok in
    let t = drafted r.store c.in_ok-draft.draft in
    record {
      t = t;
      same = allowed_is r c.args.change.now t d.same c.in-Ok.ensures.allowed;
      may = may_run c.layers_fit.ensures.changes c.events_keep.ensures.edits r c.args.change.now t c.requires.written c.requires.sound d.same c.in-Ok.ensures.allowed;
      page = c.in-Ok.ensures.page;
      entry = c.in-Ok.ensures.entry;
      cites = c.in-Ok.ensures.cites;
      numbers = c.in-Ok.ensures.numbers;
      tree = c.in-Ok.ensures.tree;
    }

pub returns-in-Ok-clause-steps : goal.returns-in-Ok-clause-steps
returns-in-Ok-clause-steps g c = λ _.
    let r = replica_of c.args.trial.now.page in
    let items = ap (λ s. plain_list s c.doc.result.list.now.items) c.doc.ensures.store ∙ c.doc.ensures.items in
    let d = drafted_on r c.doc.result.store.now (page_items c.doc.result) c.args.change.now c.in_ok-draft.draft c.doc.ensures.store items c.in_ok-draft.ensures.ok in
    let t = drafted r.store c.in_ok-draft.draft in
    cost_of_one r c.args.change.now t c.args.steps.now c.perform.new.steps (allowed_is r c.args.change.now t d.same c.in-Ok.ensures.allowed) c.perform.ensures.steps

pub returns-clause-refused : goal.returns-clause-refused
returns-clause-refused g c =
    let r = replica_of c.args.trial.now.page in
    let items = ap (λ s. plain_list s c.doc.result.list.now.items) c.doc.ensures.store ∙ c.doc.ensures.items in
    let d = drafted_on r c.doc.result.store.now (page_items c.doc.result) c.args.change.now c.in_ok-draft.draft c.doc.ensures.store items c.in_ok-draft.ensures.ok in
    let t = drafted r.store c.in_ok-draft.draft in
    subst (λ w. IsRefused w (change_on r c.args.change.now)) (sym c.from.ensures)
    (not_allowed r c.args.change.now t _ d.same (edit_stops c.in-Err.fault (edit_cause t r) t c.in-Err.ensures.refused))

pub returns-clause-steps : goal.returns-clause-steps
returns-clause-steps g c = λ h.
    let unstepped = c.in-Err.ensures.unstepped (λ e. h (c.from.ensures ∙ ap edit_stop e)) in omega (arith, unstepped)
