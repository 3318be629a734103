use Rattle.std.proofs.Common.{arith, ap, refl, subst, sym, ◌∙◌}
use Rattle.std.proofs.lemmas.List.{drop_all}
use Rattle.model_world.specs.Edits.{batch_on}
use Rattle.ve_changes.specs.Batches.{IsBatchRefused, stop_at}
use Rattle.ve_changes.proofs.BatchLemmas.{all_made, cost_at, cost_stopped_at, first_so_far, performed_at, refused_at, written_at}
use Rattle.ve_editor.specs.Page.{replica_of}
use Rattle.ve_changes.proofs.batch.perform_each.Goals as goal

pub loop-at-init : goal.loop-at-init
loop-at-init g c = (first_so_far c.args.trial.now.page c.args.changes.now c.args.entry.now c.requires.sound c.requires.written c.requires.nothing, omega arith, omega arith, refl)

pub loop-at-preserved : goal.loop-at-preserved
loop-at-preserved g c =
    let r = c.args.trial.now.page in
    let now = c.loop-at.trial.page in
    let changes = c.args.changes.now in
    let x = c.index-changes-at.result in
    let i = c.loop-at.at in
    let s = c.loop-at.invariant in
    let old = c.loop-at.invariant.1 in
    let more = c.in-Ok.ensures.counted in (
      performed_at r now changes x i c.loop-at.entry c.loop-at-test.true c.index-changes-at.is s.0 c.perform_one.new.trial.page c.in-Ok.later c.append.new.self c.in-Ok.ensures.ok c.in_ok-append-in-Ok.ensures.ok,
      omega (arith, old, more),
      cost_at r now changes x i c.loop-at.entry c.loop-at-test.true c.index-changes-at.is s.0 c.perform_one.new.trial.page c.in-Ok.later c.args.steps.now c.loop-at.steps c.perform_one.new.steps c.in-Ok.ensures.ok s.2 (c.in-Ok.ensures.steps tt),
      c.perform_one.ensures.first ∙ s.3,
    )

pub perform_one-requires-clause-sound : goal.perform_one-requires-clause-sound
perform_one-requires-clause-sound g c = c.loop-at.invariant.0.sound

pub perform_one-requires-clause-written : goal.perform_one-requires-clause-written
perform_one-requires-clause-written g c =
    written_at c.args.trial.now.page c.loop-at.trial.page c.args.changes.now c.index-changes-at.result c.loop-at.at c.loop-at.entry c.loop-at-test.true c.index-changes-at.is c.loop-at.invariant.0

pub returns-clause-ok : goal.returns-clause-ok
returns-clause-ok g c =
    all_made c.args.trial.now.page c.loop-at.trial.page c.args.changes.now _ c.loop-at.at c.loop-at.entry c.loop-at.invariant.0 (drop_all c.loop-at.at c.args.changes.now c.loop-at-test.false)

pub returns-clause-steps : goal.returns-clause-steps
returns-clause-steps g c = λ _. let all = c.loop-at.invariant.2 in omega (arith, all)

pub returns-in-Err-clause-refused : goal.returns-in-Err-clause-refused
returns-in-Err-clause-refused g c =
    subst (IsBatchRefused (batch_on (replica_of c.args.trial.now.page) c.args.changes.now)) (sym c.stop_at.ensures)
    (refused_at c.args.trial.now.page c.loop-at.trial.page c.args.changes.now c.index-changes-at.result c.loop-at.at c.loop-at.entry c.loop-at-test.true c.index-changes-at.is c.loop-at.invariant.0 c.in-Err.stop c.in-Err.ensures.refused)

pub returns-in-Err-clause-steps : goal.returns-in-Err-clause-steps
returns-in-Err-clause-steps g c = λ h.
    cost_stopped_at c.args.trial.now.page c.loop-at.trial.page c.args.changes.now c.index-changes-at.result c.loop-at.at c.loop-at.entry c.loop-at-test.true c.index-changes-at.is c.loop-at.invariant.0 c.args.steps.now c.loop-at.steps c.perform_one.new.steps c.loop-at.invariant.2
    (c.in-Err.ensures.steps (λ e. h (c.stop_at.ensures ∙ ap (stop_at c.loop-at.at) e)))

pub returns-in_err-append-in-Ok-clause-steps : goal.returns-in_err-append-in-Ok-clause-steps
returns-in_err-append-in-Ok-clause-steps g c = λ _.
    cost_stopped_at c.args.trial.now.page c.loop-at.trial.page c.args.changes.now c.index-changes-at.result c.loop-at.at c.loop-at.entry c.loop-at-test.true c.index-changes-at.is c.loop-at.invariant.0 c.args.steps.now c.loop-at.steps c.perform_one.new.steps c.loop-at.invariant.2 (c.in-Ok.ensures.steps tt)
