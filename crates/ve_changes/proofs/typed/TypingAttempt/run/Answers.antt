use Rattle.std.proofs.Common.{◌≤◌, ◌+◌, ap, ◌∙◌, subst, sym}
use Rattle.std.proofs.lemmas.Result.{err_from_is_err_and}
use Rattle.model_world.specs.Answers.{typing}
use Rattle.model_world.specs.Edits.{batch_on}
use Rattle.model_world_law.specs.Fit.{AllWritten}
use Rattle.ve_editor.specs.Page.{replica_of}
use Rattle.ve_changes.specs.Batches.{IsBatchRefused}
use Rattle.ve_changes.proofs.BatchLemmas.{cost_of_changes}
use Rattle.ve_changes.proofs.TypingLemmas.{typed, typing_is_written}
use Rattle.ve_changes.proofs.typed.TypingAttempt.run.Goals as goal

pub perform_all-requires-clause-written : goal.perform_all-requires-clause-written
perform_all-requires-clause-written g c =
    let same = c.as_slice.ensures ∙ c.in_ok-changes.ensures ∙ ap (λ s. typing s c.args.self.now.text.now) c.selection.ensures in
    subst AllWritten (sym same) (typing_is_written c.args.trial.now.page.selection c.args.self.now.text.now)

pub returns-in_err-entry-clause-stopped : goal.returns-in_err-entry-clause-stopped
returns-in_err-entry-clause-stopped g c =
    let same = c.as_slice.ensures ∙ c.in_ok-changes.ensures ∙ ap (λ s. typing s c.args.self.now.text.now) c.selection.ensures in
    let p = err_from_is_err_and c.from_residual-in_err-entry.result c.from_residual-in_err-entry.ensures.1 in
    rw (p.1, p.2) (subst (λ cs. IsBatchRefused (batch_on (replica_of c.args.trial.now.page) cs) c.in_err-entry.field-0.0) same c.in_err-entry.ensures.refused)

pub returns-in_err-entry-clause-steps : goal.returns-in_err-entry-clause-steps
returns-in_err-entry-clause-steps g c = λ h.
    let same = c.as_slice.ensures ∙ c.in_ok-changes.ensures ∙ ap (λ s. typing s c.args.self.now.text.now) c.selection.ensures in
    let p = err_from_is_err_and c.from_residual-in_err-entry.result c.from_residual-in_err-entry.ensures.1 in
    subst (λ cs. c.perform_all.new.steps ≤ c.args.steps.now + cost_of_changes (replica_of c.args.trial.now.page) cs) same (c.in_err-entry.ensures.steps (rw (p.1, p.2) at h))

pub returns-clause-made : goal.returns-clause-made
returns-clause-made g c =
    let same = c.as_slice.ensures ∙ c.in_ok-changes.ensures ∙ ap (λ s. typing s c.args.self.now.text.now) c.selection.ensures in
    typed c.args.trial.now.page c.perform_all.new.trial.page c.args.self.now.text.now c.as_slice.result.now c.in_ok-entry.entry c.in_ok-caret.caret same c.in_ok-entry.ensures.ok c.in_ok-caret.ensures

pub returns-clause-steps : goal.returns-clause-steps
returns-clause-steps g c = λ _.
    let same = c.as_slice.ensures ∙ c.in_ok-changes.ensures ∙ ap (λ s. typing s c.args.self.now.text.now) c.selection.ensures in
    subst (λ cs. c.perform_all.new.steps ≤ c.args.steps.now + cost_of_changes (replica_of c.args.trial.now.page) cs) same (c.in_ok-entry.ensures.steps tt)

pub returns-in_err-caret-clause-steps : goal.returns-in_err-caret-clause-steps
returns-in_err-caret-clause-steps g c = λ _.
    let same = c.as_slice.ensures ∙ c.in_ok-changes.ensures ∙ ap (λ s. typing s c.args.self.now.text.now) c.selection.ensures in
    subst (λ cs. c.perform_all.new.steps ≤ c.args.steps.now + cost_of_changes (replica_of c.args.trial.now.page) cs) same (c.in_ok-entry.ensures.steps tt)
