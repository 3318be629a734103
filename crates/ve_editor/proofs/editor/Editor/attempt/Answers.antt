use Rattle.std.proofs.Common.{◌≤◌, ◌+◌, subst, sym}
use Rattle.std.specs.Prelude.{IfOk}
use Rattle.ve_editor.specs.Page.{LinkedPage, replica_of}
use Rattle.ve_editor.specs.Trials.{IsMade}
use Rattle.ve_editor.proofs.TrialLemmas.{within_blank}
use Rattle.ve_editor.proofs.editor.Editor.attempt.Goals as goal

pub returns-clause-made : goal.returns-clause-made
returns-clause-made g c =
    subst (λ (p : LinkedPage). IfOk c.tried-editor.result.1 (λ made. IsMade (λ ts. g.A.Attempt.makes c.args.attempt.now (replica_of c.args.self.now) ts made.1) c.args.self.now p made.0))
    (sym c.drop.view_is)
    (subst (λ (p : LinkedPage). IfOk c.tried-editor.result.1 (λ made. IsMade (λ ts. g.A.Attempt.makes c.args.attempt.now (replica_of p) ts made.1) p c.tried-editor.result.0 made.0))
    c.replace.ensures.value c.tried-editor.ensures.made)

pub returns-clause-steps : goal.returns-clause-steps
returns-clause-steps g c = λ h.
    within_blank c.args.steps.now c.blank.new.steps c.tried-editor.new.steps (g.A.Attempt.cost c.args.attempt.now (replica_of c.args.self.now)) c.blank.ensures.steps
    (subst (λ (p : LinkedPage). c.tried-editor.new.steps ≤ c.blank.new.steps + g.A.Attempt.cost c.args.attempt.now (replica_of p)) c.replace.ensures.value (c.tried-editor.ensures.steps h))
