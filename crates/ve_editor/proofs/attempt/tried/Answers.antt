use Rattle.std.proofs.Common.{ap, ◌∙◌, subst, sym}
use Rattle.ve_editor.specs.Page.{LinkedPage, replica_of}
use Rattle.ve_editor.specs.Trials.{IsMade, Tried}
use Rattle.ve_editor.proofs.attempt.tried.Goals as goal

pub returns-in-Ok-run-clause-made : goal.returns-in-Ok-run-clause-made
returns-in-Ok-run-clause-made g c =
    subst (λ (p : LinkedPage). IsMade (λ ts. g.A.Attempt.makes c.args.attempt.now (replica_of p) ts c.in-Ok-run.made.1) p c.keep.result c.in-Ok-run.made.0)
    (ap (λ (t : Tried). t.page) c.in-Ok.ensures.ok)
    (subst (λ (p : LinkedPage). IsMade (λ ts. g.A.Attempt.makes c.args.attempt.now (replica_of c.in-Ok.trial.page) ts c.in-Ok-run.made.1) c.in-Ok.trial.page p c.in-Ok-run.made.0)
    (sym c.keep.ensures) c.in-Ok-run.ensures.made)

pub returns-in-Err-run-clause-kept : goal.returns-in-Err-run-clause-kept
returns-in-Err-run-clause-kept g c = c.take_back.ensures ∙ c.in-Err-run.ensures.first ∙ ap (λ (t : Tried). t.first) c.in-Ok.ensures.ok
