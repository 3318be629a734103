use Rattle.std.proofs.Common.{◌++◌, ◌∙◌, ap, subst}
use Rattle.ve_gen.specs.Generated.{script_lines}
use Rattle.ve_run.specs.Soak.{soak_text}
use Rattle.ve_run.specs.Run.{AppendsPrefix}
use Rattle.ve_run.proofs.Soaks.{on_err}
use Rattle.ve_run.proofs.soak.soak.Goals as goal

pub returns-in_err-write_all-clause-err : goal.returns-in_err-write_all-clause-err
returns-in_err-write_all-clause-err g c =
    let bytes = c.as_slice.ensures ∙ c.in_ok-sum_up.ensures.text ∙ ap (λ x. x ++ soak_text g.M.Machine.meaning c.args.world.now (script_lines c.args.start c.args.edits)) c.new-text.ensures in
    on_err c.from_residual-in_err-write_all.result (subst (AppendsPrefix (g.K.Sink.held c.args.sink.now) (g.K.Sink.held c.write_all.new.sink)) bytes c.in_err-write_all.ensures.err)
