use Rattle.std.proofs.Common.{ap, ◌∙◌, ◌++◌, subst}
use Rattle.ve_run.specs.Run.{reply_line, AppendsPrefix}
use Rattle.ve_run.proofs.answer.answer.Goals as goal

pub returns-in_err-write_all-clause-prefix : goal.returns-in_err-write_all-clause-prefix
returns-in_err-write_all-clause-prefix g c _ =
    let spelled = reply_line (g.M.Machine.meaning.reply c.args.world.now c.args.line.now) in
    let bytes = c.as_slice.ensures ∙ c.in_ok-step.ensures.reply ∙ ap (λ s. s ++ spelled) c.clear.ensures in
    subst (AppendsPrefix (g.K.Sink.held c.args.sink.now) (g.K.Sink.held c.write_all.new.sink)) bytes c.in_err-write_all.ensures.err
