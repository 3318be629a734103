use Rattle.std.proofs.Common.{◌≡◌, ◌<◌, [], rules, length, sym, ◌∙◌, subst}
use Rattle.std.proofs.lemmas.List.{nil_from_length}
use Rattle.std.proofs.lemmas.Result.{err_from_is_err_and}
use Rattle.ve_run.specs.Run.{scene, Answered}
use Rattle.ve_run.proofs.Runs.{BrokeOff-last, Answers-last, Answers-whole}
use Rattle.ve_run.proofs.script.run_script.Goals as goal
use Rattle.ve_run.proofs.script.run_script.Goals.{then-not-is_empty+in_ok-answer, else-not-is_empty}

pub returns-in_err-answer-clause-write_fault : goal.returns-in_err-answer-clause-write_fault
returns-in_err-answer-clause-write_fault g c fault =
    let p = err_from_is_err_and c.from_residual-in_err-answer.result c.from_residual-in_err-answer.ensures.1 in
    let (script, took, answered) = c.in_ok-read_lines.ensures.answered in
    let line_some : 0 < length c.as_slice-line.result.now = search rules in
    record {
      script = script;
      extra = [];
      took = took;
      broke_off = BrokeOff-last _ _ _ _ script c.as_slice-line.result.now _
          (subst (λ rest. Answered g.M.Machine.meaning (scene c.args.world.now c.args.steps.now (g.K.Sink.held c.args.sink.now)) (scene c.read_lines.new.world c.read_lines.new.steps (g.K.Sink.held c.read_lines.new.sink)) script rest) (sym c.as_slice-line.ensures) answered)
          line_some c.in_ok-read_lines.ensures.end
          (c.answer.ensures.stepped_at_fault (cc (p.1, p.2, c.in_err-answer.was, fault)))
          (c.answer.ensures.prefix (cc (p.1, p.2, c.in_err-answer.was, fault)));
    }

pub returns-clause-ok : goal.returns-clause-ok
returns-clause-ok g c =
    let m = g.M.Machine.meaning in
    let (script, took, answered) = c.in_ok-read_lines.ensures.answered in
    let kept = c.as_slice-line.ensures in
    elim c.if-not-is_empty.branch [
      | then-not-is_empty+in_ok-answer w ↦
          let line_some : 0 < length c.as_slice-line.result.now = search rules in
          record {
            script = script;
            took = took;
            end = c.in_ok-read_lines.ensures.end;
            answers = rw (w.world-is, w.steps-is, w.sink-is) (Answers-last m _ _ _ script c.as_slice-line.result.now
                (subst (λ rest. Answered m (scene c.args.world.now c.args.steps.now (g.K.Sink.held c.args.sink.now)) (scene c.read_lines.new.world c.read_lines.new.steps (g.K.Sink.held c.read_lines.new.sink)) script rest) (sym kept) answered)
                line_some w.in_ok-answer.ensures.stepped w.in_ok-answer.ensures.written);
          }
      | else-not-is_empty w ↦
          let line_none : length c.as_slice-line.result.now ≡ 0 = search rules in
          let none = sym kept ∙ nil_from_length c.as_slice-line.result.now line_none in
          record {
            script = script;
            took = took;
            end = c.in_ok-read_lines.ensures.end;
            answers = rw (w.world-is, w.steps-is, w.sink-is) (Answers-whole m _ _ script
                (subst (λ rest. Answered m (scene c.args.world.now c.args.steps.now (g.K.Sink.held c.args.sink.now)) (scene c.read_lines.new.world c.read_lines.new.steps (g.K.Sink.held c.read_lines.new.sink)) script rest) none answered));
          }
    ]
