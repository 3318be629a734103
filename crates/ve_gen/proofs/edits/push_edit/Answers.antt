use Rattle.std.proofs.Common.{◌%◌, sym, ap, ◌∙◌}
use Rattle.ve_gen.proofs.DrawLemmas.{line_when_removal, line_when_other, after_removal, after_other}
use Rattle.ve_gen.proofs.JoinLemmas.{on_ok, on_ok_same}
use Rattle.ve_gen.proofs.edits.push_edit.Goals as goal
use Rattle.ve_gen.proofs.edits.push_edit.Goals.{then-choice-eq4, else-choice-eq4}

pub returns-clause-line : goal.returns-clause-line
returns-clause-line c = elim c.if-choice-eq4.branch [
  | then-choice-eq4 w ↦
      on_ok_same c.push_line.result c.args.out.now c.push_line.new.out _ _
      (line_when_removal c.args.state.now c.draw-choice.new.state c.draw.new.state w.draw-then-choice-eq4.new.state c.draw-choice.result c.draw.result w.draw-then-choice-eq4.result c.if-choice-eq4.more
      c.draw-choice.ensures.state c.draw.ensures.state w.draw-then-choice-eq4.ensures.state c.draw-choice.ensures.drawn c.draw.ensures.drawn w.draw-then-choice-eq4.ensures.drawn w.more-is)
      c.push_line.ensures
  | else-choice-eq4 w ↦
      on_ok_same c.push_line.result c.args.out.now c.push_line.new.out _ _
      (line_when_other c.args.state.now c.draw-choice.new.state c.draw.new.state c.draw-choice.result c.draw.result c.if-choice-eq4.more
      c.draw-choice.ensures.state c.draw.ensures.state c.draw-choice.ensures.drawn c.draw.ensures.drawn w.if-choice-eq4.false)
      c.push_line.ensures
]

pub returns-clause-state : goal.returns-clause-state
returns-clause-state c = elim c.if-choice-eq4.branch [
  | then-choice-eq4 w ↦
      on_ok c.push_line.result (λ _. w.state-is ∙ after_removal c.args.state.now c.draw-choice.new.state c.draw.new.state w.draw-then-choice-eq4.new.state
      c.draw-choice.ensures.state c.draw.ensures.state w.draw-then-choice-eq4.ensures.state (ap (λ x. x % 8) (sym c.draw-choice.ensures.drawn) ∙ w.if-choice-eq4.true)) c.push_line.ensures
  | else-choice-eq4 w ↦
      on_ok c.push_line.result (λ _. w.state-is ∙ after_other c.args.state.now c.draw-choice.new.state c.draw.new.state
      c.draw-choice.ensures.state c.draw.ensures.state (λ e. w.if-choice-eq4.false (ap (λ x. x % 8) c.draw-choice.ensures.drawn ∙ e))) c.push_line.ensures
]
