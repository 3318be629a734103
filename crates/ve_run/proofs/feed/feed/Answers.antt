use Rattle.std.proofs.Common.{◌≡◌, ◌++◌, ◌∷◌, [], ℕ, List, arith, refl, sym, ap, ◌∙◌, subst, append_assoc, append-nil}
use Rattle.std.proofs.lemmas.Result.{err_from_is_err_and}
use Rattle.model_script.specs.Lines.{newline}
use Rattle.ve_run.specs.Run.{scene, Answered}
use Rattle.ve_run.proofs.Runs.{Answered-nothing, Answered-line, Answered-bytes, BrokeOff-line, GaveUp-now}
use Rattle.ve_run.proofs.feed.feed.Goals as goal

-- a line further
parts_after : (piece fed end more : List ℕ) → piece ≡ fed ++ (end ++ newline ∷ more) → piece ≡ (fed ++ (end ++ newline ∷ [])) ++ more
parts_after piece fed end more e =
    e ∙ ap (λ s. fed ++ s) (sym (append_assoc end (newline ∷ []) more)) ∙ sym (append_assoc fed (end ++ newline ∷ []) more)

-- what is fed so far, and what is left
all_of : (kept piece fed left : List ℕ) → piece ≡ fed ++ left → kept ++ piece ≡ (kept ++ fed) ++ left
all_of kept piece fed left e = ap (λ s. kept ++ s) e ∙ sym (append_assoc kept fed left)

pub lines-init : goal.lines-init
lines-init g c = record {
  fed = [];
  parts = refl;
  answered = subst (λ s. Answered g.M.Machine.meaning (scene c.args.world.now c.args.steps.now (g.K.Sink.held c.args.sink.now)) (scene c.args.world.now c.args.steps.now (g.K.Sink.held c.args.sink.now)) s c.args.kept.now)
      (sym (append-nil c.args.kept.now)) (Answered-nothing _ _ c.args.kept.now c.requires);
  later = omega arith;
  counted = omega arith;
}

pub lines-preserved : goal.lines-preserved
lines-preserved g c =
    let inv = c.lines.invariant in
    let kept = c.args.kept.now in
    let (is_line, split) = c.in-Some.ensures in
    let end = c.in-Some.end.now in
    record {
      fed = inv.fed ++ (end ++ newline ∷ []);
      parts = parts_after c.args.piece.now inv.fed end c.in-Some.more.now (inv.parts ∙ ap (λ s. inv.fed ++ s) split);
      answered = rw c.in_ok-end_line.ensures.nothing (subst (λ s. Answered g.M.Machine.meaning (scene c.args.world.now c.args.steps.now (g.K.Sink.held c.args.sink.now)) (scene c.end_line.new.world c.end_line.new.steps (g.K.Sink.held c.end_line.new.sink)) s [])
          (append_assoc kept inv.fed (end ++ newline ∷ []))
          (Answered-line _ _ _ _ (kept ++ inv.fed) c.lines.kept end inv.answered is_line c.in_ok-end_line.ensures.stepped c.in_ok-end_line.ensures.written));
      later = omega (arith, inv.later, c.end_line.ensures.later);
      counted = omega (arith, inv.counted, c.end_line.ensures.counted);
    }

pub returns-in_err-end_line-clause-broke_off : goal.returns-in_err-end_line-clause-broke_off
returns-in_err-end_line-clause-broke_off g c fault =
    let p = err_from_is_err_and c.from_residual.result c.from_residual.ensures.1 in
    let inv = c.lines.invariant in
    let (is_line, split) = c.in-Some.ensures in
    BrokeOff-line _ _ _ _ (c.args.kept.now ++ inv.fed) c.lines.kept c.in-Some.end.now c.in-Some.more.now _ _ inv.answered
    (all_of c.args.kept.now c.args.piece.now inv.fed (c.in-Some.end.now ++ newline ∷ c.in-Some.more.now) (inv.parts ∙ ap (λ s. inv.fed ++ s) split))
    is_line
    (c.end_line.ensures.stepped_at_fault (cc (p.1, p.2, c.in_err-end_line.was, fault)))
    (c.end_line.ensures.prefix (cc (p.1, p.2, c.in_err-end_line.was, fault)))

pub returns-in_err-end_line-clause-starved : goal.returns-in_err-end_line-clause-starved
returns-in_err-end_line-clause-starved g c want =
    let p = err_from_is_err_and c.from_residual.result c.from_residual.ensures.1 in
    let inv = c.lines.invariant in
    GaveUp-now _ _ _ _ (c.args.kept.now ++ inv.fed) c.lines.kept c.lines.left.now _ inv.answered
    (all_of c.args.kept.now c.args.piece.now inv.fed c.lines.left.now inv.parts)
    (c.end_line.ensures.starved (cc (p.1, p.2, c.in_err-end_line.was, want)))

pub returns-clause-ok : goal.returns-clause-ok
returns-clause-ok g c =
    let inv = c.lines.invariant in
    rw c.in_ok-push.ensures.ok (subst (λ s. Answered g.M.Machine.meaning (scene c.args.world.now c.args.steps.now (g.K.Sink.held c.args.sink.now)) (scene c.lines.world c.lines.steps (g.K.Sink.held c.lines.sink)) s (c.lines.kept ++ c.lines.left.now))
    (sym (all_of c.args.kept.now c.args.piece.now inv.fed c.lines.left.now inv.parts))
    (Answered-bytes _ _ _ (c.args.kept.now ++ inv.fed) c.lines.kept c.lines.left.now inv.answered c.in_default.ensures))
