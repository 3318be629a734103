use Rattle.std.proofs.Common.{sym, ◌∙◌, arith}
use Rattle.std.proofs.lemmas.List.{drop_all}
use Rattle.std.proofs.lemmas.Option.{slice_get-get_or}
use Rattle.ve_write.proofs.NoteLemmas.{found_here, found_later, none_left}
use Rattle.ve_write.proofs.bodies.notes_in.Goals as goal

pub loop-at-preserved : goal.loop-at-preserved
loop-at-preserved c = record {
  within = omega (arith, c.loop-at-test.true);
  rest = λ values.
      let rest = c.loop-at.invariant.rest values in
      let later = found_later values c.args.items.now c.loop-at.at _ (slice_get-get_or _ _ _ c.loop-at-test.true) (sym (c.opens_notes.ensures values) ∙ c.if-not-opens_notes.true) in
      omega (arith, rest, later);
}

pub returns-else-not-opens_notes-clause-place : goal.returns-else-not-opens_notes-clause-place
returns-else-not-opens_notes-clause-place c = λ values.
    let rest = c.loop-at.invariant.rest values in
    let here = found_here values c.args.items.now c.loop-at.at _ (slice_get-get_or _ _ _ c.loop-at-test.true) (sym (c.opens_notes.ensures values) ∙ c.if-not-opens_notes.false) in
    omega (arith, rest, here)

pub returns-after-loop-at-clause-place : goal.returns-after-loop-at-clause-place
returns-after-loop-at-clause-place c = λ values.
    let rest = c.loop-at.invariant.rest values in
    let none = none_left values c.args.items.now c.loop-at.at (drop_all c.loop-at.at c.args.items.now (omega (arith, c.loop-at-test.false))) in
    omega (arith, rest, none)
