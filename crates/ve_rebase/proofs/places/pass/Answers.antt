use Rattle.std.proofs.Common.{◌≤◌, ◌∷◌, drop, ap, ◌∙◌, arith}
use Rattle.model_change.specs.Join.{some_meet}
use Rattle.ve_rebase.specs.Places.{change_of, places, placed}
use Rattle.ve_rebase.proofs.PlaceLemmas.{pass_one}
use Rattle.ve_rebase.proofs.places.pass.Goals as goal

pub returns-in-Attribute-clause-met : goal.returns-in-Attribute-clause-met
returns-in-Attribute-clause-met c = λ cs h.
    let name = c.in-Attribute.name in
    let from = c.in-Attribute.from in
    let to = c.in-Attribute.to in
    let at = c.args.at in
    let others = c.args.others.now in
    let ds = places c.args.cursor.at (drop c.args.cursor.passed others) in
    let rest = places c.advance-cursor.result.at (drop c.advance-cursor.result.passed others) in
    let here : at ≤ at = omega arith in
    ap (λ o. some_meet (placed at o cs) ds) c.in-Attribute.is
    ∙ pass_one at name from to cs ds rest c.meets_here.result
    (c.advance-cursor.ensures.skipped ((at, change_of name from to) ∷ cs) (here, h))
    (c.meets_here.ensures from to (c.adds_or_removes-moves.ensures name))
