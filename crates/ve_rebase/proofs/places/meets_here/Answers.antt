use Rattle.std.proofs.Common.{◌≡◌, ◌-◌, false, length, take, drop, nat_eq, sym, ap, ◌∙◌, arith}
use Rattle.std.proofs.lemmas.Bool.{ne_eqb}
use Rattle.std.proofs.lemmas.List.{length-drop, take_all}
use Rattle.model_change.specs.Join.{meets_one}
use Rattle.ve_rebase.specs.Places.{change_of, places, meets_first}
use Rattle.ve_rebase.proofs.PlaceLemmas.{first_met, met_here}
use Rattle.ve_rebase.proofs.places.meets_here.Goals as goal

pub returns-then-cursor-at : goal.returns-then-cursor-at
returns-then-cursor-at c = λ from to moves.
    let rest = drop c.args.cursor.passed c.args.others.now in
    let long = length-drop c.args.cursor.passed c.args.others.now in
    let whole : take (length c.args.others.now - c.args.cursor.passed) rest ≡ rest = take_all (length c.args.others.now - c.args.cursor.passed) rest (omega arith) in
    let change = change_of c.args.name.now from to in
    c.meets_first.ensures
    ∙ (ap (λ ops. meets_first c.args.name.now c.args.moves ops) whole
    ∙ (ap (λ m. meets_first c.args.name.now m rest) moves
    ∙ (first_met c.args.at c.args.name.now from to rest
    ∙ ap (λ n. meets_one (c.args.at, change) (places n rest)) (sym c.if-cursor-at.true))))

pub returns-else-cursor-at : goal.returns-else-cursor-at
returns-else-cursor-at c = λ from to moves.
    let rest = drop c.args.cursor.passed c.args.others.now in
    let e : nat_eq c.args.cursor.at c.args.at ≡ false = ne_eqb c.args.cursor.at c.args.at c.if-cursor-at.false in
    let n = length-drop c.args.cursor.passed c.args.others.now in
    e ∙ met_here c.args.at c.args.cursor.at c.args.name.now from to rest false (sym e) (λ some. c.requires.there (omega arith))
