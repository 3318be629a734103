use Rattle.std.proofs.Common.{[], ◌==◌, arith, ap}
use Rattle.std.proofs.lemmas.Bool.{eqb-true}
use Rattle.ve_edits.proofs.RoundLemmas.{partner_within}
use Rattle.ve_build_shape.proofs.claims.ends_with.Goals as goal

pub returns-clause-within : goal.returns-clause-within
returns-clause-within c = λ same.
    let within = partner_within [] c.args.doc.list.now.items c.args.opening c.requires.within in
    let other = c.partner.ensures [] in
    let e = eqb-true c.partner.result c.args.place same in
    omega (arith, within, other, e)

pub returns-clause-means : goal.returns-clause-means
returns-clause-means c = λ values. ap (λ n. n == c.args.place) (c.partner.ensures values)
