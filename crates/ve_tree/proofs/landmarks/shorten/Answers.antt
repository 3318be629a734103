use Rattle.std.proofs.Common.{◌<◌, length, sym, subst, arith}
use Rattle.ve_tree.specs.Landmarks.{IsShortened}
use Rattle.ve_tree.proofs.LandmarkLemmas.{shortened, not_shortened}
use Rattle.ve_tree.proofs.landmarks.shorten.Goals as goal

pub returns-then-k-len-clause-lens : goal.returns-then-k-len-clause-lens
returns-then-k-len-clause-lens c =
    let among : c.args.k < length c.args.lens.now.lens = omega (arith, c.if-k-len.true, c.len.ensures.count) in
    subst (λ new. IsShortened c.args.lens.now.lens new c.args.k c.args.by) (sym c.shrink.ensures.lens)
    (shortened c.args.lens.now.lens c.args.k c.args.by among (c.requires.before_next among))

pub returns-else-k-len-clause-lens : goal.returns-else-k-len-clause-lens
returns-else-k-len-clause-lens c = not_shortened c.args.lens.now.lens c.args.k c.args.by (omega (arith, c.if-k-len.false, c.len.ensures.count))

pub returns-else-k-len-clause-fits : goal.returns-else-k-len-clause-fits
returns-else-k-len-clause-fits c = c.requires.at_end (omega (arith, c.if-k-len.false, c.len.ensures.count))
