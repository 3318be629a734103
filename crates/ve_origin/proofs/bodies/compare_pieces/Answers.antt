use Rattle.std.proofs.Common.{arith}
use Rattle.std.proofs.lemmas.List.{drop_more}
use Rattle.ve_origin.specs.declared.bodies.Compared.TheVariants.{Same, Different, Open}
use Rattle.ve_origin.proofs.BodyLemmas.{same_at, different_at, open_at, nothing_left}
use Rattle.ve_origin.proofs.bodies.compare_pieces.Goals as goal

pub returns-in-Same-clause-found : goal.returns-in-Same-clause-found
returns-in-Same-clause-found c =
    c.loop-i.invariant.rest Same
    (same_at c.loop-i.open c.loop-i.i c.args.one.now c.args.other.now _ _ (drop_more c.args.one.now c.loop-i.i _ c.loop-i-test.true)
    (drop_more c.args.other.now c.loop-i.i _ (omega (arith, c.loop-i-test.true, c.requires.lengths))) c.in-Same.ensures.found)

pub returns-in-Different-clause-found : goal.returns-in-Different-clause-found
returns-in-Different-clause-found c =
    c.loop-i.invariant.rest Different
    (different_at c.loop-i.open c.loop-i.i c.args.one.now c.args.other.now _ _ (drop_more c.args.one.now c.loop-i.i _ c.loop-i-test.true)
    (drop_more c.args.other.now c.loop-i.i _ (omega (arith, c.loop-i-test.true, c.requires.lengths))) c.in-Different.ensures.found)

pub loop-i-preserved : goal.loop-i-preserved
loop-i-preserved c = record {
  within = omega (arith, c.loop-i-test.true);
  bound = omega (arith, c.loop-i.invariant.bound, c.in-Open.ensures.bound);
  rest = λ r h. c.loop-i.invariant.rest r
      (open_at c.loop-i.open c.in-Open.depth c.loop-i.i c.args.one.now c.args.other.now _ _ r (drop_more c.args.one.now c.loop-i.i _ c.loop-i-test.true)
      (drop_more c.args.other.now c.loop-i.i _ (omega (arith, c.loop-i-test.true, c.requires.lengths))) c.in-Open.ensures.found h);
}

pub returns-clause-found : goal.returns-clause-found
returns-clause-found c =
    c.loop-i.invariant.rest (Open c.loop-i.open) (nothing_left c.loop-i.open c.loop-i.i c.args.one.now c.args.other.now c.loop-i-test.false c.requires.lengths)
