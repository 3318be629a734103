use Rattle.std.proofs.Common.{arith}
use Rattle.ve_tx.proofs.CheckLemmas.{differs-later, alike-more}
use Rattle.ve_tx.proofs.check.first_difference.Goals as goal

pub returns-in-Some-clause-some : goal.returns-in-Some-clause-some
returns-in-Some-clause-some c =
    differs-later c.args.list.now.items c.args.removed.now c.piece-piece.result.now c.args.at c.loop-done.done
    c.piece-piece.ensures.within c.piece-piece.ensures.items c.loop-done.invariant.alike c.in-Some.k c.in-Some.ensures.some

pub loop-done-preserved : goal.loop-done-preserved
loop-done-preserved c = record {
  within = omega (arith, c.piece-piece.ensures.within);
  alike = alike-more c.args.list.now.items c.args.removed.now c.piece-piece.result.now c.args.at c.loop-done.done c.piece-piece.ensures.within c.piece-piece.ensures.items
      c.loop-done.invariant.alike c.in_default.ensures.none;
}
