use Rattle.std.proofs.Common.{length, arith, inl, inr}
use Rattle.ve_node_text.proofs.ListLemmas.{none_left, le_or}
use Rattle.ve_node_text.proofs.marking.common_count.Goals as goal

pub returns-clause-count : goal.returns-clause-count
returns-clause-count c =
    let none = none_left c.args.opened.now c.args.marks.now c.loop-n.n (elim (le_or (length c.args.opened.now) (length c.args.marks.now)) [
      | inl le ↦ inl (omega (arith, le, c.min-most.ensures, c.loop-n-test.false))
      | inr le ↦ inr (omega (arith, le, c.min-most.ensures, c.loop-n-test.false))
    ]) in
    omega (arith, none, c.loop-n.invariant.rest)
