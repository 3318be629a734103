use Rattle.std.proofs.Common.{length, arith}
use Rattle.ve_tree.proofs.ClimbLemmas.{listed_live}
use Rattle.ve_tree.proofs.NearLemmas.{listed, step_after, parent_some, step_up}
use Rattle.ve_tree.proofs.lookup.following.Goals as goal

pub node-node-requires : goal.node-node-requires
node-node-requires c =
    let p = c.loop-after.invariant.ends c.requires.tree.items c.requires.tree.tree in
    listed_live c.requires.tree.tree p.place c.loop-after.at (listed c.requires.tree.tree p.place p.listed) p.number_is

pub returns-in-Some-clause-begins : goal.returns-in-Some-clause-begins
returns-in-Some-clause-begins c = λ items tree.
    step_after tree (length items) c.loop-after.at c.loop-after.left c.node-node.result.now c.in-Some.after (c.loop-after.invariant.ends items tree) c.node-node.ensures c.in-Some.is

pub unreachable-requires : goal.unreachable-requires
unreachable-requires c =
    let p = c.loop-after.invariant.ends c.requires.tree.items c.requires.tree.tree in
    parent_some c.requires.tree.tree p.place c.loop-after.at c.node-node.result.now p.listed p.number_is c.node-node.ensures c.in_default-parent.is

pub loop-after-preserved : goal.loop-after-preserved
loop-after-preserved c = record {
  ends = λ items tree.
      (step_up tree (length items) c.loop-after.at c.loop-after.left c.node-node.result.now c.in-Some-parent.parent (c.loop-after.invariant.ends items tree) c.node-node.ensures c.in_default.is
      c.in-Some-parent.is (omega arith)).up (omega (arith, c.if-left-eq0.false));
  less = omega (arith, c.loop-after.invariant.less);
}
