use Rattle.std.proofs.Common.{refl, arith}
use Rattle.ve_tree.proofs.ClimbLemmas.{listed_live}
use Rattle.ve_tree.proofs.WalkLemmas.{same_length}
use Rattle.ve_tree.proofs.NearLemmas.{listed, step_after, passed, not_empty, parent_some, step_up}
use Rattle.ve_tree.proofs.lookup.spot_near.Goals as goal

pub node-requires : goal.node-requires
node-requires c =
    let s = c.requires.near c.requires.offset.items c.requires.offset.tree_of.links in
    listed_live c.requires.offset.tree_of.links s.place c.args.near (listed c.requires.offset.tree_of.links s.place s.listed) s.number_is

pub loop-after-init : goal.loop-after-init
loop-after-init c = λ items tree.
    passed tree c.args.o c.args.near c.args.left c.node.result.now (c.requires.near items tree) c.node.ensures (omega arith)

pub node-node-requires : goal.node-node-requires
node-node-requires c =
    let p = c.loop-after.invariant c.requires.offset.items c.requires.offset.tree_of.links in
    listed_live c.requires.offset.tree_of.links p.place c.loop-after.at (listed c.requires.offset.tree_of.links p.place p.listed) p.number_is

pub node-requires-in-Some : goal.node-requires-in-Some
node-requires-in-Some c =
    let s = step_after c.requires.offset.tree_of.links c.args.o c.loop-after.at c.loop-after.left c.node-node.result.now c.in-Some.after
    (c.loop-after.invariant c.requires.offset.items c.requires.offset.tree_of.links) c.node-node.ensures c.in-Some.is in
    listed_live c.requires.offset.tree_of.links s.place c.in-Some.after (listed c.requires.offset.tree_of.links s.place s.listed) s.number_is

pub spot_inside-requires-then-left-len-2-clause-near : goal.spot_inside-requires-then-left-len-2-clause-near
spot_inside-requires-then-left-len-2-clause-near c = λ items tree.
    step_after tree c.args.o c.loop-after.at c.loop-after.left c.node-node.result.now c.in-Some.after (c.loop-after.invariant items tree) c.node-node.ensures c.in-Some.is

pub loop-after-smaller-in-Some : goal.loop-after-smaller-in-Some
loop-after-smaller-in-Some c =
    let s = step_after c.requires.offset.tree_of.links c.args.o c.loop-after.at c.loop-after.left c.node-node.result.now c.in-Some.after
    (c.loop-after.invariant c.requires.offset.items c.requires.offset.tree_of.links) c.node-node.ensures c.in-Some.is in
    let some = not_empty c.requires.offset.tree_of.links s.place c.in-Some.after c.node-in-Some.result.now s.listed s.number_is c.node-in-Some.ensures in
    omega (arith, some, c.if-left-len-2.false)

pub loop-after-preserved-in-Some : goal.loop-after-preserved-in-Some
loop-after-preserved-in-Some c = λ items tree.
    passed tree c.args.o c.in-Some.after c.loop-after.left c.node-in-Some.result.now
    (step_after tree c.args.o c.loop-after.at c.loop-after.left c.node-node.result.now c.in-Some.after (c.loop-after.invariant items tree) c.node-node.ensures c.in-Some.is)
    c.node-in-Some.ensures (omega (arith, c.if-left-len-2.false))

pub unreachable-requires : goal.unreachable-requires
unreachable-requires c =
    let p = c.loop-after.invariant c.requires.offset.items c.requires.offset.tree_of.links in
    parent_some c.requires.offset.tree_of.links p.place c.loop-after.at c.node-node.result.now p.listed p.number_is c.node-node.ensures c.in_default-parent.is

pub returns-then-left-eq0 : goal.returns-then-left-eq0
returns-then-left-eq0 c = λ items tree.
    let up = step_up tree c.args.o c.loop-after.at c.loop-after.left c.node-node.result.now c.in-Some-parent.parent (c.loop-after.invariant items tree) c.node-node.ensures c.in_default.is c.in-Some-parent.is
    (omega (arith, c.requires.offset.within, same_length c.requires.offset.tree_of.links tree)) in
    let found = up.found c.if-left-eq0.true in
    record { node = found.0; next = (found.1, refl) }

pub loop-after-preserved : goal.loop-after-preserved
loop-after-preserved c = λ items tree.
    (step_up tree c.args.o c.loop-after.at c.loop-after.left c.node-node.result.now c.in-Some-parent.parent (c.loop-after.invariant items tree) c.node-node.ensures c.in_default.is c.in-Some-parent.is
    (omega (arith, c.requires.offset.within, same_length c.requires.offset.tree_of.links tree))).up (omega (arith, c.if-left-eq0.false))
