use Rattle.std.proofs.Common.{◌≤◌, ◌<◌, ◌-◌, ℕ, Option, Some, None, IfSome, length, arith}
use Rattle.ve_arena.specs.declared.node.NodeId.{NodeId}
use Rattle.ve_tree.proofs.ClimbLemmas.{listed_live}
use Rattle.ve_tree.proofs.NearLemmas.{listed}
use Rattle.ve_tree.proofs.LandmarkLemmas.{ahead, first_child}
use Rattle.ve_tree.proofs.mark.next_ahead.Goals as goal

pub node-node-requires : goal.node-node-requires
node-node-requires c =
    let b = c.requires.begins c.requires.tree.items c.requires.tree.tree in
    listed_live c.requires.tree.tree b.place c.args.n (listed c.requires.tree.tree b.place b.listed) b.number_is

pub overflow_sub-result : goal.overflow_sub-result
overflow_sub-result c =
    let a = ahead c.requires.tree.tree c.args.n c.args.left c.node-node.result.now (c.requires.begins c.requires.tree.items c.requires.tree.tree) c.node-node.ensures in
    omega (arith, a.some, a.within)

pub returns-clause-begins : goal.returns-clause-begins
returns-clause-begins c = λ items tree.
    let a = ahead tree c.args.n c.args.left c.node-node.result.now (c.requires.begins items tree) c.node-node.ensures in
    first_child tree (length items) c.args.n c.args.left c.node-node.result.now c.in-Some.first (c.requires.begins items tree) c.node-node.ensures c.in-Some.is (omega (arith, a.some, a.within))

pub returns-clause-farther : goal.returns-clause-farther
returns-clause-farther c =
    let a = ahead c.requires.tree.tree c.args.n c.args.left c.node-node.result.now (c.requires.begins c.requires.tree.items c.requires.tree.tree) c.node-node.ensures in
    omega (arith, a.some, a.within)

pub overflow_sub-left : goal.overflow_sub-left
overflow_sub-left c =
    (ahead c.requires.tree.tree c.args.n c.args.left c.node-node.result.now (c.requires.begins c.requires.tree.items c.requires.tree.tree) c.node-node.ensures).within

pub following-requires-clause-ends : goal.following-requires-clause-ends
following-requires-clause-ends c = λ items tree. (ahead tree c.args.n c.args.left c.node-node.result.now (c.requires.begins items tree) c.node-node.ensures).ends

less : (r : Option (NodeId × ℕ)) (len left : ℕ) → 1 ≤ len → len ≤ left → IfSome r (λ next. next.1 ≤ left - len) → IfSome r (λ next. next.1 < left)
less None len left some within h = h
less (Some next) len left some within h = omega (arith, some, within, h)

pub returns-2-clause-farther : goal.returns-2-clause-farther
returns-2-clause-farther c =
    let a = ahead c.requires.tree.tree c.args.n c.args.left c.node-node.result.now (c.requires.begins c.requires.tree.items c.requires.tree.tree) c.node-node.ensures in
    less c.following.result c.node-node.result.now.len c.args.left a.some a.within c.following.ensures.farther
