use Rattle.std.proofs.Common.{◌≡◌, Option, Some, None, Fits, w64, rules, refl, sym, ap, ◌∙◌, arith}
use Rattle.ve_arena.specs.declared.node.NodeId.{NodeId}
use Rattle.ve_tree.proofs.ClimbLemmas.{left_before, left_parent, left_top, listed_live, root_whole, step_before}
use Rattle.ve_tree.proofs.LeftMarkLemmas.{left_mark, mark_of}
use Rattle.ve_tree.proofs.tree.Tree.range_of.Goals as goal

no_link : (o : Option NodeId) → ((n : NodeId) → o ≡ Some n → ⊥) → o ≡ None
no_link None h = refl
no_link (Some n) h = absurd (h n refl)

-- what stands above the list's start is the root, or nothing
no_parent : (o : Option NodeId) (root : NodeId) → ((n : NodeId) → o ≡ Some n → ⊥) → (parent : NodeId) → o ≡ Some parent → parent.0 ≡ root.0
no_parent o root h parent e = absurd (h parent e)

one_parent : (o : Option NodeId) (root q : NodeId) → o ≡ Some q → q.0 ≡ root.0 → (parent : NodeId) → o ≡ Some parent → parent.0 ≡ root.0
one_parent o root q is_q same parent e = let both : ◌≡◌ {A = Option NodeId} (Some parent) (Some q) = sym e ∙ is_q in let e' : parent ≡ q = cc in ap (λ (n : NodeId). n.0) e' ∙ same

pub node-requires-2 : goal.node-requires-2
node-requires-2 c = listed_live c.requires.node.tree c.requires.node.place c.args.n c.requires.node.listed c.requires.node.number_is

pub node-node-requires : goal.node-node-requires
node-node-requires c =
    let climb = (c.loop-start.invariant c.requires.node.items c.requires.node.tree c.requires.node.place c.requires.node.listed c.requires.node.number_is).climb in
    listed_live c.requires.node.tree climb.place c.loop-start.at climb.listed climb.number

pub node-requires-in-Some-before : goal.node-requires-in-Some-before
node-requires-in-Some-before c =
    let climb = (c.loop-start.invariant c.requires.node.items c.requires.node.tree c.requires.node.place c.requires.node.listed c.requires.node.number_is).climb in
    (step_before c.requires.node.tree c.requires.node.place c.loop-start.at.0 _ c.node-node.result.now c.in-Some-before.before climb c.node-node.ensures c.in-Some-before.is).live

pub overflow_sub-left : goal.overflow_sub-left
overflow_sub-left c =
    (left_before c.requires.node.tree c.requires.node.place c.loop-start.at.0 c.node.result.now.len c.loop-start.left c.node-node.result.now c.node-in-Some-before.result.now c.in-Some-before.before c.requires.node.listed
    (root_whole c.requires.node.tree c.node.result.now c.node.ensures)
    (c.loop-start.invariant c.requires.node.items c.requires.node.tree c.requires.node.place c.requires.node.listed c.requires.node.number_is)
    c.node-node.ensures c.in-Some-before.is c.node-in-Some-before.ensures).enough

pub loop-start-smaller-in-Some-before : goal.loop-start-smaller-in-Some-before
loop-start-smaller-in-Some-before c =
    let step = left_before c.requires.node.tree c.requires.node.place c.loop-start.at.0 c.node.result.now.len c.loop-start.left c.node-node.result.now c.node-in-Some-before.result.now c.in-Some-before.before c.requires.node.listed
    (root_whole c.requires.node.tree c.node.result.now c.node.ensures)
    (c.loop-start.invariant c.requires.node.items c.requires.node.tree c.requires.node.place c.requires.node.listed c.requires.node.number_is)
    c.node-node.ensures c.in-Some-before.is c.node-in-Some-before.ensures in
    omega (arith, step.some, step.enough)

pub loop-start-preserved-in-Some-before : goal.loop-start-preserved-in-Some-before
loop-start-preserved-in-Some-before c = λ items tree place listed number.
    (left_before tree place c.loop-start.at.0 c.node.result.now.len c.loop-start.left c.node-node.result.now c.node-in-Some-before.result.now c.in-Some-before.before listed
    (root_whole tree c.node.result.now c.node.ensures) (c.loop-start.invariant items tree place listed number)
    c.node-node.ensures c.in-Some-before.is c.node-in-Some-before.ensures).next

pub overflow_sub-result : goal.overflow_sub-result
overflow_sub-result c = (c.loop-start.invariant c.requires.node.items c.requires.node.tree c.requires.node.place c.requires.node.listed c.requires.node.number_is).within

pub overflow_sub-result-in_default-parent : goal.overflow_sub-result-in_default-parent
overflow_sub-result-in_default-parent c = (c.loop-start.invariant c.requires.node.items c.requires.node.tree c.requires.node.place c.requires.node.listed c.requires.node.number_is).within

pub overflow_add-result-in_default-parent : goal.overflow_add-result-in_default-parent
overflow_add-result-in_default-parent c =
    let all : Fits w64 c.node.result.now.len = search rules in
    let top = left_top c.requires.node.tree c.requires.node.place c.loop-start.at.0 c.node.result.now.len c.loop-start.left c.node-node.result.now c.node-2.result.now c.args.n c.requires.node.listed c.requires.node.number_is
    c.node-2.ensures (root_whole c.requires.node.tree c.node.result.now c.node.ensures)
    (c.loop-start.invariant c.requires.node.items c.requires.node.tree c.requires.node.place c.requires.node.listed c.requires.node.number_is)
    c.node-node.ensures (no_link c.node-node.result.now.before c.in_default-before.not-Some) (no_parent c.node-node.result.now.parent c.args.self.now.root c.in_default-parent.not-Some) in
    omega (arith, all, top.within)

pub returns-in_default-parent : goal.returns-in_default-parent
returns-in_default-parent c = λ items tree place listed number.
    (left_top tree place c.loop-start.at.0 c.node.result.now.len c.loop-start.left c.node-node.result.now c.node-2.result.now c.args.n listed number
    c.node-2.ensures (root_whole tree c.node.result.now c.node.ensures) (c.loop-start.invariant items tree place listed number)
    c.node-node.ensures (no_link c.node-node.result.now.before c.in_default-before.not-Some) (no_parent c.node-node.result.now.parent c.args.self.now.root c.in_default-parent.not-Some)).range

pub overflow_sub-result-then-parent-self : goal.overflow_sub-result-then-parent-self
overflow_sub-result-then-parent-self c = (c.loop-start.invariant c.requires.node.items c.requires.node.tree c.requires.node.place c.requires.node.listed c.requires.node.number_is).within

pub overflow_sub-result-then-parent-self-2 : goal.overflow_sub-result-then-parent-self-2
overflow_sub-result-then-parent-self-2 c = (c.loop-start.invariant c.requires.node.items c.requires.node.tree c.requires.node.place c.requires.node.listed c.requires.node.number_is).within

pub overflow_add-result-then-parent-self : goal.overflow_add-result-then-parent-self
overflow_add-result-then-parent-self c =
    let all : Fits w64 c.node.result.now.len = search rules in
    let top = left_top c.requires.node.tree c.requires.node.place c.loop-start.at.0 c.node.result.now.len c.loop-start.left c.node-node.result.now c.node-2.result.now c.args.n c.requires.node.listed c.requires.node.number_is
    c.node-2.ensures (root_whole c.requires.node.tree c.node.result.now c.node.ensures)
    (c.loop-start.invariant c.requires.node.items c.requires.node.tree c.requires.node.place c.requires.node.listed c.requires.node.number_is)
    c.node-node.ensures (no_link c.node-node.result.now.before c.in_default-before.not-Some)
    (one_parent c.node-node.result.now.parent c.args.self.now.root c.in-Some-parent.parent c.in-Some-parent.is c.if-parent-self.true) in
    omega (arith, all, top.within)

pub returns-then-parent-self : goal.returns-then-parent-self
returns-then-parent-self c = λ items tree place listed number.
    (left_top tree place c.loop-start.at.0 c.node.result.now.len c.loop-start.left c.node-node.result.now c.node-2.result.now c.args.n listed number
    c.node-2.ensures (root_whole tree c.node.result.now c.node.ensures) (c.loop-start.invariant items tree place listed number)
    c.node-node.ensures (no_link c.node-node.result.now.before c.in_default-before.not-Some)
    (one_parent c.node-node.result.now.parent c.args.self.now.root c.in-Some-parent.parent c.in-Some-parent.is c.if-parent-self.true)).range

pub overflow_sub-left-in-loop-start : goal.overflow_sub-left-in-loop-start
overflow_sub-left-in-loop-start c =
    (left_parent c.requires.node.tree c.requires.node.place c.loop-start.at.0 c.node.result.now.len c.loop-start.left c.node-node.result.now c.in-Some-parent.parent c.requires.node.listed
    (root_whole c.requires.node.tree c.node.result.now c.node.ensures)
    (c.loop-start.invariant c.requires.node.items c.requires.node.tree c.requires.node.place c.requires.node.listed c.requires.node.number_is)
    c.node-node.ensures (no_link c.node-node.result.now.before c.in_default-before.not-Some) c.in-Some-parent.is c.if-parent-self.false).enough

pub loop-start-smaller : goal.loop-start-smaller
loop-start-smaller c =
    let step = left_parent c.requires.node.tree c.requires.node.place c.loop-start.at.0 c.node.result.now.len c.loop-start.left c.node-node.result.now c.in-Some-parent.parent c.requires.node.listed
    (root_whole c.requires.node.tree c.node.result.now c.node.ensures)
    (c.loop-start.invariant c.requires.node.items c.requires.node.tree c.requires.node.place c.requires.node.listed c.requires.node.number_is)
    c.node-node.ensures (no_link c.node-node.result.now.before c.in_default-before.not-Some) c.in-Some-parent.is c.if-parent-self.false in
    omega (arith, step.enough)

pub loop-start-preserved : goal.loop-start-preserved
loop-start-preserved c = λ items tree place listed number.
    (left_parent tree place c.loop-start.at.0 c.node.result.now.len c.loop-start.left c.node-node.result.now c.in-Some-parent.parent listed
    (root_whole tree c.node.result.now c.node.ensures) (c.loop-start.invariant items tree place listed number)
    c.node-node.ensures (no_link c.node-node.result.now.before c.in_default-before.not-Some) c.in-Some-parent.is c.if-parent-self.false).next

pub overflow_sub-from : goal.overflow_sub-from
overflow_sub-from c = (c.loop-start.invariant c.requires.node.items c.requires.node.tree c.requires.node.place c.requires.node.listed c.requires.node.number_is).within

pub overflow_add-from : goal.overflow_add-from
overflow_add-from c =
    let all : Fits w64 c.node.result.now.len = search rules in
    let m = left_mark c.requires.node.tree c.requires.node.place c.loop-start.at c.node.result.now.len c.loop-start.left c.in-Some.start c.node-2.result.now c.args.n c.requires.node.listed c.requires.node.number_is
    c.node-2.ensures (root_whole c.requires.node.tree c.node.result.now c.node.ensures)
    (c.loop-start.invariant c.requires.node.items c.requires.node.tree c.requires.node.place c.requires.node.listed c.requires.node.number_is)
    (c.requires.landmarks c.loop-start.at c.in-Some.start (mark_of c.start_of.ensures c.in-Some.is) c.requires.node.items c.requires.node.tree) in
    omega (arith, all, m.within)

pub returns-in-Some : goal.returns-in-Some
returns-in-Some c = λ items tree place listed number.
    (left_mark tree place c.loop-start.at c.node.result.now.len c.loop-start.left c.in-Some.start c.node-2.result.now c.args.n listed number
    c.node-2.ensures (root_whole tree c.node.result.now c.node.ensures) (c.loop-start.invariant items tree place listed number)
    (c.requires.landmarks c.loop-start.at c.in-Some.start (mark_of c.start_of.ensures c.in-Some.is) items tree)).range

pub overflow_add-result : goal.overflow_add-result
overflow_add-result c =
    let all : Fits w64 c.node.result.now.len = search rules in
    let m = left_mark c.requires.node.tree c.requires.node.place c.loop-start.at c.node.result.now.len c.loop-start.left c.in-Some.start c.node-2.result.now c.args.n c.requires.node.listed c.requires.node.number_is
    c.node-2.ensures (root_whole c.requires.node.tree c.node.result.now c.node.ensures)
    (c.loop-start.invariant c.requires.node.items c.requires.node.tree c.requires.node.place c.requires.node.listed c.requires.node.number_is)
    (c.requires.landmarks c.loop-start.at c.in-Some.start (mark_of c.start_of.ensures c.in-Some.is) c.requires.node.items c.requires.node.tree) in
    omega (arith, all, m.within)
