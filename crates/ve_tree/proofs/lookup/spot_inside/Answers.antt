use Rattle.std.proofs.Common.{◌≡◌, ◌-◌, Some, refl, sym, subst, arith}
use Rattle.ve_tree.proofs.ClimbLemmas.{listed_live, len_under}
use Rattle.ve_tree.proofs.WalkLemmas.{Walk, walk_live, walk_skip, walk_enter, walk_stop, walk_next, walk_end, walk_none, same_length}
use Rattle.ve_tree.proofs.NearLemmas.{listed, passes, parent_some, parent_number}
use Rattle.ve_tree.proofs.lookup.spot_inside.Goals as goal

pub node-requires : goal.node-requires
node-requires c =
    let r = c.requires.near c.requires.offset.items c.requires.offset.tree_of.links in
    listed_live c.requires.offset.tree_of.links r.place c.args.near (listed c.requires.offset.tree_of.links r.place r.listed) r.number_is

pub unreachable-requires : goal.unreachable-requires
unreachable-requires c =
    let r = c.requires.near c.requires.offset.items c.requires.offset.tree_of.links in
    parent_some c.requires.offset.tree_of.links r.place c.args.near c.node.result.now r.listed r.number_is c.node.ensures c.in_default.is

pub loop-next-init : goal.loop-next-init
loop-next-init c = λ items tree.
    let r = c.requires.near items tree in
    let ends = len_under tree r.place c.args.near c.requires.inside.node (listed tree r.place r.listed) r.number_is c.requires.inside.here in
    let p = passes tree c.args.o r.place c.args.near r.listed (sym r.number_is) (omega (arith, r.sum)) (omega (arith, r.sum, ends, c.requires.inside.longer)) in
    let same = parent_number tree c.args.o r.place c.args.near c.node.result.now c.in-Some.parent p r.listed r.number_is c.node.ensures c.in-Some.is in
    let left_is : c.args.o - r.place.from ≡ c.args.left = omega (arith, r.sum) in
    subst (λ n. Walk tree c.args.o n (Some c.args.near) c.args.left) same (subst (λ f. Walk tree c.args.o p.inner (Some c.args.near) f) left_is p.walk)

pub node-node-requires : goal.node-node-requires
node-node-requires c =
    walk_live c.requires.offset.tree_of.links c.args.o c.loop-next.inner.0 c.in-Some-next.child c.loop-next.left
    (subst (λ next. Walk c.requires.offset.tree_of.links c.args.o c.loop-next.inner.0 next c.loop-next.left) c.in-Some-next.is (c.loop-next.invariant c.requires.offset.items c.requires.offset.tree_of.links))

pub loop-next-smaller-then-node-left : goal.loop-next-smaller-then-node-left
loop-next-smaller-then-node-left c =
    let skipped = walk_skip c.requires.offset.tree_of.links c.args.o c.loop-next.inner.0 c.in-Some-next.child c.loop-next.left c.node-node.result.now
    (subst (λ next. Walk c.requires.offset.tree_of.links c.args.o c.loop-next.inner.0 next c.loop-next.left) c.in-Some-next.is (c.loop-next.invariant c.requires.offset.items c.requires.offset.tree_of.links))
    c.node-node.ensures c.if-node-left.true in
    omega (arith, skipped.0, c.if-node-left.true)

pub loop-next-preserved-then-node-left : goal.loop-next-preserved-then-node-left
loop-next-preserved-then-node-left c = λ items tree.
    (walk_skip tree c.args.o c.loop-next.inner.0 c.in-Some-next.child c.loop-next.left c.node-node.result.now
    (subst (λ next. Walk tree c.args.o c.loop-next.inner.0 next c.loop-next.left) c.in-Some-next.is (c.loop-next.invariant items tree))
    c.node-node.ensures c.if-node-left.true).1

pub returns-then-left-eq0 : goal.returns-then-left-eq0
returns-then-left-eq0 c = λ items tree.
    record {
      node = walk_stop tree c.args.o c.loop-next.inner c.in-Some-next.child c.loop-next.left c.node-node.result.now
          (omega (arith, c.requires.offset.within, same_length c.requires.offset.tree_of.links tree))
          (subst (λ next. Walk tree c.args.o c.loop-next.inner.0 next c.loop-next.left) c.in-Some-next.is (c.loop-next.invariant items tree))
          c.node-node.ensures c.if-node-left.false (λ some. absurd (omega (arith, c.if-left-eq0.true, some)));
      next = walk_next tree c.args.o c.loop-next.inner c.in-Some-next.child c.loop-next.left c.node-node.result.now
          (subst (λ next. Walk tree c.args.o c.loop-next.inner.0 next c.loop-next.left) c.in-Some-next.is (c.loop-next.invariant items tree))
          c.node-node.ensures (omega (arith, c.if-node-left.false)) (λ some. absurd (omega (arith, c.if-left-eq0.true, some)));
    }

pub returns-in-Run : goal.returns-in-Run
returns-in-Run c = λ items tree.
    record {
      node = walk_stop tree c.args.o c.loop-next.inner c.in-Some-next.child c.loop-next.left c.node-node.result.now
          (omega (arith, c.requires.offset.within, same_length c.requires.offset.tree_of.links tree))
          (subst (λ next. Walk tree c.args.o c.loop-next.inner.0 next c.loop-next.left) c.in-Some-next.is (c.loop-next.invariant items tree))
          c.node-node.ensures c.if-node-left.false (λ some. c.in-Run.is);
      next = walk_next tree c.args.o c.loop-next.inner c.in-Some-next.child c.loop-next.left c.node-node.result.now
          (subst (λ next. Walk tree c.args.o c.loop-next.inner.0 next c.loop-next.left) c.in-Some-next.is (c.loop-next.invariant items tree))
          c.node-node.ensures (omega (arith, c.if-node-left.false)) (λ some. c.in-Run.is);
    }

pub loop-next-preserved : goal.loop-next-preserved
loop-next-preserved c = λ items tree.
    walk_enter tree c.args.o c.loop-next.inner.0 c.in-Some-next.child c.loop-next.left c.node-node.result.now c.in-Node.field-0
    (subst (λ next. Walk tree c.args.o c.loop-next.inner.0 next c.loop-next.left) c.in-Some-next.is (c.loop-next.invariant items tree))
    c.node-node.ensures c.in-Node.is c.if-node-left.false (omega (arith, c.if-left-eq0.false))

pub returns : goal.returns
returns c = λ items tree.
    record {
      node = walk_end tree c.args.o c.loop-next.inner c.loop-next.left
          (omega (arith, c.requires.offset.within, same_length c.requires.offset.tree_of.links tree))
          (subst (λ next. Walk tree c.args.o c.loop-next.inner.0 next c.loop-next.left) c.in_default-next.is (c.loop-next.invariant items tree));
      next = (
        walk_none tree c.args.o c.loop-next.inner c.loop-next.left
            (subst (λ next. Walk tree c.args.o c.loop-next.inner.0 next c.loop-next.left) c.in_default-next.is (c.loop-next.invariant items tree)),
        refl,
      );
    }
