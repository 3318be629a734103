use Rattle.std.proofs.Common.{◌≤◌, length, refl, arith, subst}
use Rattle.ve_tree.proofs.WalkLemmas.{Walk, walk_start, walk_end, walk_none, same_length}
use Rattle.ve_tree.proofs.LandmarkLemmas.{landmark_begins, root_first}
use Rattle.ve_tree.proofs.tree.Tree.spot_at.Goals as goal

pub spot_near-requires-clause-near : goal.spot_near-requires-clause-near
spot_near-requires-clause-near c = λ items tree.
    let mark = c.in-Some.ensures in
    landmark_begins tree c.args.o c.in-Some.near c.in-Some.from (c.requires.tree_of.landmarks c.in-Some.near c.in-Some.from mark.landmark items tree) c.if-near-self.true mark.before

pub spot_near-requires-in-Some-first-clause-near : goal.spot_near-requires-in-Some-first-clause-near
spot_near-requires-in-Some-first-clause-near c = λ items tree.
    root_first tree c.args.o c.node.result.now c.in-Some-first.first c.node.ensures c.in-Some-first.is

pub returns-in-None : goal.returns-in-None
returns-in-None c = λ items tree.
    let within : c.args.o ≤ length items = omega (arith, c.requires.within, same_length c.requires.tree_of.links tree) in
    let walk = subst (λ next. Walk tree c.args.o c.args.self.now.root.0 next c.args.o) c.in-None.is (walk_start tree c.args.o c.node.result.now within c.node.ensures) in
    record {
      node = walk_end tree c.args.o c.args.self.now.root c.args.o within walk;
      next = (walk_none tree c.args.o c.args.self.now.root c.args.o walk, refl);
    }
