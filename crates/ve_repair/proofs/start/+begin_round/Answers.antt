use Rattle.std.proofs.Common.{◌≡◌, Option, Some, None, refl, arith}
use Rattle.ve_arena.specs.declared.node.NodeId.{NodeId}
use Rattle.ve_tree.proofs.ClimbLemmas.{listed_live}
use Rattle.ve_tree.proofs.NodesLemmas.{nodes_are_in_tree}
use Rattle.ve_tree.proofs.RowRangeLemmas.{up_live}
use Rattle.ve_repair.proofs.RoundLemmas.{room_less, begun_root, begun_inside, both_ok}
use Rattle.ve_repair.proofs.start.+begin_round.Goals as goal

no_link : (o : Option NodeId) → ((n : NodeId) → o ≡ Some n → ⊥) → o ≡ None
no_link None h = refl
no_link (Some n) h = absurd (h n refl)

pub node-requires : goal.node-requires
node-requires t c = listed_live c.requires.node.node.tree c.requires.node.node.place c.args.n c.requires.node.node.listed c.requires.node.node.number_is

pub returns-in_default-clause-open_nodes : goal.returns-in_default-clause-open_nodes
returns-in_default-clause-open_nodes t c =
    both_ok c.begin.result _ _ _ c.begin.ensures.stacks c.begin.ensures.sizes
    (begun_root c.args.n c.args.last c.node.result.now c.range_of.result c.args.plan.now.stacks c.begin.new.plan.stacks c.args.sizes.now c.begin.new.sizes c.node.ensures (no_link c.node.result.now.parent c.in_default.not-Some)
    c.range_of.ensures c.requires.old c.requires.new c.requires.old_open c.requires.new_open)

pub begin_round-requires : goal.begin_round-requires
begin_round-requires t c =
    let less = room_less c.requires.node.node.tree c.requires.node.node.place c.args.n c.in-Some.parent c.node.result.now c.requires.node.node.listed c.requires.node.node.number_is c.node.ensures c.in-Some.is in (
      omega (arith, c.decreases, less),
      (
        record {
          node = nodes_are_in_tree _ _ c.in-Some.parent _ c.requires.node.node.tree (up_live c.requires.node.node.tree c.args.n c.in-Some.parent c.node.result.now c.node.ensures c.in-Some.is);
          landmarks = c.requires.node.landmarks;
        },
        (c.requires.old, (c.requires.new, (c.requires.old_open, c.requires.new_open))),
      ),
    )

pub returns-clause-open_nodes : goal.returns-clause-open_nodes
returns-clause-open_nodes t c =
    both_ok c.begin-2.result _ _ _ c.begin-2.ensures.stacks c.begin-2.ensures.sizes
    (begun_inside c.args.n c.in-Some.parent c.args.last c.node.result.now c.range_of.result c.begin_round.new.plan.stacks c.begin-2.new.plan.stacks c.begin_round.new.sizes c.begin-2.new.sizes c.node.ensures c.in-Some.is
    c.range_of.ensures c.in_ok-begin_round.ensures.open_nodes)
