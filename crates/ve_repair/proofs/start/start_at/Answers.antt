use Rattle.ve_tree.proofs.NodesLemmas.{nodes_are_in_tree}
use Rattle.ve_repair.proofs.StartLemmas.{edge_live}
use Rattle.ve_repair.proofs.RoundLemmas.{starts}
use Rattle.ve_repair.proofs.start.start_at.Goals as goal

pub begin_round-requires-clause-node : goal.begin_round-requires-clause-node
begin_round-requires-clause-node c =
    let tree = c.requires.place.tree_of.links in record {
      node = nodes_are_in_tree _ _ c.edge_at-edge.result.node _ tree (edge_live tree c.edge_at-edge.result (c.edge_at-edge.ensures c.requires.place.items tree).between);
      landmarks = c.requires.place.tree_of.landmarks;
    }

pub returns-clause-start : goal.returns-clause-start
returns-clause-start c =
    starts c.args.x c.edge_at-edge.result c.begin_round.new.plan.stacks c.begin_round.new.sizes c.start.new.self c.edge_at-edge.ensures c.in_ok-begin_round.ensures.open_nodes c.start.ensures
