use Rattle.ve_tree.proofs.RowRangeLemmas.{spot_live}
use Rattle.ve_repair.proofs.SpotLemmas.{child_live, left_within, at_text, at_node, at_end}
use Rattle.ve_repair.proofs.start.edge_at.Goals as goal

pub node-requires : goal.node-requires
node-requires c = spot_live c.requires.tree_of.links c.args.x c.spot_at-spot.result (c.spot_at-spot.ensures c.requires.items c.requires.tree_of.links)

pub before_text-requires-clause-between : goal.before_text-requires-clause-between
before_text-requires-clause-between c = λ items tree. at_end tree c.args.x c.spot_at-spot.result c.node.result.now (c.spot_at-spot.ensures items tree) c.in_default.is c.node.ensures

pub node-node-requires : goal.node-node-requires
node-node-requires c = child_live c.requires.tree_of.links c.args.x c.spot_at-spot.result c.in-Some.child (c.spot_at-spot.ensures c.requires.items c.requires.tree_of.links) c.in-Some.is

pub overflow_sub-result : goal.overflow_sub-result
overflow_sub-result c = left_within c.requires.tree_of.links c.args.x c.spot_at-spot.result c.in-Some.child (c.spot_at-spot.ensures c.requires.items c.requires.tree_of.links) c.in-Some.is

pub before_text-requires-in-Node-clause-between : goal.before_text-requires-in-Node-clause-between
before_text-requires-in-Node-clause-between c = λ items tree.
    at_node tree c.args.x c.spot_at-spot.result c.in-Some.child c.node-node.result.now c.in-Node.field-0 (c.spot_at-spot.ensures items tree) c.in-Some.is c.node-node.ensures c.in-Node.is

pub returns-in-Run : goal.returns-in-Run
returns-in-Run c = λ items tree.
    at_text tree c.args.x c.spot_at-spot.result c.in-Some.child c.node-node.result.now (c.spot_at-spot.ensures items tree) c.in-Some.is c.node-node.ensures c.in-Run.is
