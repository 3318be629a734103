use Rattle.ve_repair.proofs.StartLemmas.{before_live, nothing_before, node_before, text_before}
use Rattle.ve_repair.proofs.start.before_text.Goals as goal

pub returns-in_default : goal.returns-in_default
returns-in_default c = λ items tree. nothing_before tree c.args.edge (c.requires.between items tree) c.in_default.is

pub node-node-requires : goal.node-node-requires
node-node-requires c = before_live c.requires.tree.tree c.args.edge (c.requires.between c.requires.tree.items c.requires.tree.tree) c.in-Some.text c.in-Some.is

pub overflow_sub-result : goal.overflow_sub-result
overflow_sub-result c =
    (text_before c.requires.tree.tree c.args.edge (c.requires.between c.requires.tree.items c.requires.tree.tree) c.in-Some.text c.node-node.result.now c.in-Some.is c.node-node.ensures c.in-Run.is).fits

pub returns-in-Run : goal.returns-in-Run
returns-in-Run c = λ items tree.
    (text_before tree c.args.edge (c.requires.between items tree) c.in-Some.text c.node-node.result.now c.in-Some.is c.node-node.ensures c.in-Run.is).is_edge

pub returns-in-Node : goal.returns-in-Node
returns-in-Node c = λ items tree.
    node_before tree c.args.edge (c.requires.between items tree) c.in-Some.text c.node-node.result.now c.in-Node.field-0 c.in-Some.is c.node-node.ensures c.in-Node.is
