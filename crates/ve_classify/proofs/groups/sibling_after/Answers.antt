use Rattle.std.proofs.Common.{arith}
use Rattle.ve_classify.proofs.GroupSteps.{none_after, apart, touch}
use Rattle.ve_classify.proofs.groups.sibling_after.Goals as goal

pub returns-then-node-len-clause-sibling : goal.returns-then-node-len-clause-sibling
returns-then-node-len-clause-sibling c = λ f at more s e. none_after c.args.forest.now c.args.n at f more c.node-node.result.now s e c.node-node.ensures (omega arith)

pub returns-then-node-clause-sibling : goal.returns-then-node-clause-sibling
returns-then-node-clause-sibling c = λ f at more s e. apart c.args.forest.now c.args.n at f more c.node-node.result.now c.node.result.now s e c.node-node.ensures c.node.ensures c.if-node.true

pub returns-clause-sibling : goal.returns-clause-sibling
returns-clause-sibling c = λ f at more s e. touch c.args.forest.now c.args.n at f more c.node-node.result.now c.node.result.now s e c.node-node.ensures c.node.ensures c.if-node.false
