use Rattle.std.proofs.Common.{arith}
use Rattle.ve_repair.proofs.CursorsLemmas.{pass_closing, pass_opening, in_text, pass_some, pass_all, closing_live, next_live, or_named}
use Rattle.ve_repair.proofs.cursor.Cursor.pass.Goals as goal

pub node-node-requires : goal.node-node-requires
node-node-requires c = closing_live c.args.arena.now.slots c.args.self c.args.most c.in_default.is c.requires.some c.requires.at

pub returns-in_default : goal.returns-in_default
returns-in_default c = λ spot h enough.
    pass_closing c.args.arena.now.slots c.args.self c.unwrap_or.result c.node-node.result.now c.args.most spot c.in_default.is c.node-node.ensures
    (or_named c.node-node.result.now.parent c.args.self.parent c.unwrap_or.result c.unwrap_or.ensures) c.requires.some enough h

pub node-node-requires-2 : goal.node-node-requires-2
node-node-requires-2 c = next_live c.args.arena.now.slots c.args.self c.in-Some.n c.args.most c.in-Some.is c.requires.at

pub overflow_sub-left : goal.overflow_sub-left
overflow_sub-left c =
    let t = in_text c.args.arena.now.slots c.args.self c.in-Some.n c.node-node-2.result.now c.requires.at.spot c.in-Some.is c.node-node-2.ensures c.in-Run.is c.requires.at.is_at in omega (arith, t.inside)

pub returns-in-Node : goal.returns-in-Node
returns-in-Node c = λ spot h enough.
    pass_opening c.args.arena.now.slots c.args.self c.in-Some.n c.node-node-2.result.now c.in-Node.field-0 c.args.most spot c.in-Some.is c.node-node-2.ensures c.in-Node.is c.requires.some h

pub returns-then-most-left : goal.returns-then-most-left
returns-then-most-left c = λ spot h enough.
    pass_some c.args.arena.now.slots c.args.self c.in-Some.n c.node-node-2.result.now c.args.most spot c.requires.some c.if-most-left.true
    (in_text c.args.arena.now.slots c.args.self c.in-Some.n c.node-node-2.result.now spot c.in-Some.is c.node-node-2.ensures c.in-Run.is h)

pub returns-else-most-left : goal.returns-else-most-left
returns-else-most-left c = λ spot h enough.
    pass_all c.args.arena.now.slots c.args.self c.in-Some.n c.node-node-2.result.now c.args.most spot c.if-most-left.false
    (in_text c.args.arena.now.slots c.args.self c.in-Some.n c.node-node-2.result.now spot c.in-Some.is c.node-node-2.ensures c.in-Run.is h)
