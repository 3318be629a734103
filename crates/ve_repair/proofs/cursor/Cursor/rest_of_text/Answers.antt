use Rattle.std.proofs.Common.{arith}
use Rattle.ve_repair.proofs.CursorsLemmas.{next_live, in_text, rest_none, rest_opening, rest_letters}
use Rattle.ve_repair.proofs.cursor.Cursor.rest_of_text.Goals as goal

pub node-node-requires : goal.node-node-requires
node-node-requires c = next_live c.args.arena.now.slots c.args.self c.in-Some.n 0 c.in-Some.is c.requires

pub returns-in_default : goal.returns-in_default
returns-in_default c = λ spot h. rest_none c.args.arena.now.slots c.args.self spot c.in_default.is h

pub overflow_sub-result : goal.overflow_sub-result
overflow_sub-result c =
    let t = in_text c.args.arena.now.slots c.args.self c.in-Some.n c.node-node.result.now c.requires.spot c.in-Some.is c.node-node.ensures c.in-Run.is c.requires.is_at in omega (arith, t.inside)

pub returns-in-Run : goal.returns-in-Run
returns-in-Run c = λ spot h.
    rest_letters c.args.arena.now.slots c.args.self c.in-Some.n c.node-node.result.now spot (in_text c.args.arena.now.slots c.args.self c.in-Some.n c.node-node.result.now spot c.in-Some.is c.node-node.ensures c.in-Run.is h)

pub returns-in-Node : goal.returns-in-Node
returns-in-Node c = λ spot h. rest_opening c.args.arena.now.slots c.args.self c.in-Some.n c.node-node.result.now c.in-Node.field-0 spot c.in-Some.is c.node-node.ensures c.in-Node.is h
