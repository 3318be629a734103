use Rattle.std.proofs.Common.{arith, sym, ◌∙◌}
use Rattle.ve_write.proofs.InlineLemmas.{first_left, more_left, not_left, none_left}
use Rattle.ve_write.proofs.inline.are_inline.Goals as goal

pub returns-then-not-is_inline_node : goal.returns-then-not-is_inline_node
returns-then-not-is_inline_node c = λ f shows.
    not_left c.args.forest.now c.loop-n.n c.node-node.result.now f c.is_inline_node.result c.node-node.ensures c.is_inline_node.ensures c.if-not-is_inline_node.true (c.loop-n.invariant f shows)

pub loop-n-smaller : goal.loop-n-smaller
loop-n-smaller c =
    let x = first_left c.args.forest.now c.loop-n.n c.node-node.result.now c.requires.0 c.node-node.ensures (c.loop-n.invariant c.requires.0 c.requires.1) in
    omega (arith, x.more, c.loop-n-test.true, c.len.ensures)

pub loop-n-preserved : goal.loop-n-preserved
loop-n-preserved c = λ f shows.
    more_left c.args.forest.now c.loop-n.n c.node-node.result.now f c.is_inline_node.result c.node-node.ensures c.is_inline_node.ensures c.if-not-is_inline_node.false (c.loop-n.invariant f shows)

pub returns : goal.returns
returns c = λ f shows. none_left c.args.forest.now c.loop-n.n f (omega (arith, c.loop-n-test.false, c.len.ensures)) (c.loop-n.invariant f shows)
