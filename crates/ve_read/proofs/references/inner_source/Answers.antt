use Rattle.std.proofs.Common.{◌∙◌}
use Rattle.ve_read.proofs.ElementLemmas.{inner_cuts, inner_is}
use Rattle.ve_read.proofs.references.inner_source.Goals as goal

pub range-requires-clause-start_le_end : goal.range-requires-clause-start_le_end
range-requires-clause-start_le_end c = (inner_cuts c.args.text.now c.args.forest.now c.args.n c.node.result.now c.requires.element c.node.ensures).rises

pub range-requires-clause-start_boundary : goal.range-requires-clause-start_boundary
range-requires-clause-start_boundary c = λ _. (inner_cuts c.args.text.now c.args.forest.now c.args.n c.node.result.now c.requires.element c.node.ensures).first

pub range-requires-clause-end_boundary : goal.range-requires-clause-end_boundary
range-requires-clause-end_boundary c = (inner_cuts c.args.text.now c.args.forest.now c.args.n c.node.result.now c.requires.element c.node.ensures).last

pub returns : goal.returns
returns c = λ name attrs children rest at more s.
    c.range.ensures.value ∙ inner_is c.args.text.now c.args.forest.now c.args.n at name attrs children rest more c.node.result.now s c.node.ensures
