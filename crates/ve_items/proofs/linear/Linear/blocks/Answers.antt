use Rattle.std.proofs.Common.{ap, ◌∙◌}
use Rattle.ve_items.proofs.Blocks.{no_blocks}
use Rattle.ve_items.proofs.linear.Linear.blocks.Goals as goal

pub returns-clause-none : goal.returns-clause-none
returns-clause-none c = λ none. c.len.ensures.count ∙ no_blocks c.self.inside.table.blocks c.self.invariant.rule (ap (λ row. row.items) c.self.view_is ∙ none)
