use Rattle.std.proofs.Common.{ap, ◌∙◌}
use Rattle.ve_items.proofs.Sizes.{sum_is}
use Rattle.ve_items.specs.Blocks.{joined}
use Rattle.std.proofs.Common.{length}
use Rattle.ve_items.proofs.table.Table.items.Goals as goal

pub returns : goal.returns
returns c = c.total.ensures ∙ sum_is c.self.inside.stack.blocks c.self.inside.sizes.lens c.self.invariant.0 ∙ ap (λ p. length (joined p.blocks)) c.self.view_is
