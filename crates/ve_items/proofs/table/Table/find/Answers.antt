use Rattle.std.proofs.Common.{length, ap, arith, subst}
use Rattle.ve_items.specs.Blocks.{joined}
use Rattle.ve_items.specs.InBlock.{StandsAt}
use Rattle.ve_items.proofs.Sizes.{sum_is, stands_at}
use Rattle.ve_items.proofs.table.Table.find.Goals as goal

pub find-requires : goal.find-requires
find-requires c =
    omega (arith, c.requires, sum_is c.self.inside.stack.blocks c.self.inside.sizes.lens c.self.invariant.0, ap (λ p. length (joined p.blocks)) c.self.view_is)

pub returns : goal.returns
returns c =
    subst (λ p. StandsAt p.blocks c.args.at c.find.result.0 c.find.result.1) c.self.view_is
    (stands_at c.self.inside.stack.blocks c.self.inside.sizes.lens c.args.at _ _ c.self.invariant.0 c.find.ensures)
