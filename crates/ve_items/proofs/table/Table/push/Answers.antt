use Rattle.std.proofs.Common.{length, ap, arith}
use Rattle.ve_items.specs.Blocks.{joined}
use Rattle.ve_items.proofs.Sizes.{sum_is}
use Rattle.ve_items.proofs.table.Table.push.Goals as goal

pub push-requires-clause-fits : goal.push-requires-clause-fits
push-requires-clause-fits c =
    omega (arith, c.requires.fits, sum_is c.self.inside.stack.blocks c.self.inside.sizes.lens c.self.invariant.0, ap (λ p. length (joined p.blocks)) c.self.view_is)
