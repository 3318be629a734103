use Rattle.std.proofs.Common.{◌<◌, ◌≤◌, ◌+◌, length, get_or, [], ap, subst, sym, ◌∙◌, map, arith}
use Rattle.ve_items.specs.Blocks.{joined}
use Rattle.ve_items.proofs.Sizes.{sum_is, sizes_spliced}
use Rattle.ve_items.proofs.table.Table.splice.Goals as goal

pub grow-requires-clause-fits : goal.grow-requires-clause-fits
grow-requires-clause-fits c =
    omega (arith, c.requires.fits, sum_is c.self.inside.stack.blocks c.self.inside.sizes.lens c.self.invariant.0, ap (λ p. length (joined p.blocks)) c.self.view_is)

pub invariant_of-self : goal.invariant_of-self
invariant_of-self c =
    let blocks = c.self.inside.stack.blocks in
    let among : c.args.k < length blocks = subst (λ p. c.args.k < length p.blocks) (sym c.self.view_is) c.requires.among in
    let within : c.args.at + c.args.removed ≤ length (get_or blocks c.args.k []) =
    subst (λ p. c.args.at + c.args.removed ≤ length (get_or p.blocks c.args.k [])) (sym c.self.view_is) c.requires.within in (
      sizes_spliced blocks c.self.inside.sizes.lens _ _ c.args.k c.args.at c.args.removed c.args.items.now c.self.invariant.0 among within c.grow.ensures.lens
          c.shrink.ensures.lens ∙ ap (λ l. map length l) (sym c.splice.ensures.blocks),
      omega (arith, c.self.invariant.1, c.grow.ensures.room, c.shrink.ensures.room, c.splice.ensures.room),
    )
