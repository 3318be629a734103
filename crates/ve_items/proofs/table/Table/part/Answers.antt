use Rattle.std.proofs.Common.{◌≤◌, ◌<◌, length, get_or, [], ap, subst, sym, ◌∙◌, map, arith}
use Rattle.ve_items.proofs.Parts.{sizes_parted}
use Rattle.ve_items.proofs.table.Table.part.Goals as goal

pub invariant_of-self : goal.invariant_of-self
invariant_of-self c =
    let blocks = c.self.inside.stack.blocks in
    let among : c.args.k < length blocks = subst (λ p. c.args.k < length p.blocks) (sym c.self.view_is) c.requires.among in
    let within : c.args.at ≤ length (get_or blocks c.args.k []) = subst (λ p. c.args.at ≤ length (get_or p.blocks c.args.k [])) (sym c.self.view_is) c.requires.within in (
      sizes_parted blocks c.self.inside.sizes.lens _ _ c.args.k _ c.args.at c.size.result c.self.invariant.0 among within
          (c.size.ensures ∙ ap (λ p. length (get_or p.blocks c.args.k [])) (sym c.self.view_is)) (omega arith) c.shrink.ensures.lens c.put_in.ensures.lens
          ∙ ap (λ l. map length l) (sym c.part.ensures.blocks),
      omega (arith, c.self.invariant.1, c.shrink.ensures.room, c.put_in.ensures.room, c.part.ensures.room),
    )
