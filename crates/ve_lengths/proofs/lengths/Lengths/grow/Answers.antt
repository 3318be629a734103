use Rattle.std.proofs.Common.{◌<◌, ◌+◌, ◌^◌, length, sum, subst, sym, arith}
use Rattle.ve_lengths.proofs.StartLemmas.{grown_kept}
use Rattle.ve_lengths.proofs.lengths.Lengths.grow.Goals as goal

pub invariant_of-self : goal.invariant_of-self
invariant_of-self c =
    let h = c.self.inside in
    let among : c.args.k < length h.lens.items = subst (λ r. c.args.k < length r.lens) (sym c.self.view_is) c.requires.among in
    let small : sum h.lens.items + c.args.by < 2 ^ 64 = subst (λ r. sum r.lens + c.args.by < 2 ^ 64) (sym c.self.view_is) c.requires.fits in (
      grown_kept h.lens.items h.starts.items _ _ h.starts.len h.total c.args.k c.args.by _ c.self.invariant.0 among small c.deref_mut.ensures.value c.raise.ensures
          (omega arith) c.index_mut.ensures.value,
      c.self.invariant.1,
    )
