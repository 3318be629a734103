use Rattle.std.proofs.Common.{◌<◌, ◌≤◌, ◌+◌, ◌/◌, ℕ, length, get_or, subst, sym, arith}
use Rattle.ve_lengths.proofs.StartLemmas.{shrunk_kept, start_holds}
use Rattle.ve_lengths.proofs.lengths.Lengths.shrink.Goals as goal

pub lower-requires : goal.lower-requires
lower-requires c =
    let h = c.self.inside in
    let among : c.args.k < length h.lens.items = subst (λ r. c.args.k < length r.lens) (sym c.self.view_is) c.requires.among in
    let long : c.args.by ≤ get_or h.lens.items c.args.k 0 = subst (λ r. c.args.by ≤ get_or r.lens c.args.k 0) (sym c.self.view_is) c.requires.long in
    subst (λ l. (g : ℕ) → c.args.k / 16 + 1 ≤ g → g < length l → c.args.by ≤ get_or l g 0) (sym c.deref_mut.ensures.value)
    (λ g after within. omega (arith, long, start_holds h.lens.items h.starts.items h.total c.args.k g c.self.invariant.0 among after within))

pub invariant_of-self : goal.invariant_of-self
invariant_of-self c =
    let h = c.self.inside in
    let among : c.args.k < length h.lens.items = subst (λ r. c.args.k < length r.lens) (sym c.self.view_is) c.requires.among in
    let long : c.args.by ≤ get_or h.lens.items c.args.k 0 = subst (λ r. c.args.by ≤ get_or r.lens c.args.k 0) (sym c.self.view_is) c.requires.long in (
      shrunk_kept h.lens.items h.starts.items _ _ h.starts.len h.total c.args.k c.args.by _ c.self.invariant.0 among long c.deref_mut.ensures.value c.lower.ensures
          (omega arith) c.index_mut.ensures.value,
      c.self.invariant.1,
    )
