use Rattle.std.proofs.Common.{◌≡◌, ◌<◌, ◌+◌, ◌-◌, ◌/◌, ◌++◌, take, drop, length, subst, sym, ◌∙◌, arith}
use Rattle.ve_lengths.specs.Starts.{AreStarts}
use Rattle.ve_lengths.proofs.ShiftLemmas.{taken_fits, taken_holds, taken_kept}
use Rattle.ve_lengths.proofs.lengths.Lengths.take_one.Goals as goal

pub shift_back-requires-clause-fits : goal.shift_back-requires-clause-fits
shift_back-requires-clause-fits c =
    let h = c.self.inside in
    let among : c.args.k < length h.lens.items = subst (λ r. c.args.k < length r.lens) (sym c.self.view_is) c.requires in
    let one : c.len.result + 1 ≡ length h.lens.items = omega (arith, among, c.len.ensures, c.remove-len.ensures.len, h.lens.ok) in
    let cut : c.div_ceil-groups.result ≡ (c.len.result + 15) / 16 = omega (arith, c.div_ceil-groups.ensures) in
    taken_fits h.lens.items h.starts.items h.total c.args.k c.len.result c.div_ceil-groups.result c.self.invariant.0 among one cut c.deref_mut.result.now c.deref.result.now
    (c.deref_mut.ensures.value ∙ c.truncate.ensures.items) (c.deref.ensures.value ∙ c.remove-len.ensures.items)

pub shift_back-requires-clause-holds : goal.shift_back-requires-clause-holds
shift_back-requires-clause-holds c =
    let h = c.self.inside in
    let among : c.args.k < length h.lens.items = subst (λ r. c.args.k < length r.lens) (sym c.self.view_is) c.requires in
    let one : c.len.result + 1 ≡ length h.lens.items = omega (arith, among, c.len.ensures, c.remove-len.ensures.len, h.lens.ok) in
    let cut : c.div_ceil-groups.result ≡ (c.len.result + 15) / 16 = omega (arith, c.div_ceil-groups.ensures) in
    taken_holds h.lens.items h.starts.items h.total c.args.k c.len.result c.div_ceil-groups.result c.self.invariant.0 among one cut c.deref_mut.result.now c.deref.result.now
    (c.deref_mut.ensures.value ∙ c.truncate.ensures.items) (c.deref.ensures.value ∙ c.remove-len.ensures.items) c.remove-len.result c.remove-len.ensures.value

pub invariant_of-self : goal.invariant_of-self
invariant_of-self c =
    let h = c.self.inside in
    let among : c.args.k < length h.lens.items = subst (λ r. c.args.k < length r.lens) (sym c.self.view_is) c.requires in
    let one : c.len.result + 1 ≡ length h.lens.items = omega (arith, among, c.len.ensures, c.remove-len.ensures.len, h.lens.ok) in
    let cut : c.div_ceil-groups.result ≡ (c.len.result + 15) / 16 = omega (arith, c.div_ceil-groups.ensures) in
    let row = c.deref.ensures.value in (
      subst (λ l. AreStarts l (take c.truncate.new.self.len (c.shift_back.new.starts ++ drop (length c.shift_back.new.starts) c.truncate.new.self.items)) (h.total - c.remove-len.result)) row (taken_kept h.lens.items h.starts.items h.total c.args.k c.len.result c.div_ceil-groups.result c.self.invariant.0 among one cut c.deref_mut.result.now c.deref.result.now
          (c.deref_mut.ensures.value ∙ c.truncate.ensures.items) (c.deref.ensures.value ∙ c.remove-len.ensures.items) c.remove-len.result _ c.shift_back.new.starts _ c.remove-len.ensures.value
          c.shift_back.ensures (sym c.deref_mut.ensures.value) (omega (arith, c.truncate.new.self.ok))),
      record { among_lens = omega (arith, c.self.invariant.1.among_lens, c.remove-len.ensures.capacity); among_starts = omega (arith, c.self.invariant.1.among_starts, c.truncate.ensures.capacity) },
    )
