use Rattle.std.proofs.Common.{◌≡◌, ◌≤◌, ◌<◌, ◌+◌, ◌/◌, ◌∷◌, ◌++◌, [], length, sum, ◌^◌, subst, sym, ap, ◌∙◌, if◌then◌else◌, vec_capacity, arith}
use Rattle.std.specs.Prelude.{insert}
use Rattle.ve_lengths.specs.Starts.{AreShifted, HasRoom}
use Rattle.ve_lengths.proofs.ShiftLemmas.{AreNext, next_begun, next_same, put_kept}
use Rattle.ve_lengths.proofs.lengths.Lengths.put_in.Goals as goal
use Rattle.ve_lengths.proofs.lengths.Lengths.put_in.Goals.{then-len-eq0+else-prove, else-len-eq0}

pub invariant_of-self : goal.invariant_of-self
invariant_of-self c =
    let h = c.self.inside in
    let s = c.if-len-eq0.self-inside in
    let among : c.args.k ≤ length h.lens.items = subst (λ r. c.args.k ≤ length r.lens) (sym c.self.view_is) c.requires.among in
    let small : sum h.lens.items + c.args.len < 2 ^ 64 = subst (λ r. sum r.lens + c.args.len < 2 ^ 64) (sym c.self.view_is) c.requires.fits in
    let next : AreNext h.lens.items s.starts.items = elim c.if-len-eq0.branch [
      | then-len-eq0+else-prove w ↦ next_begun h.lens.items h.starts.items s.starts.items h.total c.self.invariant.0 (omega (arith, w.if-len-eq0.true, c.len.ensures, h.lens.ok))
          (ap (λ i. i.starts.items) w.self-inside-is
          ∙ subst (λ b. w.push.new.self.items ≡ (if b then h.starts.items ++ h.total ∷ [] else h.starts.items)) (sym w.is_ok-grown.ensures.value ∙ w.if-prove.false) w.push.ensures.items)
      | else-len-eq0 w ↦ subst (AreNext h.lens.items) (ap (λ i. i.starts.items) (sym w.self-inside-is)) (next_same h.lens.items h.starts.items h.total c.self.invariant.0 (λ e. w.if-len-eq0.false (omega (arith, e, c.len.ensures, h.lens.ok))))
    ] in
    let lens : s.lens.items ≡ h.lens.items = elim c.if-len-eq0.branch [
      | then-len-eq0+else-prove w ↦ ap (λ i. i.lens.items) w.self-inside-is
      | else-len-eq0 w ↦ ap (λ i. i.lens.items) w.self-inside-is
    ] in
    let total : s.total ≡ h.total = elim c.if-len-eq0.branch [
      | then-len-eq0+else-prove w ↦ ap (λ i. i.total) w.self-inside-is
      | else-len-eq0 w ↦ ap (λ i. i.total) w.self-inside-is
    ] in
    let roomy : HasRoom s.room (vec_capacity s.lens) (vec_capacity s.starts) = elim c.if-len-eq0.branch [
      | then-len-eq0+else-prove w ↦
          subst (λ i. HasRoom i.room (vec_capacity i.lens) (vec_capacity i.starts)) (sym w.self-inside-is)
          (record { among_lens = c.self.invariant.1.among_lens; among_starts = omega (arith, c.self.invariant.1.among_starts, w.push.ensures.capacity) })
      | else-len-eq0 w ↦ subst (λ i. HasRoom i.room (vec_capacity i.lens) (vec_capacity i.starts)) (sym w.self-inside-is) c.self.invariant.1
    ] in
    let row : c.insert.new.self.items ≡ insert h.lens.items c.args.k c.args.len =
    subst (λ b. c.insert.new.self.items ≡ (if b then insert s.lens.items c.args.k c.args.len else s.lens.items)) (sym c.is_ok-inserted.ensures.value ∙ c.if-prove-2.false) c.insert.ensures.items
    ∙ ap (λ l. insert l c.args.k c.args.len) lens in (
      put_kept h.lens.items s.starts.items c.insert.new.self.items c.deref_mut.result.now c.shift_on.new.starts s.total c.args.k c.args.len s.starts.len next among small
          (total ∙ c.self.invariant.0.total_is) c.deref_mut.ensures.value row
          (subst (λ l. AreShifted l c.deref_mut.result.now c.shift_on.new.starts (c.args.k / 16 + 1) c.args.len) c.deref.ensures.value c.shift_on.ensures) (omega (arith, s.starts.ok)),
      record { among_lens = omega (arith, roomy.among_lens, c.insert.ensures.capacity); among_starts = roomy.among_starts },
    )
