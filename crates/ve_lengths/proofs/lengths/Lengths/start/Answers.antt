use Rattle.std.proofs.Common.{◌≡◌, length, ap, sym, arith}
use Rattle.std.proofs.lemmas.List.Sums.{sum_by_more_le}
use Rattle.ve_lengths.proofs.lengths.Lengths.start.Goals as goal

pub overflow_add-start : goal.overflow_add-start
overflow_add-start c =
    let same : length c.args.self.now.lens ≡ length c.self.inside.lens.items = ap (λ r. length r.lens) (sym c.self.view_is) in
    let within = sum_by_more_le (λ x. x) c.self.inside.lens.items c.loop-i.i c.index.result.now (omega (arith, same, c.requires, c.loop-i-test.true)) in
    grind (arith, within, c.loop-i.invariant, c.index.ensures, c.self.invariant.0.total_is, c.self.invariant.0.fits)
