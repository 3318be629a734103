use Rattle.std.proofs.Common.{◌≡◌, ◌++◌, take, drop, sum, ap, ◌∙◌, arith}
use Rattle.ve_lengths.proofs.StartLemmas.{sum_left}
use Rattle.ve_lengths.proofs.lengths.Lengths.take_out.Goals as goal

pub reckon-self-inside-requires-clause-fits : goal.reckon-self-inside-requires-clause-fits
reckon-self-inside-requires-clause-fits c =
    let lens = c.self.inside.lens.items in
    let left : c.deref.result.now ≡ take c.args.from lens ++ drop c.args.to lens = c.deref.ensures.value ∙ c.cut_out.ensures.lens in
    omega (arith, ap sum left, sum_left lens c.args.from c.args.to c.requires.order, c.self.invariant.0.total_is, c.self.invariant.0.fits)
