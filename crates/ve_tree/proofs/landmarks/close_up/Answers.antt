use Rattle.std.proofs.Common.{◌≡◌, ◌<◌, ◌+◌, ◌-◌, length, take, sum, ap, ◌∙◌, arith}
use Rattle.std.specs.Prelude.{slice_set, slice_index}
use Rattle.ve_tree.proofs.CloseLemmas.{cut_whole, cut_long, closed_up}
use Rattle.ve_tree.proofs.ShiftLemmas.{sums_rise}
use Rattle.ve_tree.proofs.landmarks.close_up.Goals as goal

pub overflow_sub-gone : goal.overflow_sub-gone
overflow_sub-gone c = let rise = sums_rise c.args.lens.now.lens c.args.low c.args.high c.requires.order in omega (arith, rise, c.start.ensures, c.start-2.ensures)

pub grow-requires-clause-fits : goal.grow-requires-clause-fits
grow-requires-clause-fits c =
    let whole = cut_whole c.args.lens.now.lens c.args.low c.args.high c.requires.order c.requires.within in
    let mid = ap sum c.take_out.ensures.lens in
    omega (arith, whole, mid, c.start.ensures, c.start-2.ensures, c.requires.fits)

pub shrink-requires-clause-long : goal.shrink-requires-clause-long
shrink-requires-clause-long c =
    let mid = c.take_out.new.self.lens in
    let gone : c.start.result - c.start-2.result ≡ sum (take c.args.high c.args.lens.now.lens) - sum (take c.args.low c.args.lens.now.lens) = omega (arith, c.start.ensures, c.start-2.ensures) in
    let grown : c.grow.new.self.lens ≡ slice_set mid c.args.low (slice_index mid c.args.low + (sum (take c.args.high c.args.lens.now.lens) - sum (take c.args.low c.args.lens.now.lens) + c.args.more)) =
    c.grow.ensures.lens ∙ ap (λ by. slice_set mid c.args.low (slice_index mid c.args.low + (by + c.args.more))) gone in
    let among : c.args.low < length mid = omega (arith, c.if-low-len.true, c.len.ensures.count) in
    cut_long c.args.lens.now.lens mid c.grow.new.self.lens c.args.low c.args.high c.args.less c.args.more c.requires.order c.requires.within among c.take_out.ensures.lens grown c.requires.long

pub returns-then-low-len : goal.returns-then-low-len
returns-then-low-len c =
    let mid = c.take_out.new.self.lens in
    let gone : c.start.result - c.start-2.result ≡ sum (take c.args.high c.args.lens.now.lens) - sum (take c.args.low c.args.lens.now.lens) = omega (arith, c.start.ensures, c.start-2.ensures) in
    let grown : c.grow.new.self.lens ≡ slice_set mid c.args.low (slice_index mid c.args.low + (sum (take c.args.high c.args.lens.now.lens) - sum (take c.args.low c.args.lens.now.lens) + c.args.more)) =
    c.grow.ensures.lens ∙ ap (λ by. slice_set mid c.args.low (slice_index mid c.args.low + (by + c.args.more))) gone in
    let among : c.args.low < length mid = omega (arith, c.if-low-len.true, c.len.ensures.count) in
    closed_up c.args.lens.now.lens mid c.grow.new.self.lens c.shrink.new.self.lens c.args.low c.args.high c.args.less c.args.more c.requires.order c.requires.within among c.take_out.ensures.lens grown
    c.shrink.ensures.lens (cut_long c.args.lens.now.lens mid c.grow.new.self.lens c.args.low c.args.high c.args.less c.args.more c.requires.order c.requires.within among c.take_out.ensures.lens grown c.requires.long)
