use Rattle.std.proofs.Common.{◌≡◌, ◌≤◌, ◌+◌, ◌-◌, [], length, take, drop, arith, ap, ◌∙◌, length-append, length-take, length-drop}
use Rattle.ve_items.specs.Stacked.{top}
use Rattle.ve_items.proofs.Blocks.{top_was, sizes_below, sizes_pushed}
use Rattle.ve_items.proofs.moves.cut.Goals as goal

pub returns-then-len-gt0-clause-sizes : goal.returns-then-len-gt0-clause-sizes
returns-then-len-gt0-clause-sizes c =
    let was = c.in-Some.ensures.blocks in
    let old = c.args.after.now.blocks in
    let below = c.pop.new.self.blocks in
    let all : length old ≡ length below + 1 = ap length was ∙ length-append below _ in
    let size = c.requires.sizes (length old - 1) [] (omega (arith, all)) in
    let on_top : length (top old) ≡ length c.in-Some.first = ap length (top_was _ _ c.in-Some.first was) in
    let shown = c.as_slice.result.now in
    let rest = take (length shown - c.args.offset) (drop c.args.offset shown) in
    let long : length c.append.new.self ≡ length c.clear.new.self + length rest = ap length c.append.ensures ∙ length-append c.clear.new.self rest in
    let most : length rest ≤ length shown = omega (arith, length-take (length shown - c.args.offset) (drop c.args.offset shown), length-drop c.args.offset shown) in
    sizes_pushed _ _ _ c.push.ensures.blocks (sizes_below _ _ c.in-Some.first was c.requires.sizes)
    (omega (arith, c.len.ensures, c.if-len-gt0.true), omega (arith, long, most, on_top, size.1, ap length c.as_slice.ensures, ap length c.clear.ensures))

pub returns-else-len-gt0-clause-sizes : goal.returns-else-len-gt0-clause-sizes
returns-else-len-gt0-clause-sizes c = sizes_below _ _ c.in-Some.first c.in-Some.ensures.blocks c.requires.sizes
