use Rattle.std.proofs.Common.{◌≡◌, ◌+◌, ◌-◌, length, take, drop, arith, ap, ◌∙◌}
use Rattle.ve_items.proofs.PositionLemmas.{range_more}
use Rattle.ve_items.proofs.linear.Linear.slice.Goals as goal

pub loop-at-preserved : goal.loop-at-preserved
loop-at-preserved c =
    let inv = c.loop-at.invariant in
    let items = c.args.self.now.items in
    let piece = c.piece-piece.result.now in
    let at = c.loop-at.at in
    let many : at + length piece - at ≡ length piece = omega arith in
    record {
      begun = omega arith;
      within = omega arith;
      items = range_more items c.loop-at.copy c.extend.new.self piece c.args.from at (length piece) inv.begun inv.items c.in_ok-extend.ensures.ok (c.piece-piece.ensures.items ∙ ap (λ n. take n (drop at items)) many);
    }
