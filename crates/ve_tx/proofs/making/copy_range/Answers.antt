use Rattle.std.proofs.Common.{◌≡◌, ◌+◌, ◌-◌, length, take, drop, ap, ◌∙◌, arith}
use Rattle.ve_tx.proofs.MakingLemmas.{copied-more}
use Rattle.ve_tx.proofs.making.copy_range.Goals as goal

pub loop-at-preserved : goal.loop-at-preserved
loop-at-preserved c =
    let inv = c.loop-at.invariant in
    let items = c.args.list.now.items in
    let piece = c.piece-piece.result.now in
    let at = c.loop-at.at in
    let many : at + length piece - at ≡ length piece = omega arith in
    record {
      begun = omega arith;
      within = c.piece-piece.ensures.within;
      items = copied-more items c.args.items.now c.loop-at.items c.extend.new.self piece c.args.from at (length piece) inv.begun inv.items c.in_ok-extend.ensures.ok
          (c.piece-piece.ensures.items ∙ ap (λ n. take n (drop at items)) many);
    }
