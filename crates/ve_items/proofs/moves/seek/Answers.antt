use Rattle.std.proofs.Common.{◌≡◌, ◌+◌, length, arith, ap, ◌∙◌, length-append}
use Rattle.ve_items.specs.Blocks.{joined}
use Rattle.ve_items.specs.Stacked.{top}
use Rattle.ve_items.proofs.Blocks.{rule_below, rule_top, sizes_pushed, items_moved, joined_was, top_was}
use Rattle.ve_items.proofs.moves.seek.Goals as goal

pub loop-before-preserved : goal.loop-before-preserved
loop-before-preserved c =
    let was = c.in-Some.ensures.blocks in
    let is = c.push.ensures.blocks in
    let inv = c.loop-before.invariant in
    let block = c.in-Some.block in
    let all : length (joined c.loop-before.before.blocks) ≡ length (joined c.pop.new.self.blocks) + length block = ap length (joined_was _ _ block was) ∙ length-append (joined c.pop.new.self.blocks) block in
    let on_top : length (top c.push.new.self.blocks) ≡ length block = ap length (top_was _ _ block is) in
    let popped : length c.loop-before.before.blocks ≡ length c.pop.new.self.blocks + 1 = ap length was ∙ length-append c.pop.new.self.blocks _ in
    let pushed : length c.push.new.self.blocks ≡ length c.loop-before.after.blocks + 1 = ap length is ∙ length-append c.loop-before.after.blocks _ in
    record {
      rule = rule_below _ _ block was inv.rule;
      sizes = sizes_pushed _ _ block is inv.sizes (rule_top _ _ block was inv.rule);
      items = items_moved _ _ _ _ block was is ∙ inv.items;
      inside = omega arith;
      count = omega arith;
      room_before = cc;
      room_after = cc;
    }
