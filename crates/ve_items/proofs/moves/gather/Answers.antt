use Rattle.std.proofs.Common.{◌≡◌, ◌+◌, ◌++◌, length, arith, ap, ◌∙◌, length-append}
use Rattle.ve_items.specs.Blocks.{joined}
use Rattle.ve_items.specs.Stacked.{from_top}
use Rattle.ve_items.proofs.Blocks.{sizes_below, items_put, length_both}
use Rattle.ve_items.proofs.moves.gather.Goals as goal

pub put-requires-clause-fits : goal.put-requires-clause-fits
put-requires-clause-fits c =
    let now = length_both c.loop-block.before.blocks _ _ _ c.in-Some.ensures.blocks in
    let same : length (joined c.loop-block.before.blocks ++ from_top c.loop-block.after.blocks) ≡ length (joined c.args.before.now.blocks ++ from_top c.args.after.now.blocks) = ap length c.loop-block.invariant.items in
    let first = length-append (joined c.args.before.now.blocks) (from_top c.args.after.now.blocks) in
    omega (arith, c.requires.fits)

pub loop-block-preserved : goal.loop-block-preserved
loop-block-preserved c =
    let inv = c.loop-block.invariant in
    let was = c.in-Some.ensures.blocks in
    let popped : length c.loop-block.after.blocks ≡ length c.pop.new.self.blocks + 1 = ap length was ∙ length-append c.pop.new.self.blocks _ in
    record {
      rule = c.put.ensures.rule;
      sizes = sizes_below _ _ _ was inv.sizes;
      items = items_put c.loop-block.before.blocks c.put.new.before.blocks _ _ _ was c.put.ensures.items ∙ inv.items;
      count = omega (arith, inv.count, c.put.ensures.count);
      room_before = cc;
      kept = omega (arith, inv.kept, c.put.ensures.kept);
      capacity = omega (arith, inv.capacity, c.put.ensures.capacity);
      room_after = cc;
    }
