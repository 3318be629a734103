use Rattle.std.proofs.Common.{◌≡◌, ◌+◌, ◌-◌, ◌++◌, length, min, take, drop, arith, rules, sym, ap, ◌∙◌, length-append}
use Rattle.ve_items.specs.Blocks.{joined}
use Rattle.ve_items.specs.Stacked.{from_top, top}
use Rattle.ve_items.proofs.Blocks.{from_top_was, top_was, sizes_below, after_nothing}
use Rattle.ve_items.proofs.Pieces.{range_cut, range_gone, cut_shorter}
use Rattle.ve_items.proofs.moves.take_out.Goals as goal

pub returns-after-loop-left-clause-items : goal.returns-after-loop-left-clause-items
returns-after-loop-left-clause-items c =
    ap (λ l. joined c.loop-left.before.blocks ++ l) (sym (range_gone (from_top c.loop-left.after.blocks) c.loop-left.offset c.loop-left.left (omega arith)))
    ∙ c.loop-left.invariant.items

pub loop-left-preserved-then-len-gt0 : goal.loop-left-preserved-then-len-gt0
loop-left-preserved-then-len-gt0 c =
    let inv = c.loop-left.invariant in
    let was = c.in-Some.ensures.blocks in
    let first = c.in-Some.first in
    let rest = from_top c.pop.new.self.blocks in
    let old : from_top c.loop-left.after.blocks ≡ first ++ rest = from_top_was _ _ first was in
    let on_top : length (top c.loop-left.after.blocks) ≡ length first = ap length (top_was _ _ first was) in
    let all : length (from_top c.loop-left.after.blocks) ≡ length first + length rest = ap length old ∙ length-append first rest in
    let popped : length c.loop-left.after.blocks ≡ length c.pop.new.self.blocks + 1 = ap length was ∙ length-append c.pop.new.self.blocks _ in
    let step : c.min-many.result ≡ min (length first - c.loop-left.offset) c.loop-left.left = search rules in
    let shorter = cut_shorter first c.loop-left.offset (c.loop-left.offset + c.min-many.result) (omega arith) in
    let cut_is : length c.cut_out.new.self ≡ length (take c.loop-left.offset first ++ drop (c.loop-left.offset + c.min-many.result) first) = ap length c.cut_out.ensures in
    let put_is : length (joined c.put.new.before.blocks) ≡ length (joined c.loop-left.before.blocks) + length c.cut_out.new.self = ap length c.put.ensures.items ∙ length-append (joined c.loop-left.before.blocks) c.cut_out.new.self in
    record {
      rule = c.put.ensures.rule;
      sizes = sizes_below _ _ first was inv.sizes;
      inside = omega arith;
      within = omega arith;
      items = range_cut _ _ _ first rest _ (from_top c.loop-left.after.blocks) c.loop-left.offset c.loop-left.left (c.loop-left.offset + c.min-many.result) (c.loop-left.left - c.min-many.result) (sym inv.items) old c.cut_out.ensures c.put.ensures.items (omega arith) (omega arith) (omega arith);
      fits = omega (arith, inv.fits);
      count = omega (arith, inv.count, c.put.ensures.count);
      room_before = cc;
      kept = omega (arith, inv.kept, c.put.ensures.kept);
      capacity = omega (arith, inv.capacity, c.put.ensures.capacity);
      room_after = cc;
    }

pub loop-left-preserved : goal.loop-left-preserved
loop-left-preserved c =
    let inv = c.loop-left.invariant in
    let was = c.in-Some.ensures.blocks in
    let first = c.in-Some.first in
    let rest = from_top c.pop.new.self.blocks in
    let old : from_top c.loop-left.after.blocks ≡ first ++ rest = from_top_was _ _ first was in
    let on_top : length (top c.loop-left.after.blocks) ≡ length first = ap length (top_was _ _ first was) in
    let all : length (from_top c.loop-left.after.blocks) ≡ length first + length rest = ap length old ∙ length-append first rest in
    let popped : length c.loop-left.after.blocks ≡ length c.pop.new.self.blocks + 1 = ap length was ∙ length-append c.pop.new.self.blocks _ in
    let step : c.min-many.result ≡ min (length first - c.loop-left.offset) c.loop-left.left = search rules in
    record {
      rule = inv.rule;
      sizes = sizes_below _ _ first was inv.sizes;
      inside = omega arith;
      within = omega arith;
      items = range_cut _ _ _ first rest _ (from_top c.loop-left.after.blocks) c.loop-left.offset c.loop-left.left (c.loop-left.offset + c.min-many.result) (c.loop-left.left - c.min-many.result) (sym inv.items) old c.cut_out.ensures (after_nothing _ _ (omega arith)) (omega arith) (omega arith) (omega arith);
      fits = omega (arith, inv.fits);
      count = omega (arith, inv.count);
      room_before = inv.room_before;
      kept = omega (arith, inv.kept, c.give_back.ensures.count);
      capacity = omega (arith, inv.capacity, c.give_back.ensures.capacity);
      room_after = cc;
    }

pub put-requires-clause-fits : goal.put-requires-clause-fits
put-requires-clause-fits c =
    let was = c.in-Some.ensures.blocks in
    let first = c.in-Some.first in
    let rest = from_top c.pop.new.self.blocks in
    let on_top : length (top c.loop-left.after.blocks) ≡ length first = ap length (top_was _ _ first was) in
    let all : length (from_top c.loop-left.after.blocks) ≡ length first + length rest = ap length (from_top_was _ _ first was) ∙ length-append first rest in
    let shorter = cut_shorter first c.loop-left.offset (c.loop-left.offset + c.min-many.result) (omega arith) in
    let cut_is : length c.cut_out.new.self ≡ length (take c.loop-left.offset first ++ drop (c.loop-left.offset + c.min-many.result) first) = ap length c.cut_out.ensures in
    omega (arith, c.loop-left.invariant.fits)
