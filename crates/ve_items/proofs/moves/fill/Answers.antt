use Rattle.std.proofs.Common.{◌≡◌, ◌+◌, ◌-◌, ◌<◌, length, min, arith, rules}
use Rattle.ve_items.proofs.Pieces.{items_filled}
use Rattle.ve_items.proofs.moves.fill.Goals as goal

pub loop-done-preserved : goal.loop-done-preserved
loop-done-preserved c =
    let inv = c.loop-done.invariant in
    let put = c.put.ensures in
    let some : c.loop-done.done < length c.args.items.now = search rules in
    let step : c.min.result ≡ min (length c.args.items.now - c.loop-done.done) 448 = search rules in
    record {
      rule = put.rule;
      done = omega arith;
      items = items_filled _ _ _ _ _ c.args.items.now c.loop-done.done (c.loop-done.done + c.min.result) inv.items c.clear.ensures c.append.ensures put.items (omega arith);
      count = omega (arith, inv.count, put.count);
      pool = omega (arith, inv.pool, c.in-Some.ensures.len);
      kept = omega (arith, inv.kept, put.kept, c.in-Some.ensures.len);
      capacity = omega (arith, inv.capacity, put.capacity, c.in-Some.ensures.capacity);
      room = cc;
    }
