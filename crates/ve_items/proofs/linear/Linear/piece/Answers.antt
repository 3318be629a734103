use Rattle.std.proofs.Common.{◌≡◌, ◌+◌, ◌-◌, ◌≤◌, length, min, take, drop, arith, rules, ap, ◌∙◌}
use Rattle.ve_items.specs.Blocks.{joined}
use Rattle.ve_items.proofs.PositionLemmas.{inside_block, range_at, range_length}
use Rattle.ve_items.proofs.linear.Linear.piece.Goals as goal

pub returns-clause-items : goal.returns-clause-items
returns-clause-items c =
    let blocks = c.self.inside.table.blocks in
    let block = c.block-block.result.now in
    let from = c.args.from in
    let offset = c.find-k.result.1 in
    let many = offset + c.min.result - offset in
    let step : c.min.result ≡ min (length block - offset) (c.args.to - from) = search rules in
    let inside = inside_block blocks block from c.find-k.result.0 offset c.find-k.ensures c.block-block.ensures in
    let fits : offset + many ≤ length block = omega arith in
    range_at blocks block from c.find-k.result.0 offset many c.find-k.ensures c.block-block.ensures fits
    ∙ range_length (joined blocks) block from offset many fits
    ∙ ap (λ row. take (from + length (take many (drop offset block)) - from) (drop from row.items)) c.self.view_is
