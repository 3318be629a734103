use Rattle.std.proofs.Common.{◌≡◌, ◌+◌, ◌-◌, ◌<◌, ◌≤◌, length, min, take, drop, arith, ap, ◌∙◌}
use Rattle.std.proofs.lemmas.List.{length-take-le}
use Rattle.std.proofs.Common.{length-drop}
use Rattle.ve_items.specs.Blocks.{joined}
use Rattle.ve_items.proofs.PositionLemmas.{inside_block, range_to}
use Rattle.ve_items.proofs.linear.Linear.last_piece.Goals as goal

pub returns-clause-items : goal.returns-clause-items
returns-clause-items c =
    let blocks = c.self.inside.table.blocks in
    let block = c.block-block.result.now in
    let to = c.args.to in
    let offset = c.find-k.result.1 in
    let many = c.min.result in
    let least : many ≡ min (offset + 1) (to - c.args.from) = c.min.ensures in
    let order : c.args.from < to = c.requires.order in
    let some : 0 < many = omega arith in
    let fits : many ≤ offset + 1 = omega arith in
    let inside = inside_block blocks block (to - 1) c.find-k.result.0 offset c.find-k.ensures c.block-block.ensures in
    let size = length-drop (offset + 1 - many) block in
    let is_many : offset + 1 - (offset + 1 - many) ≡ many = omega arith in
    let piece = take (offset + 1 - (offset + 1 - many)) (drop (offset + 1 - many) block) in
    let lent : length piece ≡ many = length-take-le (offset + 1 - (offset + 1 - many)) (drop (offset + 1 - many) block) (omega arith) ∙ is_many in
    let starts : to - 1 + 1 - many ≡ to - length piece = omega arith in
    let below : many ≤ to = omega arith in
    let counts : many ≡ to - (to - length piece) = omega arith in
    ap (λ n. take n (drop (offset + 1 - many) block)) is_many
    ∙ range_to blocks block (to - 1) c.find-k.result.0 offset many c.find-k.ensures c.block-block.ensures some fits
    ∙ ap (λ n. take n (drop (to - 1 + 1 - many) (joined blocks))) counts
    ∙ ap (λ n. take (to - (to - length piece)) (drop n (joined blocks))) starts
    ∙ ap (λ row. take (to - (to - length piece)) (drop (to - length piece) row.items)) c.self.view_is
