use Rattle.std.proofs.Common.{◌≡◌, ◌++◌, take, drop, ap, ◌∙◌}
use Rattle.ve_items.specs.Blocks.{joined}
use Rattle.ve_items.specs.Stacked.{from_top}
use Rattle.ve_items.proofs.Pieces.{part_prefix, part_rest}
use Rattle.ve_items.proofs.edit.insert.Goals as goal

pub returns-clause-items : goal.returns-clause-items
returns-clause-items c =
    let list = joined c.args.before.now.blocks in
    let opened = c.seek-offset.ensures in
    let offset = c.seek-offset.result in
    let prefix : joined c.cut.new.before.blocks ≡ take c.args.at list = c.cut.ensures.items_before ∙ part_prefix list _ _ offset c.args.at opened.items opened.place in
    let suffix : from_top c.cut.new.after.blocks ≡ drop c.args.at list = c.cut.ensures.items_after ∙ part_rest list (joined c.seek-offset.new.before.blocks) _ offset c.args.at opened.items opened.place in
    c.gather.ensures.items
    ∙ ap (λ l. joined c.fill.new.before.blocks ++ l) suffix
    ∙ ap (λ l. l ++ drop c.args.at list) (c.fill.ensures.items ∙ ap (λ l. l ++ c.args.items.now) prefix)
