use Rattle.std.proofs.Common.{◌+◌, ◌++◌, length, take, drop, arith, sym, ap, ◌∙◌, append_assoc, length-append}
use Rattle.ve_items.specs.Blocks.{joined}
use Rattle.ve_items.specs.Stacked.{from_top}
use Rattle.ve_items.proofs.Pieces.{part_prefix, part_back, cut_shorter}
use Rattle.ve_items.proofs.edit.remove.Goals as goal

pub take_out-requires-clause-fits : goal.take_out-requires-clause-fits
take_out-requires-clause-fits c =
    let all = ap length c.seek-offset.ensures.items in
    omega (arith, c.requires.fits, length-append (joined c.seek-offset.new.before.blocks) (from_top c.seek-offset.new.after.blocks))

pub gather-requires-clause-fits : goal.gather-requires-clause-fits
gather-requires-clause-fits c =
    let before = joined c.seek-offset.new.before.blocks in
    let after = from_top c.seek-offset.new.after.blocks in
    let offset = c.seek-offset.result in
    let all = ap length c.seek-offset.ensures.items in
    let some = ap length c.take_out.ensures.items in
    let fewer = cut_shorter after offset (offset + c.args.removed) (omega arith) in
    omega (arith, c.requires.fits, length-append before after, length-append before (take offset after ++ drop (offset + c.args.removed) after), length-append (joined c.take_out.new.before.blocks) (from_top c.take_out.new.after.blocks))

pub returns-clause-items : goal.returns-clause-items
returns-clause-items c =
    let list = joined c.args.before.now.blocks in
    let opened = c.seek-offset.ensures in
    let offset = c.seek-offset.result in
    let before = joined c.seek-offset.new.before.blocks in
    let after = from_top c.seek-offset.new.after.blocks in
    c.gather.ensures.items
    ∙ c.take_out.ensures.items
    ∙ sym (append_assoc before (take offset after) (drop (offset + c.args.removed) after))
    ∙ ap (λ l. l ++ drop (offset + c.args.removed) after) (part_prefix list before after offset c.args.at opened.items opened.place)
    ∙ ap (λ l. take c.args.at list ++ l) (part_back list before after offset c.args.removed c.args.at opened.items opened.place)
