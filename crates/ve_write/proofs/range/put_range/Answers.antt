use Rattle.std.proofs.Common.{arith}
use Rattle.std.proofs.lemmas.List.{length-map}
use Rattle.model_items.specs.Plain.{plain}
use Rattle.ve_write.specs.Told.{text_of}
use Rattle.ve_write.proofs.CutLemmas.{cut_cites, cut_refers, range_done}
use Rattle.ve_write.proofs.range.put_range.Goals as goal

pub cut_out-requires-clause-order : goal.cut_out-requires-clause-order
cut_out-requires-clause-order c = c.requires.siblings.order

pub cut_out-requires-clause-within : goal.cut_out-requires-clause-within
cut_out-requires-clause-within c =
    let same = length-map c.args.list.now.items (plain c.args.store.now) in
    let within = c.requires.siblings.within in
    omega (arith, same, within)

pub put_blocks-requires-clause-cites : goal.put_blocks-requires-clause-cites
put_blocks-requires-clause-cites c = cut_cites c.args.store.now c.args.list.now.items c.in_ok-cut.cut.items c.args.from c.args.to c.requires.cites c.in_ok-cut.ensures

pub put_blocks-requires-clause-refers : goal.put_blocks-requires-clause-refers
put_blocks-requires-clause-refers c = cut_refers c.args.store.now c.args.list.now.items c.in_ok-cut.cut.items c.args.from c.args.to c.requires.refers c.in_ok-cut.ensures

pub returns-clause-text : goal.returns-clause-text
returns-clause-text c =
    range_done c.args.store.now (text_of c.in_ok-texts.texts) c.args.list.now.items c.in_ok-cut.cut.items c.args.from c.args.to c.args.out.now _
    c.requires.lawful c.requires.siblings c.in_ok-cut.ensures c.in_ok-texts.ensures c.in_ok-put_blocks.ensures.text
