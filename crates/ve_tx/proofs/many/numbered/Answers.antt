use Rattle.std.proofs.Common.{get_or, ap}
use Rattle.std.specs.BTreeMap.{get_by_text}
use Rattle.ve_tx.proofs.ManyLemmas.{next_indexed}
use Rattle.ve_tx.proofs.many.numbered.Goals as goal

pub loop-i-preserved : goal.loop-i-preserved
loop-i-preserved c =
    let slots = c.args.attrs.now in
    let here = ap (λ d. get_or slots c.loop-i.i d) c.index-attrs-i.is in
    next_indexed slots (get_by_text c.loop-i.numbers) (get_by_text c.note.new.numbers) c.loop-i.i _ c.requires c.loop-i-test.true here c.note.ensures.spelled c.loop-i.invariant c.in_ok-note.ensures.ok
