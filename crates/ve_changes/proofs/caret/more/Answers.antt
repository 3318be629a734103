use Rattle.std.proofs.Common.{subst}
use Rattle.std.proofs.lemmas.List.{take_all}
use Rattle.ve_changes.specs.TypedCarets.{SeesMore}
use Rattle.ve_changes.proofs.TypedCaretLemmas.{sees_next, sees_none}
use Rattle.ve_changes.proofs.caret.more.Goals as goal

pub loop-item-init : goal.loop-item-init
loop-item-init c = sees_none c.args.first

pub loop-item-preserved : goal.loop-item-preserved
loop-item-preserved c = sees_next c.args.first c.loop-item.seen c.in_ok-seen.seen c.args.items.now c.loop-item.item-index _ c.loop-item-test.true c.loop-item.invariant c.in_ok-seen.ensures

pub returns : goal.returns
returns c = subst (λ l. SeesMore c.args.first l c.loop-item.seen) (take_all c.loop-item.item-index c.args.items.now c.loop-item-test.false) c.loop-item.invariant
