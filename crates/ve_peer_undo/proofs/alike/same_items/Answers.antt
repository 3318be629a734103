use Rattle.std.proofs.Common.{arith, subst}
use Rattle.std.specs.Bool.{IsTrue}
use Rattle.ve_peer_undo.specs.Alike.{seen}
use Rattle.ve_peer_undo.proofs.AlikeLemmas.{they_differ}
use Rattle.ve_peer_undo.proofs.alike.same_items.Goals as goal

pub returns-then-not-same_item : goal.returns-then-not-same_item
returns-then-not-same_item c =
    let below = c.loop-i-test.true in
    let same = c.if-one-other.false in (
      λ h. absurd (cc),
      λ h. absurd (they_differ (seen c.args.values.now) (seen c.args.others.now) c.args.one.now c.args.other.now c.loop-i.i _ _ below (omega (arith, below, same))
          (λ e. let told = subst IsTrue c.if-not-same_item.true (c.same_item.ensures.1 e) in cc) h),
    )
