use Rattle.std.proofs.Common.{sym, ap, ◌∙◌, arith}
use Rattle.ve_peer_undo.specs.Alike.{seen_tx}
use Rattle.ve_peer_undo.proofs.AlikeLemmas.{they_differ}
use Rattle.ve_peer_undo.proofs.alike.same_transactions.Goals as goal

pub returns-then-not-same_transaction : goal.returns-then-not-same_transaction
returns-then-not-same_transaction c =
    let below = c.loop-i-test.true in
    let f = seen_tx c.args.values.now in
    let g = seen_tx c.args.others.now in (
      λ h. absurd (cc),
      λ h. absurd (they_differ f g c.args.one.now c.args.other.now c.loop-i.i c.index-one-i.result c.index-other-i.result below (omega (arith, below, c.if-one-other.false))
          (λ e. let told = c.same_transaction.ensures.1 (ap f c.index-one-i.is ∙ (e ∙ ap g (sym c.index-other-i.is))) in let no = sym told ∙ c.if-not-same_transaction.true in cc) h),
    )
