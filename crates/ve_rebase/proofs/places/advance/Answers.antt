use Rattle.std.proofs.Common.{◌≤◌, ◌+◌, ◌^◌, drop, sym, ap, subst, ◌∙◌}
use Rattle.model_change.specs.Join.{some_meet}
use Rattle.ve_tx.specs.Normal.{total_size}
use Rattle.ve_rebase.specs.Places.{places}
use Rattle.ve_rebase.proofs.PlaceLemmas.{advance_next, room_next}
use Rattle.ve_rebase.proofs.places.advance.Goals as goal

pub loop-i-preserved : goal.loop-i-preserved
loop-i-preserved c =
    let ops = c.args.ops.now in
    let at = c.loop-i.at in
    let i = c.loop-i.i in
    let o = c.index-ops-i.result in
    record {
      small = subst (λ n. at + n + total_size (drop (i + 1) ops) ≤ 2 ^ 62) (sym c.passes-at.ensures)
          (room_next at i (2 ^ 62) ops o c.loop-i-test.true c.index-ops-i.is c.loop-i.invariant.small);
      skipped = λ cs h.
          c.loop-i.invariant.skipped cs h
          ∙ (advance_next c.args.to at i ops o cs c.loop-i-test.true c.index-ops-i.is h c.if-at-to.false
          ∙ ap (λ n. some_meet cs (places (at + n) (drop (i + 1) ops))) (sym c.passes-at.ensures));
    }
