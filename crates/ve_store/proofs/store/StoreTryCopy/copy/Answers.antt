use Rattle.std.proofs.Common.{◌≡◌, ◌<◌, length, slice_get, Some, sym, ap, ◌∙◌, arith}
use Rattle.model_change.specs.Store.{admitted}
use Rattle.ve_store.proofs.StoreLemmas.{admitted_next}
use Rattle.ve_store.proofs.store.StoreTryCopy.copy.Goals as goal

pub loop-place-preserved : goal.loop-place-preserved
loop-place-preserved c =
    let count : c.len-len.result ≡ length c.args.self.now = c.len-len.ensures.count in
    let test : c.loop-place.place < c.len-len.result = c.loop-place-test.true in
    let within : c.loop-place.place < length c.args.self.now = omega arith in
    let stored : slice_get c.args.self.now c.loop-place.place ≡ Some c.in_ok-value.value = c.get.ensures ∙ ap Some (sym c.in_ok-value.ensures) in
    c.in_ok-admit.ensures.ok ∙ ap (λ values. admitted values c.in_ok-value.value) c.loop-place.invariant
    ∙ admitted_next c.args.self.now c.loop-place.place c.in_ok-value.value c.len-len.ensures.distinct within stored
