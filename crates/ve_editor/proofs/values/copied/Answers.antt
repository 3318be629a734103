use Rattle.std.proofs.Common.{◌≡◌, ◌++◌, ◌∷◌, ◌+◌, [], length, slice_get, Some, sym, ◌∙◌, ap}
use Rattle.ve_editor.proofs.GrownLemmas.{copied_more}
use Rattle.ve_editor.proofs.values.copied.Goals as goal

pub loop-place-preserved : goal.loop-place-preserved
loop-place-preserved c =
    let values = c.args.store.now in
    let more = c.args.new.now.values in
    let place : c.in-Some.id ≡ length values + c.loop-place.place = c.in-Some.ensures.1 ∙ ap (λ n. n + c.loop-place.place) c.len-before.ensures.count in
    let there : slice_get (values ++ more) (length values + c.loop-place.place) ≡ Some c.in_ok-copy.field-0 =
    ap (slice_get (values ++ more)) (sym place) ∙ c.get.ensures ∙ ap Some (sym c.in_ok-copy.ensures) in
    c.in_ok-push.ensures.ok ∙ ap (λ l. l ++ c.in_ok-copy.field-0 ∷ []) c.loop-place.invariant ∙ sym (copied_more values more c.loop-place.place c.in_ok-copy.field-0 there)
