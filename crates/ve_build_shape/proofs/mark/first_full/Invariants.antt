use Rattle.std.proofs.Common.{◌≡◌, slice_get, find}
use Rattle.model_items.specs.Offsets.{places_in, passes}
use Rattle.model_items.specs.Plain.{plain_list}
use Rattle.model_edit.specs.Marking.{is_full_for}
use Rattle.ve_build_shape.proofs.mark.first_full.Given as goal

abbrev pub invariant-loop-at : goal.invariant-loop-at
invariant-loop-at l =
    find (λ at. passes (is_full_for l.fn.mark) (slice_get (plain_list l.fn.doc.store.now l.fn.doc.list.now.items) at)) (places_in l.fn.from l.fn.to)
    ≡ find (λ at. passes (is_full_for l.fn.mark) (slice_get (plain_list l.fn.doc.store.now l.fn.doc.list.now.items) at)) (places_in l.at l.fn.to)
