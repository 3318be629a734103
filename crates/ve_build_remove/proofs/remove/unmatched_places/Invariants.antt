use Rattle.std.proofs.Common.{◌≡◌, List, filter}
use Rattle.ve_base.specs.declared.value.Value.{Value}
use Rattle.model_items.specs.Plain.{plain_list}
use Rattle.model_items.specs.Offsets.{is_unmatched, places_in}
use Rattle.ve_build_remove.proofs.remove.unmatched_places.Given as goal

abbrev pub invariant-loop-at : goal.invariant-loop-at
invariant-loop-at l = (values : List Value) →
    l.all.items ≡ filter (is_unmatched (plain_list values l.fn.doc.list.now.items) l.fn.from l.fn.to) (places_in l.fn.from l.at)
