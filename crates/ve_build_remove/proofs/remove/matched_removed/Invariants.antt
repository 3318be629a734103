use Rattle.std.proofs.Common.{◌≤◌, List, [], All, not, map, filter}
use Rattle.ve_base.specs.declared.value.Value.{Value}
use Rattle.model_items.specs.Plain.{plain_list, CitesWell}
use Rattle.model_edit.specs.Edits.{Change}
use Rattle.model_items.specs.Offsets.{is_unmatched, places_in}
use Rattle.ve_edits.specs.Collected.{Makes}
use Rattle.ve_build_remove.proofs.remove.matched_removed.Given as goal

abbrev pub invariant-loop-at : goal.invariant-loop-at
invariant-loop-at l = record {
  after : l.edits.at ≤ l.at;
  makes : (values : List Value) → All (CitesWell values) l.fn.doc.list.now.items →
      Makes values l.fn.doc.list.now.items
      (map (λ at. Change at 1 []) (filter (λ at. not (is_unmatched (plain_list values l.fn.doc.list.now.items) l.fn.from l.fn.to at)) (places_in l.fn.from l.at))) l.edits;
}
