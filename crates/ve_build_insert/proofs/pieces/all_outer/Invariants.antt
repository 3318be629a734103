use Rattle.std.proofs.Common.{◌≡◌, ◌≤◌, ◌+◌, List, drop}
use Rattle.std.specs.List.{list_all}
use Rattle.ve_base.specs.declared.value.Value.{Value}
use Rattle.model_items.specs.Plain.{plain_list}
use Rattle.model_edit.specs.Insert.{outer_items}
use Rattle.ve_build_insert.specs.Placed.{item_answer}
use Rattle.ve_build_insert.proofs.pieces.all_outer.Given as goal

abbrev pub invariant-loop-item : goal.invariant-loop-item
invariant-loop-item l = record {
  within : l.depth ≤ l.fn.round + l.item-index;
  rest : (values : List Value) →
      list_all (item_answer l.fn.question) (outer_items l.depth (plain_list values (drop l.item-index l.fn.pieces)))
      ≡ list_all (item_answer l.fn.question) (outer_items l.fn.round (plain_list values l.fn.pieces));
}
