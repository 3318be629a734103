use Rattle.std.proofs.Common.{◌≡◌, ◌≤◌, ◌-◌, ◌++◌, false, drop, nat_lt, slice_range}
use Rattle.serde_json.specs.Written.{items_text}
use Rattle.model_items.specs.Plain.{plain_list}
use Rattle.model_world.specs.Shown.{all_shown, json_items, as_shown}
use Rattle.ve_json.specs.Runs.{plain_before}
use Rattle.ve_json.proofs.item_replies.push_items.Given as goal

-- what is spelled, with what is left, is the whole range
abbrev pub invariant-items : goal.invariant-items
invariant-items l =
    let items = plain_before l.to l.store l.list.items in
    let range = slice_range (plain_list l.store l.list.items) l.from l.to in
    record {
      on : l.from ≤ l.at;
      within : l.at ≤ l.to;
      text : l.out.text ++ items_text (nat_lt l.from l.at) (json_items (all_shown (as_shown (drop l.at items)))) ≡ l.initial.out.text ++ items_text false (json_items (all_shown (as_shown range)));
      before : l.out.before ≡ l.initial.out.before;
    }

abbrev pub decreases-items : goal.decreases-items
decreases-items l = l.to - l.at
