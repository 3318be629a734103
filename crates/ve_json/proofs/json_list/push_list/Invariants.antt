use Rattle.std.proofs.Common.{◌≡◌, ◌++◌, drop, map, nat_lt, false}
use Rattle.serde_json.specs.Written.{items_text}
use Rattle.model_world.specs.Shown.{json_items}
use Rattle.ve_json.proofs.json_list.push_list.Given as goal

-- what is spelled, with what is left, is the whole list
abbrev pub invariant-loop-i : goal.invariant-loop-i
invariant-loop-i g l =
    let shown = g.T.Json.shown in
    record {
      text : l.out.text ++ items_text (nat_lt 0 l.i) (json_items (map shown (drop l.i l.members))) ≡ l.initial.out.text ++ items_text false (json_items (map shown l.members));
      before : l.out.before ≡ l.initial.out.before;
    }
