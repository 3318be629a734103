use Rattle.std.proofs.Common.{◌≡◌, drop, map, option_map}
use Rattle.serde_json.specs.View.{view}
use Rattle.model_world.specs.ItemWords.{items_in, one_list}
use Rattle.model_world.specs.Values.{all_read}
use Rattle.ve_json.proofs.ListLemmas.{items_on}
use Rattle.ve_json.proofs.item_members.all_items_in.Given as goal

abbrev pub invariant-loop-json : goal.invariant-loop-json
invariant-loop-json l = items_on l.exact l.items (drop l.json-index l.list) ≡ option_map one_list (all_read (items_in l.exact) (map view l.list))
