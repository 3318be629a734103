use Rattle.std.proofs.Common.{◌∙◌}
use Rattle.ve_json.proofs.ListLemmas.{items_next}
use Rattle.ve_json.proofs.item_members.all_items_in.Goals as goal

pub loop-json-preserved : goal.loop-json-preserved
loop-json-preserved c =
    items_next c.args.exact c.loop-json.items c.push_items.new.items c.in_ok-list.list.now c.loop-json.json-index c.json-item.result c.loop-json-test.true c.json-item.is c.in_ok-push_items.ensures.ok
    ∙ c.loop-json.invariant
