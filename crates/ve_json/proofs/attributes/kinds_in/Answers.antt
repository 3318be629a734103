use Rattle.std.proofs.Common.{◌+◌, drop, ap, ◌∙◌}
use Rattle.model_world.specs.Attributes.{branch_in}
use Rattle.ve_json.proofs.ListLemmas.{read_on, read_next}
use Rattle.ve_json.proofs.attributes.kinds_in.Goals as goal

pub loop-json-preserved : goal.loop-json-preserved
loop-json-preserved c =
    let i = c.loop-json.json-index in
    ap (λ l. read_on l branch_in (drop (i + 1) c.in_ok-list.list.now)) c.in_ok-push.ensures.ok
    ∙ read_next c.loop-json.kinds branch_in c.in_ok-list.list.now i c.json-item.result c.in_ok-kind.kind c.loop-json-test.true c.json-item.is (cc (c.branch_in.ensures, c.in_ok-kind.ensures.ok_part))
    ∙ c.loop-json.invariant
