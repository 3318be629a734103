use Rattle.std.proofs.Common.{◌+◌, drop, ap, ◌∙◌}
use Rattle.model_world.specs.Operations.{op_in}
use Rattle.ve_json.proofs.ListLemmas.{read_on, read_next}
use Rattle.ve_json.proofs.operations.ops_in.Goals as goal

pub loop-json-preserved : goal.loop-json-preserved
loop-json-preserved c =
    let i = c.loop-json.json-index in
    ap (λ l. read_on l (op_in c.args.exact) (drop (i + 1) c.in_ok-list.list.now)) c.in_ok-push.ensures.ok
    ∙ read_next c.loop-json.ops (op_in c.args.exact) c.in_ok-list.list.now i c.json-item.result c.in_ok-op.op c.loop-json-test.true c.json-item.is c.in_ok-op.ensures
    ∙ c.loop-json.invariant
