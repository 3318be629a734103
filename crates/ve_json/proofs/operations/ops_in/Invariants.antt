use Rattle.std.proofs.Common.{◌≡◌, drop, map}
use Rattle.serde_json.specs.View.{view}
use Rattle.model_world.specs.Values.{all_read}
use Rattle.model_world.specs.Operations.{op_in}
use Rattle.ve_json.proofs.ListLemmas.{read_on}
use Rattle.ve_json.proofs.operations.ops_in.Given as goal

abbrev pub invariant-loop-json : goal.invariant-loop-json
invariant-loop-json l = read_on l.ops (op_in l.exact) (drop l.json-index l.list) ≡ all_read (op_in l.exact) (map view l.list)
