use Rattle.std.proofs.Common.{◌≡◌, drop, map}
use Rattle.serde_json.specs.View.{view}
use Rattle.model_world.specs.Values.{all_read}
use Rattle.model_world.specs.Attributes.{mark_in}
use Rattle.ve_json.proofs.ListLemmas.{read_on}
use Rattle.ve_json.proofs.attributes.marks_in.Given as goal

abbrev pub invariant-loop-json : goal.invariant-loop-json
invariant-loop-json l = read_on l.marks (mark_in l.exact) (drop l.json-index l.list) ≡ all_read (mark_in l.exact) (map view l.list)
