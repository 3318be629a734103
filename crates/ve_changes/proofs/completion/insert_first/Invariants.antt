use Rattle.std.proofs.Common.{◌≡◌, drop}
use Rattle.std.specs.List.{list_any}
use Rattle.ve_changes.specs.Completions.{inserts_first}
use Rattle.ve_changes.proofs.completion.insert_first.Given as goal

abbrev pub invariant-loop-op : goal.invariant-loop-op
invariant-loop-op l = list_any inserts_first (drop l.op-index l.ops) ≡ list_any inserts_first l.ops
