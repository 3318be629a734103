use Rattle.std.proofs.Common.{◌≡◌, ◌≤◌, ◌+◌, ◌++◌, List}
use Rattle.ve_base.specs.declared.value.Value.{Value}
use Rattle.model_items.specs.Plain.{plain_list}
use Rattle.ve_build_shape.proofs.NodeLemmas.{starts_from}
use Rattle.ve_build_shape.proofs.nodes.nodes_in.Given as goal

-- the nodes so far and those of what is left are all of them
abbrev pub invariant-loop-at : goal.invariant-loop-at
invariant-loop-at l = record {
  few : l.depth + l.fn.from ≤ l.at;
  means : (values : List Value) →
      l.nodes.items ++ starts_from (plain_list values l.fn.doc.list.now.items) l.depth l.at l.fn.to
      ≡ starts_from (plain_list values l.fn.doc.list.now.items) 0 l.fn.from l.fn.to;
}
