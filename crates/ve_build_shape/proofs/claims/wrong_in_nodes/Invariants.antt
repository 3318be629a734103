use Rattle.std.proofs.Common.{◌≡◌, List, drop}
use Rattle.std.specs.Prelude.{flat_map}
use Rattle.ve_base.specs.declared.value.Value.{Value}
use Rattle.model_items.specs.Plain.{plain_list}
use Rattle.model_edit.specs.Wrap.{node_claims, first_wrong}
use Rattle.ve_build_shape.proofs.claims.wrong_in_nodes.Given as goal

-- what is left is wrong where all is
abbrev pub invariant-loop-i : goal.invariant-loop-i
invariant-loop-i l = (values : List Value) →
    first_wrong (flat_map (node_claims (plain_list values l.fn.doc.list.now.items) l.fn.kinds) (drop l.i l.fn.nodes))
    ≡ first_wrong (flat_map (node_claims (plain_list values l.fn.doc.list.now.items) l.fn.kinds) l.fn.nodes)
