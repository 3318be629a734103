use Rattle.std.proofs.Common.{◌≡◌, ◌≤◌, ◌+◌, List, length, drop}
use Rattle.ve_base.specs.declared.value.Value.{Value}
use Rattle.model_items.specs.Plain.{plain_list}
use Rattle.model_edit.specs.Wrap.{opening_claims, first_wrong}
use Rattle.ve_build_shape.proofs.claims.wrong_opening.Given as goal

-- what is left is wrong where all is
abbrev pub invariant-loop-i : goal.invariant-loop-i
invariant-loop-i l = record {
  fits : l.fn.at + l.i ≤ length l.fn.doc.list.now.items;
  means : (values : List Value) →
      first_wrong (opening_claims (plain_list values l.fn.doc.list.now.items) (l.fn.at + l.i) (drop l.i l.fn.kinds))
      ≡ first_wrong (opening_claims (plain_list values l.fn.doc.list.now.items) l.fn.at l.fn.kinds);
}
