use Rattle.std.proofs.Common.{◌≡◌, ◌≤◌, List, length}
use Rattle.ve_base.specs.declared.value.Value.{Value}
use Rattle.model_items.specs.Plain.{plain_list}
use Rattle.model_edit.specs.Wrap.{closing_claims, first_wrong}
use Rattle.ve_build_shape.proofs.claims.wrong_closing.Given as goal

abbrev pub decreases-loop-left : goal.decreases-loop-left
decreases-loop-left l = l.left

-- what is left is wrong where all is
abbrev pub invariant-loop-left : goal.invariant-loop-left
invariant-loop-left l = record {
  few : l.left ≤ l.fn.count;
  fits : l.place ≤ length l.fn.doc.list.now.items;
  means : (values : List Value) →
      first_wrong (closing_claims (plain_list values l.fn.doc.list.now.items) l.fn.first l.left l.place)
      ≡ first_wrong (closing_claims (plain_list values l.fn.doc.list.now.items) l.fn.first l.fn.count l.fn.at);
}
