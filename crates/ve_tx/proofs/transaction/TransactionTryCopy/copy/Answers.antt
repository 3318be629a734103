use Rattle.std.proofs.Common.{◌≡◌, ◌∙◌}
use Rattle.ve_tx.proofs.transaction.TransactionTryCopy.copy.Goals as goal

pub invariant_of-result : goal.invariant_of-result
invariant_of-result c =
    let ops : c.into_vec.result.items ≡ c.self.inside.ops.items = c.into_vec.ensures ∙ (c.in_ok-copy_of.ensures ∙ c.as_slice.ensures.value) in
    let kept : c.in_ok-from_slice.field-0.items ≡ c.self.inside.kept.items = c.in_ok-from_slice.ensures.items ∙ c.as_slice-2.ensures.value in
    rw (ops, kept) c.self.invariant
