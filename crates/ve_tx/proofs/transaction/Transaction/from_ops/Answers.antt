use Rattle.std.proofs.Common.{◌≡◌, true, ap, ◌∙◌, arith}
use Rattle.std.proofs.lemmas.Grind.{common_steps}
use Rattle.model_change.specs.Transaction.{is_normal}
use Rattle.ve_tx.specs.Normal.{are_normal}
use Rattle.ve_tx.specs.Operation.{unkept, by_value, with_positions}
use Rattle.ve_tx.proofs.NormalLemmas.{normal-unkept, normal-tested, unkept-with_positions}
use Rattle.ve_tx.proofs.transaction.Transaction.from_ops.Goals as goal

pub returns-then-not-is_normal-clause-normal : goal.returns-then-not-is_normal-clause-normal
returns-then-not-is_normal-clause-normal c values =
    let law : is_normal (by_value values (unkept c.args.ops)) ≡ are_normal c.args.ops = normal-unkept values c.args.ops in
    grind (arith, common_steps)

pub invariant_of-result : goal.invariant_of-result
invariant_of-result c =
    let taken : c.into_vec-ops.result.items ≡ c.args.ops = c.into_vec-ops.ensures in
    let fine : are_normal c.into_vec-ops.result.items ≡ true = grind (arith, common_steps) in
    normal-tested c.into_vec-ops.result.items c.new.result.items fine

pub returns-clause-normal : goal.returns-clause-normal
returns-clause-normal c values =
    let law : is_normal (by_value values (unkept c.args.ops)) ≡ are_normal c.args.ops = normal-unkept values c.args.ops in
    grind (arith, common_steps)

pub returns-clause-ok : goal.returns-clause-ok
returns-clause-ok c =
    ap (with_positions c.into_vec-ops.result.items) c.new.ensures.items ∙ (unkept-with_positions c.into_vec-ops.result.items ∙ ap unkept c.into_vec-ops.ensures)
