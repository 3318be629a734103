use Rattle.std.proofs.Common.{◌≡◌, ◌++◌, [], List, ap, subst, ◌∙◌}
use Rattle.model_change.specs.Transaction.{is_normal}
use Rattle.ve_tx.specs.Cites.{TxCites}
use Rattle.ve_tx.specs.Copied.{ReadsAlike}
use Rattle.ve_tx.specs.Operation.{Operation, by_value, with_positions, IsNormal}
use Rattle.ve_tx.proofs.EndsLemmas.{normal-values}
use Rattle.ve_tx.proofs.transaction.Transaction.recited.Goals as goal

pub returns-clause-alike : goal.returns-clause-alike
returns-clause-alike c =
    let made = with_positions c.in_ok-made.made.ops.items c.in_ok-made.made.kept.items in
    let own : with_positions c.as_slice.result.now c.as_slice-2.result.now ≡ c.args.self.now =
    (λ j. with_positions (c.as_slice.ensures.value j) (c.as_slice-2.ensures.value j)) ∙ c.self.view_is in
    subst (λ tx. ReadsAlike by_value TxCites c.args.store.now c.ops.new.self.values tx made) own c.in_ok-made.ensures.alike

pub invariant_of-result : goal.invariant_of-result
invariant_of-result c values =
    let made = with_positions c.in_ok-made.made.ops.items c.in_ok-made.made.kept.items in
    let own : with_positions c.as_slice.result.now c.as_slice-2.result.now ≡ c.args.self.now =
    (λ j. with_positions (c.as_slice.ensures.value j) (c.as_slice-2.ensures.value j)) ∙ c.self.view_is in
    let alike : ReadsAlike by_value TxCites c.args.store.now c.ops.new.self.values c.args.self.now made =
    subst (λ tx. ReadsAlike by_value TxCites c.args.store.now c.ops.new.self.values tx made) own c.in_ok-made.ensures.alike in
    let P : List Operation → Type 0 = IsNormal in
    normal-values values (c.ops.new.self.values ++ []) made ∙ ap is_normal (alike []).0 ∙ subst P c.self.view_is c.self.invariant c.args.store.now
