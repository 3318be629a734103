use Rattle.std.proofs.Common.{◌≡◌, ◌++◌, [], List, sym, ap, subst, ◌∙◌, append-nil}
use Rattle.model_change.specs.Store.{fill}
use Rattle.model_change.specs.Transaction.{is_normal}
use Rattle.ve_tx.specs.Cites.{TxCites}
use Rattle.ve_tx.specs.Copied.{ReadsAlike}
use Rattle.ve_tx.specs.Operation.{Operation, by_value, with_positions, IsNormal}
use Rattle.ve_tx.specs.Parcel.{transaction_cited_in}
use Rattle.ve_tx.proofs.EndsLemmas.{normal-values}
use Rattle.ve_tx.proofs.TakenLemmas.{removed_adds_nothing}
use Rattle.ve_tx.proofs.transaction.Transaction.recite.Goals as goal

pub invariant_of-result : goal.invariant_of-result
invariant_of-result c values =
    let made = with_positions c.in-Ok.made.ops.items c.in-Ok.made.kept.items in
    let own : with_positions c.as_slice.result.now c.as_slice-2.result.now ≡ c.args.self.now =
    (λ j. with_positions (c.as_slice.ensures.value j) (c.as_slice-2.ensures.value j)) ∙ c.self.view_is in
    let alike : ReadsAlike by_value TxCites c.args.values.now c.ops.new.store c.args.self.now made =
    subst (λ tx. ReadsAlike by_value TxCites c.args.values.now c.ops.new.store tx made) own c.in-Ok.ensures.alike in
    let P : List Operation → Type 0 = IsNormal in
    normal-values values (c.ops.new.store ++ []) made ∙ ap is_normal (alike []).0 ∙ subst P c.self.view_is c.self.invariant c.args.values.now

pub returns-in-Ok-clause-same : goal.returns-in-Ok-clause-same
returns-in-Ok-clause-same c =
    let made = with_positions c.in-Ok.made.ops.items c.in-Ok.made.kept.items in
    let own : with_positions c.as_slice.result.now c.as_slice-2.result.now ≡ c.args.self.now =
    (λ j. with_positions (c.as_slice.ensures.value j) (c.as_slice-2.ensures.value j)) ∙ c.self.view_is in
    ap (λ vs. by_value vs made) (sym (append-nil c.ops.new.store)) ∙ (c.in-Ok.ensures.alike []).0 ∙ ap (by_value c.args.values.now) own

pub returns-in-Ok-clause-cites : goal.returns-in-Ok-clause-cites
returns-in-Ok-clause-cites c =
    let made = with_positions c.in-Ok.made.ops.items c.in-Ok.made.kept.items in
    subst (λ vs. TxCites vs made) (append-nil c.ops.new.store) (c.in-Ok.ensures.alike []).1

pub returns-in-Ok-clause-inserted : goal.returns-in-Ok-clause-inserted
returns-in-Ok-clause-inserted c has =
    let own : with_positions c.as_slice.result.now c.as_slice-2.result.now ≡ c.args.self.now =
    (λ j. with_positions (c.as_slice.ensures.value j) (c.as_slice-2.ensures.value j)) ∙ c.self.view_is in
    c.in-Ok.ensures.filled ∙ ap (λ tx. fill c.args.store.now (transaction_cited_in c.args.values.now tx)) own
    ∙ removed_adds_nothing c.args.store.now (by_value c.args.values.now c.args.self.now) has
