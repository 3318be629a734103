use Rattle.std.proofs.Common.{◌≡◌, List, None, Some, sym, subst, ◌∙◌}
use Rattle.std.proofs.lemmas.Result.{err_from_is_err_and}
use Rattle.model_items.specs.Plain.{plain_list}
use Rattle.model_change.specs.Fault.{Applies, fault}
use Rattle.model_change.specs.Transaction.{edited}
use Rattle.ve_tx.specs.Cites.{TxCites}
use Rattle.ve_tx.specs.Operation.{Operation, by_value, with_positions, unkept, IsNormal}
use Rattle.ve_tx.specs.Spliced.{spliced_by}
use Rattle.ve_tx.proofs.NormalLemmas.{total-within}
use Rattle.ve_tx.proofs.ValuesLemmas.{unkept_cites}
use Rattle.ve_tx.proofs.ChangeLemmas.{fault-found, refused-by, refused-memory, applied-is, view-lent}
use Rattle.ve_tx.proofs.transaction.Transaction.change.Goals as goal

pub check-requires-clause-within : goal.check-requires-clause-within
check-requires-clause-within c = rw c.as_slice.ensures.value (total-within c.self.inside.ops.items c.self.inside.kept.items c.self.invariant)

pub check-requires-clause-cites : goal.check-requires-clause-cites
check-requires-clause-cites c =
    subst (λ ops. TxCites c.args.store.now (unkept ops)) (sym c.as_slice.ensures.value)
    (unkept_cites c.args.store.now c.self.inside.ops.items c.self.inside.kept.items (subst (TxCites c.args.store.now) (sym c.self.view_is) c.requires.cites))

pub returns-in_err-check-clause-refused : goal.returns-in_err-check-clause-refused
returns-in_err-check-clause-refused c =
    let p = err_from_is_err_and c.from_residual.result c.from_residual.ensures.1 in
    rw p.1
    (refused-by (fault (by_value c.args.store.now c.args.self.now) (plain_list c.args.store.now c.args.list.now.items)) p.0 c.in_err-check.field-0.0
    (fault-found c.args.store.now c.args.self.now c.self.inside.ops.items c.as_slice.result.now c.self.inside.kept.items c.args.list.now.items (Some c.in_err-check.field-0.0) c.self.view_is c.self.invariant c.as_slice.ensures.value
    c.in_err-check.ensures.err) p.2)

pub prepared-requires-clause-normal : goal.prepared-requires-clause-normal
prepared-requires-clause-normal c =
    let view : with_positions c.as_slice-2.result.now c.as_slice-3.result.now ≡ with_positions c.self.inside.ops.items c.self.inside.kept.items =
    view-lent c.self.inside.ops.items c.as_slice-2.result.now c.self.inside.kept.items c.as_slice-3.result.now c.args.self.now c.as_slice-2.ensures.value c.as_slice-3.ensures.value c.self.view_is ∙ sym c.self.view_is in
    let P : List Operation → Type 0 = IsNormal in
    subst P (sym view) c.self.invariant

pub prepared-requires-clause-applies : goal.prepared-requires-clause-applies
prepared-requires-clause-applies c =
    let view : with_positions c.as_slice-2.result.now c.as_slice-3.result.now ≡ c.args.self.now =
    view-lent c.self.inside.ops.items c.as_slice-2.result.now c.self.inside.kept.items c.as_slice-3.result.now c.args.self.now c.as_slice-2.ensures.value c.as_slice-3.ensures.value c.self.view_is in
    subst (λ tx. Applies (by_value c.args.store.now tx) (plain_list c.args.store.now c.args.list.now.items)) (sym view)
    (fault-found c.args.store.now c.args.self.now c.self.inside.ops.items c.as_slice.result.now c.self.inside.kept.items c.args.list.now.items None c.self.view_is c.self.invariant c.as_slice.ensures.value c.in_ok-check.ensures.ok)

pub returns-in-Ok-clause-applied : goal.returns-in-Ok-clause-applied
returns-in-Ok-clause-applied c =
    let view : with_positions c.as_slice-2.result.now c.as_slice-3.result.now ≡ c.args.self.now =
    view-lent c.self.inside.ops.items c.as_slice-2.result.now c.self.inside.kept.items c.as_slice-3.result.now c.args.self.now c.as_slice-2.ensures.value c.as_slice-3.ensures.value c.self.view_is in
    let new = plain_list c.prepared.new.store (spliced_by c.args.list.now.items c.in-Ok.change.splices.items) in
    applied-is (by_value c.args.store.now c.args.self.now) (plain_list c.args.store.now c.args.list.now.items) new
    (fault-found c.args.store.now c.args.self.now c.self.inside.ops.items c.as_slice.result.now c.self.inside.kept.items c.args.list.now.items None c.self.view_is c.self.invariant c.as_slice.ensures.value c.in_ok-check.ensures.ok)
    (subst (λ tx. new ≡ edited (by_value c.args.store.now tx) (plain_list c.args.store.now c.args.list.now.items)) view c.in-Ok.ensures.changed)

pub returns-in-Err-clause-refused : goal.returns-in-Err-clause-refused
returns-in-Err-clause-refused c =
    refused-memory (fault (by_value c.args.store.now c.args.self.now) (plain_list c.args.store.now c.args.list.now.items))
    (fault-found c.args.store.now c.args.self.now c.self.inside.ops.items c.as_slice.result.now c.self.inside.kept.items c.args.list.now.items None c.self.view_is c.self.invariant c.as_slice.ensures.value c.in_ok-check.ensures.ok)
