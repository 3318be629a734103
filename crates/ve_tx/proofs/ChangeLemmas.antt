-- Transactions in normal form: what one is refused for, or that it is applied.
use Rattle.std.proofs.Common.{◌≡◌, ◌≤◌, ◌^◌, ℕ, ◌+◌, true, List, [], ◌∷◌, length, map, Option, Some, None, Result, Ok, Err, OnOk, is_ok, refl, sym, ap, ◌∙◌, subst, arith}
use Rattle.std.proofs.lemmas.Bool.{and_parts, leb-true}
use Rattle.std.proofs.lemmas.List.{length-map}
use Rattle.ve_base.specs.declared.value.Value.{Value}
use Rattle.model_items.specs.declared.item.Item.{Item}
use Rattle.model_items.specs.declared.plain_item.PlainItem.{PlainItem}
use Rattle.model_items.specs.Plain.{plain, plain_list}
use Rattle.model_change.specs.Transaction.{Transaction, edited, is_reduced, is_normal, old_length, total_length, all_inserted}
use Rattle.model_change.specs.declared.tx_fault.TxFault.{TxFault}
use Rattle.model_change.specs.declared.tx_fault.TxFault.TheVariants.{Memory}
use Rattle.model_change.specs.Fault.{fault, apply, apply_unless}
use Rattle.ve_tx.specs.Changed.{IsRefusal, brought_by, brought_count}
use Rattle.ve_tx.specs.Checked.{fault_in}
use Rattle.ve_tx.specs.Normal.{total_size}
use Rattle.ve_tx.specs.Operation.{Operation, bare, by_value, with_positions, IsNormal}
use Rattle.ve_tx.specs.declared.op.Op.{Op}
use Rattle.ve_tx.specs.declared.op.Op.TheVariants as op
use Rattle.ve_tx.proofs.NormalLemmas.{bare-with_positions}
use Rattle.ve_tx.proofs.FaultLemmas.{fault-by_value}

pub normal-reduced : (t : Transaction) → is_normal t ≡ true → is_reduced t ≡ true
normal-reduced t h = (and_parts (is_reduced t) _ h).0

-- the list is no longer than a machine can count
pub normal-old : (t : Transaction) → is_normal t ≡ true → old_length t ≤ 2 ^ 60
normal-old t h =
    let all : old_length t + length (all_inserted t) ≤ 2 ^ 60 = leb-true (total_length t) (2 ^ 60) (and_parts (is_reduced t) _ h).1 in
    omega arith

-- what the passes find is the model's fault
pub fault-found : (values : List Value) (tx : List Operation) (ops lent : List Op) (kept : List (Option ℕ)) (items : List Item) (o : Option TxFault) → with_positions ops kept ≡ tx →
    IsNormal (with_positions ops kept) → lent ≡ ops → fault_in values items lent ≡ o → fault (by_value values tx) (plain_list values items) ≡ o
fault-found values tx ops lent kept items o view normal lent_is found =
    let normal_tx : is_normal (by_value values tx) ≡ true = subst (λ x. is_normal (by_value values x) ≡ true) view (normal values) in
    let bared : map bare tx ≡ lent = ap (map bare) (sym view) ∙ bare-with_positions ops kept ∙ sym lent_is in
    fault-by_value values items tx (normal-reduced (by_value values tx) normal_tx) ∙ ap (fault_in values items) bared ∙ found

pub refused-by : (found : Option TxFault) (why fault : TxFault) → found ≡ Some fault → why ≡ fault → IsRefusal found why
refused-by found why fault e f = subst (λ o. IsRefusal o why) (sym e) f

pub refused-memory : (found : Option TxFault) → found ≡ None → IsRefusal found Memory
refused-memory found e = subst (λ o. IsRefusal o Memory) (sym e) refl

pub applied-is : (t : Transaction) (items new : List PlainItem) → fault t items ≡ None → new ≡ edited t items → apply t items ≡ Ok new
applied-is t items new e f = ap (λ o. apply_unless o (edited t items)) e ∙ ap Ok (sym f)

pub view-lent : (ops lent : List Op) (kept lent_kept : List (Option ℕ)) (tx : List Operation) → lent ≡ ops → lent_kept ≡ kept → with_positions ops kept ≡ tx →
    with_positions lent lent_kept ≡ tx
view-lent ops lent kept lent_kept tx e f view = ap (λ o. with_positions o lent_kept) e ∙ ap (with_positions ops) f ∙ view

pub ok-holds : {A E : Type 0} (P : Type 0) (r : Result A E) → is_ok r ≡ true → OnOk r P → P
ok-holds P (Ok x) e h = h
ok-holds P (Err x) e h = cc

-- what operations bring, they bring by value
pub brought-by_value : (values : List Value) (ops : List Op) (kept : List (Option ℕ)) → brought_by ops ≡ brought_count (by_value values (with_positions ops kept))
brought-by_value values [] kept = refl
brought-by_value values (op.Retain count ∷ ops) [] = brought-by_value values ops []
brought-by_value values (op.Retain count ∷ ops) (k ∷ kept) = brought-by_value values ops kept
brought-by_value values (op.Replace removed inserted ∷ ops) [] = let rest = brought-by_value values ops [] in let n = length-map inserted (plain values) in omega arith
brought-by_value values (op.Replace removed inserted ∷ ops) (k ∷ kept) = let rest = brought-by_value values ops kept in let n = length-map inserted (plain values) in omega arith
brought-by_value values (op.Attribute name from to ∷ ops) [] = let rest = brought-by_value values ops [] in omega arith
brought-by_value values (op.Attribute name from to ∷ ops) (k ∷ kept) = let rest = brought-by_value values ops kept in omega arith

-- no more than all lengths and one for each operation
pub brought-few : (ops : List Op) → brought_by ops ≤ total_size ops + length ops
brought-few [] = omega arith
brought-few (op.Retain count ∷ ops) = let rest = brought-few ops in omega arith
brought-few (op.Replace removed inserted ∷ ops) = let rest = brought-few ops in omega arith
brought-few (op.Attribute name from to ∷ ops) = let rest = brought-few ops in omega arith
