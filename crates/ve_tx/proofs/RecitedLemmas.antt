-- Operations that cite copies read as those that cite the store.
use Rattle.std.proofs.Common.{◌≡◌, ◌<◌, ℕ, suc, ◌+◌, List, ◌∷◌, ◌++◌, length, drop, get_or, Option, None, refl, sym, ap, subst, ◌∙◌, arith}
use Rattle.std.specs.Prelude.{All}
use Rattle.std.proofs.lemmas.List.Elements.{All-head, All-drop}
use Rattle.ve_base.specs.declared.value.Value.{Value}
use Rattle.model_items.specs.declared.item.Item.{Item}
use Rattle.model_items.specs.Plain.{plain_list, CitesWell}
use Rattle.model_change.specs.Store.{fill, cited}
use Rattle.model_change.specs.Transaction as model
use Rattle.ve_tx.specs.declared.op.Op.{Op}
use Rattle.ve_tx.specs.declared.op.Op.TheVariants as op
use Rattle.ve_tx.specs.Cites.{OperationCites, TxCites}
use Rattle.ve_tx.specs.Copied.{ReadsAlike}
use Rattle.ve_tx.specs.Operation.{with_position, with_positions, operation_by_value}
use Rattle.ve_tx.specs.Parcel.{operation_cited}
use Rattle.ve_tx.proofs.CopiesLemmas.{fill-append, ReadsAlike-fill}
use Rattle.ve_tx.proofs.TurnedLemmas.{with_positions-at}

abbrev pub ItemsAlike : (store values : List Value) → List Item → List Item → Type 0
ItemsAlike = ReadsAlike plain_list (λ values. All (CitesWell values))

pub replace_cites : (store : List Value) (o : Op) (removed inserted : List Item) → o ≡ op.Replace removed inserted →
    ((k : Option ℕ) → OperationCites store (with_position o k)) → All (CitesWell store) removed × All (CitesWell store) inserted
replace_cites store o removed inserted is h = subst (λ p. OperationCites store (with_position p None)) is (h None)

pub replace_filled : (store values v1 new : List Value) (o : Op) (removed inserted lent lent' : List Item) (k : Option ℕ) → o ≡ op.Replace removed inserted → lent ≡ removed → lent' ≡ inserted →
    v1 ≡ fill values (cited (plain_list store lent)) → new ≡ fill v1 (cited (plain_list store lent')) →
    new ≡ fill values (operation_cited (operation_by_value store (with_position o k)))
replace_filled store values v1 new o removed inserted lent lent' k is e f a b =
    b ∙ ap (λ items. fill v1 (cited (plain_list store items))) f ∙ ap (λ vs. fill vs (cited (plain_list store inserted))) a
    ∙ ap (λ items. fill (fill values (cited (plain_list store items))) (cited (plain_list store inserted))) e
    ∙ sym (fill-append values (cited (plain_list store removed)) (cited (plain_list store inserted)))
    ∙ ap (λ p. fill values (operation_cited (operation_by_value store (with_position p k)))) (sym is)

pub replace_alike : (store values new : List Value) (o : Op) (removed inserted lent lent' removed' inserted' : List Item) → o ≡ op.Replace removed inserted → lent ≡ removed → lent' ≡ inserted →
    new ≡ fill values (cited (plain_list store lent')) → ItemsAlike store values lent removed' → ItemsAlike store new lent' inserted' → (k : Option ℕ) →
    ReadsAlike operation_by_value OperationCites store new (with_position o k) (with_position (op.Replace removed' inserted') k)
replace_alike store values new o removed inserted lent lent' removed' inserted' is e f filled r i k more =
    let vs = new ++ more in
    let first = ReadsAlike-fill plain_list (λ values. All (CitesWell values)) store values (cited (plain_list store lent')) new lent removed' filled r more in
    let second = i more in
    let reads : model.Replace (plain_list vs removed') (plain_list vs inserted') ≡ model.Replace (plain_list store removed) (plain_list store inserted) =
    (λ j. model.Replace ((first.0 ∙ ap (plain_list store) e) j) ((second.0 ∙ ap (plain_list store) f) j)) in
    (reads ∙ ap (λ p. operation_by_value store (with_position p k)) (sym is), (first.1, second.1))

pub op_at : (ops : List Op) (kept : List (Option ℕ)) (i : ℕ) (o : Op) (k : Option ℕ) → i < length ops → o ≡ get_or ops i o → k ≡ get_or kept i None →
    drop i (with_positions ops kept) ≡ with_position o k ∷ drop (i + 1) (with_positions ops kept)
op_at ops kept i o k within here there =
    let rest = drop (suc i) (with_positions ops kept) in
    let after : suc i ≡ i + 1 = omega arith in
    with_positions-at i ops kept o within ∙ ap (λ x. with_position x (get_or kept i None) ∷ rest) (sym here) ∙ ap (λ y. with_position o y ∷ rest) (sym there)
    ∙ ap (λ n. with_position o k ∷ drop n (with_positions ops kept)) after

any_position : (store : List Value) (o : Op) (k k' : Option ℕ) → OperationCites store (with_position o k) → OperationCites store (with_position o k')
any_position store (op.Retain count) k k' h = h
any_position store (op.Replace removed inserted) k k' h = h
any_position store (op.Attribute name from to) k k' h = h

pub op_cites : (store : List Value) (ops : List Op) (kept : List (Option ℕ)) (i : ℕ) (o : Op) → i < length ops → o ≡ get_or ops i o → TxCites store (with_positions ops kept) →
    (k : Option ℕ) → OperationCites store (with_position o k)
op_cites store ops kept i o within here cites k =
    let P = OperationCites store in
    let rest = drop (i + 1) (with_positions ops kept) in
    let suffix : All P (with_position o (get_or kept i None) ∷ rest) =
    subst (All P) (op_at ops kept i o (get_or kept i None) within here refl) (All-drop P i (with_positions ops kept) cites) in
    any_position store o (get_or kept i None) k (All-head P (with_position o (get_or kept i None)) rest suffix)
