-- A builder's transaction over a store alone is a draft over it.
use Rattle.std.proofs.Common.{◌≡◌, List, [], ◌∷◌, length, Contains, refl, sym, ap, ◌∙◌, subst, append-nil, arith}
use Rattle.std.proofs.lemmas.List.Concat.{flat_map-append}
use Rattle.std.proofs.lemmas.List.Elements.{All-head, All-tail, Contains-append_right}
use Rattle.ve_base.specs.declared.value.Value.{Value}
use Rattle.model_items.specs.Plain.{plain_list}
use Rattle.model_change.specs.Store.{fill, cited, cited_by}
use Rattle.model_change.specs.Transaction.{all_inserted}
use Rattle.ve_store.proofs.StoreLemmas.{admitted_there}
use Rattle.ve_store.specs.Following.{Following, together}
use Rattle.ve_tx.specs.Cites.{OperationCites, TxCites}
use Rattle.ve_tx.specs.Operation.{Operation, Retain, Replace, Attribute, by_value}
use Rattle.ve_tx.proofs.ValuesLemmas.{filled_on}
use Rattle.ve_editor.proofs.OtherLemmas.{cited_there}
use Rattle.ve_editor.specs.Edited.{IsDraftOf, drafted}

-- values that are all there bring none
pub all_there : (values vs : List Value) → ((v : Value) → Contains vs v → Contains values v) → values ≡ fill values vs
all_there values [] there = refl
all_there values (v ∷ vs) there =
    all_there values vs (λ w later. there w (Contains-append_right (v ∷ []) vs w later))
    ∙ ap (λ l. fill l vs) (admitted_there values v (there v (0, omega arith, refl)))

-- nor does a transaction that cites no others
inserted_filled : (values : List Value) (tx : List Operation) → TxCites values tx → values ≡ fill values (cited (all_inserted (by_value values tx)))
inserted_filled values [] cites = refl
inserted_filled values (Retain count ∷ tx) cites = inserted_filled values tx (All-tail (OperationCites values) (Retain count) tx cites)
inserted_filled values (Replace removed inserted ∷ tx) cites =
    let P = plain_list values inserted in
    let Q = all_inserted (by_value values tx) in
    let first = all_there values (cited P) (cited_there values inserted (All-head (OperationCites values) (Replace removed inserted) tx cites).1) in
    let rest = inserted_filled values tx (All-tail (OperationCites values) (Replace removed inserted) tx cites) in
    rest ∙ filled_on values values (cited P) (cited Q) first ∙ ap (fill values) (sym (flat_map-append cited_by P Q))
inserted_filled values (Attribute change ∷ tx) cites = inserted_filled values tx (All-tail (OperationCites values) (Attribute change) tx cites)

-- what brings no new values
pub same_over_store : (store : List Value) (new : Following) (tx : List Operation) → new ≡ record { after = length store; values = [] } →
    drafted store (record { tx = tx; values = new }) ≡ by_value store tx
same_over_store store new tx is = ap (λ values. by_value values tx) (ap (together store) is ∙ append-nil store)

pub over_store : (store : List Value) (new : Following) (tx : List Operation) → new ≡ record { after = length store; values = [] } → TxCites store tx →
    IsDraftOf store (record { tx = tx; values = new })
over_store store new tx is cites =
    let same : together store new ≡ store = ap (together store) is ∙ append-nil store in
    let there = subst (λ values. TxCites values tx) (sym same) cites in
    record {
      follows = ap (λ (f : Following). f.after) is;
      cites = there;
      filled = inserted_filled (together store new) tx there ∙ ap (λ values. fill values (cited (all_inserted (by_value (together store new) tx)))) same;
    }
