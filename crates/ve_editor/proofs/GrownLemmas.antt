-- A page and a transaction over a store that has grown.
use Rattle.std.proofs.Common.{◌≡◌, ◌<◌, ℕ, zero, suc, ◌+◌, List, [], ◌∷◌, ◌++◌, length, take, drop, slice_get, All, Some, None, Option, Ok, refl, sym, ap, ◌∙◌, subst, append_assoc, append-nil, arith, inl, inr}
use Rattle.std.proofs.lemmas.Bool.{cases_Bool}
use Rattle.std.proofs.lemmas.Option.{slice_get-get_or}
use Rattle.std.proofs.Math.Seq.{take-add}
use Rattle.std.proofs.lemmas.List.Elements.{All-nil, All-cons, All-head, All-tail}
use Rattle.ve_base.specs.declared.value.Value.{Value}
use Rattle.model_items.specs.declared.item.Item.{Item}
use Rattle.model_items.specs.Plain.{plain_list, CitesWell, AreDistinct}
use Rattle.model_change.specs.Store.{fill, admitted, holds, cited, brought, changed_heads}
use Rattle.model_items.specs.declared.plain_item.PlainItem.{PlainItem}
use Rattle.model_change.specs.Transaction.{Transaction, all_inserted, edited}
use Rattle.model_change.specs.Transaction as model
use Rattle.model_change.proofs.StoreLemmas.{fill_appends}
use Rattle.model_change.specs.declared.tx_fault.TxFault.{TxFault}
use Rattle.model_change.specs.Fault.{Applies, fault, apply, apply_unless}
use Rattle.ve_store.proofs.StoreLemmas.{Contains-holds}
use Rattle.ve_tx.specs.Cites.{OperationCites, TxCites}
use Rattle.ve_tx.specs.Making.{Extends}
use Rattle.ve_tx.specs.Operation.{Operation, Retain, Replace, Attribute, by_value}
use Rattle.ve_tx.specs.declared.draft.Draft.{Draft}
use Rattle.ve_tx.proofs.ValuesLemmas.{extends_on, extends_by_fill, filled_on, list-extended, all-extended}
use Rattle.ve_editor.specs.Edited.{IsDraftOf, drafted, drafted_values}

module _ (old new : List Value) (extends : Extends old new) where
  pub by_value-extended : (tx : List Operation) → TxCites old tx → by_value new tx ≡ by_value old tx
  by_value-extended [] a = refl
  by_value-extended (Retain count ∷ tx) a = ap (λ t. model.Retain count ∷ t) (by_value-extended tx (All-tail (OperationCites old) (Retain count) tx a))
  by_value-extended (Replace removed inserted ∷ tx) a =
      let here = All-head (OperationCites old) (Replace removed inserted) tx a in
      ap (λ t. model.Replace (plain_list new removed) (plain_list new inserted) ∷ t) (by_value-extended tx (All-tail (OperationCites old) (Replace removed inserted) tx a))
      ∙ ap (λ v. model.Replace v (plain_list new inserted) ∷ by_value old tx) (list-extended old new extends removed here.0)
      ∙ ap (λ v. model.Replace (plain_list old removed) v ∷ by_value old tx) (list-extended old new extends inserted here.1)
  by_value-extended (Attribute change ∷ tx) a = ap (λ t. model.Attribute change ∷ t) (by_value-extended tx (All-tail (OperationCites old) (Attribute change) tx a))

  pub cites-extended : (tx : List Operation) → TxCites old tx → TxCites new tx
  cites-extended [] a = All-nil (OperationCites new)
  cites-extended (Retain count ∷ tx) a = All-cons (OperationCites new) (Retain count) tx tt (cites-extended tx (All-tail (OperationCites old) (Retain count) tx a))
  cites-extended (Replace removed inserted ∷ tx) a =
      let here = All-head (OperationCites old) (Replace removed inserted) tx a in
      All-cons (OperationCites new) (Replace removed inserted) tx (all-extended old new extends removed here.0, all-extended old new extends inserted here.1)
      (cites-extended tx (All-tail (OperationCites old) (Replace removed inserted) tx a))
  cites-extended (Attribute change ∷ tx) a = All-cons (OperationCites new) (Attribute change) tx tt (cites-extended tx (All-tail (OperationCites old) (Attribute change) tx a))

-- the value just after a list stands at its length
after_all : (values more : List Value) (v : Value) → slice_get (values ++ v ∷ more) (length values) ≡ Some v
after_all [] more v = refl
after_all (x ∷ values) more v = after_all values more v

within : (values more : List Value) (at : ℕ) (v : Value) → slice_get values at ≡ Some v → slice_get (values ++ more) at ≡ Some v
within [] more at v h = cc
within (x ∷ values) more zero v h = h
within (x ∷ values) more (suc at) v h = within values more at v h

-- one value more is read
pub copied_more : (values more : List Value) (place : ℕ) (v : Value) → slice_get (values ++ more) (length values + place) ≡ Some v → take (place + 1) more ≡ take place more ++ v ∷ []
copied_more [] more place v h = one more place (ap (slice_get more) (let e : place ≡ 0 + place = omega arith in e) ∙ h)
  where
    one : (more : List Value) (place : ℕ) → slice_get more place ≡ Some v → take (place + 1) more ≡ take place more ++ v ∷ []
    one more place h = take-add place 1 more ∙ ap (λ l. take place more ++ l) (first more place h)
      where
        first : (more : List Value) (place : ℕ) → slice_get more place ≡ Some v → take 1 (drop place more) ≡ v ∷ []
        first [] place h = cc
        first (x ∷ more) zero h = let same : x ≡ v = cc in ap (λ y. y ∷ []) same
        first (x ∷ more) (suc place) h = first more place h
copied_more (x ∷ values) more place v h = copied_more values more place v (ap (slice_get (x ∷ values ++ more)) (let e : suc (length values + place) ≡ suc (length values) + place = omega arith in e) ∙ h)

-- Where a list goes on with values that are new, filling it with them appends them.
fill_new : (values more : List Value) → AreDistinct (values ++ more) → fill values more ≡ values ++ more
fill_new values [] d = sym (append-nil values)
fill_new values (v ∷ more) d =
    elim (cases_Bool (holds values v)) [
      | inl there ↦
          let at = Contains-holds values v there in
          let here : slice_get values at.0 ≡ Some v = slice_get-get_or values at.0 v at.1 ∙ ap Some at.2 in
          let same : at.0 ≡ length values = d at.0 (length values) v (within values (v ∷ more) at.0 v here) (after_all values more v) in
          let below : at.0 < length values = at.1 in
          absurd (omega arith)
      | inr new ↦
          let grown : admitted values v ≡ values ++ v ∷ [] = rw new in
          let parts : (values ++ v ∷ []) ++ more ≡ values ++ (v ∷ more) = append_assoc values (v ∷ []) more in
          ap (λ l. fill l more) grown ∙ fill_new (values ++ v ∷ []) more (subst AreDistinct (sym parts) d) ∙ parts
    ]

applied_none : (f : Option TxFault) (made new : List PlainItem) → apply_unless f made ≡ Ok new → (f ≡ None) × (new ≡ made)
applied_none None made new h = let same : made ≡ new = cc in (refl, sym same)
applied_none (Some f) made new h = cc

-- what a transaction gives where it applies
pub apply_ok : (t : Transaction) (items new : List PlainItem) → apply t items ≡ Ok new → Applies t items × (new ≡ edited t items)
apply_ok t items new h = applied_none (fault t items) (edited t items) new h

-- A draft over a store, and over the store with its values in it, and over that with the heads that
-- it changes.
module _ (store : List Value) (d : Draft) (draft : IsDraftOf store d) (distinct : AreDistinct store) (taken : List Value) (takes : taken ≡ fill store d.values.values) where
  pub values_taken : taken ≡ drafted_values store d
  values_taken =
      let f = fill_appends store (cited (all_inserted (drafted store d))) in
      takes ∙ fill_new store d.values.values (subst AreDistinct (sym draft.filled) (f.distinct distinct))

  pub taken_extends : Extends store taken
  taken_extends = (d.values.values, values_taken)

  pub taken_tx : by_value taken d.tx ≡ drafted store d
  taken_tx = ap (λ l. by_value l d.tx) values_taken

  pub taken_cites : TxCites taken d.tx
  taken_cites = subst (λ l. TxCites l d.tx) (sym values_taken) draft.cites

  module _ (items : List Item) (cites : All (CitesWell store) items) where
    pub taken_items : plain_list taken items ≡ plain_list store items
    taken_items = list-extended store taken taken_extends items cites

    pub taken_list : All (CitesWell taken) items
    taken_list = all-extended store taken taken_extends items cites

    -- so what is said of the transaction and the list over the values that were taken in holds of
    -- the draft and the page
    pub over_taken : {A : Type 0} (f : Transaction → List PlainItem → A) → f (by_value taken d.tx) (plain_list taken items) ≡ f (drafted store d) (plain_list store items)
    over_taken f = ap (λ t. f t (plain_list taken items)) taken_tx ∙ ap (f (drafted store d)) taken_items

    module _ (new : List Value) (grows : new ≡ fill taken (changed_heads (by_value taken d.tx) (plain_list taken items))) where
      pub new_extends : Extends taken new
      new_extends = extends_by_fill taken new (changed_heads (by_value taken d.tx) (plain_list taken items)) grows

      pub all_extends : Extends store new
      all_extends = extends_on store taken new taken_extends new_extends

      pub new_cites : TxCites new d.tx
      new_cites = cites-extended taken new new_extends d.tx taken_cites

      pub new_list : All (CitesWell new) items
      new_list = all-extended store new all_extends items cites

      pub over_new : {A : Type 0} (f : Transaction → List PlainItem → A) → f (by_value new d.tx) (plain_list new items) ≡ f (drafted store d) (plain_list store items)
      over_new f =
          ap (λ t. f t (plain_list new items)) (by_value-extended taken new new_extends d.tx taken_cites ∙ taken_tx)
          ∙ ap (f (drafted store d)) (list-extended store new all_extends items cites)

      pub new_store : new ≡ fill store (brought (drafted store d) (plain_list store items))
      new_store =
          grows ∙ over_taken (λ t l. fill taken (changed_heads t l))
          ∙ filled_on store taken (cited (all_inserted (drafted store d))) (changed_heads (drafted store d) (plain_list store items)) (values_taken ∙ draft.filled)
