-- Why an edit is not made: the model's first cause, from what each call says.
use Rattle.std.specs.Option.{option_or}
use Rattle.std.specs.Prelude.{option_map}
use Rattle.std.proofs.Common.{◌≡◌, ℕ, Result, Ok, Err, OnOk, IfErr, Bool, true, false, ◌==◌, if◌then◌else◌, List, [], length, Option, Some, None, refl, sym, ap, ◌∙◌, subst}
use Rattle.std.proofs.lemmas.List.{length-map}
use Rattle.ve_base.specs.declared.value.Value.{Value}
use Rattle.model_items.specs.declared.item.Item.{Item}
use Rattle.model_items.specs.declared.plain_item.PlainItem.{PlainItem}
use Rattle.model_items.specs.declared.law_fault.LawFault.{LawFault}
use Rattle.model_items.specs.Law.{verdict}
use Rattle.model_items.specs.Plain.{plain, plain_list}
use Rattle.model_items.proofs.VerdictLemmas.{verdict_reads_no_values}
use Rattle.model_change.specs.declared.tx_fault.TxFault.{TxFault}
use Rattle.model_change.specs.declared.tx_fault.TxFault.TheVariants as tx
use Rattle.model_change.specs.Fault.{Applies, fault, mismatch_at, bad_attribute_at}
use Rattle.model_change.specs.Store.{fill, brought}
use Rattle.model_change.specs.Transaction.{Transaction, edited, old_length}
use Rattle.model_site.specs.declared.edit_fault.EditFault.{EditFault}
use Rattle.model_site.specs.Causes.{EditCause, BadLength, Mismatch, BadAttr}
use Rattle.model_site.specs.Refused.{law_cause, items_cause, store_cause, edit_cause}
use Rattle.model_site.specs.Replica.{Replica}
use Rattle.ve_lawful.specs.Uncited as uncited
use Rattle.ve_tx.specs.Changed.{IsRefusal}
use Rattle.ve_tx.specs.Operation.{Operation}
use Rattle.ve_repair.specs.Change.{LawfulAfter, FailsAfter, new_list}
use Rattle.ve_editor.specs.Refusal.{IsEditRefusal, fault_of_tx, list_cause}

abbrev first_fault : Bool → (m a : Option ℕ) (has needs : ℕ) → Option TxFault
first_fault b m a has needs =
    if b then option_or (option_map (λ at. tx.Mismatch at) m) (option_map (λ at. tx.BadAttr at) a) else Some (tx.BadLength has needs)

abbrev first_cause : Bool → (m a : Option ℕ) (has needs : ℕ) → Option EditCause
first_cause b m a has needs =
    if b then option_or (option_map (λ at. Mismatch at) m) (option_map (λ at. BadAttr at) a) else Some (BadLength has needs)

refused_first : (b : Bool) (m a : Option ℕ) (has needs : ℕ) (rest : Option EditCause) (why : TxFault) → IsRefusal (first_fault b m a has needs) why →
    IsEditRefusal (option_or (first_cause b m a has needs) rest) (fault_of_tx why)
refused_first true None None has needs rest why h = subst (λ w. IsEditRefusal rest (fault_of_tx w)) (sym h) tt
refused_first true None (Some at) has needs rest why h = subst (λ w. IsEditRefusal (Some (BadAttr at)) (fault_of_tx w)) (sym h) refl
refused_first true (Some at) a has needs rest why h = subst (λ w. IsEditRefusal (Some (Mismatch at)) (fault_of_tx w)) (sym h) refl
refused_first false m a has needs rest why h = subst (λ w. IsEditRefusal (Some (BadLength has needs)) (fault_of_tx w)) (sym h) refl

none_first : (b : Bool) (m a : Option ℕ) (has needs : ℕ) → first_fault b m a has needs ≡ None → first_cause b m a has needs ≡ None
none_first true None None has needs h = refl
none_first true None (Some at) has needs h = cc
none_first true (Some at) a has needs h = cc
none_first false m a has needs h = cc

-- a transaction that doesn't apply
pub refused_by_tx : (t : Transaction) (r : Replica) (why : TxFault) → IsRefusal (fault t r.items) why → IsEditRefusal (edit_cause t r) (fault_of_tx why)
refused_by_tx t r why h =
    refused_first (old_length t == length r.items) (mismatch_at 0 t r.items) (bad_attribute_at 0 t r.items) (length r.items) (old_length t) _ why h

abbrev later_cause : List PlainItem → ℕ → Option EditCause
later_cause items values = option_or (law_cause (verdict items)) (option_or (items_cause (length items)) (store_cause values))

same_later : (values : List Value) (items : List Item) (n : ℕ) → later_cause (plain_list values items) n ≡ list_cause items n
same_later values items n =
    ap (λ v. option_or (law_cause v) (option_or (items_cause (length (plain_list values items))) (store_cause n))) (verdict_reads_no_values values [] items)
    ∙ ap (λ m. option_or (law_cause (uncited.verdict items)) (option_or (items_cause m) (store_cause n))) (length-map items (plain values))

-- where it applies, what its new list gives is the first cause
pub cause_of_list : (t : Transaction) (r : Replica) (store : List Value) (items : List Item) → Applies t r.items → plain_list store items ≡ edited t r.items →
    store ≡ fill r.store (brought t r.items) → edit_cause t r ≡ list_cause items (length store)
cause_of_list t r store items applies new grown =
    ap (λ c. option_or c (later_cause (edited t r.items) (length (fill r.store (brought t r.items)))))
    (none_first (old_length t == length r.items) (mismatch_at 0 t r.items) (bad_attribute_at 0 t r.items) (length r.items) (old_length t) applies)
    ∙ ap (λ l. later_cause l (length (fill r.store (brought t r.items)))) (sym new)
    ∙ ap (λ s. later_cause (plain_list store items) (length s)) (sym grown)
    ∙ same_later store items (length store)

pub refused_as : (one other : Option EditCause) (why : EditFault) → one ≡ other → IsEditRefusal other why → IsEditRefusal one why
refused_as one other why e h = subst (λ c. IsEditRefusal c why) (sym e) h

-- the law reads no value, and so says of the list that a change makes what it says of the
-- transaction's
module _ (values : List Value) (tx : List Operation) (items made : List Item) (same : plain_list values made ≡ new_list values tx items) where
  verdict_same : uncited.verdict made ≡ verdict (new_list values tx items)
  verdict_same = sym (verdict_reads_no_values values [] made) ∙ ap verdict same

  pub lawful_made : {A : Type 0} (r : Result A LawFault) → OnOk r (LawfulAfter tx items) → OnOk r (uncited.verdict made ≡ None)
  lawful_made (Ok x) h = verdict_same ∙ h values
  lawful_made (Err f) h = tt

  pub unlawful_made : {A : Type 0} (r : Result A LawFault) → IfErr r (FailsAfter tx items) → IfErr r (λ f. uncited.verdict made ≡ Some f)
  unlawful_made (Ok x) h = tt
  unlawful_made (Err f) h = verdict_same ∙ h values
