-- A transaction that a site does not refuse may be performed.
use Rattle.std.specs.Option.{option_or}
use Rattle.std.specs.Prelude.{option_map}
use Rattle.std.proofs.Common.{◌≡◌, ℕ, ◌==◌, Bool, true, false, if◌then◌else◌, List, length, Option, Some, None, refl}
use Rattle.model_items.specs.declared.law_fault.LawFault.{LawFault}
use Rattle.model_items.specs.declared.law_fault.LawFault.TheVariants as law
use Rattle.model_items.specs.Law.{verdict}
use Rattle.model_change.specs.declared.tx_fault.TxFault.TheVariants as tx
use Rattle.model_change.specs.Transaction.{Transaction, old_length}
use Rattle.model_change.specs.Fault.{fault, mismatch_at, bad_attribute_at}
use Rattle.model_site.specs.Causes.{BadLength, Mismatch, BadAttr}
use Rattle.model_items.specs.declared.plain_item.PlainItem.{PlainItem}
use Rattle.model_site.specs.Replica.{performed}
use Rattle.model_site.specs.Refused.{transaction_cause, law_cause}
use Rattle.model_site_law.specs.MayHappen.{EditMayRun}

first_none : {A : Type 0} (o p : Option A) → option_or o p ≡ None → o ≡ None
first_none None p h = refl
first_none (Some x) p h = cc

rest_none : {A : Type 0} (o p : Option A) → option_or o p ≡ None → p ≡ None
rest_none None p h = h
rest_none (Some x) p h = cc

applies_from : (t : Transaction) (items : List PlainItem) → transaction_cause t items ≡ None → fault t items ≡ None
applies_from t items h = by (old_length t == length items) (mismatch_at 0 t items) (bad_attribute_at 0 t items) h
  where
    has_needs : {F : Type 0} → (ℕ → ℕ → F) → F
    has_needs bad_length = bad_length (length items) (old_length t)

    by : (b : Bool) (o p : Option ℕ) →
        (if b then option_or (option_map (λ at. Mismatch at) o) (option_map (λ at. BadAttr at) p) else Some (has_needs (λ m n. BadLength m n))) ≡ None →
        (if b then option_or (option_map (λ at. tx.Mismatch at) o) (option_map (λ at. tx.BadAttr at) p) else Some (has_needs (λ m n. tx.BadLength m n))) ≡ None
    by true None None h = refl
    by true None (Some at) h = cc
    by true (Some at) p h = cc
    by false o p h = cc

lawful_from : (f : Option LawFault) → law_cause f ≡ None → f ≡ None
lawful_from None h = refl
lawful_from (Some (law.Unlawful at)) h = cc
lawful_from (Some (law.TooDeep at)) h = cc

pub edit_may_run : EditMayRun
edit_may_run t r reduced apart h =
    let rest = rest_none (transaction_cause t r.items) _ h in
    record {
      reduced = reduced;
      applies = applies_from t r.items (first_none (transaction_cause t r.items) _ h);
      lawful = lawful_from (verdict (performed t r).items) (first_none (law_cause (verdict (performed t r).items)) _ rest);
      apart = apart;
    }
