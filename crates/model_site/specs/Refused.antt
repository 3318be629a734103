-- Why a transaction is not performed.
use Rattle.std.specs.Option.{option_or}
use Rattle.std.specs.Prelude.{ℕ, nat_lt, if◌then◌else◌, length, List, Option, Some, None}
use Rattle.ve_base.specs.Limits.{max_items, max_values}
use Rattle.model_items.specs.declared.law_fault.LawFault.{LawFault}
use Rattle.model_items.specs.declared.law_fault.LawFault.TheVariants as law
use Rattle.model_items.specs.declared.plain_item.PlainItem.{PlainItem}
use Rattle.model_items.specs.Law.{verdict}
use Rattle.model_change.specs.Transaction.{Transaction}
use Rattle.model_change.specs.Fault.{fault_as}
use Rattle.model_site.specs.Causes.{EditCause, BadLength, Mismatch, BadAttr, Unlawful, TooDeep, TooManyItems, StoreFull}
use Rattle.model_site.specs.Replica.{Replica, performed}

-- the transaction does not apply to the list
abbrev pub transaction_cause : Transaction → List PlainItem → Option EditCause
transaction_cause t items = fault_as (λ has needs. BadLength has needs) (λ at. Mismatch at) (λ at. BadAttr at) t items

abbrev pub law_cause : Option LawFault → Option EditCause
law_cause None = None
law_cause (Some (law.Unlawful at)) = Some (Unlawful at)
law_cause (Some (law.TooDeep at)) = Some (TooDeep at)

abbrev pub items_cause : ℕ → Option EditCause
items_cause count = if nat_lt max_items count then Some (TooManyItems count) else None

abbrev pub store_cause : ℕ → Option EditCause
store_cause count = if nat_lt max_values count then Some StoreFull else None

-- The first cause: it does not apply; the new list is not lawful; it has too many items; the store
-- has too many values.
abbrev pub edit_cause : Transaction → Replica → Option EditCause
edit_cause t r =
    let new = performed t r in
    option_or (transaction_cause t r.items)
    (option_or (law_cause (verdict new.items)) (option_or (items_cause (length new.items)) (store_cause (length new.store))))
