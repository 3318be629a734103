-- How a call tells why nothing was performed.
use Rattle.std.specs.Option.{option_or}
use Rattle.std.specs.Prelude.{◌≡◌, ℕ, List, length, Option, Some, option_map}
use Rattle.model_change.specs.declared.tx_fault.TxFault.{TxFault}
use Rattle.model_change.specs.declared.tx_fault.TxFault.TheVariants as tx
use Rattle.model_items.specs.declared.item.Item.{Item}
use Rattle.model_items.specs.declared.law_fault.LawFault.{LawFault}
use Rattle.model_items.specs.declared.law_fault.LawFault.TheVariants as law
use Rattle.model_site.specs.declared.edit_fault.EditFault.{EditFault}
use Rattle.model_site.specs.declared.edit_fault.EditFault.TheVariants.{BadLength, Mismatch, BadAttr, Unlawful, TooDeep, Memory}
use Rattle.model_site.specs.Causes.{EditCause, edit_fault}
use Rattle.model_site.specs.Refused.{law_cause, items_cause, store_cause}
use Rattle.ve_lawful.specs.Uncited.{verdict}

-- It is the fault of the first cause. Want of memory may come where there is a cause and where
-- there is none.
abbrev pub IsEditRefusal : Option EditCause → EditFault → Type 0
IsEditRefusal cause Memory = Unit {0}
IsEditRefusal cause why = option_map edit_fault cause ≡ Some why

-- why a transaction doesn't apply, as why an edit isn't made
abbrev pub fault_of_tx : TxFault → EditFault
fault_of_tx (tx.BadLength has needs) = BadLength has needs
fault_of_tx (tx.Mismatch at) = Mismatch at
fault_of_tx (tx.BadAttr at) = BadAttr at
fault_of_tx tx.Memory = Memory

-- why a list isn't lawful, as why an edit isn't made
abbrev pub fault_of_law : LawFault → EditFault
fault_of_law (law.Unlawful at) = Unlawful at
fault_of_law (law.TooDeep at) = TooDeep at

-- the first cause that a new list, beside a store of so many values, gives
abbrev pub list_cause : List Item → ℕ → Option EditCause
list_cause items values = option_or (law_cause (verdict items)) (option_or (items_cause (length items)) (store_cause values))
