-- The list after a builder's transaction.
use Rattle.std.proofs.Common.{List, Option, Some, None, Result}
use Rattle.std.specs.Prelude.{Ok, Err}
use Rattle.model_items.specs.declared.plain_item.PlainItem.{PlainItem}
use Rattle.model_change.specs.Transaction.{Transaction}
use Rattle.model_change.specs.Fault.{apply}

abbrev pub list_after : {E : Type 0} → List PlainItem → Result Transaction E → Option (List PlainItem)
list_after items (Err e) = None
list_after items (Ok t) = applied (apply t items)
  where
    applied : {F : Type 0} → Result (List PlainItem) F → Option (List PlainItem)
    applied (Ok new) = Some new
    applied (Err f) = None
