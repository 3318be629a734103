-- How many steps a transaction may take, where a list's tree becomes that of the list after it.
use Rattle.std.specs.Prelude.{ℕ, ◌+◌, ◌*◌, List, [], ◌∷◌}
use Rattle.model_items.specs.declared.plain_item.PlainItem.{PlainItem}
use Rattle.model_change.specs.Touch.{touch}
use Rattle.model_change.specs.Transaction.{Transaction, edited}

-- at most eight for each node that it touches, and sixteen more
abbrev pub cost_of_transaction : Transaction → List PlainItem → ℕ
cost_of_transaction t items = 8 * (touch t items + 2)

-- transactions, one after the other
abbrev pub cost_of_transactions : List Transaction → List PlainItem → ℕ
cost_of_transactions [] items = 0
cost_of_transactions (t ∷ ts) items = cost_of_transaction t items + cost_of_transactions ts (edited t items)
