-- How many steps a call counts at most.
use Rattle.std.specs.Prelude.{ℕ, ◌+◌, List, [], ◌∷◌}
use Rattle.model_items.specs.declared.plain_item.PlainItem.{PlainItem}
use Rattle.model_change.specs.Transaction.{Transaction}
use Rattle.model_change.specs.Cost.{cost_of_transactions}

-- those of a page without text, which stands in the place of one that is moved out
abbrev pub steps_of_blank : ℕ
steps_of_blank = 8

-- what stands there while several transactions are made on a trial
abbrev pub steps_besides : List Transaction → ℕ
steps_besides [] = 0
steps_besides (t ∷ []) = 0
steps_besides (t ∷ u ∷ ts) = steps_of_blank

-- that, and the steps of the transactions
abbrev pub steps_over : List Transaction → List PlainItem → ℕ
steps_over ts items = steps_besides ts + cost_of_transactions ts items
