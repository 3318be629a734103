-- Laws of removals.
use Rattle.std.specs.Prelude.{◌≡◌, ℕ, List, Ok}
use Rattle.model_items.specs.declared.plain_item.PlainItem.{PlainItem}
use Rattle.model_items.specs.Law.{Lawful}
use Rattle.model_change.specs.Transaction.{Transaction, edited}
use Rattle.model_edit_law.specs.Fine.{Fine}
use Rattle.model_edit.specs.Remove.{removal}

-- The transaction is reduced, applies, and can put back what it removes. Its list is lawful:
-- partners of brackets are found by that.
abbrev pub RemovalIsFine : Type 0
RemovalIsFine = (items : List PlainItem) (from to : ℕ) (t : Transaction) → Lawful items → removal items from to ≡ Ok t → Fine items t

-- A removal leaves a lawful list lawful.
abbrev pub RemovalStaysLawful : Type 0
RemovalStaysLawful = (items : List PlainItem) (from to : ℕ) (t : Transaction) → Lawful items → removal items from to ≡ Ok t →
    Lawful (edited t items)
