-- No refusal is told for want of memory, which is no cause, or for an item that differs, which
-- never comes. So `store_full` tells of the store alone.
use Rattle.std.specs.Prelude.{◌≡◌, ◌<◌, ℕ, length, Result, Ok, Err}
use Rattle.ve_base.specs.Limits.{max_values}
use Rattle.model_change.specs.Transaction.{Transaction}
use Rattle.model_site.specs.Replica.{Replica, performed}
use Rattle.model_site_law.specs.Sound.{Sound}
use Rattle.model_world.specs.declared.edit_command.EditCommand.{EditCommand}
use Rattle.model_world.specs.declared.refusal.Refusal.TheVariants.{StoreFull}
use Rattle.model_edit.specs.Tables.{row_in, row_out, col_in, col_out}
use Rattle.model_edit.specs.Lists.{indent, outdent}
use Rattle.model_world.specs.declared.refusal.Refusal.{Refusal}
use Rattle.model_world.specs.Refusals.{refused_as, table_refusal, list_refusal}
use Rattle.model_world.specs.Edits.{change_of, change_on, checked_transaction}
use Rattle.model_world_law.specs.Fit.{IsWritten}

-- it is a transaction with which the store would have too many values
pub record FillsStore {E : Type 0} (r : Replica) (given : Result Transaction E) : Type 0 where
  pub t : Transaction
  pub gives : given ≡ Ok t
  pub full : max_values < length (performed t r).store

abbrev pub StoreFullIsFull : Type 0
StoreFullIsFull = (r : Replica) (c : EditCommand) → IsWritten c → Sound r.items → change_on r c ≡ Err StoreFull →
    FillsStore r (change_of r.items c)

-- the result of a call on a table or on a list item is refused for a full store
abbrev pub IsFullFor : {E : Type 0} → (E → Refusal) → Replica → Result Transaction E → Type 0
IsFullFor named r given = checked_transaction r (refused_as named given) ≡ Err StoreFull

-- The same of rows, columns and list items.
pub record MovesFillStore : Type 0 where
  pub row_in : (r : Replica) (at row : ℕ) → Sound r.items → IsFullFor table_refusal r (row_in r.items at row) →
      FillsStore r (row_in r.items at row)
  pub row_out : (r : Replica) (at row : ℕ) → Sound r.items → IsFullFor table_refusal r (row_out r.items at row) →
      FillsStore r (row_out r.items at row)
  pub col_in : (r : Replica) (at column : ℕ) → Sound r.items → IsFullFor table_refusal r (col_in r.items at column) →
      FillsStore r (col_in r.items at column)
  pub col_out : (r : Replica) (at column : ℕ) → Sound r.items → IsFullFor table_refusal r (col_out r.items at column) →
      FillsStore r (col_out r.items at column)
  pub indent : (r : Replica) (at : ℕ) → Sound r.items → IsFullFor list_refusal r (indent r.items at) → FillsStore r (indent r.items at)
  pub outdent : (r : Replica) (at : ℕ) → Sound r.items → IsFullFor list_refusal r (outdent r.items at) → FillsStore r (outdent r.items at)
