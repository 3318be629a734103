-- Edits at rising positions, as they are collected into operations.
use Rattle.std.specs.Prelude.{◌≡◌, ◌≤◌, ℕ, Some, List, [], ◌∷◌, ◌++◌, length, drop, All}
use Rattle.ve_base.specs.declared.value.Value.{Value}
use Rattle.model_items.specs.declared.item.Item.{Item}
use Rattle.model_items.specs.declared.plain_item.PlainItem.{PlainItem}
use Rattle.model_items.specs.Plain.{plain_list, CitesWell}
use Rattle.model_change.specs.Transaction.{Transaction}
use Rattle.model_edit.specs.Edits.{Edit, Change, Set, retaining, replacing, transaction_from, transaction_of}
use Rattle.ve_tx.specs.declared.op.Op.{Op}
use Rattle.ve_tx.specs.Operation.{Operation, by_value, unkept}
use Rattle.ve_tx.specs.Cites.{TxCites}
use Rattle.ve_tx.specs.Making.{Extends}

-- operations, and what is to follow them: a retain, and a replace that may still grow; `at` is the
-- position just past the last edit
pub record Collected : Type 0 where
  pub at : ℕ
  pub ops : List Op
  pub retained : ℕ
  pub removed : List Item
  pub inserted : List Item

-- the transaction that they begin, where `t` follows
abbrev pub collected_transaction : List Value → Collected → Transaction → Transaction
collected_transaction values c t =
    by_value values (unkept c.ops) ++ retaining c.retained (replacing (plain_list values c.removed) (plain_list values c.inserted) t)

-- all of their items cite values of the list
pub record AreCited (values : List Value) (c : Collected) : Type 0 where
  pub ops : TxCites values (unkept c.ops)
  pub removed : All (CitesWell values) c.removed
  pub inserted : All (CitesWell values) c.inserted

-- So far these edits of the items are collected: whatever edits follow, the transaction is what is
-- collected and then the edits of what is left of the list.
pub record Makes (values : List Value) (items : List Item) (edits : List Edit) (c : Collected) : Type 0 where
  pub within : c.at ≤ length items
  pub means : (more : List Edit) → transaction_of (plain_list values items) (edits ++ more) ≡ collected_transaction values c (transaction_from c.at (drop c.at (plain_list values items)) more)
  pub cited : AreCited values c

-- One edit more is collected, the items of the list and the inserted ones citing well.
abbrev pub MakesOneMore : List Item → (at count : ℕ) → List Item → (old new : Collected) → Type 0
MakesOneMore items at count inserted old new =
    (values : List Value) (edits : List Edit) → All (CitesWell values) items → All (CitesWell values) inserted → Makes values items edits old →
    Makes values items (edits ++ Change at count (plain_list values inserted) ∷ []) new

-- An attribute more is set, over the store, which has what the items of the list cite.
abbrev pub SetsOneMore : List Value → List Item → (at : ℕ) (name to : List ℕ) → (old new : Collected) → Type 0
SetsOneMore store items at name to old new = (edits : List Edit) → Makes store items edits old → Makes store items (edits ++ Set at name (Some to) ∷ []) new

-- The transaction is that of the edits that are collected, whichever they are.
abbrev pub IsCollected : List Item → Collected → List Operation → Type 0
IsCollected items c tx =
    (values : List Value) (edits : List Edit) → Makes values items edits c → by_value values tx ≡ transaction_of (plain_list values items) edits

-- a replace is put after operations, over every list of values
abbrev pub IsReplacePut : List Op → (removed inserted : List Item) → List Op → Type 0
IsReplacePut old removed inserted new =
    (values : List Value) →
    by_value values (unkept new) ≡ by_value values (unkept old) ++ replacing (plain_list values removed) (plain_list values inserted) []

abbrev pub ReplaceCites : List Op → (removed inserted : List Item) → List Op → Type 0
ReplaceCites old removed inserted new =
    (values : List Value) → TxCites values (unkept old) → All (CitesWell values) removed → All (CitesWell values) inserted →
    TxCites values (unkept new)

-- The transaction is that of these edits of a list, over every list of values that its items cite;
-- the edits are given of the list by value.
abbrev pub IsTransactionOf : List Item → (List PlainItem → List Edit) → List Operation → Type 0
IsTransactionOf items edits tx =
    (values : List Value) → All (CitesWell values) items → by_value values tx ≡ transaction_of (plain_list values items) (edits (plain_list values items))

-- It cites only what such a list of values holds.
abbrev pub CitesAsItems : List Item → List Operation → Type 0
CitesAsItems items tx = (values : List Value) → All (CitesWell values) items → TxCites values tx

-- Collected edits are the same over a list of values that has more after it. So values may be put
-- in between two edits.
abbrev pub ValuesMayGrow : Type 0
ValuesMayGrow = (old new : List Value) (items : List Item) (edits : List Edit) (c : Collected) → Extends old new → All (CitesWell old) items → Makes old items edits c → Makes new items edits c
