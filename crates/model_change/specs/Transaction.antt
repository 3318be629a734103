-- Transactions: lists of operations along a list of items, and the list that one gives.
use Rattle.std.specs.Prelude.{ℕ, ◌+◌, Bool, true, false, not, ◌&&◌, nat_lt, nat_le, List, [], ◌∷◌, ◌++◌, length, take, drop}
use Rattle.ve_base.specs.Limits.{max_total_length}
use Rattle.model_items.specs.declared.plain_item.PlainItem.{PlainItem}
use Rattle.model_items.specs.Same.{text_same}
use Rattle.model_change.specs.Attributes.{AttrChange, item_changed, AllNamesApart}

-- After VisualEditor's `ve.dm.Transaction`. A cursor goes along the old list.
pub data Op : Type 0 where
  -- passes so many items
  Retain : (count : ℕ) → Op
  -- passes the items removed, and puts those inserted in their place
  Replace : (removed inserted : List PlainItem) → Op
  -- speaks of the item at the cursor, and moves nothing
  Attribute : (change : AttrChange) → Op

abbrev pub Transaction : Type 0
Transaction = List Op

-- the length of the lists that it applies to
abbrev pub old_length : Transaction → ℕ
old_length [] = 0
old_length (Retain count ∷ ops) = count + old_length ops
old_length (Replace removed inserted ∷ ops) = length removed + old_length ops
old_length (Attribute change ∷ ops) = old_length ops

-- the length of the lists that it gives
abbrev pub new_length : Transaction → ℕ
new_length [] = 0
new_length (Retain count ∷ ops) = count + new_length ops
new_length (Replace removed inserted ∷ ops) = length inserted + new_length ops
new_length (Attribute change ∷ ops) = new_length ops

-- its inserted items, in order
abbrev pub all_inserted : Transaction → List PlainItem
all_inserted [] = []
all_inserted (Retain count ∷ ops) = all_inserted ops
all_inserted (Replace removed inserted ∷ ops) = inserted ++ all_inserted ops
all_inserted (Attribute change ∷ ops) = all_inserted ops

-- its removed items, in order
abbrev pub all_removed : Transaction → List PlainItem
all_removed [] = []
all_removed (Retain count ∷ ops) = all_removed ops
all_removed (Replace removed inserted ∷ ops) = removed ++ all_removed ops
all_removed (Attribute change ∷ ops) = all_removed ops

-- the number of items that it retains, removes and inserts, together
abbrev pub total_length : Transaction → ℕ
total_length t = old_length t + length (all_inserted t)

abbrev pub on_first : (PlainItem → PlainItem) → List PlainItem → List PlainItem
on_first f [] = []
on_first f (item ∷ items) = f item ∷ items

-- The new list: the old one cut at the operations' positions, with the inserted items for the
-- removed ones, and with the attributes set. What stands past all operations is kept.
abbrev pub edited : Transaction → List PlainItem → List PlainItem
edited [] items = items
edited (Retain count ∷ ops) items = take count items ++ edited ops (drop count items)
edited (Replace removed inserted ∷ ops) items = inserted ++ edited ops (drop (length removed) items)
edited (Attribute change ∷ ops) items = edited ops (on_first (item_changed change) items)

-- The operation may stand before those that follow. No two retains or replaces are neighbours. The
-- attribute operations of one position have different names and are followed by a retain.
abbrev pub may_precede : Op → Transaction → Bool
may_precede (Retain count) (Retain other ∷ ops) = false
may_precede (Retain count) _ = true
may_precede (Replace removed inserted) (Replace other others ∷ ops) = false
may_precede (Replace removed inserted) _ = true
may_precede (Attribute change) (Retain count ∷ ops) = true
may_precede (Attribute change) (Attribute other ∷ ops) = not (text_same change.name other.name) && may_precede (Attribute change) ops
may_precede (Attribute change) _ = false

-- it passes, removes or inserts something, or sets an attribute
abbrev pub is_something : Op → Bool
is_something (Retain count) = nat_lt 0 count
is_something (Replace removed inserted) = nat_lt 0 (length removed + length inserted)
is_something (Attribute change) = true

-- no operation can be left out or be one with its neighbour
abbrev pub is_reduced : Transaction → Bool
is_reduced [] = true
is_reduced (op ∷ ops) = is_something op && (may_precede op ops && is_reduced ops)

-- the normal form, in which a transaction is written in one way; its lengths add up to a number
-- that a machine can count with
abbrev pub is_normal : Transaction → Bool
is_normal t = is_reduced t && nat_le (total_length t) max_total_length

-- no inserted opening has two attributes of one name
abbrev pub InsertedApart : Transaction → Type 0
InsertedApart [] = Unit {0}
InsertedApart (Retain count ∷ ops) = InsertedApart ops
InsertedApart (Replace removed inserted ∷ ops) = AllNamesApart inserted × InsertedApart ops
InsertedApart (Attribute change ∷ ops) = InsertedApart ops
