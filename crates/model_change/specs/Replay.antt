-- Whole lists of transactions, one after the other: joined, taken back, and taken back under later
-- ones.
use Rattle.std.specs.Prelude.{◌≡◌, ℕ, suc, ◌+◌, ◌<◌, ◌≤◌, true, List, [], ◌∷◌, ◌++◌, length, take, drop, slice_index_or, Result, Ok, Err}
use Rattle.model_items.specs.declared.plain_item.PlainItem.{PlainItem}
use Rattle.model_items.specs.Law.{Lawful}
use Rattle.model_change.specs.Attributes.{AllNamesApart}
use Rattle.model_change.specs.Transaction.{Transaction, all_inserted, all_removed, total_length, edited, is_reduced, InsertedApart}
use Rattle.model_change.specs.Fault.{Applies}
use Rattle.model_change.specs.Inverse.{inverse, IsRestorable}
use Rattle.model_change.specs.Join.{RangeConflict, join_list}

-- the list that transactions give, one after the other
abbrev pub replay : List Transaction → List PlainItem → List PlainItem
replay [] items = items
replay (t ∷ ts) items = replay ts (edited t items)

-- A reduced transaction that applies to the list and leaves a lawful one. It can put back what it
-- removes, and inserts no opening with two attributes of one name. Every entry of a history is of
-- such ones: joining and reversing keep this.
pub record Runs (t : Transaction) (items : List PlainItem) : Type 0 where
  pub reduced : is_reduced t ≡ true
  pub applies : Applies t items
  pub lawful : Lawful (edited t items)
  pub restorable : IsRestorable t items
  pub apart : InsertedApart t

-- each after those before it
abbrev pub AllRun : List Transaction → List PlainItem → Type 0
AllRun [] items = Unit {0}
AllRun (t ∷ ts) items = Runs t items × AllRun ts (edited t items)

-- Two lists of transactions from one lawful list, joined: each side's run after the other's, and
-- one list comes of both.
pub record ListsAgree (committed mine : List Transaction) (joined : List Transaction × List Transaction)
    (items : List PlainItem) : Type 0 where
  pub mine_after : AllRun joined.1 (replay committed items)
  pub committed_after : AllRun joined.0 (replay mine items)
  pub one_list : replay joined.1 (replay committed items) ≡ replay joined.0 (replay mine items)

abbrev pub JoinListsAgree : Type 0
JoinListsAgree = (committed mine : List Transaction) (joined : List Transaction × List Transaction) (items : List PlainItem) →
    Lawful items → AllRun committed items → AllRun mine items → join_list committed mine ≡ Ok joined →
    ListsAgree committed mine joined items

-- how many items the transactions insert
abbrev pub inserted_by : List Transaction → ℕ
inserted_by [] = 0
inserted_by (t ∷ ts) = length (all_inserted t) + inserted_by ts

-- the lengths of each add up to n at most
abbrev pub AllWithin : ℕ → List Transaction → Type 0
AllWithin n [] = Unit {0}
AllWithin n (t ∷ ts) = (total_length t ≤ n) × AllWithin n ts

-- No transaction, joined, is longer than the list with all that both sides insert.
abbrev pub JoinListsWithin : Type 0
JoinListsWithin = (committed mine : List Transaction) (joined : List Transaction × List Transaction) (items : List PlainItem) →
    Lawful items → AllRun committed items → AllRun mine items → join_list committed mine ≡ Ok joined →
    AllWithin (length items + (inserted_by committed + inserted_by mine)) joined.0
    × AllWithin (length items + (inserted_by committed + inserted_by mine)) joined.1

-- the inverses, last first
abbrev pub reversal : List Transaction → List Transaction
reversal [] = []
reversal (t ∷ ts) = reversal ts ++ inverse t ∷ []

-- the reversal gives the list back, and can itself be undone
pub record IsReversed (ts : List Transaction) (items : List PlainItem) : Type 0 where
  pub runs : AllRun (reversal ts) (replay ts items)
  pub back : replay (reversal ts) (replay ts items) ≡ items

abbrev pub ReversalUndoes : Type 0
ReversalUndoes = (ts : List Transaction) (items : List PlainItem) → Lawful items → AllNamesApart items → AllRun ts items →
    IsReversed ts items

-- the transactions of entries, in order
abbrev pub flattened : List (List Transaction) → List Transaction
flattened [] = []
flattened (entry ∷ entries) = entry ++ flattened entries

-- of two lists that were joined, the second one
abbrev pub mine_of : Result (List Transaction × List Transaction) RangeConflict → Result (List Transaction) RangeConflict
mine_of (Ok joined) = Ok joined.1
mine_of (Err clash) = Err clash

abbrev pub entry_at : List (List Transaction) → ℕ → List Transaction
entry_at entries i = slice_index_or entries i []

-- the transactions of the entries before entry i, and of those after it
abbrev pub made_before : List (List Transaction) → ℕ → List Transaction
made_before entries i = flattened (take i entries)

abbrev pub made_after : List (List Transaction) → ℕ → List Transaction
made_after entries i = flattened (drop (suc i) entries)

-- The transactions that take entry i back under the entries after it: its reversal, joined over
-- them. Else the first two ranges in conflict.
abbrev pub revoke : List (List Transaction) → ℕ → Result (List Transaction) RangeConflict
revoke entries i = mine_of (join_list (made_after entries i) (reversal (entry_at entries i)))

-- Taking it back runs on the list with all entries. The list is then as it would be had the entry
-- never been made, and the later ones been joined over its absence.
pub record IsTakenBack (entries : List (List Transaction)) (i : ℕ) (back : List Transaction) (base : List PlainItem) : Type 0 where
  pub without : List Transaction
  pub joined : join_list (made_after entries i) (reversal (entry_at entries i)) ≡ Ok (without, back)
  pub runs : AllRun back (replay (flattened entries) base)
  pub without_runs : AllRun without (replay (made_before entries i) base)
  pub one_list : replay back (replay (flattened entries) base) ≡ replay without (replay (made_before entries i) base)

abbrev pub RevokeTakesBack : Type 0
RevokeTakesBack = (entries : List (List Transaction)) (i : ℕ) (back : List Transaction) (base : List PlainItem) → i < length entries →
    Lawful base → AllNamesApart base → AllRun (flattened entries) base → revoke entries i ≡ Ok back → IsTakenBack entries i back base

-- Where no entry is later, its reversal takes it back, which gives the list before the entry.
abbrev pub RevokeOfLast : Type 0
RevokeOfLast = (entries : List (List Transaction)) (i : ℕ) → made_after entries i ≡ [] →
    revoke entries i ≡ Ok (reversal (entry_at entries i))

-- how many items the transactions remove
abbrev pub removed_by : List Transaction → ℕ
removed_by [] = 0
removed_by (t ∷ ts) = length (all_removed t) + removed_by ts

-- The result of taking the entry back is no longer than the base with all that the entries insert
-- and the entry removes.
abbrev pub RevokeIsWithin : Type 0
RevokeIsWithin = (entries : List (List Transaction)) (i : ℕ) (back : List Transaction) (base : List PlainItem) → i < length entries →
    Lawful base → AllNamesApart base → AllRun (flattened entries) base → revoke entries i ≡ Ok back →
    AllWithin (length base + (inserted_by (flattened entries) + removed_by (entry_at entries i))) back
