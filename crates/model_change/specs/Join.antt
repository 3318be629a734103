-- When two transactions on one list conflict, and otherwise how each is changed to apply after the
-- other. After VisualEditor's `ve.dm.Change` in outline; the exact rule is this project's own.
use Rattle.std.specs.Prelude.{◌≡◌, ℕ, zero, suc, ◌+◌, ◌-◌, ◌≤◌, max, Bool, true, false, not, ◌&&◌, ◌||◌, ◌==◌, nat_le, if◌then◌else◌, List, [], ◌∷◌, ◌++◌, length, take, drop, Option, Some, None, Result, Ok, Err}
use Rattle.ve_base.specs.Limits.{max_total_length}
use Rattle.model_items.specs.declared.plain_item.PlainItem.{PlainItem}
use Rattle.model_items.specs.Law.{Lawful}
use Rattle.model_change.specs.Attributes.{AttrChange, clash}
use Rattle.model_change.specs.Transaction.{Retain, Replace, Attribute, Transaction, old_length, new_length, all_inserted, total_length, edited, is_reduced, is_normal, InsertedApart}
use Rattle.model_change.specs.Fault.{Applies, placed_changes}
use Rattle.model_change.specs.Inverse.{IsRestorable}

-- the retain before all other operations
abbrev pub first : Transaction → ℕ
first (Retain count ∷ ops) = count
first _ = 0

abbrev pub without_first : Transaction → Transaction
without_first (Retain count ∷ ops) = ops
without_first [] = []
without_first (Replace removed inserted ∷ ops) = Replace removed inserted ∷ ops
without_first (Attribute change ∷ ops) = Attribute change ∷ ops

abbrev pub end_retain : Transaction → ℕ
end_retain [] = 0
end_retain (Retain count ∷ []) = count
end_retain (op ∷ ops) = end_retain ops

abbrev pub without_end : Transaction → Transaction
without_end [] = []
without_end (Retain count ∷ []) = []
without_end (op ∷ ops) = op ∷ without_end ops

-- the retain after all other operations; 0 where there are none
abbrev pub last : Transaction → ℕ
last t = end_retain (without_first t)

-- all operations but the first and the last retain
abbrev pub core : Transaction → Transaction
core t = without_end (without_first t)

-- how far operations reach from where they begin: an attribute operation covers its item
abbrev pub reach : Transaction → ℕ
reach [] = 0
reach (Retain count ∷ ops) = count + reach ops
reach (Replace removed inserted ∷ ops) = length removed + reach ops
reach (Attribute change ∷ ops) = max 1 (reach ops)

abbrev pub has_some : Transaction → Bool
has_some [] = false
has_some (op ∷ ops) = true

-- there is an operation that isn't a retain
abbrev pub is_active : Transaction → Bool
is_active t = has_some (core t)

-- where the active range begins and ends in the old list
abbrev pub start_of : Transaction → ℕ
start_of t = first t

abbrev pub end_of : Transaction → ℕ
end_of t = first t + reach (core t)

-- from the start of the first operation that isn't a retain to the end of the last; an attribute
-- operation at p covers p to p + 1
abbrev pub active_range : Transaction → Option (ℕ × ℕ)
active_range t = if is_active t then Some (start_of t, end_of t) else None

abbrev pub has_replace : Transaction → Bool
has_replace [] = false
has_replace (Replace removed inserted ∷ ops) = true
has_replace (Retain count ∷ ops) = has_replace ops
has_replace (Attribute change ∷ ops) = has_replace ops

abbrev pub has_attribute : Transaction → Bool
has_attribute [] = false
has_attribute (Attribute change ∷ ops) = true
has_attribute (Retain count ∷ ops) = has_attribute ops
has_attribute (Replace removed inserted ∷ ops) = has_attribute ops

abbrev pub is_attribute_transaction : Transaction → Bool
is_attribute_transaction t = has_attribute t && not (has_replace t)

-- at one position, and of one name or both adding or removing
abbrev pub meets : ℕ × AttrChange → ℕ × AttrChange → Bool
meets (p, c) (q, d) = (p == q) && clash c d

abbrev pub meets_one : ℕ × AttrChange → List (ℕ × AttrChange) → Bool
meets_one c [] = false
meets_one c (d ∷ ds) = meets c d || meets_one c ds

abbrev pub some_meet : List (ℕ × AttrChange) → List (ℕ × AttrChange) → Bool
some_meet [] ds = false
some_meet (c ∷ cs) ds = meets_one c ds || some_meet cs ds

abbrev pub both_attributes : Transaction → Transaction → Bool
both_attributes a b = is_attribute_transaction a && is_attribute_transaction b

-- both are active, and neither ends where the other starts or before
abbrev pub overlap : Transaction → Transaction → Bool
overlap a b =
    (is_active a && is_active b) && (not (nat_le (end_of a) (start_of b)) && not (nat_le (end_of b) (start_of a)))

-- two attribute transactions conflict where operations of theirs meet, all others where their
-- active ranges overlap
abbrev pub conflict : Transaction → Transaction → Bool
conflict a b =
    if both_attributes a b then some_meet (placed_changes 0 a) (placed_changes 0 b) else overlap a b

-- a retain of so many items, left out where there are none
abbrev pub retained : ℕ → Transaction
retained zero = []
retained (suc n) = Retain (suc n) ∷ []

-- operations between a first and a last retain
abbrev pub with_ends : ℕ → Transaction → ℕ → Transaction
with_ends m ops n = retained m ++ (ops ++ retained n)

-- t after another that lies wholly before it: its first retain changes by the other one's change of
-- length
abbrev pub moved_on : Transaction → Transaction → Transaction
moved_on t other = with_ends ((first t + new_length other) - old_length other) (core t) (last t)

-- t after another that lies wholly after it: so does its last retain
abbrev pub with_new_end : Transaction → Transaction → Transaction
with_new_end t other = with_ends (first t) (core t) ((last t + new_length other) - old_length other)

-- The first over the second, and the second over the first, where they don't conflict. The first is
-- left where it ends at the other's start or before.
abbrev pub join : Transaction → Transaction → Transaction × Transaction
join a b =
    if both_attributes a b then (a, b)
    else (if not (is_active a) then (retained (new_length b), b)
    else (if not (is_active b) then (a, retained (new_length a))
    else (if nat_le (end_of a) (start_of b)
    then (with_new_end a b, moved_on b a)
    else (moved_on a b, with_new_end b a))))

-- a and b apply to the list, b2 after a, and a2 after b, and one list comes of both
pub record Agree (a b a2 b2 : Transaction) (items : List PlainItem) : Type 0 where
  pub first_then : Applies b2 (edited a items)
  pub second_then : Applies a2 (edited b items)
  pub one_list : edited b2 (edited a items) ≡ edited a2 (edited b items)

-- two active ranges that conflict: a committed transaction's, and one's of mine
pub record RangeConflict : Type 0 where
  pub committed : ℕ × ℕ
  pub mine : ℕ × ℕ

abbrev pub range_conflict : Transaction → Transaction → RangeConflict
range_conflict committed mine = record { committed = (start_of committed, end_of committed); mine = (start_of mine, end_of mine) }

-- one more committed transaction before a row, and one more of mine before a list
abbrev pub row_with : Transaction → Result (List Transaction × Transaction) RangeConflict →
    Result (List Transaction × Transaction) RangeConflict
row_with committed (Ok row) = Ok (committed ∷ row.0, row.1)
row_with committed (Err clash) = Err clash

abbrev pub list_with : Transaction → Result (List Transaction × List Transaction) RangeConflict →
    Result (List Transaction × List Transaction) RangeConflict
list_with mine (Ok joined) = Ok (joined.0, mine ∷ joined.1)
list_with mine (Err clash) = Err clash

-- The committed ones, each the first argument, in turn over one of mine: they over it, and it over
-- them; or the first two ranges in conflict.
abbrev pub join_row : List Transaction → Transaction → Result (List Transaction × Transaction) RangeConflict
join_row [] mine = Ok ([], mine)
join_row (one ∷ committed) mine =
    if conflict one mine then Err (range_conflict one mine) else row_with (join one mine).0 (join_row committed (join one mine).1)

abbrev pub after_row : Result (List Transaction × Transaction) RangeConflict →
    (List Transaction → Result (List Transaction × List Transaction) RangeConflict) →
    Result (List Transaction × List Transaction) RangeConflict
after_row (Ok row) rest = list_with row.1 (rest row.0)
after_row (Err clash) rest = Err clash

-- The committed ones over mine, and mine over the committed ones, row by row. Else the first two
-- ranges in conflict, in the order of mine and then of the committed ones.
abbrev pub join_list : List Transaction → List Transaction → Result (List Transaction × List Transaction) RangeConflict
join_list committed [] = Ok (committed, [])
join_list committed (one ∷ mine) = after_row (join_row committed one) (λ over. join_list over mine)

-- The items before the active range and after it stay as they are.
abbrev pub OnlyActiveChanges : Type 0
OnlyActiveChanges = (t : Transaction) (items : List PlainItem) → is_reduced t ≡ true → Applies t items →
    (piece : List PlainItem) × (edited t items ≡ take (start_of t) items ++ (piece ++ drop (end_of t) items))

abbrev pub ConflictIsSymmetric : Type 0
ConflictIsSymmetric = (a b : Transaction) → conflict a b ≡ conflict b a

-- a and b, reduced, apply to one list, and do not conflict
pub record MayJoin (a b : Transaction) (items : List PlainItem) : Type 0 where
  pub reduced : is_reduced a ≡ true
  pub reduced_too : is_reduced b ≡ true
  pub applies : Applies a items
  pub applies_too : Applies b items
  pub apart : conflict a b ≡ false

-- Then each one, joined, applies after the other, and either way gives one list.
abbrev pub JoinsAgree : Type 0
JoinsAgree = (a b : Transaction) (items : List PlainItem) → MayJoin a b items → Agree a b (join a b).0 (join a b).1 items

-- The joined list is lawful where the list is and either change alone leaves it lawful.
abbrev pub JoinsLawful : Type 0
JoinsLawful = (a b : Transaction) (items : List PlainItem) → MayJoin a b items → Lawful items → Lawful (edited a items) →
    Lawful (edited b items) → Lawful (edited (join a b).1 (edited a items))

-- Joined transactions are again reduced.
abbrev pub JoinsReduced : Type 0
JoinsReduced = (a b : Transaction) (items : List PlainItem) → MayJoin a b items →
    (is_reduced (join a b).0 ≡ true) × (is_reduced (join a b).1 ≡ true)

-- Each keeps all that it inserts, so its lengths add up to the other's new length and its inserted
-- items.
abbrev pub JoinsLengths : Type 0
JoinsLengths = (a b : Transaction) (items : List PlainItem) → MayJoin a b items →
    (total_length (join a b).0 ≡ new_length b + length (all_inserted a))
    × (total_length (join a b).1 ≡ new_length a + length (all_inserted b))

-- So the bound of the normal form is kept where the list with all that both insert is within it.
-- (It is not kept without that: on the empty list let a insert 2^60 items and b one. Both are in
-- normal form, and a over b is not.)
abbrev pub JoinsNormal : Type 0
JoinsNormal = (a b : Transaction) (items : List PlainItem) → MayJoin a b items →
    length items + (length (all_inserted a) + length (all_inserted b)) ≤ max_total_length →
    (is_normal (join a b).0 ≡ true) × (is_normal (join a b).1 ≡ true)

-- Joined transactions can put back what they remove, where a and b can.
abbrev pub JoinsRestorable : Type 0
JoinsRestorable = (a b : Transaction) (items : List PlainItem) → MayJoin a b items → IsRestorable a items → IsRestorable b items →
    IsRestorable (join a b).1 (edited a items) × IsRestorable (join a b).0 (edited b items)

-- It inserts nothing that a and b do not insert.
abbrev pub JoinsApart : Type 0
JoinsApart = (a b : Transaction) → conflict a b ≡ false → InsertedApart a → InsertedApart b →
    InsertedApart (join a b).0 × InsertedApart (join a b).1
