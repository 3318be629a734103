-- Transactions of several entries joined at once, and the same entry by entry.
use Rattle.std.proofs.Common.{◌≡◌, suc, List, [], ◌∷◌, ◌++◌, length, map, Result, Ok, Err, Bool, true, false, if◌then◌else◌, refl, sym, ap, subst, ◌∙◌}
use Rattle.model_change.specs.Transaction.{Transaction}
use Rattle.model_change.specs.Join.{conflict, join, join_row, join_list, row_with, list_with, after_row, range_conflict, RangeConflict}
use Rattle.model_site.specs.Entries.{Parcel}
use Rattle.ve_rebase.specs.Moved.{AreMovedOver}
use Rattle.ve_rebase.specs.Shifted.{row_after}
use Rattle.ve_rebase.proofs.RowLemmas.{row_after-none}
use Rattle.ve_rebase.proofs.GroupLemmas.{JoinedLists, all_of, parted_alike}

abbrev JoinedRow : Type 0
JoinedRow = Result (List Transaction × Transaction) RangeConflict

-- ---- a row: the first committed ones, and then the rest

abbrev then_row : JoinedRow → (Transaction → JoinedRow) → JoinedRow
then_row (Ok row) rest = row_after row.0 (rest row.1)
then_row (Err clash) rest = Err clash

with_after : (one : Transaction) (done : List Transaction) (r : JoinedRow) → row_with one (row_after done r) ≡ row_after (one ∷ done) r
with_after one done (Ok row) = refl
with_after one done (Err clash) = refl

with_then : (one : Transaction) (r : JoinedRow) (rest : Transaction → JoinedRow) → row_with one (then_row r rest) ≡ then_row (row_with one r) rest
with_then one (Ok row) rest = with_after one row.0 (rest row.1)
with_then one (Err clash) rest = refl

unless : (met : Bool) (clash : RangeConflict) (r : JoinedRow) (rest : Transaction → JoinedRow) →
    (if met then Err clash else then_row r rest) ≡ then_row (if met then Err clash else r) rest
unless true clash r rest = refl
unless false clash r rest = refl

row_parted : (xs ys : List Transaction) (y : Transaction) → join_row (xs ++ ys) y ≡ then_row (join_row xs y) (λ z. join_row ys z)
row_parted [] ys y = row_after-none (join_row ys y)
row_parted (x ∷ xs) ys y =
    ap (λ r. if conflict x y then Err (range_conflict x y) else row_with (join x y).0 r) (row_parted xs ys (join x y).1)
    ∙ (ap (λ r. if conflict x y then Err (range_conflict x y) else r) (with_then (join x y).0 (join_row xs (join x y).1) (λ z. join_row ys z))
    ∙ unless (conflict x y) (range_conflict x y) (row_with (join x y).0 (join_row xs (join x y).1)) (λ z. join_row ys z))

-- as many are joined
abbrev AreAsMany : List Transaction → JoinedRow → Type 0
AreAsMany xs (Ok row) = length row.0 ≡ length xs
AreAsMany xs (Err clash) = Unit {0}

one_more : (x one : Transaction) (xs : List Transaction) (met : Bool) (clash : RangeConflict) (r : JoinedRow) → AreAsMany xs r → AreAsMany (x ∷ xs) (if met then Err clash else row_with one r)
one_more x one xs true clash r h = tt
one_more x one xs false clash (Ok row) h = ap suc h
one_more x one xs false clash (Err other) h = tt

as_many : (xs : List Transaction) (y : Transaction) → AreAsMany xs (join_row xs y)
as_many [] y = refl
as_many (x ∷ xs) y = one_more x (join x y).0 xs (conflict x y) (range_conflict x y) (join_row xs (join x y).1) (as_many xs (join x y).1)

-- ---- all rows: where none is in conflict, the first columns, and then the rest

abbrev both : List Transaction → List Transaction → JoinedLists
both xs ys = Ok (xs, ys)

abbrev lists_of : JoinedLists → List Transaction × List Transaction
lists_of (Ok joined) = joined
lists_of (Err clash) = ([], [])

both_are : (xs ys zs ws : List Transaction) → both xs ys ≡ both zs ws → (xs ≡ zs) × (ys ≡ ws)
both_are xs ys zs ws h = (ap (λ r. (lists_of r).0) h, ap (λ r. (lists_of r).1) h)

record Columns (xs ys mine over mine_over : List Transaction) : Type 0 where
  pub first : List Transaction
  pub second : List Transaction
  pub mid : List Transaction
  pub one : join_list xs mine ≡ both first mid
  pub two : join_list ys mid ≡ both second mine_over
  pub all : over ≡ first ++ second
  pub many : length first ≡ length xs

abbrev HasColumns : List Transaction → Type 0
HasColumns mine = (xs ys over mine_over : List Transaction) → join_list (xs ++ ys) mine ≡ both over mine_over → Columns xs ys mine over mine_over

module _ (y : Transaction) (mine : List Transaction) (rest : HasColumns mine) (xs ys over mine_over : List Transaction) where
  by_rest : (row two : List Transaction × Transaction) → join_row xs y ≡ Ok row → join_row ys row.1 ≡ Ok two → length row.0 ≡ length xs →
      (r : JoinedLists) → join_list (row.0 ++ two.0) mine ≡ r → list_with two.1 r ≡ both over mine_over → Columns xs ys (y ∷ mine) over mine_over
  by_rest row two e f many (Err clash) g h = absurd (cc)
  by_rest row two e f many (Ok joined) g h =
      let k = rest row.0 two.0 joined.0 joined.1 g in
      let p = both_are joined.0 (two.1 ∷ joined.1) over mine_over h in
      record {
        first = k.first;
        second = k.second;
        mid = row.1 ∷ k.mid;
        one = ap (λ r. after_row r (λ over. join_list over mine)) e ∙ ap (list_with row.1) k.one;
        two = ap (λ r. after_row r (λ over. join_list over k.mid)) f ∙ (ap (list_with two.1) k.two ∙ ap (both k.second) p.1);
        all = sym p.0 ∙ k.all;
        many = k.many ∙ many;
      }

  by_second : (row : List Transaction × Transaction) → join_row xs y ≡ Ok row → length row.0 ≡ length xs → (r : JoinedRow) → join_row ys row.1 ≡ r →
      after_row (row_after row.0 r) (λ over. join_list over mine) ≡ both over mine_over → Columns xs ys (y ∷ mine) over mine_over
  by_second row e many (Err clash) f h = absurd (cc)
  by_second row e many (Ok two) f h = by_rest row two e f many (join_list (row.0 ++ two.0) mine) refl h

  by_first : (r : JoinedRow) → join_row xs y ≡ r → AreAsMany xs r → after_row (then_row r (λ z. join_row ys z)) (λ over. join_list over mine) ≡ both over mine_over →
      Columns xs ys (y ∷ mine) over mine_over
  by_first (Err clash) e many h = absurd (cc)
  by_first (Ok row) e many h = by_second row e many (join_row ys row.1) refl h

columns : (mine : List Transaction) → HasColumns mine
columns [] xs ys over mine_over h =
    let p = both_are (xs ++ ys) [] over mine_over h in
    record { first = xs; second = ys; mid = []; one = refl; two = ap (both ys) p.1; all = sym p.0; many = refl }
columns (y ∷ mine) xs ys over mine_over h =
    by_first y mine (columns mine) xs ys over mine_over (join_row xs y) refl (as_many xs y) (sym (ap (λ r. after_row r (λ over. join_list over mine)) (row_parted xs ys y)) ∙ h)

-- ---- entries

over_none : (mine : List Transaction) → join_list [] mine ≡ both [] mine
over_none [] = refl
over_none (y ∷ mine) = ap (list_with y) (over_none mine)

pub moved_at_once : (foreign committed : List Parcel) (mine moved : List Transaction) → join_list (all_of foreign) mine ≡ both (all_of committed) moved →
    map length committed ≡ map length foreign → AreMovedOver foreign mine committed moved
moved_at_once [] [] mine moved h sizes =
    sym (both_are [] mine [] moved (sym (over_none mine) ∙ h)).1
moved_at_once [] (c ∷ committed) mine moved h sizes = absurd (cc)
moved_at_once (f ∷ foreign) [] mine moved h sizes = absurd (cc)
moved_at_once (f ∷ foreign) (c ∷ committed) mine moved h sizes =
    let k = columns mine f (all_of foreign) (all_of (c ∷ committed)) moved h in
    let count : length c ≡ length f = cc in
    let counts : map length committed ≡ map length foreign = cc in
    let p = parted_alike c k.first (all_of committed) k.second (count ∙ sym k.many) k.all in
    (k.mid, k.one ∙ ap (λ l. both l k.mid) (sym p.0), moved_at_once foreign committed k.mid moved (k.two ∙ ap (λ l. both l moved) (sym p.1)) counts)

pub moved_both : (xs : List Parcel) (mine : List Transaction) (cs : List Parcel) (mid : List Transaction) (ys ds : List Parcel) (moved : List Transaction) →
    AreMovedOver xs mine cs mid → AreMovedOver ys mid ds moved → AreMovedOver (xs ++ ys) mine (cs ++ ds) moved
moved_both [] mine [] mid ys ds moved h g = subst (λ m. AreMovedOver ys m ds moved) h g
moved_both (x ∷ xs) mine (c ∷ cs) mid ys ds moved h g = (h.0, h.1, moved_both xs h.0 cs mid ys ds moved h.2 g)
moved_both [] mine (c ∷ cs) mid ys ds moved h g = absurd h
moved_both (x ∷ xs) mine [] mid ys ds moved h g = absurd h
