-- Entries kept under committed transactions in two parts are those that the second part keeps of
-- those that the first keeps.
use Rattle.std.proofs.Common.{◌≡◌, false, true, Bool, List, [], ◌∷◌, ◌++◌, Option, Some, None, Result, Ok, Err, option_map, option_and_then, if◌then◌else◌, refl, sym, ap, ◌∙◌}
use Rattle.model_change.specs.Transaction.{Transaction}
use Rattle.model_change.specs.Join.{RangeConflict, conflict, join, range_conflict, row_with, list_with, join_row, after_row, join_list}
use Rattle.model_change.proofs.ReversalLaw.{join_list-none}
use Rattle.model_site.specs.Entries.{Parcel}
use Rattle.model_site.specs.Joined.{joined_first, join_entries}

abbrev Row : Type 0
Row = List Transaction × Transaction

abbrev Lists : Type 0
Lists = List Transaction × List Transaction

-- ---- joins without the conflict that ends them: of two that can't be joined, which one conflicts
-- first depends on the order of rows and columns

abbrev or_none : {A : Type 0} → Result A RangeConflict → Option A
or_none (Ok x) = Some x
or_none (Err clash) = None

abbrev over_it : Transaction → Row → Row
over_it one r = (one ∷ r.0, r.1)

abbrev try_row : List Transaction → Transaction → Option Row
try_row [] t = Some ([], t)
try_row (one ∷ committed) t = if conflict one t then None else option_map (over_it (join one t).0) (try_row committed (join one t).1)

try_row_is : (committed : List Transaction) (t : Transaction) → or_none (join_row committed t) ≡ try_row committed t
try_row_is [] t = refl
try_row_is (one ∷ committed) t = by_conflict (conflict one t) (join_row committed (join one t).1) (try_row committed (join one t).1) (try_row_is committed (join one t).1)
  where
    by_conflict : (c : Bool) (r : Result Row RangeConflict) (o : Option Row) → or_none r ≡ o →
        or_none (if c then Err (range_conflict one t) else row_with (join one t).0 r) ≡ (if c then None else option_map (over_it (join one t).0) o)
    by_conflict true r o h = refl
    by_conflict false (Err clash) o h = ap (option_map (over_it (join one t).0)) h
    by_conflict false (Ok r) o h = ap (option_map (over_it (join one t).0)) h

abbrev under_it : Row → Lists → Lists
under_it row rest = (rest.0, row.1 ∷ rest.1)

abbrev try_list : (committed mine : List Transaction) → Option Lists
try_list committed [] = Some (committed, [])
try_list committed (t ∷ mine) = option_and_then (λ (row : Row). option_map (under_it row) (try_list row.0 mine)) (try_row committed t)

abbrev with_row : (mine : List Transaction) → Row → Option Lists
with_row mine row = option_map (under_it row) (try_list row.0 mine)

try_list_is : (committed mine : List Transaction) → or_none (join_list committed mine) ≡ try_list committed mine
try_list_is committed [] = refl
try_list_is committed (t ∷ mine) = by_row (λ c. try_list_is c mine) (join_row committed t) (try_row committed t) (try_row_is committed t)
  where
    by_list : (row : Row) (x : Result Lists RangeConflict) (o : Option Lists) → or_none x ≡ o → or_none (list_with row.1 x) ≡ option_map (under_it row) o
    by_list row (Err clash) o e = ap (option_map (under_it row)) e
    by_list row (Ok x) o e = ap (option_map (under_it row)) e

    by_row : ((c : List Transaction) → or_none (join_list c mine) ≡ try_list c mine) → (r : Result Row RangeConflict) (o : Option Row) → or_none r ≡ o →
        or_none (after_row r (λ over. join_list over mine)) ≡ option_and_then (with_row mine) o
    by_row ih (Err clash) o h = ap (option_and_then (with_row mine)) h
    by_row ih (Ok row) o h = by_list row (join_list row.0 mine) (try_list row.0 mine) (ih row.0) ∙ ap (option_and_then (with_row mine)) h

-- ---- joins over committed ones in two parts

abbrev row_on : Row → Option Row → Option Row
row_on r o = option_map (λ (q : Row). (r.0 ++ q.0, q.1)) o

abbrev row_then : List Transaction → Option Row → Option Row
row_then b None = None
row_then b (Some r) = row_on r (try_row b r.1)

try_row-append : (a b : List Transaction) (t : Transaction) → try_row (a ++ b) t ≡ row_then b (try_row a t)
try_row-append [] b t = by_row (try_row b t)
  where
    by_row : (o : Option Row) → o ≡ row_on ([], t) o
    by_row None = refl
    by_row (Some r) = refl
try_row-append (one ∷ a) b t =
    by_conflict (conflict one t) (join one t).0 (try_row (a ++ b) (join one t).1) (try_row a (join one t).1) (try_row-append a b (join one t).1)
  where
    by_row : (t2 : Transaction) (o : Option Row) → option_map (over_it t2) (row_then b o) ≡ row_then b (option_map (over_it t2) o)
    by_row t2 None = refl
    by_row t2 (Some r) = by_next (try_row b r.1)
      where
        by_next : (o : Option Row) → option_map (over_it t2) (row_on r o) ≡ row_on (t2 ∷ r.0, r.1) o
        by_next None = refl
        by_next (Some q) = refl

    by_conflict : (c : Bool) (t2 : Transaction) (o p : Option Row) → o ≡ row_then b p →
        (if c then None else option_map (over_it t2) o) ≡ row_then b (if c then None else option_map (over_it t2) p)
    by_conflict true t2 o p h = refl
    by_conflict false t2 o p h = ap (option_map (over_it t2)) h ∙ by_row t2 p

abbrev lists_on : Lists → Option Lists → Option Lists
lists_on r o = option_map (λ (q : Lists). (r.0 ++ q.0, q.1)) o

abbrev lists_then : List Transaction → Option Lists → Option Lists
lists_then b None = None
lists_then b (Some r) = lists_on r (try_list b r.1)

try_list-append : (a b mine : List Transaction) → try_list (a ++ b) mine ≡ lists_then b (try_list a mine)
try_list-append a b [] = refl
try_list-append a b (t ∷ mine) =
    ap (option_and_then (with_row mine)) (try_row-append a b t) ∙ by_row (λ c d. try_list-append c d mine) (try_row a t)
  where
    by_row : ((c d : List Transaction) → try_list (c ++ d) mine ≡ lists_then d (try_list c mine)) → (o : Option Row) →
        option_and_then (with_row mine) (row_then b o) ≡ lists_then b (option_and_then (with_row mine) o)
    by_row ih None = refl
    by_row ih (Some r) = by_next (try_row b r.1) refl
      where
        swap : (o : Option Lists) (q : Row) → try_row b r.1 ≡ Some q →
            option_map (under_it q) (lists_then q.0 o) ≡ lists_then b (option_map (under_it r) o)
        swap None q e = refl
        swap (Some s) q e = by_last (try_list q.0 s.1) ∙ ap (lists_on (s.0, r.1 ∷ s.1)) (sym (ap (option_and_then (with_row s.1)) e))
          where
            by_last : (o : Option Lists) → option_map (under_it q) (lists_on s o) ≡ lists_on (s.0, r.1 ∷ s.1) (option_map (under_it q) o)
            by_last None = refl
            by_last (Some u) = refl

        none : (o : Option Lists) → try_row b r.1 ≡ None → None ≡ lists_then b (option_map (under_it r) o)
        none None e = refl
        none (Some s) e = ap (lists_on (s.0, r.1 ∷ s.1)) (sym (ap (option_and_then (with_row s.1)) e))

        by_next : (o : Option Row) → try_row b r.1 ≡ o → option_and_then (with_row mine) (row_on r o) ≡ lists_then b (with_row mine r)
        by_next None e = none (try_list r.0 mine) e
        by_next (Some q) e = ap (option_map (under_it q)) (ih r.0 q.0) ∙ swap (try_list r.0 mine) q e

from_or_none : {A : Type 0} (r : Result A RangeConflict) (x : A) → or_none r ≡ Some x → r ≡ Ok x
from_or_none (Err clash) x h = cc
from_or_none (Ok y) x h = let same : y ≡ x = cc in ap (λ z. Ok z) same

-- what joins over the first part, and then over the second, joins over both
pub joins_in_parts : (a b mine : List Transaction) (r s : List Transaction × List Transaction) → join_list a mine ≡ Ok r → join_list b r.1 ≡ Ok s →
    join_list (a ++ b) mine ≡ Ok (r.0 ++ s.0, s.1)
joins_in_parts a b mine r s e f =
    let first : try_list a mine ≡ Some r = sym (try_list_is a mine) ∙ ap or_none e in
    let second : try_list b r.1 ≡ Some s = sym (try_list_is b r.1) ∙ ap or_none f in
    from_or_none (join_list (a ++ b) mine) (r.0 ++ s.0, s.1)
    (try_list_is (a ++ b) mine ∙ try_list-append a b mine ∙ ap (lists_then b) first ∙ ap (lists_on r) second)

-- ---- what is kept

-- the first entry, joined or not, and what is kept of the rest
abbrev kept_first : Option Lists → (List Transaction → List Parcel) → List Parcel
kept_first None rest = []
kept_first (Some r) rest = r.1 ∷ rest r.0

abbrev kept : (committed : List Transaction) → List Parcel → List Parcel
kept committed entries = (join_entries committed entries).kept

kept_is : (committed : List Transaction) (e : Parcel) (es : List Parcel) → kept committed (e ∷ es) ≡ kept_first (try_list committed e) (λ over. kept over es)
kept_is committed e es = by_first (join_list committed e) ∙ ap (λ o. kept_first o (λ over. kept over es)) (try_list_is committed e)
  where
    by_first : (r : Result Lists RangeConflict) → (joined_first committed r (λ over. join_entries over es)).kept ≡ kept_first (or_none r) (λ over. kept over es)
    by_first (Err clash) = refl
    by_first (Ok r) = refl

pub kept-nil : (es : List Parcel) → (join_entries [] es).kept ≡ es
kept-nil [] = refl
kept-nil (e ∷ es) = ap (λ r. (joined_first [] r (λ over. join_entries over es)).kept) (join_list-none e) ∙ ap (λ r. e ∷ r) (kept-nil es)

-- under committed ones in two parts
pub kept-append : (a b : List Transaction) (es : List Parcel) → (join_entries (a ++ b) es).kept ≡ (join_entries b (join_entries a es).kept).kept
kept-append a b [] = refl
kept-append a b (e ∷ es) =
    kept_is (a ++ b) e es ∙ ap (λ o. kept_first o (λ over. kept over es)) (try_list-append a b e)
    ∙ by_first (λ c d. kept-append c d es) (try_list a e) ∙ ap (kept b) (sym (kept_is a e es))
  where
    by_first : ((c d : List Transaction) → kept (c ++ d) es ≡ kept d (kept c es)) → (o : Option Lists) →
        kept_first (lists_then b o) (λ over. kept over es) ≡ kept b (kept_first o (λ over. kept over es))
    by_first ih None = refl
    by_first ih (Some q) = by_next (try_list b q.1) ∙ sym (kept_is b q.1 (kept q.0 es))
      where
        by_next : (o : Option Lists) → kept_first (lists_on q o) (λ over. kept over es) ≡ kept_first o (λ over. kept over (kept q.0 es))
        by_next None = refl
        by_next (Some u) = ap (λ r. u.1 ∷ r) (ih q.0 u.0)
