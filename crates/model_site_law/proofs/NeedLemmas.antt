-- Joined transactions remove the items that they removed before.
use Rattle.std.proofs.Common.{◌≡◌, ℕ, zero, suc, Bool, true, false, not, List, [], ◌∷◌, ◌++◌, length, take, nat_le, Result, Ok, Err, if◌then◌else◌, refl, sym, ap, ◌∙◌, subst}
use Rattle.std.proofs.lemmas.List.{append_assoc, append-nil}
use Rattle.ve_base.specs.declared.value.Value.{Value}
use Rattle.model_items.specs.declared.plain_item.PlainItem.{PlainItem}
use Rattle.model_change.specs.Inverse.{filled}
use Rattle.model_change.specs.Join.{RangeConflict, after_row, both_attributes, conflict, core, end_of, first, has_some, is_active, join, join_list, join_row, last, list_with, moved_on, range_conflict, retained, row_with, start_of, with_ends, with_new_end, without_end, without_first}
use Rattle.model_change.specs.Store.{cited}
use Rattle.model_change.specs.Transaction.{Attribute, Replace, Retain, Transaction, all_removed, new_length}
use Rattle.model_site.specs.Entries.{Parcel}
use Rattle.model_site.specs.Joined.{join_entries, joined_first}
use Rattle.model_site_law.specs.Chain.{needed_values}
use Rattle.model_site_law.specs.Sound.{AllIn}

removed-append : (xs ys : Transaction) → all_removed (xs ++ ys) ≡ all_removed xs ++ all_removed ys
removed-append [] ys = refl
removed-append (Retain n ∷ xs) ys = removed-append xs ys
removed-append (Replace gone new ∷ xs) ys = ap (λ r. gone ++ r) (removed-append xs ys) ∙ sym (append_assoc gone (all_removed xs) (all_removed ys))
removed-append (Attribute c ∷ xs) ys = removed-append xs ys

removed-retained : (n : ℕ) → all_removed (retained n) ≡ []
removed-retained zero = refl
removed-retained (suc n) = refl

removed-with_ends : (p : ℕ) (ops : Transaction) (q : ℕ) → all_removed (with_ends p ops q) ≡ all_removed ops
removed-with_ends p ops q =
    removed-append (retained p) (ops ++ retained q) ∙ ap (λ r. r ++ all_removed (ops ++ retained q)) (removed-retained p)
    ∙ removed-append ops (retained q) ∙ ap (λ r. all_removed ops ++ r) (removed-retained q) ∙ append-nil (all_removed ops)

removed-without_first : (t : Transaction) → all_removed (without_first t) ≡ all_removed t
removed-without_first [] = refl
removed-without_first (Retain n ∷ ops) = refl
removed-without_first (Replace gone new ∷ ops) = refl
removed-without_first (Attribute c ∷ ops) = refl

removed-without_end : (t : Transaction) → all_removed (without_end t) ≡ all_removed t
removed-without_end [] = refl
removed-without_end (Retain n ∷ []) = refl
removed-without_end (Retain n ∷ op ∷ ops) = removed-without_end (op ∷ ops)
removed-without_end (Replace gone new ∷ ops) = ap (λ r. gone ++ r) (removed-without_end ops)
removed-without_end (Attribute c ∷ ops) = removed-without_end ops

removed-core : (t : Transaction) → all_removed (core t) ≡ all_removed t
removed-core t = removed-without_end (without_first t) ∙ removed-without_first t

inactive_removes : (t : Transaction) → is_active t ≡ false → all_removed t ≡ []
inactive_removes t h = sym (removed-core t) ∙ by_core (core t) h
  where
    by_core : (ops : Transaction) → has_some ops ≡ false → all_removed ops ≡ []
    by_core [] h = refl
    by_core (op ∷ ops) h = cc

abbrev second : Transaction × Transaction → Transaction
second p = p.1

-- of the second one
pub removed-join : (a b : Transaction) → all_removed (join a b).1 ≡ all_removed b
removed-join a b = by_both (both_attributes a b)
  where
    by_left : (c : Bool) → all_removed (second (if c then (with_new_end a b, moved_on b a) else (moved_on a b, with_new_end b a))) ≡ all_removed b
    by_left true = removed-with_ends _ (core b) (last b) ∙ removed-core b
    by_left false = removed-with_ends (first b) (core b) _ ∙ removed-core b

    by_second : (c : Bool) → is_active b ≡ c → (o : Transaction × Transaction) → all_removed (second o) ≡ all_removed b →
        all_removed (second (if not c then (a, retained (new_length a)) else o)) ≡ all_removed b
    by_second true e o h = h
    by_second false e o h = removed-retained (new_length a) ∙ sym (inactive_removes b e)

    by_first : (c : Bool) (o : Transaction × Transaction) → all_removed (second o) ≡ all_removed b → all_removed (second (if not c then (retained (new_length b), b) else o)) ≡ all_removed b
    by_first true o h = h
    by_first false o h = refl

    by_both : (c : Bool) → all_removed (second (if c then (a, b) else (if not (is_active a) then (retained (new_length b), b)
        else (if not (is_active b) then (a, retained (new_length a))
        else (if nat_le (end_of a) (start_of b) then (with_new_end a b, moved_on b a) else (moved_on a b, with_new_end b a)))))) ≡ all_removed b
    by_both true = refl
    by_both false =
        let left : Transaction × Transaction = if nat_le (end_of a) (start_of b) then (with_new_end a b, moved_on b a) else (moved_on a b, with_new_end b a) in
        let both : Transaction × Transaction = if not (is_active b) then (a, retained (new_length a)) else left in
        by_first (is_active a) both (by_second (is_active b) refl left (by_left (nat_le (end_of a) (start_of b))))

pub row_with-ok : (one : Transaction) (r : Result (List Transaction × Transaction) RangeConflict) (row : List Transaction × Transaction) → row_with one r ≡ Ok row →
    (rest : List Transaction × Transaction) × (r ≡ Ok rest) × ((one ∷ rest.0, rest.1) ≡ row)
row_with-ok one (Err clash) row h = cc
row_with-ok one (Ok rest) row h = let e : ◌≡◌ {A = List Transaction × Transaction} (one ∷ rest.0, rest.1) row = cc in (rest, refl, e)

pub list_with-ok : (one : Transaction) (r : Result (List Transaction × List Transaction) RangeConflict) (joined : List Transaction × List Transaction) → list_with one r ≡ Ok joined →
    (rest : List Transaction × List Transaction) × (r ≡ Ok rest) × ((rest.0, one ∷ rest.1) ≡ joined)
list_with-ok one (Err clash) joined h = cc
list_with-ok one (Ok rest) joined h = let e : ◌≡◌ {A = List Transaction × List Transaction} (rest.0, one ∷ rest.1) joined = cc in (rest, refl, e)

pub after_row-ok : (r : Result (List Transaction × Transaction) RangeConflict) (f : List Transaction → Result (List Transaction × List Transaction) RangeConflict)
    (joined : List Transaction × List Transaction) → after_row r f ≡ Ok joined →
    (row : List Transaction × Transaction) × (r ≡ Ok row) × (list_with row.1 (f row.0) ≡ Ok joined)
after_row-ok (Err clash) f joined h = cc
after_row-ok (Ok row) f joined h = (row, refl, h)

if_ok : {A E : Type 0} (b : Bool) (e : E) (r : Result A E) (y : A) → (if b then Err e else r) ≡ Ok y → r ≡ Ok y
if_ok true e r y h = cc
if_ok false e r y h = h

removed-row : (committed : List Transaction) (t : Transaction) (row : List Transaction × Transaction) → join_row committed t ≡ Ok row → all_removed row.1 ≡ all_removed t
removed-row [] t row h = let e : ◌≡◌ {A = List Transaction × Transaction} ([], t) row = cc in ap (λ (r : List Transaction × Transaction). all_removed r.1) (sym e)
removed-row (one ∷ committed) t row h =
    let p = row_with-ok (join one t).0 (join_row committed (join one t).1) row (if_ok (conflict one t) (range_conflict one t) _ row h) in
    ap (λ (r : List Transaction × Transaction). all_removed r.1) (sym p.2) ∙ removed-row committed (join one t).1 p.0 p.1 ∙ removed-join one t

needed-list : (committed mine : List Transaction) (r : List Transaction × List Transaction) → join_list committed mine ≡ Ok r → needed_values r.1 ≡ needed_values mine
needed-list committed [] r h = let e : ◌≡◌ {A = List Transaction × List Transaction} (committed, []) r = cc in ap (λ (q : List Transaction × List Transaction). needed_values q.1) (sym e)
needed-list committed (t ∷ mine) r h =
    let p = after_row-ok (join_row committed t) (λ over. join_list over mine) r h in
    let q = list_with-ok p.0.1 (join_list p.0.0 mine) r p.2 in
    ap (λ (u : List Transaction × List Transaction). needed_values u.1) (sym q.2)
    ∙ ap (λ n. cited (all_removed p.0.1) ++ n) (needed-list p.0.0 mine q.0 q.1)
    ∙ ap (λ n. cited n ++ needed_values mine) (removed-row committed t p.0 p.1)

-- each parcel's undo finds what it needs
abbrev pub AllNeeded : List Value → List Parcel → Type 0
AllNeeded S [] = Unit {0}
AllNeeded S (p ∷ ps) = AllIn S (needed_values p) × AllNeeded S ps

pub over_needed : (S : List Value) (foreign : Parcel) (ps : List Parcel) → AllNeeded S (take (length (join_entries foreign ps).kept) ps) → AllNeeded S (join_entries foreign ps).kept
over_needed S foreign [] h = tt
over_needed S foreign (p ∷ ps) h = by_first (λ f. over_needed S f ps) (join_list foreign p) refl h
  where
    by_first : ((f : Parcel) → AllNeeded S (take (length (join_entries f ps).kept) ps) → AllNeeded S (join_entries f ps).kept) → (o : Result (List Transaction × List Transaction) RangeConflict) → join_list foreign p ≡ o →
        AllNeeded S (take (length (joined_first foreign o (λ next. join_entries next ps)).kept) (p ∷ ps)) → AllNeeded S (joined_first foreign o (λ next. join_entries next ps)).kept
    by_first ih (Err clash) e h = tt
    by_first ih (Ok r) e h = (subst (AllIn S) (sym (needed-list foreign p r e)) h.0, ih r.0 h.1)

pub removed-filled : (t : Transaction) (items : List PlainItem) → all_removed (filled t items) ≡ all_removed t
removed-filled [] items = refl
removed-filled (Retain count ∷ ops) items = removed-filled ops _
removed-filled (Replace gone new ∷ ops) items = ap (λ r. gone ++ r) (removed-filled ops _)
removed-filled (Attribute change ∷ ops) items = removed-filled ops _
