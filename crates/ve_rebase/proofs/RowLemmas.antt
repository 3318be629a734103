-- A row joined cell by cell, and rows joined one by one.
use Rattle.std.proofs.Common.{◌≡◌, ◌≤◌, ◌<◌, ℕ, zero, suc, ◌+◌, List, [], ◌∷◌, ◌++◌, length, map, take, drop, get_or, All, Result, Ok, Err, refl, sym, ap, subst, ◌∙◌, arith, if◌then◌else◌, Bool, true, false}
use Rattle.std.proofs.lemmas.List.{append_assoc, append-nil, take_all, drop_all, map-append}
use Rattle.std.proofs.lemmas.List.Elements.{All-get_or, All-set}
use Rattle.std.specs.Prelude.{slice_set}
use Rattle.ve_base.specs.declared.value.Value.{Value}
use Rattle.model_change.specs.Transaction.{Transaction}
use Rattle.model_change.specs.Join.{conflict, join, join_row, join_list, row_with, list_with, after_row, range_conflict, RangeConflict}
use Rattle.ve_tx.specs.Operation.{by_value}
use Rattle.ve_rebase.specs.declared.fault.RebaseFault.{RebaseFault}
use Rattle.ve_rebase.specs.declared.fault.RebaseFault.TheVariants.{Conflict, Memory}
use Rattle.ve_rebase.specs.declared.span.ActiveSpan.{ActiveSpan}
use Rattle.ve_rebase.specs.declared.shifted.Shifted.{Shifted}
use Rattle.ve_rebase.specs.Span.{old_size, new_size, AreJoinedApart}
use Rattle.ve_rebase.specs.Pair.{between}
use Rattle.ve_rebase.specs.Lists.{IsRefusedAs, zipped}
use Rattle.ve_rebase.specs.Shifted.{IsShifted, shifted_by_value, all_by_value, operations, FollowFrom, length_after, ArePaired, row_after, with_span, RowSoFar, IsOver, IsRow, AreRows, StartTogether}
use Rattle.ve_rebase.proofs.RangeLemmas.{apart_conflict}
use Rattle.ve_rebase.proofs.ShiftedLemmas.{paired_so}

pub row_after-none : (r : Result (List Transaction × Transaction) RangeConflict) → r ≡ row_after [] r
row_after-none (Ok row) = refl
row_after-none (Err clash) = refl

row_with-after : (one : Transaction) (done : List Transaction) (r : Result (List Transaction × Transaction) RangeConflict) → row_with one (row_after done r) ≡ row_after (one ∷ done) r
row_with-after one done (Ok row) = refl
row_with-after one done (Err clash) = refl

row_with-one : (one : Transaction) (r : Result (List Transaction × Transaction) RangeConflict) → row_with one r ≡ row_after (one ∷ []) r
row_with-one one (Ok row) = refl
row_with-one one (Err clash) = refl

-- the first of a row, and then the rest
abbrev row_or : List Transaction × Transaction → Result (List Transaction × Transaction) RangeConflict → List Transaction × Transaction
row_or other (Ok row) = row
row_or other (Err clash) = other

abbrev head_or : Transaction → List Transaction → Transaction
head_or other [] = other
head_or other (t ∷ ts) = t

parts : (u w x y : Transaction) → ◌≡◌ {A = Result (List Transaction × Transaction) RangeConflict} (Ok (u ∷ [], w)) (Ok (x ∷ [], y)) → (u ≡ x) × (w ≡ y)
parts u w x y h = (ap (λ r. head_or u (row_or ([], w) r).0) h, ap (λ r. (row_or ([], w) r).1) h)

by_conflict : (x y x2 y2 : Transaction) (xs : List Transaction) (met : Bool) → conflict x y ≡ met →
    (if met then Err (range_conflict x y) else row_with (join x y).0 (Ok ([], (join x y).1))) ≡ Ok (x2 ∷ [], y2) →
    (if met then Err (range_conflict x y) else row_with (join x y).0 (join_row xs (join x y).1)) ≡ row_after (x2 ∷ []) (join_row xs y2)
by_conflict x y x2 y2 xs true e h = absurd (cc)
by_conflict x y x2 y2 xs false e h =
    let p = parts (join x y).0 (join x y).1 x2 y2 h in
    ap (λ one. row_with one (join_row xs (join x y).1)) p.0 ∙ (ap (λ two. row_with x2 (join_row xs two)) p.1 ∙ row_with-one x2 (join_row xs y2))

first_joined : (x y x2 y2 : Transaction) (xs : List Transaction) → join_row (x ∷ []) y ≡ Ok (x2 ∷ [], y2) → join_row (x ∷ xs) y ≡ row_after (x2 ∷ []) (join_row xs y2)
first_joined x y x2 y2 xs h = by_conflict x y x2 y2 xs (conflict x y) refl h

refused_by : (x y : Transaction) (xs : List Transaction) (why : RebaseFault) (met : Bool) → conflict x y ≡ met →
    IsRefusedAs {A = List Transaction × Transaction} (if met then Err (range_conflict x y) else row_with (join x y).0 (Ok ([], (join x y).1))) why →
    IsRefusedAs {A = List Transaction × Transaction} (if met then Err (range_conflict x y) else row_with (join x y).0 (join_row xs (join x y).1)) why
refused_by x y xs Memory met e h = tt
refused_by x y xs (Conflict a b) true e h = h
refused_by x y xs (Conflict a b) false e h = absurd (cc)

first_refused : (x y : Transaction) (xs : List Transaction) (why : RebaseFault) → IsRefusedAs (join_row (x ∷ []) y) why → IsRefusedAs (join_row (x ∷ xs) y) why
first_refused x y xs why h = refused_by x y xs why (conflict x y) refl h

-- a refusal of what is left is one of the whole
after_refused : (done : List Transaction) (r : Result (List Transaction × Transaction) RangeConflict) (why : RebaseFault) → IsRefusedAs r why → IsRefusedAs (row_after done r) why
after_refused done r Memory h = tt
after_refused done r (Conflict a b) h = ap (row_after done) h

-- the first of what a list has from an index on, by value
zipped-index : {A : Type 0} (f : List Value → A → Transaction) (i : ℕ) (values : List (List Value)) (xs : List A) (x : A) → i < length xs → x ≡ get_or xs i x →
    (v : List Value) × (zipped f (drop i values) (drop i xs) ≡ f v x ∷ zipped f (drop (suc i) values) (drop (suc i) xs))
    × ((y : A) → zipped f values (take (suc i) (slice_set xs i y)) ≡ zipped f values (take i xs) ++ f v y ∷ [])
zipped-index f i values [] x h e = absurd (omega arith)
zipped-index f zero [] (z ∷ xs) x h e = ([], ap (λ w. f [] w ∷ zipped f [] xs) (sym e), λ y. refl)
zipped-index f zero (v ∷ values) (z ∷ xs) x h e = (v, ap (λ w. f v w ∷ zipped f values xs) (sym e), λ y. refl)
zipped-index f (suc i) [] (z ∷ xs) x h e =
    let r = zipped-index f i [] xs x (omega arith) e in
    (r.0, none i r.0 r.1, λ y. ap (λ l. f [] z ∷ l) (r.2 y))
  where
    none : (i : ℕ) (v : List Value) → zipped f (drop i []) (drop i xs) ≡ f v x ∷ zipped f (drop (suc i) []) (drop (suc i) xs) →
        zipped f [] (drop i xs) ≡ f v x ∷ zipped f [] (drop (suc i) xs)
    none zero v h = h
    none (suc i) v h = h
zipped-index f (suc i) (w ∷ values) (z ∷ xs) x h e =
    let r = zipped-index f i values xs x (omega arith) e in
    (r.0, r.1, λ y. ap (λ l. f w z ∷ l) (r.2 y))

drop-set : {A : Type 0} (i : ℕ) (xs : List A) (y : A) → drop (suc i) (slice_set xs i y) ≡ drop (suc i) xs
drop-set i [] y = refl
drop-set zero (x ∷ xs) y = refl
drop-set (suc i) (x ∷ xs) y = drop-set i xs y

take-set : {A : Type 0} (i : ℕ) (xs : List A) (y : A) → i < length xs → take (suc i) (slice_set xs i y) ≡ take i xs ++ y ∷ []
take-set i [] y h = absurd (omega arith)
take-set zero (x ∷ xs) y h = refl
take-set (suc i) (x ∷ xs) y h = ap (λ l. x ∷ l) (take-set i xs y (omega arith))

drop-index : {A : Type 0} (i : ℕ) (xs : List A) (x : A) → i < length xs → x ≡ get_or xs i x → drop i xs ≡ x ∷ drop (suc i) xs
drop-index i [] x h e = absurd (omega arith)
drop-index zero (z ∷ xs) x h e = ap (λ w. w ∷ xs) (sym e)
drop-index (suc i) (z ∷ xs) x h e = drop-index i xs x (omega arith) e

All-index : {A : Type 0} (P : A → Type 0) (i : ℕ) (xs : List A) (x : A) → All P xs → i < length xs → x ≡ get_or xs i x → P x
All-index P i xs x h lt e = subst P (sym e) (All-get_or P xs i x lt h)

map-set : {A B : Type 0} (f : A → B) (i : ℕ) (xs : List A) (x y : A) → i < length xs → x ≡ get_or xs i x → f y ≡ f x → map f (slice_set xs i y) ≡ map f xs
map-set f i [] x y lt e same = refl
map-set f zero (z ∷ xs) x y lt e same = ap (λ w. w ∷ map f xs) (same ∙ ap f e)
map-set f (suc i) (z ∷ xs) x y lt e same = ap (λ l. f z ∷ l) (map-set f i xs x y (omega arith) e same)

pub length-map-same : {A B : Type 0} (f : A → B) (xs ys : List A) → map f xs ≡ map f ys → length xs ≡ length ys
length-map-same f [] [] e = refl
length-map-same f [] (y ∷ ys) e = absurd (cc)
length-map-same f (x ∷ xs) [] e = absurd (cc)
length-map-same f (x ∷ xs) (y ∷ ys) e = let r : map f xs ≡ map f ys = cc in ap suc (length-map-same f xs ys r)

-- what was lent as a slice, and is as long as before, is all there is
pub lent_whole : {A : Type 0} (n : ℕ) (new old : List A) → length new ≡ length old → length old ≤ n → take n (new ++ drop (length new) old) ≡ new
lent_whole n new old same within =
    ap (λ l. take n (new ++ l)) (drop_all (length new) old (omega (arith, same))) ∙ (ap (take n) (append-nil new) ∙ take_all n new (omega (arith, same, within)))

row_after-twice : (done : List Transaction) (one : Transaction) (r : Result (List Transaction × Transaction) RangeConflict) →
    row_after done (row_after (one ∷ []) r) ≡ row_after (done ++ one ∷ []) r
row_after-twice done one (Ok row) = ap (λ l. Ok (l, row.1)) (sym (append_assoc done (one ∷ []) row.0))
row_after-twice done one (Err clash) = refl

length_after_one : (n : ℕ) (xs : List Shifted) (one : Shifted) → length_after n (xs ++ one ∷ []) ≡ new_size one.span
length_after_one n [] one = refl
length_after_one n (x ∷ xs) one = length_after_one (new_size x.span) xs one

pub row_begun : (committed : List Shifted) (mine : Shifted) → All IsShifted committed → FollowFrom (old_size mine.span) committed → IsShifted mine →
    RowSoFar committed committed mine mine.span 0
row_begun committed mine h follow k = record {
  kept = refl;
  shifted = h;
  mine_shifted = k;
  done = λ more m. m;
  left = follow;
  old_end = refl;
  new_end = refl;
  joined = λ values others. row_after-none (join_row (all_by_value values committed) (shifted_by_value others mine));
}

module _ (old now : List Shifted) (mine : Shifted) (span : ActiveSpan) (i : ℕ) (one : Shifted) (so_far : RowSoFar old now mine span i) (lt : i < length now) (e : one ≡ get_or now i one) where
  here : drop i now ≡ one ∷ drop (suc i) now
  here = drop-index i now one lt e

  left_here : (old_size one.span ≡ old_size span) × FollowFrom (new_size one.span) (drop (suc i) now)
  left_here = subst (FollowFrom (old_size span)) here so_far.left

  pub one_shifted : IsShifted one
  one_shifted = All-index IsShifted i now one so_far.shifted lt e

  pub one_length : old_size one.span ≡ old_size span
  one_length = left_here.0

  pub row_refused : (why : RebaseFault) →
      ((values others : List Value) → IsRefusedAs (join_row (shifted_by_value values one ∷ []) (between span (by_value others mine.tx.now))) why) →
      (values : List (List Value)) (others : List Value) → IsRefusedAs (join_row (all_by_value values old) (shifted_by_value others mine)) why
  row_refused why h values others =
      let z = zipped-index shifted_by_value i values now one lt e in
      let y = between span (by_value others mine.tx.now) in
      let xs = all_by_value (drop (suc i) values) (drop (suc i) now) in
      subst (λ r. IsRefusedAs r why) (sym (so_far.joined values others))
      (after_refused (all_by_value values (take i now)) (join_row (all_by_value (drop i values) (drop i now)) y) why
      (subst (λ l. IsRefusedAs (join_row l y) why) (sym z.1) (first_refused (shifted_by_value z.0 one) y xs why (h z.0 others))))

  pub row_next : (s r : ActiveSpan) → ArePaired one (record { tx = mine.tx; span = span }) s r →
      RowSoFar old (slice_set now i (record { tx = one.tx; span = s })) mine r (suc i)
  row_next s r p = record {
    kept = map-set operations i now one (record { tx = one.tx; span = s }) lt e refl ∙ so_far.kept;
    shifted = All-set IsShifted now i (record { tx = one.tx; span = s }) p.first so_far.shifted;
    mine_shifted = p.second;
    done = λ more m.
        let two : FollowFrom (new_size span) (record { tx = one.tx; span = s } ∷ more) = (p.first_length, subst (λ n. FollowFrom n more) (sym p.one_length) m) in
        subst (FollowFrom (new_size mine.span))
        (sym (append_assoc (take i now) (record { tx = one.tx; span = s } ∷ []) more) ∙ ap (λ l. l ++ more) (sym (take-set i now (record { tx = one.tx; span = s }) lt)))
        (so_far.done (record { tx = one.tx; span = s } ∷ more) two);
    left = subst (FollowFrom (old_size r)) (sym (drop-set i now (record { tx = one.tx; span = s })))
        (subst (λ n. FollowFrom n (drop (suc i) now)) (sym p.second_length) left_here.1);
    old_end = ap (length_after (old_size r)) (drop-set i now (record { tx = one.tx; span = s }))
        ∙ (ap (λ n. length_after n (drop (suc i) now)) p.second_length
        ∙ (sym (ap (length_after (old_size span)) here) ∙ so_far.old_end));
    new_end = ap (length_after (new_size mine.span)) (take-set i now (record { tx = one.tx; span = s }) lt)
        ∙ (length_after_one (new_size mine.span) (take i now) (record { tx = one.tx; span = s }) ∙ p.one_length);
    joined = λ values others.
        let z = zipped-index shifted_by_value i values now one lt e in
        let y = between span (by_value others mine.tx.now) in
        let y2 = between r (by_value others mine.tx.now) in
        let x = shifted_by_value z.0 one in
        let x2 = between s (by_value z.0 one.tx.now) in
        let xs = all_by_value (drop (suc i) values) (drop (suc i) now) in
        let done = all_by_value values (take i now) in
        so_far.joined values others
        ∙ (ap (λ l. row_after done (join_row l y)) z.1
        ∙ (ap (row_after done) (first_joined x y x2 y2 xs (p.joined z.0 others))
        ∙ (row_after-twice done x2 (join_row xs y2)
        ∙ (ap (λ l. row_after l (join_row xs y2)) (sym (z.2 (record { tx = one.tx; span = s })))
        ∙ ap (λ l. row_after (all_by_value values (take (suc i) (slice_set now i (record { tx = one.tx; span = s })))) (join_row (all_by_value (drop (suc i) values) l) y2))
        (sym (drop-set i now (record { tx = one.tx; span = s })))))));
  }

  -- where their ranges lie apart
  pub row_apart : (s r : ActiveSpan) → AreJoinedApart one.span span s r → RowSoFar old (slice_set now i (record { tx = one.tx; span = s })) mine r (suc i)
  row_apart s r j =
      let by_now : Shifted = record { tx = mine.tx; span = span } in
      row_next s r (paired_so one by_now s r one_shifted so_far.mine_shifted one_length j.first j.second (λ values others. apart_conflict one by_now one_shifted so_far.mine_shifted j.apart values others) j.short)

  -- or where it is joined with the span of mine by then
  pub row_over : (over : Shifted) (r : ActiveSpan) → IsOver one (with_span mine span) over r → RowSoFar old (slice_set now i over) mine r (i + 1)
  row_over over r h =
      let next : suc i ≡ i + 1 = omega arith in
      subst (RowSoFar old (slice_set now i over) mine r) next
      (subst (λ x. RowSoFar old (slice_set now i x) mine r (suc i)) (sym h.same) (row_next over.span r h.paired))

pub row_done : (old now : List Shifted) (mine : Shifted) (span : ActiveSpan) (i : ℕ) → RowSoFar old now mine span i → length now ≤ i → IsRow old mine now span
row_done old now mine span i so_far end =
    let all : take i now ≡ now = take_all i now end in
    let none : drop i now ≡ [] = drop_all i now end in
    record {
      kept = so_far.kept;
      shifted = so_far.shifted;
      mine_shifted = so_far.mine_shifted;
      follow = subst (FollowFrom (new_size mine.span)) (append-nil (take i now) ∙ all) (so_far.done [] tt);
      old_end = sym (ap (length_after (old_size span)) none) ∙ so_far.old_end;
      new_end = sym so_far.new_end ∙ ap (length_after (new_size mine.span)) all;
      joined = λ values others.
          let y = between span (by_value others mine.tx.now) in
          so_far.joined values others
          ∙ (ap (λ l. row_after (all_by_value values (take i now)) (join_row (all_by_value (drop i values) l) y)) none
          ∙ (ap (λ l. Ok (l, y)) (append-nil (all_by_value values (take i now)))
          ∙ ap (λ l. Ok (all_by_value values l, y)) all));
    }

-- lists after what is joined of mine
abbrev pub list_after : List Transaction → Result (List Transaction × List Transaction) RangeConflict → Result (List Transaction × List Transaction) RangeConflict
list_after done (Ok joined) = Ok (joined.0, done ++ joined.1)
list_after done (Err clash) = Err clash

pub list_after-none : (r : Result (List Transaction × List Transaction) RangeConflict) → r ≡ list_after [] r
list_after-none (Ok joined) = refl
list_after-none (Err clash) = refl

list_after-with : (done : List Transaction) (one : Transaction) (r : Result (List Transaction × List Transaction) RangeConflict) →
    list_after done (list_with one r) ≡ list_after (done ++ one ∷ []) r
list_after-with done one (Ok joined) = ap (λ l. Ok (joined.0, l)) (sym (append_assoc done (one ∷ []) joined.1))
list_after-with done one (Err clash) = refl

lists_refused : (done : List Transaction) (r : Result (List Transaction × List Transaction) RangeConflict) (why : RebaseFault) → IsRefusedAs r why → IsRefusedAs (list_after done r) why
lists_refused done r Memory h = tt
lists_refused done r (Conflict a b) h = ap (list_after done) h

row_fails : (xs ys : List Transaction) (y : Transaction) (why : RebaseFault) → IsRefusedAs (join_row xs y) why → IsRefusedAs (join_list xs (y ∷ ys)) why
row_fails xs ys y Memory h = tt
row_fails xs ys y (Conflict a b) h = ap (λ r. after_row r (λ over. join_list over ys)) h

-- Committed ones and those of mine that are left start from lists of one length, and what is left
-- ends where all of mine does. Those of mine that are done follow one another, from where all
-- committed ones ended before to where they end by now.
pub record GoesOn (n : ℕ) (old mine now left done : List Shifted) : Type 0 where
  pub size : ℕ
  pub committed : FollowFrom size now
  pub mine_left : FollowFrom size left
  pub end : length_after size left ≡ length_after n mine
  pub mine_done : (more : List Shifted) → FollowFrom (length_after size now) more → FollowFrom (length_after n old) (done ++ more)

-- how far the rows are joined
pub record RowsSoFar (old now mine_old mine_now : List Shifted) (j : ℕ) : Type 0 where
  pub kept : map operations now ≡ map operations old
  pub mine_kept : map operations mine_now ≡ map operations mine_old
  pub shifted : All IsShifted now
  pub mine_shifted : All IsShifted mine_now
  pub left : StartTogether now (drop j mine_now)
  pub follow : (n : ℕ) → FollowFrom n old → FollowFrom n mine_old → GoesOn n old mine_old now (drop j mine_now) (take j mine_now)
  pub joined : (values : List (List Value)) (others : List Value) →
      join_list (all_by_value values old) (map (shifted_by_value others) mine_old)
      ≡ list_after (map (shifted_by_value others) (take j mine_now)) (join_list (all_by_value values now) (map (shifted_by_value others) (drop j mine_now)))

pub rows_begun : (committed mine : List Shifted) → All IsShifted committed → All IsShifted mine → StartTogether committed mine → RowsSoFar committed committed mine mine 0
rows_begun committed mine h k start = record {
  kept = refl;
  mine_kept = refl;
  shifted = h;
  mine_shifted = k;
  left = start;
  follow = λ n h k. record { size = n; committed = h; mine_left = k; end = refl; mine_done = λ more m. m };
  joined = λ values others. list_after-none (join_list (all_by_value values committed) (map (shifted_by_value others) mine));
}

module _ (old now mine_old mine_now : List Shifted) (j : ℕ) (one : Shifted) (so_far : RowsSoFar old now mine_old mine_now j) (lt : j < length mine_now) (e : one ≡ get_or mine_now j one) where
  mine_here : drop j mine_now ≡ one ∷ drop (suc j) mine_now
  mine_here = drop-index j mine_now one lt e

  mine_left : (old_size one.span ≡ so_far.left.length) × FollowFrom (new_size one.span) (drop (suc j) mine_now)
  mine_left = subst (FollowFrom so_far.left.length) mine_here so_far.left.mine_follow

  pub mine_one : IsShifted one
  mine_one = All-index IsShifted j mine_now one so_far.mine_shifted lt e

  pub committed_follow : FollowFrom (old_size one.span) now
  committed_follow = subst (λ n. FollowFrom n now) (sym mine_left.0) so_far.left.committed_follow

  pub rows_refused : (why : RebaseFault) →
      ((values : List (List Value)) (others : List Value) → IsRefusedAs (join_row (all_by_value values now) (shifted_by_value others one)) why) →
      (values : List (List Value)) (others : List Value) → IsRefusedAs (join_list (all_by_value values old) (map (shifted_by_value others) mine_old)) why
  rows_refused why h values others =
      let f = shifted_by_value others in
      subst (λ r. IsRefusedAs r why) (sym (so_far.joined values others))
      (lists_refused (map f (take j mine_now)) (join_list (all_by_value values now) (map f (drop j mine_now))) why
      (subst (λ l. IsRefusedAs (join_list (all_by_value values now) (map f l)) why) (sym mine_here)
      (row_fails (all_by_value values now) (map f (drop (suc j) mine_now)) (f one) why (h values others))))

  goes_on : (n : ℕ) → GoesOn n old mine_old now (drop j mine_now) (take j mine_now) → (over : List Shifted) (span : ActiveSpan) → IsRow now one over span →
      GoesOn n old mine_old over (drop (suc j) (slice_set mine_now j (record { tx = one.tx; span = span }))) (take (suc j) (slice_set mine_now j (record { tx = one.tx; span = span })))
  goes_on n g over span row =
      let next : Shifted = record { tx = one.tx; span = span } in
      let mine : FollowFrom g.size (one ∷ drop (suc j) mine_now) = subst (FollowFrom g.size) mine_here g.mine_left in
      let starts : old_size span ≡ length_after g.size now = row.old_end ∙ ap (λ m. length_after m now) mine.0 in
      subst (λ left. GoesOn n old mine_old over left (take (suc j) (slice_set mine_now j next))) (sym (drop-set j mine_now next)) (record {
        size = new_size one.span;
        committed = row.follow;
        mine_left = mine.1;
        end = ap (length_after g.size) (sym mine_here) ∙ g.end;
        mine_done = λ more m.
            subst (FollowFrom (length_after n old)) (sym (ap (λ l. l ++ more) (take-set j mine_now next lt) ∙ append_assoc (take j mine_now) (next ∷ []) more))
            (g.mine_done (next ∷ more) (starts, subst (λ m. FollowFrom m more) (sym row.new_end) m));
      })

  pub rows_next : (over : List Shifted) (span : ActiveSpan) → IsRow now one over span →
      RowsSoFar old over mine_old (slice_set mine_now j (record { tx = one.tx; span = span })) (suc j)
  rows_next over span row = record {
    kept = row.kept ∙ so_far.kept;
    mine_kept = map-set operations j mine_now one (record { tx = one.tx; span = span }) lt e refl ∙ so_far.mine_kept;
    shifted = row.shifted;
    mine_shifted = All-set IsShifted mine_now j (record { tx = one.tx; span = span }) row.mine_shifted so_far.mine_shifted;
    left = record {
      length = new_size one.span;
      committed_follow = row.follow;
      mine_follow = subst (FollowFrom (new_size one.span)) (sym (drop-set j mine_now (record { tx = one.tx; span = span }))) mine_left.1;
    };
    follow = λ n h k. goes_on n (so_far.follow n h k) over span row;
    joined = λ values others.
        let f = shifted_by_value others in
        let next : Shifted = record { tx = one.tx; span = span } in
        let ys = map f (drop (suc j) mine_now) in
        let done = map f (take j mine_now) in
        so_far.joined values others
        ∙ (ap (λ l. list_after done (join_list (all_by_value values now) (map f l))) mine_here
        ∙ (ap (λ r. list_after done (after_row r (λ xs. join_list xs ys))) (row.joined values others)
        ∙ (list_after-with done (f next) (join_list (all_by_value values over) ys)
        ∙ (ap (λ l. list_after l (join_list (all_by_value values over) ys)) (sym (ap (map f) (take-set j mine_now next lt) ∙ map-append f (take j mine_now) (next ∷ [])))
        ∙ ap (λ l. list_after (map f (take (suc j) (slice_set mine_now j next))) (join_list (all_by_value values over) (map f l))) (sym (drop-set j mine_now next))))));
  }

pub rows_done : (old now mine_old mine_now : List Shifted) (j : ℕ) → RowsSoFar old now mine_old mine_now j → length mine_now ≤ j → AreRows old mine_old now mine_now
rows_done old now mine_old mine_now j so_far end =
    let all : take j mine_now ≡ mine_now = take_all j mine_now end in
    let none : drop j mine_now ≡ [] = drop_all j mine_now end in
    record {
      kept = so_far.kept;
      mine_kept = so_far.mine_kept;
      shifted = so_far.shifted;
      mine_shifted = so_far.mine_shifted;
      follow = λ n h k.
          let g = so_far.follow n h k in
          subst (λ m. FollowFrom m now) (ap (length_after g.size) (sym none) ∙ g.end) g.committed;
      mine_follow = λ n h k. subst (FollowFrom (length_after n old)) (append-nil (take j mine_now) ∙ all) ((so_far.follow n h k).mine_done [] tt);
      joined = λ values others.
          let f = shifted_by_value others in
          so_far.joined values others
          ∙ (ap (λ l. list_after (map f (take j mine_now)) (join_list (all_by_value values now) (map f l))) none
          ∙ (ap (λ l. Ok (all_by_value values now, l)) (append-nil (map f (take j mine_now)))
          ∙ ap (λ l. Ok (all_by_value values now, map f l)) all));
    }
