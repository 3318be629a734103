-- Where the floors of a grid's columns say what its cells cover: the next cell's column, whether it
-- meets another, and the floors after it.
use Rattle.std.specs.Prelude.{fold, sum_by, All}
use Rattle.std.specs.List.{list_any}
use Rattle.std.proofs.Common.{◌≡◌, inl, inr, ℕ, zero, suc, ◌+◌, ◌-◌, ◌<◌, ◌≤◌, max, Bool, true, false, ◌&&◌, ◌||◌, if◌then◌else◌, nat_lt, nat_le, List, [], ◌∷◌, ◌++◌, length, get_or, refl, sym, ap, ◌∙◌, subst, arith}
use Rattle.std.proofs.lemmas.List.Elements.{All-nil, All-cons, All-append}
use Rattle.std.proofs.lemmas.Bool.{cases_Bool, and_parts, and_from, le-leb, lt-ltb, leb-true, ltb-true, leb-false, ltb-false, false_from_ne_true, true≢false}
use Rattle.model_edit.specs.declared.grid_cell.GridCell.{GridCell}
use Rattle.model_edit.specs.Grid.{covers_row, covers_column, is_covered, first_free, cells_meet, is_crooked}
use Rattle.ve_tables.specs.Covered.{IsGap}
use Rattle.ve_tables.specs.Runs.{count_at, floor_at, IsBelow}
use Rattle.ve_tables.specs.Floors.{AreApart, IsSettled, IsFirst, HasTaken, AreTaken, IsFound, IsCovering, IsInTheWay, IsBegun, IsPlacing}
use Rattle.ve_tables.specs.declared.floors.Floors.{Floors}
use Rattle.ve_tables.specs.Placed.{Placed, next_cell}
use Rattle.ve_tables.proofs.FloorLemmas.{floor_none, floor_below}

-- the walk of the model, past columns that are covered to one that is not
seek : (cells : List GridCell) (row from n fuel : ℕ) → ((c : ℕ) → from ≤ c → c < from + n → is_covered cells row c ≡ true) → is_covered cells row (from + n) ≡ false → n ≤ fuel →
    first_free cells row from fuel ≡ from + n
seek cells row from zero zero passed free few = omega arith
seek cells row from zero (suc fuel) passed free few =
    let here : is_covered cells row from ≡ false = let z : from + 0 ≡ from = omega arith in subst (λ c. is_covered cells row c ≡ false) z free in
    let e : first_free cells row from (suc fuel) ≡ from = ap (λ b. if b then first_free cells row (suc from) fuel else from) here in
    omega arith
seek cells row from (suc n) zero passed free few = absurd (omega arith)
seek cells row from (suc n) (suc fuel) passed free few =
    let here : is_covered cells row from ≡ true = passed from (omega arith) (omega arith) in
    let e : first_free cells row from (suc fuel) ≡ first_free cells row (suc from) fuel = ap (λ b. if b then first_free cells row (suc from) fuel else from) here in
    let z : from + suc n ≡ suc from + n = omega arith in
    let r = seek cells row (suc from) n fuel (λ c low high. passed c (omega arith) (omega arith)) (subst (λ c. is_covered cells row c ≡ false) z free) (omega arith) in
    omega arith

-- The next cell's column is the first one whose floor isn't below the row.
pub column_is : (cells : List GridCell) (row end column : ℕ) (floors : Floors) → IsPlacing cells row end floors → end ≤ column → column ≤ floors.width →
    ((c : ℕ) → end ≤ c → c < column → row < floor_at floors.taken c) → floor_at floors.taken column ≤ row →
    first_free cells row end (sum_by (λ (c : GridCell). c.columns) cells) ≡ column
column_is cells row end column floors p low high passed free =
    let z : end + (column - end) ≡ column = omega arith in
    let few = p.few in
    let e = seek cells row end (column - end) (sum_by (λ (c : GridCell). c.columns) cells)
    (λ c from_ to_. p.covered row c (omega arith) ∙ lt-ltb row (floor_at floors.taken c) (passed c from_ (omega arith)))
    (subst (λ c. is_covered cells row c ≡ false) (sym z) (p.covered row column (omega arith) ∙ false_from_ne_true _ (λ t. let l = ltb-true row (floor_at floors.taken column) t in absurd (omega arith))))
    (omega arith) in
    e ∙ z

-- A cell that begins in the row meets none where its columns are free there.
pub none_meets : (cells : List GridCell) (one : GridCell) → All (IsBegun one.row) cells → 1 ≤ one.columns →
    ((c : ℕ) → one.column ≤ c → c < one.column + one.columns → is_covered cells one.row c ≡ false) → list_any (cells_meet one) cells ≡ false
none_meets [] one begun wide free = refl
none_meets (b ∷ cells) one begun wide free =
    let here = false_from_ne_true (cells_meet one b) (λ meets. apart (and_parts (nat_lt one.row (b.row + b.rows) && nat_lt b.row (one.row + one.rows)) _ meets)) in
    let later = none_meets cells one (λ k d less. begun (suc k) d (omega arith)) wide (λ c low high. rest c (free c low high)) in
    ap (λ x. x || list_any (cells_meet one) cells) here ∙ later
  where
    first : IsBegun one.row b
    first = begun 0 b (omega arith)

    over : ℕ → Bool
    over c = covers_row b one.row && covers_column b c

    rest : (c : ℕ) → (over c || is_covered cells one.row c) ≡ false → is_covered cells one.row c ≡ false
    rest c h = by (over c) (is_covered cells one.row c) h
      where
        by : (x y : Bool) → (x || y) ≡ false → y ≡ false
        by true y h = absurd (true≢false h)
        by false y h = h

    at : (c : ℕ) → one.column ≤ c → c < one.column + one.columns → one.row < b.row + b.rows → b.column ≤ c → c < b.column + b.columns → ⊥
    at c low high down left right =
        let above = first.above in
        let t : over c ≡ true = and_from _ _ (and_from _ _ (le-leb b.row one.row above) (lt-ltb one.row (b.row + b.rows) down)) (and_from _ _ (le-leb b.column c left) (lt-ltb c (b.column + b.columns) right)) in
        true≢false (sym (ap (λ x. x || is_covered cells one.row c) t) ∙ free c low high)

    apart : ((nat_lt one.row (b.row + b.rows) && nat_lt b.row (one.row + one.rows)) ≡ true) × ((nat_lt one.column (b.column + b.columns) && nat_lt b.column (one.column + one.columns)) ≡ true) → ⊥
    apart m =
        let rows = and_parts (nat_lt one.row (b.row + b.rows)) _ m.0 in
        let columns = and_parts (nat_lt one.column (b.column + b.columns)) _ m.1 in
        let down = ltb-true one.row (b.row + b.rows) rows.0 in
        let left = ltb-true one.column (b.column + b.columns) columns.0 in
        let right = ltb-true b.column (one.column + one.columns) columns.1 in
        let some = first.wide in
        elim (cases_Bool (nat_le b.column one.column)) [
          | inl before ↦ (let l = leb-true b.column one.column before in at one.column (omega arith) (omega arith) down l left)
          | inr past ↦ (let l = leb-false b.column one.column past in at b.column (omega arith) right down (omega arith) (omega arith))
        ]

-- And where a column is covered, it meets one.
pub one_meets : (cells : List GridCell) (one : GridCell) (c : ℕ) → All (IsBegun one.row) cells → 1 ≤ one.rows → one.column ≤ c → c < one.column + one.columns →
    is_covered cells one.row c ≡ true → list_any (cells_meet one) cells ≡ true
one_meets [] one c begun high from to h = absurd (true≢false (sym h))
one_meets (b ∷ cells) one c begun high from to h =
    by (one_meets cells one c (λ k d less. begun (suc k) d (omega arith)) high from to) (covers_row b one.row && covers_column b c) refl h
  where
    by : (is_covered cells one.row c ≡ true → list_any (cells_meet one) cells ≡ true) → (x : Bool) → (covers_row b one.row && covers_column b c) ≡ x →
        (x || is_covered cells one.row c) ≡ true → (cells_meet one b || list_any (cells_meet one) cells) ≡ true
    by later true e h =
        let p = and_parts (covers_row b one.row) _ e in
        let rows = and_parts (nat_le b.row one.row) _ p.0 in
        let columns = and_parts (nat_le b.column c) _ p.1 in
        let above = leb-true b.row one.row rows.0 in
        let down = ltb-true one.row (b.row + b.rows) rows.1 in
        let left = leb-true b.column c columns.0 in
        let right = ltb-true c (b.column + b.columns) columns.1 in
        let meets : cells_meet one b ≡ true =
        and_from _ _ (and_from _ _ (lt-ltb one.row (b.row + b.rows) down) (lt-ltb b.row (one.row + one.rows) (omega arith)))
        (and_from _ _ (lt-ltb one.column (b.column + b.columns) (omega arith)) (lt-ltb b.column (one.column + one.columns) (omega arith))) in
        ap (λ x. x || list_any (cells_meet one) cells) meets
    by later false e h = or_true (cells_meet one b) (later h)
      where
        or_true : (x : Bool) → list_any (cells_meet one) cells ≡ true → (x || list_any (cells_meet one) cells) ≡ true
        or_true true t = refl
        or_true false t = t

any_more : (p : GridCell → Bool) (cells : List GridCell) (one : GridCell) → list_any p (cells ++ one ∷ []) ≡ (list_any p cells || (p one || false))
any_more p [] one = refl
any_more p (b ∷ cells) one = ap (λ x. p b || x) (any_more p cells one) ∙ by (p b)
  where
    by : (x : Bool) → (x || (list_any p cells || (p one || false))) ≡ ((x || list_any p cells) || (p one || false))
    by true = refl
    by false = refl

ends_more : (a : ℕ) (cells : List GridCell) (one : GridCell) →
    fold (λ end (c : GridCell). max end (c.column + c.columns)) a (cells ++ one ∷ []) ≡ max (fold (λ end (c : GridCell). max end (c.column + c.columns)) a cells) (one.column + one.columns)
ends_more a [] one = refl
ends_more a (b ∷ cells) one = ends_more (max a (b.column + b.columns)) cells one

wide_more : (a : ℕ) (cells : List GridCell) (one : GridCell) → fold (λ n (c : GridCell). n + c.columns) a (cells ++ one ∷ []) ≡ fold (λ n (c : GridCell). n + c.columns) a cells + one.columns
wide_more a [] one = refl
wide_more a (b ∷ cells) one = wide_more (a + b.columns) cells one

-- A cell more, with the floors of its columns below it.
pub placed_more : (cells : List GridCell) (one : GridCell) (end : ℕ) (floors new : Floors) → IsPlacing cells one.row end floors → All (IsBelow one.row) floors.taken →
    IsFirst floors one.column → 1 ≤ one.columns → 1 ≤ one.rows → AreTaken floors one.column (one.column + one.columns) (one.row + one.rows) new → AreApart new →
    IsPlacing (cells ++ one ∷ []) one.row (one.column + one.columns) new
placed_more cells one end floors new p below first wide high set_ apart =
    let few = p.few in
    let long = set_.width in
    let within = first.high in
    let more = wide_more 0 cells one in
    record {
      covered = λ r c down. any_more (λ (b : GridCell). covers_row b r && covers_column b c) cells one ∙ at r c down;
      begun = All-append (IsBegun one.row) cells (one ∷ []) p.begun (All-cons (IsBegun one.row) one [] (record { above = omega arith; wide = wide }) (All-nil (IsBegun one.row)));
      wide = long ∙ ap (λ n. max n (one.column + one.columns)) p.wide ∙ sym (ends_more 0 cells one);
      few = omega arith;
      reached = reached;
      apart = apart;
    }
  where
    free : (c : ℕ) → one.column ≤ c → c < one.column + one.columns → floor_at floors.taken c ≤ one.row
    free c low high_ = let none = floor_none floors.taken c (set_.free c low high_) in omega arith

    reached : (c : ℕ) → c < one.column + one.columns → one.row < floor_at new.taken c
    reached c less =
        elim (cases_Bool (nat_lt c one.column)) [
          | inl t ↦ (let before = ltb-true c one.column t in
              let same = set_.outside c (inl before) in
              let passed = first.passed c before in
              let low = floor_below one.row floors.taken c below (omega arith) in
              omega arith)
          | inr f ↦ (let l = ltb-false c one.column f in let is = set_.inside c l less in omega arith)
        ]

    at : (r c : ℕ) → one.row ≤ r → (is_covered cells r c || ((covers_row one r && covers_column one c) || false)) ≡ nat_lt r (floor_at new.taken c)
    at r c down = ap (λ x. x || ((covers_row one r && covers_column one c) || false)) (p.covered r c down) ∙ by (covers_column one c) refl
      where
        by : (x : Bool) → covers_column one c ≡ x → (nat_lt r (floor_at floors.taken c) || ((covers_row one r && x) || false)) ≡ nat_lt r (floor_at new.taken c)
        by true e =
            let q = and_parts (nat_le one.column c) _ e in
            let low = leb-true one.column c q.0 in
            let high = ltb-true c (one.column + one.columns) q.1 in
            let f = free c low high in
            let old : nat_lt r (floor_at floors.taken c) ≡ false = false_from_ne_true _ (λ t. let l = ltb-true r (floor_at floors.taken c) t in absurd (omega arith)) in
            let row : nat_le one.row r ≡ true = le-leb one.row r down in
            ap (λ x. x || (((nat_le one.row r && nat_lt r (one.row + one.rows)) && true) || false)) old
            ∙ ap (λ x. (((x && nat_lt r (one.row + one.rows)) && true) || false)) row
            ∙ plain (nat_lt r (one.row + one.rows))
            ∙ ap (λ n. nat_lt r n) (sym (set_.inside c low high))
          where
            plain : (b : Bool) → ((b && true) || false) ≡ b
            plain true = refl
            plain false = refl
        by false e =
            let same = set_.outside c (elim (cases_Bool (nat_lt c one.column)) [
              | inl less ↦ inl (ltb-true c one.column less)
              | inr far ↦ inr (let l = ltb-false c one.column far in elim (cases_Bool (nat_lt c (one.column + one.columns))) [
                | inl t ↦ absurd (true≢false (sym (and_from _ _ (le-leb one.column c l) t) ∙ e))
                | inr f ↦ ltb-false c (one.column + one.columns) f
              ])
            ]) in
            plain (nat_lt r (floor_at floors.taken c)) (covers_row one r) ∙ ap (λ n. nat_lt r n) (sym same)
          where
            plain : (b d : Bool) → (b || ((d && false) || false)) ≡ b
            plain true d = refl
            plain false true = refl
            plain false false = refl

-- ---- the next cell, by the floors where rows are passed

-- the same floors, where the columns that are covered above the row alone are free
pub placed_settled : (cells : List GridCell) (row end : ℕ) (floors new : Floors) → IsPlacing cells row end floors → IsSettled row floors new → AreApart new → IsPlacing cells row end new
placed_settled cells row end floors new p settled apart =
    let few = p.few in
    let width = settled.width in
    record {
      covered = λ r c down. p.covered r c down ∙ sym (settled.same r c down);
      begun = p.begun;
      wide = width ∙ p.wide;
      few = omega arith;
      reached = λ c less. ltb-true row (floor_at new.taken c) (settled.same row c (omega arith) ∙ lt-ltb row (floor_at floors.taken c) (p.reached c less));
      apart = apart;
    }

abbrev pub cell_at : Placed → (at column rows columns : ℕ) → GridCell
cell_at p at column rows columns = record { at = at; row = p.row; column = column; rows = rows; columns = columns }

module _ (p : Placed) (old floors : Floors) (column : ℕ) (was : IsPlacing p.cells p.row p.end old) (found : IsFound p.row old column floors) where
  pub placing : IsPlacing p.cells p.row p.end floors
  placing = placed_settled p.cells p.row p.end old floors was found.settled found.apart

  first : IsFirst floors column
  first = found.first

  -- the columns left of it are covered in the row, and it isn't
  passed : (c : ℕ) → c < column → p.row < floor_at floors.taken c
  passed c less = let one = first.passed c less in floor_below p.row floors.taken c found.below (omega arith)

  none : floor_at floors.taken column ≡ 0
  none = floor_none floors.taken column first.free

  low : p.end ≤ column
  low =
      elim (cases_Bool (nat_lt column p.end)) [
        | inl t ↦ absurd (let reached = placing.reached column (ltb-true column p.end t) in let z = none in omega arith)
        | inr f ↦ ltb-false column p.end f
      ]

  pub gap_found : IsGap p.cells p.row column
  gap_found = record {
    before = λ c less. placing.covered p.row c (omega arith) ∙ lt-ltb p.row (floor_at floors.taken c) (passed c less);
    free = placing.covered p.row column (omega arith) ∙ false_from_ne_true _ (λ t. let l = ltb-true p.row (floor_at floors.taken column) t in let z = none in absurd (omega arith));
  }

  -- So the next cell stands there.
  pub next_is : (at rows columns : ℕ) → next_cell p at rows columns ≡ cell_at p at column rows columns
  next_is at rows columns =
      ap (λ n. cell_at p at n rows columns) (column_is p.cells p.row p.end column floors placing low first.high (λ c from_ less. passed c less) (omega (arith, none)))

  -- It is crooked where one of its columns is covered,
  pub next_crooked : (at rows columns : ℕ) → 1 ≤ rows → HasTaken floors.taken column (column + columns) → is_crooked p.left p.cells (next_cell p at rows columns) ≡ true
  next_crooked at rows columns some h =
      let p_ = placing in
      let down = floor_below p.row floors.taken h.0 found.below (omega (arith, h.3)) in
      subst (λ one. is_crooked p.left p.cells one ≡ true) (sym (next_is at rows columns))
      (or_true (nat_lt p.left rows)
      (one_meets p.cells (cell_at p at column rows columns) h.0 p_.begun some h.1 h.2 (p_.covered p.row h.0 (omega arith) ∙ lt-ltb p.row (floor_at floors.taken h.0) down)))
    where
      or_true : (x : Bool) {y : Bool} → y ≡ true → (x || y) ≡ true
      or_true true t = refl
      or_true false t = t

  -- and it stands where they are free and its section has the rows.
  pub next_stands : (at rows columns : ℕ) → 1 ≤ columns → rows ≤ p.left → ((c : ℕ) → column ≤ c → c < column + columns → count_at floors.taken c ≡ 0) →
      is_crooked p.left p.cells (next_cell p at rows columns) ≡ false
  next_stands at rows columns some few free =
      let p_ = placing in
      subst (λ one. is_crooked p.left p.cells one ≡ false) (sym (next_is at rows columns))
      (ap (λ x. x || list_any (cells_meet (cell_at p at column rows columns)) p.cells) (false_from_ne_true (nat_lt p.left rows) (λ t. let l = ltb-true p.left rows t in absurd (omega arith)))
      ∙ none_meets p.cells (cell_at p at column rows columns) p_.begun some
      (λ c low high. p_.covered p.row c (omega arith) ∙ false_from_ne_true _ (λ t. let l = ltb-true p.row (floor_at floors.taken c) t in let f = floor_none floors.taken c (free c low high) in absurd (omega arith))))
