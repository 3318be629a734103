-- A cell's column is the least free one, however many cells were placed before; and which positions
-- are covered after a row is taken out.
use Rattle.std.specs.Prelude.{filter_map, fold}
use Rattle.std.specs.List.{cons_option}
use Rattle.std.proofs.Common.{map, ◌≡◌, ◌⊎◌, inl, inr, ℕ, zero, suc, ◌+◌, ◌-◌, ◌<◌, ◌≤◌, ◌==◌, Bool, true, false, ◌&&◌, ◌||◌, if◌then◌else◌, nat_lt, nat_le, List, [], ◌∷◌, Option, Some, None, refl, sym, ap, ◌∙◌, subst, arith}
use Rattle.std.proofs.lemmas.Bool.{cases_Bool, eqb-true, eqb-false, and_parts, and_from, le-leb, lt-ltb, leb-true, ltb-true, leb-false, ltb-false, false_from_ne_true, or_parts, true≢false}
use Rattle.model_edit.specs.declared.grid_cell.GridCell.{GridCell}
use Rattle.model_edit.specs.Grid.{covers_row, covers_column, is_covered, first_free}
use Rattle.model_edit.specs.Layout.{Rectangle, has_row, has_column, without_row}
use Rattle.model_edit_law.specs.Spans.{covers_cell, free_from, width, rectangle_of, LowIn}

-- how many positions from one on pass
abbrev count : (ℕ → Bool) → ℕ → ℕ → ℕ
count p from zero = 0
count p from (suc n) = (if p from then 1 else 0) + count p (suc from) n

count_all : (p : ℕ → Bool) (from n : ℕ) → ((c : ℕ) → from ≤ c → c < from + n → p c ≡ true) → count p from n ≡ n
count_all p from zero h = refl
count_all p from (suc n) h =
    let r = count_all p (suc from) n (λ c low high. h c (omega arith) (omega arith)) in
    let e = ap (λ b. (if b then 1 else 0) + count p (suc from) n) (h from (omega arith) (omega arith)) in
    omega arith

count_or : (p q : ℕ → Bool) (from n : ℕ) → count (λ c. p c || q c) from n ≤ count p from n + count q from n
count_or p q from zero = omega arith
count_or p q from (suc n) =
    let r = count_or p q (suc from) n in
    by (p from) (q from) r
  where
    by : (a b : Bool) → count (λ c. p c || q c) (suc from) n ≤ count p (suc from) n + count q (suc from) n →
        (if a || b then 1 else 0) + count (λ c. p c || q c) (suc from) n ≤ ((if a then 1 else 0) + count p (suc from) n) + ((if b then 1 else 0) + count q (suc from) n)
    by true true r = omega arith
    by true false r = omega arith
    by false true r = omega arith
    by false false r = omega arith

-- an interval has no more positions than it is long
count_interval : (on : Bool) (a w from n : ℕ) → (count (λ c. on && (nat_le a c && nat_lt c (a + w))) from n ≤ w) × (count (λ c. on && (nat_le a c && nat_lt c (a + w))) from n ≤ (a + w) - from)
count_interval on a w from zero = (omega arith, omega arith)
count_interval on a w from (suc n) =
    let r = count_interval on a w (suc from) n in
    let p : ℕ → Bool = λ c. on && (nat_le a c && nat_lt c (a + w)) in
    by (p from) refl r.0 r.1
  where
    rest : ℕ
    rest = count (λ c. on && (nat_le a c && nat_lt c (a + w))) (suc from) n

    by : (b : Bool) → (on && (nat_le a from && nat_lt from (a + w))) ≡ b → rest ≤ w → rest ≤ (a + w) - suc from → ((if b then 1 else 0) + rest ≤ w) × ((if b then 1 else 0) + rest ≤ (a + w) - from)
    by false e low high = (omega arith, omega arith)
    by true e low high =
        let i = and_parts on _ e in
        let j = and_parts (nat_le a from) _ i.1 in
        let l = leb-true a from j.0 in
        let g = ltb-true from (a + w) j.1 in
        (omega arith, omega arith)

width_from : (a : ℕ) (cells : List Rectangle) → fold (λ n (c : Rectangle). n + c.columns) a cells ≡ a + width cells
width_from a [] = omega arith
width_from a (cell ∷ cells) = let r = width_from (a + cell.columns) cells in let q = width_from (0 + cell.columns) cells in omega arith

-- in one row cells cover no more columns than they are wide
count_covered : (cells : List Rectangle) (row from n : ℕ) → count (covers_cell cells row) from n ≤ width cells
count_covered [] row from n = by from n
  where
    by : (from n : ℕ) → count (λ c. false) from n ≤ 0
    by from zero = omega arith
    by from (suc n) = let r = by (suc from) n in omega arith
count_covered (cell ∷ cells) row from n =
    let a = count_or (λ c. has_row cell row && has_column cell c) (covers_cell cells row) from n in
    let b = (count_interval (has_row cell row) cell.column cell.columns from n).0 in
    let c = count_covered cells row from n in
    let w = width_from (0 + cell.columns) cells in
    omega arith

-- the least position from one on that does not pass
pub record Least (p : ℕ → Bool) (from at : ℕ) : Type 0 where
  pub low : from ≤ at
  pub passed : (c : ℕ) → from ≤ c → c < at → p c ≡ true
  pub free : p at ≡ false

seek_least : (cells : List Rectangle) (row column fuel : ℕ) →
    ((k : ℕ) → ((c : ℕ) → column ≤ c → c < column + k → covers_cell cells row c ≡ true) → k ≤ fuel) → Least (covers_cell cells row) column (free_from cells row column fuel)
seek_least cells row column zero enough = record {
  low = omega arith;
  passed = λ c low high. absurd (omega arith);
  free = false_from_ne_true (covers_cell cells row column)
      (λ e. let k = enough 1 (λ c low high. let z : column ≡ c = omega arith in subst (λ n. covers_cell cells row n ≡ true) z e) in omega arith);
}
seek_least cells row column (suc fuel) enough =
    elim (cases_Bool (covers_cell cells row column)) [
      | inl yes_ ↦ subst (λ b. Least (covers_cell cells row) column (if b then free_from cells row (suc column) fuel else column)) (sym yes_)
          (more yes_ (seek_least cells row (suc column) fuel
          (λ k all. let r = enough (suc k) (λ c low high. at_or_past yes_ k all c low high) in omega arith)))
      | inr no_ ↦ subst (λ b. Least (covers_cell cells row) column (if b then free_from cells row (suc column) fuel else column)) (sym no_)
          (record { low = omega arith; passed = λ c low high. absurd (omega arith); free = no_ })
    ]
  where
    at_or_past : covers_cell cells row column ≡ true → (k : ℕ) → ((c : ℕ) → suc column ≤ c → c < suc column + k → covers_cell cells row c ≡ true) →
        (c : ℕ) → column ≤ c → c < column + suc k → covers_cell cells row c ≡ true
    at_or_past e k all c low high =
        elim (Rattle.std.proofs.lemmas.Bool.cases_eq column c) [
          | inl same ↦ subst (λ n. covers_cell cells row n ≡ true) same e
          | inr other ↦ all c (omega arith) (omega arith)
        ]

    more : covers_cell cells row column ≡ true → Least (covers_cell cells row) (suc column) (free_from cells row (suc column) fuel) → Least (covers_cell cells row) column (free_from cells row (suc column) fuel)
    more e l = record {
      low = (let a = l.low in omega arith);
      passed = λ c low high.
          elim (Rattle.std.proofs.lemmas.Bool.cases_eq column c) [
            | inl same ↦ subst (λ n. covers_cell cells row n ≡ true) same e
            | inr other ↦ l.passed c (omega arith) high
          ];
      free = l.free;
    }

-- A cell's column is the least free one.
pub placed_least : (cells : List Rectangle) (row end : ℕ) → Least (covers_cell cells row) end (free_from cells row end (width cells))
placed_least cells row end =
    seek_least cells row end (width cells) (λ k all. let a = count_all (covers_cell cells row) end k all in let b = count_covered cells row end k in omega arith)

-- which is one
pub least_one : (p q : ℕ → Bool) (from m n : ℕ) → ((c : ℕ) → p c ≡ q c) → Least p from m → Least q from n → m ≡ n
least_one p q from m n same a b =
    let la = a.low in
    let lb = b.low in
    elim (cases_Bool (nat_lt m n)) [
      | inl less ↦ absurd (never (p m) (q m) (same m) a.free (b.passed m la (ltb-true m n less)))
      | inr far ↦ elim (cases_Bool (nat_lt n m)) [
        | inl less ↦ absurd (never (q n) (p n) (sym (same n)) b.free (a.passed n lb (ltb-true n m less)))
        | inr near ↦ (let x = ltb-false m n far in let y = ltb-false n m near in omega arith)
      ]
    ]
  where
    never : (a b : Bool) → a ≡ b → a ≡ false → b ≡ true → ⊥
    never a b e f t = true≢false (sym t ∙ sym e ∙ f)

-- so a cell's column depends only on what is covered in its row
pub placed_same : (cells cells' : List Rectangle) (row row' end : ℕ) → ((c : ℕ) → covers_cell cells row c ≡ covers_cell cells' row' c) →
    free_from cells row end (width cells) ≡ free_from cells' row' end (width cells')
placed_same cells cells' row row' end same =
    least_one (covers_cell cells row) (covers_cell cells' row') end _ _ same (placed_least cells row end) (placed_least cells' row' end)

-- what row of the new grid an old row is
abbrev pub row_after : ℕ → ℕ → ℕ
row_after gone row = if nat_lt row gone then row else row - 1

abbrev pub covers_in : Option Rectangle → ℕ → ℕ → Bool
covers_in None row column = false
covers_in (Some r) row column = has_row r row && has_column r column

has_true : (low row high : ℕ) → low ≤ row → row < high → (nat_le low row && nat_lt row high) ≡ true
has_true low row high a b = and_from _ _ (le-leb low row a) (lt-ltb row high b)

pub has_parts : (low row high : ℕ) → (nat_le low row && nat_lt row high) ≡ true → (low ≤ row) × (row < high)
has_parts low row high e = let p = and_parts (nat_le low row) _ e in (leb-true low row p.0, ltb-true row high p.1)

same_test : (a b : Bool) → (a ≡ true → b ≡ true) → (b ≡ true → a ≡ true) → a ≡ b
same_test true true f g = refl
same_test false false f g = refl
same_test true false f g = sym (f refl)
same_test false true f g = g refl

pub same_has : (low low' row row' high high' : ℕ) → (low ≤ row → row < high → (low' ≤ row') × (row' < high')) → (low' ≤ row' → row' < high' → (low ≤ row) × (row < high)) →
    (nat_le low row && nat_lt row high) ≡ (nat_le low' row' && nat_lt row' high')
same_has low low' row row' high high' f g =
    same_test (nat_le low row && nat_lt row high) (nat_le low' row' && nat_lt row' high')
    (λ e. let p = has_parts low row high e in let q = f p.0 p.1 in has_true low' row' high' q.0 q.1)
    (λ e. let p = has_parts low' row' high' e in let q = g p.0 p.1 in has_true low row high q.0 q.1)

-- without the row a rectangle covers in each other row what it did
one_kept : (gone row row' column : ℕ) (r : Rectangle) → (r.row ≡ gone → r.rows ≡ 1) → (row < gone → row' ≡ row) → (gone < row → suc row' ≡ row) → (row ≡ gone → ⊥) →
    covers_in (without_row gone r) row' column ≡ (has_row r row && has_column r column)
one_kept gone row row' column r low before past other =
    elim (cases_Bool (nat_lt gone r.row)) [
      | inl later ↦ subst (λ b. covers_in (if b then Some (record r { row = r.row - 1 }) else (if has_row r gone then (if r.rows == 1 then None else Some (record r { rows = r.rows - 1 })) else Some r)) row' column ≡ (has_row r row && has_column r column)) (sym later)
          (let l = ltb-true gone r.row later in moved l)
      | inr not_later ↦ subst (λ b. covers_in (if b then Some (record r { row = r.row - 1 }) else (if has_row r gone then (if r.rows == 1 then None else Some (record r { rows = r.rows - 1 })) else Some r)) row' column ≡ (has_row r row && has_column r column)) (sym not_later)
          (let l = ltb-false gone r.row not_later in
          elim (cases_Bool (has_row r gone)) [
            | inl has ↦ subst (λ b. covers_in (if b then (if r.rows == 1 then None else Some (record r { rows = r.rows - 1 })) else Some r) row' column ≡ (has_row r row && has_column r column)) (sym has)
                (let h = has_parts r.row gone (r.row + r.rows) has in
                elim (cases_Bool (r.rows == 1)) [
                  | inl one ↦ subst (λ b. covers_in (if b then None else Some (record r { rows = r.rows - 1 })) row' column ≡ (has_row r row && has_column r column)) (sym one)
                      (gone_whole (eqb-true r.rows 1 one) h.0 h.1)
                  | inr more ↦ subst (λ b. covers_in (if b then None else Some (record r { rows = r.rows - 1 })) row' column ≡ (has_row r row && has_column r column)) (sym more)
                      (shrunk h.0 h.1 (eqb-false r.rows 1 more))
                ])
            | inr not_has ↦ subst (λ b. covers_in (if b then (if r.rows == 1 then None else Some (record r { rows = r.rows - 1 })) else Some r) row' column ≡ (has_row r row && has_column r column)) (sym not_has)
                (above l not_has)
          ])
    ]
  where
    in_order : (row < gone) ⊎ (gone < row)
    in_order = elim (cases_Bool (nat_lt row gone)) [
      | inl less ↦ inl (ltb-true row gone less)
      | inr far ↦ inr (let f = ltb-false row gone far in beyond f other)
    ]
      where
        beyond : gone ≤ row → (row ≡ gone → ⊥) → gone < row
        beyond f o = elim (Rattle.std.proofs.lemmas.Bool.cases_eq row gone) [ inl e ↦ absurd (o e) | inr n ↦ omega arith ]

    moved : gone < r.row → (has_row (record r { row = r.row - 1 }) row' && has_column r column) ≡ (has_row r row && has_column r column)
    moved l = elim in_order [
      | inl less ↦ (let e = before less in ap (λ b. b && has_column r column) (same_has (r.row - 1) r.row row' row ((r.row - 1) + r.rows) (r.row + r.rows) (λ x y. (omega arith, omega arith)) (λ x y. (omega arith, omega arith))))
      | inr more ↦ (let e = past more in ap (λ b. b && has_column r column) (same_has (r.row - 1) r.row row' row ((r.row - 1) + r.rows) (r.row + r.rows) (λ x y. (omega arith, omega arith)) (λ x y. (omega arith, omega arith))))
    ]

    gone_whole : r.rows ≡ 1 → r.row ≤ gone → gone < r.row + r.rows → false ≡ (has_row r row && has_column r column)
    gone_whole e a b = ap (λ v. v && has_column r column) (sym (false_from_ne_true (has_row r row) (λ t. let p = has_parts r.row row (r.row + r.rows) t in let p0 = p.0 in let p1 = p.1 in let z : row ≡ gone = omega arith in other z)))

    shrunk : r.row ≤ gone → gone < r.row + r.rows → (r.rows ≡ 1 → ⊥) → (has_row (record r { rows = r.rows - 1 }) row' && has_column r column) ≡ (has_row r row && has_column r column)
    shrunk a b many = starts (Rattle.std.proofs.lemmas.Bool.cases_eq r.row gone)
      where
        starts : ((r.row ≡ gone) ⊎ (r.row ≡ gone → ⊥)) → (has_row (record r { rows = r.rows - 1 }) row' && has_column r column) ≡ (has_row r row && has_column r column)
        starts (inl e) = absurd (many (low e))
        starts (inr n) = elim in_order [
          | inl less ↦ (let e = before less in ap (λ b. b && has_column r column) (same_has r.row r.row row' row (r.row + (r.rows - 1)) (r.row + r.rows) (λ x y. (omega arith, omega arith)) (λ x y. (omega arith, omega arith))))
          | inr more ↦ (let e = past more in
              let strictly : r.row < gone = omega arith in
              ap (λ b. b && has_column r column) (same_has r.row r.row row' row (r.row + (r.rows - 1)) (r.row + r.rows) (λ x y. (omega arith, omega arith)) (λ x y. (omega arith, omega arith))))
        ]

    above : r.row ≤ gone → has_row r gone ≡ false → (has_row r row' && has_column r column) ≡ (has_row r row && has_column r column)
    above l n = ends (cases_Bool (nat_lt gone (r.row + r.rows)))
      where
        ends : ((nat_lt gone (r.row + r.rows) ≡ true) ⊎ (nat_lt gone (r.row + r.rows) ≡ false)) → (has_row r row' && has_column r column) ≡ (has_row r row && has_column r column)
        ends (inl t) = absurd (true≢false (sym (has_true r.row gone (r.row + r.rows) l (ltb-true gone (r.row + r.rows) t)) ∙ n))
        ends (inr f) =
            let far = ltb-false gone (r.row + r.rows) f in
            elim in_order [
              | inl less ↦ (let e = before less in ap (λ b. b && has_column r column) (same_has r.row r.row row' row (r.row + r.rows) (r.row + r.rows) (λ x y. (omega arith, omega arith)) (λ x y. (omega arith, omega arith))))
              | inr more ↦ (let e = past more in ap (λ b. b && has_column r column) (same_has r.row r.row row' row (r.row + r.rows) (r.row + r.rows) (λ x y. (omega arith, omega arith)) (λ x y. (omega arith, omega arith))))
            ]

-- Taking a row out keeps what is covered in each other row.
pub covered_kept : (gone row row' column : ℕ) (all : List Rectangle) → LowIn gone all → (row < gone → row' ≡ row) → (gone < row → suc row' ≡ row) → (row ≡ gone → ⊥) →
    covers_cell (filter_map (without_row gone) all) row' column ≡ covers_cell all row column
covered_kept gone row row' column [] low before past other = refl
covered_kept gone row row' column (r ∷ all) low before past other =
    by (without_row gone r) (one_kept gone row row' column r low.0 before past other) (covered_kept gone row row' column all low.1 before past other)
  where
    by : (o : Option Rectangle) → covers_in o row' column ≡ (has_row r row && has_column r column) → covers_cell (filter_map (without_row gone) all) row' column ≡ covers_cell all row column →
        covers_cell (cons_option o (filter_map (without_row gone) all)) row' column ≡ covers_cell (r ∷ all) row column
    by None e rest = rest ∙ ap (λ b. b || covers_cell all row column) e
    by (Some r') e rest = (λ i. e i || rest i)

-- a cell is placed as its rectangle
covered-cells : (cells : List GridCell) (row column : ℕ) → is_covered cells row column ≡ covers_cell (map rectangle_of cells) row column
covered-cells [] row column = refl
covered-cells (c ∷ cells) row column = ap (λ b. (covers_row c row && covers_column c column) || b) (covered-cells cells row column)

pub first_free-cells : (cells : List GridCell) (row column fuel : ℕ) → first_free cells row column fuel ≡ free_from (map rectangle_of cells) row column fuel
first_free-cells cells row column zero = refl
first_free-cells cells row column (suc fuel) =
    (λ i. if covered-cells cells row column i then first_free-cells cells row (suc column) fuel i else column)
