-- A table with a row put in: the rectangles that its lines give.
use Rattle.std.specs.Prelude.{filter}
use Rattle.std.specs.List.{list_any, range_with_len}
use Rattle.std.proofs.Common.{◌≡◌, inl, inr, ℕ, zero, suc, ◌+◌, ◌<◌, ◌≤◌, Bool, true, false, not, cond, ◌&&◌, ◌||◌, if◌then◌else◌, nat_lt, nat_le, List, [], ◌∷◌, ◌++◌, length, map, Option, Some, None, refl, sym, ap, ◌∙◌, subst, arith, append-nil, length-append}
use Rattle.std.proofs.lemmas.Bool.{and_parts, and_from, or_parts, or_from, leb-true, ltb-true, ltb-false, le-leb, lt-ltb, false_from_ne_true, true≢false}
use Rattle.std.proofs.lemmas.List.{append_assoc}
use Rattle.model_edit.specs.Layout.{Rectangle, has_row, has_column, grows_down, moved_down, one_by_one}
use Rattle.model_edit_law.specs.Spans.{CellSpan, Line, covers_cell, free_from, width, meet, laid, bent, lay_row, lay}
use Rattle.model_edit_law.proofs.LayLemmas.{meet_numbers, next_row}
use Rattle.model_edit_law.proofs.LeastLemmas.{placed_least, least_one}
use Rattle.model_table_law.proofs.RowInMoveLemmas.{Shift, moved_alike, has_column_same, any_append, Each, Each-append, rect, row_moved}

-- Lines above the row that is put in: a cell that reaches it is one higher, and a line has rows
-- enough left for it.
abbrev pub span_with : (row j : ℕ) → CellSpan → CellSpan
span_with row j s = if nat_lt row (j + s.rows) then record s { rows = suc s.rows } else s

pub record Wider (row j : ℕ) (line line' : Line) : Type 0 where
  pub spans : line'.spans ≡ map (span_with row j) line.spans
  pub less : line.left ≤ line'.left
  pub more : row < j + line.left → suc line.left ≤ line'.left

abbrev pub AllWider : (row j : ℕ) (lines lines' : List Line) → Type 0
AllWider row j [] [] = Unit {0}
AllWider row j [] (line' ∷ lines') = ⊥
AllWider row j (line ∷ lines) [] = ⊥
AllWider row j (line ∷ lines) (line' ∷ lines') = Wider row j line line' × AllWider row (suc j) lines lines'

span_wide : (row j : ℕ) (s : CellSpan) → (span_with row j s).columns ≡ s.columns
span_wide row j s = elim (nat_lt row (j + s.rows)) as (λ b. (if b then record s { rows = suc s.rows } else s).columns ≡ s.columns) [ true ↦ refl | false ↦ refl ]

no_less : (m n : ℕ) → n ≤ m → nat_lt m n ≡ false
no_less m n l = false_from_ne_true (nat_lt m n) (λ t. let g = ltb-true m n t in omega arith)

span_short : (row j left left' : ℕ) (s : CellSpan) → left ≤ left' → (row < j + left → suc left ≤ left') → nat_lt left s.rows ≡ false →
    nat_lt left' (span_with row j s).rows ≡ false
span_short row j left left' s less more e = by (nat_lt row (j + s.rows)) refl (ltb-false left s.rows e)
  where
    by : (b : Bool) → nat_lt row (j + s.rows) ≡ b → s.rows ≤ left → nat_lt left' (if b then record s { rows = suc s.rows } else s).rows ≡ false
    by true x l = (let p = ltb-true row (j + s.rows) x in let q = more (omega arith) in no_less left' (suc s.rows) (omega arith))
    by false x l = no_less left' s.rows (omega arith)

-- above the row a cell keeps its rows, or has one more
moved_above : (row j column : ℕ) (s : CellSpan) → j < row → moved_down row (rect j column s) ≡ rect j column (span_with row j s)
moved_above row j column s l =
    let r = rect j column s in
    let E : Bool → Rectangle = λ v. if v then record r { rows = suc s.rows } else r in
    ap (λ v. if v then record r { row = suc j } else E (nat_lt j row && (nat_le j row && nat_lt row (j + s.rows)))) (false_from_ne_true (nat_le row j) (λ t. let g = leb-true row j t in omega arith))
    ∙ ap (λ v. E (v && (nat_le j row && nat_lt row (j + s.rows)))) (lt-ltb j row l)
    ∙ ap (λ v. E (v && nat_lt row (j + s.rows))) (le-leb j row (omega arith))
    ∙ elim (nat_lt row (j + s.rows)) as (λ b. E b ≡ rect j column (if b then record s { rows = suc s.rows } else s)) [ true ↦ refl | false ↦ refl ]

moved_below : (row j column : ℕ) (s : CellSpan) → row ≤ j → moved_down row (rect j column s) ≡ rect (suc j) column s
moved_below row j column s l =
    let r = rect j column s in
    ap (λ v. if v then record r { row = suc j } else (if grows_down row r then record r { rows = suc s.rows } else r)) (le-leb row j l)

lines_above : (row j : ℕ) (lines lines' : List Line) (Y R : List Rectangle) → j + length lines ≤ row → AllWider row j lines lines' →
    lay j lines (Some Y) ≡ Some R →
    (Z : List Rectangle) × (R ≡ Y ++ Z) × Each (λ (r : Rectangle). r.row < row) Z × (lay j lines' (Some (map (moved_down row) Y)) ≡ Some (map (moved_down row) (Y ++ Z)))
lines_above row j [] [] Y R l w h = (let e : Y ≡ R = cc in let z = append-nil Y in ([], sym e ∙ sym z, tt, ap (λ v. Some (map (moved_down row) v)) (sym z)))
lines_above row j [] (line' ∷ lines') Y R l w h = absurd w
lines_above row j (line ∷ lines) [] Y R l w h = absurd w
lines_above row j (line ∷ lines) (line' ∷ lines') Y R l w h =
    by (λ C g. lines_above row (suc j) lines lines' C R (omega arith) w.1 g) (lay_row j line.left 0 line.spans Y) refl h
  where
    md : List Rectangle → List Rectangle
    md all = map (moved_down row) all

    P : Rectangle → Type 0
    P r = r.row < row

    by : ((C : List Rectangle) → lay (suc j) lines (Some C) ≡ Some R → (Z : List Rectangle) × (R ≡ C ++ Z) × Each (λ (r : Rectangle). r.row < row) Z × (lay (suc j) lines' (Some (map (moved_down row) C)) ≡ Some (map (moved_down row) (C ++ Z)))) →
        (o : Option (List Rectangle)) → lay_row j line.left 0 line.spans Y ≡ o → lay (suc j) lines o ≡ Some R →
        (Z : List Rectangle) × (R ≡ Y ++ Z) × Each (λ (r : Rectangle). r.row < row) Z × (lay (suc j) lines' (lay_row j line'.left 0 line'.spans (map (moved_down row) Y)) ≡ Some (map (moved_down row) (Y ++ Z)))
    by rest None e h = cc
    by rest (Some C) e h =
        let k = row_moved row j j line.left line'.left (span_with row j) (inl (omega arith, refl)) (λ (r : Rectangle). r.row < row) (λ column s. omega arith) [] [] (λ column. refl) (λ r at. refl)
        (λ column s. moved_above row j column s (omega arith)) (span_wide row j) (λ s g. span_short row j line.left line'.left s (w.0).less (w.0).more g) line.spans 0 Y C e in
        let q = rest (Y ++ k.0) (subst (λ v. lay (suc j) lines (Some v) ≡ Some R) k.1 h) in
        let z = append_assoc Y k.0 q.0 in (
          k.0 ++ q.0,
          q.1 ∙ z,
          Each-append (λ (r : Rectangle). r.row < row) k.0 q.0 k.2 q.2,
          ap (λ v. lay (suc j) lines' (lay_row j line'.left 0 v (map (moved_down row) Y))) (w.0).spans
              ∙ ap (lay (suc j) lines') k.3
              ∙ q.3
              ∙ ap (λ v. Some (map (moved_down row) v)) z,
        )

map_same : (spans : List CellSpan) → map (λ s. s) spans ≡ spans
map_same [] = refl
map_same (s ∷ spans) = ap (λ v. s ∷ v) (map_same spans)

module _ (row : ℕ) (X N : List Rectangle) (free : (j column : ℕ) → row < j → covers_cell N j column ≡ false) (apart : (r : Rectangle) → row < r.row → list_any (meet r) N ≡ false) where
  abbrev parts : List Rectangle → List Rectangle
  parts Y = map (moved_down row) X ++ (N ++ map (moved_down row) Y)

  abbrev Below : ℕ → List Line → List Rectangle → List Rectangle → Type 0
  Below j lines Y R = (Z : List Rectangle) × (R ≡ X ++ (Y ++ Z)) × Each (λ (r : Rectangle). row ≤ r.row) Z × (lay (suc j) lines (Some (parts Y)) ≡ Some (parts (Y ++ Z)))

  lines_below : (lines : List Line) (j : ℕ) (Y R : List Rectangle) → row ≤ j → lay j lines (Some (X ++ Y)) ≡ Some R → Below j lines Y R
  lines_below [] j Y R l h = (let e : X ++ Y ≡ R = cc in let z = append-nil Y in ([], sym e ∙ ap (λ v. X ++ v) (sym z), tt, ap (λ v. Some (parts v)) (sym z)))
  lines_below (line ∷ lines) j Y R l h =
      by (λ C g. lines_below lines (suc j) C R (omega arith) g) (lay_row j line.left 0 line.spans (X ++ Y)) refl h
    where
      by : ((C : List Rectangle) → lay (suc j) lines (Some (X ++ C)) ≡ Some R → Below (suc j) lines C R) →
          (o : Option (List Rectangle)) → lay_row j line.left 0 line.spans (X ++ Y) ≡ o → lay (suc j) lines o ≡ Some R → Below j (line ∷ lines) Y R
      by rest None e h = cc
      by rest (Some C) e h =
          let k = row_moved row j (suc j) line.left line.left (λ s. s) (inr (l, refl)) (λ (r : Rectangle). row ≤ r.row) (λ column s. l) X N (λ column. free (suc j) column (omega arith)) (λ r at. apart r (omega arith))
          (λ column s. moved_below row j column s l) (λ s. refl) (λ s g. g) line.spans 0 Y C e in
          let q = rest (Y ++ k.0) (subst (λ v. lay (suc j) lines (Some v) ≡ Some R) k.1 h) in
          let z = append_assoc Y k.0 q.0 in (
            k.0 ++ q.0,
            q.1 ∙ ap (λ v. X ++ v) z,
            Each-append (λ (r : Rectangle). row ≤ r.row) k.0 q.0 k.2 q.2,
            ap (lay (suc (suc j)) lines) (ap (λ v. lay_row (suc j) line.left 0 v (parts Y)) (sym (map_same line.spans)) ∙ k.3)
                ∙ q.3
                ∙ ap (λ v. Some (parts v)) z,
          )

-- a new cell in each column that is not covered
abbrev pub single : CellSpan
single = record { rows = 1; columns = 1 }

abbrev pub not_at : (ℕ → Bool) → (from n : ℕ) → List ℕ
not_at test from n = filter (λ column. not (test column)) (range_with_len from n)

-- a cell of one row and one column meets no other where its position is not covered
single_apart : (row column : ℕ) (all : List Rectangle) → covers_cell all row column ≡ false → list_any (meet (one_by_one row column)) all ≡ false
single_apart row column [] h = refl
single_apart row column (r ∷ all) h =
    let p = or_parts (has_row r row && has_column r column) _ h in
    or_from (meet (one_by_one row column) r) _ (false_from_ne_true (meet (one_by_one row column) r) (λ t. true≢false (sym (covers t) ∙ p.0))) (single_apart row column all p.1)
  where
    covers : meet (one_by_one row column) r ≡ true → (has_row r row && has_column r column) ≡ true
    covers t =
        let n = meet_numbers (one_by_one row column) r t in
        let n0 = n.0 in let n2 = n.2 in
        and_from _ _ (and_from _ _ (le-leb r.row row (omega arith)) (lt-ltb row (r.row + r.rows) n0)) (and_from _ _ (le-leb r.column column (omega arith)) (lt-ltb column (r.column + r.columns) n2))

-- beyond its column it covers nothing
single_left : (row column later : ℕ) → column < later → has_column (one_by_one row column) later ≡ false
single_left row column later l = false_from_ne_true (has_column (one_by_one row column) later) (λ t. let p = and_parts (nat_le column later) _ t in let q = ltb-true later (column + 1) p.1 in omega arith)

new_row_lays : (row left : ℕ) (test : ℕ → Bool) (n from end : ℕ) (B : List Rectangle) → 1 ≤ left → end ≤ from →
    ((c : ℕ) → end ≤ c → c < from → covers_cell B row c ≡ true) → ((c : ℕ) → from ≤ c → covers_cell B row c ≡ test c) →
    lay_row row left end (map (λ c. single) (not_at test from n)) B ≡ Some (B ++ map (one_by_one row) (not_at test from n))
new_row_lays row left test zero from end B some l passed rest = ap Some (sym (append-nil B))
new_row_lays row left test (suc n) from end B some l passed rest =
    by (test from) refl (λ C e le p r. new_row_lays row left test n (from + 1) e C some le p r)
  where
    L : List ℕ
    L = not_at test (from + 1) n

    next : ℕ → List ℕ → Type 0
    next e cs = lay_row row left e (map (λ c. single) cs) B ≡ Some (B ++ map (one_by_one row) cs)

    by : (b : Bool) → test from ≡ b →
        ((C : List Rectangle) (e : ℕ) → e ≤ from + 1 → ((c : ℕ) → e ≤ c → c < from + 1 → covers_cell C row c ≡ true) → ((c : ℕ) → from + 1 ≤ c → covers_cell C row c ≡ test c) →
        lay_row row left e (map (λ c. single) L) C ≡ Some (C ++ map (one_by_one row) L)) →
        next end (cond (not b) (from ∷ L) L)
    by true t step =
        step B end (omega arith)
        (λ c low high. elim (Rattle.std.proofs.lemmas.Bool.cases_eq c from) [
          | inl e ↦ ap (covers_cell B row) e ∙ rest from (omega arith) ∙ t
          | inr other ↦ passed c low (omega arith)
        ])
        (λ c low. rest c (omega arith))
    by false t step =
        let here : covers_cell B row from ≡ false = rest from (omega arith) ∙ t in
        let one = one_by_one row from in
        let column : free_from B row end (width B) ≡ from =
        least_one (covers_cell B row) (covers_cell B row) end _ from (λ c. refl) (placed_least B row end) (record { low = l; passed = passed; free = here }) in
        let place : laid B row end single ≡ one = ap (λ c. rect row c single) column in
        let straight : bent left B one ≡ false = or_from (nat_lt left 1) _ (no_less left 1 some) (single_apart row from B here) in
        ap (next_row row left (map (λ c. single) L) B) place
        ∙ ap (λ b. if b then None else lay_row row left (from + 1) (map (λ c. single) L) (B ++ one ∷ [])) straight
        ∙ step (B ++ one ∷ []) (from + 1) (omega arith) (λ c low high. absurd (omega arith))
        (λ c low. any_append (λ (r : Rectangle). has_row r row && has_column r c) B (one ∷ [])
        ∙ ap (λ b. covers_cell B row c || ((has_row one row && b) || false)) (single_left row from c (omega arith))
        ∙ none (covers_cell B row c) (has_row one row)
        ∙ rest c (omega arith))
        ∙ ap Some (append_assoc B (one ∷ []) (map (one_by_one row) L))
      where
        none : (a b : Bool) → (a || ((b && false) || false)) ≡ a
        none true b = refl
        none false true = refl
        none false false = refl

-- what is new covers nothing below, and meets nothing there
new_free : (row : ℕ) (columns : List ℕ) (j column : ℕ) → row < j → covers_cell (map (one_by_one row) columns) j column ≡ false
new_free row [] j column l = refl
new_free row (c ∷ columns) j column l =
    let e : has_row (one_by_one row c) j ≡ false = false_from_ne_true (has_row (one_by_one row c) j) (λ t. let p = and_parts (nat_le row j) _ t in let q = ltb-true j (row + 1) p.1 in omega arith) in
    or_from _ _ (ap (λ b. b && has_column (one_by_one row c) column) e) (new_free row columns j column l)

new_apart : (row : ℕ) (columns : List ℕ) (r : Rectangle) → row < r.row → list_any (meet r) (map (one_by_one row) columns) ≡ false
new_apart row [] r l = refl
new_apart row (c ∷ columns) r l =
    or_from (meet r (one_by_one row c)) _ (false_from_ne_true (meet r (one_by_one row c)) (λ t. let n = meet_numbers r (one_by_one row c) t in let n0 = n.0 in omega arith)) (new_apart row columns r l)

-- what grows is what covers the new row
abbrev pub grown : (row : ℕ) → List Rectangle → ℕ → Bool
grown row all column = list_any (λ (r : Rectangle). grows_down row r && has_column r column) all

covers_new : (row column : ℕ) (X : List Rectangle) → Each (λ (r : Rectangle). r.row < row) X → covers_cell (map (moved_down row) X) row column ≡ grown row X column
covers_new row column [] h = refl
covers_new row column (r ∷ X) h =
    let x = moved_alike row r in
    let e : has_row (moved_down row r) row ≡ grows_down row r = one (moved_down row r) x.rows in
    let f = has_column_same row r (moved_down row r) column x in
    let rest = covers_new row column X h.1 in
    (λ i. (e i && f i) || rest i)
  where
    one : (r' : Rectangle) → Shift row r.row r.rows r'.row r'.rows → has_row r' row ≡ grows_down row r
    one r' (inl s) = let s0 = s.0 in let l = h.0 in absurd (omega arith)
    one r' (inr (inl s)) =
        let s0 = s.0 in let s1 = s.1 in
        and_from _ _ (le-leb r'.row row (omega arith)) (lt-ltb row (r'.row + r'.rows) (omega arith))
        ∙ sym (and_from _ _ (lt-ltb r.row row s0) (and_from _ _ (le-leb r.row row (omega arith)) (lt-ltb row (r.row + r.rows) s1)))
    one r' (inr (inr s)) =
        let s0 = s.0 in let s1 = s.1 in
        false_from_ne_true (has_row r' row) (λ t. let p = and_parts (nat_le r'.row row) _ t in let q = ltb-true row (r'.row + r'.rows) p.1 in omega arith)
        ∙ sym (false_from_ne_true (grows_down row r) (λ t. let p = and_parts (nat_lt r.row row) _ t in let q = and_parts (nat_le r.row row) _ p.1 in let far = ltb-true row (r.row + r.rows) q.1 in omega arith))

none_grows : (row column : ℕ) (Y : List Rectangle) → Each (λ (r : Rectangle). row ≤ r.row) Y → grown row Y column ≡ false
none_grows row column [] h = refl
none_grows row column (r ∷ Y) h =
    let l = h.0 in
    or_from _ _ (ap (λ b. (b && has_row r row) && has_column r column) (no_less r.row row l)) (none_grows row column Y h.1)

or_nothing : (b : Bool) → (b || false) ≡ b
or_nothing true = refl
or_nothing false = refl

grown_whole : (row column : ℕ) (X Y : List Rectangle) → Each (λ (r : Rectangle). row ≤ r.row) Y → grown row (X ++ Y) column ≡ grown row X column
grown_whole row column X Y h =
    any_append (λ (r : Rectangle). grows_down row r && has_column r column) X Y ∙ ap (λ b. grown row X column || b) (none_grows row column Y h) ∙ or_nothing (grown row X column)

-- the rectangles above the row, and those from it on
upper : (row : ℕ) (X Y : List Rectangle) → Each (λ (r : Rectangle). r.row < row) X → Each (λ (r : Rectangle). row ≤ r.row) Y →
    filter (λ (r : Rectangle). nat_lt r.row row) (X ++ Y) ≡ X
upper row [] [] h g = refl
upper row [] (r ∷ Y) h g =
    let l = g.0 in
    ap (λ b. cond b (r ∷ filter (λ (r : Rectangle). nat_lt r.row row) Y) (filter (λ (r : Rectangle). nat_lt r.row row) Y)) (no_less r.row row l) ∙ upper row [] Y tt g.1
upper row (r ∷ X) Y h g =
    let l = h.0 in
    let rest = filter (λ (r : Rectangle). nat_lt r.row row) (X ++ Y) in
    ap (λ b. cond b (r ∷ rest) rest) (lt-ltb r.row row l) ∙ ap (λ v. r ∷ v) (upper row X Y h.1 g)

lower : (row : ℕ) (X Y : List Rectangle) → Each (λ (r : Rectangle). r.row < row) X → Each (λ (r : Rectangle). row ≤ r.row) Y →
    filter (λ (r : Rectangle). nat_le row r.row) (X ++ Y) ≡ Y
lower row [] [] h g = refl
lower row [] (r ∷ Y) h g =
    let rest = filter (λ (r : Rectangle). nat_le row r.row) Y in
    ap (λ b. cond b (r ∷ rest) rest) (le-leb row r.row g.0) ∙ ap (λ v. r ∷ v) (lower row [] Y tt g.1)
lower row (r ∷ X) Y h g =
    let l = h.0 in
    let rest = filter (λ (r : Rectangle). nat_le row r.row) (X ++ Y) in
    ap (λ b. cond b (r ∷ rest) rest) (false_from_ne_true (nat_le row r.row) (λ t. let q = leb-true row r.row t in omega arith)) ∙ lower row X Y h.1 g

lay_append : (A B : List Line) (j : ℕ) (o : Option (List Rectangle)) → lay j (A ++ B) o ≡ lay (j + length A) B (lay j A o)
lay_append [] B j None = refl
lay_append [] B j (Some all) = let z : j ≡ j + 0 = omega arith in ap (λ m. lay m B (Some all)) z
lay_append (line ∷ A) B j None = refl
lay_append (line ∷ A) B j (Some all) =
    let z : suc j + length A ≡ j + suc (length A) = omega arith in
    lay_append A B (suc j) (lay_row j line.left 0 line.spans all) ∙ ap (λ m. lay m B (lay (suc j) A (lay_row j line.left 0 line.spans all))) z

wider_length : (row j : ℕ) (lines lines' : List Line) → AllWider row j lines lines' → length lines' ≡ length lines
wider_length row j [] [] w = refl
wider_length row j [] (line' ∷ lines') w = absurd w
wider_length row j (line ∷ lines) [] w = absurd w
wider_length row j (line ∷ lines) (line' ∷ lines') w = ap suc (wider_length row (suc j) lines lines' w.1)

-- The lines of a table before and after: those above, the new one with its cells, and those below.
pub record LinesIn (row : ℕ) (spans : List CellSpan) (lines lines' : List Line) : Type 0 where
  pub above : List Line
  pub above' : List Line
  pub below : List Line
  pub left : ℕ
  pub old : lines ≡ above ++ below
  pub new : lines' ≡ above' ++ record { left = left; spans = spans } ∷ below
  pub count : length above ≡ row
  pub wider : AllWider row 0 above above'
  pub some : 1 ≤ left

pub lines_more : (row : ℕ) (spans : List CellSpan) (lines lines' : List Line) → LinesIn row spans lines lines' → length lines' ≡ suc (length lines)
lines_more row spans lines lines' s =
    let w = wider_length row 0 s.above s.above' s.wider in
    let a = length-append s.above s.below in
    let b = length-append s.above' (record { left = s.left; spans = spans } ∷ s.below) in
    let old = ap length s.old in
    let new = ap length s.new in
    omega arith

-- the rectangles of a table with a row
abbrev pub with_row : (row columns : ℕ) → List Rectangle → List Rectangle
with_row row columns all =
    map (moved_down row) (filter (λ (r : Rectangle). nat_lt r.row row) all)
    ++ (map (one_by_one row) (not_at (grown row all) 0 columns)
    ++ map (moved_down row) (filter (λ (r : Rectangle). nat_le row r.row) all))

-- A table with a row put in: its rectangles are those with the row.
pub row_in_lays : (lines lines' : List Line) (row columns : ℕ) (all : List Rectangle) →
    LinesIn row (map (λ c. single) (not_at (grown row all) 0 columns)) lines lines' →
    lay 0 lines (Some []) ≡ Some all → lay 0 lines' (Some []) ≡ Some (with_row row columns all)
row_in_lays lines lines' row columns all s h =
    by (lay 0 s.above (Some [])) refl (ap (λ n. lay n s.below (lay 0 s.above (Some []))) deep ∙ sym (lay_append s.above s.below 0 (Some [])) ∙ ap (λ v. lay 0 v (Some [])) (sym s.old) ∙ h)
  where
    deep : row ≡ 0 + length s.above
    deep = let c = s.count in omega arith

    cells : List ℕ
    cells = not_at (grown row all) 0 columns

    line : Line
    line = record { left = s.left; spans = map (λ c. single) cells }

    by : (o : Option (List Rectangle)) → lay 0 s.above (Some []) ≡ o → lay row s.below o ≡ Some all → lay 0 lines' (Some []) ≡ Some (with_row row columns all)
    by None e g = cc
    by (Some A) e g =
        let c = s.count in
        let up = lines_above row 0 s.above s.above' [] A (omega arith) s.wider e in
        let X = up.0 in
        let N = map (one_by_one row) cells in
        let down = lines_below row X N (λ j column l. new_free row cells j column l) (λ r l. new_apart row cells r l) s.below row [] all (omega arith)
        (ap (λ v. lay row s.below (Some v)) (append-nil X ∙ sym up.1) ∙ g) in
        let Y = down.0 in
        let split : all ≡ X ++ Y = down.1 in
        let mX = map (moved_down row) X in
        let test : (column : ℕ) → covers_cell mX row column ≡ grown row all column =
        λ column. covers_new row column X up.2 ∙ sym (ap (λ v. grown row v column) split ∙ grown_whole row column X Y down.2) in
        let middle = new_row_lays row s.left (grown row all) columns 0 0 mX s.some (omega arith) (λ c low high. absurd (omega arith)) (λ c low. test c) in
        let long : 0 + length s.above' ≡ row = (let w = wider_length row 0 s.above s.above' s.wider in omega arith) in
        ap (λ v. lay 0 v (Some [])) s.new
        ∙ lay_append s.above' (line ∷ s.below) 0 (Some [])
        ∙ (λ i. lay (long i) (line ∷ s.below) (up.3 i))
        ∙ ap (lay (suc row) s.below) (middle ∙ ap (λ v. Some (mX ++ v)) (sym (append-nil N)))
        ∙ down.3
        ∙ (λ i. Some (map (moved_down row) (upper_is X Y split up.2 down.2 i) ++ (N ++ map (moved_down row) (lower_is X Y split up.2 down.2 i))))
      where
        upper_is : (X Y : List Rectangle) → all ≡ X ++ Y → Each (λ (r : Rectangle). r.row < row) X → Each (λ (r : Rectangle). row ≤ r.row) Y →
            X ≡ filter (λ (r : Rectangle). nat_lt r.row row) all
        upper_is X Y split p q = sym (ap (filter (λ (r : Rectangle). nat_lt r.row row)) split ∙ upper row X Y p q)

        lower_is : (X Y : List Rectangle) → all ≡ X ++ Y → Each (λ (r : Rectangle). r.row < row) X → Each (λ (r : Rectangle). row ≤ r.row) Y →
            Y ≡ filter (λ (r : Rectangle). nat_le row r.row) all
        lower_is X Y split p q = sym (ap (filter (λ (r : Rectangle). nat_le row r.row)) split ∙ lower row X Y p q)
