-- The first column of each row that no cell covers, and the first row in which it is left of another.
use Rattle.std.specs.List.{list_any, range_with_len}
use Rattle.std.proofs.Common.{◌≡◌, ℕ, zero, suc, ◌+◌, ◌-◌, ◌<◌, ◌≤◌, Bool, true, false, not, ◌&&◌, ◌||◌, if◌then◌else◌, nat_lt, nat_le, Some, None, List, [], ◌∷◌, ◌++◌, drop, length, map, get_or, Result, Ok, Err, inl, inr, refl, sym, ap, ◌∙◌, subst, arith, length-append}
use Rattle.std.proofs.lemmas.Bool.{cases_Bool, ltb-true, ltb-false}
use Rattle.std.proofs.lemmas.Bool.Decides.{nat_tests}
use Rattle.std.proofs.lemmas.List.{drop_more, get_or_append_left}
use Rattle.std.proofs.lemmas.List.Folds.{list_any-append}
use Rattle.std.proofs.Math.Seq.{get_or-append_seam}
use Rattle.model_items.specs.declared.plain_item.PlainItem.{PlainItem}
use Rattle.model_items.specs.Tree.{Open}
use Rattle.ve_tables.specs.declared.rows.TableRow.{TableRow}
use Rattle.model_edit.specs.declared.grid_cell.GridCell.{GridCell}
use Rattle.model_edit.specs.Causes.{TableCause, Ragged}
use Rattle.model_edit.specs.Grid.{Grid, covers_row, covers_column, is_covered, placed_cell, is_crooked, row_cells, with_row, with_rows}
use Rattle.model_edit.specs.Tables.{has_gap_before, first_fault}
use Rattle.model_edit_law.proofs.TablePlaceLemmas.{if_ok_else}
use Rattle.ve_tables.specs.CellQuestions.{ragged_causes, IsFirstRagged}
use Rattle.ve_tables.specs.Covered.{IsGap, AreGaps, HasGapNoted}
use Rattle.ve_tables.specs.Placed.{Placed}
use Rattle.ve_tables.specs.Rows.{HasRow, row_of, rows_after}

-- ---- the gap of a row stays while later rows are placed

-- a cell below a row covers nothing in it
below_free : (cells : List GridCell) (one : GridCell) (row column : ℕ) → row < one.row → is_covered (cells ++ one ∷ []) row column ≡ is_covered cells row column
below_free cells one row column below =
    let p : GridCell → Bool = λ c. covers_row c row && covers_column c column in
    let far : nat_le one.row row ≡ false = grind (arith, nat_tests) in
    list_any-append p cells (one ∷ [])
    ∙ ap (λ b. is_covered cells row column || (((b && nat_lt row (one.row + one.rows)) && covers_column one column) || false)) far
    ∙ by (is_covered cells row column)
  where
    by : (b : Bool) → (b || false) ≡ b
    by true = refl
    by false = refl

pub row_keeps : (items : List PlainItem) (at left end : ℕ) (nodes : List Open) (before cells : List GridCell) (row column : ℕ) → row < at → with_row items at left end nodes before ≡ Ok cells →
    is_covered cells row column ≡ is_covered before row column
row_keeps items at left end [] before cells row column above e = let same : before ≡ cells = cc in ap (λ l. is_covered l row column) (sym same)
row_keeps items at left end (node ∷ nodes) before cells row column above e =
    let one = placed_cell items before at end node in
    let p = if_ok_else (is_crooked left before one) _ _ cells e in
    row_keeps items at left (one.column + one.columns) nodes (before ++ one ∷ []) cells row column above p.1 ∙ below_free before one row column above

gap_keeps : (items : List PlainItem) (at left end : ℕ) (nodes : List Open) (before cells : List GridCell) (row column : ℕ) → row < at → with_row items at left end nodes before ≡ Ok cells →
    IsGap before row column → IsGap cells row column
gap_keeps items at left end nodes before cells row column above e gap = record {
  before = λ c less. row_keeps items at left end nodes before cells row c above e ∙ gap.before c less;
  free = row_keeps items at left end nodes before cells row column above e ∙ gap.free;
}

-- a row more, with its gap
pub gaps_more : (items : List PlainItem) (left end : ℕ) (nodes : List Open) (before cells : List GridCell) (row : ℕ) (gaps new : List ℕ) → with_row items row left end nodes before ≡ Ok cells →
    AreGaps before row gaps → HasGapNoted cells row gaps new → AreGaps cells (row + 1) new
gaps_more items left end nodes before cells row gaps new e are noted =
    let count = are.count in
    let long = length-append gaps (noted.column ∷ []) in
    record {
      count = ap (λ (l : List ℕ). length l) noted.more ∙ (let n : length (gaps ++ noted.column ∷ []) ≡ row + 1 = omega arith in n);
      each = λ r less.
          subst (IsGap cells r) (sym (ap (λ (l : List ℕ). get_or l r 0) noted.more))
          (elim (cases_Bool (nat_lt r row)) [
            | inl t ↦ (let l = ltb-true r row t in
                subst (IsGap cells r) (sym (get_or_append_left gaps (noted.column ∷ []) 0 r (omega arith)))
                (gap_keeps items row left end nodes before cells r (get_or gaps r 0) l e (are.each r l)))
            | inr f ↦ (let l = ltb-false r row f in let is : r ≡ row = omega arith in
                subst (λ n. IsGap cells n (get_or (gaps ++ noted.column ∷ []) n 0)) (sym is)
                (subst (λ n. IsGap cells row (get_or (gaps ++ noted.column ∷ []) n 0)) count
                (subst (IsGap cells row) (sym (get_or-append_seam gaps noted.column [] 0)) noted.is)))
          ]);
    }

pub gaps_row : (items : List PlainItem) (i at : ℕ) (cells : List GridCell) (old placed noted : Placed) (gaps new : List ℕ) → old.cells ≡ cells → old.row ≡ i → HasRow items old at placed → noted ≡ placed →
    AreGaps cells i gaps → HasGapNoted placed.cells placed.row gaps new → AreGaps noted.cells (i + 1) new
gaps_row items i at cells old placed noted gaps new same row has is are gap =
    let e : placed.row ≡ i = has.same ∙ row in
    let before : AreGaps old.cells old.row gaps = subst (λ n. AreGaps old.cells n gaps) (sym row) (subst (λ l. AreGaps l i gaps) (sym same) are) in
    let here : HasGapNoted placed.cells old.row gaps new = subst (λ n. HasGapNoted placed.cells n gaps new) has.same gap in
    let more = gaps_more items old.left old.end (row_cells items at) old.cells placed.cells old.row gaps new has.means before here in
    subst (λ (q : Placed). AreGaps q.cells (i + 1) new) (sym is) (subst (λ n. AreGaps placed.cells (n + 1) new) row more)

pub gaps_none : (gaps : List ℕ) → gaps ≡ [] → AreGaps [] 0 gaps
gaps_none gaps none = record { count = ap (λ (l : List ℕ). length l) none; each = λ row less. absurd (omega arith) }

-- ---- the first row with a gap left of a column

any_in : (p : ℕ → Bool) (from count k : ℕ) → from ≤ k → k < from + count → p k ≡ true → list_any p (range_with_len from count) ≡ true
any_in p from zero k low high is = absurd (omega arith)
any_in p from (suc count) k low high is =
    elim (cases_Bool (nat_lt from k)) [
      | inl t ↦ (let l = ltb-true from k t in
          ap (λ b. p from || b) (any_in p (from + 1) count k (omega arith) (omega arith) is) ∙ or_all (p from))
      | inr f ↦ (let l = ltb-false from k f in let e : k ≡ from = omega arith in
          ap (λ b. b || list_any p (range_with_len (from + 1) count)) (ap p (sym e) ∙ is))
    ]
  where
    or_all : (b : Bool) → (b || true) ≡ true
    or_all true = refl
    or_all false = refl

none_in : (p : ℕ → Bool) (from count : ℕ) → ((k : ℕ) → from ≤ k → k < from + count → p k ≡ false) → list_any p (range_with_len from count) ≡ false
none_in p from zero none = refl
none_in p from (suc count) none =
    ap (λ b. b || list_any p (range_with_len (from + 1) count)) (none from (omega arith) (omega arith))
    ∙ none_in p (from + 1) count (λ k low high. none k (omega arith) (omega arith))

gap_before : (cells : List GridCell) (row column gap : ℕ) → IsGap cells row gap → gap < column → has_gap_before cells row column ≡ true
gap_before cells row column gap is less = any_in (λ k. not (is_covered cells row k)) 0 column gap (omega arith) (omega arith) (ap not is.free)

no_gap_before : (cells : List GridCell) (row column gap : ℕ) → IsGap cells row gap → column ≤ gap → has_gap_before cells row column ≡ false
no_gap_before cells row column gap is high = none_in (λ k. not (is_covered cells row k)) 0 column (λ k low less. ap not (is.before k (omega arith)))

-- the causes up to a row in which there is one
first_skipped : (column : ℕ) (g : Grid) (row count passed : ℕ) (more : List (Bool × TableCause)) → passed ≤ count → ((k : ℕ) → row ≤ k → k < row + passed → has_gap_before g.cells k column ≡ false) →
    first_fault (ragged_causes column g row count ++ more) ≡ first_fault (ragged_causes column g (row + passed) (count - passed) ++ more)
first_skipped column g row count zero more fits none =
    let z : row + 0 ≡ row = omega arith in
    let n : count - 0 ≡ count = omega arith in
    ap (λ r. first_fault (ragged_causes column g r count ++ more)) (sym z) ∙ ap (λ k. first_fault (ragged_causes column g (row + 0) k ++ more)) (sym n)
first_skipped column g row zero (suc passed) more fits none = absurd (omega arith)
first_skipped column g row (suc count) (suc passed) more fits none =
    let z : (row + 1) + passed ≡ row + suc passed = omega arith in
    let n : count - passed ≡ suc count - suc passed = omega arith in
    ap (λ b. first_fault ((b, Ragged row) ∷ ragged_causes column g (row + 1) count ++ more)) (none row (omega arith) (omega arith))
    ∙ first_skipped column g (row + 1) count passed more (omega arith) (λ k low high. none k (omega arith) (omega arith))
    ∙ ap (λ r. first_fault (ragged_causes column g r (count - passed) ++ more)) z ∙ ap (λ k. first_fault (ragged_causes column g (row + suc passed) k ++ more)) n

module _ (g : Grid) (gaps : List ℕ) (column : ℕ) (are : AreGaps g.cells g.rows gaps) where
  skipped : (row : ℕ) (more : List (Bool × TableCause)) → row ≤ g.rows → ((k : ℕ) → k < row → column ≤ get_or gaps k 0) →
      first_fault (ragged_causes column g 0 g.rows ++ more) ≡ first_fault (ragged_causes column g (0 + row) (g.rows - row) ++ more)
  skipped row more within passed =
      first_skipped column g 0 g.rows row more within (λ k low less. no_gap_before g.cells k column (get_or gaps k 0) (are.each k (omega arith)) (passed k (omega arith)))

  pub ragged_at : (row : ℕ) → row < length gaps → ((k : ℕ) → k < row → column ≤ get_or gaps k 0) → get_or gaps row 0 < column → IsFirstRagged column g (Some row)
  ragged_at row inside passed less more =
      let count = are.count in
      let e : g.rows - row ≡ suc ((g.rows - row) - 1) = omega arith in
      let z : 0 + row ≡ row = omega arith in
      skipped row more (omega arith) passed ∙ ap (λ n. first_fault (ragged_causes column g (0 + row) n ++ more)) e
      ∙ ap (λ r. first_fault (ragged_causes column g r (suc ((g.rows - row) - 1)) ++ more)) z
      ∙ ap (λ b. first_fault ((b, Ragged row) ∷ ragged_causes column g (row + 1) ((g.rows - row) - 1) ++ more)) (gap_before g.cells row column (get_or gaps row 0) (are.each row (omega arith)) less)

  pub not_ragged : ((k : ℕ) → k < length gaps → column ≤ get_or gaps k 0) → IsFirstRagged column g None
  not_ragged passed more =
      let count = are.count in
      let none : g.rows - g.rows ≡ 0 = omega arith in
      skipped g.rows more (omega arith) (λ k less. passed k (omega arith)) ∙ ap (λ n. first_fault (ragged_causes column g (0 + g.rows) n ++ more)) none

-- ---- one row more in the table

rows_next : (items : List PlainItem) (rows : List TableRow) (i : ℕ) (cells new : List GridCell) (row : TableRow) → drop i rows ≡ row ∷ drop (i + 1) rows → with_row items i row.left 0 (row_cells items row.at) cells ≡ Ok new →
    rows_after items (i + 1) (drop (i + 1) rows) new ≡ rows_after items i (drop i rows) cells
rows_next items rows i cells new row parts is =
    let n : suc i ≡ i + 1 = omega arith in
    sym (ap (λ (rest : List TableRow). rows_after items i rest cells) parts
    ∙ ap (λ r. with_rows items (suc i) (map row_of (drop (i + 1) rows)) r) is
    ∙ ap (λ k. rows_after items k (drop (i + 1) rows) new) n)

pub row_more : (items : List PlainItem) (rows : List TableRow) (i : ℕ) (d : TableRow) (cells : List GridCell) (old placed noted : Placed) → i < length rows → old ≡ record { cells = cells; row = i; left = (get_or rows i d).left; end = 0 } →
    HasRow items old (get_or rows i d).at placed → noted ≡ placed → rows_after items (i + 1) (drop (i + 1) rows) noted.cells ≡ rows_after items i (drop i rows) cells
row_more items rows i d cells old placed noted inside begins has is =
    let means = subst (λ (p : Placed). with_row items p.row p.left p.end (row_cells items (get_or rows i d).at) p.cells ≡ Ok placed.cells) begins has.means in
    subst (λ (p : Placed). rows_after items (i + 1) (drop (i + 1) rows) p.cells ≡ rows_after items i (drop i rows) cells) (sym is)
    (rows_next items rows i cells placed.cells (get_or rows i d) (drop_more rows i d inside) means)
