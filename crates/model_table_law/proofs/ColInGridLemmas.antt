-- The grid of a table with a column put in is the old one with it.
use Rattle.std.specs.Prelude.{flat_map, not, nat_le, ◌||◌}
use Rattle.std.specs.List.{list_any, range_with_len, enumerate_from}
use Rattle.std.proofs.Common.{◌≡◌, ◌⊎◌, inl, inr, ℕ, zero, suc, ◌+◌, ◌<◌, ◌≤◌, ◌==◌, Bool, true, false, ◌&&◌, nat_lt, List, [], ◌∷◌, ◌++◌, length, map, Option, Some, None, Result, Ok, refl, sym, ap, ◌∙◌, subst, arith}
use Rattle.std.proofs.lemmas.Bool.{cases_eq, or_parts, leb-false}
use Rattle.ve_base.specs.Limits.{max_column_span}
use Rattle.ve_kinds.specs.declared.kind.Kind.TheVariants.{Tr}
use Rattle.model_items.specs.declared.plain_item.PlainItem.{PlainItem}
use Rattle.model_items.specs.Offsets.{partner}
use Rattle.model_items.specs.Tree.{Open}
use Rattle.model_change.specs.Transaction.{edited}
use Rattle.model_edit.specs.Edits.{Edit, transaction_of}
use Rattle.model_edit.specs.declared.grid_cell.GridCell.{GridCell}
use Rattle.model_edit.specs.Causes.{TableCause, BadColumn, Ragged, SpanFull}
use Rattle.model_edit.specs.Grid.{Grid, grid, children_of, section_rows, table_rows, covers_row, covers_column, is_covered}
use Rattle.model_edit.specs.Layout.{Rectangle, with_rectangles}
use Rattle.model_edit.specs.Tables.{spans_column, fault_or, first_fault, at_first, has_gap_before, column_edits}
use Rattle.model_edit_law.specs.Spans.{Line, covers_cell, rectangle_of, lay, line_at, table_lines}
use Rattle.model_edit_law.specs.TableLaws.{laid_out}
use Rattle.model_edit_law.proofs.EditLemmas.{edited-transaction_from}
use Rattle.model_edit_law.proofs.LinkLemmas.{grid_lays}
use Rattle.model_edit_law.proofs.TablePlaceLemmas.{grid_stands}
use Rattle.model_edit_law.proofs.TableFineLemmas.{InOrder-within, fault_or_is, grid_given}
use Rattle.model_edit_law.proofs.TableSetLemmas.{map-append, length_map, Among}
use Rattle.model_edit_law.proofs.RowOutGridLemmas.{lays_grid, no_fault}
use Rattle.model_edit_law.proofs.ColOutGridLemmas.{grid_pairs, lines_some}
use Rattle.model_table_law.specs.Grids.{ColInGrid}
use Rattle.model_table_law.proofs.RowsAddLemmas.{rows_rise}
use Rattle.model_table_law.proofs.ColInCoverLemmas.{row_with, lines_with}
use Rattle.model_table_law.proofs.ColInLayLemmas.{EachDeep, col_in_lays}
use Rattle.model_table_law.proofs.ColInRowLemmas.{with_column, in_order}
use Rattle.model_table_law.proofs.ColInLinesLemmas.{lines_widened, opens_widened}

EachDeep-append : (xs ys : List Line) → EachDeep xs → EachDeep ys → EachDeep (xs ++ ys)
EachDeep-append [] ys x y = y
EachDeep-append (line ∷ xs) ys x y = (x.0, EachDeep-append xs ys x.1 y)

rows_deep : (items : List PlainItem) (nodes : List Open) → EachDeep (map (line_at items) (section_rows nodes))
rows_deep items [] = tt
rows_deep items (o ∷ nodes) = (omega arith, rows_deep items nodes)

lines_deep : (items : List PlainItem) (sections : List Open) → EachDeep (map (line_at items) (flat_map (λ (section : Open). section_rows (children_of (Tr ∷ []) items section.from)) sections))
lines_deep items [] = tt
lines_deep items (o ∷ sections) =
    let rows = section_rows (children_of (Tr ∷ []) items o.from) in
    let later = flat_map (λ (section : Open). section_rows (children_of (Tr ∷ []) items section.from)) sections in
    subst EachDeep (sym (map-append (line_at items) rows later))
    (EachDeep-append (map (line_at items) rows) (map (line_at items) later) (rows_deep items (children_of (Tr ∷ []) items o.from)) (lines_deep items sections))

with_length : (column : ℕ) (all : List Rectangle) (row : ℕ) (lines : List Line) → length (lines_with column all row lines) ≡ length lines
with_length column all row [] = refl
with_length column all row (line ∷ lines) = ap suc (with_length column all (suc row) lines)

covered_cells : (cells : List GridCell) (row k : ℕ) → covers_cell (map rectangle_of cells) row k ≡ is_covered cells row k
covered_cells [] row k = refl
covered_cells (c ∷ cells) row k = ap (λ b. (covers_row c row && covers_column c k) || b) (covered_cells cells row k)

-- what no cause says
first_none : (b : Bool) (fault : TableCause) (causes : List (Bool × TableCause)) → first_fault ((b, fault) ∷ causes) ≡ None → (b ≡ false) × (first_fault causes ≡ None)
first_none true fault causes h = cc
first_none false fault causes h = (refl, h)

none_append : (xs ys : List (Bool × TableCause)) → first_fault (xs ++ ys) ≡ None → (first_fault xs ≡ None) × (first_fault ys ≡ None)
none_append [] ys h = (refl, h)
none_append ((true, fault) ∷ xs) ys h = cc
none_append ((false, fault) ∷ xs) ys h = none_append xs ys h

none_of : (test : ℕ → Bool) (named : ℕ → TableCause) (from n : ℕ) → first_fault (map (λ k. (test k, named k)) (range_with_len from n)) ≡ None → (k : ℕ) → from ≤ k → k < from + n → test k ≡ false
none_of test named from zero h k low high = absurd (omega arith)
none_of test named from (suc n) h k low high =
    let p = first_none (test from) (named from) (map (λ k. (test k, named k)) (range_with_len (from + 1) n)) h in
    elim (cases_eq from k) [
      | inl same ↦ subst (λ m. test m ≡ false) same p.0
      | inr other ↦ none_of test named (from + 1) n p.1 k (omega arith) (omega arith)
    ]

no_gap : (test : ℕ → Bool) (from n : ℕ) → list_any (λ k. not (test k)) (range_with_len from n) ≡ false → (k : ℕ) → from ≤ k → k < from + n → test k ≡ true
no_gap test from zero h k low high = absurd (omega arith)
no_gap test from (suc n) h k low high =
    let p = or_parts (not (test from)) _ h in
    elim (cases_eq from k) [
      | inl same ↦ subst (λ m. test m ≡ true) same (on (test from) p.0)
      | inr other ↦ no_gap test (from + 1) n p.1 k (omega arith) (omega arith)
    ]
  where
    on : (b : Bool) → not b ≡ false → b ≡ true
    on true e = refl
    on false e = sym e

none_full : (column : ℕ) (cells : List GridCell) → first_fault (at_first (λ (c : GridCell). spans_column column c && nat_le max_column_span c.columns) cells (λ cell. SpanFull cell)) ≡ None →
    (c : GridCell) → Among c cells → spans_column column c ≡ true → c.columns < max_column_span
none_full column [] h c a t = absurd a
none_full column (x ∷ cells) h c a t =
    let p = first_none (spans_column column x && nat_le max_column_span x.columns) (SpanFull x.at) (at_first (λ (c : GridCell). spans_column column c && nat_le max_column_span c.columns) cells (λ cell. SpanFull cell)) h in
    by a p.0 (λ b. none_full column cells p.1 c b t)
  where
    by : (x ≡ c) ⊎ Among c cells → (spans_column column x && nat_le max_column_span x.columns) ≡ false → (Among c cells → c.columns < max_column_span) → c.columns < max_column_span
    by (inl e) n next =
        let y : spans_column column x ≡ true = subst (λ v. spans_column column v ≡ true) (sym e) t in
        let l = leb-false max_column_span x.columns (ap (λ b. b && nat_le max_column_span x.columns) (sym y) ∙ n) in
        subst (λ (v : GridCell). v.columns < max_column_span) e l
    by (inr b) n next = next b

pub col_in_grid : ColInGrid
col_in_grid items at column t g lawful given h =
    let p = grid_given (grid items at) _ t h in
    let same : p.0 ≡ g = (let e : ◌≡◌ {A = Result Grid TableCause} (Ok p.0) (Ok g) = sym p.1 ∙ given in cc) in
    let f : fault_or (causes g) (transaction_of items (edits g)) ≡ Ok t = subst (λ v. fault_or (causes v) (transaction_of items (edits v)) ≡ Ok t) same p.2 in
    let none = no_fault (causes g) (transaction_of items (edits g)) t f in
    let q = first_none ((g.columns == 0) || nat_lt g.columns column) (BadColumn column g.columns) (later g) none in
    let n = none_append (gaps g) (full g) q.1 in
    let s = grid_stands items at g lawful given in
    let count = s.count in
    let pairs = grid_pairs items at g given in
    let lines = table_lines items at in
    let rectangles = map rectangle_of g.cells in
    let lays = grid_lays items at g given in
    let rising = rows_rise lines rectangles lays in
    let room = none_full column g.cells n.1 in
    let new = with_column items at column g lawful s pairs rising room in
    let within = (s.table).within in
    let order = InOrder-within (suc at) 0 (partner items at) (0 + length items) (edits g) (omega arith) (omega arith) (in_order items at column g lawful s pairs rising room) in
    let is_new : edited t items ≡ new = ap (λ v. edited v items) (sym (fault_or_is _ (transaction_of items (edits g)) t f)) ∙ edited-transaction_from 0 items (edits g) order in
    let lines_new = lines_widened items at column g lawful s pairs rising room in
    let long : length lines ≡ g.rows = length_map (line_at items) (table_rows items at) ∙ sym count in
    let all : List Rectangle = flat_map (row_with column rectangles) (range_with_len 0 (length lines)) in
    let laid = col_in_lays column lines rectangles (lines_some items (table_rows items at)) (lines_deep items _)
    (λ row k l m. covered_cells g.cells row k ∙ no_gap (is_covered g.cells row) 0 column (none_of (λ i. has_gap_before g.cells i column) Ragged 0 g.rows n.0 row (omega arith) (omega arith)) k (omega arith) (omega arith)) lays in
    let as_many : length (table_rows new at) ≡ g.rows =
    sym (length_map (line_at new) (table_rows new at)) ∙ ap length lines_new ∙ with_length column rectangles 0 lines ∙ long in
    ap (λ v. laid_out (grid v at)) is_new
    ∙ lays_grid new at all (opens_widened items at column g lawful s pairs rising room) (ap (λ v. lay 0 v (Some [])) lines_new ∙ laid)
    ∙ (λ i. Ok (with_rectangles (as_many i) (flat_map (row_with column rectangles) (range_with_len 0 (long i)))))
  where
    gaps : Grid → List (Bool × TableCause)
    gaps v = map (λ row. (has_gap_before v.cells row column, Ragged row)) (range_with_len 0 v.rows)

    full : Grid → List (Bool × TableCause)
    full v = at_first (λ (c : GridCell). spans_column column c && nat_le max_column_span c.columns) v.cells (λ cell. SpanFull cell)

    later : Grid → List (Bool × TableCause)
    later v = gaps v ++ full v

    causes : Grid → Option TableCause
    causes v = first_fault (((v.columns == 0) || nat_lt v.columns column, BadColumn column v.columns) ∷ later v)

    edits : Grid → List Edit
    edits v = flat_map (column_edits items column v) (enumerate_from 0 (table_rows items at))
