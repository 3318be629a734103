-- The grid of a table with a row put in is the old one with it.
use Rattle.std.specs.Prelude.{◌==◌}
use Rattle.std.proofs.Common.{◌≡◌, inl, inr, ℕ, suc, ◌+◌, ◌<◌, ◌≤◌, Bool, true, false, ◌&&◌, ◌||◌, nat_le, nat_lt, List, [], ◌∷◌, length, map, Option, None, Result, Ok, refl, sym, ap, ◌∙◌, subst, arith, zero-add}
use Rattle.std.proofs.lemmas.Bool.{eqb-false, leb-false, ltb-false, or_parts}
use Rattle.ve_base.specs.Limits.{max_row_span, max_column_span}
use Rattle.model_change.specs.Transaction.{edited}
use Rattle.model_edit.specs.Edits.{Edit, transaction_of, InOrder}
use Rattle.model_edit.specs.declared.grid_cell.GridCell.{GridCell}
use Rattle.model_edit.specs.Causes.{TableCause, BadRow, TooWide, SpanFull}
use Rattle.model_edit.specs.Grid.{Grid, grid, table_rows}
use Rattle.model_edit.specs.Layout.{layout_of, with_rectangles, row_in_layout}
use Rattle.model_edit.specs.Tables.{spans_row, fault_or, first_fault, at_first, row_in_edits}
use Rattle.model_edit_law.specs.Spans.{rectangle_of, table_lines, line_at}
use Rattle.model_edit_law.specs.TableLaws.{laid_out}
use Rattle.model_edit_law.proofs.EditLemmas.{edited-transaction_from}
use Rattle.model_edit_law.proofs.LinkLemmas.{grid_lays}
use Rattle.model_edit_law.proofs.TablePlaceLemmas.{grid_stands}
use Rattle.model_edit_law.proofs.TableFineLemmas.{fault_or_is, grid_given, row_in_order}
use Rattle.model_edit_law.proofs.TableSetLemmas.{Among, length_map}
use Rattle.model_edit_law.proofs.RowOutGridLemmas.{lays_grid, no_fault, grid_places}
use Rattle.model_table_law.specs.Grids.{RowInGrid}
use Rattle.model_table_law.proofs.RowInLayLemmas.{row_in_lays, lines_more, with_row}
use Rattle.model_table_law.proofs.RowInListLemmas as list

first_none : (b : Bool) (fault : TableCause) (causes : List (Bool × TableCause)) → first_fault ((b, fault) ∷ causes) ≡ None →
    (b ≡ false) × (first_fault causes ≡ None)
first_none true fault causes h = cc
first_none false fault causes h = (refl, h)

-- none of the cells has the fault
none_first : (test : GridCell → Bool) (cells : List GridCell) (named : ℕ → TableCause) → first_fault (at_first test cells named) ≡ None → (c : GridCell) →
    Among c cells → test c ≡ false
none_first test [] named h c a = absurd a
none_first test (x ∷ cells) named h c (inl e) = (let p = first_none (test x) (named x.at) (at_first test cells named) h in subst (λ v. test v ≡ false) e p.0)
none_first test (x ∷ cells) named h c (inr a) = (let p = first_none (test x) (named x.at) (at_first test cells named) h in none_first test cells named p.1 c a)

pub row_in_grid : RowInGrid
row_in_grid items at row t g lawful given h =
    let p = grid_given (grid items at) _ t h in
    let same : p.0 ≡ g = (let e : ◌≡◌ {A = Result Grid TableCause} (Ok p.0) (Ok g) = sym p.1 ∙ given in cc) in
    by (subst (λ v. fault_or (causes v) (transaction_of items (edits v)) ≡ Ok t) same p.2)
  where
    full : Grid → List (Bool × TableCause)
    full v = at_first (λ (c : GridCell). spans_row row c && nat_le max_row_span c.rows) v.cells (λ cell. SpanFull cell)

    causes : Grid → Option TableCause
    causes v = first_fault (((v.rows == 0) || nat_lt v.rows row, BadRow row v.rows) ∷ (nat_lt max_column_span v.columns, TooWide v.columns) ∷ full v)

    edits : Grid → List Edit
    edits v = row_in_edits items (table_rows items at) row v

    room : first_fault (full g) ≡ None → (c : GridCell) → Among c g.cells → spans_row row c ≡ true → suc c.rows ≤ max_row_span
    room h c a t =
        let f = none_first (λ (c : GridCell). spans_row row c && nat_le max_row_span c.rows) g.cells (λ cell. SpanFull cell) h c a in
        leb-false max_row_span c.rows (ap (λ b. b && nat_le max_row_span c.rows) (sym t) ∙ f)

    by : fault_or (causes g) (transaction_of items (edits g)) ≡ Ok t → laid_out (grid (edited t items) at) ≡ Ok (row_in_layout (layout_of g) row)
    by f =
        let s = grid_stands items at g lawful given in
        let count = s.count in
        let q = first_none ((g.rows == 0) || nat_lt g.rows row) (BadRow row g.rows) _ (no_fault (causes g) _ t f) in
        let few = or_parts (g.rows == 0) (nat_lt g.rows row) q.0 in
        let w = first_none (nat_lt max_column_span g.columns) (TooWide g.columns) (full g) q.1 in
        let fit = ltb-false g.rows row few.1 in
        let other = eqb-false g.rows 0 few.0 in
        let some : 0 < length (table_rows items at) = omega arith in
        let places = grid_places items at g given in
        let within : row ≤ length (table_rows items at) = omega arith in
        let new = list.with_row items at row g lawful s some within (room w.1) places in
        let all = map rectangle_of g.cells in
        let order : InOrder 0 (0 + length items) (edits g) = subst (λ k. InOrder 0 k (edits g)) (sym (zero-add (length items))) (row_in_order items at row g s) in
        let is_new : edited t items ≡ new =
        ap (λ v. edited v items) (sym (fault_or_is _ (transaction_of items (edits g)) t f))
        ∙ edited-transaction_from 0 items (edits g) order
        ∙ list.made items at row g lawful s some within (room w.1) places in
        let lines = list.lines_with items at row g lawful s some within (room w.1) places in
        let laid = row_in_lays (table_lines items at) (table_lines new at) row g.columns all lines (grid_lays items at g given) in
        let many : length (table_rows new at) ≡ suc g.rows =
        sym (length_map (line_at new) (table_rows new at)) ∙ lines_more row _ (table_lines items at) (table_lines new at) lines ∙ ap suc (length_map (line_at items) (table_rows items at) ∙ sym count) in
        ap (λ v. laid_out (grid v at)) is_new
        ∙ lays_grid new at (with_row row g.columns all) (list.opens_still items at row g lawful s some within (room w.1) places) laid
        ∙ ap (λ k. Ok (with_rectangles k (with_row row g.columns all))) many
