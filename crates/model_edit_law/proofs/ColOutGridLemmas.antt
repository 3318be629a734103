-- The grid of a table without a column is the old one without it.
use Rattle.std.specs.Prelude.{slice_get, filter, filter_map, codes}
use Rattle.std.proofs.Common.{◌≡◌, ℕ, suc, ◌+◌, Bool, true, false, if◌then◌else◌, nat_le, List, [], ◌∷◌, length, map, Option, Some, Result, Ok, Err, refl, sym, ap, ◌∙◌, subst, arith}
use Rattle.ve_kinds.specs.declared.kind.Kind.TheVariants.{Table}
use Rattle.model_items.specs.declared.plain_item.PlainItem.{PlainItem}
use Rattle.model_items.specs.Tree.{Open}
use Rattle.model_change.specs.Transaction.{edited}
use Rattle.model_edit.specs.Brackets.{is_opening_of}
use Rattle.model_items.specs.Offsets.{partner, passes}
use Rattle.model_edit.specs.Edits.{transaction_of, InOrder}
use Rattle.model_edit.specs.declared.grid_cell.GridCell.{GridCell}
use Rattle.model_edit.specs.Causes.{TableCause, NotTable, BadColumn}
use Rattle.ve_base.specs.Limits.{max_row_span, max_column_span}
use Rattle.model_edit.specs.Grid.{TableRow, Grid, grid, grid_with, right_end, table_rows, row_cells, with_rows, covers_column}
use Rattle.model_edit.specs.Layout.{Rectangle, with_rectangles, without_column}
use Rattle.model_edit.specs.Tables.{fault_or, first_fault}
use Rattle.model_edit_law.specs.Spans.{Line, rectangle_of, lay, table_lines, line_at, cell_span_at, lines_left, AllSome, EachSome}
use Rattle.model_edit_law.specs.TableLaws.{laid_out, ColOutGrid}
use Rattle.model_edit_law.proofs.EditLemmas.{edited-transaction_from}
use Rattle.model_edit_law.proofs.LinkLemmas.{grid_lays}
use Rattle.model_edit_law.proofs.ColumnLemmas.{col_out_lays}
use Rattle.model_edit_law.proofs.TablePlaceLemmas.{Chain-filter, cell_kinds, cell_at, span_least, grid_stands}
use Rattle.model_edit_law.proofs.TableFineLemmas.{InOrder-within, col_out_order, fault_or_is, grid_given}
use Rattle.model_edit_law.proofs.TableSetLemmas.{length_map}
use Rattle.model_edit_law.proofs.RowOutGridLemmas.{lays_grid}
use Rattle.model_edit_law.proofs.CellRowLemmas.{Pairs, cells_in, rows_add}
use Rattle.model_edit_law.proofs.CellsOutLemmas.{edits_of}
use Rattle.model_edit_law.proofs.ColOutLemmas.{without, lines_narrow, opens_narrow}

spans_some : (items : List PlainItem) (nodes : List Open) → AllSome (map (cell_span_at items) nodes)
spans_some items [] = tt
spans_some items (n ∷ nodes) = (span_least (codes "rowspan") max_row_span (slice_get items n.from), span_least (codes "colspan") max_column_span (slice_get items n.from), spans_some items nodes)

pub lines_some : (items : List PlainItem) (rows : List TableRow) → EachSome (map (line_at items) rows)
lines_some items [] = tt
lines_some items (row ∷ rows) = (spans_some items (row_cells items row.at), lines_some items rows)

left_length : (column : ℕ) (all : List Rectangle) (row : ℕ) (lines : List Line) → length (lines_left column all row lines) ≡ length lines
left_length column all row [] = refl
left_length column all row (line ∷ lines) = ap suc (left_length column all (suc row) lines)

-- the cells of each row are its nodes
pub grid_pairs : (items : List PlainItem) (at : ℕ) (g : Grid) → grid items at ≡ Ok g → (k : ℕ) (r : TableRow) → slice_get (table_rows items at) k ≡ Some r → Pairs items (cells_in k g.cells) (row_cells items r.at)
grid_pairs items at g h = choose (passes (is_opening_of Table) (slice_get items at)) h
  where
    rows : List TableRow
    rows = table_rows items at

    by : (r : Result (List GridCell) TableCause) → with_rows items 0 rows (Ok []) ≡ r → grid_with (length rows) r ≡ Ok g → (k : ℕ) (row : TableRow) → slice_get rows k ≡ Some row → Pairs items (cells_in k g.cells) (row_cells items row.at)
    by (Err e) w h k row q = cc
    by (Ok cells) w h k row q =
        let e : record { rows = length rows; columns = right_end cells; cells = cells } ≡ g = cc in
        let z : 0 + k ≡ k = omega arith in
        subst (λ (v : Grid). Pairs items (cells_in k v.cells) (row_cells items row.at)) e
        (subst (λ m. Pairs items (cells_in m cells) (row_cells items row.at)) z ((rows_add items rows 0 [] cells tt w).3 k row q))

    choose : (b : Bool) → (if b then grid_with (length rows) (with_rows items 0 rows (Ok [])) else Err (NotTable at)) ≡ Ok g → (k : ℕ) (row : TableRow) → slice_get rows k ≡ Some row → Pairs items (cells_in k g.cells) (row_cells items row.at)
    choose false h = cc
    choose true h = by (with_rows items 0 rows (Ok [])) refl h

pub col_out_grid : ColOutGrid
col_out_grid items at column t g lawful given h =
    let p = grid_given (grid items at) _ t h in
    let same : p.0 ≡ g = (let e : ◌≡◌ {A = Result Grid TableCause} (Ok p.0) (Ok g) = sym p.1 ∙ given in cc) in
    let f : fault_or (causes g) (transaction_of items (edits_of items (covering g))) ≡ Ok t =
    subst (λ v. fault_or (causes v) (transaction_of items (edits_of items (covering v))) ≡ Ok t) same p.2 in
    let s = grid_stands items at g lawful given in
    let pairs = grid_pairs items at g given in
    let new = without items at column g lawful s pairs in
    let lines = table_lines items at in
    let rectangles = map rectangle_of g.cells in
    let left = filter_map (without_column column) rectangles in
    let room = (s.table).within in
    let count = s.count in
    let chain = Chain-filter cell_at items cell_kinds (λ (c : GridCell). covers_column c column) (suc at) (partner items at) g.cells (s.cells).chain in
    let order : InOrder 0 (0 + length items) (edits_of items (covering g)) =
    InOrder-within (suc at) 0 (partner items at) (0 + length items) (edits_of items (covering g)) (omega arith) (omega arith) (col_out_order items (covering g) (suc at) (partner items at) chain) in
    let is_new : edited t items ≡ new =
    ap (λ v. edited v items) (sym (fault_or_is _ (transaction_of items (edits_of items (covering g))) t f)) ∙ edited-transaction_from 0 items (edits_of items (covering g)) order in
    let lines_new : table_lines new at ≡ lines_left column rectangles 0 lines = lines_narrow items at column g lawful s pairs in
    let laid = col_out_lays lines column rectangles (lines_some items (table_rows items at)) (grid_lays items at g given) in
    let as_many : length (table_rows new at) ≡ g.rows =
    sym (length_map (line_at new) (table_rows new at)) ∙ ap length lines_new ∙ left_length column rectangles 0 lines ∙ length_map (line_at items) (table_rows items at) ∙ sym count in
    ap (λ v. laid_out (grid v at)) is_new
    ∙ lays_grid new at left (opens_narrow items at column g lawful s pairs) (ap (λ v. lay 0 v (Some [])) lines_new ∙ laid)
    ∙ ap (λ k. Ok (with_rectangles k left)) as_many
  where
    causes : Grid → Option TableCause
    causes v = first_fault ((nat_le v.columns column, BadColumn column v.columns) ∷ [])

    covering : Grid → List GridCell
    covering v = filter (λ (c : GridCell). covers_column c column) v.cells
