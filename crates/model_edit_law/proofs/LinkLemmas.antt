-- A grid's rectangles are those that its rows' spans give.
use Rattle.std.specs.Prelude.{sum_by, fold, slice_get}
use Rattle.std.specs.List.{list_any}
use Rattle.std.proofs.Common.{◌≡◌, ℕ, suc, ◌+◌, Bool, true, false, ◌||◌, if◌then◌else◌, nat_lt, List, [], ◌∷◌, ◌++◌, map, length, Option, Some, None, Result, Ok, Err, refl, sym, ap, ◌∙◌}
use Rattle.model_items.specs.declared.plain_item.PlainItem.{PlainItem}
use Rattle.ve_kinds.specs.declared.kind.Kind.TheVariants.{Table}
use Rattle.model_items.specs.Tree.{Open}
use Rattle.model_edit.specs.Brackets.{is_opening_of}
use Rattle.model_items.specs.Offsets.{passes}
use Rattle.model_edit.specs.declared.grid_cell.GridCell.{GridCell}
use Rattle.model_edit.specs.Causes.{TableCause, NotTable, Crooked}
use Rattle.model_edit.specs.Grid.{TableRow, table_rows, row_cells, cells_meet, placed_cell, is_crooked, with_row, with_rows, right_end, grid_with}
use Rattle.model_edit.specs.Layout.{Rectangle, layout_of}
use Rattle.model_edit_law.specs.Spans.{free_from, rectangle_of, meet, laid, bent, lay_row, lay, cell_span_at, line_at, table_lines}
use Rattle.model_edit_law.specs.TableLaws.{GridLays}
use Rattle.model_edit_law.proofs.LeastLemmas.{first_free-cells}

-- what is laid where cells are placed
abbrev pub rectangles : Result (List GridCell) TableCause → Option (List Rectangle)
rectangles (Err e) = None
rectangles (Ok cells) = Some (map rectangle_of cells)

width_cells : (a : ℕ) (cells : List GridCell) → fold (λ n (c : GridCell). n + c.columns) a cells ≡ fold (λ n (r : Rectangle). n + r.columns) a (map rectangle_of cells)
width_cells a [] = refl
width_cells a (c ∷ cells) = width_cells (a + c.columns) cells

meet_cells : (one : GridCell) (cells : List GridCell) → list_any (cells_meet one) cells ≡ list_any (meet (rectangle_of one)) (map rectangle_of cells)
meet_cells one [] = refl
meet_cells one (c ∷ cells) = ap (λ b. cells_meet one c || b) (meet_cells one cells)

map_append : (xs ys : List GridCell) → map rectangle_of (xs ++ ys) ≡ map rectangle_of xs ++ map rectangle_of ys
map_append [] ys = refl
map_append (x ∷ xs) ys = ap (λ v. rectangle_of x ∷ v) (map_append xs ys)

placed_laid : (items : List PlainItem) (before : List GridCell) (row end : ℕ) (n : Open) → rectangle_of (placed_cell items before row end n) ≡ laid (map rectangle_of before) row end (cell_span_at items n)
placed_laid items before row end n =
    ap (λ c. record { row = row; column = c; rows = (cell_span_at items n).rows; columns = (cell_span_at items n).columns })
    (first_free-cells before row end (sum_by (λ (c : GridCell). c.columns) before) ∙ ap (free_from (map rectangle_of before) row end) (width_cells 0 before))

row_link : (items : List PlainItem) (nodes : List Open) (row left end : ℕ) (before : List GridCell) →
    lay_row row left end (map (cell_span_at items) nodes) (map rectangle_of before) ≡ rectangles (with_row items row left end nodes before)
row_link items [] row left end before = refl
row_link items (n ∷ nodes) row left end before =
    let one = placed_cell items before row end n in
    let B = map rectangle_of before in
    let rest = row_link items nodes row left (one.column + one.columns) (before ++ one ∷ []) in
    ap (λ r. if bent left B r then None else lay_row row left (r.column + r.columns) (map (cell_span_at items) nodes) (B ++ r ∷ [])) (sym (placed_laid items before row end n))
    ∙ ap (λ v. if bent left B (rectangle_of one) then None else lay_row row left (one.column + one.columns) (map (cell_span_at items) nodes) v) (sym (map_append before (one ∷ [])))
    ∙ ap (λ v. if bent left B (rectangle_of one) then None else v) rest
    ∙ ap (λ b. if nat_lt left one.rows || b then None else rectangles (with_row items row left (one.column + one.columns) nodes (before ++ one ∷ []))) (sym (meet_cells one before))
    ∙ out (is_crooked left before one)
  where
    out : (b : Bool) → (if b then None else rectangles (with_row items row left ((placed_cell items before row end n).column + (placed_cell items before row end n).columns) nodes (before ++ placed_cell items before row end n ∷ [])))
        ≡ rectangles (if b then Err (Crooked n.from) else with_row items row left ((placed_cell items before row end n).column + (placed_cell items before row end n).columns) nodes (before ++ placed_cell items before row end n ∷ []))
    out true = refl
    out false = refl

pub rows_link : (items : List PlainItem) (rows : List TableRow) (row : ℕ) (r : Result (List GridCell) TableCause) →
    lay row (map (line_at items) rows) (rectangles r) ≡ rectangles (with_rows items row rows r)
rows_link items rows row (Err e) = refl
rows_link items [] row (Ok before) = refl
rows_link items (one ∷ rows) row (Ok before) =
    ap (lay (suc row) (map (line_at items) rows)) (row_link items (row_cells items one.at) row one.left 0 before)
    ∙ rows_link items rows (suc row) (with_row items row one.left 0 (row_cells items one.at) before)

pub grid_lays : GridLays
grid_lays items at g h = choose (passes (is_opening_of Table) (slice_get items at)) h
  where
    rows : List TableRow
    rows = table_rows items at

    by : (r : Result (List GridCell) TableCause) → rectangles (with_rows items 0 rows (Ok [])) ≡ rectangles r → grid_with (length rows) r ≡ Ok g → lay 0 (table_lines items at) (Some []) ≡ Some (layout_of g).rectangles
    by (Err e) l h = cc
    by (Ok cells) l h =
        let e : record { rows = length rows; columns = right_end cells; cells = cells } ≡ g = cc in
        rows_link items rows 0 (Ok []) ∙ l ∙ ap (λ v. Some (layout_of v).rectangles) e

    choose : (b : Bool) → (if b then grid_with (length rows) (with_rows items 0 rows (Ok [])) else Err (NotTable at)) ≡ Ok g → lay 0 (table_lines items at) (Some []) ≡ Some (layout_of g).rectangles
    choose false h = cc
    choose true h = by (with_rows items 0 rows (Ok [])) refl h
