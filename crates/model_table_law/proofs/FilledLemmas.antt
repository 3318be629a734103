-- The cells of a grid, row by row, with what stands in them.
use Rattle.std.specs.Prelude.{slice_get, flat_map, filter_map, option_map, sum_by}
use Rattle.std.specs.List.{cons_option}
use Rattle.std.proofs.Common.{◌≡◌, ℕ, zero, suc, ◌+◌, ◌≤◌, Bool, true, false, if◌then◌else◌, List, [], ◌∷◌, ◌++◌, length, map, Option, Some, None, Result, Ok, Err, refl, sym, ap, ◌∙◌, subst, arith, append-nil}
use Rattle.std.proofs.lemmas.List.{append_assoc}
use Rattle.ve_kinds.specs.declared.kind.Kind.TheVariants.{Table}
use Rattle.model_items.specs.declared.plain_item.PlainItem.{PlainItem}
use Rattle.model_items.specs.Tree.{Open}
use Rattle.model_items.specs.Offsets.{passes}
use Rattle.model_edit.specs.Brackets.{is_opening_of}
use Rattle.model_edit.specs.declared.grid_cell.GridCell.{GridCell}
use Rattle.model_edit.specs.Causes.{TableCause, NotTable}
use Rattle.model_edit.specs.Grid.{TableRow, Grid, grid, grid_with, right_end, table_rows, row_cells, first_free, is_covered, placed_cell, is_crooked, with_row, with_rows}
use Rattle.model_edit.specs.Layout.{Rectangle, Layout, layout_of}
use Rattle.model_edit_law.specs.Spans.{rectangle_of}
use Rattle.model_edit_law.specs.TableLaws.{laid_out}
use Rattle.model_edit_law.proofs.TableSetLemmas.{map-append}
use Rattle.model_edit_law.proofs.TablePlaceLemmas.{if_ok_else}
use Rattle.model_edit_law.proofs.CellRowLemmas.{Pairs}
use Rattle.model_table_law.specs.Cells.{inside, FilledCell, filled_cells, filled_grid, filled_at, at_rest}
use Rattle.model_table_law.proofs.ReadLemmas.{row_insides, insides}

abbrev pub rectangles_of : List FilledCell → List Rectangle
rectangles_of cells = map (λ (c : FilledCell). c.rectangle) cells

abbrev pub insides_of : List FilledCell → List (List PlainItem)
insides_of cells = map (λ (c : FilledCell). c.inside) cells

abbrev pub cell_insides : List PlainItem → List GridCell → List (List PlainItem)
cell_insides items cells = map (λ (c : GridCell). inside items c.at) cells

-- filled cells are their rectangles and what stands in them
filled_alike : (xs ys : List FilledCell) → rectangles_of xs ≡ rectangles_of ys → insides_of xs ≡ insides_of ys → xs ≡ ys
filled_alike [] [] e f = refl
filled_alike [] (y ∷ ys) e f = cc
filled_alike (x ∷ xs) [] e f = cc
filled_alike (x ∷ xs) (y ∷ ys) e f =
    let a : x.rectangle ≡ y.rectangle = cc in
    let b : x.inside ≡ y.inside = cc in
    let rest = filled_alike xs ys (let z : rectangles_of xs ≡ rectangles_of ys = cc in z) (let z : insides_of xs ≡ insides_of ys = cc in z) in
    (λ i. record { rectangle = a i; inside = b i } ∷ rest i)

abbrev pub AllIn : ℕ → List GridCell → Type 0
AllIn row [] = Unit {0}
AllIn row (c ∷ cells) = (c.row ≡ row) × AllIn row cells

-- each cell begins at the end of the one before it or right of it
abbrev pub Rising : ℕ → List GridCell → Type 0
Rising end [] = Unit {0}
Rising end (c ∷ cells) = (end ≤ c.column) × Rising (c.column + c.columns) cells

-- the cells in parts, each with the nodes of a row
abbrev pub ByRows : List PlainItem → ℕ → List TableRow → List GridCell → Type 0
ByRows items index [] cells = cells ≡ []
ByRows items index (r ∷ rows) cells =
    (own : List GridCell) × (later : List GridCell) × (cells ≡ own ++ later) × AllIn index own × Pairs items own
    (row_cells items r.at) × ByRows items (suc index) rows later × Rising 0 own

free_right : (cells : List GridCell) (row column fuel : ℕ) → column ≤ first_free cells row column fuel
free_right cells row column zero = omega arith
free_right cells row column (suc fuel) = by (is_covered cells row column) (free_right cells row (suc column) fuel)
  where
    by : (b : Bool) → suc column ≤ first_free cells row (suc column) fuel → column ≤ (if b then first_free cells row (suc column) fuel else column)
    by true l = omega arith
    by false l = omega arith

row_by : (items : List PlainItem) (row left end : ℕ) (nodes : List Open) (before cells : List GridCell) → with_row items row left end nodes before ≡ Ok cells →
    (more : List GridCell) × (cells ≡ before ++ more) × AllIn row more × Pairs items more nodes × Rising end more
row_by items row left end [] before cells h = let e : before ≡ cells = cc in ([], sym e ∙ sym (append-nil before), tt, tt, tt)
row_by items row left end (n ∷ nodes) before cells h =
    let one = placed_cell items before row end n in
    let p = if_ok_else (is_crooked left before one) _ _ cells h in
    let r = row_by items row left (one.column + one.columns) nodes (before ++ one ∷ []) cells p.1 in (
      one ∷ r.0,
      r.1 ∙ append_assoc before (one ∷ []) r.0,
      (refl, r.2),
      (refl, refl, refl, r.3),
      (free_right before row end (sum_by (λ (c : GridCell). c.columns) before), r.4),
    )

rows_by : (items : List PlainItem) (rows : List TableRow) (index : ℕ) (before cells : List GridCell) → with_rows items index rows (Ok before) ≡ Ok cells →
    (later : List GridCell) × (cells ≡ before ++ later) × ByRows items index rows later
rows_by items [] index before cells h = let e : before ≡ cells = cc in ([], sym e ∙ sym (append-nil before), refl)
rows_by items (row ∷ rows) index before cells h =
    by (with_row items index row.left 0 (row_cells items row.at) before) refl h (λ some g. rows_by items rows (suc index) some cells g)
  where
    by : (o : Result (List GridCell) TableCause) → with_row items index row.left 0 (row_cells items row.at) before ≡ o →
        with_rows items (suc index) rows o ≡ Ok cells →
        ((some : List GridCell) → with_rows items (suc index) rows (Ok some) ≡ Ok cells → (later : List GridCell) ×
        (cells ≡ some ++ later) × ByRows items (suc index) rows later) →
        (later : List GridCell) × (cells ≡ before ++ later) × ByRows items index (row ∷ rows) later
    by (Err e) g h next = cc
    by (Ok some) g h next =
        let a = row_by items index row.left 0 (row_cells items row.at) before some g in
        let b = next some h in
        (a.0 ++ b.0, b.1 ∙ ap (λ v. v ++ b.0) a.1 ∙ append_assoc before a.0 b.0, (a.0, b.0, refl, a.2, a.3, b.2, a.4))

pub grid_by_rows : (items : List PlainItem) (at : ℕ) (g : Grid) → grid items at ≡ Ok g → ByRows items 0 (table_rows items at) g.cells
grid_by_rows items at g h = choose (passes (is_opening_of Table) (slice_get items at)) h
  where
    rows : List TableRow
    rows = table_rows items at

    by : (r : Result (List GridCell) TableCause) → with_rows items 0 rows (Ok []) ≡ r → grid_with (length rows) r ≡ Ok g → ByRows items 0 rows g.cells
    by (Err e) w h = cc
    by (Ok cells) w h =
        let e : record { rows = length rows; columns = right_end cells; cells = cells } ≡ g = cc in
        let p = rows_by items rows 0 [] cells w in
        subst (λ (v : Grid). ByRows items 0 rows v.cells) e (subst (ByRows items 0 rows) (sym p.1) p.2)

    choose : (b : Bool) → (if b then grid_with (length rows) (with_rows items 0 rows (Ok [])) else Err (NotTable at)) ≡ Ok g → ByRows items 0 rows g.cells
    choose false h = cc
    choose true h = by (with_rows items 0 rows (Ok [])) refl h

pairs_insides : (items : List PlainItem) (cells : List GridCell) (nodes : List Open) → Pairs items cells nodes →
    cell_insides items cells ≡ flat_map (λ (n : Open). inside items n.from ∷ []) nodes
pairs_insides items [] [] p = refl
pairs_insides items [] (n ∷ nodes) p = absurd p
pairs_insides items (c ∷ cells) [] p = absurd p
pairs_insides items (c ∷ cells) (n ∷ nodes) p = (λ i. inside items (p.0 i) ∷ pairs_insides items cells nodes p.3 i)

rows_insides : (items : List PlainItem) (rows : List TableRow) (index : ℕ) (cells : List GridCell) → ByRows items index rows cells →
    cell_insides items cells ≡ flat_map (λ (r : TableRow). row_insides items r.at) rows
rows_insides items [] index cells b = ap (cell_insides items) b
rows_insides items (r ∷ rows) index cells b =
    ap (cell_insides items) b.2
    ∙ map-append (λ (c : GridCell). inside items c.at) b.0 b.1
    ∙ (λ i. pairs_insides items b.0 (row_cells items r.at) b.4 i ++ rows_insides items rows (suc index) b.1 b.5 i)

-- A list has a grid of filled cells where it has their rectangles and what stands in them.
pub filled_is : (items : List PlainItem) (at : ℕ) (l : Layout) (cells : List FilledCell) → laid_out (grid items at) ≡ Ok l →
    l.rectangles ≡ rectangles_of cells → insides items at ≡ insides_of cells → filled_at items at ≡ Ok cells
filled_is items at l cells laid e f = by (grid items at) refl laid
  where
    rectangles_are : (found : List GridCell) → rectangles_of
        (map (λ (c : GridCell). record { rectangle = rectangle_of c; inside = inside items c.at }) found) ≡ map rectangle_of found
    rectangles_are [] = refl
    rectangles_are (c ∷ found) = ap (λ v. rectangle_of c ∷ v) (rectangles_are found)

    insides_are : (found : List GridCell) → insides_of (map (λ (c : GridCell). record { rectangle = rectangle_of c; inside = inside items c.at }) found)
        ≡ cell_insides items found
    insides_are [] = refl
    insides_are (c ∷ found) = ap (λ v. inside items c.at ∷ v) (insides_are found)

    by : (r : Result Grid TableCause) → grid items at ≡ r → laid_out r ≡ Ok l → filled_grid items r ≡ Ok cells
    by (Err fault) g h = cc
    by (Ok v) g h =
        let own : layout_of v ≡ l = cc in
        let same : map rectangle_of v.cells ≡ l.rectangles = ap (λ (w : Layout). w.rectangles) own in
        let read = rows_insides items (table_rows items at) 0 v.cells (grid_by_rows items at v g) in
        ap Ok (filled_alike (filled_cells items v) cells (rectangles_are v.cells ∙ same ∙ e) (insides_are v.cells ∙ read ∙ f))

-- where some of the cells go
pub rectangles_left : (items : List PlainItem) (f : Rectangle → Option Rectangle) (cells : List GridCell) →
    filter_map f (map rectangle_of cells) ≡ rectangles_of
    (filter_map (at_rest f) (map (λ (c : GridCell). record { rectangle = rectangle_of c; inside = inside items c.at }) cells))
rectangles_left items f [] = refl
rectangles_left items f (c ∷ cells) = by (f (rectangle_of c)) (rectangles_left items f cells)
  where
    rest : List FilledCell
    rest = filter_map (at_rest f) (map (λ (d : GridCell). record { rectangle = rectangle_of d; inside = inside items d.at }) cells)

    by : (o : Option Rectangle) → filter_map f (map rectangle_of cells) ≡ rectangles_of rest →
        cons_option o (filter_map f (map rectangle_of cells)) ≡ rectangles_of
        (cons_option (option_map (λ (r : Rectangle). record { rectangle = r; inside = inside items c.at }) o) rest)
    by None e = e
    by (Some r) e = ap (λ v. r ∷ v) e

-- what stands in a cell, where something of its rectangle is left
abbrev pub inside_if : List PlainItem → GridCell → Option Rectangle → Option (List PlainItem)
inside_if items c None = None
inside_if items c (Some r) = Some (inside items c.at)

pub insides_left : (items : List PlainItem) (f : Rectangle → Option Rectangle) (cells : List GridCell) →
    insides_of (filter_map (at_rest f) (map (λ (c : GridCell). record { rectangle = rectangle_of c; inside = inside items c.at }) cells))
    ≡ filter_map (λ (c : GridCell). inside_if items c (f (rectangle_of c))) cells
insides_left items f [] = refl
insides_left items f (c ∷ cells) = by (f (rectangle_of c)) (insides_left items f cells)
  where
    rest : List FilledCell
    rest = filter_map (at_rest f) (map (λ (d : GridCell). record { rectangle = rectangle_of d; inside = inside items d.at }) cells)

    by : (o : Option Rectangle) → insides_of rest ≡ filter_map (λ (d : GridCell). inside_if items d (f (rectangle_of d))) cells →
        insides_of (cons_option (option_map (λ (r : Rectangle). record { rectangle = r; inside = inside items c.at }) o) rest)
        ≡ cons_option (inside_if items c o) (filter_map (λ (d : GridCell). inside_if items d (f (rectangle_of d))) cells)
    by None e = e
    by (Some r) e = ap (λ v. inside items c.at ∷ v) e
