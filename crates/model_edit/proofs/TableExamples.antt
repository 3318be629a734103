-- Grids of worked tables, and rows and columns put in and taken out.
use Rattle.std.proofs.Common.{◌≡◌, ℕ, List, [], ◌∷◌, ◌++◌, Option, Some, None, refl}
use Rattle.std.specs.Prelude.{codes, Ok, Err, Result}
use Rattle.std.specs.Fmt.{digits}
use Rattle.ve_kinds.specs.declared.kind.Kind.TheVariants.{P, Table, Thead, Tbody, Tr, Td}
use Rattle.model_items.specs.declared.plain_item.PlainItem.{PlainItem}
use Rattle.model_change.specs.Transaction.{Transaction}
use Rattle.model_edit.specs.declared.grid_cell.GridCell.{GridCell}
use Rattle.model_edit.specs.Causes.{TableCause, NotTable, Crooked, BadRow, Spanned}
use Rattle.model_edit.specs.Grid.{Grid, grid}
use Rattle.model_edit.specs.Layout.{Layout, layout_of, row_in_layout, col_in_layout, row_out_layout, col_out_layout}
use Rattle.model_edit.specs.Tables.{row_in, col_in, row_out, col_out}
use Rattle.model_items.proofs.ExampleItems.{c, with_attrs, attr, text, node, internal}
use Rattle.model_edit.proofs.ExampleItems.{list_after}

abbrev cell : List ℕ → List PlainItem
cell cs = node Td (node P (text cs))

abbrev tall : List ℕ → List ℕ → List PlainItem
tall rows cs = with_attrs Td (attr (codes "rowspan") rows ∷ []) ∷ node P (text cs) ++ c Td ∷ []

abbrev wide : List ℕ → List ℕ → List PlainItem
wide columns cs = with_attrs Td (attr (codes "colspan") columns ∷ []) ∷ node P (text cs) ++ c Td ∷ []

abbrev table : List PlainItem → List PlainItem
table rows = node Table (node Tbody rows) ++ internal

abbrev at_ : ℕ → ℕ → ℕ → ℕ → ℕ → GridCell
at_ at row column rows columns = record { at = at; row = row; column = column; rows = rows; columns = columns }

-- two cells in one row
abbrev one_row : List PlainItem
one_row = table (node Tr (cell (codes "a") ++ cell (codes "b")))

one_row_grid : grid one_row 0 ≡ Ok (record { rows = 1; columns = 2; cells = at_ 3 0 0 1 1 ∷ at_ 8 0 1 1 1 ∷ [] })
one_row_grid = refl

row_added : list_after one_row (row_in one_row 0 1) ≡ Some (table (node Tr (cell (codes "a") ++ cell (codes "b")) ++ node Tr (cell [] ++ cell [])))
row_added = refl

not_table : grid one_row 1 ≡ Err (NotTable 1)
not_table = refl

-- a cell that is two rows high
abbrev spanned : List PlainItem
spanned = table (node Tr (tall (codes "2") (codes "a") ++ cell (codes "b")) ++ node Tr (cell (codes "c")))

spanned_grid : grid spanned 0 ≡ Ok (record { rows = 2; columns = 2; cells = at_ 3 0 0 2 1 ∷ at_ 8 0 1 1 1 ∷ at_ 15 1 1 1 1 ∷ [] })
spanned_grid = refl

abbrev grown : List PlainItem
grown = table (node Tr (tall (codes "3") (codes "a") ++ cell (codes "b")) ++ (node Tr (cell []) ++ node Tr (cell (codes "c"))))

span_grows : list_after spanned (row_in spanned 0 1) ≡ Some grown
unfolding digits
span_grows = refl

begins_there : row_out grown 0 0 ≡ Err (Spanned 3)
begins_there = refl

row_gone : list_after grown (row_out grown 0 1) ≡ Some spanned
unfolding digits
row_gone = refl

no_such_row : row_in spanned 0 5 ≡ Err (BadRow 5 2)
no_such_row = refl

abbrev one_column : List PlainItem
one_column = table (node Tr (cell (codes "b")) ++ node Tr (cell (codes "c")))

column_gone : list_after spanned (col_out spanned 0 0) ≡ Some one_column
column_gone = refl

column_added : list_after one_column (col_in one_column 0 1) ≡ Some (table (node Tr (cell (codes "b") ++ cell []) ++ node Tr (cell (codes "c") ++ cell [])))
column_added = refl

crooked : grid (table (node Tr (tall (codes "2") (codes "a")))) 0 ≡ Err (Crooked 3)
crooked = refl

-- the grids after the changes are the layouts that are to come
abbrev layout : Result Grid TableCause → Option Layout
layout (Ok g) = Some (layout_of g)
layout (Err fault) = None

abbrev layout_with : (Layout → ℕ → Layout) → ℕ → Option Layout → Option Layout
layout_with f n (Some g) = Some (f g n)
layout_with f n None = None

abbrev grid_after : List PlainItem → Result Transaction TableCause → Option Layout
grid_after items t = read (list_after items t)
  where
    read : Option (List PlainItem) → Option Layout
    read (Some new) = layout (grid new 0)
    read None = None

-- spans both ways, a head section, and a row that is short
abbrev spans : List PlainItem
spans =
    node Table
    (node Thead (node Tr (wide (codes "2") (codes "a") ++ cell (codes "b")))
    ++ node Tbody
    (node Tr (tall (codes "2") (codes "c") ++ wide (codes "2") (codes "d"))
    ++ node Tr (cell (codes "e") ++ cell (codes "f"))))
    ++ internal

spans_grid : layout (grid spans 0)
    ≡ Some (record {
      rows = 3;
      columns = 3;
      rectangles =
          record { row = 0; column = 0; rows = 1; columns = 2 } ∷ record { row = 0; column = 2; rows = 1; columns = 1 }
          ∷ record { row = 1; column = 0; rows = 2; columns = 1 } ∷ record { row = 1; column = 1; rows = 1; columns = 2 }
          ∷ record { row = 2; column = 1; rows = 1; columns = 1 } ∷ record { row = 2; column = 2; rows = 1; columns = 1 } ∷ [];
    })
spans_grid = refl

spans_row_in : grid_after spans (row_in spans 0 2) ≡ layout_with row_in_layout 2 (layout (grid spans 0))
unfolding digits
spans_row_in = refl

spans_row_last : grid_after spans (row_in spans 0 3) ≡ layout_with row_in_layout 3 (layout (grid spans 0))
spans_row_last = refl

spans_col_in : grid_after spans (col_in spans 0 2) ≡ layout_with col_in_layout 2 (layout (grid spans 0))
unfolding digits
spans_col_in = refl

spans_col_first : grid_after spans (col_in spans 0 0) ≡ layout_with col_in_layout 0 (layout (grid spans 0))
spans_col_first = refl

spans_row_out : grid_after spans (row_out spans 0 2) ≡ layout_with row_out_layout 2 (layout (grid spans 0))
unfolding digits
spans_row_out = refl

spans_col_out : grid_after spans (col_out spans 0 1) ≡ layout_with col_out_layout 1 (layout (grid spans 0))
unfolding digits
spans_col_out = refl
