-- How far the edits of a change are collected.
use Rattle.std.specs.Prelude.{◌≡◌, ℕ, suc, ◌-◌, Bool, false, if◌then◌else◌, List, [], ◌∷◌, ◌++◌, length, filter, flat_map, map, slice_get, Ok, All}
use Rattle.std.specs.List.{enumerate_from}
use Rattle.ve_base.specs.declared.value.Value.{Value}
use Rattle.model_items.specs.declared.item.Item.{Item}
use Rattle.model_items.specs.declared.plain_item.PlainItem.{PlainItem}
use Rattle.model_edit.specs.declared.grid_cell.GridCell.{GridCell}
use Rattle.model_edit.specs.Edits.{Edit, Change, InOrder, transaction_of}
use Rattle.model_edit.specs.Grid as model
use Rattle.model_edit.specs.Grid.{Grid, covers_column}
use Rattle.model_edit.specs.Tables.{set_rows, set_columns, spans_row, spans_column, row_in_edits, row_removed, cell_removed, cell_place, column_edits, new_cell}
use Rattle.ve_offsets.specs.declared.doc.Doc.{Doc}
use Rattle.ve_offsets.specs.Docs.{page_items}
use Rattle.ve_tx.specs.Operation.{Operation, by_value}
use Rattle.ve_edits.specs.Collected.{Collected, Makes}
use Rattle.ve_tables.specs.declared.table.LaidTable.{LaidTable}
use Rattle.ve_tables.specs.Rows.{row_of}

-- The table is one of the items, with its rows and its grid.
pub record IsLaid (items : List PlainItem) (table : LaidTable) : Type 0 where
  pub at : ℕ
  pub grid : model.grid items at ≡ Ok table.grid
  pub rows : map row_of table.rows ≡ model.table_rows items at

-- These edits are collected next, at positions that rise where those of the edits do.
pub record Collects (store : List Value) (items : List Item) (edits : List Edit) (old new : Collected) : Type 0 where
  pub makes : (done : List Edit) → Makes store items done old → Makes store items (done ++ edits) new
  pub order : (later : List Edit) → InOrder old.at (length items) (edits ++ later) → InOrder new.at (length items) later

abbrev pub CollectsIn : Doc → List Edit → Collected → Collected → Type 0
CollectsIn doc = Collects doc.store.now doc.list.now.items

-- Of these edits some are collected, and others are left.
pub record IsPartWay (store : List Value) (items : List Item) (all left : List Edit) (old new : Collected) : Type 0 where
  pub done : List Edit
  pub whole : done ++ left ≡ all
  pub collects : Collects store items done old new

-- it holds of none of the cells
abbrev pub AreNone : (GridCell → Bool) → List GridCell → Type 0
AreNone test cells = All (λ (c : GridCell). test c ≡ false) cells

-- ---- the edits of each call

-- the cells that span into a row grow, or shrink
abbrev pub grown_rows : ℕ → List GridCell → List Edit
grown_rows row cells = map (λ (c : GridCell). set_rows (suc c.rows) c) (filter (spans_row row) cells)

abbrev pub shrunk_rows : ℕ → List GridCell → List Edit
shrunk_rows row cells = map (λ (c : GridCell). set_rows (c.rows - 1) c) (filter (spans_row row) cells)

abbrev pub row_out_edits : List PlainItem → List model.TableRow → ℕ → Grid → List Edit
row_out_edits items rows row g = shrunk_rows row g.cells ++ row_removed items (slice_get rows row)

-- the cells that span into a column grow
abbrev pub grown_columns : ℕ → List GridCell → List Edit
grown_columns column cells = map (λ (c : GridCell). set_columns (suc c.columns) c) (filter (spans_column column) cells)

-- in a row that has these cells they grow, and a new one comes where none grows into it
abbrev pub row_widened : List PlainItem → model.TableRow → ℕ → List GridCell → Bool → List Edit
row_widened items row column cells grown =
    grown_columns column cells ++ (if grown then [] else Change (cell_place items row column cells) 0 new_cell ∷ [])

abbrev pub col_in_edits : List PlainItem → List model.TableRow → ℕ → Grid → List Edit
col_in_edits items rows column g = flat_map (column_edits items column g) (enumerate_from 0 rows)

abbrev pub columns_removed : List PlainItem → ℕ → List GridCell → List Edit
columns_removed items column cells = map (cell_removed items) (filter (λ (c : GridCell). covers_column c column) cells)

-- ---- what the calls that make a change are asked and give, where its edits are these of the
-- page's items

abbrev pub MayMake : Doc → (List PlainItem → List Edit) → Type 0
MayMake doc edits = InOrder 0 (length doc.list.now.items) (edits (page_items doc))

abbrev pub MakesEdits : Doc → (List PlainItem → List Edit) → List Operation → Type 0
MakesEdits doc edits tx = by_value doc.store.now tx ≡ transaction_of (page_items doc) (edits (page_items doc))

abbrev pub row_put : LaidTable → ℕ → List PlainItem → List Edit
row_put table row items = row_in_edits items (map row_of table.rows) row table.grid

abbrev pub row_taken : LaidTable → ℕ → List PlainItem → List Edit
row_taken table row items = row_out_edits items (map row_of table.rows) row table.grid

abbrev pub column_put : LaidTable → ℕ → List PlainItem → List Edit
column_put table column items = col_in_edits items (map row_of table.rows) column table.grid

abbrev pub column_taken : LaidTable → ℕ → List PlainItem → List Edit
column_taken table column items = columns_removed items column table.grid.cells
