-- Where the rows and cells of a table stand, and that the edits of each call come at rising
-- positions.
use Rattle.std.specs.Prelude.{All, filter, slice_get}
use Rattle.std.proofs.Common.{◌≡◌, ℕ, suc, ◌+◌, ◌<◌, ◌≤◌, List, [], ◌∷◌, length, map, Some, refl, sym, ap, ◌∙◌, subst, arith}
use Rattle.std.proofs.lemmas.List.{length-map}
use Rattle.std.proofs.lemmas.List.Elements.{All-nil, All-cons, All-head, All-tail}
use Rattle.ve_kinds.specs.declared.kind.Kind.{Kind}
use Rattle.ve_kinds.specs.declared.kind.Kind.TheVariants.{Tr}
use Rattle.model_items.specs.declared.plain_item.PlainItem.{PlainItem}
use Rattle.model_items.specs.Law.{Lawful}
use Rattle.model_items.specs.Offsets.{partner, end_of_node}
use Rattle.model_edit.specs.declared.grid_cell.GridCell.{GridCell}
use Rattle.model_edit.specs.Edits.{InOrder}
use Rattle.model_edit.specs.Grid as model
use Rattle.model_edit.specs.Grid.{covers_column}
use Rattle.model_edit.specs.Tables.{row_in_edits}
use Rattle.model_edit_law.proofs.TablePlaceLemmas.{Chain, Chain-ends, Chain-filter, row_at, cell_kinds, cell_at, Standing, grid_stands}
use Rattle.model_edit_law.proofs.TableFineLemmas.{InOrder-within, row_in_order, row_out_order, col_out_order, all_row_edits}
use Rattle.ve_tables.specs.declared.rows.TableRow.{TableRow}
use Rattle.ve_tables.specs.declared.table.LaidTable.{LaidTable}
use Rattle.ve_tables.specs.PartWay.{IsLaid, row_out_edits, col_in_edits, columns_removed}
use Rattle.ve_tables.specs.Rows.{row_of}

chain_inside : {A : Type 0} (f : A → ℕ) (items : List PlainItem) (kinds : List Kind) (low high n : ℕ) (xs : List A) → high ≤ n → Chain f items kinds low high xs → All (λ (x : A). f x < n) xs
chain_inside {A = A} f items kinds low high n [] h c = All-nil (λ (x : A). f x < n)
chain_inside {A = A} f items kinds low high n (x ∷ xs) h c =
    let ahead = (c.1.2).ahead in
    let far = Chain-ends f items kinds (end_of_node items (f x)) high xs c.2 in
    All-cons (λ (x : A). f x < n) x xs (omega arith) (chain_inside f items kinds (end_of_node items (f x)) high n xs h c.2)

chain_ahead : {A : Type 0} (f : A → ℕ) (items : List PlainItem) (kinds : List Kind) (low high : ℕ) (xs : List A) → Chain f items kinds low high xs → All (λ (x : A). f x ≤ end_of_node items (f x)) xs
chain_ahead {A = A} f items kinds low high [] c = All-nil (λ (x : A). f x ≤ end_of_node items (f x))
chain_ahead {A = A} f items kinds low high (x ∷ xs) c =
    let ahead = (c.1.2).ahead in
    All-cons (λ (x : A). f x ≤ end_of_node items (f x)) x xs (omega arith) (chain_ahead f items kinds (end_of_node items (f x)) high xs c.2)

-- of rows as the model has them
unmapped : (P : ℕ → Type 0) (rows : List TableRow) → All (λ (row : model.TableRow). P row.at) (map row_of rows) → All (λ (row : TableRow). P row.at) rows
unmapped P [] all = All-nil (λ (row : TableRow). P row.at)
unmapped P (row ∷ rows) all =
    let Q : model.TableRow → Type 0 = λ row. P row.at in
    All-cons (λ (row : TableRow). P row.at) row rows (All-head Q (row_of row) (map row_of rows) all) (unmapped P rows (All-tail Q (row_of row) (map row_of rows) all))

module _ (items : List PlainItem) (table : LaidTable) (lawful : Lawful items) (laid : IsLaid items table) where
  standing : Standing items laid.at table.grid
  standing = grid_stands items laid.at table.grid lawful laid.grid

  -- there are as many rows as the grid has
  pub row_count : table.grid.rows ≡ length table.rows
  row_count = standing.count ∙ ap (λ (rows : List model.TableRow). length rows) (sym laid.rows) ∙ length-map table.rows row_of

  pub rows_inside : All (λ (row : TableRow). row.at < length items) table.rows
  rows_inside =
      let within = (standing.table).within in
      let n : partner items laid.at ≤ length items = omega arith in
      let W : List model.TableRow → Type 0 = All (λ (row : model.TableRow). row.at < length items) in
      unmapped (λ at. at < length items) table.rows (subst W (sym laid.rows)
      (chain_inside row_at items (Tr ∷ []) (suc laid.at) (partner items laid.at) (length items) (model.table_rows items laid.at) n standing.rows))

  pub cells_inside : All (λ (cell : GridCell). cell.at < length items) table.grid.cells
  cells_inside =
      let within = (standing.table).within in
      let n : partner items laid.at ≤ length items = omega arith in
      chain_inside cell_at items cell_kinds (suc laid.at) (partner items laid.at) (length items) table.grid.cells n (standing.cells).chain

  pub rows_ahead : All (λ (row : TableRow). row.at ≤ end_of_node items row.at) table.rows
  rows_ahead =
      let W : List model.TableRow → Type 0 = All (λ (row : model.TableRow). row.at ≤ end_of_node items row.at) in
      unmapped (λ at. at ≤ end_of_node items at) table.rows (subst W (sym laid.rows)
      (chain_ahead row_at items (Tr ∷ []) (suc laid.at) (partner items laid.at) (model.table_rows items laid.at) standing.rows))

  pub cells_ahead : All (λ (cell : GridCell). cell.at ≤ end_of_node items cell.at) table.grid.cells
  cells_ahead = chain_ahead cell_at items cell_kinds (suc laid.at) (partner items laid.at) table.grid.cells (standing.cells).chain

  pub row_in_ordered : (row : ℕ) → InOrder 0 (length items) (row_in_edits items (map row_of table.rows) row table.grid)
  row_in_ordered row =
      let W : List model.TableRow → Type 0 = λ rows. InOrder 0 (length items) (row_in_edits items rows row table.grid) in
      subst W (sym laid.rows) (row_in_order items laid.at row table.grid standing)

  pub row_out_ordered : (row : ℕ) → InOrder 0 (length items) (row_out_edits items (map row_of table.rows) row table.grid)
  row_out_ordered row =
      let W : List model.TableRow → Type 0 = λ rows. InOrder 0 (length items) (row_out_edits items rows row table.grid) in
      subst W (sym laid.rows) (row_out_order items laid.at row table.grid standing (slice_get (model.table_rows items laid.at) row) refl)

  pub col_out_ordered : (column : ℕ) → InOrder 0 (length items) (columns_removed items column table.grid.cells)
  col_out_ordered column =
      let within = (standing.table).within in
      let test : GridCell → _ = λ c. covers_column c column in
      let chain = Chain-filter cell_at items cell_kinds test (suc laid.at) (partner items laid.at) table.grid.cells (standing.cells).chain in
      InOrder-within (suc laid.at) 0 (partner items laid.at) (length items) (columns_removed items column table.grid.cells) (omega arith) (omega arith)
      (col_out_order items (filter test table.grid.cells) (suc laid.at) (partner items laid.at) chain)

  pub col_in_ordered : (column : ℕ) → InOrder 0 (length items) (col_in_edits items (map row_of table.rows) column table.grid)
  col_in_ordered column =
      let within = (standing.table).within in
      let rows = model.table_rows items laid.at in
      let all = all_row_edits items laid.at column table.grid standing rows 0 (suc laid.at) (partner items laid.at)
      (λ n r e. let z : n ≡ 0 + n = omega arith in subst (λ m. slice_get rows m ≡ Some r) z e) standing.rows in
      let W : List model.TableRow → Type 0 = λ rows. InOrder 0 (length items) (col_in_edits items rows column table.grid) in
      subst W (sym laid.rows)
      (InOrder-within (suc laid.at) 0 (partner items laid.at) (length items) (col_in_edits items rows column table.grid) (omega arith) (omega arith) all.order)
