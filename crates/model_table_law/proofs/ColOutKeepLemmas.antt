-- The insides of the cells after a column is taken out.
use Rattle.std.specs.Prelude.{filter, flat_map, filter_map}
use Rattle.std.specs.List.{cons_option}
use Rattle.std.proofs.Common.{◌≡◌, ℕ, ◌-◌, ◌==◌, Bool, true, false, if◌then◌else◌, nat_le, nat_lt, List, [], ◌∷◌, ◌++◌, map, Option, Some, None, Result, Ok, refl, sym, ap, ◌∙◌, arith}
use Rattle.std.proofs.lemmas.Bool.{and_parts, leb-true, ltb-true}
use Rattle.ve_kinds.specs.declared.kind.Kind.{Kind}
use Rattle.ve_kinds.specs.Table.{is_among}
use Rattle.model_items.specs.declared.plain_item.PlainItem.{PlainItem}
use Rattle.model_items.specs.Law.{Lawful}
use Rattle.model_change.specs.Transaction.{Transaction, edited}
use Rattle.model_edit.specs.Edits.{Edit, transaction_of}
use Rattle.model_edit.specs.declared.grid_cell.GridCell.{GridCell}
use Rattle.model_edit.specs.Causes.{TableCause}
use Rattle.model_edit.specs.Grid.{Grid, grid, table_rows, covers_column}
use Rattle.model_edit.specs.Layout.{layout_of, without_column, col_out_layout}
use Rattle.model_edit.specs.Tables.{on_grid, whole_node, set_columns, cell_removed}
use Rattle.model_edit_law.specs.Spans.{rectangle_of}
use Rattle.model_edit_law.proofs.TablePlaceLemmas.{Opens, cell_kinds, grid_stands}
use Rattle.model_edit_law.proofs.TableFineLemmas.{fault_or_is}
use Rattle.model_edit_law.proofs.ColOutGridLemmas.{col_out_grid}
use Rattle.model_table_law.specs.Cells.{inside, filled_cells, at_rest}
use Rattle.model_table_law.specs.Insides.{ColOutKeeps}
use Rattle.model_table_law.proofs.ReadLemmas.{InRow, insides}
use Rattle.model_table_law.proofs.PieceLemmas.{Turned}
use Rattle.model_table_law.proofs.NodeTurnLemmas.{piece}
use Rattle.model_table_law.proofs.TableTurnLemmas.{insides_after}
use Rattle.model_table_law.proofs.FilledLemmas.{inside_if, insides_of, grid_by_rows, filled_is, rectangles_left, insides_left}
use Rattle.model_table_law.proofs.RowsTurnLemmas.{picked, cell_kept, cell_set, node_gone, rows_turned}

-- what a call does with the grid that there is
pub on_given : (r : Result Grid TableCause) (f : Grid → Result Transaction TableCause) (g : Grid) (t : Transaction) → r ≡ Ok g → on_grid r f ≡ Ok t → f g ≡ Ok t
on_given r f g t e h = ap (λ v. on_grid v f) (sym e) ∙ h

abbrev listed : Option (List PlainItem) → List (List PlainItem)
listed None = []
listed (Some x) = x ∷ []

listed_each : (f : GridCell → Option (List PlainItem)) (cells : List GridCell) → flat_map (λ (c : GridCell). listed (f c)) cells ≡ filter_map f cells
listed_each f [] = refl
listed_each f (c ∷ cells) = by (f c) (listed_each f cells)
  where
    by : (o : Option (List PlainItem)) → flat_map (λ (d : GridCell). listed (f d)) cells ≡ filter_map f cells →
        listed o ++ flat_map (λ (d : GridCell). listed (f d)) cells ≡ cons_option o (filter_map f cells)
    by None e = e
    by (Some x) e = ap (λ v. x ∷ v) e

module _ (items : List PlainItem) (lawful : Lawful items) (column : ℕ) where
  abbrev covers : GridCell → Bool
  covers c = covers_column c column

  abbrev own : GridCell → List Edit
  own c = if covers c then cell_removed items c ∷ [] else []

  -- a cell of the column alone goes
  abbrev left : GridCell → Option (List PlainItem)
  left c = if covers c then (if c.columns == 1 then None else Some (inside items c.at)) else Some (inside items c.at)

  left_is : (c : GridCell) → inside_if items c (without_column column (rectangle_of c)) ≡ left c
  left_is c = by (nat_lt column c.column) (covers c) (c.columns == 1) refl refl
    where
      by : (a u v : Bool) → nat_lt column c.column ≡ a → covers c ≡ u →
          inside_if items c (if a then Some (record (rectangle_of c) { column = c.column - 1 }) else
          (if u then (if v then None else Some (record (rectangle_of c) { columns = c.columns - 1 })) else Some (rectangle_of c)))
          ≡ (if u then (if v then None else Some (inside items c.at)) else Some (inside items c.at))
      by true true v e f =
          let less = ltb-true column c.column e in
          let more = leb-true c.column column (and_parts (nat_le c.column column) _ f).0 in
          absurd (omega arith)
      by true false v e f = refl
      by false true true e f = refl
      by false true false e f = refl
      by false false v e f = refl

  each : (c : GridCell) (kind : Kind) → is_among cell_kinds kind ≡ true → Opens items kind c.at →
      Turned InRow InRow c.at (piece items c.at) (own c) (listed (left c))
  each c kind t o = by (covers c) (c.columns == 1)
    where
      by : (u v : Bool) → Turned InRow InRow c.at (piece items c.at) (if u then (if v then whole_node items c.at else set_columns (c.columns - 1) c) ∷ [] else [])
          (listed (if u then (if v then None else Some (inside items c.at)) else Some (inside items c.at)))
      by true true = node_gone items lawful InRow kind c.at o
      by true false = cell_set items lawful kind c.at _ _ t o
      by false v = cell_kept items lawful kind c.at t o

  pub insides_narrow : (at : ℕ) (g : Grid) → grid items at ≡ Ok g →
      insides (edited (transaction_of items (map (cell_removed items) (filter covers g.cells))) items) at ≡ insides_of
      (filter_map (at_rest (without_column column)) (filled_cells items g))
  insides_narrow at g given =
      let s = grid_stands items at g lawful given in
      let all = rows_turned items lawful own (λ (c : GridCell). listed (left c)) each (table_rows items at) 0 _ _ g.cells s.rows (grid_by_rows items at g given) in
      ap (λ v. insides (edited (transaction_of items v) items) at) (picked covers (cell_removed items) g.cells)
      ∙ insides_after items at lawful s.table (flat_map own g.cells) (flat_map (λ (c : GridCell). listed (left c)) g.cells) all
      ∙ listed_each left g.cells
      ∙ same g.cells
      ∙ sym (insides_left items (without_column column) g.cells)
    where
      same : (cells : List GridCell) → filter_map left cells ≡ filter_map (λ (c : GridCell). inside_if items c (without_column column (rectangle_of c))) cells
      same [] = refl
      same (c ∷ cells) = (λ i. cons_option (sym (left_is c) i) (same cells i))

pub col_out_keeps : ColOutKeeps
col_out_keeps items at column t g lawful given h =
    let made = fault_or_is _ (transaction_of items (map (cell_removed items) (filter (λ (c : GridCell). covers_column c column) g.cells))) t
    (on_given (grid items at) _ g t given h) in
    filled_is (edited t items) at (col_out_layout (layout_of g) column) (filter_map (at_rest (without_column column)) (filled_cells items g))
    (col_out_grid items at column t g lawful given h)
    (rectangles_left items (without_column column) g.cells)
    (ap (λ v. insides (edited v items) at) (sym made) ∙ insides_narrow items lawful column at g given)
