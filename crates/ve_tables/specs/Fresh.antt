-- The new cells of a row, and the columns in which there are none.
use Rattle.std.specs.Prelude.{◌≡◌, ℕ, ◌<◌, Bool, false, ◌&&◌, ◌||◌, if◌then◌else◌, List, [], ◌++◌, length, get_or, flat_map, All}
use Rattle.std.specs.List.{list_any}
use Rattle.ve_base.specs.declared.value.Value.{Value}
use Rattle.model_items.specs.declared.item.Item.{Item}
use Rattle.model_items.specs.declared.plain_item.PlainItem.{PlainItem}
use Rattle.model_items.specs.Plain.{plain_list, CitesWell}
use Rattle.model_edit.specs.declared.grid_cell.GridCell.{GridCell}
use Rattle.model_edit.specs.Grid.{Grid, covers_column}
use Rattle.model_edit.specs.Tables.{spans_row, new_cell}

-- The columns that the cell covers are marked, and the others as before.
pub record AreMarked (cell : GridCell) (old new : List Bool) : Type 0 where
  pub long : length new ≡ length old
  pub each : (k : ℕ) → k < length old → get_or new k false ≡ (get_or old k false || covers_column cell k)

-- a cell that spans into the row covers the column
abbrev pub is_taken : ℕ → List GridCell → ℕ → Bool
is_taken row cells column = list_any (λ (c : GridCell). spans_row row c && covers_column c column) cells

-- for each column of the grid whether one does
pub record AreTaken (row : ℕ) (g : Grid) (taken : List Bool) : Type 0 where
  pub long : length taken ≡ g.columns
  pub each : (k : ℕ) → k < g.columns → get_or taken k false ≡ is_taken row g.cells k

-- a new cell for each column that isn't taken comes after items
abbrev pub cells_for : List Bool → List PlainItem
cells_for taken = flat_map (λ (t : Bool). if t then [] else new_cell) taken

pub record AreCellsPut (old : List Item) (taken : List Bool) (new : List Item) : Type 0 where
  pub means : (values : List Value) → plain_list values new ≡ plain_list values old ++ cells_for taken
  pub cites : (values : List Value) → All (CitesWell values) old → All (CitesWell values) new
