-- Nodes just inside another, by their positions; the rows of a table, and the cells of a row placed
-- after those before it.
use Rattle.std.specs.Prelude.{◌≡◌, ℕ, suc, if◌then◌else◌, List, [], ◌∷◌, map, length, Result, Ok}
use Rattle.ve_base.specs.declared.attrs.Attr.{Attr}
use Rattle.ve_kinds.specs.declared.kind.Kind.{Kind}
use Rattle.ve_kinds.specs.declared.kind.Kind.TheVariants.{Td}
use Rattle.ve_kinds.specs.Table.{is_among}
use Rattle.model_items.specs.declared.plain_item.PlainItem.{PlainItem}
use Rattle.model_items.specs.declared.plain_item.PlainItem.TheVariants.{Opening}
use Rattle.model_items.specs.Tree.{Open}
use Rattle.model_edit.specs.declared.grid_cell.GridCell.{GridCell}
use Rattle.model_edit.specs.Causes.{TableCause}
use Rattle.model_edit.specs.Grid as model
use Rattle.ve_tables.specs.Placed.{Placed}
use Rattle.ve_tables.specs.declared.rows.TableRow.{TableRow}

-- the position of an item that opens a node of one of these kinds
abbrev pub place_if_among : List Kind → ℕ → PlainItem → List ℕ
place_if_among kinds place (Opening kind head marks pre origin generated) = if is_among kinds kind then place ∷ [] else []
place_if_among kinds place _ = []

abbrev pub places_of : List Open → List ℕ
places_of nodes = map (λ (node : Open). node.from) nodes

abbrev pub child_places : List Kind → List PlainItem → ℕ → List ℕ
child_places kinds items at = places_of (model.children_of kinds items at)

abbrev pub row_of : TableRow → model.TableRow
row_of row = record { at = row.at; left = row.left }

-- the rows of a section that open at these positions
abbrev pub rows_at : List ℕ → List model.TableRow
rows_at [] = []
rows_at (at ∷ later) = record { at = at; left = suc (length later) } ∷ rows_at later

abbrev pub attrs_in : PlainItem → List Attr
attrs_in (Opening kind head marks pre origin generated) = head.attrs
attrs_in _ = []

-- a cell as an open node: only its position is read
abbrev pub cell_open : ℕ → Open
cell_open at = record { kind = Td; from = at }

-- the cells that the model has after those at these positions are placed in the row
abbrev pub row_placed : List PlainItem → Placed → List ℕ → Result (List GridCell) TableCause
row_placed items p cells = model.with_row items p.row p.left p.end (map cell_open cells) p.cells

-- The cells that are meant are placed, in the same row.
pub record IsPlacedAs (meant : Result (List GridCell) TableCause) (row : ℕ) (new : Placed) : Type 0 where
  pub means : meant ≡ Ok new.cells
  pub same : new.row ≡ row

abbrev pub HasPlaced : List PlainItem → Placed → List ℕ → Placed → Type 0
HasPlaced items old cells new = IsPlacedAs (row_placed items old cells) old.row new

-- So are the cells of the row that opens at a position.
abbrev pub row_after : List PlainItem → Placed → ℕ → Result (List GridCell) TableCause
row_after items p at = model.with_row items p.row p.left p.end (model.row_cells items at) p.cells

abbrev pub HasRow : List PlainItem → Placed → ℕ → Placed → Type 0
HasRow items old at new = IsPlacedAs (row_after items old at) old.row new

-- the cells of rows are placed after others, the first row of them being `row`
abbrev pub rows_after : List PlainItem → ℕ → List TableRow → List GridCell → Result (List GridCell) TableCause
rows_after items row rows cells = model.with_rows items row (map row_of rows) (Ok cells)
