-- The cells of a table with what stands in them.
use Rattle.std.specs.Prelude.{ℕ, suc, ◌-◌, List, [], ◌∷◌, map, take, drop, Option, option_map, Result, Ok, Err}
use Rattle.ve_kinds.specs.declared.kind.Kind.TheVariants.{P}
use Rattle.model_items.specs.declared.plain_item.PlainItem.{PlainItem}
use Rattle.model_items.specs.Offsets.{partner}
use Rattle.model_edit.specs.Brackets.{opening_of, closing_of}
use Rattle.model_edit.specs.declared.grid_cell.GridCell.{GridCell}
use Rattle.model_edit.specs.Causes.{TableCause}
use Rattle.model_edit.specs.Grid.{Grid, grid}
use Rattle.model_edit.specs.Layout.{Rectangle}
use Rattle.model_edit_law.specs.Spans.{rectangle_of}

-- the items between the brackets of the node that begins at a position
abbrev pub inside : List PlainItem → ℕ → List PlainItem
inside items at = take (partner items at - suc at) (drop (suc at) items)

pub record FilledCell : Type 0 where
  pub rectangle : Rectangle
  pub inside : List PlainItem

abbrev pub filled_cells : List PlainItem → Grid → List FilledCell
filled_cells items g = map (λ (c : GridCell). record { rectangle = rectangle_of c; inside = inside items c.at }) g.cells

abbrev pub filled_grid : List PlainItem → Result Grid TableCause → Result (List FilledCell) TableCause
filled_grid items (Err fault) = Err fault
filled_grid items (Ok g) = Ok (filled_cells items g)

-- the cells of the table that begins at a position, if it has a grid
abbrev pub filled_at : List PlainItem → ℕ → Result (List FilledCell) TableCause
filled_at items at = filled_grid items (grid items at)

-- the cell at another rectangle, and the cell at what is left of its rectangle, if anything is
abbrev pub at_rectangle : (Rectangle → Rectangle) → FilledCell → FilledCell
at_rectangle f c = record c { rectangle = f c.rectangle }

abbrev pub at_rest : (Rectangle → Option Rectangle) → FilledCell → Option FilledCell
at_rest f c = option_map (λ (r : Rectangle). record { rectangle = r; inside = c.inside }) (f c.rectangle)

-- an empty paragraph at a rectangle
abbrev pub new_filled : Rectangle → FilledCell
new_filled r = record { rectangle = r; inside = opening_of P [] ∷ closing_of P ∷ [] }
