-- Grids of worked tables after a column is put in.
use Rattle.std.proofs.Common.{◌≡◌, ℕ, List, [], ◌∷◌, ◌++◌, refl}
use Rattle.std.specs.Prelude.{codes, Ok, Err, Result}
use Rattle.std.specs.Fmt.{digits}
use Rattle.ve_kinds.specs.declared.kind.Kind.TheVariants.{P, Table, Tbody, Tr, Td}
use Rattle.model_items.specs.declared.plain_item.PlainItem.{PlainItem}
use Rattle.model_change.specs.Transaction.{Transaction, edited}
use Rattle.model_edit.specs.Causes.{TableCause}
use Rattle.model_edit.specs.Grid.{Grid, grid}
use Rattle.model_edit.specs.Layout.{Rectangle, Layout, layout_of, col_in_layout}
use Rattle.model_edit.specs.Tables.{col_in}
use Rattle.model_edit_law.specs.TableLaws.{laid_out}
use Rattle.model_items.proofs.ExampleItems.{c, with_attrs, attr, node, internal}

abbrev cell : List PlainItem
cell = node Td (node P [])

-- a cell some rows high and some columns wide
abbrev large : List ℕ → List ℕ → List PlainItem
large rows columns = with_attrs Td (attr (codes "rowspan") rows ∷ attr (codes "colspan") columns ∷ []) ∷ node P [] ++ c Td ∷ []

abbrev table : List PlainItem → List PlainItem
table rows = node Table (node Tbody rows) ++ internal

abbrev after : List PlainItem → ℕ → Result Layout TableCause
after items column = by (col_in items 0 column)
  where
    by : Result Transaction TableCause → Result Layout TableCause
    by (Ok t) = laid_out (grid (edited t items) 0)
    by (Err fault) = Err fault

abbrev expected : List PlainItem → ℕ → Result Layout TableCause
expected items column = by (grid items 0)
  where
    by : Result Grid TableCause → Result Layout TableCause
    by (Ok g) = Ok (col_in_layout (layout_of g) column)
    by (Err fault) = Err fault

-- a cell over two rows and two columns, beside a row whose cells end left of the others
abbrev mixed : List PlainItem
mixed = table (node Tr (large (codes "2") (codes "2") ++ (cell ++ cell)) ++ (node Tr cell ++ node Tr (cell ++ (large (codes "1") (codes "2") ++ cell))))

abbrev at_ : ℕ → ℕ → ℕ → ℕ → Rectangle
at_ row column rows columns = record { row = row; column = column; rows = rows; columns = columns }

mixed_grid : laid_out (grid mixed 0)
    ≡ Ok (record { rows = 3; columns = 4; rectangles = at_ 0 0 2 2 ∷ at_ 0 2 1 1 ∷ at_ 0 3 1 1 ∷ at_ 1 2 1 1 ∷ at_ 2 0 1 1 ∷ at_ 2 1 1 2 ∷ at_ 2 3 1 1 ∷ [] })
mixed_grid = refl

through_both : after mixed 1 ≡ expected mixed 1
unfolding digits
through_both = refl

-- the short row has its new cell after its last one
past_the_short_row : after mixed 3 ≡ expected mixed 3
past_the_short_row = refl

-- a row without cells, under cells that are two rows high
abbrev covered_row : List PlainItem
covered_row = table (node Tr (large (codes "2") (codes "1") ++ large (codes "2") (codes "1")) ++ node Tr [])

between_tall : after covered_row 1 ≡ Ok (record { rows = 2; columns = 3; rectangles = at_ 0 0 2 1 ∷ at_ 0 1 1 1 ∷ at_ 0 2 2 1 ∷ at_ 1 1 1 1 ∷ [] })
between_tall = refl
