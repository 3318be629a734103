-- The insides of a worked table's cells after a row is taken out, and after a column is put in.
use Rattle.std.proofs.Common.{◌≡◌, ℕ, List, [], ◌∷◌, ◌++◌, Result, Ok, Err, refl}
use Rattle.std.specs.Prelude.{codes}
use Rattle.std.specs.Fmt.{digits}
use Rattle.ve_kinds.specs.declared.kind.Kind.TheVariants.{P, Table, Tbody, Tr, Td}
use Rattle.model_items.specs.declared.plain_item.PlainItem.{PlainItem}
use Rattle.model_items.proofs.ExampleItems.{c, with_attrs, attr, text, node, internal}
use Rattle.model_change.specs.Transaction.{Transaction, edited}
use Rattle.model_edit.specs.Causes.{TableCause}
use Rattle.model_edit.specs.Tables.{col_in, row_out}
use Rattle.model_table_law.specs.Cells.{FilledCell, filled_at}

abbrev cell : List PlainItem → List PlainItem
cell inside = node Td inside

abbrev par : List ℕ → List PlainItem
par cs = node P (text cs)

-- a table of one cell, which stands in a cell
abbrev nested : List PlainItem
nested = node Table (node Tbody (node Tr (cell (par (codes "n")))))

abbrev table : List PlainItem → List PlainItem
table rows = node Table (node Tbody rows) ++ internal

abbrev filled : ℕ → ℕ → ℕ → ℕ → List PlainItem → FilledCell
filled row column rows columns inside = record { rectangle = record { row = row; column = column; rows = rows; columns = columns }; inside = inside }

abbrev filled_after : List PlainItem → Result Transaction TableCause → Result (List FilledCell) TableCause
filled_after items (Err fault) = Err fault
filled_after items (Ok t) = filled_at (edited t items) 0

-- a cell of two rows with a table in it, beside two cells
abbrev beside : List PlainItem
beside = table (node Tr (with_attrs Td (attr (codes "rowspan") (codes "2") ∷ []) ∷ nested ++ c Td ∷ cell (par (codes "b"))) ++ node Tr (cell (par (codes "c"))))

row_gone : filled_after beside (row_out beside 0 1) ≡ Ok (filled 0 0 1 1 nested ∷ filled 0 1 1 1 (par (codes "b")) ∷ [])
unfolding digits
row_gone = refl

column_new : filled_after beside (col_in beside 0 1)
    ≡ Ok (filled 0 0 2 1 nested ∷ filled 0 1 1 1 (par []) ∷ filled 0 2 1 1 (par (codes "b")) ∷ filled 1 1 1 1 (par []) ∷ filled 1 2 1 1 (par (codes "c")) ∷ [])
unfolding digits
column_new = refl
