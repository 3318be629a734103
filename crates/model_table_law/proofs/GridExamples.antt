-- Rows put into worked tables: the grid after is the layout that is to come.
use Rattle.std.proofs.Common.{◌≡◌, ℕ, suc, List, [], ◌∷◌, ◌++◌, Result, Ok, Err, refl}
use Rattle.std.specs.Prelude.{codes}
use Rattle.std.specs.Fmt.{digits}
use Rattle.ve_kinds.specs.declared.kind.Kind.TheVariants.{P, Table, Thead, Tbody, Tr, Td}
use Rattle.model_items.specs.declared.plain_item.PlainItem.{PlainItem}
use Rattle.model_change.specs.Transaction.{Transaction, edited}
use Rattle.model_edit.specs.Causes.{TableCause}
use Rattle.model_edit.specs.Grid.{grid}
use Rattle.model_edit.specs.Layout.{Layout, row_in_layout}
use Rattle.model_edit.specs.Tables.{row_in}
use Rattle.model_edit_law.specs.TableLaws.{laid_out}
use Rattle.model_items.proofs.ExampleItems.{c, with_attrs, attr, text, node, internal}

abbrev cell : List ℕ → List PlainItem
cell cs = node Td (node P (text cs))

abbrev tall : List ℕ → List ℕ → List PlainItem
tall rows cs = with_attrs Td (attr (codes "rowspan") rows ∷ []) ∷ node P (text cs) ++ c Td ∷ []

abbrev after : List PlainItem → ℕ → Result Layout TableCause
after items row = by (row_in items 0 row)
  where
    by : Result Transaction TableCause → Result Layout TableCause
    by (Err fault) = Err fault
    by (Ok t) = laid_out (grid (edited t items) 0)

abbrev with_row : Result Layout TableCause → ℕ → Result Layout TableCause
with_row (Err fault) row = Err fault
with_row (Ok g) row = Ok (row_in_layout g row)

-- a head with one row, a body of two rows that one cell reaches over, and a hole in the second
abbrev sections : List PlainItem
sections =
    node Table
    (node Thead (node Tr (cell (codes "a") ++ cell (codes "b")))
    ++ node Tbody (node Tr (cell (codes "c") ++ tall (codes "2") (codes "d")) ++ node Tr []))
    ++ internal

first_row : after sections 0 ≡ with_row (laid_out (grid sections 0)) 0
first_row = refl

between_sections : after sections 1 ≡ with_row (laid_out (grid sections 0)) 1
between_sections = refl

under_the_span : after sections 2 ≡ with_row (laid_out (grid sections 0)) 2
unfolding digits
under_the_span = refl

last_row : after sections 3 ≡ with_row (laid_out (grid sections 0)) 3
last_row = refl

-- all of a new row is covered: it has no cell
abbrev covered : List PlainItem
covered = node Table (node Tbody (node Tr (tall (codes "2") (codes "a")) ++ node Tr [])) ++ internal

empty_row : after covered 1 ≡ with_row (laid_out (grid covered 0)) 1
unfolding digits
empty_row = refl
