use Rattle.std.proofs.Common.{◌==◌, ◌||◌, ◌++◌, ◌<◌, ℕ, nat_lt, map, sym, ◌∙◌, subst}
use Rattle.std.specs.Prelude.{All}
use Rattle.std.proofs.lemmas.List.{length-map}
use Rattle.model_items.specs.Plain.{plain, plain_list}
use Rattle.model_edit.specs.declared.grid_cell.GridCell.{GridCell}
use Rattle.model_edit.specs.Edits.{InOrder, transaction_of}
use Rattle.model_edit.specs.Grid.{Grid, grid, table_rows}
use Rattle.model_edit.specs.Causes.{BadColumn, SpanFull}
use Rattle.model_edit.specs.Tables.{at_first}
use Rattle.ve_tables.specs.declared.cell_questions.CellQuestion.TheVariants.{IsFullAtColumn}
use Rattle.ve_tables.specs.declared.rows.TableRow.{TableRow}
use Rattle.ve_tables.specs.CellQuestions.{cell_answer, col_in_causes, ragged_causes}
use Rattle.ve_tables.specs.Covered.{AreInRows, AreGaps}
use Rattle.ve_tables.specs.PartWay.{IsLaid, col_in_edits}
use Rattle.ve_tables.specs.Rows.{row_of}
use Rattle.ve_tables.proofs.QuestionLemmas.{refused_by, none_of_them, none_later, none_after, none_asked, no_answer}
use Rattle.ve_tables.proofs.PartWayLemmas.{lawful_plain}
use Rattle.ve_tables.proofs.RiseLemmas.{grid_in_rows}
use Rattle.ve_tables.proofs.StandLemmas.{rows_inside, cells_inside, row_count, col_in_ordered}
use Rattle.ve_tables.proofs.column_edits.col_in.Goals as goal

pub col_in_fault-requires : goal.col_in_fault-requires
col_in_fault-requires c =
    let grid = c.in_ok-table.table.grid in
    record { gaps = subst (AreGaps grid.cells grid.rows) (sym c.as_slice.ensures) c.in_ok-table.ensures.gaps }

pub returns-in-Some-clause-refused : goal.returns-in-Some-clause-refused
returns-in-Some-clause-refused c =
    let P = plain_list c.args.doc.store.now c.args.doc.list.now.items in
    refused_by (grid P c.args.at) c.in_ok-table.table.grid (col_in_causes c.args.column) (λ (g : Grid). transaction_of P (col_in_edits P (table_rows P c.args.at) c.args.column g)) c.in_ok-table.ensures.means c.in-Some.fault
    (sym c.col_in_fault.ensures ∙ c.in-Some.is)

pub put_column-requires-clause-rows : goal.put_column-requires-clause-rows
put_column-requires-clause-rows c =
    let S = c.args.doc.store.now in
    let items = c.args.doc.list.now.items in
    let P = plain_list S items in
    let table = c.in_ok-table.table in
    let laid : IsLaid P table = record { at = c.args.at; grid = c.in_ok-table.ensures.means; rows = c.in_ok-table.ensures.rows } in
    let lawful = lawful_plain S items c.requires.doc.links.lawful in
    subst (λ (n : ℕ). AreInRows 0 n table.grid.cells) (row_count P table lawful laid) (grid_in_rows P c.args.at table.grid c.in_ok-table.ensures.means)

pub put_column-requires-clause-places : goal.put_column-requires-clause-places
put_column-requires-clause-places c =
    let S = c.args.doc.store.now in
    let items = c.args.doc.list.now.items in
    let P = plain_list S items in
    let table = c.in_ok-table.table in
    let laid : IsLaid P table = record { at = c.args.at; grid = c.in_ok-table.ensures.means; rows = c.in_ok-table.ensures.rows } in
    let lawful = lawful_plain S items c.requires.doc.links.lawful in
    subst (λ (n : ℕ). All (λ (row : TableRow). row.at < n) table.rows) (length-map items (plain S)) (rows_inside P table lawful laid)

pub put_column-requires-clause-within : goal.put_column-requires-clause-within
put_column-requires-clause-within c =
    let S = c.args.doc.store.now in
    let items = c.args.doc.list.now.items in
    let P = plain_list S items in
    let table = c.in_ok-table.table in
    let laid : IsLaid P table = record { at = c.args.at; grid = c.in_ok-table.ensures.means; rows = c.in_ok-table.ensures.rows } in
    let lawful = lawful_plain S items c.requires.doc.links.lawful in
    subst (λ (n : ℕ). All (λ (cell : GridCell). cell.at < n) table.grid.cells) (length-map items (plain S)) (cells_inside P table lawful laid)

pub put_column-requires-clause-order : goal.put_column-requires-clause-order
put_column-requires-clause-order c =
    let S = c.args.doc.store.now in
    let items = c.args.doc.list.now.items in
    let P = plain_list S items in
    let table = c.in_ok-table.table in
    let laid : IsLaid P table = record { at = c.args.at; grid = c.in_ok-table.ensures.means; rows = c.in_ok-table.ensures.rows } in
    let lawful = lawful_plain S items c.requires.doc.links.lawful in
    subst (λ (n : ℕ). InOrder 0 n (col_in_edits P (map row_of table.rows) c.args.column table.grid)) (length-map items (plain S)) (col_in_ordered P table lawful laid c.args.column)

pub put_column-requires-clause-room : goal.put_column-requires-clause-room
put_column-requires-clause-room c =
    let G = c.in_ok-table.table.grid in
    let full = at_first (cell_answer (IsFullAtColumn c.args.column)) G.cells (λ at. SpanFull at) in
    let ragged = ragged_causes c.args.column G 0 G.rows in
    let none = none_of_them (col_in_causes c.args.column G) (sym c.col_in_fault.ensures ∙ no_answer c.col_in_fault.result c.in_default.not-Some) in
    none_asked (cell_answer (IsFullAtColumn c.args.column)) G.cells (λ at. SpanFull at)
    (none_after ragged full (none_later ((G.columns == 0) || nat_lt G.columns c.args.column) (BadColumn c.args.column G.columns) (ragged ++ full) none))
