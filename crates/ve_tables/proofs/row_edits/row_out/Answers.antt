use Rattle.std.proofs.Common.{◌<◌, nat_le, ℕ, map, sym, ◌∙◌, subst, arith}
use Rattle.std.specs.Prelude.{All}
use Rattle.std.proofs.lemmas.Bool.{leb-false}
use Rattle.std.proofs.lemmas.List.{length-map}
use Rattle.model_items.specs.Plain.{plain, plain_list}
use Rattle.model_edit.specs.Edits.{InOrder, transaction_of}
use Rattle.model_edit.specs.Grid.{Grid, grid, table_rows}
use Rattle.model_edit.specs.Causes.{BadRow, Spanned}
use Rattle.model_edit.specs.Tables.{at_first}
use Rattle.ve_tables.specs.declared.cell_questions.CellQuestion.TheVariants.{GoesBelow}
use Rattle.ve_tables.specs.declared.rows.TableRow.{TableRow}
use Rattle.ve_tables.specs.CellQuestions.{cell_answer, row_out_causes}
use Rattle.ve_tables.specs.PartWay.{IsLaid, row_out_edits}
use Rattle.ve_tables.specs.Rows.{row_of}
use Rattle.ve_tables.proofs.QuestionLemmas.{refused_by, none_of_them, none_first, no_answer}
use Rattle.ve_tables.proofs.PartWayLemmas.{lawful_plain}
use Rattle.ve_tables.proofs.StandLemmas.{rows_inside, rows_ahead, row_count, row_out_ordered}
use Rattle.ve_tables.proofs.row_edits.row_out.Goals as goal

pub returns-in-Some-clause-refused : goal.returns-in-Some-clause-refused
returns-in-Some-clause-refused c =
    let P = plain_list c.args.doc.store.now c.args.doc.list.now.items in
    refused_by (grid P c.args.at) c.in_ok-table.table.grid (row_out_causes c.args.row) (λ (g : Grid). transaction_of P (row_out_edits P (table_rows P c.args.at) c.args.row g)) c.in_ok-table.ensures.means c.in-Some.fault
    (sym c.row_out_fault.ensures ∙ c.in-Some.is)

pub take_row-requires-clause-row : goal.take_row-requires-clause-row
take_row-requires-clause-row c =
    let S = c.args.doc.store.now in
    let items = c.args.doc.list.now.items in
    let P = plain_list S items in
    let table = c.in_ok-table.table in
    let laid : IsLaid P table = record { at = c.args.at; grid = c.in_ok-table.ensures.means; rows = c.in_ok-table.ensures.rows } in
    let lawful = lawful_plain S items c.requires.doc.links.lawful in
    let none = none_of_them (row_out_causes c.args.row table.grid) (sym c.row_out_fault.ensures ∙ no_answer c.row_out_fault.result c.in_default.not-Some) in
    let less = leb-false table.grid.rows c.args.row (none_first (nat_le table.grid.rows c.args.row) (BadRow c.args.row table.grid.rows) (at_first (cell_answer (GoesBelow c.args.row)) table.grid.cells (λ at. Spanned at)) none) in
    let count = row_count P table lawful laid in
    omega (arith, count, less)

pub take_row-requires-clause-order : goal.take_row-requires-clause-order
take_row-requires-clause-order c =
    let S = c.args.doc.store.now in
    let items = c.args.doc.list.now.items in
    let P = plain_list S items in
    let table = c.in_ok-table.table in
    let laid : IsLaid P table = record { at = c.args.at; grid = c.in_ok-table.ensures.means; rows = c.in_ok-table.ensures.rows } in
    let lawful = lawful_plain S items c.requires.doc.links.lawful in
    subst (λ (n : ℕ). InOrder 0 n (row_out_edits P (map row_of table.rows) c.args.row table.grid)) (length-map items (plain S)) (row_out_ordered P table lawful laid c.args.row)

pub take_row-requires-clause-within : goal.take_row-requires-clause-within
take_row-requires-clause-within c =
    let S = c.args.doc.store.now in
    let items = c.args.doc.list.now.items in
    let P = plain_list S items in
    let table = c.in_ok-table.table in
    let laid : IsLaid P table = record { at = c.args.at; grid = c.in_ok-table.ensures.means; rows = c.in_ok-table.ensures.rows } in
    let lawful = lawful_plain S items c.requires.doc.links.lawful in
    subst (λ (n : ℕ). All (λ (row : TableRow). row.at < n) table.rows) (length-map items (plain S)) (rows_inside P table lawful laid)

pub take_row-requires-clause-ahead : goal.take_row-requires-clause-ahead
take_row-requires-clause-ahead c =
    let S = c.args.doc.store.now in
    let items = c.args.doc.list.now.items in
    let P = plain_list S items in
    let table = c.in_ok-table.table in
    let laid : IsLaid P table = record { at = c.args.at; grid = c.in_ok-table.ensures.means; rows = c.in_ok-table.ensures.rows } in
    let lawful = lawful_plain S items c.requires.doc.links.lawful in
    rows_ahead P table lawful laid
