use Rattle.std.proofs.Common.{◌<◌, ℕ, sym, ◌∙◌, subst}
use Rattle.std.specs.Prelude.{All}
use Rattle.std.proofs.lemmas.List.{length-map}
use Rattle.model_items.specs.Plain.{plain, plain_list}
use Rattle.model_edit.specs.declared.grid_cell.GridCell.{GridCell}
use Rattle.model_edit.specs.Edits.{InOrder, transaction_of}
use Rattle.model_edit.specs.Grid.{Grid, grid}
use Rattle.ve_tables.specs.CellQuestions.{col_out_causes}
use Rattle.ve_tables.specs.PartWay.{IsLaid, columns_removed}
use Rattle.ve_tables.proofs.QuestionLemmas.{refused_by}
use Rattle.ve_tables.proofs.PartWayLemmas.{lawful_plain}
use Rattle.ve_tables.proofs.StandLemmas.{cells_inside, cells_ahead, col_out_ordered}
use Rattle.ve_tables.proofs.column_edits.col_out.Goals as goal

pub returns-in-Some-clause-refused : goal.returns-in-Some-clause-refused
returns-in-Some-clause-refused c =
    let P = plain_list c.args.doc.store.now c.args.doc.list.now.items in
    refused_by (grid P c.args.at) c.in_ok-table.table.grid (col_out_causes c.args.column) (λ (g : Grid). transaction_of P (columns_removed P c.args.column g.cells)) c.in_ok-table.ensures.means c.in-Some.fault
    (sym c.col_out_fault.ensures ∙ c.in-Some.is)

pub take_column-requires-clause-order : goal.take_column-requires-clause-order
take_column-requires-clause-order c =
    let S = c.args.doc.store.now in
    let items = c.args.doc.list.now.items in
    let P = plain_list S items in
    let table = c.in_ok-table.table in
    let laid : IsLaid P table = record { at = c.args.at; grid = c.in_ok-table.ensures.means; rows = c.in_ok-table.ensures.rows } in
    let lawful = lawful_plain S items c.requires.doc.links.lawful in
    subst (λ (n : ℕ). InOrder 0 n (columns_removed P c.args.column table.grid.cells)) (length-map items (plain S)) (col_out_ordered P table lawful laid c.args.column)

pub take_column-requires-clause-within : goal.take_column-requires-clause-within
take_column-requires-clause-within c =
    let S = c.args.doc.store.now in
    let items = c.args.doc.list.now.items in
    let P = plain_list S items in
    let table = c.in_ok-table.table in
    let laid : IsLaid P table = record { at = c.args.at; grid = c.in_ok-table.ensures.means; rows = c.in_ok-table.ensures.rows } in
    let lawful = lawful_plain S items c.requires.doc.links.lawful in
    subst (λ (n : ℕ). All (λ (cell : GridCell). cell.at < n) table.grid.cells) (length-map items (plain S)) (cells_inside P table lawful laid)

pub take_column-requires-clause-ahead : goal.take_column-requires-clause-ahead
take_column-requires-clause-ahead c =
    let S = c.args.doc.store.now in
    let items = c.args.doc.list.now.items in
    let P = plain_list S items in
    let table = c.in_ok-table.table in
    let laid : IsLaid P table = record { at = c.args.at; grid = c.in_ok-table.ensures.means; rows = c.in_ok-table.ensures.rows } in
    let lawful = lawful_plain S items c.requires.doc.links.lawful in
    cells_ahead P table lawful laid
