use Rattle.std.proofs.Common.{◌<◌, ◌==◌, ◌||◌, ◌∷◌, nat_lt, ℕ, map, sym, ◌∙◌, subst, arith}
use Rattle.std.specs.Prelude.{All}
use Rattle.std.proofs.lemmas.Bool.{or_parts, eqb-false}
use Rattle.std.proofs.lemmas.List.{length-map}
use Rattle.ve_base.specs.Limits.{max_column_span}
use Rattle.model_items.specs.Plain.{plain, plain_list}
use Rattle.model_edit.specs.Edits.{InOrder, transaction_of}
use Rattle.model_edit.specs.Grid.{Grid, grid, table_rows}
use Rattle.model_edit.specs.Causes.{BadRow, TooWide, SpanFull}
use Rattle.model_edit.specs.Tables.{row_in_edits, at_first}
use Rattle.ve_tables.specs.declared.cell_questions.CellQuestion.TheVariants.{IsFullAtRow}
use Rattle.ve_tables.specs.declared.rows.TableRow.{TableRow}
use Rattle.ve_tables.specs.CellQuestions.{cell_answer, row_in_causes}
use Rattle.ve_tables.specs.PartWay.{IsLaid}
use Rattle.ve_tables.specs.Rows.{row_of}
use Rattle.ve_tables.proofs.QuestionLemmas.{refused_by, none_of_them, none_first, none_later, none_asked, no_answer}
use Rattle.ve_tables.proofs.PartWayLemmas.{lawful_plain}
use Rattle.ve_tables.proofs.StandLemmas.{rows_inside, row_count, row_in_ordered}
use Rattle.ve_tables.proofs.row_edits.row_in.Goals as goal

pub returns-in-Some-clause-refused : goal.returns-in-Some-clause-refused
returns-in-Some-clause-refused c =
    let P = plain_list c.args.doc.store.now c.args.doc.list.now.items in
    refused_by (grid P c.args.at) c.in_ok-table.table.grid (row_in_causes c.args.row) (λ (g : Grid). transaction_of P (row_in_edits P (table_rows P c.args.at) c.args.row g)) c.in_ok-table.ensures.means c.in-Some.fault
    (sym c.row_in_fault.ensures ∙ c.in-Some.is)

pub put_row-requires-clause-room : goal.put_row-requires-clause-room
put_row-requires-clause-room c =
    let G = c.in_ok-table.table.grid in
    let none = none_of_them (row_in_causes c.args.row G) (sym c.row_in_fault.ensures ∙ no_answer c.row_in_fault.result c.in_default.not-Some) in
    none_asked (cell_answer (IsFullAtRow c.args.row)) G.cells (λ at. SpanFull at) (none_later (nat_lt max_column_span G.columns) (TooWide G.columns) (at_first (cell_answer (IsFullAtRow c.args.row)) G.cells (λ at. SpanFull at)) (none_later ((G.rows == 0) || nat_lt G.rows c.args.row) (BadRow c.args.row G.rows) ((nat_lt max_column_span G.columns, TooWide G.columns) ∷ (at_first (cell_answer (IsFullAtRow c.args.row)) G.cells (λ at. SpanFull at))) none))

pub put_row-requires-clause-some : goal.put_row-requires-clause-some
put_row-requires-clause-some c =
    let S = c.args.doc.store.now in
    let items = c.args.doc.list.now.items in
    let P = plain_list S items in
    let table = c.in_ok-table.table in
    let laid : IsLaid P table = record { at = c.args.at; grid = c.in_ok-table.ensures.means; rows = c.in_ok-table.ensures.rows } in
    let lawful = lawful_plain S items c.requires.doc.links.lawful in
    let none = none_of_them (row_in_causes c.args.row table.grid) (sym c.row_in_fault.ensures ∙ no_answer c.row_in_fault.result c.in_default.not-Some) in
    let some = eqb-false table.grid.rows 0 (or_parts (table.grid.rows == 0) (nat_lt table.grid.rows c.args.row) (none_first ((table.grid.rows == 0) || nat_lt table.grid.rows c.args.row) (BadRow c.args.row table.grid.rows) ((nat_lt max_column_span table.grid.columns, TooWide table.grid.columns) ∷ (at_first (cell_answer (IsFullAtRow c.args.row)) table.grid.cells (λ at. SpanFull at))) none)).0 in
    let count = row_count P table lawful laid in
    omega (arith, count, some)

pub put_row-requires-clause-order : goal.put_row-requires-clause-order
put_row-requires-clause-order c =
    let S = c.args.doc.store.now in
    let items = c.args.doc.list.now.items in
    let P = plain_list S items in
    let table = c.in_ok-table.table in
    let laid : IsLaid P table = record { at = c.args.at; grid = c.in_ok-table.ensures.means; rows = c.in_ok-table.ensures.rows } in
    let lawful = lawful_plain S items c.requires.doc.links.lawful in
    subst (λ (n : ℕ). InOrder 0 n (row_in_edits P (map row_of table.rows) c.args.row table.grid)) (length-map items (plain S)) (row_in_ordered P table lawful laid c.args.row)

pub put_row-requires-clause-within : goal.put_row-requires-clause-within
put_row-requires-clause-within c =
    let S = c.args.doc.store.now in
    let items = c.args.doc.list.now.items in
    let P = plain_list S items in
    let table = c.in_ok-table.table in
    let laid : IsLaid P table = record { at = c.args.at; grid = c.in_ok-table.ensures.means; rows = c.in_ok-table.ensures.rows } in
    let lawful = lawful_plain S items c.requires.doc.links.lawful in
    subst (λ (n : ℕ). All (λ (row : TableRow). row.at < n) table.rows) (length-map items (plain S)) (rows_inside P table lawful laid)
