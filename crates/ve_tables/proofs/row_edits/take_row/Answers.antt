use Rattle.std.proofs.Common.{◌≡◌, ◌≤◌, ◌-◌, ℕ, Some, codes, List, [], ◌∷◌, ◌++◌, length, get_or, sym, ap, ◌∙◌, subst, arith}
use Rattle.std.specs.Str.{chars}
use Rattle.std.specs.Prelude.{decimal}
use Rattle.std.proofs.lemmas.List.Elements.{All-nil}
use Rattle.model_items.specs.Offsets.{end_of_node}
use Rattle.model_items.specs.Plain.{plain_list, CitesWell}
use Rattle.model_edit.specs.Edits.{Edit, Change, InOrder, transaction_of}
use Rattle.model_edit.specs.Tables.{set_rows, spans_row, whole_node}
use Rattle.ve_tables.specs.declared.rows.TableRow.{TableRow}
use Rattle.ve_tables.specs.PartWay.{shrunk_rows}
use Rattle.ve_tables.proofs.RowLemmas.{rowspan_is}
use Rattle.ve_tables.proofs.PlaceLemmas.{removed_is}
use Rattle.ve_tables.proofs.PartWayLemmas.{no_cell, here_order, here_next, done_order, all_done, and_change, finished_as, set_as, set_within}
use Rattle.ve_tables.proofs.row_edits.take_row.Goals as goal

pub set_span-requires-clause-within : goal.set_span-requires-clause-within
set_span-requires-clause-within c =
    let cell = get_or c.cells-cell-items.result.now c.loop-cell.cell-index no_cell in
    let here = here_order c.args.doc.store.now c.args.doc.list.now.items (spans_row c.args.row) (λ cell. set_rows (cell.rows - 1) cell) c.args.table.now.grid.cells c.cells-cell-items.result.now c.loop-cell.cell-index 0
    c.new-edits.result c.loop-cell.edits c.cells-cell-items.ensures c.new-edits.ensures.at c.loop-cell-test.true (sym c.spans_row.ensures ∙ c.if-not-spans_row.false) c.loop-cell.invariant _ c.requires.order in
    let inside = set_within c.loop-cell.edits.at (length c.args.doc.list.now.items) cell.at (codes "rowspan") (Some (decimal (cell.rows - 1))) _ here in
    omega (arith, inside)

pub loop-cell-preserved : goal.loop-cell-preserved
loop-cell-preserved c =
    let S = c.args.doc.store.now in
    let items = c.args.doc.list.now.items in
    let cell = get_or c.cells-cell-items.result.now c.loop-cell.cell-index no_cell in
    let same : cell.rows - 1 ≡ cell.rows - 1 = omega arith in
    here_next S items (spans_row c.args.row) (λ cell. set_rows (cell.rows - 1) cell) c.args.table.now.grid.cells c.cells-cell-items.result.now c.loop-cell.cell-index 0
    c.new-edits.result c.loop-cell.edits c.cells-cell-items.ensures c.new-edits.ensures.at c.loop-cell-test.true (sym c.spans_row.ensures ∙ c.if-not-spans_row.false) c.loop-cell.invariant c.set_span.new.edits
    (set_as S items cell.at (chars (codes "rowspan")) (codes "rowspan") (cell.rows - 1) (cell.rows - 1) c.loop-cell.edits c.set_span.new.edits rowspan_is same c.in_ok-set_span.ensures)

pub overflow_sub-to : goal.overflow_sub-to
overflow_sub-to c =
    let d : TableRow = record { at = 0; left = 0 } in
    let ahead = c.requires.ahead c.args.row d c.requires.row in
    let same : get_or c.as_slice.result.now c.args.row d ≡ get_or c.args.table.now.rows c.args.row d = ap (λ (l : List TableRow). get_or l c.args.row d) c.as_slice.ensures in
    let P = plain_list c.args.doc.store.now c.args.doc.list.now.items in
    let A : TableRow → Type 0 = λ row. row.at ≤ end_of_node P row.at in
    let here = subst A (sym same) ahead in
    omega (arith, here, c.node_end-to.ensures.means)

pub change-requires-clause-order : goal.change-requires-clause-order
change-requires-clause-order c =
    let S = c.args.doc.store.now in
    let items = c.args.doc.list.now.items in
    let P = plain_list S items in
    let d : TableRow = record { at = 0; left = 0 } in
    let sets = shrunk_rows c.args.row c.args.table.now.grid.cells in
    let row = get_or c.args.table.now.rows c.args.row d in
    let ordered = subst (λ (l : List Edit). InOrder 0 (length items) (sets ++ l)) (removed_is P c.args.table.now.rows c.args.row d c.requires.row) c.requires.order in
    let o = done_order S items (spans_row c.args.row) (λ cell. set_rows (cell.rows - 1) cell) c.args.table.now.grid.cells c.cells-cell-items.result.now c.loop-cell.cell-index 0
    c.new-edits.result c.loop-cell.edits c.cells-cell-items.ensures c.new-edits.ensures.at (omega (arith, c.loop-cell-test.false)) c.loop-cell.invariant (whole_node P row.at ∷ []) ordered in
    let low = o.0 in
    let same : (get_or c.as_slice.result.now c.args.row d).at ≡ row.at = ap (λ (l : List TableRow). (get_or l c.args.row d).at) c.as_slice.ensures in
    omega (arith, low, same)

pub returns-clause-means : goal.returns-clause-means
returns-clause-means c =
    let S = c.args.doc.store.now in
    let items = c.args.doc.list.now.items in
    let P = plain_list S items in
    let d : TableRow = record { at = 0; left = 0 } in
    let sets = shrunk_rows c.args.row c.args.table.now.grid.cells in
    let from = (get_or c.as_slice.result.now c.args.row d).at in
    let row = get_or c.args.table.now.rows c.args.row d in
    let count = c.node_end-to.result - from in
    let done = all_done S items (spans_row c.args.row) (λ cell. set_rows (cell.rows - 1) cell) c.args.table.now.grid.cells c.cells-cell-items.result.now c.loop-cell.cell-index 0
    c.new-edits.result c.loop-cell.edits c.cells-cell-items.ensures c.new-edits.ensures.at (omega (arith, c.loop-cell-test.false)) c.loop-cell.invariant in
    let whole = and_change S items sets from count [] c.new-edits.result c.loop-cell.edits c.change.new.self done c.in_ok-change.ensures.at c.requires.cites (All-nil (CitesWell S)) c.in_ok-change.ensures.makes in
    let E = sets ++ Change from count [] ∷ [] in
    let same : from ≡ row.at = ap (λ (l : List TableRow). (get_or l c.args.row d).at) c.as_slice.ensures in
    c.in_ok-tx.ensures.means S E (finished_as S items E c.new-edits.result c.change.new.self whole (c.new-edits.ensures.makes S items))
    ∙ ap (λ (n : ℕ). transaction_of P (sets ++ Change from (n - from) [] ∷ [])) c.node_end-to.ensures.means
    ∙ ap (λ (n : ℕ). transaction_of P (sets ++ Change n (end_of_node P n - n) [] ∷ [])) same
    ∙ ap (λ (l : List Edit). transaction_of P (sets ++ l)) (sym (removed_is P c.args.table.now.rows c.args.row d c.requires.row))

pub returns-clause-cites : goal.returns-clause-cites
returns-clause-cites c =
    let S = c.args.doc.store.now in
    let items = c.args.doc.list.now.items in
    let d : TableRow = record { at = 0; left = 0 } in
    let sets = shrunk_rows c.args.row c.args.table.now.grid.cells in
    let from = (get_or c.as_slice.result.now c.args.row d).at in
    let count = c.node_end-to.result - from in
    let done = all_done S items (spans_row c.args.row) (λ cell. set_rows (cell.rows - 1) cell) c.args.table.now.grid.cells c.cells-cell-items.result.now c.loop-cell.cell-index 0
    c.new-edits.result c.loop-cell.edits c.cells-cell-items.ensures c.new-edits.ensures.at (omega (arith, c.loop-cell-test.false)) c.loop-cell.invariant in
    let whole = and_change S items sets from count [] c.new-edits.result c.loop-cell.edits c.change.new.self done c.in_ok-change.ensures.at c.requires.cites (All-nil (CitesWell S)) c.in_ok-change.ensures.makes in
    let E = sets ++ Change from count [] ∷ [] in
    c.in_ok-tx.ensures.cites S E (finished_as S items E c.new-edits.result c.change.new.self whole (c.new-edits.ensures.makes S items))
