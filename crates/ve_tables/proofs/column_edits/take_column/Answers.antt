use Rattle.std.proofs.Common.{◌≤◌, ◌<◌, [], ◌∷◌, length, get_or, sym, ◌∙◌, subst, arith, append-nil}
use Rattle.std.specs.Prelude.{All}
use Rattle.model_items.specs.Offsets.{end_of_node}
use Rattle.model_items.specs.Plain.{plain_list}
use Rattle.model_edit.specs.declared.grid_cell.GridCell.{GridCell}
use Rattle.model_edit.specs.Edits.{InOrder}
use Rattle.model_edit.specs.Grid.{covers_column}
use Rattle.model_edit.specs.Tables.{cell_removed}
use Rattle.ve_tables.specs.PartWay.{columns_removed}
use Rattle.ve_tables.proofs.PartWayLemmas.{no_cell, here_order, here_next, done_order, all_done, finished_as, order_first}
use Rattle.ve_tables.proofs.column_edits.take_column.Goals as goal

pub take_cell-requires-clause-order : goal.take_cell-requires-clause-order
take_cell-requires-clause-order c =
    let items = c.args.doc.list.now.items in
    let P = plain_list c.args.doc.store.now items in
    let ordered = subst (InOrder 0 (length items)) (sym (append-nil (columns_removed P c.args.column c.args.table.now.grid.cells))) c.requires.order in
    let here = here_order c.args.doc.store.now items (λ cell. covers_column cell c.args.column) (cell_removed P) c.args.table.now.grid.cells c.cells-cell-items.result.now c.loop-cell.cell-index 0
    c.new-edits.result c.loop-cell.edits c.cells-cell-items.ensures c.new-edits.ensures.at c.loop-cell-test.true (sym c.covers_column.ensures ∙ c.if-not-covers_column.false) c.loop-cell.invariant [] ordered in
    order_first c.loop-cell.edits.at (length items) (cell_removed P (get_or c.cells-cell-items.result.now c.loop-cell.cell-index no_cell) ∷ []) _ here

pub take_cell-requires-clause-within : goal.take_cell-requires-clause-within
take_cell-requires-clause-within c =
    subst (All (λ (cell : GridCell). cell.at < length c.args.doc.list.now.items)) (sym c.cells-cell-items.ensures) c.requires.within c.loop-cell.cell-index no_cell c.loop-cell-test.true

pub take_cell-requires-clause-ahead : goal.take_cell-requires-clause-ahead
take_cell-requires-clause-ahead c =
    let P = plain_list c.args.doc.store.now c.args.doc.list.now.items in
    subst (All (λ (cell : GridCell). cell.at ≤ end_of_node P cell.at)) (sym c.cells-cell-items.ensures) c.requires.ahead c.loop-cell.cell-index no_cell c.loop-cell-test.true

pub loop-cell-preserved : goal.loop-cell-preserved
loop-cell-preserved c =
    let P = plain_list c.args.doc.store.now c.args.doc.list.now.items in
    here_next c.args.doc.store.now c.args.doc.list.now.items (λ cell. covers_column cell c.args.column) (cell_removed P) c.args.table.now.grid.cells c.cells-cell-items.result.now c.loop-cell.cell-index 0
    c.new-edits.result c.loop-cell.edits c.cells-cell-items.ensures c.new-edits.ensures.at c.loop-cell-test.true (sym c.covers_column.ensures ∙ c.if-not-covers_column.false) c.loop-cell.invariant c.take_cell.new.edits
    c.in_ok-take_cell.ensures

pub transaction-requires : goal.transaction-requires
transaction-requires c =
    let items = c.args.doc.list.now.items in
    let P = plain_list c.args.doc.store.now items in
    let ordered = subst (InOrder 0 (length items)) (sym (append-nil (columns_removed P c.args.column c.args.table.now.grid.cells))) c.requires.order in
    done_order c.args.doc.store.now items (λ cell. covers_column cell c.args.column) (cell_removed P) c.args.table.now.grid.cells c.cells-cell-items.result.now c.loop-cell.cell-index 0
    c.new-edits.result c.loop-cell.edits c.cells-cell-items.ensures c.new-edits.ensures.at (omega (arith, c.loop-cell-test.false)) c.loop-cell.invariant [] ordered

pub returns-clause-means : goal.returns-clause-means
returns-clause-means c =
    let S = c.args.doc.store.now in
    let items = c.args.doc.list.now.items in
    let P = plain_list S items in
    let E = columns_removed P c.args.column c.args.table.now.grid.cells in
    let done = all_done S items (λ cell. covers_column cell c.args.column) (cell_removed P) c.args.table.now.grid.cells c.cells-cell-items.result.now c.loop-cell.cell-index 0
    c.new-edits.result c.loop-cell.edits c.cells-cell-items.ensures c.new-edits.ensures.at (omega (arith, c.loop-cell-test.false)) c.loop-cell.invariant in
    c.in_ok-tx.ensures.means S E (finished_as S items E c.new-edits.result c.loop-cell.edits done (c.new-edits.ensures.makes S items))

pub returns-clause-cites : goal.returns-clause-cites
returns-clause-cites c =
    let S = c.args.doc.store.now in
    let items = c.args.doc.list.now.items in
    let P = plain_list S items in
    let E = columns_removed P c.args.column c.args.table.now.grid.cells in
    let done = all_done S items (λ cell. covers_column cell c.args.column) (cell_removed P) c.args.table.now.grid.cells c.cells-cell-items.result.now c.loop-cell.cell-index 0
    c.new-edits.result c.loop-cell.edits c.cells-cell-items.ensures c.new-edits.ensures.at (omega (arith, c.loop-cell-test.false)) c.loop-cell.invariant in
    c.in_ok-tx.ensures.cites S E (finished_as S items E c.new-edits.result c.loop-cell.edits done (c.new-edits.ensures.makes S items))
