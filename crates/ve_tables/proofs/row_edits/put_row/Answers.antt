use Rattle.std.proofs.Common.{◌≡◌, ◌<◌, ◌+◌, ℕ, suc, Some, codes, List, [], ◌∷◌, ◌++◌, length, map, get_or, sym, ap, ◌∙◌, subst, arith}
use Rattle.std.specs.Str.{chars}
use Rattle.std.specs.Prelude.{All, decimal}
use Rattle.model_items.specs.declared.plain_item.PlainItem.{PlainItem}
use Rattle.model_items.specs.Plain.{plain_list, CitesWell}
use Rattle.model_edit.specs.Edits.{Change, transaction_of}
use Rattle.model_edit.specs.Tables.{set_rows, spans_row, row_place}
use Rattle.ve_tables.specs.declared.rows.TableRow.{TableRow}
use Rattle.ve_tables.specs.PartWay.{grown_rows}
use Rattle.ve_tables.specs.Rows.{row_of}
use Rattle.ve_tables.proofs.RowLemmas.{rowspan_is}
use Rattle.ve_tables.proofs.PartWayLemmas.{no_cell, here_order, here_next, done_order, all_done, and_change, finished_as, set_as, set_within}
use Rattle.ve_tables.proofs.row_edits.put_row.Goals as goal

pub set_span-requires-clause-order : goal.set_span-requires-clause-order
set_span-requires-clause-order c =
    (here_order c.args.doc.store.now c.args.doc.list.now.items (spans_row c.args.row) (λ cell. set_rows (suc cell.rows) cell) c.args.table.now.grid.cells c.cells-cell-items.result.now c.loop-cell.cell-index 0
    c.new-edits.result c.loop-cell.edits c.cells-cell-items.ensures c.new-edits.ensures.at c.loop-cell-test.true (sym c.spans_row.ensures ∙ c.if-not-spans_row.false) c.loop-cell.invariant _ c.requires.order).0

pub set_span-requires-clause-within : goal.set_span-requires-clause-within
set_span-requires-clause-within c =
    let cell = get_or c.cells-cell-items.result.now c.loop-cell.cell-index no_cell in
    let here = here_order c.args.doc.store.now c.args.doc.list.now.items (spans_row c.args.row) (λ cell. set_rows (suc cell.rows) cell) c.args.table.now.grid.cells c.cells-cell-items.result.now c.loop-cell.cell-index 0
    c.new-edits.result c.loop-cell.edits c.cells-cell-items.ensures c.new-edits.ensures.at c.loop-cell-test.true (sym c.spans_row.ensures ∙ c.if-not-spans_row.false) c.loop-cell.invariant _ c.requires.order in
    let inside = set_within c.loop-cell.edits.at (length c.args.doc.list.now.items) cell.at (codes "rowspan") (Some (decimal (suc cell.rows))) _ here in
    omega (arith, inside)

pub loop-cell-preserved : goal.loop-cell-preserved
loop-cell-preserved c =
    let S = c.args.doc.store.now in
    let items = c.args.doc.list.now.items in
    let cell = get_or c.cells-cell-items.result.now c.loop-cell.cell-index no_cell in
    let more : cell.rows + 1 ≡ suc cell.rows = omega arith in
    here_next S items (spans_row c.args.row) (λ cell. set_rows (suc cell.rows) cell) c.args.table.now.grid.cells c.cells-cell-items.result.now c.loop-cell.cell-index 0
    c.new-edits.result c.loop-cell.edits c.cells-cell-items.ensures c.new-edits.ensures.at c.loop-cell-test.true (sym c.spans_row.ensures ∙ c.if-not-spans_row.false) c.loop-cell.invariant c.set_span.new.edits
    (set_as S items cell.at (chars (codes "rowspan")) (codes "rowspan") (cell.rows + 1) (suc cell.rows) c.loop-cell.edits c.set_span.new.edits rowspan_is more c.in_ok-set_span.ensures)

pub row_place-place-requires-clause-some : goal.row_place-place-requires-clause-some
row_place-place-requires-clause-some c = let n = ap (λ (l : List TableRow). length l) c.as_slice.ensures in omega (arith, n, c.requires.some)

pub row_place-place-requires-clause-within : goal.row_place-place-requires-clause-within
row_place-place-requires-clause-within c = subst (All (λ (row : TableRow). row.at < length c.args.doc.list.now.items)) (sym c.as_slice.ensures) c.requires.within

pub change-requires-clause-order : goal.change-requires-clause-order
change-requires-clause-order c =
    let P = plain_list c.args.doc.store.now c.args.doc.list.now.items in
    let o = done_order c.args.doc.store.now c.args.doc.list.now.items (spans_row c.args.row) (λ cell. set_rows (suc cell.rows) cell) c.args.table.now.grid.cells c.cells-cell-items.result.now c.loop-cell.cell-index 0
    c.new-edits.result c.loop-cell.edits c.cells-cell-items.ensures c.new-edits.ensures.at (omega (arith, c.loop-cell-test.false)) c.loop-cell.invariant _ c.requires.order in
    let low = o.0 in
    let same = c.row_place-place.ensures ∙ ap (λ (l : List TableRow). row_place P (map row_of l) c.args.row) c.as_slice.ensures in
    omega (arith, low, same)

pub change-requires-clause-within : goal.change-requires-clause-within
change-requires-clause-within c =
    let P = plain_list c.args.doc.store.now c.args.doc.list.now.items in
    let o = done_order c.args.doc.store.now c.args.doc.list.now.items (spans_row c.args.row) (λ cell. set_rows (suc cell.rows) cell) c.args.table.now.grid.cells c.cells-cell-items.result.now c.loop-cell.cell-index 0
    c.new-edits.result c.loop-cell.edits c.cells-cell-items.ensures c.new-edits.ensures.at (omega (arith, c.loop-cell-test.false)) c.loop-cell.invariant _ c.requires.order in
    let high = o.1 in
    let same = c.row_place-place.ensures ∙ ap (λ (l : List TableRow). row_place P (map row_of l) c.args.row) c.as_slice.ensures in
    omega (arith, high, same)

pub transaction-requires : goal.transaction-requires
transaction-requires c =
    let P = plain_list c.args.doc.store.now c.args.doc.list.now.items in
    let o = done_order c.args.doc.store.now c.args.doc.list.now.items (spans_row c.args.row) (λ cell. set_rows (suc cell.rows) cell) c.args.table.now.grid.cells c.cells-cell-items.result.now c.loop-cell.cell-index 0
    c.new-edits.result c.loop-cell.edits c.cells-cell-items.ensures c.new-edits.ensures.at (omega (arith, c.loop-cell-test.false)) c.loop-cell.invariant _ c.requires.order in
    let high = o.1 in
    let same = c.row_place-place.ensures ∙ ap (λ (l : List TableRow). row_place P (map row_of l) c.args.row) c.as_slice.ensures in
    omega (arith, high, same, c.in_ok-change.ensures.at)

pub returns-clause-means : goal.returns-clause-means
returns-clause-means c =
    let S = c.args.doc.store.now in
    let items = c.args.doc.list.now.items in
    let P = plain_list S items in
    let G = c.args.table.now.grid in
    let sets = grown_rows c.args.row G.cells in
    let place = c.row_place-place.result in
    let lent = c.as_slice-2.result.now in
    let done = all_done S items (spans_row c.args.row) (λ cell. set_rows (suc cell.rows) cell) G.cells c.cells-cell-items.result.now c.loop-cell.cell-index 0
    c.new-edits.result c.loop-cell.edits c.cells-cell-items.ensures c.new-edits.ensures.at (omega (arith, c.loop-cell-test.false)) c.loop-cell.invariant in
    let whole = and_change S items sets place 0 lent c.new-edits.result c.loop-cell.edits c.change.new.self done c.in_ok-change.ensures.at c.requires.cites
    (subst (All (CitesWell S)) (sym c.as_slice-2.ensures) (c.in_ok-inserted.ensures.cites S)) c.in_ok-change.ensures.makes in
    let E = sets ++ Change place 0 (plain_list S lent) ∷ [] in
    let same = c.row_place-place.ensures ∙ ap (λ (l : List TableRow). row_place P (map row_of l) c.args.row) c.as_slice.ensures in
    let put = ap (plain_list S) c.as_slice-2.ensures ∙ c.in_ok-inserted.ensures.means S in
    c.in_ok-tx.ensures.means S E (finished_as S items E c.new-edits.result c.change.new.self whole (c.new-edits.ensures.makes S items))
    ∙ ap (λ (n : ℕ). transaction_of P (sets ++ Change n 0 (plain_list S lent) ∷ [])) same
    ∙ ap (λ (l : List PlainItem). transaction_of P (sets ++ Change (row_place P (map row_of c.args.table.now.rows) c.args.row) 0 l ∷ [])) put

pub returns-clause-cites : goal.returns-clause-cites
returns-clause-cites c =
    let S = c.args.doc.store.now in
    let items = c.args.doc.list.now.items in
    let sets = grown_rows c.args.row c.args.table.now.grid.cells in
    let place = c.row_place-place.result in
    let lent = c.as_slice-2.result.now in
    let done = all_done S items (spans_row c.args.row) (λ cell. set_rows (suc cell.rows) cell) c.args.table.now.grid.cells c.cells-cell-items.result.now c.loop-cell.cell-index 0
    c.new-edits.result c.loop-cell.edits c.cells-cell-items.ensures c.new-edits.ensures.at (omega (arith, c.loop-cell-test.false)) c.loop-cell.invariant in
    let whole = and_change S items sets place 0 lent c.new-edits.result c.loop-cell.edits c.change.new.self done c.in_ok-change.ensures.at c.requires.cites
    (subst (All (CitesWell S)) (sym c.as_slice-2.ensures) (c.in_ok-inserted.ensures.cites S)) c.in_ok-change.ensures.makes in
    let E = sets ++ Change place 0 (plain_list S lent) ∷ [] in
    c.in_ok-tx.ensures.cites S E (finished_as S items E c.new-edits.result c.change.new.self whole (c.new-edits.ensures.makes S items))
