use Rattle.std.proofs.Common.{◌≡◌, ◌-◌, ◌<◌, ℕ, nat_lt, List, [], length, map, take, drop, get_or, sym, ap, ◌∙◌, subst, arith}
use Rattle.std.specs.Prelude.{flat_map, slice_range}
use Rattle.std.specs.List.{enumerate_from}
use Rattle.std.proofs.lemmas.List.{length-map, get_or-map, drop_all}
use Rattle.model_items.specs.Plain.{plain_list}
use Rattle.model_edit.specs.declared.grid_cell.GridCell.{GridCell}
use Rattle.model_edit.specs.Edits.{Edit, InOrder}
use Rattle.model_edit.specs.Grid as model
use Rattle.model_edit.specs.Tables.{column_edits}
use Rattle.ve_tables.specs.declared.rows.TableRow.{TableRow}
use Rattle.ve_tables.specs.Covered.{AreInRows, IsRun, floor_of}
use Rattle.ve_tables.specs.PartWay.{IsPartWay, Collects, row_widened, col_in_edits}
use Rattle.ve_tables.specs.Rows.{row_of}
use Rattle.ve_tables.proofs.ColumnLemmas.{row_order, widened_next, rows_of_run}
use Rattle.ve_tables.proofs.PartWayLemmas.{way_last, finished_as}
use Rattle.ve_tables.proofs.column_edits.put_column.Goals as goal

pub lowest-floor-requires : goal.lowest-floor-requires
lowest-floor-requires c =
    let S = c.args.doc.store.now in
    let items = c.args.doc.list.now.items in
    let P = plain_list S items in
    let G = c.args.table.now.grid in
    let rows = c.args.table.now.rows in
    let trs = map row_of rows in
    let n = length rows in
    let cells = c.cells-cells.result.now in
    let rise = subst (λ (l : List GridCell). AreInRows c.loop-row.row n (drop c.loop-row.from l)) (sym c.cells-cells.ensures) c.loop-row.invariant.rise in
    let mine = rows_of_run c.loop-row.row n (drop c.loop-row.from cells) (c.run_end-to.result - c.loop-row.from) rise in
    record { rows = subst (λ (m : ℕ). AreInRows 0 m (take (c.run_end-to.result - c.loop-row.from) (drop c.loop-row.from cells))) (sym (ap (λ (l : List TableRow). length l) c.as_slice-rows.ensures)) mine }

pub widen_row-requires-clause-order : goal.widen_row-requires-clause-order
widen_row-requires-clause-order c =
    let S = c.args.doc.store.now in
    let items = c.args.doc.list.now.items in
    let P = plain_list S items in
    let G = c.args.table.now.grid in
    let rows = c.args.table.now.rows in
    let trs = map row_of rows in
    let n = length rows in
    let d : TableRow = record { at = 0; left = 0 } in
    let index = c.loop-row.row in
    let from = c.loop-row.from in
    let to = c.run_end-to.result in
    let lent = c.as_slice-rows.ensures in
    let inside : index < length trs = omega (arith, length-map rows row_of, ap (λ (l : List TableRow). length l) lent, c.loop-row-test.true) in
    let run : IsRun index n G.cells from to =
    subst (λ (m : ℕ). IsRun index m G.cells from to) (ap (λ (l : List TableRow). length l) lent) (subst (λ (l : List GridCell). IsRun index (length c.as_slice-rows.result.now) l from to) c.cells-cells.ensures c.run_end-to.ensures) in
    let tr : get_or trs index (row_of d) ≡ row_of (get_or c.as_slice-rows.result.now index d) =
    get_or-map row_of rows index d (row_of d) (omega (arith, inside, length-map rows row_of)) ∙ ap (λ (l : List TableRow). row_of (get_or l index d)) (sym lent) in
    let cells : slice_range G.cells from to ≡ slice_range c.cells-cells.result.now from to = ap (λ (l : List GridCell). slice_range l from to) (sym c.cells-cells.ensures) in
    let low : c.lowest-floor.result ≡ floor_of c.args.column c.loop-row.floor (slice_range G.cells from to) =
    c.lowest-floor.ensures ∙ ap (floor_of c.args.column c.loop-row.floor) (sym cells) in
    let o = row_order S items P G c.args.column trs n index from to c.loop-row.floor (row_of d) c.new-edits.result c.loop-row.edits inside c.loop-row.invariant run 0 c.new-edits.ensures.at c.requires.order in
    let W : model.TableRow → List GridCell → ℕ → Type 0 = λ t l f. InOrder c.loop-row.edits.at (length items) (row_widened P t c.args.column l (nat_lt index f)) in
    subst (λ (t : model.TableRow). W t (slice_range c.cells-cells.result.now from to) c.lowest-floor.result) tr
    (subst (λ (l : List GridCell). W (get_or trs index (row_of d)) l c.lowest-floor.result) cells
    (subst (λ (f : ℕ). W (get_or trs index (row_of d)) (slice_range G.cells from to) f) (sym low) o))

pub loop-row-preserved : goal.loop-row-preserved
loop-row-preserved c =
    let S = c.args.doc.store.now in
    let items = c.args.doc.list.now.items in
    let P = plain_list S items in
    let G = c.args.table.now.grid in
    let rows = c.args.table.now.rows in
    let trs = map row_of rows in
    let n = length rows in
    let d : TableRow = record { at = 0; left = 0 } in
    let index = c.loop-row.row in
    let from = c.loop-row.from in
    let to = c.run_end-to.result in
    let lent = c.as_slice-rows.ensures in
    let inside : index < length trs = omega (arith, length-map rows row_of, ap (λ (l : List TableRow). length l) lent, c.loop-row-test.true) in
    let run : IsRun index n G.cells from to =
    subst (λ (m : ℕ). IsRun index m G.cells from to) (ap (λ (l : List TableRow). length l) lent) (subst (λ (l : List GridCell). IsRun index (length c.as_slice-rows.result.now) l from to) c.cells-cells.ensures c.run_end-to.ensures) in
    let tr : get_or trs index (row_of d) ≡ row_of (get_or c.as_slice-rows.result.now index d) =
    get_or-map row_of rows index d (row_of d) (omega (arith, inside, length-map rows row_of)) ∙ ap (λ (l : List TableRow). row_of (get_or l index d)) (sym lent) in
    let cells : slice_range G.cells from to ≡ slice_range c.cells-cells.result.now from to = ap (λ (l : List GridCell). slice_range l from to) (sym c.cells-cells.ensures) in
    let low : c.lowest-floor.result ≡ floor_of c.args.column c.loop-row.floor (slice_range G.cells from to) =
    c.lowest-floor.ensures ∙ ap (floor_of c.args.column c.loop-row.floor) (sym cells) in
    let W : model.TableRow → List GridCell → Type 0 = λ t l. Collects S items (row_widened P t c.args.column l (nat_lt index c.lowest-floor.result)) c.loop-row.edits c.widen_row.new.edits in
    let g = subst (λ (l : List GridCell). W (get_or trs index (row_of d)) l) (sym cells)
    (subst (λ (t : model.TableRow). W t (slice_range c.cells-cells.result.now from to)) (sym tr) c.in_ok-widen_row.ensures) in
    widened_next S items P G c.args.column trs n index from to c.loop-row.floor (row_of d) c.new-edits.result c.loop-row.edits inside c.loop-row.invariant run c.widen_row.new.edits c.lowest-floor.result low g

pub returns-clause-means : goal.returns-clause-means
returns-clause-means c =
    let S = c.args.doc.store.now in
    let items = c.args.doc.list.now.items in
    let P = plain_list S items in
    let G = c.args.table.now.grid in
    let rows = c.args.table.now.rows in
    let trs = map row_of rows in
    let n = length rows in
    let E = col_in_edits P trs c.args.column G in
    let none : flat_map (column_edits P c.args.column G) (enumerate_from c.loop-row.row (drop c.loop-row.row trs)) ≡ [] =
    ap (λ (l : List model.TableRow). flat_map (column_edits P c.args.column G) (enumerate_from c.loop-row.row l))
    (drop_all c.loop-row.row trs (omega (arith, length-map rows row_of, ap (λ (l : List TableRow). length l) c.as_slice-rows.ensures, c.loop-row-test.false))) in
    let done = way_last S items E c.new-edits.result c.loop-row.edits (subst (λ (l : List Edit). IsPartWay S items E l c.new-edits.result c.loop-row.edits) none c.loop-row.invariant.way) in
    c.in_ok-tx.ensures.means S E (finished_as S items E c.new-edits.result c.loop-row.edits done (c.new-edits.ensures.makes S items))

pub returns-clause-cites : goal.returns-clause-cites
returns-clause-cites c =
    let S = c.args.doc.store.now in
    let items = c.args.doc.list.now.items in
    let P = plain_list S items in
    let G = c.args.table.now.grid in
    let rows = c.args.table.now.rows in
    let trs = map row_of rows in
    let n = length rows in
    let E = col_in_edits P trs c.args.column G in
    let none : flat_map (column_edits P c.args.column G) (enumerate_from c.loop-row.row (drop c.loop-row.row trs)) ≡ [] =
    ap (λ (l : List model.TableRow). flat_map (column_edits P c.args.column G) (enumerate_from c.loop-row.row l))
    (drop_all c.loop-row.row trs (omega (arith, length-map rows row_of, ap (λ (l : List TableRow). length l) c.as_slice-rows.ensures, c.loop-row-test.false))) in
    let done = way_last S items E c.new-edits.result c.loop-row.edits (subst (λ (l : List Edit). IsPartWay S items E l c.new-edits.result c.loop-row.edits) none c.loop-row.invariant.way) in
    c.in_ok-tx.ensures.cites S E (finished_as S items E c.new-edits.result c.loop-row.edits done (c.new-edits.ensures.makes S items))
