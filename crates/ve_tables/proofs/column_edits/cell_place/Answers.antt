use Rattle.std.proofs.Common.{◌-◌, length, sym, ◌∙◌, arith}
use Rattle.std.proofs.lemmas.Bool.{le-leb, eqb-true, eqb-false}
use Rattle.ve_offsets.specs.Docs.{page_items}
use Rattle.ve_tables.specs.Rows.{row_of}
use Rattle.ve_tables.proofs.PlaceLemmas.{cell_before, cell_none, cell_after}
use Rattle.ve_tables.proofs.PartWayLemmas.{no_cell}
use Rattle.ve_tables.proofs.column_edits.cell_place.Goals as goal

pub returns-then-column-cell : goal.returns-then-column-cell
returns-then-column-cell c =
    sym (cell_before (page_items c.args.doc) (row_of c.args.row) c.args.column c.args.cells.now c.loop-cell.cell-index no_cell c.loop-cell-test.true c.loop-cell.invariant (le-leb c.args.column _ c.if-column-cell.true))

pub returns : goal.returns
returns c =
    let cells = c.args.cells.now in
    let some = eqb-false (length cells) 0 (sym c.is_empty.ensures ∙ c.if-is_empty.false) in
    c.node_end.ensures.means
    ∙ sym (cell_after (page_items c.args.doc) (row_of c.args.row) c.args.column cells (length cells - 1) no_cell (omega (arith, some))
    (λ k d less. c.loop-cell.invariant k d (omega (arith, less, c.loop-cell-test.false))))

pub returns-then-is_empty : goal.returns-then-is_empty
returns-then-is_empty c =
    let none = eqb-true (length c.args.cells.now) 0 (sym c.is_empty.ensures ∙ c.if-is_empty.true) in
    c.partner.ensures c.args.doc.store.now ∙ sym (cell_none (page_items c.args.doc) (row_of c.args.row) c.args.column c.args.cells.now none)
