use Rattle.std.proofs.Common.{◌≡◌, ◌+◌, suc, Some, codes, [], length, get_or, refl, sym, ◌∙◌, subst, arith, append-nil}
use Rattle.std.specs.Str.{chars}
use Rattle.std.specs.Prelude.{decimal}
use Rattle.model_edit.specs.Edits.{InOrder}
use Rattle.model_edit.specs.Tables.{set_columns, spans_column}
use Rattle.ve_tables.specs.PartWay.{grown_columns}
use Rattle.ve_tables.proofs.RowLemmas.{colspan_is}
use Rattle.ve_tables.proofs.PartWayLemmas.{no_cell, here_order, here_next, set_as, set_within}
use Rattle.ve_tables.proofs.column_edits.grow_cells.Goals as goal

pub set_span-requires-clause-within : goal.set_span-requires-clause-within
set_span-requires-clause-within c =
    let items = c.args.doc.list.now.items in
    let cells = c.args.cells.now in
    let cell = get_or cells c.loop-cell.cell-index no_cell in
    let ordered = subst (InOrder c.args.edits.now.at (length items)) (sym (append-nil (grown_columns c.args.column cells))) c.requires.order in
    let here = here_order c.args.doc.store.now items (spans_column c.args.column) (λ cell. set_columns (suc cell.columns) cell) cells cells c.loop-cell.cell-index c.args.edits.now.at
    c.args.edits.now c.loop-cell.edits refl refl c.loop-cell-test.true (sym c.spans_column.ensures ∙ c.if-not-spans_column.false) c.loop-cell.invariant [] ordered in
    let inside = set_within c.loop-cell.edits.at (length items) cell.at (codes "colspan") (Some (decimal (suc cell.columns))) _ here in
    omega (arith, inside)

pub loop-cell-preserved : goal.loop-cell-preserved
loop-cell-preserved c =
    let S = c.args.doc.store.now in
    let items = c.args.doc.list.now.items in
    let cells = c.args.cells.now in
    let cell = get_or cells c.loop-cell.cell-index no_cell in
    let more : cell.columns + 1 ≡ suc cell.columns = omega arith in
    here_next S items (spans_column c.args.column) (λ cell. set_columns (suc cell.columns) cell) cells cells c.loop-cell.cell-index c.args.edits.now.at
    c.args.edits.now c.loop-cell.edits refl refl c.loop-cell-test.true (sym c.spans_column.ensures ∙ c.if-not-spans_column.false) c.loop-cell.invariant c.set_span.new.edits
    (set_as S items cell.at (chars (codes "colspan")) (codes "colspan") (cell.columns + 1) (suc cell.columns) c.loop-cell.edits c.set_span.new.edits colspan_is more c.in_ok-set_span.ensures)
