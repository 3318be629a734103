use Rattle.std.proofs.Common.{ℕ, Bool, List, [], ◌∷◌, ◌++◌, if◌then◌else◌, length, sym, ap, ◌∙◌, subst}
use Rattle.model_items.specs.declared.plain_item.PlainItem.{PlainItem}
use Rattle.model_items.specs.Plain.{plain_list}
use Rattle.model_edit.specs.Edits.{Edit, Change}
use Rattle.model_edit.specs.Tables.{cell_place, new_cell}
use Rattle.ve_tables.specs.PartWay.{Collects, grown_columns}
use Rattle.ve_tables.specs.Rows.{row_of}
use Rattle.ve_tables.proofs.PartWayLemmas.{and_change, order_first}
use Rattle.ve_tables.proofs.column_edits.widen_row.Goals as goal

pub grow_cells-requires-clause-order : goal.grow_cells-requires-clause-order
grow_cells-requires-clause-order c = order_first c.args.edits.now.at (length c.args.doc.list.now.items) (grown_columns c.args.column c.args.cells.now) _ c.requires.order

pub returns : goal.returns
returns c =
    let S = c.args.doc.store.now in
    let items = c.args.doc.list.now.items in
    let P = plain_list S items in
    let sets = grown_columns c.args.column c.args.cells.now in
    let place = c.cell_place-place.result in
    let model = cell_place P (row_of c.args.row) c.args.column c.args.cells.now in
    let whole = and_change S items sets place 0 c.new_cell.result c.args.edits.now c.grow_cells.new.edits c.change.new.self c.in_ok-grow_cells.ensures c.in_ok-change.ensures.at c.requires.cites
    (c.new_cell.ensures.cites S) c.in_ok-change.ensures.makes in
    let W : List Edit → Type 0 = λ e. Collects S items (sets ++ e) c.args.edits.now c.change.new.self in
    subst W
    (ap (λ (n : ℕ). Change n 0 (plain_list S c.new_cell.result) ∷ []) c.cell_place-place.ensures
    ∙ ap (λ (l : List PlainItem). Change model 0 l ∷ []) (c.new_cell.ensures.means S)
    ∙ ap (λ (b : Bool). if b then [] else Change model 0 new_cell ∷ []) (sym c.if-grown.false))
    whole
