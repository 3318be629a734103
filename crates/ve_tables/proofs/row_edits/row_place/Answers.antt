use Rattle.std.proofs.Common.{◌-◌, length, map, sym, ap, ◌∙◌, arith}
use Rattle.std.proofs.lemmas.List.{length-map, get_or-map}
use Rattle.model_items.specs.Offsets.{end_of_node}
use Rattle.model_edit.specs.Grid as model
use Rattle.ve_offsets.specs.Docs.{page_items}
use Rattle.ve_tables.specs.declared.rows.TableRow.{TableRow}
use Rattle.ve_tables.specs.Rows.{row_of}
use Rattle.ve_tables.proofs.PlaceLemmas.{place_before, place_after}
use Rattle.ve_tables.proofs.row_edits.row_place.Goals as goal

pub returns-then-row-rows : goal.returns-then-row-rows
returns-then-row-rows c =
    let rows = c.args.rows.now in
    let d : TableRow = record { at = 0; left = 0 } in
    let n = length-map rows row_of in
    sym (place_before (page_items c.args.doc) (map row_of rows) c.args.row (row_of d) (omega (arith, n, c.if-row-rows.true))
    ∙ ap (λ (r : model.TableRow). r.at) (get_or-map row_of rows c.args.row d (row_of d) c.if-row-rows.true))

pub returns : goal.returns
returns c =
    let P = page_items c.args.doc in
    let rows = c.args.rows.now in
    let d : TableRow = record { at = 0; left = 0 } in
    let n = length-map rows row_of in
    let last = length rows - 1 in
    c.node_end.ensures.means
    ∙ sym (place_after P (map row_of rows) c.args.row last (row_of d) (omega (arith, n, c.if-row-rows.false)) (omega (arith, n, c.requires.some))
    ∙ ap (λ (r : model.TableRow). end_of_node P r.at) (get_or-map row_of rows last d (row_of d) (omega (arith, c.requires.some))))
