use Rattle.std.proofs.Common.{IfOk, IfErr, ◌∙◌, subst, List, Result}
use Rattle.model_edit.specs.declared.grid_cell.GridCell.{GridCell}
use Rattle.model_edit.specs.Causes.{TableCause}
use Rattle.ve_offsets.specs.Docs.{page_items}
use Rattle.ve_tables.specs.Refused.{IsTableRefusal}
use Rattle.ve_tables.specs.Rows.{IsPlacedAs}
use Rattle.ve_tables.proofs.RowLemmas.{row_is}
use Rattle.ve_tables.proofs.cells.place_row.Goals as goal

pub returns-in-Ok-clause-means : goal.returns-in-Ok-clause-means
returns-in-Ok-clause-means c =
    let is = row_is (page_items c.args.doc) c.args.placing c.args.at c.as_slice.result.now (c.as_slice.ensures ∙ c.in-Ok.ensures) in
    subst (λ (v : Result (List GridCell) TableCause). IfOk c.place_cells.result (IsPlacedAs v c.args.placing.row)) is c.place_cells.ensures.means

pub returns-in-Ok-clause-refused : goal.returns-in-Ok-clause-refused
returns-in-Ok-clause-refused c =
    let is = row_is (page_items c.args.doc) c.args.placing c.args.at c.as_slice.result.now (c.as_slice.ensures ∙ c.in-Ok.ensures) in
    subst (λ (v : Result (List GridCell) TableCause). IfErr c.place_cells.result (IsTableRefusal v)) is c.place_cells.ensures.refused
