use Rattle.std.proofs.Common.{◌≡◌, ◌++◌, ◌∷◌, [], map, drop}
use Rattle.ve_kinds.specs.declared.kind.Kind.TheVariants.{Tr}
use Rattle.model_edit.specs.Grid as model
use Rattle.ve_offsets.specs.Docs.{page_items}
use Rattle.ve_tables.specs.Rows.{row_of, child_places}
use Rattle.ve_tables.proofs.RowLemmas.{rows_of_places}
use Rattle.ve_tables.proofs.rows.table_rows.Given as goal

abbrev pub invariant-loop-section : goal.invariant-loop-section
invariant-loop-section l =
    map row_of l.rows ++ rows_of_places (child_places (Tr ∷ []) (page_items l.fn.doc)) (drop l.section-index l.section-items) ≡ model.table_rows (page_items l.fn.doc) l.fn.at
