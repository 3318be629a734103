use Rattle.std.proofs.Common.{◌++◌, ◌∷◌, [], map, refl, sym, ap, ◌∙◌}
use Rattle.ve_kinds.specs.declared.kind.Kind.TheVariants.{Thead, Tbody, Tfoot, Tr}
use Rattle.model_items.specs.Tree.{Open}
use Rattle.model_edit.specs.Grid as model
use Rattle.ve_offsets.specs.Docs.{page_items}
use Rattle.ve_tables.specs.Rows.{row_of, child_places}
use Rattle.ve_tables.proofs.RowLemmas.{rows_flat, rows_of_places}
use Rattle.ve_tables.proofs.rows.table_rows.Goals as goal

pub loop-section-init : goal.loop-section-init
loop-section-init c =
    let P = page_items c.args.doc in
    let inside = child_places (Tr ∷ []) P in
    ap (λ r. map row_of r ++ rows_of_places inside c.as_slice-section-items.result.now) c.new-rows.ensures
    ∙ ap (rows_of_places inside) (c.as_slice-section-items.ensures ∙ c.in_ok-sections.ensures)
    ∙ sym (rows_flat (λ (s : Open). model.children_of (Tr ∷ []) P s.from) inside (model.children_of (Thead ∷ Tbody ∷ Tfoot ∷ []) P c.args.at) (λ s. refl))
