use Rattle.std.proofs.Common.{List, [], ◌∷◌, ◌++◌, ap, ◌∙◌, subst}
use Rattle.std.specs.Prelude.{Bool}
use Rattle.model_items.specs.declared.item.Item.{Item}
use Rattle.ve_tables.specs.Fresh.{AreCellsPut}
use Rattle.ve_tables.proofs.FreshLemmas.{row_means, row_cites}
use Rattle.ve_tables.proofs.fresh.new_row.Goals as goal

pub returns-clause-means : goal.returns-clause-means
returns-clause-means c = λ values.
    row_means c.args.row c.args.grid.now c.in_ok-taken.taken.items c.push.new.self c.put_cells.new.items c.push-2.new.self c.in_ok-taken.ensures
    (c.in_ok-push.ensures.ok ∙ ap (λ (l : List Item). l ++ c.opening.result ∷ []) c.new-items.ensures ∙ ap (λ (x : Item). x ∷ []) c.opening.ensures)
    (subst (λ (t : List Bool). AreCellsPut c.push.new.self t c.put_cells.new.items) c.deref.ensures.value c.in_ok-put_cells.ensures)
    (c.in_ok-push-2.ensures.ok ∙ ap (λ (x : Item). c.put_cells.new.items ++ x ∷ []) c.closing.ensures) values

pub returns-clause-cites : goal.returns-clause-cites
returns-clause-cites c = λ values.
    row_cites c.args.row c.args.grid.now c.in_ok-taken.taken.items c.push.new.self c.put_cells.new.items c.push-2.new.self c.in_ok-taken.ensures
    (c.in_ok-push.ensures.ok ∙ ap (λ (l : List Item). l ++ c.opening.result ∷ []) c.new-items.ensures ∙ ap (λ (x : Item). x ∷ []) c.opening.ensures)
    (subst (λ (t : List Bool). AreCellsPut c.push.new.self t c.put_cells.new.items) c.deref.ensures.value c.in_ok-put_cells.ensures)
    (c.in_ok-push-2.ensures.ok ∙ ap (λ (x : Item). c.put_cells.new.items ++ x ∷ []) c.closing.ensures) values
