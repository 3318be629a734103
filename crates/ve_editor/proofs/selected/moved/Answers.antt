use Rattle.std.proofs.Common.{ap, ◌∙◌}
use Rattle.model_items.specs.Plain.{plain_list}
use Rattle.model_edit.specs.Translate as model
use Rattle.model_edit.specs.declared.selection.Selection.{Selection}
use Rattle.ve_editor.proofs.selected.moved.Goals as goal

pub returns : goal.returns
returns c = λ values others.
    let new = plain_list values c.args.doc.list.now.items in
    let ends = c.translate_range-ends.ensures others in
    let anchor = c.past_leaf.ensures values ∙ ap (λ (s : Selection). model.past_leaf new s.anchor) ends in
    let focus = c.past_leaf-2.ensures values ∙ ap (λ (s : Selection). model.past_leaf new s.focus) ends in
    λ i. record { anchor = anchor i; focus = focus i }
