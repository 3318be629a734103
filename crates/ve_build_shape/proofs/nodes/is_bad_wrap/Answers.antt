use Rattle.std.proofs.Common.{◌||◌, not, sym, ap, ◌∙◌}
use Rattle.model_items.specs.Offsets.{some_in_range}
use Rattle.model_items.specs.Plain.{plain_list}
use Rattle.model_edit.specs.Brackets.{is_internal_bracket}
use Rattle.ve_build_shape.proofs.nodes.is_bad_wrap.Goals as goal

pub returns-then-not-is_whole_nodes-clause-means : goal.returns-then-not-is_whole_nodes-clause-means
returns-then-not-is_whole_nodes-clause-means c = λ values.
    let P = plain_list values c.args.doc.list.now.items in
    sym (ap (λ b. not b || some_in_range is_internal_bracket P c.args.from c.args.to) (sym (c.is_whole_nodes.ensures.means values) ∙ c.if-not-is_whole_nodes.true))

pub returns-clause-means : goal.returns-clause-means
returns-clause-means c = λ values.
    let P = plain_list values c.args.doc.list.now.items in
    c.has_internal.ensures values
    ∙ sym (ap (λ b. not b || some_in_range is_internal_bracket P c.args.from c.args.to) (sym (c.is_whole_nodes.ensures.means values) ∙ c.if-not-is_whole_nodes.false))
