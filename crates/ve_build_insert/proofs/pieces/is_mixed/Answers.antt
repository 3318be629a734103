use Rattle.std.proofs.Common.{not, ◌&&◌, sym, ap, ◌∙◌}
use Rattle.model_items.specs.Plain.{plain_list}
use Rattle.ve_build_insert.proofs.PieceLemmas.{mixed_is}
use Rattle.ve_build_insert.proofs.pieces.is_mixed.Goals as goal

pub returns-then-not-blocks : goal.returns-then-not-blocks
returns-then-not-blocks c = λ values.
    let content = c.all_outer-content.result in
    let blocks = c.all_outer-blocks.result in
    sym (mixed_is (plain_list values c.args.pieces.now) content blocks (c.all_outer-content.ensures values) (c.all_outer-blocks.ensures values)
    ∙ ap (λ b. not b && not content) c.if-not-blocks.true)

pub returns-else-not-blocks : goal.returns-else-not-blocks
returns-else-not-blocks c = λ values.
    let content = c.all_outer-content.result in
    let blocks = c.all_outer-blocks.result in
    ap not c.if-not-blocks.false ∙ sym (mixed_is (plain_list values c.args.pieces.now) content blocks (c.all_outer-content.ensures values) (c.all_outer-blocks.ensures values)
    ∙ ap (λ b. not b && not content) c.if-not-blocks.false)
