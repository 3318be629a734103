use Rattle.std.proofs.Common.{not, ◌&&◌, sym, ap, ◌∙◌}
use Rattle.model_items.specs.Plain.{plain_list}
use Rattle.model_edit.specs.Insert.{is_content_pieces}
use Rattle.ve_build_insert.proofs.PieceLemmas.{and_true, and_false}
use Rattle.ve_build_insert.proofs.pieces.wants_paragraph.Goals as goal

pub returns-then-is_content_branch : goal.returns-then-is_content_branch
returns-then-is_content_branch c = λ values.
    sym (ap (λ b. is_content_pieces (plain_list values c.args.pieces.now) && not b) (sym c.is_content_branch.ensures ∙ c.if-is_content_branch.true)
    ∙ and_false (is_content_pieces (plain_list values c.args.pieces.now)))

pub returns : goal.returns
returns c = λ values.
    c.all_outer.ensures values
    ∙ sym (ap (λ b. is_content_pieces (plain_list values c.args.pieces.now) && not b) (sym c.is_content_branch.ensures ∙ c.if-is_content_branch.false)
    ∙ and_true (is_content_pieces (plain_list values c.args.pieces.now)))
