use Rattle.std.proofs.Common.{List, ap, ◌∙◌}
use Rattle.std.specs.List.{position_or_len}
use Rattle.ve_base.specs.declared.marks.Mark.{Mark}
use Rattle.ve_base.specs.declared.value.Value.TheVariants as value
use Rattle.model_items.specs.Same.{value_same}
use Rattle.ve_store.specs.Following.{together}
use Rattle.model_items.specs.Marks.{without_mark}
use Rattle.ve_store.proofs.marks.without_mark.Goals as goal

pub returns-clause-place : goal.returns-clause-place
returns-clause-place c =
    c.in_ok-id.ensures.place
    ∙ ap (λ (marks : List Mark). position_or_len (value_same (value.Marks marks)) (together c.args.store.now c.args.new.now))
    (c.in_ok-rest.ensures ∙ ap (λ (marks : List Mark). without_mark c.args.mark.now marks) c.cited_marks-cited.ensures)
