use Rattle.std.proofs.Common.{not, sym, ap, ◌∙◌}
use Rattle.model_items.specs.Same.{marks_same}
use Rattle.ve_build_shape.proofs.MarkLemmas.{set_keeps, take_off_keeps}
use Rattle.ve_build_shape.specs.Remarked.{marks_after}
use Rattle.ve_build_shape.specs.declared.changes.Remark.{Remark}
use Rattle.ve_build_shape.proofs.changes.keeps_marks.Goals as goal

pub returns-in-Set : goal.returns-in-Set
returns-in-Set c =
    let m = c.args.mark.now in
    let marks = c.args.marks.now in
    c.has_mark-has.ensures ∙ sym (set_keeps m marks) ∙ ap (λ (r : Remark). marks_same (marks_after r m marks) marks) (sym c.in-Set.is)

pub returns-in-TakeOff : goal.returns-in-TakeOff
returns-in-TakeOff c =
    let m = c.args.mark.now in
    let marks = c.args.marks.now in
    ap not c.has_mark-has.ensures ∙ sym (take_off_keeps m marks) ∙ ap (λ (r : Remark). marks_same (marks_after r m marks) marks) (sym c.in-TakeOff.is)
