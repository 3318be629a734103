use Rattle.std.proofs.Common.{sym, ap, ◌∙◌}
use Rattle.model_change.specs.Store.{fill, marks_cited}
use Rattle.ve_store.specs.Following.{together, marks_at}
use Rattle.ve_build_shape.proofs.MarkLemmas.{marked_fills, unmarked_fills}
use Rattle.ve_build_shape.specs.Remarked.{marks_after}
use Rattle.ve_build_shape.specs.declared.changes.Remark.{Remark}
use Rattle.ve_build_shape.proofs.changes.changed_marks.Goals as goal

pub returns-in_ok-id-in-Set-clause-fills : goal.returns-in_ok-id-in-Set-clause-fills
returns-in_ok-id-in-Set-clause-fills c =
    let V = together c.args.store.now c.args.new.now in
    marked_fills V (together c.args.store.now c.with_mark.new.new) c.args.marks c.args.mark.now c.requires.cites c.in_ok-id-in-Set.ensures.ok
    ∙ ap (λ (r : Remark). fill V (marks_cited (marks_after r c.args.mark.now (marks_at V c.args.marks)))) (sym c.in-Set.is)

pub returns-in_ok-id-in-TakeOff-clause-fills : goal.returns-in_ok-id-in-TakeOff-clause-fills
returns-in_ok-id-in-TakeOff-clause-fills c =
    let V = together c.args.store.now c.args.new.now in
    unmarked_fills V (together c.args.store.now c.without_mark.new.new) c.args.marks c.args.mark.now c.in_ok-id-in-TakeOff.ensures.ok
    ∙ ap (λ (r : Remark). fill V (marks_cited (marks_after r c.args.mark.now (marks_at V c.args.marks)))) (sym c.in-TakeOff.is)
