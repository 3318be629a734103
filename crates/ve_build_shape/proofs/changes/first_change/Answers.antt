use Rattle.std.proofs.Common.{sym, ap, ◌∙◌}
use Rattle.model_items.specs.Same.{marks_same}
use Rattle.ve_build_shape.proofs.ChangeLemmas.{cites_still, change_kept, change_made}
use Rattle.ve_build_shape.specs.Remarked.{marks_after}
use Rattle.ve_build_shape.proofs.changes.first_change.Goals as goal

pub returns-then-keeps_marks-clause-changes : goal.returns-then-keeps_marks-clause-changes
returns-then-keeps_marks-clause-changes c =
    let f = marks_after c.args.remark c.args.mark.now in
    change_kept c.args.store.now c.args.marks c.requires.cites f c.args.new.now (sym (ap (λ l. marks_same (f l) l) c.marks_at.ensures) ∙ sym c.keeps_marks.ensures ∙ c.if-keeps_marks.true)

pub changed_marks-requires-clause-cites : goal.changed_marks-requires-clause-cites
changed_marks-requires-clause-cites c = cites_still c.args.store.now c.args.marks c.requires.cites c.args.new.now

pub returns-clause-changes : goal.returns-clause-changes
returns-clause-changes c =
    let f = marks_after c.args.remark c.args.mark.now in
    let made = c.in_ok-after.ensures in
    change_made c.args.store.now c.args.marks c.requires.cites f c.args.new.now c.changed_marks.new.new c.in_ok-after.after
    (sym (ap (λ l. marks_same (f l) l) c.marks_at.ensures) ∙ sym c.keeps_marks.ensures ∙ c.if-keeps_marks.false) made.cites made.cited made.fills
