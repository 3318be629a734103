use Rattle.std.proofs.Common.{IfSome, subst}
use Rattle.ve_store.specs.Following.{together}
use Rattle.ve_build_shape.proofs.ChangeLemmas.{change_again}
use Rattle.ve_build_shape.specs.Remarked.{marks_after, IsMarksChange}
use Rattle.ve_build_shape.proofs.changes.next_change.Goals as goal

pub returns-then-same_id-clause-changes : goal.returns-then-same_id-clause-changes
returns-then-same_id-clause-changes c =
    let f = marks_after c.args.remark c.args.mark.now in
    let holds = subst (λ o. IfSome o (IsMarksChange (together c.args.store.now c.args.new.now) f)) c.in-Some.is c.requires.last in
    change_again c.args.store.now f c.args.marks c.args.new.now c.in-Some.change holds (c.same_id.ensures.0 c.if-same_id.true)
