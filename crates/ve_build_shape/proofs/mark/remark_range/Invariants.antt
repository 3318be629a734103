use Rattle.std.proofs.Common.{IfSome}
use Rattle.ve_store.specs.Following.{together}
use Rattle.ve_build_shape.specs.Remarked.{marks_after, IsMarksChange, IsRemarked}
use Rattle.ve_build_shape.proofs.mark.remark_range.Given as goal

abbrev pub invariant-loop-at : goal.invariant-loop-at
invariant-loop-at l =
    let f = marks_after l.fn.remark l.fn.mark in
    record {
      remarked : IsRemarked l.fn.doc.store.now l.fn.doc.list.now.items f l.fn.from l.at l.fn.new l.new l.edits;
      last : IfSome l.last (IsMarksChange (together l.fn.doc.store.now l.new) f);
    }
