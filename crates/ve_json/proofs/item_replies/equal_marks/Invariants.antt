use Rattle.std.proofs.Common.{◌≡◌, drop}
use Rattle.model_items.specs.Same.{marks_same}
use Rattle.ve_json.proofs.item_replies.equal_marks.Given as goal

abbrev pub invariant-loop-i : goal.invariant-loop-i
invariant-loop-i l = marks_same l.one l.other ≡ marks_same (drop l.i l.one) (drop l.i l.other)
