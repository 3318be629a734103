use Rattle.ve_editor.proofs.NoteLemmas.{AreNoted}
use Rattle.ve_editor.proofs.back.Back.note.Given as goal

abbrev pub invariant-loop-left : goal.invariant-loop-left
invariant-loop-left l = AreNoted l.initial.self l.self l.list.items l.splices l.left

abbrev pub decreases-loop-left : goal.decreases-loop-left
decreases-loop-left l = l.left
