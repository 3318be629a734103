use Rattle.std.proofs.Common.{◌≡◌, fold, take}
use Rattle.ve_store.specs.HashInput.{marks_input}
use Rattle.ve_store.proofs.hashed.hash_marks.Given as goal

abbrev pub invariant-loop-mark : goal.invariant-loop-mark
invariant-loop-mark g l = l.state ≡ fold g.H.Hasher.write l.initial.state (marks_input (take l.mark-index l.marks))
