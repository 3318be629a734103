use Rattle.std.proofs.Common.{◌≡◌, take}
use Rattle.model_items.specs.Marks.{without_mark}
use Rattle.ve_store.proofs.marks.rest_of.Given as goal

abbrev pub invariant-loop-one : goal.invariant-loop-one
invariant-loop-one l = l.rest ≡ without_mark l.mark (take l.one-index l.marks)
