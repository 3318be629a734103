use Rattle.std.proofs.Common.{◌≡◌, drop}
use Rattle.std.specs.List.{list_any}
use Rattle.ve_write.specs.Referring.{may_refer}
use Rattle.ve_write.proofs.references.some_may_refer.Given as goal

abbrev pub invariant-loop-at : goal.invariant-loop-at
invariant-loop-at l = list_any may_refer (drop l.at l.store) ≡ list_any may_refer l.store
