use Rattle.std.proofs.Common.{◌≡◌, ◌+◌, ◌++◌, length, drop}
use Rattle.ve_select.specs.Runs.{first_chars}
use Rattle.ve_select.proofs.run.push_chars.Given as goal

abbrev pub invariant-loop-item : goal.invariant-loop-item
invariant-loop-item l =
    (l.text ++ first_chars (drop l.item-index l.items) ≡ l.initial.text ++ first_chars l.items)
    × (l.count + length (first_chars (drop l.item-index l.items)) ≡ length (first_chars l.items))
    × (l.count ≡ l.item-index)
