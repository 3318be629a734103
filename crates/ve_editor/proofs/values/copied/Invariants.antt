use Rattle.std.proofs.Common.{◌≡◌, take}
use Rattle.ve_editor.proofs.values.copied.Given as goal

abbrev pub invariant-loop-place : goal.invariant-loop-place
invariant-loop-place l = l.values ≡ take l.place l.new.values
