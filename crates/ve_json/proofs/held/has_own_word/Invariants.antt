use Rattle.std.proofs.Common.{◌≡◌}
use Rattle.ve_json.specs.Begun.{after_all}
use Rattle.ve_json.specs.declared.held.Begun.TheVariants.{Nothing}
use Rattle.ve_json.proofs.held.has_own_word.Given as goal

abbrev pub invariant-loop-ch : goal.invariant-loop-ch
invariant-loop-ch l = l.so_far ≡ after_all Nothing l.yielded
