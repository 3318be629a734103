use Rattle.std.proofs.Common.{◌≡◌, drop}
use Rattle.model_world.specs.Attributes.{are_free}
use Rattle.ve_json.proofs.attributes.are_free.Given as goal

abbrev pub invariant-loop-attr : goal.invariant-loop-attr
invariant-loop-attr l = are_free (drop l.attr-index l.attrs) ≡ are_free l.attrs
