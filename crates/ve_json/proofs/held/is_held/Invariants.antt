use Rattle.std.proofs.Common.{◌≡◌, drop}
use Rattle.std.specs.List.{list_any}
use Rattle.model_world.specs.Attributes.{holds_whole}
use Rattle.ve_json.proofs.held.is_held.Given as goal

abbrev pub invariant-loop-attr : goal.invariant-loop-attr
invariant-loop-attr l = list_any holds_whole (drop l.attr-index l.attrs) ≡ list_any holds_whole l.attrs
