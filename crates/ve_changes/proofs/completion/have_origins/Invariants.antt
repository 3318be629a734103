use Rattle.std.proofs.Common.{◌≡◌, drop}
use Rattle.std.specs.List.{list_any}
use Rattle.ve_changes.specs.Completions.{has_origin}
use Rattle.ve_changes.proofs.completion.have_origins.Given as goal

abbrev pub invariant-loop-item : goal.invariant-loop-item
invariant-loop-item l = list_any has_origin (drop l.item-index l.items) ≡ list_any has_origin l.items
