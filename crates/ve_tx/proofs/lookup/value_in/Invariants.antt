use Rattle.std.proofs.Common.{◌≡◌, drop}
use Rattle.model_change.specs.Attributes.{value_of}
use Rattle.ve_tx.proofs.lookup.value_in.Given as goal

abbrev pub invariant-loop-attr : goal.invariant-loop-attr
invariant-loop-attr l = value_of l.name (drop l.attr-index l.attrs) ≡ value_of l.name l.attrs
