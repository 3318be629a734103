use Rattle.std.proofs.Common.{◌≡◌, drop}
use Rattle.std.specs.Str.{chars}
use Rattle.model_change.specs.Attributes.{value_of}
use Rattle.ve_tables.proofs.span_attributes.span_of.Given as goal

abbrev pub invariant-loop-attr : goal.invariant-loop-attr
invariant-loop-attr l = value_of (chars l.name) (drop l.attr-index l.attrs) ≡ value_of (chars l.name) l.attrs
