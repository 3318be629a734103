use Rattle.std.proofs.Common.{take, Contains}
use Rattle.std.specs.Str.{chars}
use Rattle.ve_base.specs.Names.{names}
use Rattle.ve_base.proofs.attrs.Attrs.has_name.Given as goal

abbrev pub invariant-loop-attr : goal.invariant-loop-attr
invariant-loop-attr l = ¬ Contains (names (take l.attr-index l.attr-items)) (chars l.name)
