use Rattle.std.proofs.Common.{◌≡◌, drop}
use Rattle.ve_kinds.specs.Table as table
use Rattle.ve_tables.proofs.children.is_among.Given as goal

abbrev pub invariant-loop-one : goal.invariant-loop-one
invariant-loop-one l = table.is_among (drop l.one-index l.kinds) l.kind ≡ table.is_among l.kinds l.kind
