-- Operations as they are put together, each with the position that it keeps.
use Rattle.std.specs.Prelude.{List}
use Rattle.ve_tx.specs.declared.gathered.Gathered.{Gathered}
use Rattle.ve_tx.specs.Operation.{Operation, with_positions}

abbrev pub gathered : Gathered → List Operation
gathered made = with_positions made.ops.items made.kept.items
