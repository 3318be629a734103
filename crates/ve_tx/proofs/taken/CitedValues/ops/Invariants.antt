use Rattle.std.proofs.Common.{◌≡◌, vec_len}
use Rattle.ve_tx.specs.Cites.{OperationCites}
use Rattle.ve_tx.specs.Making.{Extends}
use Rattle.ve_tx.specs.Taken.{AreTaken}
use Rattle.ve_tx.specs.Operation.{operation_by_value, with_positions}
use Rattle.ve_tx.specs.Parcel.{operation_cited}
use Rattle.ve_tx.proofs.AlikeLemmas.{Going}
use Rattle.ve_tx.proofs.taken.CitedValues.ops.Given as goal

abbrev pub invariant-loop-i : goal.invariant-loop-i
invariant-loop-i l =
    AreTaken l.values l.store l.self.places.keys l.self.ids.items
    × (vec_len l.made.ops ≡ vec_len l.made.kept)
    × Going
    operation_by_value
    OperationCites
    operation_cited
    l.values
    l.fn.store
    l.store
    (with_positions l.ops l.kept)
    l.i
    (with_positions l.made.ops.items l.made.kept.items)
    × Extends l.fn.store l.store
