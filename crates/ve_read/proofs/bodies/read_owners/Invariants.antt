use Rattle.std.proofs.Common.{◌-◌, length}
use Rattle.ve_read.proofs.BodyLemmas.{Left}
use Rattle.ve_read.proofs.bodies.read_owners.Given as goal

abbrev pub invariant-loop-k : goal.invariant-loop-k
invariant-loop-k l = Left l.from l.owners l.fn.reader l.k l.reader

abbrev pub decreases-loop-k : goal.decreases-loop-k
decreases-loop-k l = length l.owners - l.k
