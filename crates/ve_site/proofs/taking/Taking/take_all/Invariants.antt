use Rattle.std.proofs.Common.{◌-◌, length}
use Rattle.ve_site.proofs.FeedLemmas.{IsAlong}
use Rattle.ve_site.proofs.taking.Taking.take_all.Given as goal

abbrev pub invariant-loop-at : goal.invariant-loop-at
invariant-loop-at g l = IsAlong l.fn.self l.parcels l.at l.self l.fn.steps l.steps

abbrev pub decreases-loop-at : goal.decreases-loop-at
decreases-loop-at g l = length l.parcels - l.at
