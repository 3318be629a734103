use Rattle.std.proofs.Common.{◌≡◌, ◌≤◌, length, drop}
use Rattle.model_site.specs.Untold.{with_patches}
use Rattle.ve_site.specs.Patches.{undone_by_all}
use Rattle.ve_site.proofs.untold.Untold.note_back.Given as goal

abbrev pub invariant-loop-at : goal.invariant-loop-at
invariant-loop-at l = record {
  noted : l.self ≡ with_patches (undone_by_all (drop l.at l.txs)) l.fn.self;
  within : l.at ≤ length l.txs;
}

abbrev pub decreases-loop-at : goal.decreases-loop-at
decreases-loop-at l = l.at
