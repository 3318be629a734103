use Rattle.std.proofs.Common.{◌≡◌, ◌≤◌, suc, length, drop}
use Rattle.model_site.specs.Untold.{max_patches, with_patches}
use Rattle.ve_site.specs.Patches.{changed_by_all}
use Rattle.ve_site.proofs.untold.Untold.note.Given as goal

abbrev pub invariant-loop-tx : goal.invariant-loop-tx
invariant-loop-tx l = record {
  noted : with_patches (changed_by_all (drop l.tx-index l.txs)) l.self ≡ with_patches (changed_by_all l.txs) l.fn.self;
  within : length l.self.patches ≤ suc max_patches;
}
