use Rattle.std.proofs.Common.{◌≡◌, ◌≤◌, ◌+◌, ◌^◌, suc, length, drop}
use Rattle.model_site.specs.Untold.{max_patches, with_patches}
use Rattle.ve_tx.specs.Normal.{total_size}
use Rattle.ve_site.specs.Patches.{all_changed}
use Rattle.ve_site.proofs.untold.Untold.note_ops.Given as goal

abbrev pub invariant-loop-op : goal.invariant-loop-op
invariant-loop-op l = record {
  noted : with_patches (all_changed l.at (drop l.op-index l.ops)) l.self ≡ with_patches (all_changed 0 (l.ops)) l.fn.self;
  room : l.at + total_size (drop l.op-index l.ops) ≤ 2 ^ 60;
  within : length l.self.patches ≤ suc max_patches;
}
