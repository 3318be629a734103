use Rattle.std.proofs.Common.{◌≡◌, ◌≤◌, ◌-◌, ℕ, false, length, Option}
use Rattle.model_page.specs.References.{Body}
use Rattle.ve_write.specs.Bare.{is_run_in, spelled_at}
use Rattle.ve_write.proofs.run.is_run.Given as goal

abbrev pub invariant-loop-alloc : goal.invariant-loop-alloc
invariant-loop-alloc l = record {
  within : l.at ≤ length l.list.items;
  same : (bodies : ℕ → Option Body) → is_run_in false (spelled_at l.store l.list.items l.from bodies).here ≡ is_run_in l.seen (spelled_at l.store l.list.items l.at bodies).here;
}

abbrev pub decreases-loop-alloc : goal.decreases-loop-alloc
decreases-loop-alloc l = length l.list.items - l.at
