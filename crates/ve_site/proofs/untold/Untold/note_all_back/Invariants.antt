use Rattle.std.proofs.Common.{◌≡◌, ◌≤◌, List, length, drop}
use Rattle.ve_base.specs.declared.value.Value.{Value}
use Rattle.model_site.specs.Untold.{passed}
use Rattle.ve_site.specs.Dropped.{back_over}
use Rattle.ve_site.proofs.untold.Untold.note_all_back.Given as goal

abbrev pub invariant-loop-at : goal.invariant-loop-at
invariant-loop-at l = record {
  noted : (values : List Value) → l.self ≡ passed (back_over values (drop l.at l.entries)) l.fn.self;
  within : l.at ≤ length l.entries;
}

abbrev pub decreases-loop-at : goal.decreases-loop-at
decreases-loop-at l = l.at
