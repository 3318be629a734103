use Rattle.std.proofs.Common.{◌-◌, ◌+◌, ◌≡◌, ◌≤◌, drop}
use Rattle.model_page_write.specs.Written as written
use Rattle.ve_node_text.proofs.marking.common_count.Given as goal

abbrev pub invariant-loop-n : goal.invariant-loop-n
invariant-loop-n l = record {
  within : l.n ≤ l.most;
  rest : l.n + written.common_count (drop l.n l.opened) (drop l.n l.marks) ≡ written.common_count l.opened l.marks;
}

abbrev pub decreases-loop-n : goal.decreases-loop-n
decreases-loop-n l = l.most - l.n
