use Rattle.std.proofs.Common.{◌-◌, ◌≡◌, ◌≤◌, ◌++◌, length, drop, take, reverse, flat_map, IsUtf8}
use Rattle.model_page_write.specs.Written as written
use Rattle.ve_node_text.proofs.marking.close_marks.Given as goal

abbrev pub invariant-loop-k : goal.invariant-loop-k
invariant-loop-k l = record {
  more : l.n ≤ l.k;
  within : l.k ≤ length l.opened;
  closed : l.out ++ flat_map written.mark_end (reverse (drop l.n (take l.k l.opened))) ≡ l.initial.out ++ flat_map written.mark_end (reverse (drop l.n l.opened));
  utf8 : IsUtf8 l.initial.out → IsUtf8 l.out;
}

abbrev pub decreases-loop-k : goal.decreases-loop-k
decreases-loop-k l = l.k - l.n
