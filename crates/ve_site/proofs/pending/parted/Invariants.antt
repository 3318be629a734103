use Rattle.std.proofs.Common.{◌≡◌, ◌≤◌, ◌<◌, ◌++◌, [], length}
use Rattle.ve_site.proofs.pending.parted.Given as goal

abbrev pub invariant-loop-entry : goal.invariant-loop-entry
invariant-loop-entry l = record {
  together : l.first.items ++ (l.second.items ++ l.entry-iterator.rest.items) ≡ l.fn.entries;
  long : l.entry-iterator.rest.len ≡ length l.entry-iterator.rest.items;
  within : length l.first.items ≤ l.at;
  full : length l.first.items < l.at → l.second.items ≡ [];
}
