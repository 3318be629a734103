use Rattle.std.proofs.Common.{◌≡◌, ◌≤◌, ◌+◌, length, drop}
use Rattle.ve_tx.specs.Spliced.{come_count, gone_count, spliced_by}
use Rattle.ve_editor.proofs.verdict.length_after.Given as goal

abbrev pub invariant-loop-splice : goal.invariant-loop-splice
invariant-loop-splice l = record {
  kept : l.kept + gone_count l.change.splices.items ≡ length l.list.items + gone_count (drop l.splice-index l.change.splices.items);
  come : l.come + come_count (drop l.splice-index l.change.splices.items) ≡ come_count l.change.splices.items;
  gone : gone_count l.change.splices.items ≤ length l.list.items;
  whole : length (spliced_by l.list.items l.change.splices.items) + gone_count l.change.splices.items ≡ length l.list.items + come_count l.change.splices.items;
}
