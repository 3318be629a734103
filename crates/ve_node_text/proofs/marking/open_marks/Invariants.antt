use Rattle.std.proofs.Common.{◌≡◌, ◌++◌, drop, flat_map, IsUtf8}
use Rattle.model_page_write.specs.Written as written
use Rattle.ve_node_text.proofs.marking.open_marks.Given as goal

abbrev pub invariant-loop-mark : goal.invariant-loop-mark
invariant-loop-mark l = record {
  text : l.out ++ flat_map written.mark_start (drop l.mark-index l.marks) ≡ l.initial.out ++ flat_map written.mark_start l.marks;
  utf8 : IsUtf8 l.initial.out → IsUtf8 l.out;
}
