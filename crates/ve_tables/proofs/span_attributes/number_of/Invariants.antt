use Rattle.std.proofs.Common.{◌≡◌, ◌≤◌, length, drop}
use Rattle.std.specs.Str.{chars}
use Rattle.model_edit.specs.Grid.{number_after, span_by}
use Rattle.ve_tables.proofs.span_attributes.number_of.Given as goal

abbrev pub invariant-loop-ch : goal.invariant-loop-ch
invariant-loop-ch l = record {
  finite : (goal.iterator-loop-ch).is_finite l.ch-iterator;
  can_next : (goal.iterator-loop-ch).can_next l.ch-iterator;
  most : l.number ≤ l.most;
  means : span_by l.most (number_after l.number (drop (length l.yielded) (chars l.text))) ≡ span_by l.most (number_after 0 (chars l.text));
}
