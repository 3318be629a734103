use Rattle.std.proofs.Common.{List, ℕ, length, ◌-◌, ◌≡◌, ◌++◌, drop}
use Rattle.model_spelling.specs.Written.{escaped}
use Rattle.ve_html_write.proofs.escape.push_escaped.Given as goal

abbrev pub invariant-loop-at : goal.invariant-loop-at
invariant-loop-at l = record {
  whole : l.out ++ escaped l.in_value (drop l.at l.bytes) ≡ l.initial.out ++ escaped l.in_value l.bytes;
  begun : (part : List ℕ) × (l.out ≡ l.initial.out ++ part);
}

abbrev pub decreases-loop-at : goal.decreases-loop-at
decreases-loop-at l = length l.bytes - l.at
