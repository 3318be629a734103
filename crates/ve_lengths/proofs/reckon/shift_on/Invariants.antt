use Rattle.std.proofs.Common.{◌≡◌, ℕ, ◌<◌, ◌≤◌, ◌+◌, ◌*◌, get_or}
use Rattle.ve_lengths.proofs.reckon.shift_on.Given as goal

abbrev pub invariant-loop-group : goal.invariant-loop-group
invariant-loop-group l = record {
  before : (g : ℕ) → g < l.first → get_or l.starts g 0 ≡ get_or l.initial.starts g 0;
  done : (g : ℕ) → l.first ≤ g → g < l.group → get_or l.starts g 0 + get_or l.lens (16 * g) 0 ≡ get_or l.initial.starts g 0 + l.len;
  rest : (g : ℕ) → l.group ≤ g → get_or l.starts g 0 ≡ get_or l.initial.starts g 0;
}
