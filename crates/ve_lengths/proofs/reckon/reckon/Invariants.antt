use Rattle.std.proofs.Common.{◌≡◌, ℕ, ◌≤◌, ◌<◌, ◌+◌, ◌*◌, ◌/◌, length, take, sum, get_or, vec_capacity}
use Rattle.ve_lengths.proofs.reckon.reckon.Given as goal

abbrev pub invariant-loop-i : goal.invariant-loop-i
invariant-loop-i l = record {
  count : length l.starts.items ≡ (l.i + 15) / 16;
  each : (g : ℕ) → g < length l.starts.items → get_or l.starts.items g 0 ≡ sum (take (16 * g) l.lens);
  start : l.start ≡ sum (take l.i l.lens);
  capacity : vec_capacity l.initial.starts ≤ vec_capacity l.starts;
}
