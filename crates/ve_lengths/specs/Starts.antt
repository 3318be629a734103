-- Lengths in groups of 16.
use Rattle.std.specs.Prelude.{ℕ, ◌≡◌, ◌≤◌, ◌+◌, ◌-◌, ◌*◌, ◌/◌, ◌<◌, ◌^◌, List, length, take, slice_index, sum}

-- the position lies so far after the start of that length, and before its end
pub record Finds (lens : List ℕ) (at k offset : ℕ) : Type 0 where
  pub among : k < length lens
  pub place : sum (take k lens) + offset ≡ at
  pub inside : offset < slice_index lens k

-- beside each group stands the sum of the lengths before it, and beside all of them their sum
pub record AreStarts (lens starts : List ℕ) (total : ℕ) : Type 0 where
  pub count : length starts ≡ (length lens + 15) / 16
  pub each : (g : ℕ) → g < length starts → slice_index starts g ≡ sum (take (16 * g) lens)
  pub total_is : total ≡ sum lens
  pub fits : total < 2 ^ 64

-- the memory of the lengths and of their starts serves so many lengths
pub record HasRoom (room lens starts : ℕ) : Type 0 where
  pub among_lens : room ≤ lens
  pub among_starts : (room + 15) / 16 ≤ starts

-- the starts from one group on are greater by that much, and those before it stand
pub record RaisedFrom (old new : List ℕ) (first by : ℕ) : Type 0 where
  pub count : length new ≡ length old
  pub before : (g : ℕ) → g < first → slice_index new g ≡ slice_index old g
  pub after : (g : ℕ) → first ≤ g → g < length old → slice_index new g ≡ slice_index old g + by

-- The starts from one group on are those after a length was put in before these groups: what begins
-- a group then has left it for the group after.
pub record AreShifted (lens old new : List ℕ) (first by : ℕ) : Type 0 where
  pub count : length new ≡ length old
  pub before : (g : ℕ) → g < first → slice_index new g ≡ slice_index old g
  pub after : (g : ℕ) → first ≤ g → g < length old →
      slice_index new g + slice_index lens (16 * g) ≡ slice_index old g + by

-- The same where a length was taken out before these groups: what ends the group before is what
-- began the group.
pub record AreShiftedBack (lens old new : List ℕ) (first by : ℕ) : Type 0 where
  pub count : length new ≡ length old
  pub before : (g : ℕ) → g < first → slice_index new g ≡ slice_index old g
  pub after : (g : ℕ) → first ≤ g → g < length old →
      slice_index new g + by ≡ slice_index old g + slice_index lens (16 * g - 1)
