-- Laws of every list of lengths.
use Rattle.std.specs.Prelude.{ℕ, ◌≡◌, ◌<◌, List, sum}
use Rattle.ve_lengths.specs.Starts.{Finds}

-- a position before the end lies in one length, at one distance from its start
abbrev pub OneIsFound : Type 0
OneIsFound = (lens : List ℕ) (at k offset other far : ℕ) → Finds lens at k offset → Finds lens at other far →
    (k ≡ other) × (offset ≡ far)

-- and a position that lies in a length is before the end
abbrev pub FoundIsWithin : Type 0
FoundIsWithin = (lens : List ℕ) (at k offset : ℕ) → Finds lens at k offset → at < sum lens
