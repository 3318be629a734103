-- Numbers in a row, each at most once, and the chunks that they are kept in.
use Rattle.std.specs.Prelude.{◌≡◌, ◌==◌, ◌<◌, ◌^◌, ◌||◌, ℕ, zero, suc, Bool, true, false, if◌then◌else◌, List, [], ◌∷◌, length, Option, None, Some, slice_get, slice_set, slice_index_or}
use Rattle.std.specs.Option.{option_map}
use Rattle.ve_items.specs.Blocks.{joined}

-- how many stand before the first that is this number; none where it isn't there
abbrev pub place_of : ℕ → List ℕ → Option ℕ
place_of number [] = None
place_of number (n ∷ rest) = if n == number then Some 0 else option_map suc (place_of number rest)

-- without the first that is this number
abbrev pub without : ℕ → List ℕ → List ℕ
without number [] = []
without number (n ∷ rest) = if n == number then rest else n ∷ without number rest

-- so many numbers, from one on
abbrev pub counted : (from count : ℕ) → List ℕ
counted from zero = []
counted from (suc count) = from ∷ counted (suc from) count

-- whether a number stands in a row
abbrev pub stands : ℕ → List ℕ → Bool
stands number [] = false
stands number (n ∷ rest) = (n == number) || stands number rest

-- no number stands twice
abbrev pub EachOnce : List ℕ → Type 0
EachOnce [] = Unit {0}
EachOnce (n ∷ rest) = (stands n rest ≡ false) × EachOnce rest

-- a number that stands in a chunk has the index of that chunk as its home
abbrev pub AtHome : (chunks : List (List ℕ)) (homes : List ℕ) → Type 0
AtHome chunks homes =
    (n number : ℕ) → stands number (slice_index_or chunks n []) ≡ true
    → slice_get homes number ≡ Some n

-- what an order is kept as
pub record IsKept (chunks : List (List ℕ)) (homes : List ℕ) (len : ℕ) : Type 0 where
  pub home : AtHome chunks homes
  pub once : EachOnce (joined chunks)
  pub count : len ≡ length (joined chunks)
  pub small : len < 2 ^ 64

-- each number of a row is below this
abbrev pub AreBelow : List ℕ → ℕ → Type 0
AreBelow row bound = (number : ℕ) → stands number row ≡ true → number < bound

-- the homes after the numbers of a chunk got theirs, and after those of all chunks from one on did
abbrev pub settled : (homes : List ℕ) → ℕ → List ℕ → List ℕ
settled homes n [] = homes
settled homes n (number ∷ rest) = settled (slice_set homes number n) n rest

abbrev pub all_settled : (homes : List ℕ) → ℕ → List (List ℕ) → List ℕ
all_settled homes n [] = homes
all_settled homes n (chunk ∷ chunks) = all_settled (settled homes n chunk) (suc n) chunks
