-- The boundaries on either side of a position in a run of characters.
use Rattle.std.specs.Prelude.{◌≡◌, ℕ, ◌+◌, ◌≤◌, List, [], ◌∷◌, length, Option}
use Rattle.std.specs.Option.{option_or}
use Rattle.std.specs.Str.{chars}
use Rattle.model_edit.specs.Next.{ends, first_above, last_below}

-- where the pieces end, and the beginning
abbrev pub cuts : List (List ℕ) → List ℕ
cuts pieces = 0 ∷ ends 0 pieces

-- how many characters pieces have together
abbrev pub char_total : List (List ℕ) → ℕ
char_total [] = 0
char_total (piece ∷ pieces) = length (chars piece) + char_total pieces

-- Here `end` characters are passed and some pieces are left. The boundary above the bound is one to
-- come, and that below it is one to come or the last one found.
pub record IsPassing (bound : ℕ) (all left : List (List ℕ)) (end : ℕ) (found : Option ℕ) : Type 0 where
  pub above : first_above bound (ends end left) ≡ first_above bound (cuts all)
  pub below : option_or (last_below bound (ends end left)) found ≡ last_below bound (cuts all)
  pub within : end + char_total left ≤ char_total all
