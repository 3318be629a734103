-- Strings of JSON.
use Rattle.std.specs.Prelude.{◌≡◌, ℕ, Bool, List, ◌||◌, ◌==◌, nat_lt}
use Rattle.json.specs.Print.{escape}

-- in a JSON string the byte doesn't stand for itself
abbrev pub is_escaped : ℕ → Bool
is_escaped byte = nat_lt byte 32 || byte == 34 || byte == 92

-- in a JSON string the bytes stand for themselves
abbrev pub IsUnescaped : List ℕ → Type 0
IsUnescaped bytes = escape bytes ≡ bytes
