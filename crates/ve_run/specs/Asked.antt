-- The meaning of the words after the program's name.
use Rattle.std.specs.Prelude.{◌≡◌, ℕ, List}
use Rattle.ve_words.specs.Words.{Meant, Asks, meaning_of}
use Rattle.ve_words.specs.declared.read.Mode.TheVariants.{Run, Soak}

unfoldable pub asked_for : (words : List (List ℕ)) → Meant
asked_for words = meaning_of words

-- the words ask for the lines of the source to be answered
abbrev pub IsRun : List (List ℕ) → Type 0
IsRun words = (start : ℕ) × (edits : ℕ) × (asked_for words ≡ Asks Run start edits)

-- the words ask for the lines of a generated script to be answered, and their replies to be summed
-- up
abbrev pub IsSoak : List (List ℕ) → Type 0
IsSoak words = (start : ℕ) × (edits : ℕ) × (asked_for words ≡ Asks Soak start edits)
