-- Laws of whatever words mean.
use Rattle.std.specs.Prelude.{◌≡◌, ◌<◌, ◌≤◌, ◌^◌, ℕ, List, [], map}
use Rattle.std.specs.Str.{encode_utf8_all}
use Rattle.clap.specs.Words.{fault_of}
use Rattle.ve_words.specs.Command.{mode_names, vemodel}
use Rattle.ve_words.specs.Words.{Asks, Meant, meaning_of}
use Rattle.ve_words.specs.declared.read.Mode.{Mode}

-- The numbers that words give are in the ranges of their options.
abbrev pub NumbersAreInRange : Type 0
NumbersAreInRange = (words : List (List ℕ)) (mode : Mode) (start edits : ℕ) → meaning_of words ≡ Asks mode start edits
    → (start < 2 ^ 64) × (edits ≤ 100000)

abbrev pub AsksSomething : Meant → Type 0
AsksSomething meaning = (mode : Mode) × (start : ℕ) × (edits : ℕ) × (meaning ≡ Asks mode start edits)

-- Words in which the rules find no fault ask for a mode: none of the three values is missing, or of
-- another kind.
abbrev pub AcceptedWordsAsk : Type 0
AcceptedWordsAsk = (words : List (List ℕ)) → fault_of (vemodel mode_names) (map encode_utf8_all words) ≡ []
    → AsksSomething (meaning_of words)
