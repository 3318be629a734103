-- The meaning of words.
use Rattle.std.specs.Prelude.{ℕ, List, [], ◌∷◌, Option, Some, None, map, codes, option_and_then, if◌then◌else◌}
use Rattle.std.specs.Str.{bytes_eq, encode_utf8_all}
use Rattle.std.specs.Str.Parse.{digits_value, without_leading_plus}
use Rattle.clap.specs.ValueTests.{is_unsigned_in}
use Rattle.clap.specs.Words.{Kinds, Row, Text, fault_of, first_of, matches_of}
use Rattle.clap.specs.declared.error.kind.ErrorKind.{ErrorKind}
use Rattle.clap.specs.declared.error.kind.ErrorKind.TheVariants as kind
use Rattle.ve_words.specs.Command.{max_edits, max_start, mode_names, vemodel}
use Rattle.ve_words.specs.declared.read.Mode.{Mode}
use Rattle.ve_words.specs.declared.read.Mode.TheVariants.{Run, Make, Soak}
use Rattle.ve_words.specs.declared.read.Asked.{Asked}
use Rattle.ve_words.specs.declared.unasked.Unasked.{Unasked}
use Rattle.ve_words.specs.declared.unasked.Unasked.TheVariants as unasked

-- the meaning of words: a mode with its numbers, a refusal, or help
pub data Meant : Type 0 where
  Asks : (mode : Mode) (start edits : ℕ) → Meant
  Refused : Meant
  HelpWanted : Meant

-- ---- the values

abbrev pub mode_named : Text → Option Mode
mode_named text = if bytes_eq text (codes "run") then Some Run
    else (if bytes_eq text (codes "make") then Some Make
    else (if bytes_eq text (codes "soak") then Some Soak else None))

-- the number that decimal digits write, after at most one plus sign, where it is at most so much
abbrev pub number_up_to : ℕ → Text → Option ℕ
number_up_to most text =
    if is_unsigned_in 0 most text then Some (digits_value 10 (without_leading_plus text)) else None

-- the values in the rows of a parse, by the argument's name
abbrev pub mode_in : List Row → Option Mode
mode_in rows = option_and_then mode_named (first_of (codes "mode") rows)

abbrev pub number_in : Text → ℕ → List Row → Option ℕ
number_in id most rows = option_and_then (number_up_to most) (first_of id rows)

abbrev pub asks : Option Mode → Option ℕ → Option ℕ → Meant
asks (Some mode) (Some start) (Some edits) = Asks mode start edits
asks _ _ _ = Refused

-- the values of accepted words; that each of the three is there is the law `accepted_words_ask`
abbrev pub meaning_of_rows : List Row → Meant
meaning_of_rows rows = asks (mode_in rows) (number_in (codes "start") max_start rows) (number_in (codes "edits") max_edits rows)

abbrev pub meant_asked : Option Asked → Meant
meant_asked (Some asked) = Asks asked.mode asked.start asked.edits
meant_asked None = Refused

-- ---- the refusals

-- the answer for a kind of `clap`'s errors
abbrev pub unasked_by : ErrorKind → Unasked
unasked_by kind.DisplayHelp = unasked.Help
unasked_by kind.OutOfMemory = unasked.Memory
unasked_by _ = unasked.Usage

abbrev pub meant_unasked : Unasked → Meant
meant_unasked unasked.Help = HelpWanted
meant_unasked _ = Refused

-- by the kinds of error that the rules give, of which there is at most one, and else by the values
abbrev pub meant_by : Kinds → List Row → Meant
meant_by [] rows = meaning_of_rows rows
meant_by (kind ∷ more) rows = meant_unasked (unasked_by kind)

-- the meaning of words in UTF-8
abbrev pub meant_texts : List Text → Meant
meant_texts texts = meant_by (fault_of (vemodel mode_names) texts) (matches_of (vemodel mode_names) texts)

-- the meaning of the words after the program's name, by `clap`'s rules for this command
abbrev pub meaning_of : List (List ℕ) → Meant
meaning_of words = meant_texts (map encode_utf8_all words)
