-- The text that sums the replies to a generated script up.
use Rattle.std.specs.Prelude.{◌≡◌, ℕ, ◌+◌, ◌≤◌, ◌==◌, Bool, List, [], ◌∷◌, ◌++◌, length, map, codes, decimal, count_by}
use Rattle.std.specs.List.{concat, starts_with}
use Rattle.hex.specs.Hex.{encode_lower}
use Rattle.sha2.specs.Hashers.{Holds256}
use Rattle.sha2.specs.Sha256.{sha256}
use Rattle.model_script.specs.Lines.{newline}
use Rattle.model_script.specs.Output.{Meaning, replies, state_after, cost_of}
use Rattle.model_world.specs.declared.reply.Reply.{Reply}
use Rattle.ve_run.specs.declared.tally.Tally.{Tally}
use Rattle.ve_run.specs.Run.{reply_line}

-- the replies to these lines, each as a line with its newline
abbrev pub reply_lines : {W : Type 0} → Meaning W Reply → W → (lines : List (List ℕ)) → List (List ℕ)
reply_lines m world lines = map reply_line (replies m world lines)

abbrev pub begins : (word line : List ℕ) → Bool
begins word line = starts_with ◌==◌ line word

abbrev pub how_many_begin : (word : List ℕ) → (answers : List (List ℕ)) → ℕ
how_many_begin word answers = count_by (begins word) answers

-- four lines: how many lines there were, how many replies begin `ok` and how many `no`, and a
-- digest in hexadecimal digits
abbrev pub four_lines : (lines accepted refused : ℕ) → (digest : List ℕ) → List ℕ
four_lines lines accepted refused digest =
    codes "lines " ++ decimal lines ++ codes "\nok " ++ decimal accepted ++ codes "\nno " ++ decimal refused
    ++ codes "\nsha256 " ++ encode_lower digest ++ newline ∷ []

-- of these reply lines, whose digest is the SHA-256 of all of them, one after another
abbrev pub summed_up : (answers : List (List ℕ)) → List ℕ
summed_up answers =
    four_lines (length answers) (how_many_begin (codes "ok") answers) (how_many_begin (codes "no") answers) (sha256 (concat answers))

-- the sums of a machine's replies to these lines
abbrev pub soak_text : {W : Type 0} → Meaning W Reply → W → (lines : List (List ℕ)) → List ℕ
soak_text m world lines = summed_up (reply_lines m world lines)

-- The machine took these lines one after another.
pub record TookLines {W : Type 0} (m : Meaning W Reply) (before after : W) (steps_before steps_after : ℕ) (lines : List (List ℕ)) : Type 0 where
  pub state : after ≡ state_after m before lines
  pub cost : steps_after ≤ steps_before + cost_of m before lines

-- These reply lines were counted and hashed.
pub record IsTally (tally : Tally) (answers : List (List ℕ)) : Type 0 where
  pub lines : tally.lines ≡ length answers
  pub accepted : tally.accepted ≡ how_many_begin (codes "ok") answers
  pub refused : tally.refused ≡ how_many_begin (codes "no") answers
  pub hashed : Holds256 tally.hashed (concat answers)
