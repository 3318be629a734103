-- How a run leaves the machine, the source and the sink.
use Rattle.std.specs.Prelude.{◌≡◌, ℕ, ◌+◌, ◌++◌, ◌<◌, ◌≤◌, ◌⊎◌, List, [], ◌∷◌, length, Option}
use Rattle.std.specs.Io.KnownBytes.{Appends, Consumes, IsAtEnd}
use Rattle.ve_base.specs.Limits.{max_script}
use Rattle.ve_base.specs.Outside.{Rose}
use Rattle.model_script.specs.Lines.{lines_of, newline, with_newlines, IsLine, AreLines, IsCut}
use Rattle.model_script.specs.Output.{Meaning, state_after, cost_of, written, output}
use Rattle.model_world.specs.declared.reply.Reply.{Reply}
use Rattle.model_world.specs.Spelled.{reply_text}

-- a reply as a line
abbrev pub reply_line : Reply → List ℕ
reply_line reply = reply_text reply ++ newline ∷ []

-- The state that the calls of a run change, at one moment.
pub record Scene (W : Type 0) : Type 0 where
  -- the machine's state
  pub world : W
  -- the steps counted so far
  pub steps : ℕ
  -- the bytes that the sink holds, where they are known
  pub held : Option (List ℕ)

abbrev pub scene : {W : Type 0} → W → ℕ → Option (List ℕ) → Scene W
scene world steps held = record { world = world; steps = steps; held = held }

-- Some of these bytes, from the prefix, were appended.
abbrev pub AppendsPrefix : Option (List ℕ) → Option (List ℕ) → List ℕ → Type 0
AppendsPrefix old new all = (prefix : List ℕ) × (suffix : List ℕ) × (all ≡ prefix ++ suffix) × Appends old new prefix

-- The machine took a line.
pub record Stepped {W : Type 0} (m : Meaning W Reply) (before after : Scene W) (line : List ℕ) : Type 0 where
  pub state : after.world ≡ m.next before.world line
  pub steps : after.steps ≤ before.steps + m.cost before.world line

-- The machine took these lines one after another, and their replies were written.
pub record Answers {W : Type 0} (m : Meaning W Reply) (before after : Scene W) (lines : List (List ℕ)) : Type 0 where
  pub state : after.world ≡ state_after m before.world lines
  pub steps : after.steps ≤ before.steps + cost_of m before.world lines
  pub written : Appends before.held after.held (written reply_text m before.world lines)

-- Each line of `script` that a newline ends was answered, and `rest` follows the last of them.
pub record Answered {W : Type 0} (m : Meaning W Reply) (before after : Scene W) (script rest : List ℕ) : Type 0 where
  pub whole : List (List ℕ)
  pub cut : IsCut script whole rest
  pub answers : Answers m before after whole

-- Neither the source nor the sink failed: neither count of faults rose.
abbrev pub NoFaults : (reads_before reads writes_before writes : ℕ) → Type 0
NoFaults reads_before reads writes_before writes = (Rose reads_before reads → ⊥) × (Rose writes_before writes → ⊥)

-- `line` is the next one in `more`: a newline ends it; or it is all of `more` and isn't empty, and
-- nothing can follow.
abbrev pub IsNextLine : List ℕ → List ℕ → Type 0 → Type 0
IsNextLine line more is_end =
    ((later : List ℕ) × (more ≡ line ++ newline ∷ later)) ⊎ (is_end × (0 < length line) × (more ≡ line))

-- A write failed within the reply to `line`: the lines before it were answered, the machine took
-- it, and a prefix of its reply was written.
pub record BrokeOff {W : Type 0} (m : Meaning W Reply) (before after : Scene W) (script : List ℕ) (is_end : Type 0) : Type 0 where
  pub lines : List (List ℕ)
  pub line : List ℕ
  pub more : List ℕ
  pub parts : script ≡ with_newlines lines ++ more
  pub whole : AreLines lines
  pub is_line : IsLine line
  pub comes : IsNextLine line more is_end
  -- when the line's turn came
  pub turn : Scene W
  pub answers : Answers m before turn lines
  pub stepped : Stepped m turn after line
  pub written : AppendsPrefix turn.held after.held (reply_line (m.reply turn.world line))

-- It had no memory to go on: the replies to some lines from the first on were written, whole, and
-- nothing else.
pub record GaveUp {W : Type 0} (m : Meaning W Reply) (before after : Scene W) (script : List ℕ) : Type 0 where
  pub lines : List (List ℕ)
  pub more : List ℕ
  pub parts : script ≡ with_newlines lines ++ more
  pub whole : AreLines lines
  pub written : Appends before.held after.held (written reply_text m before.world lines)

-- `script` and then `extra` were taken from the source: at most as many bytes as a script may have,
-- and one more only after as many.
pub record Took (left_before left : Option (List ℕ)) (script extra : List ℕ) : Type 0 where
  pub consumed : Consumes left_before left (script ++ extra)
  pub short : length script ≤ max_script
  pub beyond : (extra ≡ []) ⊎ ((length script ≡ max_script) × (length extra ≡ 1))

-- The source was read to its end, and every line was answered.
pub record Ran {W : Type 0} (m : Meaning W Reply) (left_before left : Option (List ℕ)) (before after : Scene W) : Type 0 where
  pub script : List ℕ
  pub took : Took left_before left script []
  pub end : IsAtEnd left
  pub answers : Answers m before after (lines_of script)

-- Between two reads it stopped: each line that a newline had ended was answered.
pub record Stopped {W : Type 0} (m : Meaning W Reply) (left_before left : Option (List ℕ)) (before after : Scene W)
    (extra : List ℕ) : Type 0 where
  pub script : List ℕ
  pub took : Took left_before left script extra
  pub rest : List ℕ
  pub answered : Answered m before after script rest

-- A write failed in it.
pub record Broke {W : Type 0} (m : Meaning W Reply) (left_before left : Option (List ℕ)) (before after : Scene W) : Type 0 where
  pub script : List ℕ
  pub extra : List ℕ
  pub took : Took left_before left script extra
  pub broke_off : BrokeOff m before after script (IsAtEnd left)

-- Memory was wanting in it.
pub record Starved {W : Type 0} (m : Meaning W Reply) (left_before left : Option (List ℕ)) (before after : Scene W) : Type 0 where
  pub script : List ℕ
  pub extra : List ℕ
  pub took : Took left_before left script extra
  pub gave_up : GaveUp m before after script

-- However it ended, a prefix of the output of the bytes taken was written.
pub record WrotePrefix {W : Type 0} (m : Meaning W Reply) (left_before left : Option (List ℕ)) (before after : Scene W) : Type 0 where
  pub script : List ℕ
  pub extra : List ℕ
  pub took : Took left_before left script extra
  pub written : AppendsPrefix before.held after.held (output reply_text m before.world script)
