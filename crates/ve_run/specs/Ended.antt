-- The end of a run, by the words that asked for it and its status.
use Rattle.std.specs.Prelude.{◌≡◌, ℕ, ◌<◌, ◌≤◌, ◌⊎◌, List, [], ◌∷◌, length, Option}
use Rattle.std.specs.Io.KnownBytes.{Appends}
use Rattle.ve_base.specs.Limits.{max_script}
use Rattle.ve_base.specs.Outside.{Rose}
use Rattle.model_script.specs.Output.{Meaning}
use Rattle.model_world.specs.declared.reply.Reply.{Reply}
use Rattle.ve_gen.specs.Generated.{script, script_lines}
use Rattle.ve_words.specs.Words.{Meant, Asks, Refused, HelpWanted}
use Rattle.ve_words.specs.declared.read.Mode.TheVariants as mode
use Rattle.ve_run.specs.declared.status.Status.{Status}
use Rattle.ve_run.specs.declared.status.Status.TheVariants.{Done, Usage, ReadFault, WriteFault, InputTooLong, Memory, Help}
use Rattle.ve_run.specs.Asked.{asked_for}
use Rattle.ve_run.specs.Run.{Scene, AppendsPrefix, Ran, Stopped, Broke, Starved}
use Rattle.ve_run.specs.Soak.{soak_text, TookLines}
use Rattle.ve_run.specs.Status.{usage_line}

-- All that a run can change, at one moment.
pub record Moment (W : Type 0) : Type 0 where
  -- the machine, the steps and the sink
  pub scene : Scene W
  -- the bytes that the source has left, where they are known
  pub left : Option (List ℕ)
  -- the faults counted so far
  pub reads_failed : ℕ
  pub writes_failed : ℕ

abbrev pub moment : {W : Type 0} → Scene W → Option (List ℕ) → ℕ → ℕ → Moment W
moment scene left reads_failed writes_failed =
    record { scene = scene; left = left; reads_failed = reads_failed; writes_failed = writes_failed }

-- The lines of the source were to be answered:
--   Done          the source was read to its end, and every line was answered
--   ReadFault     the source failed, and all lines that had ended by then were answered
--   InputTooLong  as many bytes as a script may have and one more were taken,
--                 and all lines that end before that one were answered
--   WriteFault    the sink failed: the lines whose replies were written were taken,
--                 and the one whose reply was not, or not whole
--   Memory        there was no memory to go on,
--                 and the replies to some lines from the first on were written
abbrev pub LinesEnded : {W : Type 0} → Meaning W Reply → (before after : Moment W) → Status → Type 0
LinesEnded m before after Done = Ran m before.left after.left before.scene after.scene
LinesEnded m before after ReadFault = Rose before.reads_failed after.reads_failed × Stopped m before.left after.left before.scene after.scene []
LinesEnded m before after InputTooLong = (extra : ℕ) × Stopped m before.left after.left before.scene after.scene (extra ∷ [])
LinesEnded m before after WriteFault = Rose before.writes_failed after.writes_failed × Broke m before.left after.left before.scene after.scene
LinesEnded m before after Memory = Starved m before.left after.left before.scene after.scene
LinesEnded m before after Usage = ⊥
LinesEnded m before after Help = ⊥

-- One text was to be written, and then to be ended so:
--   WriteFault    the sink failed, and a prefix of the text was written
--   Memory        there was no memory to go on, and a prefix of the text was written
--   else          it ended so, and the text was written
abbrev pub TextEnded : (so : Status) → (text : List ℕ) → (held_before held : Option (List ℕ)) → (failed_before failed : ℕ) → Status → Type 0
TextEnded so text held_before held failed_before failed WriteFault = Rose failed_before failed × AppendsPrefix held_before held text
TextEnded so text held_before held failed_before failed Memory = AppendsPrefix held_before held text
TextEnded so text held_before held failed_before failed status = (status ≡ so) × Appends held_before held text

abbrev pub WroteText : {W : Type 0} → (so : Status) → (text : List ℕ) → (before after : Moment W) → Status → Type 0
WroteText so text before after status = TextEnded so text before.scene.held after.scene.held before.writes_failed after.writes_failed status

-- The lines of a generated script were taken, unless memory was wanting, and their replies were to
-- be summed up.
pub record SoakEnded {W : Type 0} (m : Meaning W Reply) (lines : List (List ℕ)) (before after : Moment W) (status : Status) : Type 0 where
  pub text : WroteText Done (soak_text m before.scene.world lines) before after status
  pub took : (status ≡ Memory → ⊥) → TookLines m before.scene.world after.scene.world before.scene.steps after.scene.steps lines

-- A run for which words came that mean this ended with this status, and this is what it has done.
abbrev pub EndedAs : {W : Type 0} → Meaning W Reply → Meant → (before after : Moment W) → Status → Type 0
EndedAs m (Asks mode.Run start edits) before after status = LinesEnded m before after status
EndedAs m (Asks mode.Make start edits) before after status = WroteText Done (script start edits) before after status
EndedAs m (Asks mode.Soak start edits) before after status = SoakEnded m (script_lines start edits) before after status
EndedAs m Refused before after status = WroteText Usage usage_line before after status
EndedAs m HelpWanted before after status = WroteText Help usage_line before after status

-- the same by the words
abbrev pub Ended : {W : Type 0} → Meaning W Reply → (words : List (List ℕ)) → (before after : Moment W) → Status → Type 0
Ended m words before after status = EndedAs m (asked_for words) before after status

-- Where nothing fails, the script's length and memory alone decide the status.
pub record EndsByLength (script : List ℕ) (status : Status) : Type 0 where
  pub whole : length script ≤ max_script → (status ≡ Done) ⊎ (status ≡ Memory)
  pub too_long : max_script < length script → (status ≡ InputTooLong) ⊎ (status ≡ Memory)

-- Where no write fails, the words and memory alone decide the status, but for the lines of a
-- source.
abbrev pub EndsByWords : Meant → Status → Type 0
EndsByWords (Asks _ start edits) status = (status ≡ Done) ⊎ (status ≡ Memory)
EndsByWords Refused status = (status ≡ Usage) ⊎ (status ≡ Memory)
EndsByWords HelpWanted status = (status ≡ Help) ⊎ (status ≡ Memory)
