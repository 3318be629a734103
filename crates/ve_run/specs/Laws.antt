-- What a soak sums up is the output of a run.
use Rattle.std.specs.Prelude.{◌≡◌, ℕ, List}
use Rattle.std.specs.List.{concat}
use Rattle.model_script.specs.Output.{Meaning, output}
use Rattle.model_world.specs.declared.reply.Reply.{Reply}
use Rattle.model_world.specs.Spelled.{reply_text}
use Rattle.ve_gen.specs.Generated.{script, script_lines}
use Rattle.ve_run.specs.Soak.{reply_lines}

-- The bytes that are hashed are those that a run writes for the script that `make` writes.
abbrev pub SoakHashesTheOutput : (W : Type 0) → Type 0
SoakHashesTheOutput W = (m : Meaning W Reply) (world : W) (start edits : ℕ)
    → concat (reply_lines m world (script_lines start edits)) ≡ output reply_text m world (script start edits)
