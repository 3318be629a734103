-- The reply lines of a soak, one after another, are what a run writes.
use Rattle.std.proofs.Common.{◌≡◌, ℕ, List, [], ◌∷◌, ◌++◌, map, refl, sym, ap, ◌∙◌, append_assoc}
use Rattle.std.specs.List.{concat}
use Rattle.model_script.specs.Lines.{newline, with_newlines}
use Rattle.model_script.specs.Output.{replies, written}
use Rattle.model_world.specs.declared.reply.Reply.{Reply}
use Rattle.model_world.specs.Spelled.{reply_text}
use Rattle.ve_gen.specs.Generated.{script_lines}
use Rattle.ve_gen.proofs.LineLemmas.{script_has_its_lines}
use Rattle.ve_run.specs.Run.{reply_line}
use Rattle.ve_run.specs.Laws.{SoakHashesTheOutput}

in_one : (answers : List Reply) → concat (map reply_line answers) ≡ with_newlines (map reply_text answers)
in_one [] = refl
in_one (r ∷ rs) =
    append_assoc (reply_text r) (newline ∷ []) (concat (map reply_line rs))
    ∙ ap (λ rest. reply_text r ++ (newline ∷ rest)) (in_one rs)

pub soak_hashes_the_output : (W : Type 0) → SoakHashesTheOutput W
soak_hashes_the_output W m world start edits =
    in_one (replies m world (script_lines start edits))
    ∙ ap (written reply_text m world) (sym (script_has_its_lines start edits))
