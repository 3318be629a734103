-- A world answers, as a machine, as the plain machine of the definitions does.
use Rattle.std.proofs.Common.{◌≡◌, ℕ, List, [], ◌∷◌, map, refl, ap}
use Rattle.model_script.specs.Lines.{lines_of, with_newlines}
use Rattle.model_script.specs.Output.{replies}
use Rattle.model_world.specs.Spelled.{reply_text}
use Rattle.model_world.specs.World.{meaning as plain, reply}
use Rattle.ve_session.specs.Laws.{LeadsAsDefined, WritesAsDefined}
use Rattle.ve_session.specs.States.{after, meaning, State}

replies_are : (s : State) (lines : List (List ℕ)) → replies meaning s lines ≡ replies plain s.world lines
replies_are s [] = refl
replies_are s (line ∷ lines) = ap (λ rs. (reply s.world line).0 ∷ rs) (replies_are (after s line) lines)

pub writes_as_defined : WritesAsDefined
writes_as_defined s script = ap (λ rs. with_newlines (map reply_text rs)) (replies_are s (lines_of script))

pub leads_as_defined : LeadsAsDefined
leads_as_defined s [] = refl
leads_as_defined s (line ∷ lines) = leads_as_defined (after s line) lines
