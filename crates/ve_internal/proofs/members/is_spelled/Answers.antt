use Rattle.std.proofs.Common.{◌≡◌, ℕ, List, true, arith, sym, ap, ◌∙◌}
use Rattle.std.specs.Prelude.{is_some}
use Rattle.model_spelling.specs.Forest.{Forest, Spells}
use Rattle.model_spelling.specs.Parsed.{forest_of}
use Rattle.model_spelling.proofs.Back.{reads_back}
use Rattle.ve_internal.proofs.members.is_spelled.Goals as goal

spelled_some : (text : List ℕ) (f : Forest) → Spells text f → true ≡ is_some (forest_of text)
spelled_some text f s = sym (ap (λ t. is_some (forest_of t)) s.text_is ∙ ap is_some (reads_back 200 f (omega arith) s.allowed))

pub returns-in-Ok : goal.returns-in-Ok
returns-in-Ok c = spelled_some c.args.text.now c.in-Ok.ensures.found.0 c.in-Ok.ensures.found.1
