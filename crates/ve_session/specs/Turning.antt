-- When a site may be asked: what holds of every line that was read and of every site that lines
-- lead to.
use Rattle.std.specs.Prelude.{◌≡◌, ℕ, if◌then◌else◌, List, Ok}
use Rattle.model_change.specs.Transaction.{Transaction}
use Rattle.model_edit.specs.Translate.{between}
use Rattle.model_site.specs.Replica.{Replica, all_performed}
use Rattle.model_site_law.specs.SelectionLaws.{StandsIn}
use Rattle.model_site_law.specs.Sound.{Sound}
use Rattle.model_world.specs.declared.command.Request.{Request}
use Rattle.model_world.specs.declared.command.Request.TheVariants as request
use Rattle.model_world.specs.Answers.{after_text, next_place, typing}
use Rattle.model_world.specs.Edits.{batch_on}
use Rattle.model_world_law.specs.Fit.{RequestWritten}

-- where the caret is moved to, by moving or by typing, it stands in the list
abbrev pub CaretStands : Request → Replica → Type 0
CaretStands (request.Move dir by keep) r = (at : ℕ) → next_place r.items r.selection.focus dir by ≡ Ok at →
    StandsIn r.items (between (if keep then r.selection.anchor else at) at)
CaretStands (request.TypeText text) r = (ts : List Transaction) → batch_on r (typing r.selection text) ≡ Ok ts →
    StandsIn (all_performed ts r).items (between (after_text ts) (after_text ts))
CaretStands _ r = Unit {0}

pub record MayTurn (asked : Request) (r : Replica) : Type 0 where
  pub written : RequestWritten asked
  pub sound : Sound r.items
  pub selection : StandsIn r.items r.selection
  pub caret : CaretStands asked r
