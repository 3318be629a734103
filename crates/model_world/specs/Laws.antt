-- The laws of the plain machine: refusals change nothing, and a batch is all of its changes or
-- none.
use Rattle.std.specs.Prelude.{◌≡◌, ℕ, Bool, true, false, List, [], ◌∷◌, take, slice_get, Some, Ok, Err}
use Rattle.model_change.specs.Transaction.{Transaction}
use Rattle.model_site.specs.Replica.{Replica, performed, all_performed}
use Rattle.model_world.specs.declared.edit_command.EditCommand.{EditCommand}
use Rattle.model_world.specs.declared.reply.Reply.{Reply}
use Rattle.model_world.specs.declared.reply.Reply.TheVariants.{No, NoBatch}
use Rattle.model_world.specs.Edits.{BatchRefusal, change_on, batch_on}
use Rattle.model_world.specs.World.{World, reply}

abbrev pub is_refusal : Reply → Bool
is_refusal (No refusal) = true
is_refusal (NoBatch at refusal) = true
is_refusal _ = false

-- Where the reply to a line is a refusal, the world stays as it is, whatever the world and the
-- line.
abbrev pub RefusalsChangeNothing : Type 0
RefusalsChangeNothing = (w : World) (line : List ℕ) → is_refusal (reply w line).0 ≡ true → (reply w line).1 ≡ w

-- ---- batches

-- the transactions are those of the changes, each on what those before it make
abbrev pub MadeInTurn : List EditCommand → List Transaction → Replica → Type 0
MadeInTurn [] [] r = Unit {0}
MadeInTurn (c ∷ cs) (t ∷ ts) r = (change_on r c ≡ Ok t) × MadeInTurn cs ts (performed t r)
MadeInTurn [] (t ∷ ts) r = ⊥
MadeInTurn (c ∷ cs) [] r = ⊥

-- A batch is accepted exactly where all of its changes are made in turn, and then it is these.
abbrev pub BatchIsWhole : Type 0
BatchIsWhole = (r : Replica) (cmds : List EditCommand) (ts : List Transaction) → batch_on r cmds ≡ Ok ts → MadeInTurn cmds ts r

abbrev pub WholeIsBatch : Type 0
WholeIsBatch = (r : Replica) (cmds : List EditCommand) (ts : List Transaction) → MadeInTurn cmds ts r → batch_on r cmds ≡ Ok ts

-- Else it is refused at the first change that is refused once those before it are made, and for the
-- same cause.
pub record StopsAt (r : Replica) (cmds : List EditCommand) (f : BatchRefusal) : Type 0 where
  pub made : List Transaction
  pub in_turn : MadeInTurn (take f.at cmds) made r
  pub change : EditCommand
  pub there : slice_get cmds f.at ≡ Some change
  pub refused : change_on (all_performed made r) change ≡ Err f.refusal

abbrev pub BatchStopsAtFirst : Type 0
BatchStopsAtFirst = (r : Replica) (cmds : List EditCommand) (f : BatchRefusal) → batch_on r cmds ≡ Err f → StopsAt r cmds f
