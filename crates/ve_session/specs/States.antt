-- The state that a world keeps between lines, and the machine that a world is.
use Rattle.std.specs.Prelude.{Bool, true, false, ℕ, List}
use Rattle.model_script.specs.Output.{Meaning}
use Rattle.model_world.specs.declared.reply.Reply.{Reply}
use Rattle.model_world.specs.World.{World, Closed, reply}
use Rattle.model_world.specs.Cost.{cost}

-- After it ran out of memory a world is spent, and has no page.
pub record State : Type 0 where
  pub world : World
  pub is_spent : Bool

-- without a page
abbrev pub closed_state : State
closed_state = record { world = Closed; is_spent = false }

abbrev pub spent_state : State
spent_state = record { world = Closed; is_spent = true }

-- after a line
abbrev pub after : State → List ℕ → State
after s line = record s { world = (reply s.world line).1 }

-- a world as a machine
abbrev pub meaning : Meaning State Reply
meaning = record {
  reply = λ s line. (reply s.world line).0;
  next = λ s line. after s line;
  cost = λ s line. cost s.world line;
}
