-- The session behind a handle, and its change by a line.
use Rattle.std.specs.Prelude.{List, ℕ, [], if◌then◌else◌}
use Rattle.model_world.specs.Spelled.{reply_text}
use Rattle.model_world.specs.World.{reply}
use Rattle.ve_session.specs.States.{closed_state, spent_state, after}
use Rattle.vemodel_c.specs.declared.handle.Handle.{Handle}
use Rattle.vemodel_c.specs.declared.session.Session.{Session}

-- without a page, and without a reply
abbrev pub started : Session
started = record { world = closed_state; reply = [] }

-- after a line that was answered
abbrev pub answered : Session → List ℕ → Session
answered s line = record { world = after s.world line; reply = reply_text (reply s.world.world line).0 }

-- after a line for which there was no memory
abbrev pub out_of_memory : Session
out_of_memory = record { world = spent_state; reply = [] }

-- the reply that is kept: no bytes where the handle is closed
abbrev pub told : Handle → List ℕ
told h = if h.is_open then h.held.reply else []
