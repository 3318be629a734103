-- The outcome of a command, computed from the definitions.
use Rattle.std.proofs.Common.{◌≡◌, refl, true, false, []}
use Rattle.std.specs.Prelude.{Ok, Err, None}
use Rattle.model_site.specs.Replica.{opened_with}
use Rattle.model_site.specs.Session.{started}
use Rattle.model_world.specs.declared.command.Request.TheVariants as request
use Rattle.model_world.specs.declared.command.Command.TheVariants.{Ask}
use Rattle.model_world.specs.declared.refusal.Refusal.TheVariants.{NotOpen, NothingQueued}
use Rattle.model_world.specs.declared.reply.Reply.TheVariants.{Caret, No}
use Rattle.model_world.specs.World.{Closed}
use Rattle.ve_session.specs.Asked.{is_shown, kept_or_new, reply_and_world}
use Rattle.ve_session.specs.Opened.{replica_in}
use Rattle.ve_session.specs.Turning.{CaretStands}

-- without a page `html` is refused, and no site has a replica
closed : reply_and_world Closed (Ask request.Html 0) ≡ (No NotOpen, Closed)
closed = refl

no_replica : replica_in Closed 0 ≡ None
no_replica = refl

-- the grid is shown, and nothing is undone by showing
grid_shown : is_shown (request.Grid 0) ≡ true
grid_shown = refl

undo_acts : is_shown request.Undo ≡ false
undo_acts = refl

-- a refusal leaves the session, and a reply brings one
refusal_keeps : kept_or_new (started (opened_with []) 1) (Err (No NothingQueued)) ≡ (No NothingQueued, started (opened_with []) 1)
refusal_keeps = refl

reply_brings : kept_or_new (started (opened_with []) 1) (Ok (Caret 0 0, started (opened_with []) 2)) ≡ (Caret 0 0, started (opened_with []) 2)
reply_brings = refl

-- a request that moves no caret asks nothing of it
undo_moves_none : CaretStands request.Undo (opened_with [])
undo_moves_none = tt
