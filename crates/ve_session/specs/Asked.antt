-- Requests to a world or to one of its sites, and their outcome.
use Rattle.std.specs.Prelude.{◌≡◌, ◌≢◌, ◌<◌, ◌+◌, ℕ, nat_le, nat_lt, Bool, true, false, if◌then◌else◌, List, [], length, map, Option, Some, None, Ok, Err, IsOk}
use Rattle.ve_base.specs.Limits.{max_line}
use Rattle.model_page.specs.PageItems.{Opened}
use Rattle.model_items.specs.declared.plain_item.PlainItem.{PlainItem}
use Rattle.model_site.specs.Session.{Member, Session, serve_next, take_next}
use Rattle.model_site.specs.Site.{redo, send, undo}
use Rattle.model_world.specs.declared.command.Request.{Request}
use Rattle.model_world.specs.declared.command.Request.TheVariants as request
use Rattle.model_world.specs.declared.command.Command.{Command}
use Rattle.model_world.specs.declared.refusal.Refusal.{Refusal}
use Rattle.model_world.specs.declared.refusal.Refusal.TheVariants.{BadSite, LineTooLong, NotOpen}
use Rattle.model_world.specs.declared.reply.Reply.{Reply}
use Rattle.model_change.specs.Cost.{cost_of_transactions}
use Rattle.model_change.specs.Transaction.{Transaction}
use Rattle.model_world.specs.declared.reply.Reply.TheVariants.{No}
use Rattle.model_world.specs.Answers.{Asked, Outcome, batch_or_no, performed_or_no, replica_of, request_outcome}
use Rattle.model_world.specs.Completed.{completed}
use Rattle.model_world.specs.Cost.{cost_besides, made_by, made_in_turn, made_of}
use Rattle.model_world.specs.Edits.{batch_on, change_on, checked_transaction}
use Rattle.model_world.specs.Commands.{command}
use Rattle.model_world.specs.World.{World, Closed, Open, answer_of, reply_and_next}
use Rattle.ve_json.specs.declared.answer.Answer.{Answer}
use Rattle.ve_changes.specs.declared.faults.ChangeStop.{ChangeStop}
use Rattle.ve_changes.specs.declared.faults.ChangeStop.TheVariants as stop
use Rattle.ve_changes.specs.Drafts.{MayWantDraft}
use Rattle.ve_json.specs.Answers.{reply_of, AnswerCites}
use Rattle.ve_sites.specs.Shared.{Shared, member_at, site_at}

-- ---- a world

-- the reply to a command, and the world after it
abbrev pub reply_and_world : World → Command → Reply × World
reply_and_world w c = reply_and_next w (answer_of w c)

-- why a line isn't read: it is too long
abbrev pub too_long : List ℕ → Option Refusal
too_long line = if nat_lt max_line (length line) then Some (LineTooLong (length line)) else None

-- why no site at k is asked: no page is open, or it has no such site
abbrev pub barred : World → ℕ → Option Refusal
barred Closed k = Some NotOpen
barred (Open page session) k = if nat_le (length session.members) k then Some (BadSite (length session.members)) else None

-- Some line asks this, within a line's length.
pub record IsAsked (c : Command) : Type 0 where
  pub line : List ℕ
  pub within : nat_lt max_line (length line) ≡ false
  pub asks : command line ≡ Ok c

-- ---- a site

-- requests that change nothing
abbrev pub is_shown : Request → Bool
is_shown request.Html = true
is_shown request.Tree = true
is_shown request.Refs = true
is_shown request.Caret = true
is_shown (request.ShowItems from to) = true
is_shown (request.At at) = true
is_shown (request.Near at dir) = true
is_shown (request.Grid at) = true
is_shown _ = false

-- the site at k is asked, on this page
abbrev pub asker : Opened → Shared → ℕ → Asked
asker page s k = record { page = page; session = s.session; k = k; member = member_at s k }

-- the reply, and the session after it: a refusal leaves it as it is
abbrev pub kept_or_new : Session → Outcome → Reply × Session
kept_or_new w (Ok both) = both
kept_or_new w (Err refused) = (refused, w)

-- a request with what it takes from the page as it was first read
abbrev pub completed_request : (opened : List PlainItem) → Request → Request
completed_request opened (request.Edit change) = request.Edit (completed opened change)
completed_request opened (request.Batch cmds) = request.Batch (map (completed opened) cmds)
completed_request opened r = r

-- the outcome of a request that is completed: it needs no page
abbrev pub outcome_completed : Asked → Request → Outcome
outcome_completed a (request.Edit change) = performed_or_no a (change_on (replica_of a) change)
outcome_completed a (request.Batch cmds) = batch_or_no a (batch_on (replica_of a) cmds)
outcome_completed a r = request_outcome a r

abbrev pub made_completed : Session → Member → Request → List Transaction
made_completed w m (request.Edit change) = made_of (change_on m.site.replica change)
made_completed w m (request.Batch cmds) = made_in_turn m.site.replica cmds
made_completed w m r = made_by [] w m r

-- and its cost
abbrev pub cost_completed : Session → Member → Request → ℕ
cost_completed w m r = let ts = made_completed w m r in cost_besides r m ts + cost_of_transactions ts m.site.replica.items

-- The answer and the new session are what the model answers to the request, which is
-- completed, on whatever page it is asked.
pub record IsAnswered (r : Request) (k : ℕ) (old : Shared) (answer : Answer) (new : Shared) : Type 0 where
  pub replies : (page : Opened) → kept_or_new old.session (outcome_completed (asker page old k) r) ≡ (reply_of answer, new.session)
  pub first : new.first ≡ old.first
  pub base : new.session.base ≡ old.session.base
  pub cites : AnswerCites answer

-- So they are where the transaction is performed, if it may be.
pub record IsPerformed (t : Transaction) (k : ℕ) (old : Shared) (answer : Answer) (new : Shared) : Type 0 where
  pub replies : (page : Opened) → kept_or_new old.session (performed_or_no (asker page old k) (checked_transaction (site_at old k).replica (Ok t))) ≡ (reply_of answer, new.session)
  pub first : new.first ≡ old.first
  pub base : new.session.base ≡ old.session.base
  pub cites : AnswerCites answer

-- The request is refused; or memory is wanting, which may be at any time.
abbrev pub IsStopped : Request → ℕ → Shared → ChangeStop → Type 0
IsStopped r k old (stop.Refused why) = (page : Opened) → outcome_completed (asker page old k) r ≡ Err (No why)
IsStopped r k old stop.Memory = Unit {0}

-- Memory may be wanting for the request to the site at k. Where the model refuses before anything
-- takes memory, it isn't: something has to be there to take back, to make again, to send, to serve
-- or to take, and the entry to be seen; for an edit, its draft may want it; and a selection takes
-- none.
abbrev pub MayWant : Request → Shared → ℕ → Type 0
MayWant (request.Edit change) s k = MayWantDraft (site_at s k).replica.items change
MayWant request.Undo s k = IsOk (undo (site_at s k))
MayWant request.Redo s k = IsOk (redo (site_at s k))
MayWant request.Send s k = IsOk (send (site_at s k))
MayWant request.Serve s k = serve_next k (member_at s k) s.session ≢ None
MayWant request.Take s k = take_next k (member_at s k) s.session ≢ None
MayWant (request.Revoke entry live) s k = entry < (site_at s k).seen
MayWant (request.Select anchor focus) s k = ⊥
MayWant _ s k = Unit {0}
