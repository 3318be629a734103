-- The world, the reply to a line, and the output of a script.
use Rattle.std.specs.Prelude.{ℕ, nat_lt, true, false, List, length, slice_get, Option, Some, None, Result, Ok, Err}
use Rattle.ve_base.specs.Limits.{max_line}
use Rattle.model_script.specs.Output.{Meaning, state_after, output}
use Rattle.model_page.specs.PageItems.{Opened}
use Rattle.model_site.specs.Session.{Session, Member}
use Rattle.model_world.specs.declared.command.Request.{Request}
use Rattle.model_world.specs.declared.command.Command.{Command}
use Rattle.model_world.specs.declared.command.Command.TheVariants.{OpenPage, Ask}
use Rattle.model_world.specs.declared.refusal.Refusal.{Refusal}
use Rattle.model_world.specs.declared.refusal.Refusal.TheVariants.{LineTooLong, NotOpen, BadSite}
use Rattle.model_world.specs.declared.reply.Reply.{Reply}
use Rattle.model_world.specs.declared.reply.Reply.TheVariants.{Length, No}
use Rattle.model_world.specs.Commands.{command}
use Rattle.model_world.specs.Spelled.{reply_text}
use Rattle.model_world.specs.Opening.{open_page, session_of}
use Rattle.model_world.specs.Answers.{Outcome, request_outcome}

-- without a page, or with the page as it was first read and the sites that edit it
pub data World : Type 0 where
  Closed : World
  Open : (page : Opened) (session : Session) → World

-- the reply and the world after it, or the refusal
abbrev pub Answer : Type 0
Answer = Result (Reply × World) Reply

-- ---- the answer to a line

-- The causes of a refusal come in this order: the line's length, JSON, the first bad member, no
-- page, no such site, and then those of the request.

abbrev pub opened_or_no : ℕ → Result Opened Refusal → Answer
opened_or_no sites (Err refusal) = Err (No refusal)
opened_or_no sites (Ok page) = Ok (Length (length page.items), Open page (session_of page sites))

abbrev pub on_page : Opened → Outcome → Answer
on_page page (Err refused) = Err refused
on_page page (Ok (reply, session)) = Ok (reply, Open page session)

abbrev pub asked_of : Opened → Session → Request → ℕ → Option Member → Answer
asked_of page session request k None = Err (No (BadSite (length session.members)))
asked_of page session request k (Some member) =
    on_page page (request_outcome (record { page = page; session = session; k = k; member = member }) request)

abbrev pub answer_of : World → Command → Answer
answer_of w (OpenPage page sites) = opened_or_no sites (open_page page)
answer_of Closed (Ask request k) = Err (No NotOpen)
answer_of (Open page session) (Ask request k) = asked_of page session request k (slice_get session.members k)

abbrev pub answered_if : World → Result Command Refusal → Answer
answered_if w (Err refusal) = Err (No refusal)
answered_if w (Ok command) = answer_of w command

abbrev pub answer : World → List ℕ → Answer
answer w line = elim (nat_lt max_line (length line)) [
  | true ↦ Err (No (LineTooLong (length line)))
  | false ↦ answered_if w (command line)
]

-- a refusal leaves the world as it is
abbrev pub reply_and_next : World → Answer → Reply × World
reply_and_next w (Ok both) = both
reply_and_next w (Err refused) = (refused, w)

-- the reply to a line, and the world after it
abbrev pub reply : World → List ℕ → Reply × World
reply w line = reply_and_next w (answer w line)

-- ---- scripts

-- The plain machine: the reply to a line and the world after it. It links no nodes, so it counts no
-- steps.
abbrev pub meaning : Meaning World Reply
meaning = record { reply = λ w line. (reply w line).0; next = λ w line. (reply w line).1; cost = λ w line. 0 }

-- the world after these lines
abbrev pub world_after : World → List (List ℕ) → World
world_after w lines = state_after meaning w lines

-- the output for a script: each reply as a line
abbrev pub output_of : World → List ℕ → List ℕ
output_of w script = output reply_text meaning w script
