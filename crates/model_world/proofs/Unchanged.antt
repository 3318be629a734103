-- Where an outcome changes the session, its reply is no refusal.
use Rattle.std.proofs.Common.{◌≡◌, ℕ, nat_lt, Bool, true, false, List, length, slice_get, slice_range, ◌||◌, Option, Some, None, Result, Ok, Err, if◌then◌else◌, unwrap_or, refl, map}
use Rattle.model_change.specs.Transaction.{Transaction}
use Rattle.model_page.specs.PageItems.{Opened}
use Rattle.model_edit.specs.Causes.{TableCause, ListCause}
use Rattle.model_edit.specs.declared.selection.Dir.{Dir}
use Rattle.model_edit.specs.declared.selection.Selection.{Selection}
use Rattle.model_edit.specs.Translate.{between}
use Rattle.model_edit.specs.Grid.{Grid, grid}
use Rattle.model_edit.specs.Tables.{row_in, row_out, col_in, col_out}
use Rattle.model_edit.specs.Lists.{indent, outdent}
use Rattle.model_site.specs.declared.served.Served.{Served}
use Rattle.model_site.specs.declared.taken.Taken.{Taken}
use Rattle.model_site.specs.declared.taken.Taken.TheVariants as taken
use Rattle.model_site.specs.Site.{Site, Submission, undo, redo, send, revoke_entry}
use Rattle.model_site.specs.Session.{Session, Member, serve_next, take_next}
use Rattle.model_world.specs.declared.edit_command.EditCommand.TheVariants as change
use Rattle.model_world.specs.declared.command.Request.{Request}
use Rattle.model_world.specs.declared.command.Request.TheVariants as request
use Rattle.model_world.specs.declared.command.Command.{Command}
use Rattle.model_world.specs.declared.command.Command.TheVariants.{OpenPage, Ask}
use Rattle.model_world.specs.declared.refusal.Refusal.{Refusal}
use Rattle.model_world.specs.declared.refusal.Refusal.TheVariants.{BadRange, BadOffset, BadEntry, LineTooLong}
use Rattle.model_world.specs.declared.reply.Reply.{Reply}
use Rattle.model_world.specs.declared.reply.Reply.TheVariants as reply
use Rattle.model_world.specs.Commands.{command}
use Rattle.model_world.specs.Refusals.{refused_as, undo_refusal, redo_refusal, send_refusal, revoke_refusal, table_refusal, list_refusal}
use Rattle.model_world.specs.Completed.{completed}
use Rattle.model_world.specs.Edits.{BatchRefusal, checked_transaction, change_on, batch_on}
use Rattle.model_world.specs.Opening.{open_page}
use Rattle.model_world.specs.Answers.{Outcome, Asked, request_outcome, site_of, replica_of, site_items, unchanged_outcome, refusal_outcome, changed_or_no, performed_or_no, batch_or_no, selection_outcome, is_no_end, select_between, next_place, moved_or_no, lower, higher, to_erase, erased_or_no, typing, typed_or_no, items_shown_or_no, node_told, node_or_no, content_near, edge_or, offset_told, near_or_no, grid_or_no, table_changed, list_changed, sent_or_no, served_or_no, taken_or_no, taken_reply, revoked_or_no}
use Rattle.ve_base.specs.Limits.{max_line}
use Rattle.model_world.specs.World.{World, Closed, Open, Answer, opened_or_no, on_page, asked_of, answer_of, answered_if, answer, reply_and_next}
use Rattle.model_world.specs.Laws.{is_refusal, RefusalsChangeNothing}

-- a reply with a session is no refusal
abbrev Answers : {A : Type 0} → Result (Reply × A) Reply → Type 0
Answers (Ok r) = is_refusal r.0 ≡ false
Answers (Err r) = Unit {0}

either : {A : Type 0} (b : Bool) (x y : Result (Reply × A) Reply) → Answers x → Answers y → Answers (if b then x else y)
either true x y p q = p
either false x y p q = q

site_answers : (a : Asked) (r : Result Site Refusal) → Answers (changed_or_no a r)
site_answers a (Ok site) = refl
site_answers a (Err refusal) = tt

performed_answers : (a : Asked) (r : Result Transaction Refusal) → Answers (performed_or_no a r)
performed_answers a (Ok t) = refl
performed_answers a (Err refusal) = tt

batch_answers : (a : Asked) (r : Result (List Transaction) BatchRefusal) → Answers (batch_or_no a r)
batch_answers a (Ok ts) = refl
batch_answers a (Err f) = tt

typed_answers : (a : Asked) (r : Result (List Transaction) BatchRefusal) → Answers (typed_or_no a r)
typed_answers a (Ok ts) = refl
typed_answers a (Err f) = tt

moved_answers : (a : Asked) (keep : Bool) (r : Result ℕ Refusal) → Answers (moved_or_no a keep r)
moved_answers a keep (Ok at) = refl
moved_answers a keep (Err refusal) = tt

erased_answers : (a : Asked) (r : Result Selection Refusal) → Answers (erased_or_no a r)
erased_answers a (Ok s) = performed_answers a (change_on (replica_of a) (change.Remove (lower s) (higher s)))
erased_answers a (Err refusal) = tt

grid_answers : (a : Asked) (r : Result Grid TableCause) → Answers (grid_or_no a r)
grid_answers a (Ok g) = refl
grid_answers a (Err fault) = tt

table_answers : (a : Asked) (r : Result Transaction TableCause) → Answers (table_changed a r)
table_answers a r = performed_answers a (checked_transaction (replica_of a) (refused_as table_refusal r))

list_answers : (a : Asked) (r : Result Transaction ListCause) → Answers (list_changed a r)
list_answers a r = performed_answers a (checked_transaction (replica_of a) (refused_as list_refusal r))

sent_answers : (a : Asked) (r : Result (Site × Submission) Refusal) → Answers (sent_or_no a r)
sent_answers a (Ok r) = refl
sent_answers a (Err refusal) = tt

served_answers : (o : Option (Session × Served)) → Answers (served_or_no o)
served_answers None = tt
served_answers (Some r) = refl

taken_answers : (o : Option (Session × Taken)) → Answers (taken_or_no o)
taken_answers None = tt
taken_answers (Some r) = by_taken r.1
  where
    by_taken : (t : Taken) → is_refusal (taken_reply t) ≡ false
    by_taken (taken.Foreign entries dropped) = refl
    by_taken (taken.Acked accepted) = refl

revoke_answers : (a : Asked) (i : ℕ) (live : Bool) → Answers (revoked_or_no a i live)
revoke_answers a i live = by_seen (nat_lt i (site_of a).seen)
  where
    by_seen : (b : Bool) → Answers {A = Session} (elim b [
      | false ↦ refusal_outcome (BadEntry i (site_of a).seen)
      | true ↦ changed_or_no a (refused_as (revoke_refusal i) (revoke_entry a.session.committed a.session.hints live i (site_of a)))
    ])
    by_seen false = tt
    by_seen true = site_answers a (refused_as (revoke_refusal i) (revoke_entry a.session.committed a.session.hints live i (site_of a)))

show_answers : (a : Asked) (from to : ℕ) → Answers (items_shown_or_no a from to)
show_answers a from to =
    either (nat_lt to from || nat_lt (length (site_items a)) to) (refusal_outcome (BadRange from to))
    (unchanged_outcome a (reply.Items (slice_range (site_items a) from to))) tt refl

node_answers : (a : Asked) (at : ℕ) → Answers (node_or_no a at)
node_answers a at = either (nat_lt (length (site_items a)) at) (refusal_outcome (BadOffset at)) (node_told a at) tt refl

offset_answers : (a : Asked) (r : Result ℕ Refusal) → Answers (offset_told a r)
offset_answers a (Ok at) = refl
offset_answers a (Err refusal) = tt

near_answers : (a : Asked) (at : ℕ) (dir : Dir) → Answers (near_or_no a at dir)
near_answers a at dir =
    let found = edge_or at (content_near (site_items a) at dir) in
    either (nat_lt (length (site_items a)) at) (refusal_outcome (BadOffset at)) (offset_told a found) tt (offset_answers a found)

select_answers : (a : Asked) (anchor focus : ℕ) → Answers (select_between a anchor focus)
select_answers a anchor focus =
    let done = selection_outcome a (between anchor focus) in
    let second = if is_no_end (site_items a) focus then refusal_outcome (BadOffset focus) else done in
    either (is_no_end (site_items a) anchor) (refusal_outcome (BadOffset anchor)) second tt
    (either (is_no_end (site_items a) focus) (refusal_outcome (BadOffset focus)) done tt refl)

asked_answers : (a : Asked) (r : Request) → Answers (request_outcome a r)
asked_answers a request.Html = refl
asked_answers a request.Tree = refl
asked_answers a request.Refs = refl
asked_answers a request.Caret = refl
asked_answers a request.Undo = site_answers a (refused_as undo_refusal (undo (site_of a)))
asked_answers a request.Redo = site_answers a (refused_as redo_refusal (redo (site_of a)))
asked_answers a request.Send = sent_answers a (refused_as send_refusal (send (site_of a)))
asked_answers a request.Serve = served_answers (serve_next a.k a.member a.session)
asked_answers a request.Take = taken_answers (take_next a.k a.member a.session)
asked_answers a request.Tell = refl
asked_answers a (request.ShowItems from to) = show_answers a from (unwrap_or to (length (site_items a)))
asked_answers a (request.At at) = node_answers a at
asked_answers a (request.Near at dir) = near_answers a at dir
asked_answers a (request.Edit change) = performed_answers a (change_on (replica_of a) (completed a.page.items change))
asked_answers a (request.Batch cmds) = batch_answers a (batch_on (replica_of a) (map (completed a.page.items) cmds))
asked_answers a (request.Select anchor focus) = select_answers a anchor focus
asked_answers a (request.Move dir by keep) = moved_answers a keep (next_place (site_items a) (replica_of a).selection.focus dir by)
asked_answers a (request.TypeText text) = typed_answers a (batch_on (replica_of a) (typing (replica_of a).selection text))
asked_answers a (request.Erase dir by) = erased_answers a (to_erase (replica_of a) dir by)
asked_answers a (request.Grid at) = grid_answers a (grid (site_items a) at)
asked_answers a (request.RowIn at row) = table_answers a (row_in (site_items a) at row)
asked_answers a (request.RowOut at row) = table_answers a (row_out (site_items a) at row)
asked_answers a (request.ColIn at column) = table_answers a (col_in (site_items a) at column)
asked_answers a (request.ColOut at column) = table_answers a (col_out (site_items a) at column)
asked_answers a (request.Indent at) = list_answers a (indent (site_items a) at)
asked_answers a (request.Outdent at) = list_answers a (outdent (site_items a) at)
asked_answers a (request.Revoke entry live) = revoke_answers a entry live

page_answers : (page : Opened) (r : Outcome) → Answers r → Answers (on_page page r)
page_answers page (Ok r) p = p
page_answers page (Err r) p = tt

member_answers : (page : Opened) (w : Session) (r : Request) (k : ℕ) (m : Option Member) → Answers (asked_of page w r k m)
member_answers page w r k None = tt
member_answers page w r k (Some m) =
    let a : Asked = record { page = page; session = w; k = k; member = m } in page_answers page (request_outcome a r) (asked_answers a r)

open_answers : (sites : ℕ) (r : Result Opened Refusal) → Answers (opened_or_no sites r)
open_answers sites (Ok page) = refl
open_answers sites (Err refusal) = tt

command_answers : (w : World) (c : Command) → Answers (answer_of w c)
command_answers w (OpenPage page sites) = open_answers sites (open_page page)
command_answers Closed (Ask r k) = tt
command_answers (Open page session) (Ask r k) = member_answers page session r k (slice_get session.members k)

asking_answers : (w : World) (r : Result Command Refusal) → Answers (answered_if w r)
asking_answers w (Err refusal) = tt
asking_answers w (Ok c) = command_answers w c

line_answers : (w : World) (line : List ℕ) → Answers (answer w line)
line_answers w line = by_length (nat_lt max_line (length line))
  where
    by_length : (b : Bool) → Answers {A = World} (elim b [
      | true ↦ Err (reply.No (LineTooLong (length line)))
      | false ↦ answered_if w (command line)
    ])
    by_length true = tt
    by_length false = asking_answers w (command line)

pub refusals_change_nothing : RefusalsChangeNothing
refusals_change_nothing w line = by_answer (answer w line) (line_answers w line)
  where
    by_answer : (a : Answer) → Answers a → is_refusal (reply_and_next w a).0 ≡ true → (reply_and_next w a).1 ≡ w
    by_answer (Ok r) p h = cc
    by_answer (Err r) p h = refl
