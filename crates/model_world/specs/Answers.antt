-- The reply to a site's request, and the session after it.
use Rattle.std.specs.Prelude.{ℕ, suc, ◌+◌, ◌==◌, min, max, chars, nat_le, nat_lt, Bool, true, false, ◌||◌, if◌then◌else◌, List, [], ◌∷◌, ◌++◌, length, map, find, reverse, slice_range, Option, Some, None, unwrap_or, Result, Ok, Err}
use Rattle.model_items.specs.declared.plain_item.PlainItem.{PlainItem}
use Rattle.model_items.specs.declared.plain_item.PlainItem.TheVariants.{Char}
use Rattle.model_items.specs.Tree.{tree_of, node_at, class_at}
use Rattle.model_change.specs.Transaction.{Transaction, all_inserted}
use Rattle.model_change.specs.Join.{first}
use Rattle.model_page.specs.References.{table}
use Rattle.model_page.specs.PageItems.{Opened}
use Rattle.model_page_write.specs.PageText.{write}
use Rattle.model_edit.specs.declared.selection.Selection.{Selection}
use Rattle.model_edit.specs.declared.selection.Dir.{Dir}
use Rattle.model_edit.specs.declared.selection.Dir.TheVariants.{Back, Ahead}
use Rattle.model_edit.specs.declared.selection.By.{By}
use Rattle.model_edit.specs.Causes.{TableCause, ListCause}
use Rattle.model_items.specs.Offsets.{content_offsets, is_content, is_inside_leaf}
use Rattle.model_edit.specs.Translate.{between}
use Rattle.model_edit.specs.Next.{next}
use Rattle.model_edit.specs.Grid.{Grid, grid}
use Rattle.model_edit.specs.Tables.{row_in, row_out, col_in, col_out}
use Rattle.model_edit.specs.Lists.{indent, outdent}
use Rattle.model_site.specs.declared.served.Clash.{Clash}
use Rattle.model_site.specs.declared.served.Served.{Served}
use Rattle.model_site.specs.declared.taken.Taken.{Taken}
use Rattle.model_site.specs.declared.taken.Taken.TheVariants as taken
use Rattle.model_site.specs.Replica.{Replica}
use Rattle.model_site.specs.Site.{Site, told, with_entry, with_selection, with_told, undo, redo, send, revoke_entry, Submission}
use Rattle.model_site.specs.Session.{Session, Member, with_member, serve_next, take_next}
use Rattle.model_world.specs.declared.edit_command.TextMarks.TheVariants.{Left}
use Rattle.model_world.specs.declared.edit_command.EditCommand.{EditCommand}
use Rattle.model_world.specs.declared.edit_command.EditCommand.TheVariants as change
use Rattle.model_world.specs.declared.command.Request.{Request}
use Rattle.model_world.specs.declared.command.Request.TheVariants as request
use Rattle.model_world.specs.declared.refusal.Refusal.{Refusal}
use Rattle.model_world.specs.declared.refusal.Refusal.TheVariants.{BadRange, BadOffset, NotContent, Edge, NothingQueued, BadEntry}
use Rattle.model_world.specs.declared.reply.Reply.{Reply}
use Rattle.model_world.specs.declared.reply.Reply.TheVariants as reply
use Rattle.model_world.specs.Shown.{tree_words}
use Rattle.model_world.specs.Refusals.{refused_as, undo_refusal, redo_refusal, send_refusal, revoke_refusal, table_refusal, list_refusal}
use Rattle.model_world.specs.Completed.{completed}
use Rattle.model_world.specs.Edits.{BatchRefusal, checked_transaction, change_on, batch_on}

-- the reply and the session after it, or the refusal
abbrev pub Outcome : Type 0
Outcome = Result (Reply × Session) Reply

-- the site that is asked: the one numbered k of a session on this page
pub record Asked : Type 0 where
  pub page : Opened
  pub session : Session
  pub k : ℕ
  pub member : Member

abbrev pub site_of : Asked → Site
site_of a = a.member.site

abbrev pub replica_of : Asked → Replica
replica_of a = a.member.site.replica

abbrev pub site_items : Asked → List PlainItem
site_items a = a.member.site.replica.items

-- ---- what comes of it

abbrev pub refusal_outcome : Refusal → Outcome
refusal_outcome refusal = Err (reply.No refusal)

-- nothing changes
abbrev pub unchanged_outcome : Asked → Reply → Outcome
unchanged_outcome a answer = Ok (answer, a.session)

abbrev pub with_site : Asked → Site → Session
with_site a site = with_member a.k (record a.member { site = site }) a.session

-- the site changes, and the length of its list is told
abbrev pub changed_outcome : Asked → Site → Outcome
changed_outcome a site = Ok (reply.Length (length site.replica.items), with_site a site)

abbrev pub changed_or_no : Asked → Result Site Refusal → Outcome
changed_or_no a (Err refusal) = refusal_outcome refusal
changed_or_no a (Ok site) = changed_outcome a site

-- ---- edits

abbrev pub performed_or_no : Asked → Result Transaction Refusal → Outcome
performed_or_no a (Err refusal) = refusal_outcome refusal
performed_or_no a (Ok t) = changed_outcome a (with_entry (t ∷ []) (site_of a))

abbrev pub batch_or_no : Asked → Result (List Transaction) BatchRefusal → Outcome
batch_or_no a (Err f) = Err (reply.NoBatch f.at f.refusal)
batch_or_no a (Ok ts) = changed_outcome a (with_entry ts (site_of a))

abbrev pub table_changed : Asked → Result Transaction TableCause → Outcome
table_changed a result = performed_or_no a (checked_transaction (replica_of a) (refused_as table_refusal result))

abbrev pub list_changed : Asked → Result Transaction ListCause → Outcome
list_changed a result = performed_or_no a (checked_transaction (replica_of a) (refused_as list_refusal result))

-- ---- selections

abbrev pub selection_outcome : Asked → Selection → Outcome
selection_outcome a s = Ok (reply.Caret s.anchor s.focus, with_site a (with_selection s (site_of a)))

-- past the list, or inside a leaf
abbrev pub is_no_end : List PlainItem → ℕ → Bool
is_no_end items at = nat_lt (length items) at || is_inside_leaf items at

abbrev pub select_between : Asked → ℕ → ℕ → Outcome
select_between a anchor focus =
    if is_no_end (site_items a) anchor then refusal_outcome (BadOffset anchor)
    else (if is_no_end (site_items a) focus then refusal_outcome (BadOffset focus)
    else selection_outcome a (between anchor focus))

abbrev pub edge_or : ℕ → Option ℕ → Result ℕ Refusal
edge_or at None = Err (Edge at)
edge_or at (Some place) = Ok place

-- the next position of a caret
abbrev pub next_place : List PlainItem → ℕ → Dir → By → Result ℕ Refusal
next_place items at dir by = elim (is_content items at) [
  | false ↦ Err (NotContent at)
  | true ↦ edge_or at (next items at dir by)
]

-- the focus moves, and the anchor with it unless it is kept
abbrev pub moved_or_no : Asked → Bool → Result ℕ Refusal → Outcome
moved_or_no a keep (Err refusal) = refusal_outcome refusal
moved_or_no a keep (Ok at) = selection_outcome a (between (if keep then (replica_of a).selection.anchor else at) at)

abbrev pub lower : Selection → ℕ
lower s = min s.anchor s.focus

abbrev pub higher : Selection → ℕ
higher s = max s.anchor s.focus

abbrev pub is_collapsed : Selection → Bool
is_collapsed s = s.anchor == s.focus

abbrev pub up_to : ℕ → Result ℕ Refusal → Result Selection Refusal
up_to at (Err refusal) = Err refusal
up_to at (Ok place) = Ok (between at place)

-- the range to erase: the selection, or from the caret to its next position
abbrev pub to_erase : Replica → Dir → By → Result Selection Refusal
to_erase r dir by = elim (is_collapsed r.selection) [
  | false ↦ Ok r.selection
  | true ↦ up_to r.selection.focus (next_place r.items r.selection.focus dir by)
]

abbrev pub erased_or_no : Asked → Result Selection Refusal → Outcome
erased_or_no a (Err refusal) = refusal_outcome refusal
erased_or_no a (Ok s) = performed_or_no a (change_on (replica_of a) (change.Remove (lower s) (higher s)))

-- ---- typing

-- the selection is removed, where there is one, and the text stands at its lower end
abbrev pub typing : Selection → List ℕ → List EditCommand
typing s text =
    let put = change.Text (lower s) text Left ∷ [] in
    if is_collapsed s then put else change.Remove (lower s) (higher s) ∷ put

-- how many items up to and with the last character
abbrev pub to_last_char : List PlainItem → ℕ
to_last_char [] = 0
to_last_char (Char c marks ∷ items) = suc (to_last_char items)
to_last_char (item ∷ items) = let n = to_last_char items in if n == 0 then 0 else suc n

-- just after the last character that the last transaction inserts
abbrev pub after_text : List Transaction → ℕ
after_text [] = 0
after_text (t ∷ []) = first t + to_last_char (all_inserted t)
after_text (t ∷ u ∷ ts) = after_text (u ∷ ts)

-- the caret stands after the text
abbrev pub typed_or_no : Asked → Result (List Transaction) BatchRefusal → Outcome
typed_or_no a (Err f) = refusal_outcome f.refusal
typed_or_no a (Ok ts) = changed_outcome a (with_selection (between (after_text ts) (after_text ts)) (with_entry ts (site_of a)))

-- ---- what changed

-- the list's length and what changed in it; from then on the site has told it
abbrev pub told_outcome : Asked → Outcome
told_outcome a = Ok (reply.Told (length (site_items a)) (told (site_of a)), with_site a (with_told (site_of a)))

-- ---- showing

abbrev pub items_shown_or_no : Asked → ℕ → ℕ → Outcome
items_shown_or_no a from to =
    if nat_lt to from || nat_lt (length (site_items a)) to
    then refusal_outcome (BadRange from to)
    else unchanged_outcome a (reply.Items (slice_range (site_items a) from to))

abbrev pub node_told : Asked → ℕ → Outcome
node_told a at = let node = node_at (site_items a) at in unchanged_outcome a (reply.At node.kind node.from node.to (class_at (site_items a) at))

abbrev pub node_or_no : Asked → ℕ → Outcome
node_or_no a at = if nat_lt (length (site_items a)) at then refusal_outcome (BadOffset at) else node_told a at

-- the last content offset up to a place, or the first from there on
abbrev pub content_near : List PlainItem → ℕ → Dir → Option ℕ
content_near items at Back = find (λ o. nat_le o at) (reverse (content_offsets items))
content_near items at Ahead = find (λ o. nat_le at o) (content_offsets items)

abbrev pub offset_told : Asked → Result ℕ Refusal → Outcome
offset_told a (Err refusal) = refusal_outcome refusal
offset_told a (Ok at) = unchanged_outcome a (reply.Offset at)

abbrev pub near_or_no : Asked → ℕ → Dir → Outcome
near_or_no a at dir =
    if nat_lt (length (site_items a)) at then refusal_outcome (BadOffset at)
    else offset_told a (edge_or at (content_near (site_items a) at dir))

abbrev pub grid_or_no : Asked → Result Grid TableCause → Outcome
grid_or_no a (Err fault) = refusal_outcome (table_refusal fault)
grid_or_no a (Ok g) = unchanged_outcome a (reply.Grid g.rows g.columns g.cells)

-- ---- the server

abbrev pub sent_or_no : Asked → Result (Site × Submission) Refusal → Outcome
sent_or_no a (Err refusal) = refusal_outcome refusal
sent_or_no a (Ok (site, s)) = Ok (
  reply.Sent (length s.entries),
  with_member a.k (record { site = site; submissions = a.member.submissions ++ s ∷ []; feeds = a.member.feeds }) a.session,
)

abbrev pub ranges : Option Clash → Option ((ℕ × ℕ) × (ℕ × ℕ))
ranges None = None
ranges (Some clash) = Some (clash.committed, clash.submitted)

abbrev pub served_or_no : Option (Session × Served) → Outcome
served_or_no None = refusal_outcome NothingQueued
served_or_no (Some (w, s)) = Ok (reply.Served s.accepted s.total (ranges s.clash), w)

abbrev pub taken_reply : Taken → Reply
taken_reply (taken.Foreign entries dropped) = reply.TookForeign entries dropped
taken_reply (taken.Acked accepted) = reply.TookAck accepted

abbrev pub taken_or_no : Option (Session × Taken) → Outcome
taken_or_no None = refusal_outcome NothingQueued
taken_or_no (Some (w, t)) = Ok (taken_reply t, w)

-- a committed entry that the site has seen, taken back
abbrev pub revoked_or_no : Asked → ℕ → (live : Bool) → Outcome
revoked_or_no a i live = elim (nat_lt i (site_of a).seen) [
  | false ↦ refusal_outcome (BadEntry i (site_of a).seen)
  | true ↦ changed_or_no a (refused_as (revoke_refusal i) (revoke_entry a.session.committed a.session.hints live i (site_of a)))
]

-- ---- each request

abbrev pub request_outcome : Asked → Request → Outcome
request_outcome a request.Html = unchanged_outcome a (reply.Page (chars (write a.page (site_items a))))
request_outcome a request.Tree = unchanged_outcome a (reply.Tree (tree_words (tree_of (site_items a))))
request_outcome a request.Refs = unchanged_outcome a (reply.Refs (table (site_items a)))
request_outcome a request.Caret = unchanged_outcome a (reply.Caret (replica_of a).selection.anchor (replica_of a).selection.focus)
request_outcome a request.Undo = changed_or_no a (refused_as undo_refusal (undo (site_of a)))
request_outcome a request.Redo = changed_or_no a (refused_as redo_refusal (redo (site_of a)))
request_outcome a request.Send = sent_or_no a (refused_as send_refusal (send (site_of a)))
request_outcome a request.Serve = served_or_no (serve_next a.k a.member a.session)
request_outcome a request.Take = taken_or_no (take_next a.k a.member a.session)
request_outcome a request.Tell = told_outcome a
request_outcome a (request.ShowItems from to) = items_shown_or_no a from (unwrap_or to (length (site_items a)))
request_outcome a (request.At at) = node_or_no a at
request_outcome a (request.Near at dir) = near_or_no a at dir
request_outcome a (request.Edit change) = performed_or_no a (change_on (replica_of a) (completed a.page.items change))
request_outcome a (request.Batch cmds) = batch_or_no a (batch_on (replica_of a) (map (completed a.page.items) cmds))
request_outcome a (request.Select anchor focus) = select_between a anchor focus
request_outcome a (request.Move dir by keep) = moved_or_no a keep (next_place (site_items a) (replica_of a).selection.focus dir by)
request_outcome a (request.TypeText text) = typed_or_no a (batch_on (replica_of a) (typing (replica_of a).selection text))
request_outcome a (request.Erase dir by) = erased_or_no a (to_erase (replica_of a) dir by)
request_outcome a (request.Grid at) = grid_or_no a (grid (site_items a) at)
request_outcome a (request.RowIn at row) = table_changed a (row_in (site_items a) at row)
request_outcome a (request.RowOut at row) = table_changed a (row_out (site_items a) at row)
request_outcome a (request.ColIn at column) = table_changed a (col_in (site_items a) at column)
request_outcome a (request.ColOut at column) = table_changed a (col_out (site_items a) at column)
request_outcome a (request.Indent at) = list_changed a (indent (site_items a) at)
request_outcome a (request.Outdent at) = list_changed a (outdent (site_items a) at)
request_outcome a (request.Revoke entry live) = revoked_or_no a entry live
