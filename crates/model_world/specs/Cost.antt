-- How many steps a line may take. A step makes a node of a linked tree, lets one go, or writes one
-- field of one. It is said by the nodes of the model's trees alone: how many a list's tree has, and
-- how many a transaction touches.
use Rattle.std.specs.Prelude.{ℕ, ◌+◌, ◌*◌, nat_le, nat_lt, Bool, true, false, ◌||◌, if◌then◌else◌, List, [], ◌∷◌, length, map, slice_get, Option, Some, None, Result, Ok, Err}
use Rattle.ve_base.specs.Limits.{max_line}
use Rattle.model_items.specs.declared.plain_item.PlainItem.{PlainItem}
use Rattle.model_items.specs.Cost.{cost_of_tree}
use Rattle.model_change.specs.Cost.{cost_of_transactions}
use Rattle.model_change.specs.Transaction.{Transaction}
use Rattle.model_edit.specs.Lists.{indent, outdent}
use Rattle.model_edit.specs.Tables.{row_in, row_out, col_in, col_out}
use Rattle.model_edit.specs.declared.selection.Selection.{Selection}
use Rattle.model_page.specs.PageItems.{Opened}
use Rattle.model_site.specs.Made.{redoing, revoking, taking_all, undoing}
use Rattle.model_site.specs.Replica.{Replica, performed}
use Rattle.model_site.specs.Session.{Ack, Foreign, Member, Session, SiteFeed}
use Rattle.model_site.specs.Site.{Site}
use Rattle.model_world.specs.declared.command.Command.{Command}
use Rattle.model_world.specs.declared.command.Command.TheVariants.{OpenPage, Ask}
use Rattle.model_world.specs.declared.command.Request.{Request}
use Rattle.model_world.specs.declared.command.Request.TheVariants as request
use Rattle.model_world.specs.declared.edit_command.EditCommand.{EditCommand}
use Rattle.model_world.specs.declared.edit_command.EditCommand.TheVariants as change
use Rattle.model_world.specs.declared.refusal.Refusal.{Refusal}
use Rattle.model_world.specs.Answers.{higher, is_collapsed, lower, to_erase, typing}
use Rattle.model_world.specs.Commands.{command}
use Rattle.model_world.specs.Completed.{completed}
use Rattle.model_world.specs.Edits.{change_on, checked_transaction}
use Rattle.model_world.specs.Opening.{open_page}
use Rattle.model_world.specs.Refusals.{list_refusal, refused_as, table_refusal}
use Rattle.model_world.specs.World.{World, Closed, Open}

-- ---- the transactions that a request makes of its site's list, in their order

abbrev pub made_of : Result Transaction Refusal → List Transaction
made_of (Err refusal) = []
made_of (Ok t) = t ∷ []

-- a row, a column or a list item moved, where it may be
abbrev pub moving : Replica → Result Transaction Refusal → List Transaction
moving r moved = made_of (checked_transaction r moved)

-- changes in turn, up to the first that is refused: those of a refused batch count, too
abbrev pub made_in_turn : Replica → List EditCommand → List Transaction
made_in_turn r [] = []
made_in_turn r (c ∷ cs) = elim (change_on r c) [
  | Err refusal ↦ []
  | Ok t ↦ t ∷ made_in_turn (performed t r) cs
]

abbrev pub erasing : Replica → Result Selection Refusal → List Transaction
erasing r (Err refusal) = []
erasing r (Ok s) = made_of (change_on r (change.Remove (lower s) (higher s)))

-- the site's next feed; the answer to what it sent changes no list
abbrev pub taking : List SiteFeed → Site → List Transaction
taking [] s = []
taking (Foreign entries ∷ later) s = taking_all entries s
taking (Ack accepted ∷ later) s = []

-- a committed entry taken back, if the site has seen it
abbrev pub revoking_seen : Session → ℕ → (live : Bool) → Site → List Transaction
revoking_seen w i live s = if nat_lt i s.seen then revoking w.committed w.hints live i s else []

-- of a site of a session, on a page that was first read as these items; a request that changes no
-- list makes none
abbrev pub made_by : (opened : List PlainItem) → Session → Member → Request → List Transaction
made_by opened w m (request.Edit change) = made_of (change_on m.site.replica (completed opened change))
made_by opened w m (request.Batch cmds) = made_in_turn m.site.replica (map (completed opened) cmds)
made_by opened w m (request.TypeText text) = made_in_turn m.site.replica (typing m.site.replica.selection text)
made_by opened w m (request.Erase dir by) = erasing m.site.replica (to_erase m.site.replica dir by)
made_by opened w m request.Undo = undoing m.site.unsent
made_by opened w m request.Redo = redoing m.site.undone
made_by opened w m request.Take = taking m.feeds m.site
made_by opened w m (request.Revoke entry live) = revoking_seen w entry live m.site
made_by opened w m (request.RowIn at row) = moving m.site.replica (refused_as table_refusal (row_in m.site.replica.items at row))
made_by opened w m (request.RowOut at row) = moving m.site.replica (refused_as table_refusal (row_out m.site.replica.items at row))
made_by opened w m (request.ColIn at column) = moving m.site.replica (refused_as table_refusal (col_in m.site.replica.items at column))
made_by opened w m (request.ColOut at column) = moving m.site.replica (refused_as table_refusal (col_out m.site.replica.items at column))
made_by opened w m (request.Indent at) = moving m.site.replica (refused_as list_refusal (indent m.site.replica.items at))
made_by opened w m (request.Outdent at) = moving m.site.replica (refused_as list_refusal (outdent m.site.replica.items at))
made_by opened w m _ = []

-- ---- what is made besides, so that a line is done whole or not at all

-- the next feed has several entries, each of which has one transaction at least
abbrev pub takes_several : List SiteFeed → Bool
takes_several (Foreign (one ∷ other ∷ entries) ∷ later) = true
takes_several feeds = false

-- the tree of a page without text: its root and a paragraph
abbrev pub cost_of_blank : ℕ
cost_of_blank = 8

-- A batch, a text that is typed over a selection, a feed of several entries and what else makes
-- several transactions are made on a trial of the page; a page without text stands there meanwhile.
abbrev pub cost_besides : Request → Member → List Transaction → ℕ
cost_besides (request.Batch cmds) m ts = cost_of_blank
cost_besides (request.TypeText text) m ts = if is_collapsed m.site.replica.selection then 0 else cost_of_blank
cost_besides request.Take m ts = if takes_several m.feeds || nat_le 2 (length ts) then cost_of_blank else 0
cost_besides _ m ts = if nat_le 2 (length ts) then cost_of_blank else 0

-- ---- a line

abbrev pub cost_of_request : (opened : List PlainItem) → Session → Member → Request → ℕ
cost_of_request opened w m r = let ts = made_by opened w m r in cost_besides r m ts + cost_of_transactions ts m.site.replica.items

-- a page that is opened for so many sites: a tree for each
abbrev pub cost_of_opening : ℕ → Result Opened Refusal → ℕ
cost_of_opening sites (Err refusal) = 0
cost_of_opening sites (Ok page) = sites * cost_of_tree page.items

abbrev pub cost_at : (opened : List PlainItem) → Session → Request → Option Member → ℕ
cost_at opened w r None = 0
cost_at opened w r (Some m) = cost_of_request opened w m r

abbrev pub cost_of_command : World → Result Command Refusal → ℕ
cost_of_command w (Err refusal) = 0
cost_of_command w (Ok (OpenPage page sites)) = cost_of_opening sites (open_page page)
cost_of_command Closed (Ok (Ask r k)) = 0
cost_of_command (Open page session) (Ok (Ask r k)) = cost_at page.items session r (slice_get session.members k)

-- a line that is too long costs nothing, as does one that is refused before it makes anything
abbrev pub cost : World → List ℕ → ℕ
cost w line = if nat_lt max_line (length line) then 0 else cost_of_command w (command line)
