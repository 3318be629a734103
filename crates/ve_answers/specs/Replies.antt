-- Replies to the requests that change nothing: by the page that was first read, the site's items,
-- and the selection.
use Rattle.std.specs.Prelude.{ℕ, ◌||◌, nat_lt, if◌then◌else◌, chars, List, length, slice_range, Result, Ok, Err}
use Rattle.model_items.specs.declared.plain_item.PlainItem.{PlainItem}
use Rattle.model_items.specs.Tree.{tree_of, node_at, class_at}
use Rattle.model_page.specs.References.{table}
use Rattle.model_page.specs.PageItems.{Opened}
use Rattle.model_page_write.specs.PageText.{write}
use Rattle.model_edit.specs.declared.selection.Selection.{Selection}
use Rattle.model_edit.specs.Causes.{TableCause}
use Rattle.model_edit.specs.declared.selection.Dir.{Dir}
use Rattle.model_edit.specs.Grid.{Grid, grid}
use Rattle.model_world.specs.declared.refusal.Refusal.{Refusal}
use Rattle.model_world.specs.declared.refusal.Refusal.TheVariants.{BadOffset, BadRange}
use Rattle.model_world.specs.declared.reply.Reply.{Reply}
use Rattle.model_world.specs.declared.reply.Reply.TheVariants as reply
use Rattle.model_world.specs.Answers.{content_near, edge_or}
use Rattle.model_world.specs.Refusals.{table_refusal}
use Rattle.model_world.specs.Shown.{tree_words}

-- the page that the items give, after the one that was first read
abbrev pub html_reply : Opened → List PlainItem → Reply
html_reply page items = reply.Page (chars (write page items))

-- the items from one position up to another
abbrev pub items_reply : List PlainItem → ℕ → ℕ → Reply
items_reply items from to =
    if nat_lt to from || nat_lt (length items) to then reply.No (BadRange from to) else reply.Items (slice_range items from to)

abbrev pub tree_reply : List PlainItem → Reply
tree_reply items = reply.Tree (tree_words (tree_of items))

-- the innermost node round an offset, and what the offset is
abbrev pub node_reply : List PlainItem → ℕ → Reply
node_reply items at =
    if nat_lt (length items) at then reply.No (BadOffset at)
    else (let node = node_at items at in reply.At node.kind node.from node.to (class_at items at))

-- an offset, or why there is none
abbrev pub offset_reply : Result ℕ Refusal → Reply
offset_reply (Err refusal) = reply.No refusal
offset_reply (Ok at) = reply.Offset at

-- the nearest content offset at a place or beyond it
abbrev pub near_reply : List PlainItem → ℕ → Dir → Reply
near_reply items at dir =
    if nat_lt (length items) at then reply.No (BadOffset at)
    else offset_reply (edge_or at (content_near items at dir))

abbrev pub refs_reply : List PlainItem → Reply
refs_reply items = reply.Refs (table items)

abbrev pub caret_reply : Selection → Reply
caret_reply s = reply.Caret s.anchor s.focus

-- a grid, or why there is none
abbrev pub grid_told : Result Grid TableCause → Reply
grid_told (Err cause) = reply.No (table_refusal cause)
grid_told (Ok grid) = reply.Grid grid.rows grid.columns grid.cells

-- the grid of the table that opens at a position
abbrev pub grid_reply : List PlainItem → ℕ → Reply
grid_reply items at = grid_told (grid items at)
