-- The bytes that nodes were in the page that was first read: what is borrowed of it, and which of
-- them are written again.
use Rattle.std.specs.Prelude.{◌≡◌, ◌<◌, ⊤, ℕ, false, List, [], ◌∷◌, drop, take, slice_get, length, All, Option, Some, None}
use Rattle.std.specs.List.{list_any}
use Rattle.ve_base.specs.declared.value.Value.{Value}
use Rattle.model_items.specs.declared.item.Item.{Item}
use Rattle.model_items.specs.declared.plain_item.PlainItem.{PlainItem}
use Rattle.model_items.specs.declared.plain_item.PlainItem.TheVariants.{Char, Opening, Closing}
use Rattle.model_items.specs.Law.{Lawful}
use Rattle.model_items.specs.Plain.{plain_list, CitesWell}
use Rattle.model_page.specs.declared.ref_table.RefRow.{RefRow}
use Rattle.model_page.specs.PageItems.{Opened}
use Rattle.model_page.specs.References.{table}
use Rattle.model_page_write.specs.Nodes.{Nodes, Empty, Letter, Node, carried_items, carried_nodes, node_items}
use Rattle.model_page_write.specs.PageText.{fresh, original_at, page_writer}
use Rattle.model_page_write.specs.Written.{Writer, blocks}
use Rattle.ve_origin.specs.Kept.{node_at, opens_notes, IsNodeRange}
use Rattle.ve_origin.specs.Known.{IsKnown}
use Rattle.ve_origin.specs.Origins.{FirstRead, source_span, spans}
use Rattle.ve_origin.specs.declared.known.Known.{Known}
use Rattle.ve_origin.specs.declared.origin.OriginRow.{OriginRow}
use Rattle.ve_write.specs.declared.first_page.First.{First}

-- the page that was first read, over these values
abbrev pub opened_over : List Value → FirstRead → Opened
opened_over values o = record { page = o.page; body = source_span o.body; items = plain_list values o.items; spans = spans o.rows }

-- the origin of the node that begins here
abbrev pub origin_of : List PlainItem → Option ℕ
origin_of [] = None
origin_of (Char c marks ∷ items) = None
origin_of (Closing kind pre ∷ items) = None
origin_of (Opening kind head marks pre origin generated ∷ items) = origin

-- the bytes that the node at a position was, where it is kept
abbrev pub original_there : Opened → List PlainItem → ℕ → Option (List ℕ)
original_there o items at = original_at o (carried_items o.items) (origin_of (drop at items)) (node_at (carried_items items) at)

abbrev pub originals_of : Option FirstRead → List Value → List Item → ℕ → Option (List ℕ)
originals_of None values items at = None
originals_of (Some o) values items at = original_there (opened_over values o) (plain_list values items) at

-- the nodes of a whole list: the bytes of those that are kept, and the text of all others
abbrev pub list_text : Option FirstRead → List Value → List PlainItem → List ℕ
list_text None values items = fresh items
list_text (Some o) values items = blocks (page_writer (opened_over values o)) false [] (carried_nodes (carried_items items))

-- the original bytes of the node that comes first, by a writer
abbrev pub original_in : Writer → Nodes → Option (List ℕ)
original_in w Empty = None
original_in w (Letter c marks later) = None
original_in w (Node start inside pre later) = w.original start (node_items start inside pre)

-- The page that was first read stands over these values. Each origin's node is the range of its
-- row, each origin in its list has a row, and the table is that of its list.
pub record IsFirst (values : List Value) (o : FirstRead) : Type 0 where
  pub cites : All (CitesWell values) o.items
  pub ranges : (k : ℕ) (row : OriginRow) → slice_get o.rows k ≡ Some row → IsNodeRange (plain_list values o.items) k row.from row.to
  pub refs : o.refs ≡ table (plain_list values o.items)
  pub numbered : (at k : ℕ) → origin_of (drop at (plain_list values o.items)) ≡ Some k → k < length o.rows

-- The list is lawful, and the table is that of its references.
pub record IsLent (values : List Value) (items : List Item) (refs : List RefRow) (o : FirstRead) : Type 0 where
  pub first : IsFirst values o
  pub lawful : Lawful (plain_list values items)
  pub rows : refs ≡ table (plain_list values items)

-- ---- what a page lends of the one that was first read

abbrev pub read_of : Option First → Option FirstRead
read_of None = None
read_of (Some first) = Some first.origins.now

abbrev pub AreLent : List Value → List Item → List RefRow → Option First → Type 0
AreLent values items refs None = ⊤
AreLent values items refs (Some first) = IsLent values items refs first.origins.now

-- Where originals are looked for, the internal list opens at this position or after it.
abbrev pub IsBefore : List Value → List Item → Option First → ℕ → Type 0
IsBefore values items None at = ⊤
IsBefore values items (Some first) at = list_any opens_notes (take at (plain_list values items)) ≡ false

-- Where it is lent, this is known of its list and of this one.
abbrev pub IsKnownFor : List Item → List RefRow → Option First → Known → Type 0
IsKnownFor items refs None known = ⊤
IsKnownFor items refs (Some first) known = IsKnown items refs first.origins.now known
