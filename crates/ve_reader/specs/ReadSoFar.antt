-- The state of reading, and the state with one more piece of items. A piece is model_page's: items,
-- and the spans of their openings.
use Rattle.std.specs.Prelude.{ℕ, zero, suc, ◌+◌, ◌-◌, Bool, true, false, List, [], ◌∷◌, ◌++◌, length, map, take, Option, Some, None}
use Rattle.std.specs.Str.{encode_utf8_all}
use Rattle.ve_base.specs.declared.marks.Mark.{Mark}
use Rattle.ve_base.specs.declared.head.Head.{Head}
use Rattle.ve_kinds.specs.declared.kind.Kind.{Kind}
use Rattle.model_items.specs.declared.plain_item.PlainItem.{PlainItem}
use Rattle.model_items.specs.declared.plain_item.PlainItem.TheVariants.{Char, Opening, Closing}
use Rattle.model_items.specs.Tree.{length_to_close}
use Rattle.model_page.specs.Pieces.{SourceSpan, Piece, Owner, Progress, items_after}
use Rattle.model_page.specs.PageItems.{with_origins}
use Rattle.model_page.specs.Fragment.{item_unmade}
use Rattle.ve_origin.specs.declared.origin.OriginRow.{OriginRow}
use Rattle.ve_reader.specs.declared.purpose.Purpose.{Purpose}
use Rattle.ve_reader.specs.declared.purpose.Purpose.TheVariants as purpose
use Rattle.ve_reader.specs.declared.reader.OpenNode.{OpenNode}
use Rattle.ve_reader.specs.declared.reader.NewOwner.{NewOwner}

-- Whether a page, a body or a fragment is read, and how many kinds are open. Then the items so far
-- with the rows of their origins, the marks around, and the owners among the items.
pub record ReadSoFar : Type 0 where
  pub purpose : Purpose
  pub depth : ℕ
  pub items : List PlainItem
  pub marks : List Mark
  pub rows : List OriginRow
  pub owners : List Owner

-- nothing, of a page, a body or a fragment
abbrev pub nothing_read : Purpose → ReadSoFar
nothing_read p = record { purpose = p; depth = 0; items = []; marks = []; rows = []; owners = [] }

abbrev pub is_page : Purpose → Bool
is_page purpose.Page = true
is_page purpose.Body = false
is_page purpose.Fragment = false

-- how far model_page's conversion is, at a byte: references are editable in a page alone
abbrev pub place_in : ReadSoFar → ℕ → Progress
place_in r at = record { at = at; owners = r.owners; editable = is_page r.purpose }

-- ---- marks and bodies

-- one mark more is around
abbrev pub with_mark : Mark → ReadSoFar → ReadSoFar
with_mark mark r = record r { marks = r.marks ++ mark ∷ [] }

-- without the innermost mark
abbrev pub mark_left : ReadSoFar → ReadSoFar
mark_left r = record r { marks = take (length r.marks - 1) r.marks }

-- the page is read, and its owners are handed over: bodies come next
abbrev pub bodies_next : ReadSoFar → ReadSoFar
bodies_next r = record r { purpose = purpose.Body; owners = [] }

-- the owner that a reference at a byte is, if it is one
abbrev pub owned_at : ℕ → Option NewOwner → List Owner
owned_at at None = []
owned_at at (Some o) = record { at = at; key = o.key; html = encode_utf8_all o.html } ∷ []

-- ---- origins

-- items as they are here: with origins from the number k on in a page, as they are in a body, and
-- not generated in a fragment
abbrev pub items_here : Purpose → ℕ → List PlainItem → List PlainItem
items_here purpose.Page k items = with_origins k items
items_here purpose.Body k items = items
items_here purpose.Fragment k items = map item_unmade items

-- a row for each opening, with its span: its node begins there and ends with its closing, where the
-- first item stands at the position `at`
abbrev pub node_rows : ℕ → List PlainItem → List SourceSpan → List OriginRow
node_rows at [] spans = []
node_rows at (Char c marks ∷ items) spans = node_rows (suc at) items spans
node_rows at (Closing kind pre ∷ items) spans = node_rows (suc at) items spans
node_rows at (Opening kind head marks pre origin generated ∷ items) [] = []
node_rows at (Opening kind head marks pre origin generated ∷ items) (span ∷ spans) =
    record { span = record { from = span.from; to = span.to }; from = at; to = suc (at + length_to_close 0 items) } ∷ node_rows (suc at) items spans

-- in a page alone nodes have rows
abbrev pub shown_rows : Purpose → ℕ → Piece → List OriginRow
shown_rows purpose.Page at piece = node_rows at piece.items piece.spans
shown_rows purpose.Body at piece = []
shown_rows purpose.Fragment at piece = []

-- ---- one piece more

-- a piece and the owners in it are read
abbrev pub with_piece : Piece → List Owner → ReadSoFar → ReadSoFar
with_piece piece owners r = record {
  purpose = r.purpose;
  depth = r.depth;
  items = r.items ++ items_here r.purpose (length r.rows) piece.items;
  marks = r.marks;
  rows = r.rows ++ shown_rows r.purpose (length r.items) piece;
  owners = r.owners ++ owners;
}

-- whitespace before a piece
abbrev pub piece_after : List ℕ → Piece → Piece
piece_after white piece = record { items = items_after white piece.items; spans = piece.spans }

-- ---- nodes that are open

abbrev pub opening_piece : Kind → Head → List ℕ → Bool → SourceSpan → Piece
opening_piece kind head white generated span = record { items = Opening kind head [] white None generated ∷ []; spans = span ∷ [] }

abbrev pub closing_piece : Kind → List ℕ → Piece
closing_piece kind white = record { items = Closing kind white ∷ []; spans = [] }

-- a block's opening is read: one kind more is open
abbrev pub with_opening : Kind → Head → List ℕ → Bool → SourceSpan → ReadSoFar → ReadSoFar
with_opening kind head white generated span r =
    let opened = with_piece (opening_piece kind head white generated span) [] r in record opened { depth = suc r.depth }

-- the number of the next origin, after so many
abbrev pub next_origin : Purpose → ℕ → Option ℕ
next_origin purpose.Page count = Some count
next_origin purpose.Body count = None
next_origin purpose.Fragment count = None

-- the node that opens next
abbrev pub node_opened : Kind → ReadSoFar → OpenNode
node_opened kind r = record { kind = kind; row = next_origin r.purpose (length r.rows) }

-- the row of this number ends at the position
abbrev pub row_ended : ℕ → ℕ → List OriginRow → List OriginRow
row_ended k to [] = []
row_ended zero to (row ∷ rows) = record { span = row.span; from = row.from; to = to } ∷ rows
row_ended (suc k) to (row ∷ rows) = row ∷ row_ended k to rows

abbrev pub rows_ended : Option ℕ → ℕ → List OriginRow → List OriginRow
rows_ended None to rows = rows
rows_ended (Some k) to rows = row_ended k to rows

-- the closing of a node that is open is read: its row ends there, and one kind less is open
abbrev pub with_closing : OpenNode → List ℕ → ReadSoFar → ReadSoFar
with_closing node white r =
    let closed = with_piece (closing_piece node.kind white) [] r in
    record closed { depth = r.depth - 1; rows = rows_ended node.row (suc (length r.items)) closed.rows }
