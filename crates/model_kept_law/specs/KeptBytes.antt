-- The bytes of nodes that are kept, in the page that is written of a list: where they stand, and
-- what is written before and after them.
use Rattle.std.specs.Prelude.{◌≡◌, ℕ, ◌-◌, Bool, true, false, ◌||◌, if◌then◌else◌, List, [], ◌∷◌, ◌++◌, take, drop, Some, None, IsUtf8, slice_get, encode_utf8_all, unwrap_or}
use Rattle.model_spelling.specs.Written.{start_tag}
use Rattle.ve_kinds.specs.declared.kind.Kind.TheVariants.{InternalList}
use Rattle.ve_kinds.specs.Table.{kind_same, is_content_branch, is_leaf}
use Rattle.ve_base.specs.declared.marks.Mark.{Mark}
use Rattle.model_items.specs.declared.plain_item.PlainItem.{PlainItem}
use Rattle.model_page.specs.Pieces.{SourceSpan}
use Rattle.model_page.specs.PageItems.{Opened, opened_page, slice}
use Rattle.model_page.specs.Tags.{tag_of}
use Rattle.model_page_write.specs.Nodes.{Start, Nodes, Empty, Letter, Node, node_items, carried_nodes, carried_items}
use Rattle.model_page_write.specs.Written.{Writer, blocks, content, end_tag, is_bare, leaf_text, letter, marks_changed, original_of, white_after}
use Rattle.model_page_write.specs.PageText.{page_writer, part_at, without_pre, write}
use Rattle.model_page_law.specs.Spans.{NodeAt}

-- ---- where a node stands

-- these siblings, and then those
abbrev pub joined : Nodes → Nodes → Nodes
joined Empty later = later
joined (Letter c marks more) later = Letter c marks (joined more later)
joined (Node s inside pre more) later = Node s inside pre (joined more later)

-- A node among its siblings, without what is in it: the siblings before it, the whitespace before
-- its closing, and the siblings after it.
pub record Among : Type 0 where
  pub before : Nodes
  pub start : Start
  pub pre : List ℕ
  pub after : Nodes

-- all these siblings, where this is in the node
abbrev pub siblings : Among → Nodes → Nodes
siblings a inside = joined a.before (Node a.start inside a.pre a.after)

-- the nodes of a list, where these stand in a node that stands in others, outermost first
abbrev pub placed : List Among → Nodes → Nodes
placed [] n = n
placed (a ∷ round) n = siblings a (placed round n)

-- the whitespace before the closing of the innermost, where that of the outermost siblings is this
abbrev pub closing_in : List ℕ → List Among → List ℕ
closing_in closing [] = closing
closing_in closing (a ∷ round) = closing_in a.pre round

-- ---- which nodes are bare

-- whether the last of these siblings is bare, with this whitespace after it
abbrev pub ends_bare : Bool → List ℕ → Nodes → Bool
ends_bare before white Empty = before
ends_bare before white (Letter c marks later) = ends_bare false white later
ends_bare before white (Node s inside pre later) = ends_bare (is_bare before s inside (white_after later white)) white later

-- whether the node is
abbrev pub stands_bare : List ℕ → Among → Nodes → Bool
stands_bare closing a inside = is_bare (ends_bare false a.start.pre a.before) a.start inside (white_after a.after closing)

-- ---- what is written round a node

-- blocks, and the whitespace before the node that follows them
abbrev pub blocks_up_to : Writer → List ℕ → Nodes → List ℕ
blocks_up_to w white before = blocks w false white before ++ encode_utf8_all white

abbrev pub tag_before : Bool → Start → List ℕ
tag_before bare s = if bare then [] else start_tag (encode_utf8_all (tag_of s.kind)) s.head.attrs

abbrev pub tag_after : Bool → Start → List ℕ → List ℕ
tag_after bare s pre = if bare then [] else encode_utf8_all pre ++ end_tag (tag_of s.kind)

-- the nodes round a place, with their tags and their siblings
abbrev pub round_before : Writer → List Among → List ℕ
round_before w [] = []
round_before w (a ∷ round) = blocks_up_to w a.start.pre a.before ++ tag_before false a.start ++ round_before w round

abbrev pub round_after : Writer → List ℕ → List Among → List ℕ
round_after w closing [] = []
round_after w closing (a ∷ round) = round_after w a.pre round ++ tag_after false a.start a.pre ++ blocks w false closing a.after

-- content, up to where the marks are these
abbrev pub content_up_to : Writer → List Mark → List Mark → Nodes → List ℕ
content_up_to w last opened Empty = marks_changed opened last
content_up_to w last opened (Letter c marks later) = marks_changed opened marks ++ letter c ++ content_up_to w last marks later
content_up_to w last opened (Node s inside pre later) =
    marks_changed opened s.marks
    ++ unwrap_or (w.original s (node_items s inside pre)) (leaf_text w s s.kind)
    ++ content_up_to w last s.marks later

-- ---- the nodes that a node stands in

-- A flow or structural block that is written anew, round what is in it. The internal list is none:
-- what is in it is written with the references.
pub record IsAnew (w : Writer) (a : Among) (inside : Nodes) : Type 0 where
  pub block : (is_leaf a.start.kind || is_content_branch a.start.kind || kind_same a.start.kind InternalList) ≡ false
  pub anew : original_of w false a.start (node_items a.start inside a.pre) ≡ None

-- so is each of these
abbrev pub AreAnew : Writer → List Among → Nodes → Type 0
AreAnew w [] n = Unit {0}
AreAnew w (a ∷ round) n = IsAnew w a (placed round n) × AreAnew w round n

-- ---- the laws

-- Siblings are written one after the other. What follows counts for no more than the whitespace
-- before it, and what stands before for whether its last is bare.
abbrev pub SiblingsJoin : Type 0
SiblingsJoin =
    (w : Writer) (before : Bool) (closing : List ℕ) (n later : Nodes) →
    let white : List ℕ = white_after later closing in
    blocks w before closing (joined n later) ≡ blocks w before white n ++ blocks w (ends_bare before white n) closing later

-- A block that is kept, where each node that it stands in is written anew: the page is what is
-- written before it, its bytes, and what is written after it. Of the block itself those two hold no
-- more than the whitespace before it, and whether it is bare.
abbrev pub KeptBlockStands : Type 0
KeptBlockStands =
    (o : Opened) (items : List PlainItem) (round : List Among) (a : Among) (inside : Nodes) (bytes : List ℕ) →
    let w : Writer = page_writer o in
    let bare : Bool = stands_bare (closing_in [] round) a inside in
    carried_nodes (carried_items items) ≡ placed round (siblings a inside) → AreAnew w round (siblings a inside) →
    original_of w bare a.start (node_items a.start inside a.pre) ≡ Some bytes →
    write o items
    ≡ (take o.body.from o.page ++ round_before w round ++ blocks_up_to w a.start.pre a.before)
    ++ bytes
    ++ (blocks w bare (closing_in [] round) a.after ++ round_after w [] round ++ drop o.body.to o.page)

-- The same of a leaf that is kept, in the content of a block that is not. Its marks count, and
-- whether the block is bare.
abbrev pub KeptLeafStands : Type 0
KeptLeafStands =
    (o : Opened) (items : List PlainItem) (round : List Among) (a leaf : Among) (inside : Nodes) (bytes : List ℕ) →
    let w : Writer = page_writer o in
    let held : Nodes = siblings leaf inside in
    let bare : Bool = stands_bare (closing_in [] round) a held in
    carried_nodes (carried_items items) ≡ placed round (siblings a held) → AreAnew w round (siblings a held) →
    is_content_branch a.start.kind ≡ true → original_of w bare a.start (node_items a.start held a.pre) ≡ None →
    w.original leaf.start (node_items leaf.start inside leaf.pre) ≡ Some bytes →
    write o items
    ≡ (take o.body.from o.page ++ round_before w round ++ blocks_up_to w a.start.pre a.before ++ tag_before bare a.start ++ content_up_to w leaf.start.marks [] leaf.before)
    ++ bytes
    ++ (content w leaf.start.marks leaf.after ++ tag_after bare a.start a.pre ++ blocks w bare (closing_in [] round) a.after ++ round_after w [] round ++ drop o.body.to o.page)

-- The bytes of a node are those of the part of the page that its origin was read from.
abbrev pub BytesAreFirst : Type 0
BytesAreFirst =
    (o : Opened) (k : ℕ) (s : Start) (inside : Nodes) (pre bytes : List ℕ) → s.origin ≡ Some k →
    (page_writer o).original s (node_items s inside pre) ≡ Some bytes → bytes ≡ part_at o.page (slice_get o.spans k)

-- A node has them wherever it was moved: its items, and what they carry, are those that were read,
-- but for the whitespace before it. A generated paragraph is written by them where it is bare.
abbrev pub MovedKeepsBytes : Type 0
MovedKeepsBytes =
    (page : List ℕ) (o : Opened) → opened_page page ≡ Some o → (k from to : ℕ) (span : SourceSpan) → NodeAt o.items k from to → slice_get o.spans k ≡ Some span →
    (s : Start) (inside : Nodes) (pre : List ℕ) → s.origin ≡ Some k →
    without_pre (node_items s inside pre) ≡ without_pre (take (to - from) (drop from (carried_items o.items))) →
    (page_writer o).original s (node_items s inside pre) ≡ Some (slice o.page span.from span.to)

-- Outside of the siblings that an edit put in the place of others, at the top level, the page is as
-- it was. For that the whitespace before them is the same, and the last of them bare where the last
-- of the others was.
abbrev pub RestStands : Type 0
RestStands =
    (page : List ℕ) (o : Opened) (items : List PlainItem) (before old new after : Nodes) (white : List ℕ) (bare : Bool) → IsUtf8 page → opened_page page ≡ Some o →
    let w : Writer = page_writer o in
    let first : Bool = ends_bare false white before in
    let last : List ℕ = white_after after [] in
    carried_nodes (carried_items o.items) ≡ joined before (joined old after) → white_after (joined old after) [] ≡ white → ends_bare first last old ≡ bare →
    carried_nodes (carried_items items) ≡ joined before (joined new after) → white_after (joined new after) [] ≡ white → ends_bare first last new ≡ bare →
    let head : List ℕ = take o.body.from o.page ++ blocks w false white before in
    let tail : List ℕ = blocks w bare [] after ++ drop o.body.to o.page in
    (page ≡ head ++ blocks w first last old ++ tail) × (write o items ≡ head ++ blocks w first last new ++ tail)
