-- Lists that read back though leaves are kept whole in them. The nodes in a kept block are as they
-- were first read, whatever they are. A leaf among blocks reads back by itself, and all else is of
-- the form.
use Rattle.std.specs.Prelude.{◌≡◌, true, false, Bool, ◌||◌, ◌&&◌, not, List, [], ◌∷◌, ℕ, Some, None, is_some, option_map, unwrap_or, encode_utf8_all, ◌⊎◌}
use Rattle.model_spelling.specs.Forest.{Forest, Nothing, Text, Remark, Void, RawElement, Element}
use Rattle.model_spelling.specs.Parsed.{forest_of}
use Rattle.ve_kinds.specs.declared.kind.Kind.{Kind}
use Rattle.ve_kinds.specs.declared.kind.Kind.TheVariants.{TransBlock, AlienBlock, TransInline, AlienInline}
use Rattle.ve_kinds.specs.Table.{is_among, is_leaf, is_inline_leaf, is_structural}
use Rattle.model_items.specs.declared.plain_item.PlainItem.TheVariants.{Char, Opening, Closing}
use Rattle.model_page.specs.Tags.{is_annotation_tag}
use Rattle.model_page.specs.Elements.{is_white_char, is_white, about_of, has_type, is_reference_type}
use Rattle.model_page.specs.Parts.{Parts, Ended, Note, Group, Single, Parent, about_in, is_shared, parts_of}
use Rattle.model_page.specs.Fit.{has_child, has_blocks_alone, some_element}
use Rattle.model_page.specs.Fragment.{pieces_in}
use Rattle.model_page.specs.PageItems.{slice, or_nothing, Opened}
use Rattle.model_page_write.specs.Nodes.{Start, Nodes, Empty, Letter, Node, node_items}
use Rattle.model_page_write.specs.Written.{Writer}
use Rattle.model_page_law.specs.Formed.{ArePlainMarks, IsFormedOpening, IsFormedClosing, IsFormed}

-- some element, at any depth, is of the type mw:Extension/ref
abbrev pub names_reference : Forest → Bool
names_reference Nothing = false
names_reference (Text text rest) = names_reference rest
names_reference (Remark text rest) = names_reference rest
names_reference (Void name attrs slash rest) = has_type is_reference_type attrs || names_reference rest
names_reference (RawElement name attrs text rest) = has_type is_reference_type attrs || names_reference rest
names_reference (Element name attrs children rest) = has_type is_reference_type attrs || names_reference children || names_reference rest

-- some element of the body of an opened page is
abbrev pub has_references : Opened → Bool
has_references o = unwrap_or (option_map names_reference (forest_of (slice o.page o.body.from o.body.to))) false

-- a block with its tags that is as it was first read, but for the whitespace before it
pub record IsKeptBlock (w : Writer) (s : Start) (inside : Nodes) (pre : List ℕ) : Type 0 where
  pub branch : is_leaf s.kind ≡ false
  pub tags : s.generated ≡ false
  pub before : is_white s.pre ≡ true
  pub kept : is_some (w.original s (node_items s inside pre)) ≡ true

-- ---- leaves that are kept whole

abbrev pub is_whole_leaf : Kind → Bool
is_whole_leaf k = is_among (TransBlock ∷ AlienBlock ∷ TransInline ∷ AlienInline ∷ []) k

-- the forest of the source that one has
abbrev pub leaf_forest : Start → Forest
leaf_forest s = or_nothing (forest_of (encode_utf8_all s.head.raw))

-- one comment, one group or one element that marks nothing
abbrev pub is_one_part : Parts → Bool
is_one_part (Note text Ended) = true
is_one_part (Group nodes Ended) = true
is_one_part (Single name attrs source Ended) = true
is_one_part (Parent name attrs children Ended) = not (is_annotation_tag name && has_child children)
is_one_part _ = false

-- some element of the one has the `about` of the other's first
abbrev pub shares_about : Forest → Forest → Bool
shares_about f g = some_element (λ name attrs. is_shared (about_of attrs) (about_in g)) f

-- the next sibling, whitespace aside, is no leaf that shares its `about`
abbrev pub is_apart : Forest → Nodes → Bool
is_apart f Empty = true
is_apart f (Letter c marks later) = not (is_white_char c) || is_apart f later
is_apart f (Node s inside pre later) = not (is_leaf s.kind && shares_about f (leaf_forest s))

-- A leaf that is written as its source: one part without references, which by itself reads as that
-- leaf in that parent. It doesn't join what follows.
pub record IsWholeLeaf (w : Writer) (parent : Kind) (s : Start) (inside : Nodes) (pre : List ℕ) (later : Nodes) : Type 0 where
  pub leaf : is_whole_leaf s.kind ≡ true
  pub tags : s.generated ≡ false
  pub inline : is_inline_leaf s.kind ≡ true → ArePlainMarks s.marks × (s.pre ≡ [])
  pub block : is_inline_leaf s.kind ≡ false → (s.marks ≡ []) × (is_white s.pre ≡ true)
  pub closing : pre ≡ []
  pub text : unwrap_or (w.original s (node_items s inside pre)) (encode_utf8_all s.head.raw) ≡ encode_utf8_all s.head.raw
  pub spelled : forest_of (encode_utf8_all s.head.raw) ≡ Some (leaf_forest s)
  pub calm : names_reference (leaf_forest s) ≡ false
  pub part : is_one_part (parts_of (leaf_forest s)) ≡ true
  pub reads : (pieces_in parent (parts_of (leaf_forest s))).later.items ≡ Opening s.kind s.head [] [] None false ∷ Closing s.kind [] ∷ []
  pub alone : is_structural parent ≡ true → has_blocks_alone (parts_of (leaf_forest s)) ≡ true
  pub apart : is_apart (leaf_forest s) later ≡ true

-- some of the nodes is such a leaf
abbrev pub holds_whole : Nodes → Bool
holds_whole Empty = false
holds_whole (Letter c marks later) = holds_whole later
holds_whole (Node s inside pre later) = is_whole_leaf s.kind || holds_whole later

-- ---- lists

-- Each node is a kept block, a leaf that is kept whole, or of the form, and so is each that stands
-- in one of the form. A paragraph that may be bare holds no leaf that is kept whole.
abbrev pub AreReadable : Writer → Kind → Nodes → Type 0
AreReadable w parent Empty = Unit {0}
AreReadable w parent (Letter c marks later) = IsFormed (Char c marks) × AreReadable w parent later
AreReadable w parent (Node s inside pre later) =
    (IsKeptBlock w s inside pre
    ⊎ (IsWholeLeaf w parent s inside pre later
    ⊎ (IsFormedOpening s.kind s.head s.marks s.pre × IsFormedClosing s.kind pre × ((s.generated && holds_whole inside) ≡ false) × AreReadable w s.kind inside)))
    × AreReadable w parent later
