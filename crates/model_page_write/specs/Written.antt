-- How nodes are written: the marks of content, which paragraphs have no tags, and the text of each
-- node. Writing goes by a `Writer`, which knows the original bytes of nodes that are kept and the
-- texts of bodies.
use Rattle.std.specs.Prelude.{ℕ, suc, Bool, true, false, not, ◌&&◌, ◌||◌, if◌then◌else◌, List, [], ◌∷◌, ◌++◌, drop, reverse, map, flat_map, Option, None, codes, bytes_eq, encode_utf8_all, option_map, unwrap_or}
use Rattle.model_spelling.specs.Grammar.{end_text}
use Rattle.model_spelling.specs.Forest.{Forest, Nothing, Text, Remark, Void, RawElement, Element}
use Rattle.model_spelling.specs.Written.{escaped, canon_start, attr_bytes, start_tag}
use Rattle.ve_kinds.specs.declared.kind.Kind.{Kind}
use Rattle.ve_kinds.specs.declared.kind.Kind.TheVariants.{P, InternalList, Br, Img, Ref, TransInline, AlienInline}
use Rattle.ve_base.specs.declared.marks.Mark.{Mark}
use Rattle.ve_kinds.specs.Table.{kind_same}
use Rattle.model_items.specs.Same.{mark_same}
use Rattle.ve_kinds.specs.Table.{is_content_branch, is_leaf}
use Rattle.model_page.specs.Elements.{is_white, is_white_char}
use Rattle.model_spelling.specs.Parsed.{forest_of}
use Rattle.model_page.specs.DataMw.{composed_mw}
use Rattle.model_page.specs.References.{Body}
use Rattle.model_page.specs.Tags.{is_inline_tag, tag_of}
use Rattle.model_page_write.specs.Nodes.{Carried, Start, Nodes, Empty, Letter, Node, node_items}

-- ---- tags and characters

abbrev pub end_tag : List ℕ → List ℕ
end_tag tag = end_text (encode_utf8_all tag)

abbrev pub letter : ℕ → List ℕ
letter c = escaped false (encode_utf8_all (c ∷ []))

-- ---- marks

-- how many marks both lists begin with
abbrev pub common_count : List Mark → List Mark → ℕ
common_count [] marks = 0
common_count (m ∷ opened) [] = 0
common_count (m ∷ opened) (n ∷ marks) = if mark_same m n then suc (common_count opened marks) else 0

abbrev pub mark_start : Mark → List ℕ
mark_start m = start_tag (encode_utf8_all m.tag) m.attrs

abbrev pub mark_end : Mark → List ℕ
mark_end m = end_tag m.tag

-- from the open marks to these
abbrev pub marks_changed : List Mark → List Mark → List ℕ
marks_changed opened marks =
    let n = common_count opened marks in
    flat_map mark_end (reverse (drop n opened)) ++ flat_map mark_start (drop n marks)

-- ---- bare paragraphs

-- all are inline-tag elements and whitespace
abbrev pub is_inline_source : Forest → Bool
is_inline_source Nothing = true
is_inline_source (Text text rest) = is_white text && is_inline_source rest
is_inline_source (Remark text rest) = false
is_inline_source (Void name attrs slash rest) = is_inline_tag name && is_inline_source rest
is_inline_source (RawElement name attrs text rest) = is_inline_tag name && is_inline_source rest
is_inline_source (Element name attrs children rest) = is_inline_tag name && is_inline_source rest

abbrev pub reads_inline : List ℕ → Bool
reads_inline raw = unwrap_or (option_map is_inline_source (forest_of (encode_utf8_all raw))) false

abbrev pub is_empty : {A : Type 0} → List A → Bool
is_empty [] = true
is_empty (x ∷ xs) = false

-- an inline leaf with a source reads as a part of a run again
abbrev pub stays_inline : Start → Bool
stays_inline s =
    not (kind_same s.kind TransInline || kind_same s.kind AlienInline) || not (is_empty s.marks) || reads_inline s.head.raw

-- some node is a leaf, or a character that is not whitespace or has marks: the tags of marks are no
-- whitespace
abbrev pub has_content : Nodes → Bool
has_content Empty = false
has_content (Letter c marks later) = not (is_white_char c) || not (is_empty marks) || has_content later
has_content (Node start inside pre later) = true

abbrev pub all_stay_inline : Nodes → Bool
all_stay_inline Empty = true
all_stay_inline (Letter c marks later) = all_stay_inline later
all_stay_inline (Node start inside pre later) = stays_inline start && all_stay_inline later

-- the whitespace after a node: before the next sibling, or before the parent's closing
abbrev pub white_after : Nodes → List ℕ → List ℕ
white_after Empty closing = closing
white_after (Letter c marks later) closing = []
white_after (Node start inside pre later) closing = start.pre

-- A node is written without its tags where it would be read as that paragraph again. It is
-- generated and has no attributes, and no whitespace on either side. It holds something, its leaves
-- stay in the run, and the sibling before it has its tags; `before` says whether that one is bare.
abbrev pub is_bare : Bool → Start → Nodes → List ℕ → Bool
is_bare before start inside after =
    kind_same start.kind P && start.generated && is_empty start.head.attrs && is_empty start.pre
    && has_content inside && all_stay_inline inside
    && is_empty after && not before

-- ---- nodes

-- The surroundings that writing reads: the original bytes of a node that is as it was first read,
-- and the text of a body.
pub record Writer : Type 0 where
  pub original : Start → List Carried → Option (List ℕ)
  pub html : Body → List ℕ

-- in the place of a `data-mw` stands the composed one
abbrev pub with_mw : List ℕ × List ℕ → Option (List ℕ) → List ℕ × List ℕ
with_mw a html = if bytes_eq a.0 (codes "data-mw") then (a.0, composed_mw a.1 html) else a

abbrev pub ref_text : Writer → Start → List ℕ
ref_text w s =
    canon_start (encode_utf8_all s.head.tag) (map (λ a. with_mw (attr_bytes a) (option_map w.html s.body)) s.head.attrs)
    ++ encode_utf8_all s.head.raw ++ end_tag s.head.tag

abbrev pub leaf_text : Writer → Start → Kind → List ℕ
leaf_text w s Br = start_tag (encode_utf8_all (tag_of Br)) s.head.attrs
leaf_text w s Img = start_tag (encode_utf8_all (tag_of Img)) s.head.attrs
leaf_text w s Ref = ref_text w s
leaf_text w s _ = encode_utf8_all s.head.raw

abbrev pub element_text : Start → List ℕ → List ℕ → List ℕ
element_text s inside pre =
    start_tag (encode_utf8_all (tag_of s.kind)) s.head.attrs ++ inside ++ encode_utf8_all pre ++ end_tag (tag_of s.kind)

-- the text of a block, without the whitespace before it, where `inside` is the text of what is in
-- it
abbrev pub fresh_text : Writer → Bool → Start → List ℕ → List ℕ → List ℕ
fresh_text w bare s inside pre =
    if kind_same s.kind InternalList then []
    else if is_leaf s.kind then leaf_text w s s.kind
    else if bare then inside
    else element_text s inside pre

-- a generated paragraph keeps its original bytes only where it is bare
abbrev pub original_of : Writer → Bool → Start → List Carried → Option (List ℕ)
original_of w bare s items = if s.generated && not bare then None else w.original s items

abbrev mutual
  -- content, where these marks are open
  pub content : Writer → List Mark → Nodes → List ℕ
  content w opened Empty = marks_changed opened []
  content w opened (Letter c marks later) = marks_changed opened marks ++ letter c ++ content w marks later
  content w opened (Node s inside pre later) =
      marks_changed opened s.marks
      ++ unwrap_or (w.original s (node_items s inside pre)) (leaf_text w s s.kind)
      ++ content w s.marks later

  -- the nodes of a flow or structural parent: whether the sibling before them is bare, and the
  -- whitespace before the parent's closing
  pub blocks : Writer → Bool → List ℕ → Nodes → List ℕ
  blocks w before closing Empty = []
  blocks w before closing (Letter c marks later) = letter c ++ blocks w false closing later
  blocks w before closing (Node s inside pre later) =
      let bare = is_bare before s inside (white_after later closing) in
      let text = if is_content_branch s.kind then content w [] inside else blocks w false pre inside in
      encode_utf8_all s.pre
      ++ unwrap_or (original_of w bare s (node_items s inside pre)) (fresh_text w bare s text pre)
      ++ blocks w bare closing later
