-- The fit of each text, comment, element or group of a page, by the parent that it stands in. A
-- group is no reference here: that is decided before.
use Rattle.std.specs.Prelude.{ℕ, Bool, true, false, not, ◌&&◌, ◌||◌, List, Option, Some, None, if◌then◌else◌}
use Rattle.model_spelling.specs.Grammar.{Attr}
use Rattle.model_spelling.specs.Forest.{Forest, Nothing, Text, Remark, Void, RawElement, Element}
use Rattle.ve_base.specs.declared.marks.Mark.{Mark}
use Rattle.ve_kinds.specs.declared.kind.Kind.{Kind}
use Rattle.ve_kinds.specs.declared.kind.Kind.TheVariants.{Br, Img, TransInline, AlienInline, TransBlock, AlienBlock}
use Rattle.ve_kinds.specs.Table.{is_content_branch, is_flow, is_structural, may_hold}
use Rattle.model_page.specs.Elements.{is_white, has_type, is_generator}
use Rattle.model_page.specs.Parts.{Parts, Ended, Words, Note, Group, Single, Parent}
use Rattle.ve_kinds.specs.Tags.{kind_of_tag}
use Rattle.model_page.specs.Tags.{is_annotation_tag, is_inline_tag}

-- Where parts stand: in a flow parent, in a structural parent, or in content inside of these marks.
pub data Around : Type 0 where
  Flow : Kind → Around
  Structural : Kind → Around
  Content : List Mark → Around

-- The fit of an element: a mark on what is in it, a leaf br or img, a branch, or a leaf that keeps
-- its source.
pub data Fit : Type 0 where
  Annotation : Fit
  Leaf : Kind → Fit
  Branch : Kind → Fit
  Whole : Kind → Fit

-- the surroundings inside a branch of a kind
abbrev pub around_in : Kind → Around
around_in k = if is_content_branch k then Content List.[] else (if is_flow k then Flow k else Structural k)

abbrev pub has_child : Parts → Bool
has_child Ended = false
has_child _ = true

-- no child is a text that is not whitespace, or an element of an inline tag that is not held
abbrev pub has_blocks_alone : Parts → Bool
has_blocks_alone Ended = true
has_blocks_alone (Words text later) = is_white text && has_blocks_alone later
has_blocks_alone (Note text later) = has_blocks_alone later
has_blocks_alone (Group nodes later) = has_blocks_alone later
has_blocks_alone (Single name attrs source later) = not (is_inline_tag name) && has_blocks_alone later
has_blocks_alone (Parent name attrs children later) = not (is_inline_tag name) && has_blocks_alone later

-- an element of a structural kind is a branch only where it has blocks alone
abbrev pub is_convertible : Kind → Parts → Bool
is_convertible k children = not (is_structural k) || has_blocks_alone children

abbrev pub fit_in_content : List ℕ → Parts → Option Kind → Fit
fit_in_content name children (Some Br) = Leaf Br
fit_in_content name children (Some Img) = Leaf Img
fit_in_content name children kind = if is_annotation_tag name && has_child children then Annotation else Whole AlienInline

abbrev pub fit_in_block : Kind → Parts → Option Kind → Fit
fit_in_block parent children (Some kind) =
    if may_hold parent kind && is_convertible kind children then Branch kind else Whole AlienBlock
fit_in_block parent children None = Whole AlienBlock

-- the fit of an element that is not kept whole
abbrev pub fit_of : Around → List ℕ → Parts → Fit
fit_of (Content marks) name children = fit_in_content name children (kind_of_tag name)
fit_of (Flow parent) name children =
    if is_inline_tag name then fit_in_content name children (kind_of_tag name) else fit_in_block parent children (kind_of_tag name)
fit_of (Structural parent) name children = fit_in_block parent children (kind_of_tag name)

-- a leaf's kind, whether it is generated, and whether it is inline
abbrev pub whole_kind : Bool → Bool → Kind
whole_kind true true = TransInline
whole_kind true false = TransBlock
whole_kind false true = AlienInline
whole_kind false false = AlienBlock

-- some element of the group passes the test of its name and attributes
abbrev pub some_element : (List ℕ → List Attr → Bool) → Forest → Bool
some_element test Nothing = false
some_element test (Text text rest) = some_element test rest
some_element test (Remark text rest) = some_element test rest
some_element test (Void name attrs slash rest) = test name attrs || some_element test rest
some_element test (RawElement name attrs text rest) = test name attrs || some_element test rest
some_element test (Element name attrs children rest) = test name attrs || some_element test rest

abbrev pub is_generated : Forest → Bool
is_generated nodes = some_element (λ name attrs. has_type is_generator attrs) nodes

abbrev pub has_inline_tags : Forest → Bool
has_inline_tags nodes = not (some_element (λ name attrs. not (is_inline_tag name)) nodes)

-- a leaf in content is inline, one in a structural parent is not, and one in a flow parent where
-- its tags are
abbrev pub is_inline_at : Around → Bool → Bool
is_inline_at (Content marks) inline = true
is_inline_at (Flow parent) inline = inline
is_inline_at (Structural parent) inline = false

-- the kind of a group that is no reference
abbrev pub group_kind : Around → Forest → Kind
group_kind around nodes = whole_kind (is_generated nodes) (is_inline_at around (has_inline_tags nodes))

-- the kind of a comment, and of whatever else is kept whole
abbrev pub note_kind : Around → Kind
note_kind around = whole_kind false (is_inline_at around false)
