-- The fit of the first part of siblings, by the parent that it stands in. No group is a reference
-- here.
use Rattle.std.specs.Prelude.{◌≡◌, ℕ, ◌+◌, slice_get, Bool, true, false, not, ◌&&◌, ◌||◌, List, [], Option, Some, if◌then◌else◌}
use Rattle.model_spelling.specs.Grammar as g
use Rattle.model_spelling.specs.Forest.{Forest}
use Rattle.model_spelling.specs.ForestNodes.{ForestNode, forest_size}
use Rattle.ve_kinds.specs.declared.kind.Kind.{Kind}
use Rattle.ve_kinds.specs.declared.kind.Kind.TheVariants.{Br, Img, AlienInline}
use Rattle.model_page.specs.Elements.{is_white, is_held, has_type, is_generator}
use Rattle.model_page.specs.Parts.{Parts, Ended, Words, Note, Group, Single, Parent, parts_of}
use Rattle.model_page.specs.Fit as model
use Rattle.model_page.specs.Fit.{fit_of, group_kind, note_kind, has_inline_tags}
use Rattle.model_page.specs.Tags.{is_annotation_tag, is_inline_tag}
use Rattle.ve_html_tree.specs.declared.node.Node.{Node}
use Rattle.ve_classify.specs.Standing.{ShownFrom, Stands, has_node}
use Rattle.ve_classify.specs.declared.fits.GroupTest.{GroupTest}
use Rattle.ve_classify.specs.declared.fits.GroupTest.TheVariants as ask
use Rattle.ve_classify.specs.declared.around.Around.{Around}
use Rattle.ve_classify.specs.declared.around.Around.TheVariants as at
use Rattle.ve_classify.specs.declared.around.Fit.{Fit}
use Rattle.ve_classify.specs.declared.around.Fit.TheVariants as fit

-- the parent, where no mark is around
abbrev pub parent_of : Around → model.Around
parent_of (at.Flow kind) = model.Flow kind
parent_of (at.Structural kind) = model.Structural kind
parent_of at.Content = model.Content []

abbrev pub same_fit : model.Fit → Fit
same_fit model.Annotation = fit.Annotation
same_fit (model.Leaf kind) = fit.Leaf kind
same_fit (model.Branch kind) = fit.Branch kind
same_fit (model.Whole kind) = fit.Whole kind

-- in a flow parent texts, elements of inline tags and groups of these alone are parts of a run
abbrev pub words_fit : model.Around → Fit
words_fit (model.Flow kind) = fit.Inline
words_fit (model.Structural kind) = fit.White
words_fit (model.Content marks) = fit.Chars

abbrev pub element_fit : model.Around → List ℕ → Parts → Fit
element_fit (model.Flow kind) name children = if is_inline_tag name then fit.Inline else same_fit (fit_of (model.Flow kind) name children)
element_fit (model.Structural kind) name children = same_fit (fit_of (model.Structural kind) name children)
element_fit (model.Content marks) name children = same_fit (fit_of (model.Content marks) name children)

abbrev pub group_fit : model.Around → Forest → Fit
group_fit (model.Flow kind) nodes = if has_inline_tags nodes then fit.Inline else fit.Whole (group_kind (model.Flow kind) nodes)
group_fit (model.Structural kind) nodes = fit.Whole (group_kind (model.Structural kind) nodes)
group_fit (model.Content marks) nodes = fit.Whole (group_kind (model.Content marks) nodes)

-- the fit of the first part; where there is none this says nothing
abbrev pub first_fit : model.Around → Parts → Fit
first_fit around Ended = fit.White
first_fit around (Words text later) = words_fit around
first_fit around (Note text later) = fit.Whole (note_kind around)
first_fit around (Group nodes later) = group_fit around nodes
first_fit around (Single name attrs source later) = element_fit around name Ended
first_fit around (Parent name attrs children later) = element_fit around name children

-- The fit of the part that begins at the number n: whatever siblings stand there, it is that of
-- their first part.
abbrev pub IsFit : List Node → ℕ → Around → Fit → Type 0
IsFit nodes n around result =
    (f : Forest) (at : ℕ) (more : List ForestNode) → Stands nodes n at f more → has_node f ≡ true
    → result ≡ first_fit (parent_of around) (parts_of f)

-- the same where the first part is a group
abbrev pub IsGroupFit : List Node → ℕ → Around → Fit → Type 0
IsGroupFit nodes n around result =
    (f group : Forest) (later : Parts) (at : ℕ) (more : List ForestNode) → Stands nodes n at f more → parts_of f ≡ Group group later
    → result ≡ group_fit (parent_of around) group

-- ---- as the code asks

-- the answer holds of the siblings that stand between two numbers
abbrev pub OfSiblings : {A : Type 0} → List Node → ℕ → ℕ → (Forest → A) → A → Type 0
OfSiblings nodes from to ask result =
    (f : Forest) (at : ℕ) (more : List ForestNode) → ShownFrom nodes from at f more → to ≡ from + forest_size f → result ≡ ask f

-- the answer holds of the children of the element at the number n
abbrev pub OfChildren : List Node → ℕ → (Parts → Fit) → Fit → Type 0
OfChildren nodes n ask result =
    (f : Forest) (at : ℕ) (more : List ForestNode) (node : Node) → ShownFrom nodes (n + 1) at f more → slice_get nodes n ≡ Some node
    → node.next ≡ n + 1 + forest_size f → result ≡ ask (parts_of f)

-- the test of a group's elements
abbrev pub element_passes : GroupTest → List ℕ → List g.Attr → Bool
element_passes ask.Generated name attrs = has_type is_generator attrs
element_passes ask.BlockTag name attrs = not (is_inline_tag name)

abbrev pub token_passes : GroupTest → g.Token → Bool
token_passes test (g.Start name attrs slash) = element_passes test name attrs
token_passes test _ = false

-- no text but whitespace, and no element of an inline tag but a held one
abbrev pub token_block : g.Token → Bool
token_block (g.Start name attrs slash) = is_held attrs || not (is_inline_tag name)
token_block (g.Chars text) = is_white text
token_block _ = true

-- the fit in content, by whether the element has a child
abbrev pub content_fit : List ℕ → Bool → Option Kind → Fit
content_fit name has (Some Br) = fit.Leaf Br
content_fit name has (Some Img) = fit.Leaf Img
content_fit name has kind = if is_annotation_tag name && has then fit.Annotation else fit.Whole AlienInline

abbrev pub block_fit : Kind → Parts → Option Kind → Fit
block_fit parent children kind = same_fit (model.fit_in_block parent children kind)
