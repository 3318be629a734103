-- The open kind that a fragment is put into.
use Rattle.std.specs.Prelude.{◌≡◌, ℕ, Bool, true, false, not, ◌&&◌, List, length}
use Rattle.model_spelling.specs.Grammar as g
use Rattle.model_spelling.specs.Forest.{Forest, Spells}
use Rattle.model_spelling.specs.ForestNodes.{forest_nodes}
use Rattle.ve_kinds.specs.declared.kind.Kind.{Kind}
use Rattle.model_page.specs.Elements.{is_white, is_held}
use Rattle.model_page.specs.Parts.{parts_of}
use Rattle.model_page.specs.Tags.{is_inline_tag}
use Rattle.model_page.specs.Fragment.{may_hold_tag, fits_in, context_of}
use Rattle.ve_html_tree.specs.Nodes.{ShowNodes}
use Rattle.ve_html_tree.specs.declared.node.Node.{Node}

-- the answer holds of whatever forest spells a text and has these nodes
abbrev pub OfRead : {A : Type 0} → List ℕ → List Node → (Forest → A) → A → Type 0
OfRead text nodes ask result = (f : Forest) → Spells text f → ShowNodes nodes (forest_nodes 0 0 f) → result ≡ ask f

-- the innermost of these kinds that fits
abbrev pub context_in : List Kind → Forest → Kind
context_in stack f = context_of (parts_of f) stack

-- ---- as the code asks

-- no element of a tag that doesn't stand within a line
abbrev pub token_inline : g.Token → Bool
token_inline (g.Start name attrs slash) = is_inline_tag name
token_inline _ = true

-- whitespace, a comment, or an element that isn't held and that the kind may hold
abbrev pub token_stands : Kind → g.Token → Bool
token_stands kind (g.Start name attrs slash) = not (is_held attrs) && may_hold_tag kind name
token_stands kind (g.Chars text) = is_white text
token_stands kind _ = true

abbrev pub fits_kind : Kind → Forest → Bool
fits_kind kind f = fits_in (parts_of f) kind
