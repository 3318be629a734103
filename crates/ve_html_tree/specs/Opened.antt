-- The open elements, as the nodes link them: until an element is closed, its node's `next` is the
-- number of the node of the element around it.
use Rattle.std.specs.Prelude.{◌≡◌, ◌<◌, ℕ, zero, suc, List, [], ◌∷◌, map, length, slice_index, slice_index_or, ◌+◌, if◌then◌else◌}
use Rattle.model_spelling.specs.Faults as g
use Rattle.ve_html_scan.specs.declared.token.Token.{Token}
use Rattle.ve_html_scan.specs.declared.token.Token.TheVariants as lent
use Rattle.ve_kinds.specs.Tags.{is_void}
use Rattle.ve_html_tree.specs.declared.node.Node.{Node}
use Rattle.ve_html_tree.specs.declared.open.Opened.{Opened}

abbrev pub start_name : Token → List ℕ
start_name (lent.StartTag name attrs span) = name.now
start_name (lent.EndTag name span) = []
start_name (lent.Chars text span) = []
start_name (lent.Raw text span) = []
start_name (lent.Comment text span) = []

-- the element of the node with this number
abbrev pub open_at : List Node → ℕ → g.OpenElement
open_at nodes k = record {
  name = slice_index_or (map (λ (n : Node). start_name n.token) nodes) k [];
  at = slice_index (map (λ (n : Node). n.span.from) nodes) k;
}

abbrev pub next_at : List Node → ℕ → ℕ
next_at nodes k = slice_index (map (λ (n : Node). n.next) nodes) k

-- so many numbers, of which this is the first, and each other the link of the one before it
abbrev pub open_node_numbers_from : List Node → ℕ → ℕ → List ℕ
open_node_numbers_from nodes zero k = []
open_node_numbers_from nodes (suc count) k = k ∷ open_node_numbers_from nodes count (next_at nodes k)

-- the numbers of the open elements' nodes, the innermost first
abbrev pub open_node_numbers : List Node → Opened → List ℕ
open_node_numbers nodes o = open_node_numbers_from nodes o.count o.innermost

-- the innermost open node is no longer open, and the others are
abbrev pub IsInnermostClosed : List Node → Opened → List Node → Opened → Type 0
IsInnermostClosed nodes opened nodes_after opened_after = open_node_numbers nodes opened ≡ opened.innermost ∷ open_node_numbers nodes_after opened_after

abbrev pub opens : List Node → Opened → List g.OpenElement
opens nodes o = map (open_at nodes) (open_node_numbers nodes o)

-- Each number is below the one before it, the first of them below bound; the outermost element's
-- link is 0.
abbrev pub LinkedFrom : List Node → ℕ → ℕ → ℕ → Type 0
LinkedFrom nodes bound zero k = k ≡ 0
LinkedFrom nodes bound (suc count) k = (k < bound) × LinkedFrom nodes k count (next_at nodes k)

abbrev pub AreLinked : List Node → Opened → Type 0
AreLinked nodes o = LinkedFrom nodes (length nodes) o.count o.innermost

-- ---- after a start tag

-- the link of the node of a start tag with this name: past itself where the element is void, else
-- to the element around it
abbrev pub start_link : List ℕ → List Node → Opened → ℕ
start_link name nodes opened = if is_void name then length nodes + 1 else opened.innermost

abbrev pub numbers_after_start : List ℕ → List Node → Opened → List ℕ
numbers_after_start name nodes opened =
    if is_void name then open_node_numbers nodes opened else length nodes ∷ open_node_numbers nodes opened
