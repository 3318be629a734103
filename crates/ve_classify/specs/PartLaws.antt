-- Laws for a walk over the parts of a text.
use Rattle.std.specs.Prelude.{◌≡◌, ℕ, ◌+◌, false, List, [], length, slice_get, Some, IsUtf8}
use Rattle.model_spelling.specs.Grammar.{Attr, start_text}
use Rattle.model_spelling.specs.Forest.{Forest, Nothing, Element, Spells}
use Rattle.model_spelling.specs.ForestNodes.{ForestNode, forest_nodes, forest_size}
use Rattle.model_page.specs.Parts.{parts_of, source_of}
use Rattle.model_spelling.specs.Forest.{spelling}
use Rattle.ve_html_tree.specs.Nodes.{ShowNodes}
use Rattle.ve_html_tree.specs.declared.node.Node.{Node}
use Rattle.ve_classify.specs.FirstPart.{take_parts}
use Rattle.ve_classify.specs.Places.{StandsIn, PartsTo}

-- the forest of a text that was read stands at its first node
abbrev pub ForestStandsIn : Type 0
ForestStandsIn =
    (text : List ℕ) (nodes : List Node) (f : Forest) → IsUtf8 text → Spells text f → ShowNodes nodes (forest_nodes 0 0 f)
    → StandsIn text nodes 0 0 f []

-- the children of an element stand after its start tag
abbrev pub ChildrenStandIn : Type 0
ChildrenStandIn =
    (text : List ℕ) (nodes : List Node) (n at : ℕ) (name : List ℕ) (attrs : List Attr) (children rest : Forest) (more : List ForestNode)
    → StandsIn text nodes n at (Element name attrs children rest) more
    → (after : List ForestNode) × StandsIn text nodes (n + 1) (at + length (start_text name attrs false)) children after

-- they end before the node after the element, and where its content ends
abbrev pub ChildrenReach : Type 0
ChildrenReach =
    (text : List ℕ) (nodes : List Node) (n at : ℕ) (name : List ℕ) (attrs : List Attr) (children rest : Forest) (more : List ForestNode) (node : Node)
    → StandsIn text nodes n at (Element name attrs children rest) more → slice_get nodes n ≡ Some node
    → (n + 1 + forest_size children ≡ node.next) × (at + length (start_text name attrs false) + length (spelling children) ≡ node.inner.to)

-- siblings have some number of parts, which reach up to their end
abbrev pub AllParts : Type 0
AllParts =
    (f : Forest) (n at : ℕ) → (m : ℕ) × PartsTo f n at (n + forest_size f) (at + length (spelling f)) m × (take_parts m (parts_of f) ≡ parts_of f)

-- forming groups keeps the source
abbrev pub PartsKeepSource : Type 0
PartsKeepSource = (f : Forest) → source_of (parts_of f) ≡ spelling f
