-- The nodes of a text that was read, for a walk: siblings stand at the first of them, after each
-- node, and in each element.
use Rattle.std.specs.Prelude.{◌≡◌, ℕ, ◌+◌, true, List, []}
use Rattle.model_spelling.specs.Grammar.{Attr}
use Rattle.model_spelling.specs.Forest.{Forest, Element, is_forest}
use Rattle.model_spelling.specs.ForestNodes.{ForestNode, forest_nodes}
use Rattle.ve_base.specs.Limits.{max_open_elements}
use Rattle.ve_html_tree.specs.Nodes.{ShowNodes}
use Rattle.ve_html_tree.specs.declared.node.Node.{Node}
use Rattle.ve_classify.specs.Standing.{LeadsOn, Stands, rest_of, first_count}

-- the nodes of a forest lead on
abbrev pub NodesLeadOn : Type 0
NodesLeadOn = (f : Forest) (nodes : List Node) → ShowNodes nodes (forest_nodes 0 0 f) → LeadsOn nodes

-- a forest that may be spelled stands at the first of its nodes
abbrev pub ForestStands : Type 0
ForestStands =
    (f : Forest) (nodes : List Node) → ShowNodes nodes (forest_nodes 0 0 f) → is_forest max_open_elements f ≡ true → Stands nodes 0 0 f []

-- the siblings after the first one stand
abbrev pub RestStands : Type 0
RestStands =
    (nodes : List Node) (n at : ℕ) (f : Forest) (more : List ForestNode) → Stands nodes n at f more
    → (byte : ℕ) × Stands nodes (n + first_count f) byte (rest_of f) more

-- the children of an element stand
abbrev pub ChildrenStand : Type 0
ChildrenStand =
    (nodes : List Node) (n at : ℕ) (name : List ℕ) (attrs : List Attr) (children rest : Forest) (more : List ForestNode)
    → Stands nodes n at (Element name attrs children rest) more
    → (byte : ℕ) × (after : List ForestNode) × Stands nodes (n + 1) byte children after
