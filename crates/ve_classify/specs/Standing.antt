-- Where siblings stand among the nodes of a text, and what the first of them is.
use Rattle.std.specs.Prelude.{◌≡◌, ℕ, ◌+◌, ◌<◌, ◌≤◌, Bool, true, false, List, [], ◌∷◌, ◌++◌, length, drop, slice_get, Some}
use Rattle.model_spelling.specs.Grammar as g
use Rattle.model_spelling.specs.Forest.{Forest, Nothing, Text, Remark, Void, RawElement, Element, spelling, is_forest}
use Rattle.model_spelling.specs.ForestNodes.{ForestNode, forest_nodes, forest_size}
use Rattle.ve_html_tree.specs.Nodes.{ShowNodes}
use Rattle.ve_html_tree.specs.declared.node.Node.{Node}
use Rattle.model_page.specs.Elements.{is_white}

-- each node leads on to a later number, and to none past the end
abbrev pub LeadsOn : List Node → Type 0
LeadsOn nodes = (n : ℕ) (node : Node) → slice_get nodes n ≡ Some node → (n < node.next) × (node.next ≤ length nodes)

-- the first of them starts past this byte, where there is one
abbrev pub StartsPast : ℕ → List ForestNode → Type 0
StartsPast at [] = Unit {0}
StartsPast at (node ∷ nodes) = at < node.from

-- the nodes from the number n on show those of the forest, whose first byte is at, and then these
abbrev pub ShownFrom : List Node → ℕ → ℕ → Forest → List ForestNode → Type 0
ShownFrom nodes n at f more = ShowNodes (drop n nodes) (forest_nodes n at f ++ more)

-- Siblings up to the last one: the forest is theirs, and what follows starts past their end.
pub record Stands (nodes : List Node) (n at : ℕ) (f : Forest) (more : List ForestNode) : Type 0 where
  pub shown : ShownFrom nodes n at f more
  pub past : StartsPast (at + length (spelling f)) more
  pub room : ℕ
  pub allowed : is_forest room f ≡ true

abbrev pub has_node : Forest → Bool
has_node Nothing = false
has_node (Text text rest) = true
has_node (Remark text rest) = true
has_node (Void name attrs slash rest) = true
has_node (RawElement name attrs text rest) = true
has_node (Element name attrs children rest) = true

-- the siblings after the first node
abbrev pub rest_of : Forest → Forest
rest_of Nothing = Nothing
rest_of (Text text rest) = rest
rest_of (Remark text rest) = rest
rest_of (Void name attrs slash rest) = rest
rest_of (RawElement name attrs text rest) = rest
rest_of (Element name attrs children rest) = rest

-- how many nodes the first one has with all that is in it
abbrev pub first_count : Forest → ℕ
first_count Nothing = 0
first_count (Text text rest) = 1
first_count (Remark text rest) = 1
first_count (Void name attrs slash rest) = 1
first_count (RawElement name attrs text rest) = forest_size (RawElement name attrs text Nothing)
first_count (Element name attrs children rest) = 1 + forest_size children

-- the token is a text of whitespace alone
abbrev pub token_white : g.Token → Bool
token_white (g.Chars text) = is_white text
token_white _ = false
