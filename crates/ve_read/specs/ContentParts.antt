-- Which parts of a page are read: those that stand at a node, up to another node and a byte. What
-- is promised is said of whatever siblings stand there.
use Rattle.std.specs.Prelude.{◌≡◌, ℕ, true, List}
use Rattle.model_spelling.specs.Grammar.{Attr}
use Rattle.model_spelling.specs.Forest.{Forest, Element}
use Rattle.model_spelling.specs.ForestNodes.{ForestNode}
use Rattle.model_page.specs.Parts.{Parts, parts_of}
use Rattle.ve_html_tree.specs.declared.node.Node.{Node}
use Rattle.ve_classify.specs.Standing.{has_node}
use Rattle.ve_classify.specs.FirstPart.{take_parts}
use Rattle.ve_classify.specs.Places.{StandsIn, PartsTo, PartEnds}

-- Some siblings stand at a node, and the first of their parts, so many, end before the node `to`
-- and the byte `byte`.
pub record SomeParts (text : List ℕ) (nodes : List Node) (n to byte : ℕ) : Type 0 where
  pub forest : Forest
  pub at : ℕ
  pub more : List ForestNode
  pub count : ℕ
  pub stands : StandsIn text nodes n at forest more
  pub parts : PartsTo forest n at to byte count

-- An element stands at a node.
pub record SomeElement (text : List ℕ) (nodes : List Node) (n : ℕ) : Type 0 where
  pub name : List ℕ
  pub attrs : List Attr
  pub children : Forest
  pub rest : Forest
  pub at : ℕ
  pub more : List ForestNode
  pub stands : StandsIn text nodes n at (Element name attrs children rest) more

-- the statement holds of these parts and the byte where they begin
abbrev pub OfParts : List ℕ → List Node → ℕ → ℕ → ℕ → (Parts → ℕ → Type 0) → Type 0
OfParts text nodes n to byte says =
    (f : Forest) (at m : ℕ) (more : List ForestNode) → StandsIn text nodes n at f more → PartsTo f n at to byte m → says (take_parts m (parts_of f)) at

-- the statement holds of the first part alone, which ends there
abbrev pub OfPart : List ℕ → List Node → ℕ → ℕ → ℕ → (Parts → ℕ → Type 0) → Type 0
OfPart text nodes n end byte says =
    (f : Forest) (at : ℕ) (more : List ForestNode) → StandsIn text nodes n at f more → has_node f ≡ true
    → PartEnds text nodes n at f more end byte → says (take_parts 1 (parts_of f)) at
