-- Which siblings are read: all that stand at a node, up to another node and a byte. What is
-- promised is said of whatever siblings stand there.
use Rattle.std.specs.Prelude.{◌≡◌, ℕ, Bool, true, false, not, List}
use Rattle.model_spelling.specs.Forest.{Forest}
use Rattle.model_spelling.specs.ForestNodes.{ForestNode}
use Rattle.ve_kinds.specs.Table.{is_content_branch}
use Rattle.model_page.specs.Parts.{Parts, parts_of}
use Rattle.model_page.specs.Fit.{Around, Flow, Structural, Content}
use Rattle.ve_html_tree.specs.declared.node.Node.{Node}
use Rattle.ve_classify.specs.Standing.{has_node}
use Rattle.ve_classify.specs.FirstPart.{take_parts}
use Rattle.ve_classify.specs.Places.{StandsIn, PartEnds}
use Rattle.ve_classify.specs.Siblings.{first_block}
use Rattle.ve_classify.specs.Units.{Whole}

-- Some siblings stand at a node, and all of them end before the node `to` and the byte `byte`.
pub record SomeSiblings (text : List ℕ) (nodes : List Node) (n to byte : ℕ) : Type 0 where
  pub forest : Forest
  pub at : ℕ
  pub more : List ForestNode
  pub stands : StandsIn text nodes n at forest more
  pub whole : Whole forest n at to byte

-- the statement holds of these siblings and the byte where they begin
abbrev pub OfSiblings : List ℕ → List Node → ℕ → ℕ → ℕ → (Parts → ℕ → Type 0) → Type 0
OfSiblings text nodes n to byte says =
    (f : Forest) (at : ℕ) (more : List ForestNode) → StandsIn text nodes n at f more → Whole f n at to byte → says (parts_of f) at

-- the parent holds blocks, and no characters
abbrev pub holds_blocks : Around → Bool
holds_blocks (Flow kind) = not (is_content_branch kind)
holds_blocks (Structural kind) = not (is_content_branch kind)
holds_blocks (Content marks) = false

-- Some block stands at a node, in this parent, and ends there.
pub record SomeBlock (text : List ℕ) (nodes : List Node) (around : Around) (n end byte : ℕ) : Type 0 where
  pub forest : Forest
  pub at : ℕ
  pub more : List ForestNode
  pub stands : StandsIn text nodes n at forest more
  pub some : has_node forest ≡ true
  pub block : first_block around (parts_of forest) ≡ true
  pub part : PartEnds text nodes n at forest more end byte

-- the statement holds of this block alone
abbrev pub OfBlock : List ℕ → List Node → Around → ℕ → ℕ → ℕ → (Parts → ℕ → Type 0) → Type 0
OfBlock text nodes around n end byte says =
    (f : Forest) (at : ℕ) (more : List ForestNode) → StandsIn text nodes n at f more → has_node f ≡ true → first_block around (parts_of f) ≡ true
    → PartEnds text nodes n at f more end byte → says (take_parts 1 (parts_of f)) at
