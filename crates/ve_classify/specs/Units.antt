-- The first unit of the siblings of a flow parent: a run up to its end, or a block.
use Rattle.std.specs.Prelude.{◌≡◌, ℕ, zero, suc, ◌+◌, Bool, true, false, not, List, length}
use Rattle.model_spelling.specs.Forest.{Forest, spelling}
use Rattle.model_spelling.specs.ForestNodes.{ForestNode, forest_size}
use Rattle.model_page.specs.Elements.{is_white}
use Rattle.model_page.specs.Parts.{Parts, parts_of, source_of}
use Rattle.ve_html_tree.specs.declared.node.Node.{Node}
use Rattle.ve_classify.specs.Standing.{Stands, has_node}
use Rattle.ve_classify.specs.FirstPart.{has_part, later_of, take_parts}
use Rattle.ve_classify.specs.Places.{StandsIn, PartsTo}
use Rattle.ve_classify.specs.Runs.{then_parts, is_run, starts_block}

-- The siblings reach up to this node and byte.
pub record Whole (f : Forest) (n at to byte : ℕ) : Type 0 where
  pub to_is : n + forest_size f ≡ to
  pub byte_is : at + length (spelling f) ≡ byte

-- whether the first part of whatever siblings stand at a node is a part of a run in a flow parent
abbrev pub IsInRun : List Node → ℕ → Bool → Type 0
IsInRun nodes n result =
    (f : Forest) (at : ℕ) (more : List ForestNode) → Stands nodes n at f more → has_node f ≡ true → result ≡ not (starts_block (parts_of f))

-- after so many parts of the one come the others
abbrev pub LaterParts : ℕ → Parts → Parts → Type 0
LaterParts zero p q = p ≡ q
LaterParts (suc m) p q = (has_part p ≡ true) × LaterParts m (later_of p) q

-- The first parts of siblings, so many, are parts of a run, and end before the node `end` and the
-- byte `byte`, where the siblings after them stand.
pub record RunTo (text : List ℕ) (nodes : List Node) (n at : ℕ) (f : Forest) (more : List ForestNode) (end byte : ℕ) (white : Bool) : Type 0 where
  pub parts : ℕ
  pub run : PartsTo f n at end byte parts
  pub stands : StandsIn text nodes end byte run.after more
  pub is : is_run (take_parts parts (parts_of f)) ≡ true
  pub later : LaterParts parts (parts_of f) (parts_of run.after)
  pub white_is : white ≡ is_white (source_of (take_parts parts (parts_of f)))

-- a run, as it is read: the parts after it begin with a block, or there are none
pub record WholeRun (text : List ℕ) (nodes : List Node) (n at : ℕ) (f : Forest) (more : List ForestNode) (end byte : ℕ) (white : Bool) : Type 0 where
  pub so_far : RunTo text nodes n at f more end byte white
  pub split : parts_of f ≡ then_parts (take_parts so_far.parts (parts_of f)) (parts_of so_far.run.after)
  pub next : starts_block (parts_of so_far.run.after) ≡ true

-- the end of the run of whatever siblings stand at a node, the first of which is a part of a run,
-- up to a node and a byte
abbrev pub IsRunAt : List Node → ℕ → ℕ → ℕ → ℕ → ℕ → Bool → Type 0
IsRunAt nodes n to last end byte white =
    (text : List ℕ) (f : Forest) (at : ℕ) (more : List ForestNode) → StandsIn text nodes n at f more → Whole f n at to last
    → starts_block (parts_of f) ≡ false → WholeRun text nodes n at f more end byte white
