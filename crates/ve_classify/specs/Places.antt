-- Where siblings stand in a page's text, and where their first parts end.
use Rattle.std.specs.Prelude.{◌≡◌, ℕ, zero, suc, ◌+◌, ◌≤◌, Bool, true, List, [], ◌∷◌, ◌++◌, length, drop, IsUtf8}
use Rattle.model_spelling.specs.Forest.{Forest, spelling, then_forest}
use Rattle.model_spelling.specs.ForestNodes.{ForestNode, forest_size}
use Rattle.model_page.specs.Parts.{parts_of}
use Rattle.ve_html_tree.specs.declared.node.Node.{Node}
use Rattle.ve_classify.specs.Standing.{Stands, has_node}
use Rattle.ve_classify.specs.FirstPart.{later_of, first_source, part_nodes}

-- there is nothing, or a tag begins
abbrev pub IsAtTag : List ℕ → Type 0
IsAtTag [] = Unit {0}
IsAtTag (b ∷ bs) = b ≡ 60

-- The siblings stand at these nodes, and the text has their spelling there, before the end of their
-- parent.
pub record StandsIn (text : List ℕ) (nodes : List Node) (n at : ℕ) (f : Forest) (more : List ForestNode) : Type 0 where
  pub stands : Stands nodes n at f more
  pub following : List ℕ
  pub text_is : drop at text ≡ spelling f ++ following
  pub ends : IsAtTag following
  pub within : at ≤ length text
  pub utf8 : IsUtf8 (drop at text)

-- The first part ends before the node `end` and the byte `byte`, where the siblings after it stand.
pub record PartEnds (text : List ℕ) (nodes : List Node) (n at : ℕ) (f : Forest) (more : List ForestNode) (end byte : ℕ) : Type 0 where
  pub after : Forest
  pub split : f ≡ then_forest (part_nodes f) after
  pub stands : StandsIn text nodes end byte after more
  pub parts : later_of (parts_of f) ≡ parts_of after
  pub byte_is : byte ≡ at + length (first_source (parts_of f))
  pub count_is : n + forest_size f ≡ end + forest_size after
  pub length_is : at + length (spelling f) ≡ byte + length (spelling after)

-- the siblings that stand after so many parts
abbrev pub AfterParts : ℕ → Forest → Forest → Type 0
AfterParts zero f rest = f ≡ rest
AfterParts (suc m) f rest = (after : Forest) × (has_node f ≡ true) × (f ≡ then_forest (part_nodes f) after) × AfterParts m after rest

-- The first parts of siblings, so many, end before the node `to` and the byte `byte`.
pub record PartsTo (f : Forest) (n at to byte m : ℕ) : Type 0 where
  pub after : Forest
  pub steps : AfterParts m f after
  pub to_is : n + forest_size f ≡ to + forest_size after
  pub byte_is : at + length (spelling f) ≡ byte + length (spelling after)

-- the number past the first part of whatever siblings stand at a node
abbrev pub IsPastPart : List Node → ℕ → ℕ → Type 0
IsPastPart nodes n result =
    (f : Forest) (at : ℕ) (more : List ForestNode) → Stands nodes n at f more → has_node f ≡ true → result ≡ n + forest_size (part_nodes f)

-- the end of the first part of whatever siblings stand at a node, of which so many parts reach up
-- to a node and a byte
abbrev pub IsPartEnd : List Node → ℕ → ℕ → ℕ → ℕ → ℕ → Type 0
IsPartEnd nodes n to last end byte =
    (text : List ℕ) (f : Forest) (at m : ℕ) (more : List ForestNode) → StandsIn text nodes n at f more → PartsTo f n at to last m
    → PartEnds text nodes n at f more end byte

-- the source of the first part of whatever siblings stand at a node
abbrev pub IsPartSource : List ℕ → List Node → ℕ → ℕ → ℕ → List ℕ → Type 0
IsPartSource text nodes n end byte source =
    (f : Forest) (at : ℕ) (more : List ForestNode) → StandsIn text nodes n at f more → has_node f ≡ true → PartEnds text nodes n at f more end byte
    → source ≡ first_source (parts_of f)

-- Some siblings stand at a node, of which the first part ends there.
pub record SomePart (text : List ℕ) (nodes : List Node) (n end byte : ℕ) : Type 0 where
  pub forest : Forest
  pub at : ℕ
  pub more : List ForestNode
  pub stands : StandsIn text nodes n at forest more
  pub some : has_node forest ≡ true
  pub part : PartEnds text nodes n at forest more end byte
