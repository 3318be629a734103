-- The first unit of siblings: whitespace, a run, or a block; and the rest after it. These serve
-- private functions.
use Rattle.std.specs.Prelude.{◌≡◌, ◌⊎◌, ℕ, ◌+◌, Bool, true, false, not, List, [], length, chars}
use Rattle.model_spelling.specs.Forest.{Forest, Text, starts_with_text, spelling}
use Rattle.model_spelling.specs.ForestNodes.{ForestNode, forest_size}
use Rattle.ve_kinds.specs.declared.kind.Kind.{Kind}
use Rattle.model_page.specs.Parts.{parts_of}
use Rattle.model_page.specs.Fit.{Around, Flow, Structural, Content}
use Rattle.model_page.specs.Pieces.{Progress, past, with_white}
use Rattle.ve_html_tree.specs.declared.node.Node.{Node}
use Rattle.ve_classify.specs.Standing.{Stands}
use Rattle.ve_classify.specs.Places.{StandsIn, PartEnds}
use Rattle.ve_classify.specs.Runs.{starts_block}
use Rattle.ve_classify.specs.Siblings.{siblings, first_block}
use Rattle.ve_classify.specs.Units.{Whole, WholeRun}
use Rattle.ve_reader.specs.ReadSoFar.{ReadSoFar}
use Rattle.ve_read.specs.declared.units.Sort.{Sort}
use Rattle.ve_read.specs.declared.units.Sort.TheVariants as sort
use Rattle.ve_read.specs.declared.units.Unit.{Unit}
use Rattle.ve_read.specs.Blocks.{siblings_limit, with_blocks, white_after}

-- ---- whitespace that is waiting

-- whitespace may be waiting before these siblings: they begin with a block, or with no text
abbrev pub is_ready : Around → Forest → Bool
is_ready (Flow kind) f = starts_block (parts_of f)
is_ready (Structural kind) f = not (starts_with_text f)
is_ready (Content marks) f = false

abbrev pub MayWait : Around → List ℕ → Forest → Type 0
MayWait around white f = (white ≡ []) ⊎ (is_ready around f ≡ true)

-- some text stands at a node
pub record SomeText (nodes : List Node) (n : ℕ) : Type 0 where
  pub text : List ℕ
  pub rest : Forest
  pub at : ℕ
  pub more : List ForestNode
  pub stands : Stands nodes n at (Text text rest) more

-- the text that stands at a node
abbrev pub IsTextAt : List Node → ℕ → List ℕ → Type 0
IsTextAt nodes n result = (text : List ℕ) (rest : Forest) (at : ℕ) (more : List ForestNode) → Stands nodes n at (Text text rest) more → result ≡ text

-- ---- what stands first

-- A text that goes as whitespace before what follows it.
pub record IsWhite (text : List ℕ) (nodes : List Node) (around : Around) (n at : ℕ) (f : Forest) (more : List ForestNode) (end byte : ℕ) : Type 0 where
  pub white : List ℕ
  pub after : Forest
  pub is : f ≡ Text white after
  pub stands : StandsIn text nodes end byte after more
  pub to_is : n + forest_size f ≡ end + forest_size after
  pub byte_is : byte ≡ at + length white
  pub first : is_ready around f ≡ false
  pub next : is_ready around after ≡ true
  pub goes : (w : Progress) → siblings around (parts_of f) w ≡ with_white (chars white) (siblings around (parts_of after) (past w white []))

-- A run of a flow parent that isn't whitespace alone.
pub record IsRun (text : List ℕ) (nodes : List Node) (around : Around) (n at : ℕ) (f : Forest) (more : List ForestNode) (end byte : ℕ) : Type 0 where
  pub kind : Kind
  pub flow : around ≡ Flow kind
  pub first : starts_block (parts_of f) ≡ false
  pub run : WholeRun text nodes n at f more end byte false

-- A block of the parent.
pub record IsBlockAt (text : List ℕ) (nodes : List Node) (around : Around) (n at : ℕ) (f : Forest) (more : List ForestNode) (end byte : ℕ) : Type 0 where
  pub block : first_block around (parts_of f) ≡ true
  pub part : PartEnds text nodes n at f more end byte

abbrev pub SortIs : Sort → List ℕ → List Node → Around → ℕ → ℕ → Forest → List ForestNode → ℕ → ℕ → Type 0
SortIs sort.White text nodes around n at f more end byte = IsWhite text nodes around n at f more end byte
SortIs sort.Run text nodes around n at f more end byte = IsRun text nodes around n at f more end byte
SortIs sort.Block text nodes around n at f more end byte = IsBlockAt text nodes around n at f more end byte

-- the first unit of whatever siblings stand at a node, up to another node and a byte
abbrev pub IsUnitAt : List Node → Around → ℕ → ℕ → ℕ → Unit → Type 0
IsUnitAt nodes around n to byte unit =
    (text : List ℕ) (f : Forest) (at : ℕ) (more : List ForestNode) → StandsIn text nodes n at f more → Whole f n at to byte
    → SortIs unit.sort text nodes around n at f more unit.part.end unit.part.byte

-- Some siblings stand at a node, of which this stands first.
pub record SomeUnit (text : List ℕ) (nodes : List Node) (around : Around) (n : ℕ) (unit : Unit) : Type 0 where
  pub forest : Forest
  pub at : ℕ
  pub more : List ForestNode
  pub stands : StandsIn text nodes n at forest more
  pub is : SortIs unit.sort text nodes around n at forest more unit.part.end unit.part.byte

-- ---- what is left after it

-- the statement holds of whatever siblings stand at a node, of which this is the first unit and
-- before which the whitespace may be waiting
abbrev pub OfUnit : List ℕ → List Node → Around → ℕ → Unit → List ℕ → (Forest → ℕ → List ForestNode → Type 0) → Type 0
OfUnit text nodes around n unit white says =
    (f : Forest) (at : ℕ) (more : List ForestNode) → StandsIn text nodes n at f more
    → SortIs unit.sort text nodes around n at f more unit.part.end unit.part.byte → MayWait around white f → says f at more

-- After what stands first, other siblings and other whitespace are left, which give what all give.
pub record After (text : List ℕ) (nodes : List Node) (around : Around) (n end byte : ℕ) (white next : List ℕ) (old new : ReadSoFar) (f : Forest) (at : ℕ) (more : List ForestNode) : Type 0 where
  pub after : Forest
  pub stands : StandsIn text nodes end byte after more
  pub to_is : n + forest_size f ≡ end + forest_size after
  pub length_is : at + length (spelling f) ≡ byte + length (spelling after)
  pub waits : MayWait around next after
  pub read : with_blocks (chars next) around (parts_of after) byte new ≡ with_blocks (chars white) around (parts_of f) at old
  pub pre : white_after (chars next) around (parts_of after) byte new ≡ white_after (chars white) around (parts_of f) at old
  pub limit : siblings_limit around (parts_of after) byte new ≡ siblings_limit around (parts_of f) at old
