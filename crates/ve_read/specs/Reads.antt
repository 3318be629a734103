-- Promises for whatever siblings stand at a node: the items with them, and where reading them
-- stops.
use Rattle.std.specs.Prelude.{◌≡◌, ℕ, List, Result, chars}
use Rattle.model_page.specs.Parts.{parts_of}
use Rattle.model_page.specs.Fit.{Around}
use Rattle.ve_html_tree.specs.declared.node.Node.{Node}
use Rattle.ve_reader.specs.declared.purpose.ReadStop.{ReadStop}
use Rattle.ve_reader.specs.ReadSoFar.{ReadSoFar}
use Rattle.ve_reader.specs.Stops.{Stops, stop_limit}
use Rattle.ve_read.specs.declared.units.Unit.{Unit}
use Rattle.ve_read.specs.Blocks.{with_siblings, white_at_end, siblings_limit, with_blocks}
use Rattle.ve_read.specs.Places.{OfBlock, OfSiblings}
use Rattle.ve_read.specs.Units.{OfUnit, After}

-- all siblings of a parent are read, up to a node and a byte,
abbrev pub ReadsSiblings : List ℕ → List Node → Around → ℕ → ℕ → ℕ → ReadSoFar → ReadSoFar → Type 0
ReadsSiblings text nodes around n to byte old new = OfSiblings text nodes n to byte (λ parts at. new ≡ with_siblings around parts at old)

-- this is the whitespace after the last of them,
abbrev pub LeavesWhite : List ℕ → List Node → Around → ℕ → ℕ → ℕ → ReadSoFar → List ℕ → Type 0
LeavesWhite text nodes around n to byte old white = OfSiblings text nodes n to byte (λ parts at. chars white ≡ white_at_end around parts at old)

-- and reading stops at the first of them that is over a limit
abbrev pub StopsInSiblings : {A : Type 0} → List ℕ → List Node → Around → ℕ → ℕ → ℕ → ReadSoFar → Result A ReadStop → Type 0
StopsInSiblings text nodes around n to byte old result = OfSiblings text nodes n to byte (λ parts at. Stops result (siblings_limit around parts at old))

-- a block is read after whitespace, and reading stops in it; these serve private functions, as
-- those below
abbrev pub ReadsBlock : List ℕ → List Node → Around → ℕ → ℕ → ℕ → List ℕ → ReadSoFar → ReadSoFar → Type 0
ReadsBlock text nodes around n end byte white old new = OfBlock text nodes around n end byte (λ parts at. new ≡ with_blocks (chars white) around parts at old)

abbrev pub StopsInBlock : {A : Type 0} → List ℕ → List Node → Around → ℕ → ℕ → ℕ → ReadSoFar → Result A ReadStop → Type 0
StopsInBlock text nodes around n end byte old result = OfBlock text nodes around n end byte (λ parts at. Stops result (siblings_limit around parts at old))

-- the first unit is read where whitespace is waiting, and other whitespace is waiting then; or
-- reading stops in it
abbrev pub ReadsUnit : List ℕ → List Node → Around → ℕ → Unit → List ℕ → List ℕ → ReadSoFar → ReadSoFar → Type 0
ReadsUnit text nodes around n unit white next old new =
    OfUnit text nodes around n unit white (After text nodes around n unit.part.end unit.part.byte white next old new)

abbrev pub StopsInUnit : List ℕ → List Node → Around → ℕ → Unit → List ℕ → ReadSoFar → ReadStop → Type 0
StopsInUnit text nodes around n unit white old e = OfUnit text nodes around n unit white (λ f at _. stop_limit e (siblings_limit around (parts_of f) at old))
