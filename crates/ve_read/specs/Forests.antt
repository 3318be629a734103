-- Reading of a text of which the forest is known. These serve private functions.
use Rattle.std.specs.Prelude.{◌≡◌, ℕ, List, None}
use Rattle.model_spelling.specs.Forest.{Forest, Spells}
use Rattle.model_spelling.specs.ForestNodes.{forest_nodes}
use Rattle.model_spelling.specs.Faults.{fault_of}
use Rattle.model_spelling.specs.Parsed.{forest_of}
use Rattle.model_page.specs.Parts.{Parts, parts_of}
use Rattle.model_page.specs.Pieces.{Piece}
use Rattle.model_page.specs.PageItems.{or_nothing, page_made, items_of_page}
use Rattle.ve_html_tree.specs.Nodes.{ShowNodes}
use Rattle.ve_html_tree.specs.declared.node.Node.{Node}
use Rattle.ve_origin.specs.declared.origin.OriginRow.{OriginRow}
use Rattle.ve_reader.specs.ReadSoFar.{ReadSoFar, node_rows}
use Rattle.ve_read.specs.Faults.{limit_from}

-- the nodes are those of the forest that spells the text
abbrev pub AreNodesOf : List ℕ → List Node → Type 0
AreNodesOf text nodes = (f : Forest) × Spells text f × ShowNodes nodes (forest_nodes 0 0 f)

-- the parts of a text
abbrev pub parts_in : List ℕ → Parts
parts_in text = parts_of (or_nothing (forest_of text))

-- the conversion of the body by itself, before the internal list
abbrev pub piece_in : List ℕ → Piece
piece_in text = (page_made 0 (or_nothing (forest_of text))).later

abbrev pub rows_in : List ℕ → List OriginRow
rows_in text = let piece = piece_in text in node_rows 0 piece.items piece.spans

-- The body of this text is read as the page that begins its body at this byte, but that rows have
-- the bytes of the text.
pub record IsBodyRead (from : ℕ) (text : List ℕ) (r : ReadSoFar) : Type 0 where
  pub spelled : fault_of text ≡ None
  pub within : limit_from from text ≡ None
  pub items : r.items ≡ items_of_page (page_made from (or_nothing (forest_of text)))
  pub rows : r.rows ≡ rows_in text
