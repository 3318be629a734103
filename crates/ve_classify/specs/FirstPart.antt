-- The first part of siblings: its source, its nodes, and the parts after it.
use Rattle.std.specs.Prelude.{ℕ, zero, suc, Bool, true, false, List, [], ◌++◌}
use Rattle.model_spelling.specs.Grammar.{Comment, token_text}
use Rattle.model_spelling.specs.Forest.{Forest, Nothing, Text, Remark, Void, RawElement, Element, spelling}
use Rattle.model_page.specs.Parts.{Parts, Ended, Words, Note, Group, Single, Parent, parts_of}
use Rattle.model_page.specs.Convert.{element_source}

abbrev pub has_part : Parts → Bool
has_part Ended = false
has_part (Words text rest) = true
has_part (Note text rest) = true
has_part (Group nodes rest) = true
has_part (Single name attrs source rest) = true
has_part (Parent name attrs children rest) = true

-- the parts after the first one
abbrev pub later_of : Parts → Parts
later_of Ended = Ended
later_of (Words text rest) = rest
later_of (Note text rest) = rest
later_of (Group nodes rest) = rest
later_of (Single name attrs source rest) = rest
later_of (Parent name attrs children rest) = rest

-- the text of the first part
abbrev pub first_source : Parts → List ℕ
first_source Ended = []
first_source (Words text rest) = text
first_source (Note text rest) = token_text (Comment text)
first_source (Group nodes rest) = spelling nodes
first_source (Single name attrs source rest) = source
first_source (Parent name attrs children rest) = element_source name attrs children

-- the first parts, so many
abbrev pub take_parts : ℕ → Parts → Parts
take_parts zero p = Ended
take_parts (suc m) Ended = Ended
take_parts (suc m) (Words text rest) = Words text (take_parts m rest)
take_parts (suc m) (Note text rest) = Note text (take_parts m rest)
take_parts (suc m) (Group nodes rest) = Group nodes (take_parts m rest)
take_parts (suc m) (Single name attrs source rest) = Single name attrs source (take_parts m rest)
take_parts (suc m) (Parent name attrs children rest) = Parent name attrs children (take_parts m rest)

-- the first node alone
abbrev pub first_node : Forest → Forest
first_node Nothing = Nothing
first_node (Text text rest) = Text text Nothing
first_node (Remark text rest) = Remark text Nothing
first_node (Void name attrs slash rest) = Void name attrs slash Nothing
first_node (RawElement name attrs text rest) = RawElement name attrs text Nothing
first_node (Element name attrs children rest) = Element name attrs children Nothing

-- the nodes of the first part: those of a group, or the first node, which is this one
abbrev pub nodes_in : Parts → Forest → Forest
nodes_in (Group nodes later) first = nodes
nodes_in Ended first = first
nodes_in (Words text later) first = first
nodes_in (Note text later) first = first
nodes_in (Single name attrs source later) first = first
nodes_in (Parent name attrs children later) first = first

abbrev pub part_nodes : Forest → Forest
part_nodes f = nodes_in (parts_of f) (first_node f)
