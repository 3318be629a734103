-- The nodes of a forest in the order of their starts, with their positions.
use Rattle.std.specs.Prelude.{ℕ, ◌+◌, false, List, [], ◌∷◌, ◌++◌, length}
use Rattle.model_spelling.specs.Grammar.{Token, Start, Chars, Raw, Comment, token_text, start_text, end_text}
use Rattle.model_spelling.specs.Forest.{Forest, Nothing, Text, Remark, Void, RawElement, Element, spelling}

-- A node's first token; the bytes of the whole node, from the first to the one after the last;
-- those of its content; and the number past its subtree.
pub record ForestNode : Type 0 where
  pub token : Token
  pub from : ℕ
  pub to : ℕ
  pub inner_from : ℕ
  pub inner_to : ℕ
  pub next : ℕ

-- how many nodes a forest has; the text of a raw element is one where it isn't empty
abbrev pub forest_size : Forest → ℕ
forest_size Nothing = 0
forest_size (Text text rest) = 1 + forest_size rest
forest_size (Remark text rest) = 1 + forest_size rest
forest_size (Void name attrs slash rest) = 1 + forest_size rest
forest_size (RawElement name attrs [] rest) = 1 + forest_size rest
forest_size (RawElement name attrs (b ∷ bs) rest) = 2 + forest_size rest
forest_size (Element name attrs children rest) = 1 + forest_size children + forest_size rest

-- a node of one token, which has no content but its own text
abbrev pub single_node : Token → ℕ → ℕ → ℕ → ℕ → ForestNode
single_node token n at before suffix = let to = at + length (token_text token) in
    record { token = token; from = at; to = to; inner_from = at + before; inner_to = at + before + suffix; next = n + 1 }

-- The nodes of a forest whose first node has the number n and starts at the byte at.
abbrev pub forest_nodes : ℕ → ℕ → Forest → List ForestNode
forest_nodes n at Nothing = []
forest_nodes n at (Text text rest) = single_node (Chars text) n at 0 (length text) ∷ forest_nodes (n + 1) (at + length text) rest
forest_nodes n at (Remark text rest) =
    single_node (Comment text) n at 4 (length text) ∷ forest_nodes (n + 1) (at + length (token_text (Comment text))) rest
forest_nodes n at (Void name attrs slash rest) =
    let len = length (start_text name attrs slash) in
    single_node (Start name attrs slash) n at len 0 ∷ forest_nodes (n + 1) (at + len) rest
forest_nodes n at (RawElement name attrs [] rest) =
    let from = at + length (start_text name attrs false) in
    let to = from + length (end_text name) in
    record { token = Start name attrs false; from = at; to = to; inner_from = from; inner_to = from; next = n + 1 }
    ∷ forest_nodes (n + 1) to rest
forest_nodes n at (RawElement name attrs (b ∷ bs) rest) =
    let from = at + length (start_text name attrs false) in
    let end = from + length (b ∷ bs) in
    let to = end + length (end_text name) in
    record { token = Start name attrs false; from = at; to = to; inner_from = from; inner_to = end; next = n + 2 }
    ∷ single_node (Raw (b ∷ bs)) (n + 1) from 0 (length (b ∷ bs))
    ∷ forest_nodes (n + 2) to rest
forest_nodes n at (Element name attrs children rest) =
    let from = at + length (start_text name attrs false) in
    let end = from + length (spelling children) in
    let to = end + length (end_text name) in
    let next = n + 1 + forest_size children in
    record { token = Start name attrs false; from = at; to = to; inner_from = from; inner_to = end; next = next }
    ∷ forest_nodes (n + 1) from children ++ forest_nodes next to rest
