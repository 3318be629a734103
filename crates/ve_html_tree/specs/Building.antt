-- The nodes that the tokens so far have made: those of a forest, of which those of the open
-- elements have no end yet.
use Rattle.std.specs.Prelude.{ℕ, zero, suc, ◌+◌, ◌-◌, List, [], ◌∷◌, ◌++◌, length, if◌then◌else◌}
use Rattle.model_spelling.specs.Grammar.{Token, Start, End, Chars, Raw, Comment}
use Rattle.ve_kinds.specs.Tags.{is_void}
use Rattle.model_spelling.specs.ForestNodes.{ForestNode}

-- the nodes, and the numbers of those of the open elements, the innermost first
pub record Built : Type 0 where
  pub nodes : List ForestNode
  pub open_ : List ℕ

abbrev pub building : List ForestNode → List ℕ → Built
building nodes open_ = record { nodes = nodes; open_ = open_ }

-- the node that begins with a token from these bytes, where nothing is in it yet
abbrev pub node_begun : Token → ℕ → ℕ → ℕ → ForestNode
node_begun (Start name attrs slash) from to next =
    record { token = Start name attrs slash; from = from; to = to; inner_from = to; inner_to = to; next = next }
node_begun (End name) from to next = record { token = End name; from = from; to = to; inner_from = from; inner_to = to; next = next }
node_begun (Chars text) from to next = record { token = Chars text; from = from; to = to; inner_from = from; inner_to = to; next = next }
node_begun (Raw text) from to next = record { token = Raw text; from = from; to = to; inner_from = from; inner_to = to; next = next }
node_begun (Comment text) from to next =
    record { token = Comment text; from = from; to = to; inner_from = from + 4; inner_to = to - 3; next = next }

-- the node that an end tag from these bytes ends
abbrev pub closed_node : ℕ → ℕ → ℕ → ForestNode → ForestNode
closed_node from to next r = record { token = r.token; from = r.from; to = to; inner_from = r.inner_from; inner_to = from; next = next }

-- the nodes, that of this number ended
abbrev pub closed_at : ℕ → ℕ → ℕ → ℕ → List ForestNode → List ForestNode
closed_at k from to next [] = []
closed_at zero from to next (r ∷ rs) = closed_node from to next r ∷ rs
closed_at (suc k) from to next (r ∷ rs) = r ∷ closed_at k from to next rs

abbrev pub pushed : Token → ℕ → ℕ → Built → Built
pushed t from to b = building (b.nodes ++ node_begun t from to (length b.nodes + 1) ∷ []) b.open_

abbrev pub closed_innermost : ℕ → ℕ → List ForestNode → List ℕ → Built
closed_innermost from to nodes [] = building nodes []
closed_innermost from to nodes (k ∷ ks) = building (closed_at k from to (length nodes) nodes) ks

-- the number of the innermost open element, or 0
abbrev pub around : List ℕ → ℕ
around [] = 0
around (k ∷ ks) = k

-- The nodes after one more token, from these bytes. Until an element is closed, its node's `next`
-- is the number of the element around it.
abbrev pub built_with : Token → ℕ → ℕ → Built → Built
built_with (Start name attrs slash) from to b =
    let next = if is_void name then length b.nodes + 1 else around b.open_ in
    building (b.nodes ++ node_begun (Start name attrs slash) from to next ∷ []) (if is_void name then b.open_ else length b.nodes ∷ b.open_)
built_with (End name) from to b = closed_innermost from to b.nodes b.open_
built_with (Chars text) from to b = pushed (Chars text) from to b
built_with (Raw text) from to b = pushed (Raw text) from to b
built_with (Comment text) from to b = pushed (Comment text) from to b
