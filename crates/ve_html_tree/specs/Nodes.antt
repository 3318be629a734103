-- How the nodes show the nodes of a forest.
use Rattle.model_spelling.specs.Grammar as g
use Rattle.model_spelling.specs.Grammar.{token_text}
use Rattle.std.specs.Prelude.{ℕ, zero, suc, ◌≡◌, ◌+◌, ◌-◌, ◌≤◌, length, List, [], ◌∷◌}
use Rattle.model_spelling.specs.ForestNodes.{ForestNode}
use Rattle.ve_html_scan.specs.Shown.{ShowsToken, token_span}
use Rattle.ve_html_scan.specs.declared.token.Span.{Span}
use Rattle.ve_html_scan.specs.declared.token.Token.{Token}
use Rattle.ve_html_scan.specs.declared.token.Token.TheVariants as lent
use Rattle.ve_html_tree.specs.declared.node.Node.{Node}

-- the bytes of what is in a token
abbrev pub inner_span : Token → Span
inner_span (lent.StartTag name attrs span) = record { from = span.to; to = span.to }
inner_span (lent.EndTag name span) = span
inner_span (lent.Chars text span) = span
inner_span (lent.Raw text span) = span
inner_span (lent.Comment text span) = record { from = span.from + 4; to = span.to - 3 }

-- a comment has its `<!--` and `-->`
abbrev pub HasRoom : Token → Type 0
HasRoom (lent.StartTag name attrs span) = Unit {0}
HasRoom (lent.EndTag name span) = Unit {0}
HasRoom (lent.Chars text span) = Unit {0}
HasRoom (lent.Raw text span) = Unit {0}
HasRoom (lent.Comment text span) = span.from + 7 ≤ span.to

-- the span of a token is as long as its text
abbrev pub HasText : Token → g.Token → Type 0
HasText t k = (token_span t).to ≡ (token_span t).from + length (token_text k)

-- A node shows one of a forest. It borrows its first token with that token's bytes. It has the
-- bytes of the whole node, those of its content, and the number past its subtree.
pub record ShowsNode (n : Node) (r : ForestNode) : Type 0 where
  pub token : ShowsToken n.token r.token
  pub token_from : (token_span n.token).from ≡ r.from
  pub token_to : (token_span n.token).to ≡ r.from + length (token_text r.token)
  pub from : n.span.from ≡ r.from
  pub to : n.span.to ≡ r.to
  pub inner_from : n.inner.from ≡ r.inner_from
  pub inner_to : n.inner.to ≡ r.inner_to
  pub next : n.next ≡ r.next

-- the nodes show these of a forest, one by one
abbrev pub ShowNodes : List Node → List ForestNode → Type 0
ShowNodes [] [] = Unit {0}
ShowNodes (n ∷ ns) (r ∷ rs) = ShowsNode n r × ShowNodes ns rs
ShowNodes [] (r ∷ rs) = ⊥
ShowNodes (n ∷ ns) [] = ⊥

-- the node that begins with a token, where nothing is in it yet
abbrev pub node_of : Token → ℕ → Node
node_of t next = record { token = t; span = token_span t; inner = inner_span t; next = next }

-- the node that an end tag from these bytes ends
abbrev pub ended_node : ℕ → ℕ → ℕ → Node → Node
ended_node from to next n = record {
  token = n.token;
  span = record { from = n.span.from; to = to };
  inner = record { from = n.inner.from; to = from };
  next = next;
}

-- the nodes, that of this number ended
abbrev pub ended_at : ℕ → ℕ → ℕ → ℕ → List Node → List Node
ended_at k from to next [] = []
ended_at zero from to next (n ∷ ns) = ended_node from to next n ∷ ns
ended_at (suc k) from to next (n ∷ ns) = n ∷ ended_at k from to next ns
