-- The attributes that a start tag of a page has.
use Rattle.std.specs.Prelude.{◌≡◌, ℕ, Bool, true, List, Some, slice_get}
use Rattle.std.specs.Borrow.{Bor}
use Rattle.model_spelling.specs.Grammar.{Attr, are_attrs}
use Rattle.model_spelling.specs.Forest.{Forest, is_forest}
use Rattle.model_spelling.specs.ForestNodes.{forest_nodes}
use Rattle.ve_base.specs.Limits.{max_open_elements}
use Rattle.ve_html_scan.specs.Shown.{ShowsAttrs}
use Rattle.ve_html_scan.specs.declared.attr_tokens.AttrTokens.{AttrTokens}
use Rattle.ve_html_scan.specs.declared.token.Span.{Span}
use Rattle.ve_html_scan.specs.declared.token.Token.TheVariants as lent
use Rattle.ve_html_tree.specs.Nodes.{ShowNodes}
use Rattle.ve_html_tree.specs.declared.node.Node.{Node}

-- The tokens show attributes that a start tag may have: well spelled, no name twice.
pub record IsTagAttrs (tokens : AttrTokens) : Type 0 where
  pub attrs : List Attr
  pub slash : Bool
  pub shows : ShowsAttrs tokens attrs slash
  pub allowed : are_attrs attrs ≡ true

-- so does each start tag among the nodes
abbrev pub TagsFit : List Node → Type 0
TagsFit nodes =
    (n : ℕ) (node : Node) (name : Bor (List ℕ)) (attrs : AttrTokens) (span : Span) → slice_get nodes n ≡ Some node
    → node.token ≡ lent.StartTag name attrs span → IsTagAttrs attrs

-- the nodes of a forest that may be spelled have such tags
abbrev pub TagsAreRead : Type 0
TagsAreRead = (f : Forest) (nodes : List Node) → ShowNodes nodes (forest_nodes 0 0 f) → is_forest max_open_elements f ≡ true → TagsFit nodes
