-- Each start tag of a text that was read has attributes that a start tag may have.
use Rattle.std.proofs.Common.{◌≡◌, ℕ, zero, suc, ◌+◌, Bool, true, false, not, ◌&&◌, ◌||◌, List, [], ◌∷◌, ◌++◌, length, Some, refl, sym, ap, ◌∙◌, subst}
use Rattle.std.specs.Prelude.{slice_get}
use Rattle.model_spelling.specs.Grammar as g
use Rattle.model_spelling.specs.Grammar.{Attr, Comment, token_text, start_text, end_text, is_text, is_verbatim, is_start, is_tag_name, are_attrs, comment_close}
use Rattle.model_spelling.specs.Forest.{Forest, Nothing, Text, Remark, Void, RawElement, Element, starts_with_text, spelling, is_forest}
use Rattle.model_spelling.specs.ForestNodes.{ForestNode, forest_size, forest_nodes}
use Rattle.model_spelling.proofs.AttrReading.{and_left, and_right}
use Rattle.model_spelling.proofs.Back.{element_parts, raw_parts}
use Rattle.std.proofs.Common.{Bor}
use Rattle.ve_kinds.specs.Tags.{is_void, is_raw}
use Rattle.ve_html_scan.specs.Shown.{ShowsToken}
use Rattle.ve_html_scan.specs.declared.attr_tokens.AttrTokens.{AttrTokens}
use Rattle.ve_html_scan.specs.declared.token.Span.{Span}
use Rattle.ve_html_scan.specs.declared.token.Token.{Token}
use Rattle.ve_html_scan.specs.declared.token.Token.TheVariants as lent
use Rattle.ve_html_tree.specs.Nodes.{ShowNodes}
use Rattle.ve_html_tree.specs.declared.node.Node.{Node}
use Rattle.ve_reader.specs.TagAttrs.{IsTagAttrs, TagsFit, TagsAreRead}

-- the attributes of a start tag may stand in it
abbrev TagFits : g.Token → Type 0
TagFits (g.Start name attrs slash) = are_attrs attrs ≡ true
TagFits (g.End name) = Unit {0}
TagFits (g.Chars text) = Unit {0}
TagFits (g.Raw text) = Unit {0}
TagFits (g.Comment text) = Unit {0}

abbrev AllFit : List ForestNode → Type 0
AllFit [] = Unit {0}
AllFit (r ∷ rs) = TagFits r.token × AllFit rs

all_fit : (xs ys : List ForestNode) → AllFit xs → AllFit ys → AllFit (xs ++ ys)
all_fit [] ys p q = q
all_fit (x ∷ xs) ys p q = (p.0, all_fit xs ys p.1 q)

started : (name : List ℕ) (attrs : List Attr) (slash : Bool) → is_start name attrs slash ≡ true → are_attrs attrs ≡ true
started name attrs slash e = and_right (is_tag_name name) (are_attrs attrs) (and_left (is_tag_name name && are_attrs attrs) (not slash || is_void name) e)

nodes_fit : (room n at : ℕ) (f : Forest) → is_forest room f ≡ true → AllFit (forest_nodes n at f)
nodes_fit room n at Nothing e = tt
nodes_fit room n at (Text text rest) e = (tt, nodes_fit room (n + 1) (at + length text) rest (and_right (is_text text && not (starts_with_text rest)) (is_forest room rest) e))
nodes_fit room n at (Remark text rest) e = (tt, nodes_fit room (n + 1) (at + length (token_text (Comment text))) rest (and_right (is_verbatim comment_close text) (is_forest room rest) e))
nodes_fit zero n at (Void name attrs slash rest) e = absurd cc
nodes_fit (suc room) n at (Void name attrs slash rest) e = (
  started name attrs slash (and_right (is_void name) (is_start name attrs slash) (and_left (is_void name && is_start name attrs slash) (is_forest (suc room) rest) e)),
  nodes_fit (suc room) (n + 1) (at + length (start_text name attrs slash)) rest (and_right (is_void name && is_start name attrs slash) (is_forest (suc room) rest) e),
)
nodes_fit zero n at (RawElement name attrs text rest) e = absurd cc
nodes_fit (suc room) n at (RawElement name attrs [] rest) e =
    let p = raw_parts room name attrs [] rest e in
    (started name attrs false p.start, nodes_fit (suc room) (n + 1) (at + length (start_text name attrs false) + length (end_text name)) rest p.rest_is)
nodes_fit (suc room) n at (RawElement name attrs (b ∷ bs) rest) e =
    let p = raw_parts room name attrs (b ∷ bs) rest e in
    (started name attrs false p.start, (tt, nodes_fit (suc room) (n + 2) (at + length (start_text name attrs false) + length (b ∷ bs) + length (end_text name)) rest p.rest_is))
nodes_fit zero n at (Element name attrs children rest) e = absurd cc
nodes_fit (suc room) n at (Element name attrs children rest) e =
    let p = element_parts room name attrs children rest e in
    let from : ℕ = at + length (start_text name attrs false) in
    let to : ℕ = from + length (spelling children) + length (end_text name) in (
      started name attrs false p.start,
      all_fit (forest_nodes (n + 1) from children) (forest_nodes (n + 1 + forest_size children) to rest) (nodes_fit room (n + 1) from children p.children_are) (nodes_fit (suc room) (n + 1 + forest_size children) to rest p.rest_is),
    )

shown_tag : (t : Token) (k : g.Token) (name : Bor (List ℕ)) (attrs : AttrTokens) (span : Span) → t ≡ lent.StartTag name attrs span → ShowsToken t k → TagFits k → IsTagAttrs attrs
shown_tag t (g.Start n list slash) name attrs span e s fits =
    let shown = subst (λ (x : Token). ShowsToken x (g.Start n list slash)) e s in
    record { attrs = list; slash = slash; shows = shown.1; allowed = fits }
shown_tag t (g.End n) name attrs span e s fits = absurd (subst (λ (x : Token). ShowsToken x (g.End n)) e s)
shown_tag t (g.Chars n) name attrs span e s fits = absurd (subst (λ (x : Token). ShowsToken x (g.Chars n)) e s)
shown_tag t (g.Raw n) name attrs span e s fits = absurd (subst (λ (x : Token). ShowsToken x (g.Raw n)) e s)
shown_tag t (g.Comment n) name attrs span e s fits = absurd (subst (λ (x : Token). ShowsToken x (g.Comment n)) e s)

shown_fit : (nodes : List Node) (rs : List ForestNode) → ShowNodes nodes rs → AllFit rs → TagsFit nodes
shown_fit [] [] s fits n x name attrs span is t = absurd cc
shown_fit [] (r ∷ rs) s fits n x name attrs span is t = absurd s
shown_fit (y ∷ ys) [] s fits n x name attrs span is t = absurd s
shown_fit (y ∷ ys) (r ∷ rs) s fits zero x name attrs span is t =
    let same : y ≡ x = cc in
    shown_tag x.token r.token name attrs span t (subst (λ (z : Node). ShowsToken z.token r.token) same s.0.token) fits.0
shown_fit (y ∷ ys) (r ∷ rs) s fits (suc n) x name attrs span is t = shown_fit ys rs s.1 fits.1 n x name attrs span is t

pub tags_are_read : TagsAreRead
tags_are_read = λ f nodes shown e. shown_fit nodes (forest_nodes 0 0 f) shown (nodes_fit 200 0 0 f e)
