-- The element at a node: the source of what is in it, and its children.
use Rattle.std.proofs.Common.{◌≡◌, ℕ, ◌+◌, ◌-◌, ◌≤◌, true, false, List, length, take, drop, Some, sym, ap, ◌∙◌, subst, arith, IsUtf8, IsCharBoundary}
use Rattle.std.proofs.Math.Seq.{take-append_seam}
use Rattle.std.proofs.lemmas.List.{length-append, length-drop}
use Rattle.std.proofs.lemmas.Str.{IsCharBoundary-from_drop}
use Rattle.std.specs.Prelude.{slice_get}
use Rattle.model_spelling.specs.Grammar as g
use Rattle.model_spelling.specs.Grammar.{Attr, start_text}
use Rattle.model_spelling.specs.Forest.{Forest, Nothing, Element, spelling}
use Rattle.model_spelling.specs.ForestNodes.{ForestNode}
use Rattle.ve_kinds.specs.Tags.{kind_of_tag}
use Rattle.model_page.specs.Parts.{Ended, Parent, parts_of}
use Rattle.model_page.specs.Fit as model
use Rattle.model_page.specs.Fit.{fit_in_content}
use Rattle.ve_html_scan.specs.Shown.{ShowsToken}
use Rattle.ve_html_tree.specs.declared.node.Node.{Node}
use Rattle.ve_classify.specs.Standing.{has_node}
use Rattle.ve_classify.specs.Fits.{IsFit}
use Rattle.ve_classify.specs.declared.around.Around.TheVariants as around
use Rattle.ve_classify.specs.declared.around.Fit.TheVariants as fits
use Rattle.ve_classify.proofs.StandLemmas.{first_shown}
use Rattle.ve_classify.specs.FirstPart.{take_parts}
use Rattle.ve_classify.specs.Places.{StandsIn, PartsTo, SomePart}
use Rattle.ve_classify.proofs.PartSource.{after_start}
use Rattle.ve_classify.proofs.TextLemmas.{utf8_before, children_stand, children_reach}
use Rattle.ve_classify.proofs.PartLemmas.{SourceCuts, all_parts}
use Rattle.ve_read.specs.ContentParts.{SomeElement, SomeParts}
use Rattle.ve_read.proofs.PartLemmas.{token_is, mark_part, mark_forest}

-- ---- its inner source

-- The children stand between these bytes.
record Inside (text : List ℕ) (nodes : List Node) (n : ℕ) (children : Forest) (from to : ℕ) : Type 0 where
  more : List ForestNode
  at : ℕ
  from_is : from ≡ at
  to_is : to ≡ at + length (spelling children)
  stands : StandsIn text nodes (n + 1) at children more

inside : (text : List ℕ) (nodes : List Node) (n at : ℕ) (name : List ℕ) (attrs : List Attr) (children rest : Forest) (more : List ForestNode) (x : Node) → StandsIn text nodes n at (Element name attrs children rest) more → slice_get nodes n ≡ Some x →
    Inside text nodes n children x.inner.from x.inner.to
inside text nodes n at name attrs children rest more x s is =
    let c = children_stand text nodes n at name attrs children rest more s in
    let row = first_shown nodes n _ _ s.stands.shown in
    let same : row.node ≡ x = cc (row.is, is) in
    record {
      more = c.0;
      at = at + length (start_text name attrs false);
      from_is = sym (ap (λ (y : Node). y.inner.from) same) ∙ row.shows.inner_from;
      to_is = sym (ap (λ (y : Node). y.inner.to) same) ∙ row.shows.inner_to;
      stands = c.1;
    }

pub inner_cuts : (text : List ℕ) (nodes : List Node) (n : ℕ) (x : Node) → SomeElement text nodes n → slice_get nodes n ≡ Some x → SourceCuts text x.inner.from x.inner.to
inner_cuts text nodes n x e is =
    let i = inside text nodes n e.at e.name e.attrs e.children e.rest e.more x e.stands is in
    let s = i.stands in
    let long : length (drop i.at text) ≡ length (spelling e.children) + length s.following = ap length s.text_is ∙ length-append (spelling e.children) s.following in
    let reach : i.at + length (spelling e.children) ≤ length text = omega (arith, length-drop i.at text, long, s.within) in
    let rest : drop (i.at + length (spelling e.children)) text ≡ s.following = after_start text (spelling e.children) s.following i.at s.text_is in
    let utf8 = utf8_before (spelling e.children) s.following s.ends (subst IsUtf8 s.text_is s.utf8) in
    record {
      rises = omega (arith, i.from_is, i.to_is);
      within = omega (arith, i.to_is, reach);
      first = subst (IsCharBoundary text) (sym i.from_is) (IsCharBoundary-from_drop text i.at s.within s.utf8);
      last = subst (IsCharBoundary text) (sym i.to_is) (IsCharBoundary-from_drop text (i.at + length (spelling e.children)) reach (subst IsUtf8 (sym rest) utf8));
    }

pub inner_is : (text : List ℕ) (nodes : List Node) (n at : ℕ) (name : List ℕ) (attrs : List Attr) (children rest : Forest) (more : List ForestNode) (x : Node) → StandsIn text nodes n at (Element name attrs children rest) more → slice_get nodes n ≡ Some x →
    take (x.inner.to - x.inner.from) (drop x.inner.from text) ≡ spelling children
inner_is text nodes n at name attrs children rest more x s is =
    let i = inside text nodes n at name attrs children rest more x s is in
    let long : x.inner.to - x.inner.from ≡ length (spelling children) = omega (arith, i.from_is, i.to_is) in
    (λ j. take (long j) (drop (i.from_is j) text)) ∙ ap (take (length (spelling children))) i.stands.text_is ∙ take-append_seam (spelling children) i.stands.following

-- its token is a start tag
pub element_token : (text : List ℕ) (nodes : List Node) (n at : ℕ) (name : List ℕ) (attrs : List Attr) (children rest : Forest) (more : List ForestNode) (x : Node) → StandsIn text nodes n at (Element name attrs children rest) more → slice_get nodes n ≡ Some x →
    (x.span.from ≡ at) × ShowsToken x.token (g.Start name attrs false)
element_token text nodes n at name attrs children rest more x s is =
    let row = first_shown nodes n _ _ s.stands.shown in
    let same : row.node ≡ x = cc (row.is, is) in
    (sym (ap (λ (y : Node). y.span.from) same) ∙ row.shows.from, subst (λ (y : Node). ShowsToken y.token (g.Start name attrs false)) same row.shows.token)

-- ---- an annotation

-- An element that marks what is in it, as the first part.
pub record MarkAt (text : List ℕ) (nodes : List Node) (n at : ℕ) (f : Forest) (x : Node) : Type 0 where
  pub name : List ℕ
  pub attrs : List Attr
  pub kids : Forest
  pub shows : ShowsToken x.token (g.Start name attrs false)
  pub begins : x.span.from ≡ at
  pub more : List ForestNode
  pub stands : StandsIn text nodes (n + 1) (at + length (start_text name attrs false)) kids more
  pub count : ℕ
  pub reach : PartsTo kids (n + 1) (at + length (start_text name attrs false)) x.next x.inner.to count
  pub all : take_parts count (parts_of kids) ≡ parts_of kids
  pub is : take_parts 1 (parts_of f) ≡ Parent name attrs (parts_of kids) Ended
  pub fit : fit_in_content name (parts_of kids) (kind_of_tag name) ≡ model.Annotation

pub mark_at : (text : List ℕ) (nodes : List Node) (n at : ℕ) (f : Forest) (more : List ForestNode) (x : Node) → StandsIn text nodes n at f more → has_node f ≡ true → IsFit nodes n around.Content fits.Annotation → slice_get nodes n ≡ Some x → MarkAt text nodes n at f x
mark_at text nodes n at f more x s some fit is =
    let p = mark_part x.token (parts_of f) (token_is nodes n at f more x s.stands some is) (fit f at more s.stands some) in
    let m = mark_forest f p.name p.attrs p.children p.rest p.is in
    let e : StandsIn text nodes n at (Element p.name p.attrs m.kids m.rest) more = subst (λ (y : Forest). StandsIn text nodes n at y more) m.is s in
    let c = children_stand text nodes n at p.name p.attrs m.kids m.rest more e in
    let r = children_reach text nodes n at p.name p.attrs m.kids m.rest more x e is in
    let row = first_shown nodes n _ _ e.stands.shown in
    let same : row.node ≡ x = cc (row.is, is) in
    let all = all_parts m.kids in
    record {
      name = p.name;
      attrs = p.attrs;
      kids = m.kids;
      shows = p.shows;
      begins = sym (ap (λ (y : Node). y.span.from) same) ∙ row.shows.from;
      more = c.0;
      stands = c.1;
      count = all.0;
      reach = record { after = Nothing; steps = all.1; to_is = omega (arith, r.0); byte_is = omega (arith, r.1) };
      all = all.2;
      is = ap (take_parts 1) p.is ∙ ap (λ q. Parent p.name p.attrs q Ended) m.children_are;
      fit = sym (ap (λ q. fit_in_content p.name q (kind_of_tag p.name)) m.children_are) ∙ p.fit;
    }

-- its children, as they are read
pub mark_children : (text : List ℕ) (nodes : List Node) (n end byte : ℕ) (x : Node) → SomePart text nodes n end byte → IsFit nodes n around.Content fits.Annotation → slice_get nodes n ≡ Some x → SomeParts text nodes (n + 1) x.next x.inner.to
mark_children text nodes n end byte x p fit is =
    let m = mark_at text nodes n p.at p.forest p.more x p.stands p.some fit is in
    record { forest = m.kids; at = p.at + length (start_text m.name m.attrs false); more = m.more; count = m.count; stands = m.stands; parts = m.reach }
