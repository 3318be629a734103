-- An annotation is read: its mark, what is in it, and its mark again.
use Rattle.std.proofs.Common.{◌≡◌, ℕ, ◌+◌, false, List, length, Some, None, sym, ap, ◌∙◌, subst}
use Rattle.std.specs.Prelude.{slice_get}
use Rattle.std.specs.Option.{option_or}
use Rattle.std.specs.Borrow.{Bor}
use Rattle.model_spelling.specs.Grammar as g
use Rattle.model_spelling.specs.Grammar.{Attr, start_text}
use Rattle.model_spelling.specs.Forest.{Forest}
use Rattle.ve_base.specs.declared.marks.Mark.{Mark}
use Rattle.model_page.specs.Parts.{parts_of}
use Rattle.ve_html_scan.specs.Shown.{ShowsToken}
use Rattle.ve_html_scan.specs.declared.attr_tokens.AttrTokens.{AttrTokens}
use Rattle.ve_html_scan.specs.declared.token.Span.{Span}
use Rattle.ve_html_scan.specs.declared.token.Token.{Token}
use Rattle.ve_html_scan.specs.declared.token.Token.TheVariants as lent
use Rattle.ve_html_tree.specs.declared.node.Node.{Node}
use Rattle.ve_classify.specs.Fits.{IsFit}
use Rattle.ve_classify.specs.Values.{OfAttrs}
use Rattle.ve_classify.specs.declared.around.Around.TheVariants as around
use Rattle.ve_classify.specs.declared.around.Fit.TheVariants as fits
use Rattle.ve_reader.specs.Leaves.{mark_from}
use Rattle.ve_classify.specs.FirstPart.{take_parts}
use Rattle.ve_classify.specs.Places.{SomePart}
use Rattle.ve_reader.specs.declared.purpose.ReadStop.{ReadStop}
use Rattle.ve_reader.specs.ReadSoFar.{ReadSoFar, with_mark, mark_left}
use Rattle.ve_reader.specs.Stops.{stop_limit, mark_limit}
use Rattle.ve_read.specs.Content.{with_content, content_limit}
use Rattle.ve_read.specs.ContentParts.{OfPart, OfParts}
use Rattle.ve_read.proofs.MarkLemmas.{annotations_are_read, annotation_limits}
use Rattle.ve_read.proofs.PartLemmas.{no_tag}
use Rattle.ve_read.proofs.ElementLemmas.{MarkAt, mark_at}
use Rattle.ve_read.proofs.ContentLoops.{stop_first}

-- its node is an element
pub marks_tag : (text : List ℕ) (nodes : List Node) (n end byte : ℕ) (x : Node) → SomePart text nodes n end byte → IsFit nodes n around.Content fits.Annotation → slice_get nodes n ≡ Some x →
    ((lends : Bor (List ℕ)) (attrs : AttrTokens) (span : Span) → x.token ≡ lent.StartTag lends attrs span → ⊥) → ⊥
marks_tag text nodes n end byte x p fit is other =
    let m = mark_at text nodes n p.at p.forest p.more x p.stands p.some fit is in
    no_tag x.token m.name m.attrs false other m.shows

module _ (text : List ℕ) (nodes : List Node) (n end byte : ℕ) (x : Node) (fit : IsFit nodes n around.Content fits.Annotation) (is : slice_get nodes n ≡ Some x)
    (name : Bor (List ℕ)) (attrs : AttrTokens) (span : Span) (tag : x.token ≡ lent.StartTag name attrs span) (mark : Mark) (marks : OfAttrs attrs (mark_from name.now) mark) (old entered : ReadSoFar) (enters : entered ≡ with_mark mark old) where
  -- the mark
  entered_is : (at : ℕ) (f : Forest) (m : MarkAt text nodes n at f x) → entered ≡ with_mark (mark_from m.name m.attrs) old
  entered_is at f m =
      let shown : ShowsToken (lent.StartTag name attrs span) (g.Start m.name m.attrs false) = subst (λ (t : Token). ShowsToken t (g.Start m.name m.attrs false)) tag m.shows in
      let same : mark ≡ mark_from m.name m.attrs = marks m.attrs false shown.1 ∙ ap (λ k. mark_from k m.attrs) shown.0 in
      enters ∙ ap (λ k. with_mark k old) same

  pub annotated : (inside left : ReadSoFar) → OfParts text nodes (n + 1) x.next x.inner.to (λ parts at. inside ≡ with_content parts at entered) → left ≡ mark_left inside →
      OfPart text nodes n end byte (λ parts at. left ≡ with_content parts at old)
  annotated inside left reads leaves = λ f at more s some part.
      let m = mark_at text nodes n at f more x s some fit is in
      let start : ℕ = at + length (start_text m.name m.attrs false) in
      let entry = entered_is at f m in
      leaves
      ∙ ap mark_left (reads m.kids start m.count m.more m.stands m.reach ∙ (λ j. with_content (m.all j) start (entry j)))
      ∙ sym (annotations_are_read m.name m.attrs (parts_of m.kids) at old m.fit)
      ∙ sym (ap (λ p. with_content p at old) m.is)

  -- what is over a limit
  limit_by : (at : ℕ) (f : Forest) (m : MarkAt text nodes n at f x) →
      content_limit (take_parts 1 (parts_of f)) at old ≡ option_or (mark_limit old at) (content_limit (take_parts m.count (parts_of m.kids)) (at + length (start_text m.name m.attrs false)) entered)
  limit_by at f m =
      let start : ℕ = at + length (start_text m.name m.attrs false) in
      let entry = entered_is at f m in
      ap (λ p. content_limit p at old) m.is
      ∙ annotation_limits m.name m.attrs (parts_of m.kids) at old m.fit
      ∙ sym (λ j. option_or (mark_limit old at) (content_limit (m.all j) start (entry j)))

  pub annotation_within : mark_limit old x.span.from ≡ None → OfParts text nodes (n + 1) x.next x.inner.to (λ parts at. content_limit parts at entered ≡ None) →
      OfPart text nodes n end byte (λ parts at. content_limit parts at old ≡ None)
  annotation_within none within = λ f at more s some part.
      let m = mark_at text nodes n at f more x s some fit is in
      let start : ℕ = at + length (start_text m.name m.attrs false) in
      let first : mark_limit old at ≡ None = ap (mark_limit old) (sym m.begins) ∙ none in
      let later = within m.kids start m.count m.more m.stands m.reach in
      limit_by at f m ∙ (λ j. option_or (first j) (later j))

  pub inside_stops : (e : ReadStop) → mark_limit old x.span.from ≡ None → OfParts text nodes (n + 1) x.next x.inner.to (λ parts at. stop_limit e (content_limit parts at entered)) →
      OfPart text nodes n end byte (λ parts at. stop_limit e (content_limit parts at old))
  inside_stops e none stops = λ f at more s some part.
      let m = mark_at text nodes n at f more x s some fit is in
      let start : ℕ = at + length (start_text m.name m.attrs false) in
      let first : mark_limit old at ≡ None = ap (mark_limit old) (sym m.begins) ∙ none in
      let later = stops m.kids start m.count m.more m.stands m.reach in
      subst (stop_limit e) (sym (limit_by at f m ∙ ap (λ o. option_or o (content_limit (take_parts m.count (parts_of m.kids)) start entered)) first)) later

-- the mark is one too many
pub mark_stops : (text : List ℕ) (nodes : List Node) (n end byte : ℕ) (x : Node) (e : ReadStop) (old : ReadSoFar) → IsFit nodes n around.Content fits.Annotation → slice_get nodes n ≡ Some x →
    stop_limit e (mark_limit old x.span.from) → OfPart text nodes n end byte (λ parts at. stop_limit e (content_limit parts at old))
mark_stops text nodes n end byte x e old fit is stops = λ f at more s some part.
    let m = mark_at text nodes n at f more x s some fit is in
    let here : stop_limit e (mark_limit old at) = subst (λ k. stop_limit e (mark_limit old k)) m.begins stops in
    stop_first e (mark_limit old at) _ (content_limit (take_parts 1 (parts_of f)) at old)
    (ap (λ p. content_limit p at old) m.is ∙ annotation_limits m.name m.attrs (parts_of m.kids) at old m.fit) here
