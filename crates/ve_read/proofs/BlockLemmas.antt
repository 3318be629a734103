-- A block is read: a leaf, or a branch with what stands in it.
use Rattle.std.proofs.Common.{◌≡◌, ℕ, ◌+◌, true, false, List, [], length, Some, None, Result, Ok, Err, sym, ap, ◌∙◌, subst}
use Rattle.std.specs.Prelude.{slice_get, OnOk}
use Rattle.std.specs.Option.{option_or}
use Rattle.std.specs.Borrow.{Bor}
use Rattle.model_spelling.specs.Grammar as g
use Rattle.model_spelling.specs.Grammar.{Attr, start_text}
use Rattle.model_spelling.specs.Forest.{Forest, Element}
use Rattle.model_spelling.specs.ForestNodes.{ForestNode}
use Rattle.ve_base.specs.declared.head.Head.{Head}
use Rattle.ve_kinds.specs.declared.kind.Kind.{Kind}
use Rattle.model_page.specs.Parts.{Parts, Ended, Parent, parts_of}
use Rattle.model_page.specs.Fit.{Around, Flow, Structural, Content, Branch, around_in, fit_of}
use Rattle.model_page.specs.Heads.{head_with, whole_head}
use Rattle.model_page.specs.Pieces.{Piece, source_span, leaf}
use Rattle.model_page.specs.Convert.{element_source}
use Rattle.model_page.specs.Limits.{earlier}
use Rattle.ve_html_scan.specs.Shown.{ShowsToken}
use Rattle.ve_html_scan.specs.declared.attr_tokens.AttrTokens.{AttrTokens}
use Rattle.ve_html_scan.specs.declared.token.Span.{Span}
use Rattle.ve_html_scan.specs.declared.token.Token.{Token}
use Rattle.ve_html_scan.specs.declared.token.Token.TheVariants as lent
use Rattle.ve_html_tree.specs.declared.node.Node.{Node}
use Rattle.ve_classify.specs.Standing.{has_node}
use Rattle.ve_classify.specs.Fits.{IsFit, parent_of}
use Rattle.ve_classify.specs.Values.{OfAttrs}
use Rattle.ve_classify.specs.declared.around.Around.{Around as CodeAround}
use Rattle.ve_classify.specs.declared.around.Fit.{Fit}
use Rattle.ve_classify.specs.declared.around.Fit.TheVariants as fits
use Rattle.ve_classify.proofs.StandLemmas.{first_shown}
use Rattle.ve_classify.specs.FirstPart.{first_source, take_parts}
use Rattle.ve_classify.specs.Places.{StandsIn, PartEnds, SomePart, IsPartSource}
use Rattle.ve_classify.proofs.PartLemmas.{part_begins}
use Rattle.ve_classify.proofs.TextLemmas.{children_stand, children_reach}
use Rattle.ve_classify.specs.Siblings.{first_block}
use Rattle.ve_classify.specs.Units.{Whole}
use Rattle.ve_reader.specs.declared.purpose.ReadStop.{ReadStop}
use Rattle.ve_reader.specs.declared.reader.OpenNode.{OpenNode}
use Rattle.ve_reader.specs.ReadSoFar.{ReadSoFar, place_in, with_piece, piece_after, opening_piece, with_opening, with_closing, node_opened}
use Rattle.ve_reader.specs.Stops.{Stops, stop_limit, deep_in}
use Rattle.ve_read.proofs.PartLemmas.{mark_forest, no_tag}
use Rattle.ve_read.proofs.ContentLoops.{stop_first}
use Rattle.ve_read.specs.Blocks.{with_siblings, white_at_end, siblings_limit, with_blocks}
use Rattle.ve_read.specs.Places.{OfBlock, OfSiblings, SomeBlock, SomeSiblings, holds_blocks}
use Rattle.ve_read.proofs.PieceLemmas.{deep_after}
use Rattle.ve_read.proofs.LieLemmas.{earlier_none, tagged}
use Rattle.ve_read.proofs.BlockTurns.{block_alone}
use Rattle.ve_read.proofs.BranchLemmas.{branches_are_read, branch_limits}
use Rattle.ve_read.proofs.FitLemmas.{leaf_is, leaf_unmarked, is_block_fit, block_fits, branch_part}

pub on_ok : {A E P Q : Type 0} → (r : Result A E) → (P → Q) → OnOk r P → OnOk r Q
on_ok (Ok x) f h = f h
on_ok (Err e) f h = tt

-- ---- leaves

-- it is a part
pub block_part : (text : List ℕ) (nodes : List Node) (around : Around) (n end byte : ℕ) → SomeBlock text nodes around n end byte → SomePart text nodes n end byte
block_part text nodes around n end byte b = record { forest = b.forest; at = b.at; more = b.more; stands = b.stands; some = b.some; part = b.part }

-- its fit is one of a block
pub may_be : (text : List ℕ) (nodes : List Node) (a : CodeAround) (n end byte : ℕ) (f : Fit) → SomeBlock text nodes (parent_of a) n end byte → IsFit nodes n a f → is_block_fit f ≡ true
may_be text nodes a n end byte f b fit = ap is_block_fit (fit b.forest b.at b.more b.stands.stands b.some) ∙ block_fits (parent_of a) (parts_of b.forest) b.block

-- where a block stands
block_span : (text : List ℕ) (nodes : List Node) (n at : ℕ) (f : Forest) (more : List ForestNode) (end byte : ℕ) (x : Node) (r : ReadSoFar) → StandsIn text nodes n at f more → has_node f ≡ true → PartEnds text nodes n at f more end byte → slice_get nodes n ≡ Some x →
    record { from = x.span.from; to = byte } ≡ source_span (place_in r at) (first_source (parts_of f))
block_span text nodes n at f more end byte x r s some part is =
    let from = part_begins text nodes n at f more x s some is in
    let to = part.byte_is in
    λ j. record { from = from j; to = to j }

module _ (text : List ℕ) (nodes : List Node) (a : CodeAround) (n end byte : ℕ) (x : Node) (kind : Kind) (source white : List ℕ) (head : Head) (old : ReadSoFar) (fit : IsFit nodes n a (fits.Whole kind)) (is : slice_get nodes n ≡ Some x)
    (sources : IsPartSource text nodes n end byte source) (heads : head ≡ whole_head source) where
  -- the leaf as it is pushed
  leaf_same : (f : Forest) (at : ℕ) (more : List ForestNode) → StandsIn text nodes n at f more → has_node f ≡ true → PartEnds text nodes n at f more end byte →
      leaf kind head [] (record { from = x.span.from; to = byte }) ≡ leaf kind (whole_head (first_source (parts_of f))) [] (source_span (place_in old at) (first_source (parts_of f)))
  leaf_same f at more s some part =
      let whole = heads ∙ ap whole_head (sources f at more s some part) in
      let spans = block_span text nodes n at f more end byte x old s some part is in
      λ j. leaf kind (whole j) [] (spans j)

  pub leaf_read : (new : ReadSoFar) → new ≡ with_piece (piece_after white (leaf kind head [] (record { from = x.span.from; to = byte }))) [] old
      → OfBlock text nodes (parent_of a) n end byte (λ parts at. new ≡ with_blocks white (parent_of a) parts at old)
  leaf_read new reads = λ f at more s some block part.
      let whole : Piece = leaf kind (whole_head (first_source (parts_of f))) [] (source_span (place_in old at) (first_source (parts_of f))) in
      let one = block_alone (parent_of a) (parts_of f) at old whole [] block (leaf_is (parent_of a) (parts_of f) (place_in old at) kind block (fit f at more s.stands some)) in
      reads ∙ ap (λ p. with_piece (piece_after white p) [] old) (leaf_same f at more s some part) ∙ sym (one.read white)

  pub leaf_stops : {A : Type 0} (result : Result A ReadStop) → Stops result (deep_in old (piece_after white (leaf kind head [] (record { from = x.span.from; to = byte }))))
      → OfBlock text nodes (parent_of a) n end byte (λ parts at. Stops result (siblings_limit (parent_of a) parts at old))
  leaf_stops result stops = λ f at more s some block part.
      let fits_so = fit f at more s.stands some in
      let whole : Piece = leaf kind (whole_head (first_source (parts_of f))) [] (source_span (place_in old at) (first_source (parts_of f))) in
      let one = block_alone (parent_of a) (parts_of f) at old whole [] block (leaf_is (parent_of a) (parts_of f) (place_in old at) kind block fits_so) in
      let marked = leaf_unmarked (parent_of a) (parts_of f) at kind block fits_so in
      subst (Stops result)
      (deep_after old white (leaf kind head [] (record { from = x.span.from; to = byte }))
      ∙ ap (deep_in old) (leaf_same f at more s some part)
      ∙ sym (one.limit ∙ ap (λ m. earlier (deep_in old whole) (tagged m)) marked ∙ earlier_none (deep_in old whole)))
      stops

-- ---- a branch

-- An element that is a branch, as the first part, and its children.
pub record BranchAt (text : List ℕ) (nodes : List Node) (around : Around) (n at : ℕ) (f : Forest) (x : Node) (kind : Kind) (byte : ℕ) : Type 0 where
  pub name : List ℕ
  pub attrs : List Attr
  pub kids : Forest
  pub shows : ShowsToken x.token (g.Start name attrs false)
  pub more : List ForestNode
  pub stands : StandsIn text nodes (n + 1) (at + length (start_text name attrs false)) kids more
  pub whole : Whole kids (n + 1) (at + length (start_text name attrs false)) x.next x.inner.to
  pub is : take_parts 1 (parts_of f) ≡ Parent name attrs (parts_of kids) Ended
  pub block : first_block around (Parent name attrs (parts_of kids) Ended) ≡ true
  pub fit : fit_of around name (parts_of kids) ≡ Branch kind
  pub from_is : x.span.from ≡ at
  pub to_is : byte ≡ at + length (element_source name attrs (parts_of kids))

alone_parent : (around : Around) (name : List ℕ) (attrs : List Attr) (children rest : Parts) → first_block around (Parent name attrs children rest) ≡ true → first_block around (Parent name attrs children Ended) ≡ true
alone_parent (Flow kind) name attrs children rest e = e
alone_parent (Structural kind) name attrs children rest e = e
alone_parent (Content marks) name attrs children rest e = e

pub branch_at : (text : List ℕ) (nodes : List Node) (a : CodeAround) (n at : ℕ) (f : Forest) (more : List ForestNode) (end byte : ℕ) (x : Node) (kind : Kind) → holds_blocks (parent_of a) ≡ true → IsFit nodes n a (fits.Branch kind)
    → StandsIn text nodes n at f more → has_node f ≡ true → first_block (parent_of a) (parts_of f) ≡ true → PartEnds text nodes n at f more end byte → slice_get nodes n ≡ Some x → BranchAt text nodes (parent_of a) n at f x kind byte
branch_at text nodes a n at f more end byte x kind holds fit s some block part is =
    let p = branch_part nodes n at f more (parent_of a) kind s.stands holds block (fit f at more s.stands some) in
    let m = mark_forest f p.name p.attrs p.children p.rest p.is in
    let e : StandsIn text nodes n at (Element p.name p.attrs m.kids m.rest) more = subst (λ (y : Forest). StandsIn text nodes n at y more) m.is s in
    let c = children_stand text nodes n at p.name p.attrs m.kids m.rest more e in
    let r = children_reach text nodes n at p.name p.attrs m.kids m.rest more x e is in
    let row = first_shown nodes n _ _ e.stands.shown in
    let same : row.node ≡ x = cc (row.is, is) in
    let parts : parts_of f ≡ Parent p.name p.attrs (parts_of m.kids) p.rest = p.is ∙ ap (λ q. Parent p.name p.attrs q p.rest) m.children_are in
    record {
      name = p.name;
      attrs = p.attrs;
      kids = m.kids;
      shows = subst (λ (y : Node). ShowsToken y.token (g.Start p.name p.attrs false)) same row.shows.token;
      more = c.0;
      stands = c.1;
      whole = record { to_is = r.0; byte_is = r.1 };
      is = ap (take_parts 1) parts;
      block = alone_parent (parent_of a) p.name p.attrs (parts_of m.kids) p.rest (sym (ap (first_block (parent_of a)) parts) ∙ block);
      fit = sym (ap (λ q. fit_of (parent_of a) p.name q) m.children_are) ∙ p.fit;
      from_is = part_begins text nodes n at f more x s some is;
      to_is = part.byte_is ∙ ap (λ q. at + length (first_source q)) parts;
    }

-- its node is an element
pub branch_token : (text : List ℕ) (nodes : List Node) (a : CodeAround) (n end byte : ℕ) (x : Node) (kind : Kind) → holds_blocks (parent_of a) ≡ true → IsFit nodes n a (fits.Branch kind) → SomeBlock text nodes (parent_of a) n end byte → slice_get nodes n ≡ Some x →
    ((lends : Bor (List ℕ)) (attrs : AttrTokens) (span : Span) → x.token ≡ lent.StartTag lends attrs span → ⊥) → ⊥
branch_token text nodes a n end byte x kind holds fit b is other =
    let m = branch_at text nodes a n b.at b.forest b.more end byte x kind holds fit b.stands b.some b.block b.part is in
    no_tag x.token m.name m.attrs false other m.shows

-- its children, as they are read
pub branch_children : (text : List ℕ) (nodes : List Node) (a : CodeAround) (n end byte : ℕ) (x : Node) (kind : Kind) → holds_blocks (parent_of a) ≡ true → IsFit nodes n a (fits.Branch kind) → SomeBlock text nodes (parent_of a) n end byte → slice_get nodes n ≡ Some x →
    SomeSiblings text nodes (n + 1) x.next x.inner.to
branch_children text nodes a n end byte x kind holds fit b is =
    let m = branch_at text nodes a n b.at b.forest b.more end byte x kind holds fit b.stands b.some b.block b.part is in
    record { forest = m.kids; at = b.at + length (start_text m.name m.attrs false); more = m.more; stands = m.stands; whole = m.whole }

module _ (text : List ℕ) (nodes : List Node) (a : CodeAround) (n end byte : ℕ) (x : Node) (kind : Kind) (white : List ℕ) (holds : holds_blocks (parent_of a) ≡ true) (fit : IsFit nodes n a (fits.Branch kind)) (is : slice_get nodes n ≡ Some x)
    (name : Bor (List ℕ)) (attrs : AttrTokens) (span : Span) (tag : x.token ≡ lent.StartTag name attrs span) (head : Head) (heads : OfAttrs attrs head_with head) (old : ReadSoFar) where
  head_is : (at : ℕ) (f : Forest) (m : BranchAt text nodes (parent_of a) n at f x kind byte) → head ≡ head_with m.attrs
  head_is at f m =
      let shown : ShowsToken (lent.StartTag name attrs span) (g.Start m.name m.attrs false) = subst (λ (t : Token). ShowsToken t (g.Start m.name m.attrs false)) tag m.shows in
      heads m.attrs false shown.1

  span_is : (at : ℕ) (f : Forest) (m : BranchAt text nodes (parent_of a) n at f x kind byte) → record { from = x.span.from; to = byte } ≡ source_span (place_in old at) (element_source m.name m.attrs (parts_of m.kids))
  span_is at f m = let from = m.from_is in let to = m.to_is in λ j. record { from = from j; to = to j }

  -- it is opened
  opened_is : (at : ℕ) (f : Forest) (m : BranchAt text nodes (parent_of a) n at f x kind byte) →
      with_opening kind head white false (record { from = x.span.from; to = byte }) old ≡ with_opening kind (head_with m.attrs) white false (source_span (place_in old at) (element_source m.name m.attrs (parts_of m.kids))) old
  opened_is at f m = let h = head_is at f m in let s = span_is at f m in λ j. with_opening kind (h j) white false (s j) old

  pub branch_read : (opened inside new : ReadSoFar) (node : OpenNode) (pre : List ℕ) → opened ≡ with_opening kind head white false (record { from = x.span.from; to = byte }) old → node ≡ node_opened kind old
      → OfSiblings text nodes (n + 1) x.next x.inner.to (λ parts at. inside ≡ with_siblings (around_in kind) parts at opened)
      → OfSiblings text nodes (n + 1) x.next x.inner.to (λ parts at. pre ≡ white_at_end (around_in kind) parts at opened)
      → new ≡ with_closing node pre inside
      → OfBlock text nodes (parent_of a) n end byte (λ parts at. new ≡ with_blocks white (parent_of a) parts at old)
  branch_read opened inside new node pre opens nodes_is reads whites closes = λ f at more s some block part.
      let m = branch_at text nodes a n at f more end byte x kind holds fit s some block part is in
      let start : ℕ = at + length (start_text m.name m.attrs false) in
      let entry = opens ∙ opened_is at f m in
      let inside_is = reads m.kids start m.more m.stands m.whole in
      let pre_is = whites m.kids start m.more m.stands m.whole in
      closes
      ∙ (λ j. with_closing (nodes_is j) (pre_is j) (inside_is j))
      ∙ (λ j. with_closing (node_opened kind old) (white_at_end (around_in kind) (parts_of m.kids) start (entry j)) (with_siblings (around_in kind) (parts_of m.kids) start (entry j)))
      ∙ sym (branches_are_read white (parent_of a) m.name m.attrs (parts_of m.kids) kind at old m.block m.fit)
      ∙ sym (ap (λ p. with_blocks white (parent_of a) p at old) m.is)

  -- what is over a limit
  limit_by : (at : ℕ) (f : Forest) (m : BranchAt text nodes (parent_of a) n at f x kind byte) →
      siblings_limit (parent_of a) (take_parts 1 (parts_of f)) at old
      ≡ option_or (deep_in old (opening_piece kind head white false (record { from = x.span.from; to = byte }))) (siblings_limit (around_in kind) (parts_of m.kids) (at + length (start_text m.name m.attrs false)) (with_opening kind head white false (record { from = x.span.from; to = byte }) old))
  limit_by at f m =
      let start : ℕ = at + length (start_text m.name m.attrs false) in
      let h = head_is at f m in
      let s = span_is at f m in
      ap (λ p. siblings_limit (parent_of a) p at old) m.is
      ∙ branch_limits white (parent_of a) m.name m.attrs (parts_of m.kids) kind at old m.block m.fit
      ∙ sym (λ j. option_or (deep_in old (opening_piece kind (h j) white false (s j))) (siblings_limit (around_in kind) (parts_of m.kids) start (with_opening kind (h j) white false (s j) old)))

  pub opening_stops : (e : ReadStop) → stop_limit e (deep_in old (opening_piece kind head white false (record { from = x.span.from; to = byte }))) → OfBlock text nodes (parent_of a) n end byte (λ parts at. stop_limit e (siblings_limit (parent_of a) parts at old))
  opening_stops e stops = λ f at more s some block part.
      let m = branch_at text nodes a n at f more end byte x kind holds fit s some block part is in
      stop_first e (deep_in old (opening_piece kind head white false (record { from = x.span.from; to = byte }))) _ (siblings_limit (parent_of a) (take_parts 1 (parts_of f)) at old) (limit_by at f m) stops

  pub inside_stops : (e : ReadStop) (opened : ReadSoFar) → opened ≡ with_opening kind head white false (record { from = x.span.from; to = byte }) old → deep_in old (opening_piece kind head white false (record { from = x.span.from; to = byte })) ≡ None
      → OfSiblings text nodes (n + 1) x.next x.inner.to (λ parts at. stop_limit e (siblings_limit (around_in kind) parts at opened))
      → OfBlock text nodes (parent_of a) n end byte (λ parts at. stop_limit e (siblings_limit (parent_of a) parts at old))
  inside_stops e opened opens none stops = λ f at more s some block part.
      let m = branch_at text nodes a n at f more end byte x kind holds fit s some block part is in
      let start : ℕ = at + length (start_text m.name m.attrs false) in
      let later = stops m.kids start m.more m.stands m.whole in
      subst (stop_limit e) (sym (limit_by at f m ∙ (λ j. option_or (none j) (siblings_limit (around_in kind) (parts_of m.kids) start (sym opens j))))) later

  pub branch_within : (opened : ReadSoFar) → opened ≡ with_opening kind head white false (record { from = x.span.from; to = byte }) old → deep_in old (opening_piece kind head white false (record { from = x.span.from; to = byte })) ≡ None
      → OfSiblings text nodes (n + 1) x.next x.inner.to (λ parts at. siblings_limit (around_in kind) parts at opened ≡ None)
      → OfBlock text nodes (parent_of a) n end byte (λ parts at. siblings_limit (parent_of a) parts at old ≡ None)
  branch_within opened opens none within = λ f at more s some block part.
      let m = branch_at text nodes a n at f more end byte x kind holds fit s some block part is in
      let start : ℕ = at + length (start_text m.name m.attrs false) in
      let later = within m.kids start m.more m.stands m.whole in
      limit_by at f m ∙ (λ j. option_or (none j) (siblings_limit (around_in kind) (parts_of m.kids) start (sym opens j))) ∙ later
