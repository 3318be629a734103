-- Characters and leaves are read.
use Rattle.std.proofs.Common.{◌≡◌, ℕ, ◌+◌, Bool, true, false, List, [], ◌∷◌, length, map, Option, Some, None, Result, Ok, Err, refl, sym, ap, ◌∙◌, subst}
use Rattle.std.specs.Prelude.{slice_get, option_map, is_some, OnOk}
use Rattle.std.specs.Borrow.{Bor}
use Rattle.model_spelling.specs.Grammar as g
use Rattle.model_spelling.specs.Grammar.{Attr}
use Rattle.model_spelling.specs.Forest.{Forest, Element, spelling}
use Rattle.model_spelling.specs.ForestNodes.{ForestNode}
use Rattle.ve_base.specs.declared.head.Head.{Head}
use Rattle.ve_base.specs.declared.marks.Mark.{Mark}
use Rattle.ve_kinds.specs.declared.kind.Kind.{Kind}
use Rattle.ve_kinds.specs.declared.kind.Kind.TheVariants.{Ref, TransInline}
use Rattle.model_items.specs.declared.plain_item.PlainItem.TheVariants.{Char}
use Rattle.model_page.specs.Parts.{Parts, Ended, Words, Note, Group, Single, Parent, parts_of}
use Rattle.model_page.specs.Fit.{Content}
use Rattle.model_page.specs.Heads.{characters, head_with, whole_head}
use Rattle.model_page.specs.Pieces.{Piece, leaf, chars_piece, source_span}
use Rattle.model_page.specs.ReferenceNodes.{RefNode, ref_of}
use Rattle.model_page.specs.Limits.{deep_at}
use Rattle.ve_html_scan.specs.Shown.{ShowsToken}
use Rattle.ve_html_scan.specs.declared.attr_tokens.AttrTokens.{AttrTokens}
use Rattle.ve_html_scan.specs.declared.token.Span.{Span}
use Rattle.ve_html_scan.specs.declared.token.Token.{Token}
use Rattle.ve_html_scan.specs.declared.token.Token.TheVariants as lent
use Rattle.ve_html_tree.specs.declared.node.Node.{Node}
use Rattle.ve_classify.specs.Standing.{has_node}
use Rattle.ve_classify.specs.Fits.{IsFit}
use Rattle.ve_classify.specs.Values.{OfAttrs}
use Rattle.ve_classify.specs.declared.around.Fit.{Fit}
use Rattle.ve_classify.specs.declared.around.Around.TheVariants as around
use Rattle.ve_classify.specs.declared.around.Fit.TheVariants as fits
use Rattle.ve_classify.specs.FirstPart.{first_source, take_parts}
use Rattle.ve_classify.specs.Places.{StandsIn, PartEnds, SomePart, IsPartSource}
use Rattle.ve_classify.proofs.PartSource.{parted}
use Rattle.ve_classify.proofs.PartLemmas.{part_begins}
use Rattle.ve_reader.specs.Leaves.{head_of_ref}
use Rattle.ve_base.specs.declared.head.RefKey.{RefKey}
use Rattle.ve_reader.specs.declared.owners.Claim.{Claim}
use Rattle.ve_reader.specs.declared.purpose.Purpose.{Purpose}
use Rattle.ve_reader.specs.declared.purpose.Purpose.TheVariants as purpose
use Rattle.ve_reader.specs.declared.purpose.ReadStop.{ReadStop}
use Rattle.ve_reader.specs.declared.reader.NewOwner.{NewOwner}
use Rattle.ve_reader.specs.ReadSoFar.{ReadSoFar, place_in, with_piece, owned_at}
use Rattle.ve_reader.specs.Stops.{Stops, depth_limit, deep_in}
use Rattle.ve_read.specs.Content.{with_content, content_limit, whole_leaf}
use Rattle.ve_read.specs.ContentParts.{OfPart, SomeElement}
use Rattle.ve_read.specs.References.{IsClaimed, OfElement, ReadsClaim, claim_limit, new_owner, claimed_group, claimed_node, ref_leaf}
use Rattle.ve_read.proofs.ElementLemmas.{element_token}
use Rattle.ve_read.proofs.PartLemmas.{token_is, no_text, no_tag, text_part, text_adds, leaf_part, NoReference, whole_adds, not_generated, group_part, ref_adds, Adds, is_content_fit, content_fits}
use Rattle.ve_read.proofs.ReferenceLemmas.{claimed_one, unclaimed, group_end, stands_alone}

pub on_ok_map : {A E P Q : Type 0} → (r : Result A E) → (P → Q) → OnOk r P → OnOk r Q
on_ok_map (Ok x) f h = f h
on_ok_map (Err e) f h = tt

-- ---- characters

deep_chars : (depth : ℕ) (marks : List Mark) (text : List ℕ) → deep_at depth (map (λ c. Char c marks) text) [] ≡ None
deep_chars depth marks [] = refl
deep_chars depth marks (c ∷ cs) = deep_chars depth marks cs

chars_within : (p : Purpose) (depth : ℕ) (marks : List Mark) (text : List ℕ) → depth_limit p depth (chars_piece marks text) ≡ None
chars_within purpose.Page depth marks text = ap (option_map _) (deep_chars depth marks text)
chars_within purpose.Body depth marks text = ap (option_map _) (deep_chars depth marks text)
chars_within purpose.Fragment depth marks text = refl

pub text_token : (text : List ℕ) (nodes : List Node) (n end byte : ℕ) (x : Node) → SomePart text nodes n end byte → IsFit nodes n around.Content fits.Chars → slice_get nodes n ≡ Some x →
    ((lends : Bor (List ℕ)) (span : Span) → x.token ≡ lent.Chars lends span → ⊥) → ⊥
text_token text nodes n end byte x p fit is other =
    let t = text_part x.token (parts_of p.forest) (token_is nodes n p.at p.forest p.more x p.stands.stands p.some is) (fit p.forest p.at p.more p.stands.stands p.some) in
    no_text x.token t.text other t.shows

pub text_read : (text : List ℕ) (nodes : List Node) (n end byte : ℕ) (x : Node) (lends : Bor (List ℕ)) (span : Span) (old new : ReadSoFar) → IsFit nodes n around.Content fits.Chars → slice_get nodes n ≡ Some x →
    x.token ≡ lent.Chars lends span → new ≡ with_piece (chars_piece old.marks (characters lends.now)) [] old → OfPart text nodes n end byte (λ parts at. new ≡ with_content parts at old)
text_read text nodes n end byte x lends span old new fit is tag reads = λ f at more s some part.
    let t = text_part x.token (parts_of f) (token_is nodes n at f more x s.stands some is) (fit f at more s.stands some) in
    let same : lends.now ≡ t.text = subst (λ (y : Token). ShowsToken y (g.Chars t.text)) tag t.shows in
    reads ∙ ap (λ y. with_piece (chars_piece old.marks (characters y)) [] old) same ∙ sym (text_adds t.text t.rest at old).read ∙ sym (ap (λ p. with_content (take_parts 1 p) at old) t.is)

pub text_within : (text : List ℕ) (nodes : List Node) (n end byte : ℕ) (x : Node) (old : ReadSoFar) → IsFit nodes n around.Content fits.Chars → slice_get nodes n ≡ Some x →
    OfPart text nodes n end byte (λ parts at. content_limit parts at old ≡ None)
text_within text nodes n end byte x old fit is = λ f at more s some part.
    let t = text_part x.token (parts_of f) (token_is nodes n at f more x s.stands some is) (fit f at more s.stands some) in
    ap (λ p. content_limit (take_parts 1 p) at old) t.is ∙ (text_adds t.text t.rest at old).limit ∙ chars_within old.purpose old.depth old.marks (characters t.text)

-- ---- a leaf with its attributes

pub leaf_token : (text : List ℕ) (nodes : List Node) (n end byte : ℕ) (x : Node) (kind : Kind) (r : ReadSoFar) → SomePart text nodes n end byte → IsFit nodes n around.Content (fits.Leaf kind) → slice_get nodes n ≡ Some x →
    ((lends : Bor (List ℕ)) (attrs : AttrTokens) (span : Span) → x.token ≡ lent.StartTag lends attrs span → ⊥) → ⊥
leaf_token text nodes n end byte x kind r p fit is other =
    let l = leaf_part x.token (parts_of p.forest) p.at r kind (token_is nodes n p.at p.forest p.more x p.stands.stands p.some is) (fit p.forest p.at p.more p.stands.stands p.some) in
    no_tag x.token l.name l.attrs l.slash other l.shows

-- where the part stands
span_is : (text : List ℕ) (nodes : List Node) (n at : ℕ) (f : Forest) (more : List ForestNode) (end byte : ℕ) (x : Node) (r : ReadSoFar) → StandsIn text nodes n at f more → has_node f ≡ true → PartEnds text nodes n at f more end byte → slice_get nodes n ≡ Some x →
    record { from = x.span.from; to = byte } ≡ source_span (place_in r at) (first_source (parts_of f))
span_is text nodes n at f more end byte x r s some part is =
    let from = part_begins text nodes n at f more x s some is in
    let to = part.byte_is in
    λ j. record { from = from j; to = to j }

module _ (text : List ℕ) (nodes : List Node) (n end byte : ℕ) (x : Node) (kind : Kind) (name : Bor (List ℕ)) (attrs : AttrTokens) (span : Span) (head : Head) (old : ReadSoFar) (fit : IsFit nodes n around.Content (fits.Leaf kind)) (is : slice_get nodes n ≡ Some x)
    (tag : x.token ≡ lent.StartTag name attrs span) (heads : OfAttrs attrs head_with head) where
  leaf_is : (f : Forest) (at : ℕ) (more : List ForestNode) → StandsIn text nodes n at f more → has_node f ≡ true → PartEnds text nodes n at f more end byte →
      Adds (parts_of f) at old (leaf kind head old.marks (record { from = x.span.from; to = byte })) []
  leaf_is f at more s some part =
      let l = leaf_part x.token (parts_of f) at old kind (token_is nodes n at f more x s.stands some is) (fit f at more s.stands some) in
      let shown : ShowsToken (lent.StartTag name attrs span) (g.Start l.name l.attrs l.slash) = subst (λ (t : Token). ShowsToken t (g.Start l.name l.attrs l.slash)) tag l.shows in
      let head_is : head ≡ head_with l.attrs = heads l.attrs l.slash shown.1 in
      let spans = span_is text nodes n at f more end byte x old s some part is in
      subst (λ (p : Piece). Adds (parts_of f) at old p []) (sym (λ j. leaf kind (head_is j) old.marks (spans j))) l.adds_it

  pub leaf_read : (new : ReadSoFar) → new ≡ with_piece (leaf kind head old.marks (record { from = x.span.from; to = byte })) [] old → OfPart text nodes n end byte (λ parts at. new ≡ with_content parts at old)
  leaf_read new reads = λ f at more s some part. reads ∙ sym (leaf_is f at more s some part).read

  pub leaf_stops : {A : Type 0} (result : Result A ReadStop) → Stops result (deep_in old (leaf kind head old.marks (record { from = x.span.from; to = byte }))) → OfPart text nodes n end byte (λ parts at. Stops result (content_limit parts at old))
  leaf_stops result stops = λ f at more s some part. subst (Stops result) (sym (leaf_is f at more s some part).limit) stops

-- ---- a leaf that keeps its source

first_same : (p : Parts) → first_source (take_parts 1 p) ≡ first_source p
first_same Ended = refl
first_same (Words text rest) = refl
first_same (Note text rest) = refl
first_same (Group nodes rest) = refl
first_same (Single name attrs source rest) = refl
first_same (Parent name attrs children rest) = refl

module _ (text : List ℕ) (nodes : List Node) (n end byte : ℕ) (x : Node) (kind : Kind) (source : List ℕ) (head : Head) (old : ReadSoFar) (is : slice_get nodes n ≡ Some x) (sources : IsPartSource text nodes n end byte source) (heads : head ≡ whole_head source) where
  whole_leaf_is : (f : Forest) (at : ℕ) (more : List ForestNode) → StandsIn text nodes n at f more → has_node f ≡ true → PartEnds text nodes n at f more end byte →
      leaf kind head old.marks (record { from = x.span.from; to = byte }) ≡ whole_leaf kind (take_parts 1 (parts_of f)) at old
  whole_leaf_is f at more s some part =
      let whole = sources f at more s some part in
      let spans = span_is text nodes n at f more end byte x old s some part is in
      let first = first_same (parts_of f) in
      (λ j. leaf kind (heads j) old.marks (spans j))
      ∙ (λ j. leaf kind (whole_head (whole j)) old.marks (source_span (place_in old at) (first_source (parts_of f))))
      ∙ sym (λ j. leaf kind (whole_head (first j)) old.marks (source_span (place_in old at) (first j)))

  pub whole_leaf_read : (new : ReadSoFar) → new ≡ with_piece (leaf kind head old.marks (record { from = x.span.from; to = byte })) [] old → OfPart text nodes n end byte (λ parts at. new ≡ with_piece (whole_leaf kind parts at old) [] old)
  whole_leaf_read new reads = λ f at more s some part. reads ∙ ap (λ p. with_piece p [] old) (whole_leaf_is f at more s some part)

  pub whole_leaf_stops : {A : Type 0} (result : Result A ReadStop) → Stops result (deep_in old (leaf kind head old.marks (record { from = x.span.from; to = byte }))) → OfPart text nodes n end byte (λ parts at. Stops result (deep_in old (whole_leaf kind parts at old)))
  whole_leaf_stops result stops = λ f at more s some part. subst (λ p. Stops result (deep_in old p)) (whole_leaf_is f at more s some part) stops

-- it is what the part is, where that is no reference
module _ (text : List ℕ) (nodes : List Node) (n end byte : ℕ) (kind : Kind) (old : ReadSoFar) (fit : IsFit nodes n around.Content (fits.Whole kind)) where
  whole_is : (f : Forest) (at : ℕ) (more : List ForestNode) → StandsIn text nodes n at f more → has_node f ≡ true → NoReference (parts_of f) at old → Adds (parts_of f) at old (whole_leaf kind (take_parts 1 (parts_of f)) at old) []
  whole_is f at more s some plain = whole_adds (parts_of f) at old kind (parted f some) (fit f at more s.stands some) plain

  pub whole_read : (new : ReadSoFar) → (kind ≡ TransInline → ⊥) → OfPart text nodes n end byte (λ parts at. new ≡ with_piece (whole_leaf kind parts at old) [] old) → OfPart text nodes n end byte (λ parts at. new ≡ with_content parts at old)
  whole_read new other reads = λ f at more s some part.
      reads f at more s some part ∙ sym (whole_is f at more s some (not_generated (parts_of f) at old kind other (fit f at more s.stands some))).read

  pub whole_stops : {A : Type 0} (result : Result A ReadStop) → (kind ≡ TransInline → ⊥) → OfPart text nodes n end byte (λ parts at. Stops result (deep_in old (whole_leaf kind parts at old))) → OfPart text nodes n end byte (λ parts at. Stops result (content_limit parts at old))
  whole_stops result other stops = λ f at more s some part.
      subst (Stops result) (sym (whole_is f at more s some (not_generated (parts_of f) at old kind other (fit f at more s.stands some))).limit) (stops f at more s some part)

-- ---- a reference

-- its node is an element
pub claimed_token : (text : List ℕ) (nodes : List Node) (n : ℕ) (x : Node) → SomeElement text nodes n → slice_get nodes n ≡ Some x →
    ((lends : Bor (List ℕ)) (attrs : AttrTokens) (span : Span) → x.token ≡ lent.StartTag lends attrs span → ⊥) → ⊥
claimed_token text nodes n x e is other = no_tag x.token e.name e.attrs false other (element_token text nodes n e.at e.name e.attrs e.children e.rest e.more x e.stands is).1

some_owner : (key : RefKey) (html : Option (List ℕ)) → is_some (new_owner key html) ≡ is_some html
some_owner key None = refl
some_owner key (Some text) = refl

module _ (text : List ℕ) (nodes : List Node) (n byte : ℕ) (x : Node) (is : slice_get nodes n ≡ Some x) (name : Bor (List ℕ)) (attrs : AttrTokens) (span : Span) (tag : x.token ≡ lent.StartTag name attrs span)
    (inner : List ℕ) (inners : OfElement text nodes n (λ _ _ children _. inner ≡ spelling children)) (claim : Claim) (owner : Option NewOwner) (owners : owner ≡ new_owner claim.key claim.html)
    (owns : Bool) (owns_is : owns ≡ is_some owner) (head : Head) (heads : OfAttrs attrs (head_of_ref name.now inner claim.key owns) head) (old : ReadSoFar) where
  abbrev given_leaf : Piece
  given_leaf = leaf Ref head old.marks (record { from = x.span.from; to = byte })

  given_is : (tag_name : List ℕ) (list : List Attr) (children rest : Forest) (at : ℕ) (more : List ForestNode) → StandsIn text nodes n at (Element tag_name list children rest) more →
      given_leaf ≡ ref_leaf at byte (claimed_node at tag_name list children claim) old
  given_is tag_name list children rest at more s =
      let e = element_token text nodes n at tag_name list children rest more x s is in
      let shown : ShowsToken (lent.StartTag name attrs span) (g.Start tag_name list false) = subst (λ (t : Token). ShowsToken t (g.Start tag_name list false)) tag e.1 in
      let has : owns ≡ is_some claim.html = owns_is ∙ ap is_some owners ∙ some_owner claim.key claim.html in
      let source = inners tag_name list children rest at more s in
      let named = shown.0 in
      let from = e.0 in
      ap (λ h. leaf Ref h old.marks (record { from = x.span.from; to = byte })) (heads list false shown.1)
      ∙ (λ j. leaf Ref (head_of_ref (named j) (source j) claim.key (has j) list) old.marks (record { from = from j; to = byte }))

  pub claimed_read : (new : ReadSoFar) → new ≡ with_piece given_leaf (owned_at x.span.from owner) old → OfElement text nodes n (λ tag_name list children at. ReadsClaim claim byte old new tag_name list children at)
  claimed_read new reads = λ tag_name list children rest at more s.
      let piece = given_is tag_name list children rest at more s in
      let from = (element_token text nodes n at tag_name list children rest more x s is).0 in
      reads ∙ (λ j. with_piece (piece j) (owned_at (from j) (owners j)) old)

  pub claimed_stops : {A : Type 0} (result : Result A ReadStop) → Stops result (deep_in old given_leaf) →
      OfElement text nodes n (λ tag_name list children at. Stops result (claim_limit claim byte old tag_name list children at))
  claimed_stops result stops = λ tag_name list children rest at more s. subst (λ p. Stops result (deep_in old p)) (given_is tag_name list children rest at more s) stops

-- ---- generated groups

module _ (text : List ℕ) (nodes : List Node) (n end byte : ℕ) (old : ReadSoFar) (fit : IsFit nodes n around.Content (fits.Whole TransInline)) where
  -- where nothing is claimed for it
  no_claim : IsClaimed old nodes n end None → (f : Forest) (at : ℕ) (more : List ForestNode) → StandsIn text nodes n at f more → has_node f ≡ true → PartEnds text nodes n at f more end byte → NoReference (parts_of f) at old
  no_claim claims f at more s some part =
      let p = group_part (parts_of f) (parted f some) (fit f at more s.stands some) in
      let c = claims f p.nodes p.rest at more s.stands p.is (group_end text nodes n at f more end byte p.nodes p.rest part p.is) in
      subst (λ q. NoReference q at old) (sym p.is) (c.0 ∙ unclaimed at p.nodes)

  pub generated_read : (new : ReadSoFar) → IsClaimed old nodes n end None → OfPart text nodes n end byte (λ parts at. new ≡ with_piece (whole_leaf TransInline parts at old) [] old) → OfPart text nodes n end byte (λ parts at. new ≡ with_content parts at old)
  generated_read new claims reads = λ f at more s some part.
      reads f at more s some part ∙ sym (whole_is text nodes n end byte TransInline old fit f at more s some (no_claim claims f at more s some part)).read

  pub generated_stops : {A : Type 0} (result : Result A ReadStop) → IsClaimed old nodes n end None → OfPart text nodes n end byte (λ parts at. Stops result (deep_in old (whole_leaf TransInline parts at old))) → OfPart text nodes n end byte (λ parts at. Stops result (content_limit parts at old))
  generated_stops result claims stops = λ f at more s some part.
      subst (Stops result) (sym (whole_is text nodes n end byte TransInline old fit f at more s some (no_claim claims f at more s some part)).limit) (stops f at more s some part)

  -- The element that is claimed.
  record IsReference (f : Forest) (at : ℕ) (more : List ForestNode) (claim : Claim) : Type 0 where
    name : List ℕ
    attrs : List Attr
    children : Forest
    rest : Forest
    stands : StandsIn text nodes n at (Element name attrs children rest) more
    adds_it : Adds (parts_of f) at old (ref_leaf at byte (claimed_node at name attrs children claim) old) (claimed_node at name attrs children claim).owners

  reference_is : (claim : Claim) → IsClaimed old nodes n end (Some claim) → (f : Forest) (at : ℕ) (more : List ForestNode) → StandsIn text nodes n at f more → has_node f ≡ true → PartEnds text nodes n at f more end byte → IsReference f at more claim
  reference_is claim claims f at more s some part =
      let p = group_part (parts_of f) (parted f some) (fit f at more s.stands some) in
      let c = claims f p.nodes p.rest at more s.stands p.is (group_end text nodes n at f more end byte p.nodes p.rest part p.is) in
      let one = claimed_one p.nodes claim c.1 in
      let alone = stands_alone text nodes n at f more p.nodes p.rest s p.is one in
      let reference : RefNode = claimed_node at one.name one.attrs one.children claim in
      let found : ref_of (place_in old at) (Content old.marks) p.nodes ≡ Some reference = c.0 ∙ ap (λ y. claimed_group at y (Some claim)) one.is in
      let byte_is : byte ≡ at + length (spelling p.nodes) = part.byte_is ∙ ap (λ q. at + length (first_source q)) p.is in
      record {
        name = one.name;
        attrs = one.attrs;
        children = one.children;
        rest = alone.rest;
        stands = alone.stands;
        adds_it =
            subst (λ q. Adds q at old (ref_leaf at byte reference old) reference.owners) (sym p.is)
            (subst (λ b. Adds (Group p.nodes p.rest) at old (ref_leaf at b reference old) reference.owners) (sym byte_is) (ref_adds p.nodes p.rest at old reference found));
      }

  pub some_element : (claim : Claim) → IsClaimed old nodes n end (Some claim) → SomePart text nodes n end byte → SomeElement text nodes n
  some_element claim claims p =
      let r = reference_is claim claims p.forest p.at p.more p.stands p.some p.part in
      record { name = r.name; attrs = r.attrs; children = r.children; rest = r.rest; at = p.at; more = p.more; stands = r.stands }

  pub reference_read : (new : ReadSoFar) (claim : Claim) → IsClaimed old nodes n end (Some claim) → OfElement text nodes n (λ name attrs children at. ReadsClaim claim byte old new name attrs children at) →
      OfPart text nodes n end byte (λ parts at. new ≡ with_content parts at old)
  reference_read new claim claims reads = λ f at more s some part.
      let r = reference_is claim claims f at more s some part in
      reads r.name r.attrs r.children r.rest at more r.stands ∙ sym r.adds_it.read

  pub reference_stops : {A : Type 0} (result : Result A ReadStop) (claim : Claim) → IsClaimed old nodes n end (Some claim) →
      OfElement text nodes n (λ name attrs children at. Stops result (claim_limit claim byte old name attrs children at)) → OfPart text nodes n end byte (λ parts at. Stops result (content_limit parts at old))
  reference_stops result claim claims stops = λ f at more s some part.
      let r = reference_is claim claims f at more s some part in
      subst (Stops result) (sym r.adds_it.limit) (stops r.name r.attrs r.children r.rest at more r.stands)

-- ---- fits that no part of content has

pub never : (text : List ℕ) (nodes : List Node) (n end byte : ℕ) (f : Fit) → SomePart text nodes n end byte → IsFit nodes n around.Content f → is_content_fit f ≡ true
never text nodes n end byte f p fit = ap is_content_fit (fit p.forest p.at p.more p.stands.stands p.some) ∙ content_fits (parts_of p.forest) (parted p.forest p.some)
