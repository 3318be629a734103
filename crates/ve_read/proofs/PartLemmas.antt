-- The first part of content, by its fit: characters, a leaf, or an annotation.
use Rattle.std.proofs.Common.{◌≡◌, ℕ, ◌+◌, Bool, true, false, not, ◌&&◌, if◌then◌else◌, List, [], ◌∷◌, Option, Some, None, refl, sym, ap, ◌∙◌, subst, append-nil, true≢false}
use Rattle.std.specs.Prelude.{slice_get, option_map, codes}
use Rattle.std.specs.List.{list_any}
use Rattle.std.proofs.lemmas.Bool.{or_parts}
use Rattle.std.proofs.lemmas.Slice.Eq.{bytes_eq-Decides}
use Rattle.std.specs.Borrow.{Bor}
use Rattle.model_spelling.specs.Grammar as g
use Rattle.model_spelling.specs.Grammar.{Attr, Comment, token_text, begins_with}
use Rattle.model_spelling.specs.Forest.{Forest, Nothing, Text, Remark, Void, RawElement, Element, spelling}
use Rattle.model_spelling.specs.ForestNodes.{ForestNode, forest_size}
use Rattle.ve_base.specs.declared.marks.Mark.{Mark}
use Rattle.ve_kinds.specs.declared.kind.Kind.{Kind}
use Rattle.ve_kinds.specs.declared.kind.Kind.TheVariants.{Root, P, H1, H2, H3, H4, H5, H6, Pre, Section, Li, Dt, Dd, Blockquote, Div, Td, Th, Caption, InternalItem, Ul, Ol, Dl, Table, Thead, Tbody, Tfoot, Tr, InternalList, TransBlock, AlienBlock, Br, Img, Ref, TransInline, AlienInline}
use Rattle.ve_kinds.specs.Table.{is_inline_leaf}
use Rattle.ve_kinds.specs.Tags.{kind_of_tag, is_one_of}
use Rattle.model_page.specs.Elements.{is_held, about_of, has_type, words_in, value_named, is_generator, is_reference_type, is_transclusion}
use Rattle.model_page.specs.Tags.{is_annotation_tag}
use Rattle.model_page.specs.Parts.{Parts, Ended, Words, Note, Group, Single, Parent, with_held, parts_of}
use Rattle.model_page.specs.Fit as model
use Rattle.model_page.specs.Fit.{Content, fit_in_content, has_child, whole_kind, is_generated}
use Rattle.model_page.specs.Heads.{characters, head_with, whole_head}
use Rattle.model_page.specs.Pieces.{Piece, Owner, Made, Progress, past, source_span, leaf, chars_piece, in_run, leaf_before}
use Rattle.model_page.specs.ReferenceNodes.{RefNode, may_be_reference, ref_of}
use Rattle.model_page.specs.Convert.{made_of, element_source, leaf_made, element_made, group_made}
use Rattle.model_page.specs.Limits.{Limit, TooManyMarks, earlier}
use Rattle.ve_html_scan.specs.Shown.{ShowsToken}
use Rattle.ve_html_scan.specs.declared.attr_tokens.AttrTokens.{AttrTokens}
use Rattle.ve_html_scan.specs.declared.token.Span.{Span}
use Rattle.ve_html_scan.specs.declared.token.Token.{Token}
use Rattle.ve_html_scan.specs.declared.token.Token.TheVariants as lent
use Rattle.ve_html_tree.specs.declared.node.Node.{Node}
use Rattle.ve_classify.specs.Standing.{Stands, has_node}
use Rattle.ve_classify.specs.Fits.{first_fit, same_fit}
use Rattle.ve_classify.specs.declared.around.Fit.{Fit}
use Rattle.ve_classify.specs.declared.around.Fit.TheVariants as fits
use Rattle.ve_classify.proofs.StandLemmas.{first_of, first_token}
use Rattle.ve_classify.proofs.GroupLemmas.{FirstElement, begun, void_first, raw_first, element_first}
use Rattle.ve_classify.specs.FirstPart.{has_part, first_source, take_parts}
use Rattle.ve_classify.specs.Marked.{first_marked, element_marked}
use Rattle.ve_classify.proofs.RunLemmas.{leaf_inline, fit_inline, content_inline, single_inline}
use Rattle.ve_reader.specs.ReadSoFar.{ReadSoFar, place_in, with_piece}
use Rattle.ve_reader.specs.Stops.{deep_in}
use Rattle.ve_read.specs.Content.{content_made, with_content, content_limit, whole_leaf}
use Rattle.ve_read.proofs.ContentTurns.{joined_none, alone_marked}

-- ---- what the first token says

-- the first token, by what it begins; of a group this says nothing
abbrev pub TokenIs : Token → Parts → Type 0
TokenIs t Ended = ⊥
TokenIs t (Words text rest) = ShowsToken t (g.Chars text)
TokenIs t (Note text rest) = Unit {0}
TokenIs t (Group nodes rest) = Unit {0}
TokenIs t (Single name attrs source rest) = (slash : Bool) × ShowsToken t (g.Start name attrs slash)
TokenIs t (Parent name attrs children rest) = ShowsToken t (g.Start name attrs false)

held_is : (t : Token) (held : Bool) (about : Option (List ℕ)) (element : Forest → Forest) (n : ℕ) → FirstElement element about n → (later other : Parts) → TokenIs t other
    → TokenIs t (if held then with_held about element later else other)
held_is t true about element n first later other h = let b = begun about element n first later in subst (TokenIs t) (sym b.is) tt
held_is t false about element n first later other h = h

token_by : (t : Token) (f : Forest) → has_node f ≡ true → ShowsToken t (first_token f) → TokenIs t (parts_of f)
token_by t Nothing e s = absurd cc
token_by t (Text text rest) e s = s
token_by t (Remark text rest) e s = tt
token_by t (Void name attrs slash rest) e s = held_is t (is_held attrs) (about_of attrs) (Void name attrs slash) 1 (void_first name attrs slash) (parts_of rest) _ (slash, s)
token_by t (RawElement name attrs text rest) e s =
    held_is t (is_held attrs) (about_of attrs) (RawElement name attrs text) (forest_size (RawElement name attrs text Nothing)) (raw_first name attrs text) (parts_of rest) _ (false, s)
token_by t (Element name attrs children rest) e s =
    held_is t (is_held attrs) (about_of attrs) (Element name attrs children) (1 + forest_size children) (element_first name attrs children) (parts_of rest) _ s

pub token_is : (nodes : List Node) (n at : ℕ) (f : Forest) (more : List ForestNode) (x : Node) → Stands nodes n at f more → has_node f ≡ true → slice_get nodes n ≡ Some x → TokenIs x.token (parts_of f)
token_is nodes n at f more x s some is =
    let first = first_of nodes n at f more some s.shown in
    let same : first.node ≡ x = cc (first.is, is) in
    token_by x.token f some (subst (λ (y : Node). ShowsToken y.token (first_token f)) same first.token)

pub no_text : (t : Token) (text : List ℕ) → ((lends : Bor (List ℕ)) (span : Span) → t ≡ lent.Chars lends span → ⊥) → ShowsToken t (g.Chars text) → ⊥
no_text (lent.Chars lends span) text other s = other lends span refl
no_text (lent.StartTag name attrs span) text other s = s
no_text (lent.EndTag name span) text other s = s
no_text (lent.Raw lends span) text other s = s
no_text (lent.Comment lends span) text other s = s

pub no_tag : (t : Token) (name : List ℕ) (list : List Attr) (slash : Bool) → ((lends : Bor (List ℕ)) (attrs : AttrTokens) (span : Span) → t ≡ lent.StartTag lends attrs span → ⊥)
    → ShowsToken t (g.Start name list slash) → ⊥
no_tag (lent.StartTag lends attrs span) name list slash other s = other lends attrs span refl
no_tag (lent.Chars lends span) name list slash other s = s
no_tag (lent.EndTag lends span) name list slash other s = s
no_tag (lent.Raw lends span) name list slash other s = s
no_tag (lent.Comment lends span) name list slash other s = s

-- ---- fits

leaf_fit : (f : model.Fit) (k : Kind) → same_fit f ≡ fits.Leaf k → f ≡ model.Leaf k
leaf_fit model.Annotation k e = absurd cc
leaf_fit (model.Leaf j) k e = cc
leaf_fit (model.Branch j) k e = absurd cc
leaf_fit (model.Whole j) k e = absurd cc

whole_fit : (f : model.Fit) (k : Kind) → same_fit f ≡ fits.Whole k → f ≡ model.Whole k
whole_fit model.Annotation k e = absurd cc
whole_fit (model.Leaf j) k e = absurd cc
whole_fit (model.Branch j) k e = absurd cc
whole_fit (model.Whole j) k e = cc

marks_fit : (f : model.Fit) → same_fit f ≡ fits.Annotation → f ≡ model.Annotation
marks_fit model.Annotation e = refl
marks_fit (model.Leaf j) e = absurd cc
marks_fit (model.Branch j) e = absurd cc
marks_fit (model.Whole j) e = absurd cc

-- an element that isn't held, where it is kept whole, is an inline alien
abbrev IsAlien : model.Fit → Type 0
IsAlien model.Annotation = Unit {0}
IsAlien (model.Leaf k) = Unit {0}
IsAlien (model.Branch k) = Unit {0}
IsAlien (model.Whole k) = k ≡ AlienInline

marked_alien : (b : Bool) → IsAlien (if b then model.Annotation else model.Whole AlienInline)
marked_alien true = tt
marked_alien false = refl

content_alien : (name : List ℕ) (children : Parts) (kind : Option Kind) → IsAlien (fit_in_content name children kind)
content_alien name children None = marked_alien (is_annotation_tag name && has_child children)
content_alien name children (Some Root) = marked_alien (is_annotation_tag name && has_child children)
content_alien name children (Some P) = marked_alien (is_annotation_tag name && has_child children)
content_alien name children (Some H1) = marked_alien (is_annotation_tag name && has_child children)
content_alien name children (Some H2) = marked_alien (is_annotation_tag name && has_child children)
content_alien name children (Some H3) = marked_alien (is_annotation_tag name && has_child children)
content_alien name children (Some H4) = marked_alien (is_annotation_tag name && has_child children)
content_alien name children (Some H5) = marked_alien (is_annotation_tag name && has_child children)
content_alien name children (Some H6) = marked_alien (is_annotation_tag name && has_child children)
content_alien name children (Some Pre) = marked_alien (is_annotation_tag name && has_child children)
content_alien name children (Some Section) = marked_alien (is_annotation_tag name && has_child children)
content_alien name children (Some Li) = marked_alien (is_annotation_tag name && has_child children)
content_alien name children (Some Dt) = marked_alien (is_annotation_tag name && has_child children)
content_alien name children (Some Dd) = marked_alien (is_annotation_tag name && has_child children)
content_alien name children (Some Blockquote) = marked_alien (is_annotation_tag name && has_child children)
content_alien name children (Some Div) = marked_alien (is_annotation_tag name && has_child children)
content_alien name children (Some Td) = marked_alien (is_annotation_tag name && has_child children)
content_alien name children (Some Th) = marked_alien (is_annotation_tag name && has_child children)
content_alien name children (Some Caption) = marked_alien (is_annotation_tag name && has_child children)
content_alien name children (Some InternalItem) = marked_alien (is_annotation_tag name && has_child children)
content_alien name children (Some Ul) = marked_alien (is_annotation_tag name && has_child children)
content_alien name children (Some Ol) = marked_alien (is_annotation_tag name && has_child children)
content_alien name children (Some Dl) = marked_alien (is_annotation_tag name && has_child children)
content_alien name children (Some Table) = marked_alien (is_annotation_tag name && has_child children)
content_alien name children (Some Thead) = marked_alien (is_annotation_tag name && has_child children)
content_alien name children (Some Tbody) = marked_alien (is_annotation_tag name && has_child children)
content_alien name children (Some Tfoot) = marked_alien (is_annotation_tag name && has_child children)
content_alien name children (Some Tr) = marked_alien (is_annotation_tag name && has_child children)
content_alien name children (Some InternalList) = marked_alien (is_annotation_tag name && has_child children)
content_alien name children (Some TransBlock) = marked_alien (is_annotation_tag name && has_child children)
content_alien name children (Some AlienBlock) = marked_alien (is_annotation_tag name && has_child children)
content_alien name children (Some Br) = tt
content_alien name children (Some Img) = tt
content_alien name children (Some Ref) = marked_alien (is_annotation_tag name && has_child children)
content_alien name children (Some TransInline) = marked_alien (is_annotation_tag name && has_child children)
content_alien name children (Some AlienInline) = marked_alien (is_annotation_tag name && has_child children)

-- what a part of content may be
abbrev pub is_content_fit : Fit → Bool
is_content_fit fits.White = false
is_content_fit fits.Chars = true
is_content_fit fits.Annotation = true
is_content_fit (fits.Leaf k) = true
is_content_fit (fits.Branch k) = false
is_content_fit (fits.Whole k) = true
is_content_fit fits.Inline = false

element_fits : (f : model.Fit) → fit_inline f ≡ true → is_content_fit (same_fit f) ≡ true
element_fits model.Annotation e = refl
element_fits (model.Leaf k) e = refl
element_fits (model.Branch k) e = absurd cc
element_fits (model.Whole k) e = refl

pub content_fits : (parts : Parts) → has_part parts ≡ true → is_content_fit (first_fit (Content []) parts) ≡ true
content_fits Ended e = absurd cc
content_fits (Words text rest) e = refl
content_fits (Note text rest) e = refl
content_fits (Group nodes rest) e = refl
content_fits (Single name attrs source rest) e = element_fits (fit_in_content name Ended (kind_of_tag name)) (content_inline name Ended (kind_of_tag name))
content_fits (Parent name attrs children rest) e = element_fits (fit_in_content name children (kind_of_tag name)) (content_inline name children (kind_of_tag name))

-- ---- a part that is one leaf, or characters

earlier_none : (deep : Option Limit) → earlier deep None ≡ deep
earlier_none None = refl
earlier_none (Some l) = refl

-- The part adds a piece, and no annotation is in it.
pub record Adds (parts : Parts) (at : ℕ) (r : ReadSoFar) (piece : Piece) (owners : List Owner) : Type 0 where
  pub read : with_content (take_parts 1 parts) at r ≡ with_piece piece owners r
  pub limit : content_limit (take_parts 1 parts) at r ≡ deep_in r piece

pub adds : (parts : Parts) (at : ℕ) (r : ReadSoFar) (piece : Piece) (source : List ℕ) (owners : List Owner)
    → content_made (take_parts 1 parts) at r ≡ in_run piece source owners (made_of (Content r.marks) Ended (past (place_in r at) source owners))
    → first_marked (Content r.marks) parts at ≡ None → Adds parts at r piece owners
adds parts at r piece source owners e m =
    let one = joined_none piece in
    let all = append-nil owners in
    let deep = ap (λ (m : Made). deep_in r m.run) e ∙ ap (deep_in r) one in
    let marked = ap (option_map (λ n. TooManyMarks n)) (alone_marked r.marks parts at ∙ m) in
    record {
      read = ap (λ (m : Made). with_piece m.run m.owners r) e ∙ (λ j. with_piece (one j) (all j) r);
      limit = (λ j. earlier (deep j) (marked j)) ∙ earlier_none (deep_in r piece);
    }

-- a leaf by its fit
leaf_alone : (attrs : List Attr) (source : List ℕ) (at : ℕ) (r : ReadSoFar) (f : model.Fit) (k : Kind) → f ≡ model.Leaf k → is_inline_leaf k ≡ true
    → leaf_made (Content r.marks) attrs source (made_of (Content r.marks) Ended) (place_in r at) f
    ≡ in_run (leaf k (head_with attrs) r.marks (source_span (place_in r at) source)) source [] (made_of (Content r.marks) Ended (past (place_in r at) source []))
leaf_alone attrs source at r f k e i = ap (leaf_made (Content r.marks) attrs source (made_of (Content r.marks) Ended) (place_in r at)) e ∙ rw i refl

whole_alone : (attrs : List Attr) (source : List ℕ) (at : ℕ) (r : ReadSoFar) (f : model.Fit) (k : Kind) → f ≡ model.Whole k → is_inline_leaf k ≡ true
    → leaf_made (Content r.marks) attrs source (made_of (Content r.marks) Ended) (place_in r at) f
    ≡ in_run (leaf k (whole_head source) r.marks (source_span (place_in r at) source)) source [] (made_of (Content r.marks) Ended (past (place_in r at) source []))
whole_alone attrs source at r f k e i = ap (leaf_made (Content r.marks) attrs source (made_of (Content r.marks) Ended) (place_in r at)) e ∙ rw i refl

-- ---- characters

no_chars : (f : model.Fit) → fits.Chars ≡ same_fit f → ⊥
no_chars model.Annotation e = cc
no_chars (model.Leaf k) e = cc
no_chars (model.Branch k) e = cc
no_chars (model.Whole k) e = cc

-- A text.
pub record TextPart (t : Token) (parts : Parts) : Type 0 where
  pub text : List ℕ
  pub rest : Parts
  pub is : parts ≡ Words text rest
  pub shows : ShowsToken t (g.Chars text)

pub text_part : (t : Token) (parts : Parts) → TokenIs t parts → fits.Chars ≡ first_fit (Content []) parts → TextPart t parts
text_part t Ended s e = absurd s
text_part t (Words text rest) s e = record { text = text; rest = rest; is = refl; shows = s }
text_part t (Note text rest) s e = absurd cc
text_part t (Group nodes rest) s e = absurd cc
text_part t (Single name attrs source rest) s e = absurd (no_chars (fit_in_content name Ended (kind_of_tag name)) e)
text_part t (Parent name attrs children rest) s e = absurd (no_chars (fit_in_content name children (kind_of_tag name)) e)

pub text_adds : (text : List ℕ) (rest : Parts) (at : ℕ) (r : ReadSoFar) → Adds (Words text rest) at r (chars_piece r.marks (characters text)) []
text_adds text rest at r = adds (Words text rest) at r (chars_piece r.marks (characters text)) text [] refl refl

-- ---- a leaf with its attributes

-- A tag of `br` or `img`.
pub record LeafPart (t : Token) (parts : Parts) (at : ℕ) (r : ReadSoFar) (kind : Kind) : Type 0 where
  pub name : List ℕ
  pub attrs : List Attr
  pub slash : Bool
  pub shows : ShowsToken t (g.Start name attrs slash)
  pub adds_it : Adds parts at r (leaf kind (head_with attrs) r.marks (source_span (place_in r at) (first_source parts))) []

pub leaf_part : (t : Token) (parts : Parts) (at : ℕ) (r : ReadSoFar) (k : Kind) → TokenIs t parts → fits.Leaf k ≡ first_fit (Content []) parts → LeafPart t parts at r k
leaf_part t Ended at r k s e = absurd s
leaf_part t (Words text rest) at r k s e = absurd cc
leaf_part t (Note text rest) at r k s e = absurd cc
leaf_part t (Group nodes rest) at r k s e = absurd cc
leaf_part t (Single name attrs source rest) at r k s e =
    let f : model.Fit = fit_in_content name Ended (kind_of_tag name) in
    let is = leaf_fit f k (sym e) in
    let inline : is_inline_leaf k ≡ true = ap leaf_inline (sym is) ∙ single_inline name (kind_of_tag name) in
    let piece : Piece = leaf k (head_with attrs) r.marks (source_span (place_in r at) source) in
    record { name = name; attrs = attrs; slash = s.0; shows = s.1; adds_it = adds (Single name attrs source rest) at r piece source [] (leaf_alone attrs source at r f k is inline) refl }
leaf_part t (Parent name attrs children rest) at r k s e =
    let source : List ℕ = element_source name attrs children in
    let f : model.Fit = fit_in_content name children (kind_of_tag name) in
    let is = leaf_fit f k (sym e) in
    let inline : is_inline_leaf k ≡ true = ap fit_inline (sym is) ∙ content_inline name children (kind_of_tag name) in
    let piece : Piece = leaf k (head_with attrs) r.marks (source_span (place_in r at) source) in
    let made = ap (element_made (Content r.marks) name attrs source (λ a. made_of a children) (made_of (Content r.marks) Ended) (place_in r at)) is ∙ leaf_alone attrs source at r (model.Leaf k) k refl inline in
    record {
      name = name;
      attrs = attrs;
      slash = false;
      shows = s;
      adds_it = adds (Parent name attrs children rest) at r piece source [] made (ap (element_marked (Content r.marks) name attrs children at) is);
    }

-- ---- a leaf that keeps its source

-- the part is no reference
abbrev pub NoReference : Parts → ℕ → ReadSoFar → Type 0
NoReference Ended at r = Unit {0}
NoReference (Words text rest) at r = Unit {0}
NoReference (Note text rest) at r = Unit {0}
NoReference (Group nodes rest) at r = ref_of (place_in r at) (Content r.marks) nodes ≡ None
NoReference (Single name attrs source rest) at r = Unit {0}
NoReference (Parent name attrs children rest) at r = Unit {0}

whole_same : (j k : Kind) → fits.Whole k ≡ fits.Whole j → k ≡ j
whole_same j k e = cc

whole_before : (at : ℕ) (r : ReadSoFar) (source : List ℕ) (k : Kind) → is_inline_leaf k ≡ true
    → leaf_before (place_in r at) k (whole_head source) r.marks source [] (made_of (Content r.marks) Ended (past (place_in r at) source []))
    ≡ in_run (leaf k (whole_head source) r.marks (source_span (place_in r at) source)) source [] (made_of (Content r.marks) Ended (past (place_in r at) source []))
whole_before at r source k i = rw i refl

group_inline : (generated : Bool) → is_inline_leaf (whole_kind generated true) ≡ true
group_inline true = refl
group_inline false = refl

pub whole_adds : (parts : Parts) (at : ℕ) (r : ReadSoFar) (k : Kind) → has_part parts ≡ true → fits.Whole k ≡ first_fit (Content []) parts → NoReference parts at r
    → Adds parts at r (whole_leaf k (take_parts 1 parts) at r) []
whole_adds Ended at r k h e plain = absurd cc
whole_adds (Words text rest) at r k h e plain = absurd cc
whole_adds (Note text rest) at r k h e plain =
    let source : List ℕ = token_text (Comment text) in
    let is : k ≡ AlienInline = whole_same AlienInline k e in
    adds (Note text rest) at r (leaf k (whole_head source) r.marks (source_span (place_in r at) source)) source []
    (ap (λ j. leaf_before (place_in r at) j (whole_head source) r.marks source [] (made_of (Content r.marks) Ended (past (place_in r at) source []))) (sym is)
    ∙ whole_before at r source k (ap is_inline_leaf is))
    refl
whole_adds (Group nodes rest) at r k h e plain =
    let source : List ℕ = spelling nodes in
    let is : k ≡ whole_kind (is_generated nodes) true = whole_same (whole_kind (is_generated nodes) true) k e in
    adds (Group nodes rest) at r (leaf k (whole_head source) r.marks (source_span (place_in r at) source)) source []
    (ap (group_made (Content r.marks) nodes (made_of (Content r.marks) Ended) (place_in r at)) plain
    ∙ ap (λ j. leaf_before (place_in r at) j (whole_head source) r.marks source [] (made_of (Content r.marks) Ended (past (place_in r at) source []))) (sym is)
    ∙ whole_before at r source k (ap is_inline_leaf is ∙ group_inline (is_generated nodes)))
    refl
whole_adds (Single name attrs source rest) at r k h e plain =
    let f : model.Fit = fit_in_content name Ended (kind_of_tag name) in
    let is = whole_fit f k (sym e) in
    let inline : is_inline_leaf k ≡ true = ap leaf_inline (sym is) ∙ single_inline name (kind_of_tag name) in
    adds (Single name attrs source rest) at r (leaf k (whole_head source) r.marks (source_span (place_in r at) source)) source [] (whole_alone attrs source at r f k is inline) refl
whole_adds (Parent name attrs children rest) at r k h e plain =
    let source : List ℕ = element_source name attrs children in
    let f : model.Fit = fit_in_content name children (kind_of_tag name) in
    let is = whole_fit f k (sym e) in
    let inline : is_inline_leaf k ≡ true = ap fit_inline (sym is) ∙ content_inline name children (kind_of_tag name) in
    let made = ap (element_made (Content r.marks) name attrs source (λ a. made_of a children) (made_of (Content r.marks) Ended) (place_in r at)) is ∙ whole_alone attrs source at r (model.Whole k) k refl inline in
    adds (Parent name attrs children rest) at r (leaf k (whole_head source) r.marks (source_span (place_in r at) source)) source [] made
    (ap (element_marked (Content r.marks) name attrs children at) is)

-- ---- generated groups

any_none : (f g : List ℕ → Bool) → ((word : List ℕ) → g word ≡ false → f word ≡ false) → (words : List (List ℕ)) → list_any g words ≡ false → list_any f words ≡ false
any_none f g h [] e = refl
any_none f g h (word ∷ words) e =
    let p = or_parts (g word) (list_any g words) e in
    rw (h word p.0, any_none f g h words p.1) refl

-- the type of references is one of what is generated
not_reference : (word : List ℕ) → is_generator word ≡ false → is_reference_type word ≡ false
unfolding begins_with
not_reference word e = by (is_reference_type word) refl
  where
    by : (b : Bool) → is_reference_type word ≡ b → b ≡ false
    by false is = refl
    by true is =
        let same : word ≡ codes "mw:Extension/ref" = (bytes_eq-Decides word (codes "mw:Extension/ref")).0 is in
        absurd (true≢false (sym (ap is_generator same) ∙ e))

and_false : (a : Bool) → (a && false) ≡ false
and_false true = refl
and_false false = refl

no_reference : (w : Progress) (marks : List Mark) (name : List ℕ) (attrs : List Attr) → has_type is_reference_type attrs ≡ false → may_be_reference w (Content marks) name attrs ≡ false
no_reference w marks name attrs e =
    let tagged = w.editable && is_one_of (codes "sup" ∷ codes "span" ∷ []) name in
    ap (λ (b : Bool). tagged && b && not (has_type is_transclusion attrs)) e ∙ ap (λ (b : Bool). b && not (has_type is_transclusion attrs)) (and_false tagged)

no_group : (w : Progress) (marks : List Mark) (nodes : Forest) → is_generated nodes ≡ false → ref_of w (Content marks) nodes ≡ None
no_group w marks Nothing e = refl
no_group w marks (Text t rest) e = refl
no_group w marks (Remark t rest) e = refl
no_group w marks (Void name attrs slash rest) e = refl
no_group w marks (RawElement name attrs t rest) e = refl
no_group w marks (Element name attrs children Nothing) e =
    let typed = (or_parts (has_type is_generator attrs) false e).0 in
    rw (no_reference w marks name attrs (any_none is_reference_type is_generator not_reference (words_in (value_named (codes "typeof") attrs)) typed)) refl
no_group w marks (Element name attrs children (Text t rest)) e = refl
no_group w marks (Element name attrs children (Remark t rest)) e = refl
no_group w marks (Element name attrs children (Void m a s rest)) e = refl
no_group w marks (Element name attrs children (RawElement m a t rest)) e = refl
no_group w marks (Element name attrs children (Element m a c rest)) e = refl

-- what isn't generated is no reference
pub not_generated : (parts : Parts) (at : ℕ) (r : ReadSoFar) (k : Kind) → (k ≡ TransInline → ⊥) → fits.Whole k ≡ first_fit (Content []) parts → NoReference parts at r
not_generated Ended at r k other e = tt
not_generated (Words text rest) at r k other e = tt
not_generated (Note text rest) at r k other e = tt
not_generated (Group nodes rest) at r k other e = by (is_generated nodes) refl
  where
    by : (b : Bool) → is_generated nodes ≡ b → ref_of (place_in r at) (Content r.marks) nodes ≡ None
    by false is = no_group (place_in r at) r.marks nodes is
    by true is = absurd (other (whole_same (whole_kind (is_generated nodes) true) k e ∙ ap (λ b. whole_kind b true) is))
not_generated (Single name attrs source rest) at r k other e = tt
not_generated (Parent name attrs children rest) at r k other e = tt

-- A group.
pub record GroupPart (parts : Parts) : Type 0 where
  pub nodes : Forest
  pub rest : Parts
  pub is : parts ≡ Group nodes rest

alien_trans : TransInline ≡ AlienInline → ⊥
alien_trans e = cc

no_element : (name : List ℕ) (children : Parts) → fits.Whole TransInline ≡ same_fit (fit_in_content name children (kind_of_tag name)) → ⊥
no_element name children e =
    let f : model.Fit = fit_in_content name children (kind_of_tag name) in
    alien_trans (subst IsAlien (whole_fit f TransInline (sym e)) (content_alien name children (kind_of_tag name)))

-- what is generated is a group
pub group_part : (parts : Parts) → has_part parts ≡ true → fits.Whole TransInline ≡ first_fit (Content []) parts → GroupPart parts
group_part Ended h e = absurd cc
group_part (Words text rest) h e = absurd cc
group_part (Note text rest) h e = absurd (alien_trans (whole_same AlienInline TransInline e))
group_part (Group nodes rest) h e = record { nodes = nodes; rest = rest; is = refl }
group_part (Single name attrs source rest) h e = absurd (no_element name Ended e)
group_part (Parent name attrs children rest) h e = absurd (no_element name children e)

-- a group that is a reference
pub ref_adds : (nodes : Forest) (rest : Parts) (at : ℕ) (r : ReadSoFar) (reference : RefNode) → ref_of (place_in r at) (Content r.marks) nodes ≡ Some reference
    → Adds (Group nodes rest) at r (leaf Ref reference.head r.marks (source_span (place_in r at) (spelling nodes))) reference.owners
ref_adds nodes rest at r reference e =
    adds (Group nodes rest) at r (leaf Ref reference.head r.marks (source_span (place_in r at) (spelling nodes))) (spelling nodes) reference.owners
    (ap (group_made (Content r.marks) nodes (made_of (Content r.marks) Ended) (place_in r at)) e) refl

-- ---- annotations

-- An element that marks what is in it.
pub record MarkPart (t : Token) (parts : Parts) : Type 0 where
  pub name : List ℕ
  pub attrs : List Attr
  pub children : Parts
  pub rest : Parts
  pub is : parts ≡ Parent name attrs children rest
  pub shows : ShowsToken t (g.Start name attrs false)
  pub fit : fit_in_content name children (kind_of_tag name) ≡ model.Annotation

pub mark_part : (t : Token) (parts : Parts) → TokenIs t parts → fits.Annotation ≡ first_fit (Content []) parts → MarkPart t parts
mark_part t Ended s e = absurd s
mark_part t (Words text rest) s e = absurd cc
mark_part t (Note text rest) s e = absurd cc
mark_part t (Group nodes rest) s e = absurd cc
mark_part t (Single name attrs source rest) s e =
    let is = marks_fit (fit_in_content name Ended (kind_of_tag name)) (sym e) in
    let inline : leaf_inline model.Annotation ≡ true = ap leaf_inline (sym is) ∙ single_inline name (kind_of_tag name) in
    absurd cc
mark_part t (Parent name attrs children rest) s e =
    record { name = name; attrs = attrs; children = children; rest = rest; is = refl; shows = s; fit = marks_fit (fit_in_content name children (kind_of_tag name)) (sym e) }

-- the element is one of the forest
pub record MarkForest (f : Forest) (name : List ℕ) (attrs : List Attr) (children : Parts) : Type 0 where
  pub kids : Forest
  pub rest : Forest
  pub is : f ≡ Element name attrs kids rest
  pub children_are : children ≡ parts_of kids

parent_by : (held : Bool) (about : Option (List ℕ)) (element : Forest → Forest) (n : ℕ) → FirstElement element about n → (after other : Parts) (name : List ℕ) (attrs : List Attr) (children rest : Parts)
    → (if held then with_held about element after else other) ≡ Parent name attrs children rest → other ≡ Parent name attrs children rest
parent_by true about element n first after other name attrs children rest e =
    let b = begun about element n first after in
    let g : Group b.nodes b.later ≡ Parent name attrs children rest = sym b.is ∙ e in
    absurd cc
parent_by false about element n first after other name attrs children rest e = e

pub mark_forest : (f : Forest) (name : List ℕ) (attrs : List Attr) (children rest : Parts) → parts_of f ≡ Parent name attrs children rest → MarkForest f name attrs children
mark_forest Nothing name attrs children rest e = absurd cc
mark_forest (Text t later) name attrs children rest e = absurd cc
mark_forest (Remark t later) name attrs children rest e = absurd cc
mark_forest (Void m a s later) name attrs children rest e =
    let o = parent_by (is_held a) (about_of a) (Void m a s) 1 (void_first m a s) (parts_of later) _ name attrs children rest e in absurd cc
mark_forest (RawElement m a t later) name attrs children rest e =
    let o = parent_by (is_held a) (about_of a) (RawElement m a t) (forest_size (RawElement m a t Nothing)) (raw_first m a t) (parts_of later) _ name attrs children rest e in absurd cc
mark_forest (Element m a kids later) name attrs children rest e =
    let o : Parent m a (parts_of kids) (parts_of later) ≡ Parent name attrs children rest = parent_by (is_held a) (about_of a) (Element m a kids) (1 + forest_size kids) (element_first m a kids) (parts_of later) _ name attrs children rest e in
    record { kids = kids; rest = later; is = cc; children_are = cc }
