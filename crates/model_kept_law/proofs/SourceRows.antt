-- At every depth the span of a node is its source, and its source is known where it holds nothing
-- that is kept whole.
use Rattle.std.proofs.Common.{◌≡◌, ℕ, ◌+◌, ◌-◌, Bool, true, false, if◌then◌else◌, List, [], ◌∷◌, ◌++◌, length, map, Option, Some, None, refl, sym, ap, ◌∙◌, subst, append_assoc, append-nil, length-append, arith, ◌⊎◌, inl, inr}
use Rattle.std.proofs.lemmas.List.{take_at, drop_at}
use Rattle.std.specs.Prelude.{chars, encode_utf8_all, take}
use Rattle.model_spelling.specs.Grammar.{Attr as Spelled, Comment, token_text, start_text, end_text}
use Rattle.model_spelling.specs.Forest.{Forest, spelling}
use Rattle.ve_kinds.specs.Tags.{kind_of_tag}
use Rattle.ve_kinds.specs.declared.kind.Kind.{Kind}
use Rattle.ve_kinds.specs.declared.kind.Kind.TheVariants.{P, Ref, AlienInline, AlienBlock}
use Rattle.ve_kinds.specs.Table.{is_leaf, is_inline_leaf}
use Rattle.ve_base.specs.declared.marks.Mark.{Mark}
use Rattle.ve_base.specs.declared.head.Head.{Head}
use Rattle.ve_base.specs.Empty.{empty_head}
use Rattle.model_items.specs.declared.plain_item.PlainItem.{PlainItem}
use Rattle.model_items.specs.declared.plain_item.PlainItem.TheVariants.{Char, Opening, Closing}
use Rattle.model_page.specs.Elements.{is_white}
use Rattle.model_page.specs.Tags.{tag_of}
use Rattle.model_page.specs.Parts.{Parts, Ended, Words, Note, Group, Single, Parent, source_of}
use Rattle.model_page.specs.Fit.{Around, Flow, Structural, Content, Fit, Annotation, Leaf, Branch, Whole, around_in, is_convertible, fit_of, whole_kind, is_generated, has_inline_tags, is_inline_at, group_kind, note_kind}
use Rattle.model_page.specs.Heads.{characters, head_with, whole_head}
use Rattle.model_page.specs.Pieces.{SourceSpan, Owner, Made, Piece, Progress, past, source_span, no_piece, joined_pieces, leaf, node, chars_piece, items_after, with_white, run_dropped, paragraph_before, run_ended, run_closed, in_run, before_run, leaf_before}
use Rattle.model_page.specs.ReferenceNodes.{RefNode, ref_of}
use Rattle.model_page.specs.Convert.{marks_at, marked_around, element_source, inside_of, inside_piece, words_before, group_made, leaf_made, element_made, made_of, in_flow}
use Rattle.model_page.specs.PageItems.{slice}
use Rattle.model_page_write.specs.Nodes.{Start, Nodes, Empty, Letter, Node}
use Rattle.model_page_law.proofs.SourceLemmas.{parts_of-source}
use Rattle.model_page_law.proofs.NeatForests.{NeatTag}
use Rattle.model_page_law.proofs.NodesLemmas.{followed}
use Rattle.model_page_law.proofs.ShapeLemmas.{plain, plain-followed, letters, whitened, items_after-plain}
use Rattle.model_page_law.proofs.TileLemmas.{Tiled-made_of}
use Rattle.model_page_law.proofs.KindFits.{Sane, FitStands, fit_stands}
use Rattle.model_page_law.proofs.NestLemmas.{Meets-made_of}
use Rattle.model_kept_law.proofs.FitFacts.{Small, HoldsBlocks, IsAlien, FitFacts, fit_facts, tag_is, tag_element, small_leaf}
use Rattle.model_kept_law.proofs.ReadParts.{SingleRead, ParentRead, IsRead}
use Rattle.model_kept_law.proofs.ApartParts.{Apart, Same, Same-inside_piece, apart_same}
use Rattle.model_kept_law.proofs.WholeParts.{MayStand, NoWhole, note_alien, leaf_void, no_leaf, inside_apart}
use Rattle.model_kept_law.proofs.OwnSource.{OwnLeaf, OwnBlock, OwnRun}
use Rattle.model_kept_law.proofs.RunParts.{run_of}

-- ---- a text stands at a position of the page

pub record In (page : List ℕ) (at : ℕ) (text : List ℕ) : Type 0 where
  pub prefix : List ℕ
  pub suffix : List ℕ
  pub is : page ≡ prefix ++ (text ++ suffix)
  pub byte : length prefix ≡ at

pub In-left : (page : List ℕ) (at : ℕ) (a b : List ℕ) → In page at (a ++ b) → In page at a
In-left page at a b s = record { prefix = s.prefix; suffix = b ++ s.suffix; is = s.is ∙ ap (λ t. s.prefix ++ t) (append_assoc a b s.suffix); byte = s.byte }

pub In-right : (page : List ℕ) (at : ℕ) (a b : List ℕ) → In page at (a ++ b) → In page (at + length a) b
In-right page at a b s = record {
  prefix = s.prefix ++ a;
  suffix = s.suffix;
  is = s.is ∙ ap (λ t. s.prefix ++ t) (append_assoc a b s.suffix) ∙ sym (append_assoc s.prefix a (b ++ s.suffix));
  byte = length-append s.prefix a ∙ ap (λ n. n + length a) s.byte;
}

In-slice : (page : List ℕ) (at : ℕ) (text : List ℕ) → In page at text → slice page at (at + length text) ≡ text
In-slice page at text s =
    ap (λ p. slice p at (at + length text)) s.is
    ∙ ap (take (at + length text - at)) (drop_at s.prefix (text ++ s.suffix) at s.byte)
    ∙ take_at text s.suffix (at + length text - at) (omega arith)

-- the page, and whether some element of its body is of the type of references
pub record Ground : Type 0 where
  pub bytes : List ℕ
  pub refers : Bool

-- ---- rows

opposite : (b : Bool) → b ≡ true → b ≡ false → ⊥
opposite b e f = cc

-- what the source of a node is
abbrev pub Own : Kind → Head → Bool → List PlainItem → List ℕ → List ℕ → Type 0
Own kind head generated inside pre source =
    OwnLeaf kind head source ⊎ (((generated ≡ false) × OwnBlock kind head inside pre source) ⊎ ((generated ≡ true) × (kind ≡ P) × OwnRun inside source))

pub record RowOf (page : Ground) (span : SourceSpan) (s : Start) (inside : Nodes) (pre : List ℕ) : Type 0 where
  pub source : List ℕ
  pub is : slice page.bytes span.from span.to ≡ source
  pub origin : s.origin ≡ None
  pub own : MayStand s.kind → NoWhole (plain inside) → Own s.kind s.head s.generated (plain inside) pre source
  pub block : page.refers ≡ false → s.generated ≡ false → is_leaf s.kind ≡ false → (s.marks ≡ []) × OwnBlock s.kind s.head (plain inside) pre source

-- a span for each node, in the order of their openings
abbrev pub Rows : Ground → List SourceSpan → Nodes → Type 0
Rows page spans Empty = spans ≡ []
Rows page spans (Letter c marks later) = Rows page spans later
Rows page spans (Node s inside pre later) =
    (span : SourceSpan) × (inner : List SourceSpan) × (after : List SourceSpan) × (spans ≡ span ∷ (inner ++ after)) × RowOf page span s inside pre × Rows page inner inside × Rows page after later

Rows-followed : (page : Ground) (a b : List SourceSpan) (n m : Nodes) → Rows page a n → Rows page b m → Rows page (a ++ b) (followed n m)
Rows-followed page a b Empty m r s = subst (λ x. Rows page (x ++ b) m) (sym r) s
Rows-followed page a b (Letter c marks later) m r s = Rows-followed page a b later m r s
Rows-followed page a b (Node t inside pre later) m r s =
    (r.0, r.1, r.2 ++ b, ap (λ x. x ++ b) r.3 ∙ ap (λ x. r.0 ∷ x) (append_assoc r.1 r.2 b), r.4, r.5, Rows-followed page r.2 b later m r.6 s)

Rows-letters : (page : Ground) (marks : List Mark) (text : List ℕ) → Rows page [] (letters marks text)
Rows-letters page marks [] = refl
Rows-letters page marks (c ∷ cs) = Rows-letters page marks cs

Rows-whitened : (page : Ground) (white : List ℕ) (spans : List SourceSpan) (n : Nodes) → Rows page spans n → Rows page spans (whitened white n)
Rows-whitened page white spans Empty r = r
Rows-whitened page white spans (Letter c marks later) r = r
Rows-whitened page white spans (Node s inside pre later) r = let o = r.4 in (r.0, r.1, r.2, r.3, record { source = o.source; is = o.is; origin = o.origin; own = o.own; block = o.block }, r.5, r.6)

-- ---- pieces

pub record Sourced (page : Ground) (piece : Piece) : Type 0 where
  pub nodes : Nodes
  pub items : piece.items ≡ plain nodes
  pub rows : Rows page piece.spans nodes

Sourced-none : (page : Ground) → Sourced page no_piece
Sourced-none page = record { nodes = Empty; items = refl; rows = refl }

Sourced-joined_pieces : (page : Ground) (a b : Piece) → Sourced page a → Sourced page b → Sourced page (joined_pieces a b)
Sourced-joined_pieces page a b s t = record {
  nodes = followed s.nodes t.nodes;
  items = ap (λ xs. xs ++ b.items) s.items ∙ ap (λ ys. plain s.nodes ++ ys) t.items ∙ sym (plain-followed s.nodes t.nodes);
  rows = Rows-followed page a.spans b.spans s.nodes t.nodes s.rows t.rows;
}

abbrev start_with : Kind → Head → List Mark → Bool → Start
start_with kind head marks generated = record { kind = kind; head = head; marks = marks; pre = []; origin = None; generated = generated; body = None }

Sourced-node : (page : Ground) (kind : Kind) (head : Head) (marks : List Mark) (generated : Bool) (span : SourceSpan) (inside : Piece) (pre : List ℕ) (s : Sourced page inside) →
    RowOf page span (start_with kind head marks generated) s.nodes pre → Sourced page (node kind head marks generated span inside pre)
Sourced-node page kind head marks generated span inside pre s row = record {
  nodes = Node (start_with kind head marks generated) s.nodes pre Empty;
  items = ap (λ xs. Opening kind head marks [] None generated ∷ xs ++ Closing kind pre ∷ []) s.items;
  rows = (span, inside.spans, [], ap (λ x. span ∷ x) (sym (append-nil inside.spans)), row, s.rows, refl);
}

plain-letters : (marks : List Mark) (text : List ℕ) → map (λ c. Char c marks) text ≡ plain (letters marks text)
plain-letters marks [] = refl
plain-letters marks (c ∷ cs) = ap (λ xs. Char c marks ∷ xs) (plain-letters marks cs)

Sourced-chars : (page : Ground) (marks : List Mark) (text : List ℕ) → Sourced page (chars_piece marks text)
Sourced-chars page marks text = record { nodes = letters marks text; items = plain-letters marks text; rows = Rows-letters page marks text }

-- ---- what is made

abbrev pub Later : Ground → Around → Piece → Type 0
Later page (Content marks) piece = Unit {0}
Later page (Flow k) piece = Sourced page piece
Later page (Structural k) piece = Sourced page piece

pub record SourcedMade (page : Ground) (around : Around) (m : Made) : Type 0 where
  pub run : Sourced page m.run
  pub later : Later page around m.later

-- a run of this source from the position on may be closed
abbrev Closable : Ground → Progress → List ℕ → Made → Type 0
Closable page w part m = is_white part ≡ false → (slice page.bytes w.at (w.at + length part) ≡ part) × (NoWhole m.run.items → OwnRun m.run.items part)

Sourced-with_white : (page : Ground) (white : List ℕ) (piece : Piece) → Sourced page piece → Sourced page (record { items = items_after white piece.items; spans = piece.spans })
Sourced-with_white page white piece s = record {
  nodes = whitened white s.nodes;
  items = ap (items_after white) s.items ∙ items_after-plain white s.nodes;
  rows = Rows-whitened page white piece.spans s.nodes s.rows;
}

Sourced-paragraph : (page : Ground) (w : Progress) (part : List ℕ) (m : Made) → Sourced page m.run → Sourced page m.later →
    (slice page.bytes w.at (w.at + length part) ≡ part) × (NoWhole m.run.items → OwnRun m.run.items part) → Sourced page (paragraph_before (source_span w part) m).later
Sourced-paragraph page w part m run later c =
    Sourced-joined_pieces page (node P empty_head [] true (source_span w part) m.run []) m.later
    (Sourced-node page P empty_head [] true (source_span w part) m.run [] run (record {
      source = part;
      is = c.0;
      origin = refl;
      own = λ may none. inr (inr (refl, refl, subst (λ xs. OwnRun xs part) run.items (c.1 (subst NoWhole (sym run.items) none))));
      block = λ calm made. absurd (opposite true refl made);
    })) later

Sourced-run_ended : (page : Ground) (w : Progress) (part : List ℕ) (m : Made) → Sourced page m.run → Sourced page m.later → Closable page w part m → Sourced page (run_ended part w m).later
Sourced-run_ended page w [] m run later c = later
Sourced-run_ended page w (b ∷ bs) m run later c = by (is_white (b ∷ bs)) c
  where
    by : (t : Bool) → (t ≡ false → (slice page.bytes w.at (w.at + length (b ∷ bs)) ≡ b ∷ bs) × (NoWhole m.run.items → OwnRun m.run.items (b ∷ bs))) →
        Sourced page (if t then with_white (chars (b ∷ bs)) (run_dropped m) else paragraph_before (source_span w (b ∷ bs)) m).later
    by true c = Sourced-with_white page (chars (b ∷ bs)) m.later later
    by false c = Sourced-paragraph page w (b ∷ bs) m run later (c refl)

ended_run : (page : Ground) (w : Progress) (part : List ℕ) (m : Made) → Sourced page (run_ended part w m).run
ended_run page w [] m = Sourced-none page
ended_run page w (b ∷ bs) m = chosen (is_white (b ∷ bs)) (with_white (chars (b ∷ bs)) (run_dropped m)) (paragraph_before (source_span w (b ∷ bs)) m) (Sourced-none page) (Sourced-none page)
  where
    chosen : (c : Bool) (x y : Made) → Sourced page x.run → Sourced page y.run → Sourced page (if c then x else y).run
    chosen true x y f g = f
    chosen false x y f g = g

Sourced-in_run : (page : Ground) (around : Around) (piece : Piece) (part : List ℕ) (owners : List Owner) (m : Made) → Sourced page piece → SourcedMade page around m → SourcedMade page around (in_run piece part owners m)
Sourced-in_run page around piece part owners m p s = record { run = Sourced-joined_pieces page piece m.run p s.run; later = s.later }

Sourced-before_run : (page : Ground) (around : Around) (w : Progress) (piece : Piece) (owners : List Owner) (m : Made) → Sourced page piece → SourcedMade page around m →
    (HoldsBlocks around → Closable page w m.source m) → SourcedMade page around (before_run w piece owners m)
Sourced-before_run page (Content marks) w piece owners m p s c = record { run = ended_run page w m.source m; later = tt }
Sourced-before_run page (Flow k) w piece owners m p s c = record {
  run = ended_run page w m.source m;
  later = Sourced-joined_pieces page piece (run_closed w m).later p (Sourced-run_ended page w m.source m s.run s.later (c tt));
}
Sourced-before_run page (Structural k) w piece owners m p s c = record {
  run = ended_run page w m.source m;
  later = Sourced-joined_pieces page piece (run_closed w m).later p (Sourced-run_ended page w m.source m s.run s.later (c tt));
}

-- ---- parts, where `later` makes the ones after them

abbrev Following : Ground → Around → ℕ → (Progress → Made) → Type 0
Following page around at later = (p : Progress) → p.at ≡ at → SourcedMade page around (later p) × (HoldsBlocks around → Closable page p (later p).source (later p))

SourcedMade-chosen : (page : Ground) (around : Around) (c : Bool) (a b : Made) → SourcedMade page around a → SourcedMade page around b → SourcedMade page around (if c then a else b)
SourcedMade-chosen page around true a b f g = f
SourcedMade-chosen page around false a b f g = g

Sourced-leaf_before : (page : Ground) (around : Around) (w : Progress) (kind : Kind) (head : Head) (marks : List Mark) (part : List ℕ) (owners : List Owner) (later : Progress → Made) → In page.bytes w.at part → is_leaf kind ≡ true →
    (MayStand kind → OwnLeaf kind head part) → Following page around (w.at + length part) later → SourcedMade page around (leaf_before w kind head marks part owners (later (past w part owners)))
Sourced-leaf_before page around w kind head marks part owners later i leaf_is own f =
    let after : Progress = past w part owners in
    let n = f after refl in
    let piece : Piece = leaf kind head marks (source_span w part) in
    let p : Sourced page piece = Sourced-node page kind head marks false (source_span w part) no_piece [] (Sourced-none page) (record {
      source = part;
      is = In-slice page.bytes w.at part i;
      origin = refl;
      own = λ may none. inl (own may);
      block = λ calm made branch. absurd (opposite (is_leaf kind) leaf_is branch);
    }) in
    SourcedMade-chosen page around (is_inline_leaf kind) _ _
    (Sourced-in_run page around piece part owners (later after) p n.0)
    (Sourced-before_run page around after piece owners (later after) p n.0 n.1)

no_alien : (around : Around) (k : Kind) → IsAlien around k → MayStand k → ⊥
no_alien around k (inl e) m = let h : MayStand AlienInline = subst MayStand e m in let f : false ≡ true = h refl in cc
no_alien around k (inr p) m = let h : MayStand AlienBlock = subst MayStand p.0 m in let f : false ≡ true = h refl in cc

alien_leaf : (around : Around) (k : Kind) → IsAlien around k → is_leaf k ≡ true
alien_leaf around k (inl e) = ap is_leaf e
alien_leaf around k (inr p) = ap is_leaf p.0

group_leaf : (generated inline : Bool) → is_leaf (whole_kind generated inline) ≡ true
group_leaf true true = refl
group_leaf true false = refl
group_leaf false true = refl
group_leaf false false = refl

no_group : (generated inline : Bool) → MayStand (whole_kind generated inline) → ⊥
no_group true true m = let f : false ≡ true = m refl in cc
no_group true false m = let f : false ≡ true = m refl in cc
no_group false true m = let f : false ≡ true = m refl in cc
no_group false false m = let f : false ≡ true = m refl in cc

Sourced-group_made : (page : Ground) (around : Around) (nodes : Forest) (later : Progress → Made) (w : Progress) (r : Option RefNode) → In page.bytes w.at (spelling nodes) →
    Following page around (w.at + length (spelling nodes)) later → SourcedMade page around (group_made around nodes later w r)
Sourced-group_made page around nodes later w (Some r) i f =
    Sourced-leaf_before page around w Ref r.head (marks_at around) (spelling nodes) r.owners later i refl (λ m. absurd (let x : false ≡ true = m refl in cc)) f
Sourced-group_made page around nodes later w None i f =
    Sourced-leaf_before page around w (group_kind around nodes) (whole_head (spelling nodes)) (marks_at around) (spelling nodes) [] later i (group_leaf (is_generated nodes) (is_inline_at around (has_inline_tags nodes)))
    (λ m. absurd (no_group (is_generated nodes) (is_inline_at around (has_inline_tags nodes)) m)) f

-- an element as a leaf, where it may be br or img only as a void element
Sourced-leaf_made : (page : Ground) (around : Around) (name : List ℕ) (children : Parts) (attrs : List Spelled) (part : List ℕ) (later : Progress → Made) (w : Progress) (fit : Fit) →
    FitFacts around name children fit → ((k : Kind) → fit ≡ Leaf k → OwnLeaf k (head_with attrs) part) → In page.bytes w.at part →
    Following page around (w.at + length part) later → SourcedMade page around (leaf_made around attrs part later w fit)
Sourced-leaf_made page around name children attrs part later w (Leaf kind) t own i f = Sourced-leaf_before page around w kind (head_with attrs) (marks_at around) part [] later i (small_leaf kind (t.leaf kind refl).1) (λ m. own kind refl) f
Sourced-leaf_made page around name children attrs part later w (Whole kind) t own i f =
    Sourced-leaf_before page around w kind (whole_head part) (marks_at around) part [] later i (alien_leaf around kind (t.whole kind refl)) (λ m. absurd (no_alien around kind (t.whole kind refl) m)) f
Sourced-leaf_made page around name children attrs part later w Annotation t own i f =
    Sourced-leaf_before page around w (note_kind around) (whole_head part) (marks_at around) part [] later i (alien_leaf around (note_kind around) (note_alien around)) (λ m. absurd (no_alien around (note_kind around) (note_alien around) m)) f
Sourced-leaf_made page around name children attrs part later w (Branch kind) t own i f =
    Sourced-leaf_before page around w (note_kind around) (whole_head part) (marks_at around) part [] later i (alien_leaf around (note_kind around) (note_alien around)) (λ m. absurd (no_alien around (note_kind around) (note_alien around) m)) f

single_own : (name : List ℕ) (attrs : List Spelled) (source : List ℕ) (kind : Kind) → SingleRead name attrs source → (kind_of_tag name ≡ Some kind) × Small kind → OwnLeaf kind (head_with attrs) source
single_own name attrs source kind r p =
    let v = r.void (leaf_void name kind p) in
    record {
      small = p.1;
      attrs = attrs;
      slash = v.0;
      is = v.1 ∙ ap (λ n. start_text n attrs v.0) (tag_is name kind p.0);
      attrs_are = v.2;
      free = r.free;
      head_is = refl;
    }

-- ---- a branch

Sourced-inside_piece : (page : Ground) (around : Around) (w : Progress) (m : Made) → SourcedMade page around m → (HoldsBlocks around → Closable page w m.source m) → Sourced page (inside_piece around w m).later
Sourced-inside_piece page (Content marks) w m s c = s.run
Sourced-inside_piece page (Flow k) w m s c = Sourced-run_ended page w m.source m s.run s.later (c tt)
Sourced-inside_piece page (Structural k) w m s c = s.later

block_own : (name : List ℕ) (attrs : List Spelled) (children : Parts) (kind : Kind) (at : Progress) (inside : List PlainItem) → ParentRead name attrs children → Apart children → kind_of_tag name ≡ Some kind →
    is_convertible kind children ≡ true → (inside_piece (around_in kind) at (made_of (around_in kind) children at)).later.items ≡ inside →
    OwnBlock kind (head_with attrs) inside (inside_piece (around_in kind) at (made_of (around_in kind) children at)).pre (element_source name attrs children)
block_own name attrs children kind at inside r apart e c is =
    let around : Around = around_in kind in
    let made : Progress → Made = λ u. inside_piece around u (made_of around children u) in
    let name_is : name ≡ tag_of kind = tag_is name kind e in
    let same : (u : Progress) → Same (made u) (made at) = λ u. Same-inside_piece around u at (made_of around children u) (made_of around children at) (apart_same children apart around u at) in
    record {
      attrs = attrs;
      inner = r.inner;
      is = (λ i. start_text (name_is i) attrs false ++ (ap source_of r.are ∙ parts_of-source r.inner) i ++ end_text (name_is i));
      element = tag_element name kind e;
      tag = subst (λ n. NeatTag false n attrs) name_is r.tag;
      free = r.free;
      head_is = refl;
      neat = r.neat;
      apart = subst Apart r.are apart;
      convertible = ap (is_convertible kind) (sym r.are) ∙ c;
      later = subst (λ x. (u : Progress) → (inside_piece around u (made_of around x u)).later.items ≡ inside) r.are (λ u. (same u).later ∙ is);
      white = subst (λ x. (u : Progress) → (inside_piece around u (made_of around x u)).pre ≡ (made at).pre) r.are (λ u. (same u).pre);
    }

Sourced-element_made : (page : Ground) (around : Around) (name : List ℕ) (attrs : List Spelled) (children : Parts) (later : Progress → Made) (w : Progress) (fit : Fit) →
    FitFacts around name children fit → FitStands around fit → ((k : Kind) → fit ≡ Leaf k → ⊥) → ParentRead name attrs children → IsRead children → (page.refers ≡ false → Apart children) → In page.bytes w.at (element_source name attrs children) →
    ((a : Around) → Sane a → Following page a (w.at + length (start_text name attrs false)) (made_of a children)) →
    Following page around (w.at + length (element_source name attrs children)) later →
    SourcedMade page around (element_made around name attrs (element_source name attrs children) (λ a. made_of a children) later w fit)
Sourced-element_made page around name attrs children later w Annotation t s n r read apart i g f =
    let at : Progress = inside_of w name attrs in
    let a : Around = marked_around around name attrs in
    let inside : Made = made_of a children at in
    let part : List ℕ = element_source name attrs children in
    let after : Progress = past w part inside.owners in
    Sourced-in_run page around inside.run part inside.owners (later after) (g a tt at refl).0.run (f after refl).0
Sourced-element_made page around name attrs children later w (Branch kind) t s n r read apart i g f =
    let at : Progress = inside_of w name attrs in
    let a : Around = around_in kind in
    let made : Made = made_of a children at in
    let inside : Made = inside_piece a at made in
    let part : List ℕ = element_source name attrs children in
    let after : Progress = past w part inside.owners in
    let b = t.branch kind refl in
    let h = g a s.2 at refl in
    let shape : Sourced page inside.later = Sourced-inside_piece page a at made h.0 h.1 in
    let k = f after refl in
    Sourced-before_run page around after (node kind (head_with attrs) [] false (source_span w part) inside.later inside.pre) inside.owners (later after)
    (Sourced-node page kind (head_with attrs) [] false (source_span w part) inside.later inside.pre shape (record {
      source = part;
      is = In-slice page.bytes w.at part i;
      origin = refl;
      own = λ may none. inr (inl (refl, block_own name attrs children kind at (plain shape.nodes) r (inside_apart children read a s.2 at (subst NoWhole (sym shape.items) none)) b.0 b.1 shape.items));
      block = λ calm made branch. (refl, block_own name attrs children kind at (plain shape.nodes) r (apart calm) b.0 b.1 shape.items);
    })) k.0 k.1
Sourced-element_made page around name attrs children later w (Leaf kind) t s n r read apart i g f = absurd (n kind refl)
Sourced-element_made page around name attrs children later w (Whole kind) t s n r read apart i g f =
    Sourced-leaf_made page around name children attrs (element_source name attrs children) later w (Whole kind) t (λ k e. absurd (n k e)) i f

-- ---- all parts

abbrev SourcedAll : Ground → Parts → Type 0
SourcedAll page parts = (around : Around) → Sane around → (w : Progress) → In page.bytes w.at (source_of parts) → SourcedMade page around (made_of around parts w)

run_own : (parts : Parts) → IsRead parts → (k : Kind) (w : Progress) → is_white (made_of (Flow k) parts w).source ≡ false → NoWhole (made_of (Flow k) parts w).run.items →
    OwnRun (made_of (Flow k) parts w).run.items (made_of (Flow k) parts w).source
run_own parts r k w solid none =
    let f = run_of parts r k w none in record { run = f.run; is = sym f.spells; neat = f.neat; loose = f.loose; apart = f.apart; reads = f.reads; solid = solid }

pub closable : (page : Ground) (parts : Parts) → IsRead parts → (around : Around) → Sane around → (w : Progress) → In page.bytes w.at (source_of parts) → HoldsBlocks around →
    is_white (made_of around parts w).source ≡ false →
    (slice page.bytes w.at (w.at + length (made_of around parts w).source) ≡ (made_of around parts w).source) × (NoWhole (made_of around parts w).run.items → OwnRun (made_of around parts w).run.items (made_of around parts w).source)
closable page parts r (Content marks) s w i h e = absurd h
closable page parts r (Flow k) s w i h e =
    let m : Made = made_of (Flow k) parts w in
    let t = Tiled-made_of k parts w in
    (In-slice page.bytes w.at m.source (In-left page.bytes w.at m.source (t.rest ++ encode_utf8_all m.pre) (subst (In page.bytes w.at) (sym t.spelled) i)), run_own parts r k w e)
closable page parts r (Structural k) s w i h e = absurd (let f : true ≡ false = sym (ap is_white (Meets-made_of (Structural k) s parts w).source) ∙ e in cc)

following : (page : Ground) (parts : Parts) → IsRead parts → SourcedAll page parts → (around : Around) → Sane around → (at : ℕ) → In page.bytes at (source_of parts) → Following page around at (made_of around parts)
following page parts r h around s at i p e =
    let j : In page.bytes p.at (source_of parts) = subst (λ n. In page.bytes n (source_of parts)) (sym e) i in (h around s p j, λ b. closable page parts r around s p j b)

Sourced-words_before : (page : Ground) (around : Around) (text : List ℕ) (m : Made) → SourcedMade page around m → SourcedMade page around (words_before around text m)
Sourced-words_before page (Content marks) text m s = Sourced-in_run page (Content marks) (chars_piece marks (characters text)) text [] m (Sourced-chars page marks (characters text)) s
Sourced-words_before page (Flow k) text m s = Sourced-in_run page (Flow k) (chars_piece [] (characters text)) text [] m (Sourced-chars page [] (characters text)) s
Sourced-words_before page (Structural k) text m s = record { run = s.run; later = Sourced-with_white page (chars text) m.later s.later }

none_later : (page : Ground) (around : Around) → Later page around no_piece
none_later page (Content marks) = tt
none_later page (Flow k) = Sourced-none page
none_later page (Structural k) = Sourced-none page

pub sourced : (page : Ground) (parts : Parts) → IsRead parts → (page.refers ≡ false → Apart parts) → SourcedAll page parts
sourced page Ended r apart around s w i = record { run = Sourced-none page; later = none_later page around }
sourced page (Words text later) r apart around s w i =
    Sourced-words_before page around text (made_of around later (past w text [])) (sourced page later r.3 apart around s (past w text []) (In-right page.bytes w.at text (source_of later) i))
sourced page (Note text later) r apart around s w i =
    let part : List ℕ = token_text (Comment text) in
    Sourced-leaf_before page around w (note_kind around) (whole_head part) (marks_at around) part [] (made_of around later) (In-left page.bytes w.at part (source_of later) i) (alien_leaf around (note_kind around) (note_alien around))
    (λ m. absurd (no_alien around (note_kind around) (note_alien around) m))
    (following page later r (sourced page later r apart) around s (w.at + length part) (In-right page.bytes w.at part (source_of later) i))
sourced page (Group nodes later) r apart around s w i =
    Sourced-group_made page around nodes (made_of around later) w (ref_of w around nodes) (In-left page.bytes w.at (spelling nodes) (source_of later) i)
    (following page later r.1 (sourced page later r.1 (λ c. (apart c).1)) around s (w.at + length (spelling nodes)) (In-right page.bytes w.at (spelling nodes) (source_of later) i))
sourced page (Single name attrs source later) r apart around s w i =
    let t = fit_facts around name Ended in
    Sourced-leaf_made page around name Ended attrs source (made_of around later) w (fit_of around name Ended) t (λ k e. single_own name attrs source k r.0 (t.leaf k e)) (In-left page.bytes w.at source (source_of later) i)
    (following page later r.1 (sourced page later r.1 apart) around s (w.at + length source) (In-right page.bytes w.at source (source_of later) i))
sourced page (Parent name attrs children later) r apart around s w i =
    let part : List ℕ = element_source name attrs children in
    let start : List ℕ = start_text name attrs false in
    let own : In page.bytes w.at part = In-left page.bytes w.at part (source_of later) i in
    let inner : In page.bytes (w.at + length start) (source_of children) =
    In-right page.bytes w.at start (source_of children) (In-left page.bytes w.at (start ++ source_of children) (end_text name) own) in
    Sourced-element_made page around name attrs children (made_of around later) w (fit_of around name children) (fit_facts around name children) (fit_stands around s name children)
    (no_leaf around name children r.0.tag.void_is) r.0 r.1 (λ c. (apart c).0) own
    (λ a t. following page children r.1 (sourced page children r.1 (λ c. (apart c).0)) a t (w.at + length start) inner)
    (following page later r.2 (sourced page later r.2 (λ c. (apart c).1)) around s (w.at + length part) (In-right page.bytes w.at part (source_of later) i))

-- what stands in a flow parent
pub sourced_flow : (page : Ground) (parts : Parts) → IsRead parts → (page.refers ≡ false → Apart parts) → (k : Kind) → Sane (Flow k) → (w : Progress) → In page.bytes w.at (source_of parts) → Sourced page (in_flow k parts w).later
sourced_flow page parts r apart k s w i =
    let m : Made = made_of (Flow k) parts w in
    let t = sourced page parts r apart (Flow k) s w i in
    Sourced-run_ended page w m.source m t.run t.later (closable page parts r (Flow k) s w i tt)
