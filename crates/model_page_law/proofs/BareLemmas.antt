-- Each generated paragraph of a page that was read is bare.
use Rattle.std.proofs.Common.{◌≡◌, ℕ, suc, ◌+◌, Bool, true, false, not, ◌&&◌, ◌||◌, if◌then◌else◌, List, [], ◌∷◌, ◌++◌, length, Option, Some, None, refl, sym, ap, ◌∙◌, subst, append_assoc}
use Rattle.std.proofs.lemmas.Bool.{and_parts, and_from}
use Rattle.std.specs.Prelude.{chars}
use Rattle.model_spelling.specs.Grammar.{Attr as Spelled, Comment, token_text}
use Rattle.model_spelling.specs.Forest.{Forest, spelling}
use Rattle.ve_kinds.specs.declared.kind.Kind.{Kind}
use Rattle.ve_kinds.specs.declared.kind.Kind.TheVariants.{P, Ref, Br, Img, TransInline, AlienInline, AlienBlock}
use Rattle.ve_base.specs.declared.marks.Mark.{Mark}
use Rattle.ve_base.specs.declared.head.Head.{Head}
use Rattle.model_items.specs.declared.plain_item.PlainItem.TheVariants.{Opening, Closing}
use Rattle.ve_kinds.specs.Table.{kind_same}
use Rattle.model_page.specs.Elements.{is_white_char, is_white}
use Rattle.model_page.specs.Parts.{Parts, Ended, Words, Note, Group, Single, Parent}
use Rattle.ve_kinds.specs.Tags.{kind_of_tag}
use Rattle.model_page.specs.Tags.{is_inline_tag, is_annotation_tag}
use Rattle.model_page.specs.Fit.{Flow, Content, Fit, Annotation, Leaf, Branch, Whole, around_in, has_child, fit_of, fit_in_content, fit_in_block, whole_kind, is_generated, has_inline_tags, group_kind}
use Rattle.ve_kinds.specs.Table.{is_inline_leaf}
use Rattle.model_page.specs.Heads.{characters, attrs_of, head_with, whole_head}
use Rattle.model_page.specs.Pieces.{SourceSpan, Piece, Owner, Made, Progress, past, source_span, no_piece, joined_pieces, node, leaf, chars_piece, items_after, white_left, with_white, run_dropped, paragraph_before, run_ended, run_closed, in_run, before_run, leaf_before}
use Rattle.model_page.specs.ReferenceNodes.{RefNode, ref_of}
use Rattle.model_page.specs.Convert.{element_source, inside_of, inside_piece, group_made, leaf_made, element_made, made_of, in_flow}
use Rattle.ve_base.specs.Empty.{empty_head}
use Rattle.model_page.specs.References.{Body}
use Rattle.model_page_write.specs.Nodes.{Start, Nodes, Empty, Letter, Node, carried_nodes, carried_from}
use Rattle.model_page_write.specs.Written.{is_empty, reads_inline, stays_inline, has_content, all_stay_inline, white_after, is_bare}
use Rattle.model_page_law.proofs.NodesLemmas.{followed}
use Rattle.model_page_law.proofs.ShapeLemmas.{plain, plain-followed, Shaped, letters, whitened, items_after-plain, Fine-made_of, Shaped-inside_piece}
use Rattle.model_page_law.proofs.PlaceLemmas.{with_body, bearing, nodes_of-carried_items}
use Rattle.model_page_law.proofs.LawLemmas.{Bared}
use Rattle.model_page_law.proofs.FollowedNodes.{has_content-followed, all_stay_inline-followed, all_stay_inline-letters, plain-letters, or_left, or_right, not_white}
use Rattle.model_page_law.proofs.MarkedLemmas.{Texted, Marked-made_of}

-- ---- runs

-- a piece of a run: it has content where its source is not white, and stays inline
pub record Inline (piece : Piece) (source : List ℕ) : Type 0 where
  pub nodes : Nodes
  pub items : piece.items ≡ plain nodes
  pub content : is_white source ≡ false → has_content nodes ≡ true
  pub stays : all_stay_inline nodes ≡ true

Inline-none : Inline no_piece []
Inline-none = record { nodes = Empty; items = refl; content = λ h. cc; stays = refl }

Inline-joined_pieces : (a b : Piece) (s t : List ℕ) → Inline a s → Inline b t → Inline (joined_pieces a b) (s ++ t)
Inline-joined_pieces a b s t f g = record {
  nodes = followed f.nodes g.nodes;
  items = ap (λ xs. xs ++ b.items) f.items ∙ ap (λ ys. plain f.nodes ++ ys) g.items ∙ sym (plain-followed f.nodes g.nodes);
  content = λ h. has_content-followed f.nodes g.nodes
      ∙ not_white s t h (λ e. or_left (has_content f.nodes) (has_content g.nodes) (f.content e)) (λ e. or_right (has_content f.nodes) (has_content g.nodes) (g.content e));
  stays = all_stay_inline-followed f.nodes g.nodes f.stays g.stays;
}

-- ---- what is made in a flow parent

-- the first node is no generated paragraph
abbrev pub BeginsUnmade : Nodes → Type 0
BeginsUnmade Empty = Unit {0}
BeginsUnmade (Letter c marks later) = ⊥
BeginsUnmade (Node s inside pre later) = s.generated ≡ false

pub record Ready (m : Made) : Type 0 where
  pub run : Inline m.run m.source
  pub later : Nodes
  pub items : m.later.items ≡ plain later
  pub bared : Bared false m.pre later
  pub calm : white_after later m.pre ≡ []
  pub unmade : BeginsUnmade later

pub record Done (m : Made) : Type 0 where
  pub later : Nodes
  pub items : m.later.items ≡ plain later
  pub bared : Bared false m.pre later

unmade-not_bare : (before : Bool) (s : Start) (inside : Nodes) (after : List ℕ) → s.generated ≡ false → is_bare before s inside after ≡ false
unmade-not_bare before s inside after h =
    ap (λ g. kind_same s.kind P && g && is_empty s.head.attrs && is_empty s.pre && has_content inside && all_stay_inline inside && is_empty after && not before) h
    ∙ ap (λ b. b && is_empty s.head.attrs && is_empty s.pre && has_content inside && all_stay_inline inside && is_empty after && not before) (and_false (kind_same s.kind P))
  where
    and_false : (a : Bool) → (a && false) ≡ false
    and_false true = refl
    and_false false = refl

-- where the first node is not generated, it does not count what stands before
Bared-any : (before : Bool) (closing : List ℕ) (n : Nodes) → BeginsUnmade n → Bared false closing n → Bared before closing n
Bared-any before closing Empty u b = tt
Bared-any before closing (Letter c marks later) u b = tt
Bared-any before closing (Node s inside pre later) u b =
    let e = unmade-not_bare before s inside (white_after later closing) u in
    let f = unmade-not_bare false s inside (white_after later closing) u in (
      (λ g. absurd (let x : true ≡ false = sym g ∙ u in cc)),
      subst (λ c. Bared c closing later) (f ∙ sym e) b.1,
    )

Bared-whitened : (white closing : List ℕ) (n : Nodes) → BeginsUnmade n → Bared false closing n → Bared false closing (whitened white n)
Bared-whitened white closing Empty u b = tt
Bared-whitened white closing (Letter c marks later) u b = tt
Bared-whitened white closing (Node s inside pre later) u b =
    let s2 : Start = record { kind = s.kind; head = s.head; marks = s.marks; pre = white ++ s.pre; origin = s.origin; generated = s.generated; body = s.body } in
    let e = unmade-not_bare false s2 inside (white_after later closing) u in
    let f = unmade-not_bare false s inside (white_after later closing) u in (
      (λ g. absurd (let x : true ≡ false = sym g ∙ u in cc)),
      subst (λ c. Bared c closing later) (f ∙ sym e) b.1,
    )

Bared-block : (s : Start) (inside : Nodes) (pre closing : List ℕ) (later : Nodes) → s.generated ≡ false → Bared false closing later → Bared false closing (Node s inside pre later)
Bared-block s inside pre closing later u b = (
  (λ g. absurd (let x : true ≡ false = sym g ∙ u in cc)),
  subst (λ c. Bared c closing later) (sym (unmade-not_bare false s inside (white_after later closing) u)) b,
)

Done-with_white : (white : List ℕ) (m : Made) (n : Nodes) → m.later.items ≡ plain n → Bared false m.pre n → BeginsUnmade n → Done (with_white white m)
Done-with_white white m Empty e b u = record { later = Empty; items = ap (items_after white) e; bared = tt }
Done-with_white white m (Letter c marks later) e b u = absurd u
Done-with_white white m (Node s inside pre later) e b u = record {
  later = whitened white (Node s inside pre later);
  items = ap (items_after white) e ∙ items_after-plain white (Node s inside pre later);
  bared = subst (λ p. Bared false p (whitened white (Node s inside pre later))) (ap (λ xs. white_left white xs m.pre) (sym e)) (Bared-whitened white m.pre (Node s inside pre later) u b);
}

paragraph-bare : (inside : Nodes) (after : List ℕ) → has_content inside ≡ true → all_stay_inline inside ≡ true → after ≡ [] →
    is_bare false (record { kind = P; head = empty_head; marks = []; pre = []; origin = None; generated = true; body = None }) inside after ≡ true
paragraph-bare inside after h g e = λ i. h i && g i && is_empty (e i) && true

Done-paragraph : (w : Progress) (part : List ℕ) (m : Made) (run : Inline m.run part) → is_white part ≡ false → (n : Nodes) → m.later.items ≡ plain n →
    Bared false m.pre n → white_after n m.pre ≡ [] → BeginsUnmade n → Done (paragraph_before (source_span w part) m)
Done-paragraph w part m run h n e b calm u =
    let s : Start = record { kind = P; head = empty_head; marks = []; pre = []; origin = None; generated = true; body = None } in
    let bare = paragraph-bare run.nodes (white_after n m.pre) (run.content h) run.stays calm in
    record {
      later = Node s run.nodes [] n;
      items =
          ap (λ xs. Opening P empty_head [] [] None true ∷ (xs ++ Closing P [] ∷ []) ++ m.later.items) run.items
          ∙ ap (λ xs. Opening P empty_head [] [] None true ∷ xs) (append_assoc (plain run.nodes) (Closing P [] ∷ []) m.later.items)
          ∙ ap (λ xs. Opening P empty_head [] [] None true ∷ plain run.nodes ++ Closing P [] ∷ xs) e;
      bared = ((λ g. bare), Bared-any (is_bare false s run.nodes (white_after n m.pre)) m.pre n u b);
    }

Done-chosen : (c : Bool) (a b : Made) → Done a → (c ≡ false → Done b) → Done (if c then a else b)
Done-chosen true a b f g = f
Done-chosen false a b f g = g refl

Done-run_ended : (part : List ℕ) (w : Progress) (m : Made) (run : Inline m.run part) (n : Nodes) → m.later.items ≡ plain n →
    Bared false m.pre n → white_after n m.pre ≡ [] → BeginsUnmade n → Done (run_ended part w m)
Done-run_ended [] w m run n e b calm u = record { later = n; items = e; bared = b }
Done-run_ended (x ∷ xs) w m run n e b calm u =
    Done-chosen (is_white (x ∷ xs)) _ _ (Done-with_white (chars (x ∷ xs)) (run_dropped m) n e b u) (λ h. Done-paragraph w (x ∷ xs) m run h n e b calm u)

pub Done-run_closed : (w : Progress) (m : Made) → Ready m → Done (run_closed w m)
Done-run_closed w m r = Done-run_ended m.source w m r.run r.later r.items r.bared r.calm r.unmade

Ready-in_run : (piece : Piece) (source : List ℕ) (owners : List Owner) (m : Made) → Inline piece source → Ready m → Ready (in_run piece source owners m)
Ready-in_run piece source owners m f r = record {
  run = Inline-joined_pieces piece m.run source m.source f r.run;
  later = r.later;
  items = r.items;
  bared = r.bared;
  calm = r.calm;
  unmade = r.unmade;
}

run_ended-run : (part : List ℕ) (w : Progress) (m : Made) → Inline (run_ended part w m).run (run_ended part w m).source
run_ended-run [] w m = Inline-none
run_ended-run (b ∷ bs) w m = chosen_run (is_white (b ∷ bs)) (with_white (chars (b ∷ bs)) (run_dropped m)) (paragraph_before (source_span w (b ∷ bs)) m) Inline-none Inline-none
  where
    chosen_run : (c : Bool) (a b : Made) → Inline a.run a.source → Inline b.run b.source → Inline (if c then a else b).run (if c then a else b).source
    chosen_run true a b e f = e
    chosen_run false a b e f = f

Ready-before_run : (w : Progress) (kind : Kind) (head : Head) (marks : List Mark) (span : SourceSpan) (inside : Piece) (pre : List ℕ) (owners : List Owner) (m : Made) →
    Shaped inside → Ready m → Ready (before_run w (node kind head marks false span inside pre) owners m)
Ready-before_run w kind head marks span inside pre owners m shape r =
    let d = Done-run_closed w m r in
    let closed = run_closed w m in
    let s : Start = record { kind = kind; head = head; marks = marks; pre = []; origin = None; generated = false; body = None } in
    record {
      run = run_ended-run m.source w m;
      later = Node s shape.nodes pre d.later;
      items =
          ap (λ xs. Opening kind head marks [] None false ∷ (xs ++ Closing kind pre ∷ []) ++ closed.later.items) shape.items
          ∙ ap (λ xs. Opening kind head marks [] None false ∷ xs) (append_assoc (plain shape.nodes) (Closing kind pre ∷ []) closed.later.items)
          ∙ ap (λ xs. Opening kind head marks [] None false ∷ plain shape.nodes ++ Closing kind pre ∷ xs) d.items;
      bared = Bared-block s shape.nodes pre closed.pre d.later refl d.bared;
      calm = refl;
      unmade = refl;
    }

Ready-chosen : (c : Bool) (a b : Made) → (c ≡ true → Ready a) → Ready b → Ready (if c then a else b)
Ready-chosen true a b f g = f refl
Ready-chosen false a b f g = g

-- a leaf of this kind with this raw text stays a part of a run
abbrev pub Stays : Kind → Head → Type 0
Stays kind head = is_inline_leaf kind ≡ true → stays_inline (record { kind = kind; head = head; marks = []; pre = []; origin = None; generated = false; body = None }) ≡ true

Inline-leaf : (kind : Kind) (head : Head) (span : SourceSpan) (source : List ℕ) →
    stays_inline (record { kind = kind; head = head; marks = []; pre = []; origin = None; generated = false; body = None }) ≡ true → Inline (leaf kind head [] span) source
Inline-leaf kind head span source h = record {
  nodes = Node (record { kind = kind; head = head; marks = []; pre = []; origin = None; generated = false; body = None }) Empty [] Empty;
  items = refl;
  content = λ g. refl;
  stays = and_from _ true h refl;
}

Ready-leaf_before : (w : Progress) (kind : Kind) (head : Head) (source : List ℕ) (owners : List Owner) (m : Made) →
    Stays kind head → Ready m → Ready (leaf_before w kind head [] source owners m)
Ready-leaf_before w kind head source owners m h r =
    Ready-chosen (is_inline_leaf kind) _ _
    (λ inline. Ready-in_run (leaf kind head [] (source_span w source)) source owners m (Inline-leaf kind head (source_span w source) source (h inline)) r)
    (Ready-before_run (past w source owners) kind head [] (source_span w source) no_piece [] owners m (record { nodes = Empty; items = refl; count = refl }) r)

-- ---- parts of a flow parent

-- Each part of a run has content where it is not white, and reads as a part of a run again.
abbrev pub Inlined : Parts → Type 0
Inlined Ended = Unit {0}
Inlined (Words text later) = (is_white text ≡ false → has_content (letters [] (characters text)) ≡ true) × Inlined later
Inlined (Note text later) = Inlined later
Inlined (Group nodes later) = (has_inline_tags nodes ≡ true → reads_inline (chars (spelling nodes)) ≡ true) × Inlined later
Inlined (Single name attrs source later) = (is_inline_tag name ≡ true → reads_inline (chars source) ≡ true) × Inlined later
Inlined (Parent name attrs children later) =
    (is_inline_tag name ≡ true → reads_inline (chars (element_source name attrs children)) ≡ true) × Texted children × Inlined later

abbrev pub FitsFlow : Parts → List Spelled → List ℕ → Fit → Type 0
FitsFlow children attrs source Annotation = has_child children ≡ true
FitsFlow children attrs source (Leaf kind) = Stays kind (head_with attrs)
FitsFlow children attrs source (Whole kind) = is_inline_leaf kind ≡ true → reads_inline (chars source) ≡ true
FitsFlow children attrs source (Branch kind) = Unit {0}

FitsFlow-content : (name : List ℕ) (children : Parts) (attrs : List Spelled) (source : List ℕ) (kind : Option Kind) → reads_inline (chars source) ≡ true →
    FitsFlow children attrs source (fit_in_content name children kind)
FitsFlow-content name children attrs source (Some Br) r = λ h. refl
FitsFlow-content name children attrs source (Some Img) r = λ h. refl
FitsFlow-content name children attrs source kind r = chosen_fit (is_annotation_tag name && has_child children) (λ h. (and_parts (is_annotation_tag name) (has_child children) h).1)
  where
    chosen_fit : (c : Bool) → (c ≡ true → has_child children ≡ true) → FitsFlow children attrs source (if c then Annotation else Whole AlienInline)
    chosen_fit true h = h refl
    chosen_fit false h = λ g. r

FitsFlow-block : (parent : Kind) (children : Parts) (attrs : List Spelled) (source : List ℕ) (kind : Option Kind) → FitsFlow children attrs source (fit_in_block parent children kind)
FitsFlow-block parent children attrs source None = λ h. cc
FitsFlow-block parent children attrs source (Some kind) = chosen_block _ kind
  where
    chosen_block : (c : Bool) (k : Kind) → FitsFlow children attrs source (if c then Branch k else Whole AlienBlock)
    chosen_block true k = tt
    chosen_block false k = λ h. cc

FitsFlow-fit_of : (parent : Kind) (name : List ℕ) (children : Parts) (attrs : List Spelled) (source : List ℕ) → (is_inline_tag name ≡ true → reads_inline (chars source) ≡ true) →
    FitsFlow children attrs source (fit_of (Flow parent) name children)
FitsFlow-fit_of parent name children attrs source h = chosen_fit (is_inline_tag name) h
  where
    chosen_fit : (c : Bool) → (c ≡ true → reads_inline (chars source) ≡ true) → FitsFlow children attrs source (if c then fit_in_content name children (kind_of_tag name) else fit_in_block parent children (kind_of_tag name))
    chosen_fit true g = FitsFlow-content name children attrs source (kind_of_tag name) (g refl)
    chosen_fit false g = FitsFlow-block parent children attrs source (kind_of_tag name)

whole-Stays : (kind : Kind) (source : List ℕ) → (is_inline_leaf kind ≡ true → reads_inline (chars source) ≡ true) → Stays kind (whole_head source)
whole-Stays kind source h g = or_right (not (kind_same kind TransInline || kind_same kind AlienInline) || false) (reads_inline (chars source)) (h g)

Ready-leaf_made : (k : Kind) (attrs : List Spelled) (source : List ℕ) (later : Progress → Made) (w : Progress) (children : Parts) (fit : Fit) →
    FitsFlow children attrs source fit → ((p : Progress) → Ready (later p)) → Ready (leaf_made (Flow k) attrs source later w fit)
Ready-leaf_made k attrs source later w children (Leaf kind) f h = let p = past w source [] in Ready-leaf_before w kind (head_with attrs) source [] (later p) f (h p)
Ready-leaf_made k attrs source later w children (Whole kind) f h =
    let p = past w source [] in Ready-leaf_before w kind (whole_head source) source [] (later p) (whole-Stays kind source f) (h p)
Ready-leaf_made k attrs source later w children Annotation f h = let p = past w source [] in Ready-leaf_before w AlienBlock (whole_head source) source [] (later p) (λ e. cc) (h p)
Ready-leaf_made k attrs source later w children (Branch kind) f h = let p = past w source [] in Ready-leaf_before w AlienBlock (whole_head source) source [] (later p) (λ e. cc) (h p)

inline_from-whole_kind : (g i : Bool) → is_inline_leaf (whole_kind g i) ≡ true → i ≡ true
inline_from-whole_kind g true h = refl
inline_from-whole_kind true false h = cc
inline_from-whole_kind false false h = cc

Ready-group_made : (k : Kind) (nodes : Forest) (later : Progress → Made) (w : Progress) (r : Option RefNode) → (has_inline_tags nodes ≡ true → reads_inline (chars (spelling nodes)) ≡ true) →
    ((p : Progress) → Ready (later p)) → Ready (group_made (Flow k) nodes later w r)
Ready-group_made k nodes later w (Some r) f h = let p = past w (spelling nodes) r.owners in Ready-leaf_before w Ref r.head (spelling nodes) r.owners (later p) (λ e. refl) (h p)
Ready-group_made k nodes later w None f h =
    let p = past w (spelling nodes) [] in
    Ready-leaf_before w (group_kind (Flow k) nodes) (whole_head (spelling nodes)) (spelling nodes) [] (later p)
    (whole-Stays (group_kind (Flow k) nodes) (spelling nodes) (λ e. f (inline_from-whole_kind (is_generated nodes) (has_inline_tags nodes) e))) (h p)

Ready-element_made : (k : Kind) (name : List ℕ) (attrs : List Spelled) (source : List ℕ) (children : Parts) (later : Progress → Made) (w : Progress) (fit : Fit) →
    FitsFlow children attrs source fit → Texted children → ((p : Progress) → Ready (later p)) →
    Ready (element_made (Flow k) name attrs source (λ a. made_of a children) later w fit)
Ready-element_made k name attrs source children later w Annotation f t h =
    let n : Mark = record { tag = chars name; attrs = attrs_of attrs } in
    let inside = made_of (Content (n ∷ [])) children (inside_of w name attrs) in
    let p = past w source inside.owners in
    let r = Marked-made_of children t n [] (inside_of w name attrs) in
    Ready-in_run inside.run source inside.owners (later p) (record { nodes = r.nodes; items = r.items; content = λ e. r.content f; stays = r.stays }) (h p)
Ready-element_made k name attrs source children later w (Branch kind) f t h =
    let at = inside_of w name attrs in
    let inside = inside_piece (around_in kind) at (made_of (around_in kind) children at) in
    let after = past w source inside.owners in
    Ready-before_run after kind (head_with attrs) [] (source_span w source) inside.later inside.pre inside.owners (later after)
    (Shaped-inside_piece (around_in kind) at (made_of (around_in kind) children at) (Fine-made_of (around_in kind) children at)) (h after)
Ready-element_made k name attrs source children later w (Leaf kind) f t h = Ready-leaf_made k attrs source later w children (Leaf kind) f h
Ready-element_made k name attrs source children later w (Whole kind) f t h = Ready-leaf_made k attrs source later w children (Whole kind) f h

pub Ready-made_of : (k : Kind) (parts : Parts) → Inlined parts → (w : Progress) → Ready (made_of (Flow k) parts w)
Ready-made_of k Ended t w = record { run = Inline-none; later = Empty; items = refl; bared = tt; calm = refl; unmade = tt }
Ready-made_of k (Words text later) t w =
    let p = past w text [] in
    Ready-in_run (chars_piece [] (characters text)) text [] (made_of (Flow k) later p)
    (record { nodes = letters [] (characters text); items = plain-letters [] (characters text); content = t.0; stays = all_stay_inline-letters [] (characters text) })
    (Ready-made_of k later t.1 p)
Ready-made_of k (Note text later) t w =
    Ready-leaf_made k [] (token_text (Comment text)) (made_of (Flow k) later) w Ended (Whole AlienBlock) (λ h. cc) (λ p. Ready-made_of k later t p)
Ready-made_of k (Group nodes later) t w =
    Ready-group_made k nodes (made_of (Flow k) later) w (ref_of w (Flow k) nodes) t.0 (λ p. Ready-made_of k later t.1 p)
Ready-made_of k (Single name attrs source later) t w =
    Ready-leaf_made k attrs source (made_of (Flow k) later) w Ended (fit_of (Flow k) name Ended) (FitsFlow-fit_of k name Ended attrs source t.0) (λ p. Ready-made_of k later t.1 p)
Ready-made_of k (Parent name attrs children later) t w =
    Ready-element_made k name attrs (element_source name attrs children) children (made_of (Flow k) later) w (fit_of (Flow k) name children)
    (FitsFlow-fit_of k name children attrs (element_source name attrs children) t.0) t.1 (λ p. Ready-made_of k later t.2 p)

-- ---- whatever nodes the items are

has_content-bearing : (bodies : ℕ → Option Body) (at : ℕ) (n : Nodes) → has_content (bearing bodies at n) ≡ has_content n
has_content-bearing bodies at Empty = refl
has_content-bearing bodies at (Letter c marks later) = ap (λ b. not (is_white_char c) || not (is_empty marks) || b) (has_content-bearing bodies (suc at) later)
has_content-bearing bodies at (Node s inside pre later) = refl

all_stay_inline-bearing : (bodies : ℕ → Option Body) (at : ℕ) (n : Nodes) → all_stay_inline (bearing bodies at n) ≡ all_stay_inline n
all_stay_inline-bearing bodies at Empty = refl
all_stay_inline-bearing bodies at (Letter c marks later) = all_stay_inline-bearing bodies (suc at) later
all_stay_inline-bearing bodies at (Node s inside pre later) = ap (λ b. stays_inline s && b) (all_stay_inline-bearing bodies (suc (suc at + length (plain inside))) later)

white_after-bearing : (bodies : ℕ → Option Body) (at : ℕ) (closing : List ℕ) (n : Nodes) → white_after (bearing bodies at n) closing ≡ white_after n closing
white_after-bearing bodies at closing Empty = refl
white_after-bearing bodies at closing (Letter c marks later) = refl
white_after-bearing bodies at closing (Node s inside pre later) = refl

is_bare-bearing : (bodies : ℕ → Option Body) (at at2 at3 : ℕ) (before : Bool) (closing : List ℕ) (s : Start) (inside later : Nodes) →
    is_bare before (with_body (bodies at) s) (bearing bodies at2 inside) (white_after (bearing bodies at3 later) closing) ≡ is_bare before s inside (white_after later closing)
is_bare-bearing bodies at at2 at3 before closing s inside later = λ i.
    kind_same s.kind P && s.generated && is_empty s.head.attrs && is_empty s.pre
    && has_content-bearing bodies at2 inside i && all_stay_inline-bearing bodies at2 inside i
    && is_empty (white_after-bearing bodies at3 closing later i) && not before

Bared-bearing : (bodies : ℕ → Option Body) (before : Bool) (closing : List ℕ) (n : Nodes) (at : ℕ) → Bared before closing n → Bared before closing (bearing bodies at n)
Bared-bearing bodies before closing Empty at b = tt
Bared-bearing bodies before closing (Letter c marks later) at b = tt
Bared-bearing bodies before closing (Node s inside pre later) at b =
    let at3 : ℕ = suc (suc at + length (plain inside)) in
    let e = is_bare-bearing bodies at (suc at) at3 before closing s inside later in (
      (λ g. e ∙ b.0 g),
      subst (λ c. Bared c closing (bearing bodies at3 later)) (sym e) (Bared-bearing bodies (is_bare before s inside (white_after later closing)) closing later at3 b.1),
    )

Bared-from_bearing : (bodies : ℕ → Option Body) (before : Bool) (closing : List ℕ) (n : Nodes) (at : ℕ) → Bared before closing (bearing bodies at n) → Bared before closing n
Bared-from_bearing bodies before closing Empty at b = tt
Bared-from_bearing bodies before closing (Letter c marks later) at b = tt
Bared-from_bearing bodies before closing (Node s inside pre later) at b =
    let at3 : ℕ = suc (suc at + length (plain inside)) in
    let e = is_bare-bearing bodies at (suc at) at3 before closing s inside later in (
      (λ g. sym e ∙ b.0 g),
      Bared-from_bearing bodies (is_bare before s inside (white_after later closing)) closing later at3 (subst (λ c. Bared c closing (bearing bodies at3 later)) e b.1),
    )

-- nodes of the same items are bare alike
pub Bared-same : (before : Bool) (closing : List ℕ) (n n2 : Nodes) → plain n ≡ plain n2 → Bared before closing n2 → Bared before closing n
Bared-same before closing n n2 e b =
    let none : ℕ → Option Body = λ at. None in
    let same : bearing none 0 n ≡ bearing none 0 n2 = sym (nodes_of-carried_items none 0 n) ∙ ap (λ xs. carried_nodes (carried_from none 0 xs)) e ∙ nodes_of-carried_items none 0 n2 in
    Bared-from_bearing none before closing n 0 (subst (λ x. Bared before closing x) (sym same) (Bared-bearing none before closing n2 0 b))

pub Bared-in_flow : (k : Kind) (parts : Parts) (w : Progress) (n : Nodes) → Inlined parts → (in_flow k parts w).later.items ≡ plain n → Bared false (in_flow k parts w).pre n
Bared-in_flow k parts w n t e =
    let d = Done-run_closed w (made_of (Flow k) parts w) (Ready-made_of k parts t w) in
    Bared-same false (in_flow k parts w).pre n d.later (sym e ∙ d.items) d.bared
