-- The items that are made inside of marks: they have content where there is a part, and stay in a
-- run.
use Rattle.std.proofs.Common.{◌≡◌, ℕ, Bool, true, false, not, ◌&&◌, ◌||◌, if◌then◌else◌, List, [], ◌∷◌, ◌++◌, Option, Some, None, refl, sym, ap, ◌∙◌}
use Rattle.std.proofs.lemmas.Bool.{and_parts, and_from}
use Rattle.std.specs.Prelude.{chars}
use Rattle.model_spelling.specs.Grammar.{Attr as Spelled, Comment, token_text}
use Rattle.model_spelling.specs.Forest.{Forest, spelling}
use Rattle.ve_kinds.specs.declared.kind.Kind.{Kind}
use Rattle.ve_kinds.specs.declared.kind.Kind.TheVariants.{Ref, Br, Img, TransInline, AlienInline}
use Rattle.ve_base.specs.declared.marks.Mark.{Mark}
use Rattle.ve_base.specs.declared.head.Head.{Head}
use Rattle.ve_kinds.specs.Table.{kind_same}
use Rattle.model_page.specs.Elements.{is_white_char}
use Rattle.model_page.specs.Parts.{Parts, Ended, Words, Note, Group, Single, Parent}
use Rattle.ve_kinds.specs.Tags.{kind_of_tag}
use Rattle.model_page.specs.Tags.{is_annotation_tag}
use Rattle.model_page.specs.Fit.{Around, Content, Fit, Annotation, Leaf, Branch, Whole, has_child, fit_of, fit_in_content, whole_kind, is_generated, group_kind}
use Rattle.ve_kinds.specs.Table.{is_inline_leaf}
use Rattle.model_page.specs.Heads.{characters, attrs_of, head_with, whole_head}
use Rattle.model_page.specs.Pieces.{SourceSpan, Piece, Owner, Made, Progress, past, source_span, joined_pieces, leaf, chars_piece, in_run, leaf_before}
use Rattle.model_page.specs.ReferenceNodes.{RefNode, ref_of}
use Rattle.model_page.specs.Convert.{element_source, inside_of, group_made, leaf_made, element_made, made_of}
use Rattle.model_page_write.specs.Nodes.{Start, Nodes, Empty, Node}
use Rattle.model_page_write.specs.Written.{is_empty, reads_inline, stays_inline, has_content, all_stay_inline}
use Rattle.model_page_law.proofs.NodesLemmas.{followed}
use Rattle.model_page_law.proofs.ShapeLemmas.{plain, plain-followed, letters}
use Rattle.model_page_law.proofs.FollowedNodes.{has_content-followed, all_stay_inline-followed, all_stay_inline-letters, plain-letters, or_left}

-- each text in it has characters
abbrev pub Texted : Parts → Type 0
Texted Ended = Unit {0}
Texted (Words text later) = (is_empty (characters text) ≡ false) × Texted later
Texted (Note text later) = Texted later
Texted (Group nodes later) = Texted later
Texted (Single name attrs source later) = Texted later
Texted (Parent name attrs children later) = Texted children × Texted later

-- the run of what is made inside of marks, which has content where there is a part
pub record Marked (child : Bool) (piece : Piece) : Type 0 where
  pub nodes : Nodes
  pub items : piece.items ≡ plain nodes
  pub content : child ≡ true → has_content nodes ≡ true
  pub stays : all_stay_inline nodes ≡ true

pub Marked-joined_pieces : (child : Bool) (a b : Piece) → Marked true a → Marked child b → Marked true (joined_pieces a b)
Marked-joined_pieces child a b f g = record {
  nodes = followed f.nodes g.nodes;
  items = ap (λ xs. xs ++ b.items) f.items ∙ ap (λ ys. plain f.nodes ++ ys) g.items ∙ sym (plain-followed f.nodes g.nodes);
  content = λ h. has_content-followed f.nodes g.nodes ∙ or_left (has_content f.nodes) (has_content g.nodes) (f.content refl);
  stays = all_stay_inline-followed f.nodes g.nodes f.stays g.stays;
}

pub or_true : (a b : Bool) → (a || true || b) ≡ true
or_true true b = refl
or_true false b = refl

pub Marked-chars : (m : Mark) (ms : List Mark) (text : List ℕ) → is_empty text ≡ false → Marked true (chars_piece (m ∷ ms) text)
Marked-chars m ms [] h = cc
Marked-chars m ms (c ∷ cs) h = record {
  nodes = letters (m ∷ ms) (c ∷ cs);
  items = plain-letters (m ∷ ms) (c ∷ cs);
  content = λ g. or_true (not (is_white_char c)) (has_content (letters (m ∷ ms) cs));
  stays = all_stay_inline-letters (m ∷ ms) (c ∷ cs);
}

pub Marked-leaf : (m : Mark) (ms : List Mark) (kind : Kind) (head : Head) (span : SourceSpan) → Marked true (leaf kind head (m ∷ ms) span)
Marked-leaf m ms kind head span =
    let s : Start = record { kind = kind; head = head; marks = m ∷ ms; pre = []; origin = None; generated = false; body = None } in
    record {
      nodes = Node s Empty [] Empty;
      items = refl;
      content = λ h. refl;
      stays = and_from (stays_inline s) true (or_true (not (kind_same kind TransInline || kind_same kind AlienInline)) (reads_inline head.raw)) refl;
    }

pub Marked-chosen : (child c : Bool) (a b : Made) → c ≡ true → Marked child a.run → Marked child (if c then a else b).run
Marked-chosen child true a b h f = f
Marked-chosen child false a b h f = cc

pub Marked-leaf_before : (m : Mark) (ms : List Mark) (w : Progress) (kind : Kind) (head : Head) (source : List ℕ) (owners : List Owner) (child : Bool) (made : Made) →
    is_inline_leaf kind ≡ true → Marked child made.run → Marked true (leaf_before w kind head (m ∷ ms) source owners made).run
Marked-leaf_before m ms w kind head source owners child made h f =
    Marked-chosen true (is_inline_leaf kind) (in_run (leaf kind head (m ∷ ms) (source_span w source)) source owners made) _ h
    (Marked-joined_pieces child (leaf kind head (m ∷ ms) (source_span w source)) made.run (Marked-leaf m ms kind head (source_span w source)) f)

-- what an element in content becomes
abbrev pub FitsContent : Parts → Fit → Type 0
FitsContent children Annotation = has_child children ≡ true
FitsContent children (Leaf kind) = is_inline_leaf kind ≡ true
FitsContent children (Whole kind) = is_inline_leaf kind ≡ true
FitsContent children (Branch kind) = ⊥

pub FitsContent-chosen : (children : Parts) (a : Bool) → FitsContent children (if a && has_child children then Annotation else Whole AlienInline)
FitsContent-chosen children a = chosen_fit (a && has_child children) (λ h. (and_parts a (has_child children) h).1)
  where
    chosen_fit : (c : Bool) → (c ≡ true → has_child children ≡ true) → FitsContent children (if c then Annotation else Whole AlienInline)
    chosen_fit true h = h refl
    chosen_fit false h = refl

pub FitsContent-kind : (name : List ℕ) (children : Parts) (kind : Option Kind) → FitsContent children (fit_in_content name children kind)
FitsContent-kind name children (Some Br) = refl
FitsContent-kind name children (Some Img) = refl
FitsContent-kind name children kind = FitsContent-chosen children (is_annotation_tag name)

pub inline-whole_kind : (g : Bool) → is_inline_leaf (whole_kind g true) ≡ true
inline-whole_kind true = refl
inline-whole_kind false = refl

pub Marked-group_made : (m : Mark) (ms : List Mark) (nodes : Forest) (later : Progress → Made) (w : Progress) (r : Option RefNode) (child : Bool) →
    ((p : Progress) → Marked child (later p).run) → Marked true (group_made (Content (m ∷ ms)) nodes later w r).run
Marked-group_made m ms nodes later w (Some r) child h =
    let p = past w (spelling nodes) r.owners in Marked-leaf_before m ms w Ref r.head (spelling nodes) r.owners child (later p) refl (h p)
Marked-group_made m ms nodes later w None child h =
    let p = past w (spelling nodes) [] in
    Marked-leaf_before m ms w (group_kind (Content (m ∷ ms)) nodes) (whole_head (spelling nodes)) (spelling nodes) [] child (later p) (inline-whole_kind (is_generated nodes)) (h p)

pub Marked-leaf_made : (m : Mark) (ms : List Mark) (attrs : List Spelled) (source : List ℕ) (later : Progress → Made) (w : Progress) (children : Parts) (fit : Fit) (child : Bool) →
    FitsContent children fit → ((p : Progress) → Marked child (later p).run) → Marked true (leaf_made (Content (m ∷ ms)) attrs source later w fit).run
Marked-leaf_made m ms attrs source later w children (Leaf kind) child f h =
    let p = past w source [] in Marked-leaf_before m ms w kind (head_with attrs) source [] child (later p) f (h p)
Marked-leaf_made m ms attrs source later w children (Whole kind) child f h =
    let p = past w source [] in Marked-leaf_before m ms w kind (whole_head source) source [] child (later p) f (h p)
Marked-leaf_made m ms attrs source later w children Annotation child f h =
    let p = past w source [] in Marked-leaf_before m ms w AlienInline (whole_head source) source [] child (later p) refl (h p)
Marked-leaf_made m ms attrs source later w children (Branch kind) child f h = absurd f

pub Marked-element_made : (m : Mark) (ms : List Mark) (name : List ℕ) (attrs : List Spelled) (source : List ℕ) (made : Around → Progress → Made) (later : Progress → Made) (w : Progress) (children : Parts) (fit : Fit) (child : Bool) →
    FitsContent children fit → ((n : Mark) (ns : List Mark) (p : Progress) → Marked (has_child children) (made (Content (n ∷ ns)) p).run) → ((p : Progress) → Marked child (later p).run) →
    Marked true (element_made (Content (m ∷ ms)) name attrs source made later w fit).run
Marked-element_made m ms name attrs source made later w children Annotation child f g h =
    let n : Mark = record { tag = chars name; attrs = attrs_of attrs } in
    let inside = made (Content (m ∷ (ms ++ n ∷ []))) (inside_of w name attrs) in
    let p = past w source inside.owners in
    let r = g m (ms ++ n ∷ []) (inside_of w name attrs) in
    Marked-joined_pieces child inside.run (later p).run (record { nodes = r.nodes; items = r.items; content = λ e. r.content f; stays = r.stays }) (h p)
Marked-element_made m ms name attrs source made later w children (Branch kind) child f g h = absurd f
Marked-element_made m ms name attrs source made later w children (Leaf kind) child f g h = Marked-leaf_made m ms attrs source later w children (Leaf kind) child f h
Marked-element_made m ms name attrs source made later w children (Whole kind) child f g h = Marked-leaf_made m ms attrs source later w children (Whole kind) child f h

pub Marked-made_of : (parts : Parts) → Texted parts → (m : Mark) (ms : List Mark) (w : Progress) → Marked (has_child parts) (made_of (Content (m ∷ ms)) parts w).run
Marked-made_of Ended t m ms w = record { nodes = Empty; items = refl; content = λ h. cc; stays = refl }
Marked-made_of (Words text later) t m ms w =
    Marked-joined_pieces (has_child later) (chars_piece (m ∷ ms) (characters text)) (made_of (Content (m ∷ ms)) later (past w text [])).run
    (Marked-chars m ms (characters text) t.0) (Marked-made_of later t.1 m ms (past w text []))
Marked-made_of (Note text later) t m ms w =
    Marked-leaf_made m ms [] (token_text (Comment text)) (made_of (Content (m ∷ ms)) later) w Ended (Whole AlienInline) (has_child later) refl (λ p. Marked-made_of later t m ms p)
Marked-made_of (Group nodes later) t m ms w =
    Marked-group_made m ms nodes (made_of (Content (m ∷ ms)) later) w (ref_of w (Content (m ∷ ms)) nodes) (has_child later) (λ p. Marked-made_of later t m ms p)
Marked-made_of (Single name attrs source later) t m ms w =
    Marked-leaf_made m ms attrs source (made_of (Content (m ∷ ms)) later) w Ended (fit_of (Content (m ∷ ms)) name Ended) (has_child later)
    (FitsContent-kind name Ended (kind_of_tag name)) (λ p. Marked-made_of later t m ms p)
Marked-made_of (Parent name attrs children later) t m ms w =
    Marked-element_made m ms name attrs (element_source name attrs children) (λ a. made_of a children) (made_of (Content (m ∷ ms)) later) w children (fit_of (Content (m ∷ ms)) name children) (has_child later)
    (FitsContent-kind name children (kind_of_tag name)) (λ n ns p. Marked-made_of children t.0 n ns p) (λ p. Marked-made_of later t.1 m ms p)
