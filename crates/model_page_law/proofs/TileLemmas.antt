-- The nodes that conversion makes in a flow parent lie in the source one after the other, each
-- after the whitespace before it, and their spans say where.
use Rattle.std.proofs.Common.{◌≡◌, ℕ, zero, suc, ◌+◌, ◌<◌, Bool, true, false, if◌then◌else◌, List, [], ◌∷◌, ◌++◌, length, Option, Some, None, refl, sym, ap, ◌∙◌, subst, append_assoc, length-append, arith}
use Rattle.std.proofs.lemmas.Bool.{and_parts}
use Rattle.std.proofs.lemmas.Str.{encodes-append, encodes-IsAscii, chars-IsAscii}
use Rattle.std.proofs.lemmas.Grind.{common_steps}
use Rattle.std.specs.Prelude.{chars, encode_utf8_all, IsAscii}
use Rattle.model_spelling.specs.Grammar.{Attr as Spelled, Comment, token_text}
use Rattle.model_spelling.specs.Forest.{Forest, spelling}
use Rattle.ve_kinds.specs.declared.kind.Kind.{Kind}
use Rattle.ve_kinds.specs.declared.kind.Kind.TheVariants.{P, Ref}
use Rattle.ve_base.specs.declared.marks.Mark.{Mark}
use Rattle.ve_base.specs.declared.head.Head.{Head}
use Rattle.model_items.specs.declared.plain_item.PlainItem.TheVariants.{Opening, Closing}
use Rattle.model_page.specs.Elements.{is_white_char, is_white}
use Rattle.model_page.specs.Parts.{Parts, Ended, Words, Note, Group, Single, Parent, source_of}
use Rattle.model_page.specs.Fit.{Around, Flow, Fit, Annotation, Leaf, Branch, Whole, around_in, fit_of, group_kind, note_kind}
use Rattle.ve_kinds.specs.Table.{is_inline_leaf}
use Rattle.model_page.specs.Heads.{characters, head_with, whole_head}
use Rattle.model_page.specs.Pieces.{SourceSpan, Piece, Owner, Made, Progress, past, source_span, no_piece, node, leaf, chars_piece, items_after, white_left, with_white, run_dropped, paragraph_before, run_ended, run_closed, in_run, before_run, leaf_before}
use Rattle.model_page.specs.ReferenceNodes.{RefNode, ref_of}
use Rattle.model_page.specs.Convert.{marked_around, element_source, inside_of, inside_piece, group_made, leaf_made, element_made, made_of, in_flow}
use Rattle.ve_base.specs.Empty.{empty_head}
use Rattle.model_page_write.specs.Nodes.{Start, Nodes, Empty, Letter, Node}
use Rattle.model_page_law.proofs.ShapeLemmas.{plain, openings, Shaped, Shaped-none, whitened, items_after-plain, Fine, Shaped-inside_piece, Fine-made_of}

-- ---- whitespace is ASCII

white_char-small : (c : ℕ) → is_white_char c ≡ true → c < 128
white_char-small c h = grind (arith, common_steps)

pub white-IsAscii : (t : List ℕ) → is_white t ≡ true → IsAscii t
white-IsAscii [] h i = omega arith
white-IsAscii (c ∷ cs) h zero = white_char-small c (and_parts (is_white_char c) (is_white cs) h).0
white-IsAscii (c ∷ cs) h (suc i) = white-IsAscii cs (and_parts (is_white_char c) (is_white cs) h).1 i

pub white-kept : (t : List ℕ) → is_white t ≡ true → encode_utf8_all (chars t) ≡ t
white-kept t h = ap encode_utf8_all (chars-IsAscii t (white-IsAscii t h)) ∙ encodes-IsAscii t (white-IsAscii t h)

-- ---- tiles

abbrev pub white_of : Start → List ℕ
white_of s = encode_utf8_all s.pre

-- The source is the nodes' white texts and sources in turn, and begins at the byte `at`; the spans
-- are those of their openings.
abbrev pub Tiles : ℕ → List SourceSpan → List ℕ → Nodes → Type 0
Tiles at spans source Empty = (source ≡ []) × (spans ≡ [])
Tiles at spans source (Letter c marks later) = ⊥
Tiles at spans source (Node s inside pre later) =
    (part : List ℕ) × (rest : List ℕ) × (inner : List SourceSpan) × (after : List SourceSpan)
    × (source ≡ white_of s ++ (part ++ rest))
    × (spans ≡ record { from = at + length (white_of s); to = at + length (white_of s) + length part } ∷ (inner ++ after))
    × (length inner ≡ openings inside)
    × Tiles (at + length (white_of s) + length part) after rest later

-- what was made of parts with this source, from the byte `at` on
pub record Tiled (at : ℕ) (source : List ℕ) (m : Made) : Type 0 where
  pub nodes : Nodes
  pub items : m.later.items ≡ plain nodes
  pub rest : List ℕ
  pub tiles : Tiles (at + length m.source) m.later.spans rest nodes
  pub spelled : m.source ++ (rest ++ encode_utf8_all m.pre) ≡ source

at_moved : (a b : ℕ) (spans : List SourceSpan) (source : List ℕ) (n : Nodes) → a ≡ b → Tiles a spans source n → Tiles b spans source n
at_moved a b spans source n e t = subst (λ at. Tiles at spans source n) e t

-- one more part in the run
Tiled-in_run : (at : ℕ) (piece : Piece) (source : List ℕ) (owners : List Owner) (m : Made) (suffix : List ℕ) →
    Tiled (at + length source) suffix m → Tiled at (source ++ suffix) (in_run piece source owners m)
Tiled-in_run at piece source owners m suffix t = record {
  nodes = t.nodes;
  items = t.items;
  rest = t.rest;
  tiles = at_moved (at + length source + length m.source) (at + length (source ++ m.source)) m.later.spans t.rest t.nodes (let e = length-append source m.source in omega (arith, e)) t.tiles;
  spelled = append_assoc source m.source (t.rest ++ encode_utf8_all m.pre) ∙ ap (λ s. source ++ s) t.spelled;
}

-- ---- whitespace before tiles

utf8-whitened : (white pre : List ℕ) → is_white white ≡ true → encode_utf8_all (chars white ++ pre) ≡ white ++ encode_utf8_all pre
utf8-whitened white pre h = encodes-append (chars white) pre ∙ ap (λ s. s ++ encode_utf8_all pre) (white-kept white h)

same_spans : (spans : List SourceSpan) (a b c d : ℕ) (later : List SourceSpan) → a ≡ b → c ≡ d →
    spans ≡ record { from = a; to = c } ∷ later → spans ≡ record { from = b; to = d } ∷ later
same_spans spans a b c d later e f h = h ∙ (λ i. record { from = e i; to = f i } ∷ later)

-- The items that are made where the run is over. No run is open, and the rest is nodes, whose
-- source with the whitespace after them is all.
pub record Closed (at : ℕ) (source : List ℕ) (m : Made) : Type 0 where
  pub nodes : Nodes
  pub items : m.later.items ≡ plain nodes
  pub rest : List ℕ
  pub tiles : Tiles at m.later.spans rest nodes
  pub spelled : rest ++ encode_utf8_all m.pre ≡ source

-- by cases on the nodes after the whitespace
Closed-with_white : (at : ℕ) (white : List ℕ) (source rest : List ℕ) (m : Made) (n : Nodes) → is_white white ≡ true →
    m.later.items ≡ plain n → Tiles (at + length white) m.later.spans rest n → rest ++ encode_utf8_all m.pre ≡ source →
    Closed at (white ++ source) (with_white (chars white) m)
Closed-with_white at white source rest m Empty h items t e = record {
  nodes = Empty;
  items = ap (items_after (chars white)) items;
  rest = [];
  tiles = (refl, t.1);
  spelled =
      ap (λ xs. encode_utf8_all (white_left (chars white) xs m.pre)) items
      ∙ utf8-whitened white m.pre h
      ∙ ap (λ s. white ++ (s ++ encode_utf8_all m.pre)) (sym t.0)
      ∙ ap (λ s. white ++ s) e;
}
Closed-with_white at white source rest m (Letter c marks later) h items t e = absurd t
Closed-with_white at white source rest m (Node s inside pre later) h items t e =
    let w : encode_utf8_all (chars white ++ s.pre) ≡ white ++ white_of s = utf8-whitened white s.pre h in
    let l : length (encode_utf8_all (chars white ++ s.pre)) ≡ length white + length (white_of s) = ap length w ∙ length-append white (white_of s) in
    record {
      nodes = whitened (chars white) (Node s inside pre later);
      items = ap (items_after (chars white)) items ∙ items_after-plain (chars white) (Node s inside pre later);
      rest = white ++ rest;
      tiles = (
        t.0,
        t.1,
        t.2,
        t.3,
        ap (λ s. white ++ s) t.4 ∙ sym (append_assoc white (white_of s) (t.0 ++ t.1)) ∙ ap (λ x. x ++ (t.0 ++ t.1)) (sym w),
        same_spans m.later.spans (at + length white + length (white_of s)) (at + length (encode_utf8_all (chars white ++ s.pre)))
            (at + length white + length (white_of s) + length t.0) (at + length (encode_utf8_all (chars white ++ s.pre)) + length t.0) (t.2 ++ t.3)
            (omega (arith, l)) (omega (arith, l)) t.5,
        t.6,
        at_moved (at + length white + length (white_of s) + length t.0) (at + length (encode_utf8_all (chars white ++ s.pre)) + length t.0) t.3 t.1 later (omega (arith, l)) t.7,
      );
      spelled =
          ap (λ xs. (white ++ rest) ++ encode_utf8_all (white_left (chars white) xs m.pre)) items
          ∙ append_assoc white rest (encode_utf8_all m.pre)
          ∙ ap (λ s. white ++ s) e;
    }

Closed-paragraph : (w : Progress) (part source rest : List ℕ) (m : Made) (n : Nodes) (run : Shaped m.run) →
    m.later.items ≡ plain n → Tiles (w.at + length part) m.later.spans rest n → rest ++ encode_utf8_all m.pre ≡ source →
    Closed w.at (part ++ source) (paragraph_before (source_span w part) m)
Closed-paragraph w part source rest m n run items t e =
    let s : Start = record { kind = P; head = empty_head; marks = []; pre = []; origin = None; generated = true; body = None } in
    record {
      nodes = Node s run.nodes [] n;
      items =
          ap (λ xs. Opening P empty_head [] [] None true ∷ (xs ++ Closing P [] ∷ []) ++ m.later.items) run.items
          ∙ ap (λ xs. Opening P empty_head [] [] None true ∷ xs) (append_assoc (plain run.nodes) (Closing P [] ∷ []) m.later.items)
          ∙ ap (λ xs. Opening P empty_head [] [] None true ∷ plain run.nodes ++ Closing P [] ∷ xs) items;
      rest = part ++ rest;
      tiles = (
        part,
        rest,
        m.run.spans,
        m.later.spans,
        refl,
        same_spans (source_span w part ∷ m.run.spans ++ m.later.spans) w.at (w.at + 0) (w.at + length part) (w.at + 0 + length part) (m.run.spans ++ m.later.spans)
            (omega arith) (omega arith) refl,
        run.count,
        at_moved (w.at + length part) (w.at + 0 + length part) m.later.spans rest n (omega arith) t,
      );
      spelled = append_assoc part rest (encode_utf8_all m.pre) ∙ ap (λ s. part ++ s) e;
    }

Closed-chosen : (at : ℕ) (source : List ℕ) (c : Bool) (a b : Made) → (c ≡ true → Closed at source a) → Closed at source b → Closed at source (if c then a else b)
Closed-chosen at source true a b f g = f refl
Closed-chosen at source false a b f g = g

Closed-run_ended : (w : Progress) (part source rest : List ℕ) (m : Made) (n : Nodes) (run : Shaped m.run) →
    m.later.items ≡ plain n → Tiles (w.at + length part) m.later.spans rest n → rest ++ encode_utf8_all m.pre ≡ source →
    Closed w.at (part ++ source) (run_ended part w m)
Closed-run_ended w [] source rest m n run items t e = record {
  nodes = n;
  items = items;
  rest = rest;
  tiles = at_moved (w.at + 0) w.at m.later.spans rest n (omega arith) t;
  spelled = e;
}
Closed-run_ended w (b ∷ bs) source rest m n run items t e =
    Closed-chosen w.at ((b ∷ bs) ++ source) (is_white (b ∷ bs)) _ _
    (λ h. Closed-with_white w.at (b ∷ bs) source rest (run_dropped m) n h items t e)
    (Closed-paragraph w (b ∷ bs) source rest m n run items t e)

pub Closed-run_closed : (w : Progress) (source : List ℕ) (m : Made) → Shaped m.run → Tiled w.at source m → Closed w.at source (run_closed w m)
Closed-run_closed w source m run t =
    subst (λ s. Closed w.at s (run_closed w m)) t.spelled (Closed-run_ended w m.source (t.rest ++ encode_utf8_all m.pre) t.rest m t.nodes run t.items t.tiles refl)

pub run_ended-source : (part : List ℕ) (w : Progress) (m : Made) → (run_ended part w m).source ≡ []
run_ended-source [] w m = refl
run_ended-source (b ∷ bs) w m = chosen_source (is_white (b ∷ bs)) (with_white (chars (b ∷ bs)) (run_dropped m)) (paragraph_before (source_span w (b ∷ bs)) m) refl refl
  where
    chosen_source : (c : Bool) (a b : Made) → a.source ≡ [] → b.source ≡ [] → (if c then a else b).source ≡ []
    chosen_source true a b e f = e
    chosen_source false a b e f = f

-- a block before
Tiled-before_run : (w : Progress) (part source : List ℕ) (kind : Kind) (head : Head) (marks : List Mark) (inside : Piece) (pre : List ℕ) (owners added : List Owner) (m : Made) →
    Shaped inside → Shaped m.run → Tiled (w.at + length part) source m →
    Tiled w.at (part ++ source) (before_run (past w part added) (node kind head marks false (source_span w part) inside pre) owners m)
Tiled-before_run w part source kind head marks inside pre owners added m shape run t =
    let after = past w part added in
    let c = Closed-run_closed after source m run t in
    let closed = run_closed after m in
    let s : Start = record { kind = kind; head = head; marks = marks; pre = []; origin = None; generated = false; body = None } in
    let z : closed.source ≡ [] = run_ended-source m.source after m in
    record {
      nodes = Node s shape.nodes pre c.nodes;
      items =
          ap (λ xs. Opening kind head marks [] None false ∷ (xs ++ Closing kind pre ∷ []) ++ closed.later.items) shape.items
          ∙ ap (λ xs. Opening kind head marks [] None false ∷ xs) (append_assoc (plain shape.nodes) (Closing kind pre ∷ []) closed.later.items)
          ∙ ap (λ xs. Opening kind head marks [] None false ∷ plain shape.nodes ++ Closing kind pre ∷ xs) c.items;
      rest = part ++ c.rest;
      tiles =
          let l : length closed.source ≡ 0 = ap length z in (
            part,
            c.rest,
            inside.spans,
            closed.later.spans,
            refl,
            same_spans (source_span w part ∷ inside.spans ++ closed.later.spans) w.at (w.at + length closed.source + 0) (w.at + length part) (w.at + length closed.source + 0 + length part) (inside.spans ++ closed.later.spans)
                (omega (arith, l)) (omega (arith, l)) refl,
            shape.count,
            at_moved (w.at + length part) (w.at + length closed.source + 0 + length part) closed.later.spans c.rest c.nodes (omega (arith, l)) c.tiles,
          );
      spelled =
          ap (λ s. s ++ ((part ++ c.rest) ++ encode_utf8_all closed.pre)) z
          ∙ append_assoc part c.rest (encode_utf8_all closed.pre)
          ∙ ap (λ s. part ++ s) c.spelled;
    }

Tiled-chosen : (at : ℕ) (source : List ℕ) (c : Bool) (a b : Made) → Tiled at source a → Tiled at source b → Tiled at source (if c then a else b)
Tiled-chosen at source true a b f g = f
Tiled-chosen at source false a b f g = g

-- later parts: what they make is nodes and tiles, from any position at that byte
pub record Following (at : ℕ) (source : List ℕ) (later : Progress → Made) : Type 0 where
  pub fine : (p : Progress) → Fine (later p)
  pub tiled : (p : Progress) → p.at ≡ at → Tiled at source (later p)

Tiled-leaf_before : (w : Progress) (kind : Kind) (head : Head) (marks : List Mark) (part source : List ℕ) (owners : List Owner) (later : Progress → Made) →
    Following (w.at + length part) source later → Tiled w.at (part ++ source) (leaf_before w kind head marks part owners (later (past w part owners)))
Tiled-leaf_before w kind head marks part source owners later f =
    let after = past w part owners in
    Tiled-chosen w.at (part ++ source) (is_inline_leaf kind) _ _
    (Tiled-in_run w.at (leaf kind head marks (source_span w part)) part owners (later after) source (f.tiled after refl))
    (Tiled-before_run w part source kind head marks no_piece [] owners owners (later after) Shaped-none (f.fine after).run (f.tiled after refl))

Tiled-group_made : (k : Kind) (nodes : Forest) (source : List ℕ) (later : Progress → Made) (w : Progress) (r : Option RefNode) →
    Following (w.at + length (spelling nodes)) source later → Tiled w.at (spelling nodes ++ source) (group_made (Flow k) nodes later w r)
Tiled-group_made k nodes source later w (Some r) f = Tiled-leaf_before w Ref r.head [] (spelling nodes) source r.owners later f
Tiled-group_made k nodes source later w None f = Tiled-leaf_before w (group_kind (Flow k) nodes) (whole_head (spelling nodes)) [] (spelling nodes) source [] later f

Tiled-leaf_made : (k : Kind) (attrs : List Spelled) (part source : List ℕ) (later : Progress → Made) (w : Progress) (fit : Fit) →
    Following (w.at + length part) source later → Tiled w.at (part ++ source) (leaf_made (Flow k) attrs part later w fit)
Tiled-leaf_made k attrs part source later w (Leaf kind) f = Tiled-leaf_before w kind (head_with attrs) [] part source [] later f
Tiled-leaf_made k attrs part source later w (Whole kind) f = Tiled-leaf_before w kind (whole_head part) [] part source [] later f
Tiled-leaf_made k attrs part source later w Annotation f = Tiled-leaf_before w (note_kind (Flow k)) (whole_head part) [] part source [] later f
Tiled-leaf_made k attrs part source later w (Branch kind) f = Tiled-leaf_before w (note_kind (Flow k)) (whole_head part) [] part source [] later f

Tiled-element_made : (k : Kind) (name : List ℕ) (attrs : List Spelled) (part source : List ℕ) (children : Around → Progress → Made) (later : Progress → Made) (w : Progress) (fit : Fit) →
    ((a : Around) (p : Progress) → Fine (children a p)) → Following (w.at + length part) source later →
    Tiled w.at (part ++ source) (element_made (Flow k) name attrs part children later w fit)
Tiled-element_made k name attrs part source children later w Annotation g f =
    let inside = children (marked_around (Flow k) name attrs) (inside_of w name attrs) in
    let after = past w part inside.owners in
    Tiled-in_run w.at inside.run part inside.owners (later after) source (f.tiled after refl)
Tiled-element_made k name attrs part source children later w (Branch kind) g f =
    let at = inside_of w name attrs in
    let inside = inside_piece (around_in kind) at (children (around_in kind) at) in
    let after = past w part inside.owners in
    Tiled-before_run w part source kind (head_with attrs) [] inside.later inside.pre inside.owners inside.owners (later after)
    (Shaped-inside_piece (around_in kind) at (children (around_in kind) at) (g (around_in kind) at)) (f.fine after).run (f.tiled after refl)
Tiled-element_made k name attrs part source children later w (Leaf kind) g f = Tiled-leaf_made k attrs part source later w (Leaf kind) f
Tiled-element_made k name attrs part source children later w (Whole kind) g f = Tiled-leaf_made k attrs part source later w (Whole kind) f

following : (k : Kind) (parts : Parts) (at : ℕ) → ((p : Progress) → Tiled p.at (source_of parts) (made_of (Flow k) parts p)) →
    Following at (source_of parts) (made_of (Flow k) parts)
following k parts at h = record {
  fine = λ p. Fine-made_of (Flow k) parts p;
  tiled = λ p e. subst (λ n. Tiled n (source_of parts) (made_of (Flow k) parts p)) e (h p);
}

pub Tiled-made_of : (k : Kind) (parts : Parts) (w : Progress) → Tiled w.at (source_of parts) (made_of (Flow k) parts w)
Tiled-made_of k Ended w = record { nodes = Empty; items = refl; rest = []; tiles = (refl, refl); spelled = refl }
Tiled-made_of k (Words text later) w =
    Tiled-in_run w.at (chars_piece [] (characters text)) text [] (made_of (Flow k) later (past w text [])) (source_of later) (Tiled-made_of k later (past w text []))
Tiled-made_of k (Note text later) w =
    let part = token_text (Comment text) in
    Tiled-leaf_made k [] part (source_of later) (made_of (Flow k) later) w (Whole (note_kind (Flow k)))
    (following k later (w.at + length part) (λ p. Tiled-made_of k later p))
Tiled-made_of k (Group nodes later) w =
    Tiled-group_made k nodes (source_of later) (made_of (Flow k) later) w (ref_of w (Flow k) nodes)
    (following k later (w.at + length (spelling nodes)) (λ p. Tiled-made_of k later p))
Tiled-made_of k (Single name attrs source later) w =
    Tiled-leaf_made k attrs source (source_of later) (made_of (Flow k) later) w (fit_of (Flow k) name Ended)
    (following k later (w.at + length source) (λ p. Tiled-made_of k later p))
Tiled-made_of k (Parent name attrs children later) w =
    let part = element_source name attrs children in
    Tiled-element_made k name attrs part (source_of later) (λ a. made_of a children) (made_of (Flow k) later) w (fit_of (Flow k) name children)
    (λ a p. Fine-made_of a children p)
    (following k later (w.at + length part) (λ p. Tiled-made_of k later p))

-- what stands in a flow parent lies in its source from w on
pub Closed-in_flow : (k : Kind) (parts : Parts) (w : Progress) → Closed w.at (source_of parts) (in_flow k parts w)
Closed-in_flow k parts w = Closed-run_closed w (source_of parts) (made_of (Flow k) parts w) (Fine-made_of (Flow k) parts w).run (Tiled-made_of k parts w)
