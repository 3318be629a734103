-- Conversion makes nodes, and one span for each opening.
use Rattle.std.proofs.Common.{◌≡◌, ℕ, suc, ◌+◌, Bool, true, false, if◌then◌else◌, List, [], ◌∷◌, ◌++◌, map, length, Option, Some, None, refl, sym, ap, ◌∙◌, append_assoc, length-append, arith}
use Rattle.std.specs.Prelude.{chars}
use Rattle.model_spelling.specs.Grammar.{Attr as Spelled, Comment, token_text}
use Rattle.model_spelling.specs.Forest.{Forest, spelling}
use Rattle.ve_kinds.specs.declared.kind.Kind.{Kind}
use Rattle.ve_kinds.specs.declared.kind.Kind.TheVariants.{P, Ref}
use Rattle.ve_base.specs.declared.marks.Mark.{Mark}
use Rattle.ve_base.specs.declared.head.Head.{Head}
use Rattle.model_items.specs.declared.plain_item.PlainItem.{PlainItem}
use Rattle.model_items.specs.declared.plain_item.PlainItem.TheVariants.{Char, Opening, Closing}
use Rattle.model_page.specs.Elements.{is_white}
use Rattle.model_page.specs.Parts.{Parts, Ended, Words, Note, Group, Single, Parent}
use Rattle.model_page.specs.Fit.{Around, Flow, Structural, Content, Fit, Annotation, Leaf, Branch, Whole, around_in, fit_of, group_kind, note_kind}
use Rattle.ve_kinds.specs.Table.{is_inline_leaf}
use Rattle.model_page.specs.Heads.{characters, head_with, whole_head}
use Rattle.model_page.specs.Pieces.{SourceSpan, Piece, Owner, Made, Progress, past, source_span, no_piece, joined_pieces, node, leaf, chars_piece, items_after, with_white, run_dropped, paragraph_before, run_ended, run_closed, in_run, before_run, leaf_before}
use Rattle.model_page.specs.ReferenceNodes.{RefNode, ref_of}
use Rattle.model_page.specs.Convert.{marks_at, marked_around, element_source, inside_of, inside_piece, words_before, group_made, leaf_made, element_made, made_of}
use Rattle.ve_base.specs.Empty.{empty_head}
use Rattle.model_page_write.specs.Nodes.{Nodes, Empty, Letter, Node}
use Rattle.model_page_law.proofs.NodesLemmas.{followed}

-- the items of nodes, without what they carry
abbrev pub plain : Nodes → List PlainItem
plain Empty = []
plain (Letter c marks later) = Char c marks ∷ plain later
plain (Node s inside pre later) = Opening s.kind s.head s.marks s.pre s.origin s.generated ∷ plain inside ++ Closing s.kind pre ∷ plain later

abbrev pub openings : Nodes → ℕ
openings Empty = 0
openings (Letter c marks later) = openings later
openings (Node s inside pre later) = suc (openings inside + openings later)

pub plain-followed : (n rest : Nodes) → plain (followed n rest) ≡ plain n ++ plain rest
plain-followed Empty rest = refl
plain-followed (Letter c marks later) rest = ap (λ xs. Char c marks ∷ xs) (plain-followed later rest)
plain-followed (Node s inside pre later) rest =
    ap (λ xs. Opening s.kind s.head s.marks s.pre s.origin s.generated ∷ plain inside ++ Closing s.kind pre ∷ xs) (plain-followed later rest)
    ∙ ap (λ xs. Opening s.kind s.head s.marks s.pre s.origin s.generated ∷ xs) (sym (append_assoc (plain inside) (Closing s.kind pre ∷ plain later) (plain rest)))

pub openings-followed : (n rest : Nodes) → openings (followed n rest) ≡ openings n + openings rest
openings-followed Empty rest = omega arith
openings-followed (Letter c marks later) rest = openings-followed later rest
openings-followed (Node s inside pre later) rest = let e = openings-followed later rest in omega (arith, e)

-- a piece is the items of these nodes
pub record Shaped (piece : Piece) : Type 0 where
  pub nodes : Nodes
  pub items : piece.items ≡ plain nodes
  pub count : length piece.spans ≡ openings nodes

pub Shaped-none : Shaped no_piece
Shaped-none = record { nodes = Empty; items = refl; count = refl }

pub Shaped-joined_pieces : (a b : Piece) → Shaped a → Shaped b → Shaped (joined_pieces a b)
Shaped-joined_pieces a b s t = record {
  nodes = followed s.nodes t.nodes;
  items = ap (λ xs. xs ++ b.items) s.items ∙ ap (λ ys. plain s.nodes ++ ys) t.items ∙ sym (plain-followed s.nodes t.nodes);
  count = let e = length-append a.spans b.spans in let f = openings-followed s.nodes t.nodes in let g = s.count in let h = t.count in omega (arith, e, f, g, h);
}

pub Shaped-node : (kind : Kind) (head : Head) (marks : List Mark) (generated : Bool) (span : SourceSpan) (inside : Piece) (pre : List ℕ) →
    Shaped inside → Shaped (node kind head marks generated span inside pre)
Shaped-node kind head marks generated span inside pre s = record {
  nodes = Node (record { kind = kind; head = head; marks = marks; pre = []; origin = None; generated = generated; body = None }) s.nodes pre Empty;
  items = ap (λ xs. Opening kind head marks [] None generated ∷ xs ++ Closing kind pre ∷ []) s.items;
  count = let e = s.count in omega (arith, e);
}

abbrev pub letters : List Mark → List ℕ → Nodes
letters marks [] = Empty
letters marks (c ∷ cs) = Letter c marks (letters marks cs)

plain-letters : (marks : List Mark) (text : List ℕ) → map (λ c. Char c marks) text ≡ plain (letters marks text)
plain-letters marks [] = refl
plain-letters marks (c ∷ cs) = ap (λ xs. Char c marks ∷ xs) (plain-letters marks cs)

openings-letters : (marks : List Mark) (text : List ℕ) → 0 ≡ openings (letters marks text)
openings-letters marks [] = refl
openings-letters marks (c ∷ cs) = openings-letters marks cs

pub Shaped-chars : (marks : List Mark) (text : List ℕ) → Shaped (chars_piece marks text)
Shaped-chars marks text = record { nodes = letters marks text; items = plain-letters marks text; count = openings-letters marks text }

-- whitespace before the first node
abbrev pub whitened : List ℕ → Nodes → Nodes
whitened white Empty = Empty
whitened white (Letter c marks later) = Letter c marks later
whitened white (Node s inside pre later) = Node (record { kind = s.kind; head = s.head; marks = s.marks; pre = white ++ s.pre; origin = s.origin; generated = s.generated; body = s.body }) inside pre later

pub items_after-plain : (white : List ℕ) (n : Nodes) → items_after white (plain n) ≡ plain (whitened white n)
items_after-plain white Empty = refl
items_after-plain white (Letter c marks later) = refl
items_after-plain white (Node s inside pre later) = refl

openings-whitened : (white : List ℕ) (n : Nodes) → openings (whitened white n) ≡ openings n
openings-whitened white Empty = refl
openings-whitened white (Letter c marks later) = refl
openings-whitened white (Node s inside pre later) = refl

pub record Fine (m : Made) : Type 0 where
  pub run : Shaped m.run
  pub later : Shaped m.later

pub Fine-with_white : (white : List ℕ) (m : Made) → Fine m → Fine (with_white white m)
Fine-with_white white m f = record {
  run = f.run;
  later = record {
    nodes = whitened white f.later.nodes;
    items = ap (items_after white) f.later.items ∙ items_after-plain white f.later.nodes;
    count = f.later.count ∙ sym (openings-whitened white f.later.nodes);
  };
}

Fine-paragraph_before : (span : SourceSpan) (m : Made) → Fine m → Fine (paragraph_before span m)
Fine-paragraph_before span m f = record { run = Shaped-none; later = Shaped-joined_pieces (node P empty_head [] true span m.run []) m.later (Shaped-node P empty_head [] true span m.run [] f.run) f.later }

Fine-chosen : (c : Bool) (a b : Made) → Fine a → Fine b → Fine (if c then a else b)
Fine-chosen true a b f g = f
Fine-chosen false a b f g = g

Fine-run_ended : (source : List ℕ) (w : Progress) (m : Made) → Fine m → Fine (run_ended source w m)
Fine-run_ended [] w m f = record { run = Shaped-none; later = f.later }
Fine-run_ended (b ∷ bs) w m f =
    Fine-chosen (is_white (b ∷ bs)) _ _ (Fine-with_white (chars (b ∷ bs)) (run_dropped m) (record { run = Shaped-none; later = f.later })) (Fine-paragraph_before (source_span w (b ∷ bs)) m f)

pub Fine-run_closed : (w : Progress) (m : Made) → Fine m → Fine (run_closed w m)
Fine-run_closed w m f = Fine-run_ended m.source w m f

pub Fine-in_run : (piece : Piece) (source : List ℕ) (owners : List Owner) (m : Made) → Shaped piece → Fine m → Fine (in_run piece source owners m)
Fine-in_run piece source owners m s f = record { run = Shaped-joined_pieces piece m.run s f.run; later = f.later }

pub Fine-before_run : (w : Progress) (piece : Piece) (owners : List Owner) (m : Made) → Shaped piece → Fine m → Fine (before_run w piece owners m)
Fine-before_run w piece owners m s f =
    let g = Fine-run_closed w m f in
    record { run = g.run; later = Shaped-joined_pieces piece (run_closed w m).later s g.later }

pub Fine-leaf_before : (w : Progress) (kind : Kind) (head : Head) (marks : List Mark) (source : List ℕ) (owners : List Owner) (m : Made) →
    Fine m → Fine (leaf_before w kind head marks source owners m)
Fine-leaf_before w kind head marks source owners m h =
    let s = Shaped-node kind head marks false (source_span w source) no_piece [] Shaped-none in
    Fine-chosen (is_inline_leaf kind) _ _
    (Fine-in_run (leaf kind head marks (source_span w source)) source owners m s h)
    (Fine-before_run (past w source owners) (leaf kind head marks (source_span w source)) owners m s h)

pub Shaped-inside_piece : (around : Around) (w : Progress) (m : Made) → Fine m → Shaped (inside_piece around w m).later
Shaped-inside_piece (Content marks) w m f = f.run
Shaped-inside_piece (Flow kind) w m f = (Fine-run_closed w m f).later
Shaped-inside_piece (Structural kind) w m f = f.later

Fine-words_before : (around : Around) (text : List ℕ) (m : Made) → Fine m → Fine (words_before around text m)
Fine-words_before (Structural kind) text m f = Fine-with_white (chars text) m f
Fine-words_before (Flow kind) text m f = Fine-in_run (chars_piece [] (characters text)) text [] m (Shaped-chars [] (characters text)) f
Fine-words_before (Content marks) text m f = Fine-in_run (chars_piece marks (characters text)) text [] m (Shaped-chars marks (characters text)) f

Fine-group_made : (around : Around) (nodes : Forest) (later : Progress → Made) (w : Progress) (r : Option RefNode) →
    ((p : Progress) → Fine (later p)) → Fine (group_made around nodes later w r)
Fine-group_made around nodes later w (Some r) h = Fine-leaf_before w Ref r.head (marks_at around) (spelling nodes) r.owners (later (past w (spelling nodes) r.owners)) (h (past w (spelling nodes) r.owners))
Fine-group_made around nodes later w None h = Fine-leaf_before w (group_kind around nodes) (whole_head (spelling nodes)) (marks_at around) (spelling nodes) [] (later (past w (spelling nodes) [])) (h (past w (spelling nodes) []))

Fine-leaf_made : (around : Around) (attrs : List Spelled) (source : List ℕ) (later : Progress → Made) (w : Progress) (fit : Fit) →
    ((p : Progress) → Fine (later p)) → Fine (leaf_made around attrs source later w fit)
Fine-leaf_made around attrs source later w (Leaf kind) h = Fine-leaf_before w kind (head_with attrs) (marks_at around) source [] (later (past w source [])) (h (past w source []))
Fine-leaf_made around attrs source later w (Whole kind) h = Fine-leaf_before w kind (whole_head source) (marks_at around) source [] (later (past w source [])) (h (past w source []))
Fine-leaf_made around attrs source later w Annotation h = Fine-leaf_before w (note_kind around) (whole_head source) (marks_at around) source [] (later (past w source [])) (h (past w source []))
Fine-leaf_made around attrs source later w (Branch kind) h = Fine-leaf_before w (note_kind around) (whole_head source) (marks_at around) source [] (later (past w source [])) (h (past w source []))

Fine-element_made : (around : Around) (name : List ℕ) (attrs : List Spelled) (source : List ℕ) (children : Around → Progress → Made) (later : Progress → Made) (w : Progress) (fit : Fit) →
    ((a : Around) (p : Progress) → Fine (children a p)) → ((p : Progress) → Fine (later p)) → Fine (element_made around name attrs source children later w fit)
Fine-element_made around name attrs source children later w Annotation g h =
    let inside = children (marked_around around name attrs) (inside_of w name attrs) in
    Fine-in_run inside.run source inside.owners (later (past w source inside.owners)) (g (marked_around around name attrs) (inside_of w name attrs)).run (h (past w source inside.owners))
Fine-element_made around name attrs source children later w (Branch kind) g h =
    let at = inside_of w name attrs in
    let inside = inside_piece (around_in kind) at (children (around_in kind) at) in
    let after = past w source inside.owners in
    Fine-before_run after (node kind (head_with attrs) [] false (source_span w source) inside.later inside.pre) inside.owners (later after)
    (Shaped-node kind (head_with attrs) [] false (source_span w source) inside.later inside.pre (Shaped-inside_piece (around_in kind) at (children (around_in kind) at) (g (around_in kind) at)))
    (h after)
Fine-element_made around name attrs source children later w (Leaf kind) g h = Fine-leaf_made around attrs source later w (Leaf kind) h
Fine-element_made around name attrs source children later w (Whole kind) g h = Fine-leaf_made around attrs source later w (Whole kind) h

pub Fine-made_of : (around : Around) (parts : Parts) (w : Progress) → Fine (made_of around parts w)
Fine-made_of around Ended w = record { run = Shaped-none; later = Shaped-none }
Fine-made_of around (Words text later) w = Fine-words_before around text (made_of around later (past w text [])) (Fine-made_of around later (past w text []))
Fine-made_of around (Note text later) w = Fine-leaf_made around [] (token_text (Comment text)) (made_of around later) w (Whole (note_kind around)) (λ p. Fine-made_of around later p)
Fine-made_of around (Group nodes later) w = Fine-group_made around nodes (made_of around later) w (ref_of w around nodes) (λ p. Fine-made_of around later p)
Fine-made_of around (Single name attrs source later) w = Fine-leaf_made around attrs source (made_of around later) w (fit_of around name Ended) (λ p. Fine-made_of around later p)
Fine-made_of around (Parent name attrs children later) w =
    Fine-element_made around name attrs (element_source name attrs children) (λ a. made_of a children) (made_of around later) w (fit_of around name children)
    (λ a p. Fine-made_of a children p) (λ p. Fine-made_of around later p)
