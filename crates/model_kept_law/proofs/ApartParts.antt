-- Parts without references make the same items wherever they stand, and have no owners.
use Rattle.std.proofs.Common.{◌≡◌, ℕ, Bool, true, false, if◌then◌else◌, List, [], ◌∷◌, ◌++◌, None, refl, sym, ap, ◌∙◌, subst}
use Rattle.std.specs.Prelude.{chars}
use Rattle.model_spelling.specs.Grammar.{Attr as Spelled, Comment, token_text}
use Rattle.model_spelling.specs.Forest.{Forest, spelling}
use Rattle.ve_kinds.specs.declared.kind.Kind.{Kind}
use Rattle.ve_kinds.specs.declared.kind.Kind.TheVariants.{P}
use Rattle.ve_kinds.specs.Table.{is_inline_leaf}
use Rattle.ve_base.specs.declared.marks.Mark.{Mark}
use Rattle.ve_base.specs.declared.head.Head.{Head}
use Rattle.ve_base.specs.Empty.{empty_head}
use Rattle.model_items.specs.declared.plain_item.PlainItem.TheVariants.{Opening, Closing}
use Rattle.model_page.specs.Elements.{is_white}
use Rattle.model_page.specs.Parts.{Parts, Ended, Words, Note, Group, Single, Parent}
use Rattle.model_page.specs.Fit.{Around, Flow, Structural, Content, Fit, Annotation, Leaf, Branch, Whole, around_in, fit_of, group_kind, note_kind}
use Rattle.model_page.specs.Heads.{characters, head_with, whole_head}
use Rattle.model_page.specs.Pieces.{SourceSpan, Piece, Owner, Made, Progress, past, source_span, leaf, node, chars_piece, items_after, white_left, with_white, run_dropped, paragraph_before, run_ended, run_closed, in_run, before_run, leaf_before}
use Rattle.model_page.specs.ReferenceNodes.{ref_of}
use Rattle.model_page.specs.Convert.{marks_at, marked_around, element_source, inside_of, inside_piece, words_before, group_made, leaf_made, element_made, made_of}
use Rattle.model_page_law.proofs.BlankLemmas.{run_ended-owners}

-- nowhere is the group a reference
abbrev pub Unreferred : Forest → Type 0
Unreferred nodes = (place : Progress) (around : Around) → ref_of place around nodes ≡ None

-- no group among the parts, at any depth, is one
abbrev pub Apart : Parts → Type 0
Apart Ended = Unit {0}
Apart (Words text later) = Apart later
Apart (Note text later) = Apart later
Apart (Group nodes later) = Unreferred nodes × Apart later
Apart (Single name attrs source later) = Apart later
Apart (Parent name attrs children later) = Apart children × Apart later

-- ---- the same items

-- all but spans and owners
pub record Same (a b : Made) : Type 0 where
  pub run : a.run.items ≡ b.run.items
  pub source : a.source ≡ b.source
  pub later : a.later.items ≡ b.later.items
  pub pre : a.pre ≡ b.pre

Same-chosen : (c : Bool) (a b x y : Made) → Same a x → Same b y → Same (if c then a else b) (if c then x else y)
Same-chosen true a b x y f g = f
Same-chosen false a b x y f g = g

Same-with_white : (white : List ℕ) (a b : Made) → Same a b → Same (with_white white a) (with_white white b)
Same-with_white white a b s = record { run = s.run; source = s.source; later = ap (items_after white) s.later; pre = (λ i. white_left white (s.later i) (s.pre i)) }

Same-run_dropped : (a b : Made) → Same a b → Same (run_dropped a) (run_dropped b)
Same-run_dropped a b s = record { run = refl; source = refl; later = s.later; pre = s.pre }

Same-paragraph : (u v : SourceSpan) (a b : Made) → Same a b → Same (paragraph_before u a) (paragraph_before v b)
Same-paragraph u v a b s = record { run = refl; source = refl; later = (λ i. Opening P empty_head [] [] None true ∷ (s.run i ++ Closing P [] ∷ []) ++ s.later i); pre = s.pre }

Same-run_ended : (part : List ℕ) (w v : Progress) (a b : Made) → Same a b → Same (run_ended part w a) (run_ended part v b)
Same-run_ended [] w v a b s = Same-run_dropped a b s
Same-run_ended (c ∷ cs) w v a b s =
    Same-chosen (is_white (c ∷ cs)) _ _ _ _ (Same-with_white (chars (c ∷ cs)) (run_dropped a) (run_dropped b) (Same-run_dropped a b s)) (Same-paragraph (source_span w (c ∷ cs)) (source_span v (c ∷ cs)) a b s)

pub Same-run_closed : (w v : Progress) (a b : Made) → Same a b → Same (run_closed w a) (run_closed v b)
Same-run_closed w v a b s = subst (λ t. Same (run_closed w a) (run_ended t v b)) s.source (Same-run_ended a.source w v a b s)

Same-in_run : (p q : Piece) (part : List ℕ) (c d : List Owner) (a b : Made) → p.items ≡ q.items → Same a b → Same (in_run p part c a) (in_run q part d b)
Same-in_run p q part c d a b e s = record { run = (λ i. e i ++ s.run i); source = ap (λ t. part ++ t) s.source; later = s.later; pre = s.pre }

Same-before_run : (w v : Progress) (p q : Piece) (c d : List Owner) (a b : Made) → p.items ≡ q.items → Same a b → Same (before_run w p c a) (before_run v q d b)
Same-before_run w v p q c d a b e s =
    let r = Same-run_closed w v a b s in
    record { run = r.run; source = r.source; later = (λ i. e i ++ r.later i); pre = r.pre }

-- ---- parts, where `later` makes the ones after them

abbrev Steady : (Progress → Made) → Type 0
Steady made = (w v : Progress) → Same (made w) (made v)

Same-leaf_before : (w v : Progress) (kind : Kind) (head : Head) (marks : List Mark) (part : List ℕ) (c d : List Owner) (a b : Made) → Same a b →
    Same (leaf_before w kind head marks part c a) (leaf_before v kind head marks part d b)
Same-leaf_before w v kind head marks part c d a b s =
    Same-chosen (is_inline_leaf kind) _ _ _ _
    (Same-in_run (leaf kind head marks (source_span w part)) (leaf kind head marks (source_span v part)) part c d a b refl s)
    (Same-before_run (past w part c) (past v part d) (leaf kind head marks (source_span w part)) (leaf kind head marks (source_span v part)) c d a b refl s)

Same-leaf_made : (around : Around) (attrs : List Spelled) (part : List ℕ) (later : Progress → Made) (w v : Progress) (fit : Fit) → Steady later →
    Same (leaf_made around attrs part later w fit) (leaf_made around attrs part later v fit)
Same-leaf_made around attrs part later w v (Leaf kind) s = Same-leaf_before w v kind (head_with attrs) (marks_at around) part [] [] _ _ (s (past w part []) (past v part []))
Same-leaf_made around attrs part later w v (Whole kind) s = Same-leaf_before w v kind (whole_head part) (marks_at around) part [] [] _ _ (s (past w part []) (past v part []))
Same-leaf_made around attrs part later w v Annotation s = Same-leaf_before w v (note_kind around) (whole_head part) (marks_at around) part [] [] _ _ (s (past w part []) (past v part []))
Same-leaf_made around attrs part later w v (Branch kind) s = Same-leaf_before w v (note_kind around) (whole_head part) (marks_at around) part [] [] _ _ (s (past w part []) (past v part []))

pub Same-inside_piece : (around : Around) (w v : Progress) (a b : Made) → Same a b → Same (inside_piece around w a) (inside_piece around v b)
Same-inside_piece (Content marks) w v a b s = record { run = s.run; source = s.source; later = s.run; pre = s.pre }
Same-inside_piece (Flow kind) w v a b s = Same-run_closed w v a b s
Same-inside_piece (Structural kind) w v a b s = s

Same-element_made : (around : Around) (name : List ℕ) (attrs : List Spelled) (part : List ℕ) (children : Around → Progress → Made) (later : Progress → Made) (w v : Progress) (fit : Fit) →
    ((a : Around) → Steady (children a)) → Steady later → Same (element_made around name attrs part children later w fit) (element_made around name attrs part children later v fit)
Same-element_made around name attrs part children later w v Annotation g s =
    let x = children (marked_around around name attrs) (inside_of w name attrs) in
    let y = children (marked_around around name attrs) (inside_of v name attrs) in
    Same-in_run x.run y.run part x.owners y.owners _ _ (g (marked_around around name attrs) (inside_of w name attrs) (inside_of v name attrs)).run (s (past w part x.owners) (past v part y.owners))
Same-element_made around name attrs part children later w v (Branch kind) g s =
    let at = inside_of w name attrs in
    let by = inside_of v name attrs in
    let x = inside_piece (around_in kind) at (children (around_in kind) at) in
    let y = inside_piece (around_in kind) by (children (around_in kind) by) in
    let i : Same x y = Same-inside_piece (around_in kind) at by (children (around_in kind) at) (children (around_in kind) by) (g (around_in kind) at by) in
    Same-before_run (past w part x.owners) (past v part y.owners)
    (node kind (head_with attrs) [] false (source_span w part) x.later x.pre) (node kind (head_with attrs) [] false (source_span v part) y.later y.pre) x.owners y.owners _ _
    (λ j. Opening kind (head_with attrs) [] [] None false ∷ i.later j ++ Closing kind (i.pre j) ∷ [])
    (s (past w part x.owners) (past v part y.owners))
Same-element_made around name attrs part children later w v (Leaf kind) g s = Same-leaf_made around attrs part later w v (Leaf kind) s
Same-element_made around name attrs part children later w v (Whole kind) g s = Same-leaf_made around attrs part later w v (Whole kind) s

Same-words_before : (around : Around) (text : List ℕ) (a b : Made) → Same a b → Same (words_before around text a) (words_before around text b)
Same-words_before (Content marks) text a b s = Same-in_run (chars_piece marks (characters text)) (chars_piece marks (characters text)) text [] [] a b refl s
Same-words_before (Flow k) text a b s = Same-in_run (chars_piece [] (characters text)) (chars_piece [] (characters text)) text [] [] a b refl s
Same-words_before (Structural k) text a b s = Same-with_white (chars text) a b s

pub apart_same : (parts : Parts) → Apart parts → (around : Around) (w v : Progress) → Same (made_of around parts w) (made_of around parts v)
apart_same Ended a around w v = record { run = refl; source = refl; later = refl; pre = refl }
apart_same (Words text later) a around w v = Same-words_before around text _ _ (apart_same later a around (past w text []) (past v text []))
apart_same (Note text later) a around w v = Same-leaf_made around [] (token_text (Comment text)) (made_of around later) w v (Whole (note_kind around)) (apart_same later a around)
apart_same (Group nodes later) a around w v =
    subst (λ r. Same (group_made around nodes (made_of around later) w r) (group_made around nodes (made_of around later) v (ref_of v around nodes))) (sym (a.0 w around))
    (subst (λ r. Same (group_made around nodes (made_of around later) w None) (group_made around nodes (made_of around later) v r)) (sym (a.0 v around))
    (Same-leaf_before w v (group_kind around nodes) (whole_head (spelling nodes)) (marks_at around) (spelling nodes) [] [] _ _
    (apart_same later a.1 around (past w (spelling nodes) []) (past v (spelling nodes) []))))
apart_same (Single name attrs source later) a around w v = Same-leaf_made around attrs source (made_of around later) w v (fit_of around name Ended) (apart_same later a around)
apart_same (Parent name attrs children later) a around w v =
    Same-element_made around name attrs (element_source name attrs children) (λ x. made_of x children) (made_of around later) w v (fit_of around name children) (apart_same children a.0) (apart_same later a.1 around)

-- ---- no owners

abbrev Ownerless : (Progress → Made) → Type 0
Ownerless made = (w : Progress) → (made w).owners ≡ []

leaf_before-owners : (w : Progress) (kind : Kind) (head : Head) (marks : List Mark) (part : List ℕ) (m : Made) → m.owners ≡ [] → (leaf_before w kind head marks part [] m).owners ≡ []
leaf_before-owners w kind head marks part m e = chosen (is_inline_leaf kind) (in_run (leaf kind head marks (source_span w part)) part [] m) (before_run (past w part []) (leaf kind head marks (source_span w part)) [] m) e (run_ended-owners m.source (past w part []) m ∙ e)
  where
    chosen : (c : Bool) (x y : Made) → x.owners ≡ [] → y.owners ≡ [] → (if c then x else y).owners ≡ []
    chosen true x y e f = e
    chosen false x y e f = f

leaf_made-owners : (around : Around) (attrs : List Spelled) (part : List ℕ) (later : Progress → Made) (w : Progress) (fit : Fit) → Ownerless later → (leaf_made around attrs part later w fit).owners ≡ []
leaf_made-owners around attrs part later w (Leaf kind) h = leaf_before-owners w kind (head_with attrs) (marks_at around) part (later (past w part [])) (h (past w part []))
leaf_made-owners around attrs part later w (Whole kind) h = leaf_before-owners w kind (whole_head part) (marks_at around) part (later (past w part [])) (h (past w part []))
leaf_made-owners around attrs part later w Annotation h = leaf_before-owners w (note_kind around) (whole_head part) (marks_at around) part (later (past w part [])) (h (past w part []))
leaf_made-owners around attrs part later w (Branch kind) h = leaf_before-owners w (note_kind around) (whole_head part) (marks_at around) part (later (past w part [])) (h (past w part []))

inside_piece-owners : (around : Around) (w : Progress) (m : Made) → (inside_piece around w m).owners ≡ m.owners
inside_piece-owners (Content marks) w m = refl
inside_piece-owners (Flow kind) w m = run_ended-owners m.source w m
inside_piece-owners (Structural kind) w m = refl

element_made-owners : (around : Around) (name : List ℕ) (attrs : List Spelled) (part : List ℕ) (children : Around → Progress → Made) (later : Progress → Made) (w : Progress) (fit : Fit) →
    ((a : Around) → Ownerless (children a)) → Ownerless later → (element_made around name attrs part children later w fit).owners ≡ []
element_made-owners around name attrs part children later w Annotation g h =
    let inside : Made = children (marked_around around name attrs) (inside_of w name attrs) in
    (λ i. g (marked_around around name attrs) (inside_of w name attrs) i ++ h (past w part inside.owners) i)
element_made-owners around name attrs part children later w (Branch kind) g h =
    let at : Progress = inside_of w name attrs in
    let inside : Made = inside_piece (around_in kind) at (children (around_in kind) at) in
    let after : Progress = past w part inside.owners in
    (λ i. (inside_piece-owners (around_in kind) at (children (around_in kind) at) ∙ g (around_in kind) at) i ++ (run_ended-owners (later after).source after (later after) ∙ h after) i)
element_made-owners around name attrs part children later w (Leaf kind) g h = leaf_made-owners around attrs part later w (Leaf kind) h
element_made-owners around name attrs part children later w (Whole kind) g h = leaf_made-owners around attrs part later w (Whole kind) h

words_before-owners : (around : Around) (text : List ℕ) (m : Made) → (words_before around text m).owners ≡ m.owners
words_before-owners (Content marks) text m = refl
words_before-owners (Flow kind) text m = refl
words_before-owners (Structural kind) text m = refl

pub apart_owners : (parts : Parts) → Apart parts → (around : Around) (w : Progress) → (made_of around parts w).owners ≡ []
apart_owners Ended a around w = refl
apart_owners (Words text later) a around w = words_before-owners around text (made_of around later (past w text [])) ∙ apart_owners later a around (past w text [])
apart_owners (Note text later) a around w = leaf_made-owners around [] (token_text (Comment text)) (made_of around later) w (Whole (note_kind around)) (apart_owners later a around)
apart_owners (Group nodes later) a around w =
    ap (λ r. (group_made around nodes (made_of around later) w r).owners) (a.0 w around)
    ∙ leaf_before-owners w (group_kind around nodes) (whole_head (spelling nodes)) (marks_at around) (spelling nodes) (made_of around later (past w (spelling nodes) []))
    (apart_owners later a.1 around (past w (spelling nodes) []))
apart_owners (Single name attrs source later) a around w = leaf_made-owners around attrs source (made_of around later) w (fit_of around name Ended) (apart_owners later a around)
apart_owners (Parent name attrs children later) a around w =
    element_made-owners around name attrs (element_source name attrs children) (λ x. made_of x children) (made_of around later) w (fit_of around name children) (apart_owners children a.0) (apart_owners later a.1 around)
