-- Converted children of a parent nest under that parent, the depth aside.
use Rattle.std.proofs.Common.{◌≡◌, ℕ, Bool, true, false, if◌then◌else◌, List, [], ◌∷◌, ◌++◌, map, Option, Some, None, refl, sym, ap, ◌∙◌, subst}
use Rattle.std.specs.Prelude.{chars}
use Rattle.model_spelling.specs.Grammar.{Attr as Spelled, Comment, token_text}
use Rattle.model_spelling.specs.Forest.{Forest, spelling}
use Rattle.ve_kinds.specs.declared.kind.Kind.{Kind}
use Rattle.ve_kinds.specs.declared.kind.Kind.TheVariants.{P, Ref, InternalList}
use Rattle.ve_kinds.specs.Table.{kind_same, may_hold, is_content_branch}
use Rattle.ve_base.specs.declared.marks.Mark.{Mark}
use Rattle.ve_base.specs.declared.head.Head.{Head}
use Rattle.ve_base.specs.Empty.{empty_head}
use Rattle.model_items.specs.declared.plain_item.PlainItem.{PlainItem}
use Rattle.model_items.specs.declared.plain_item.PlainItem.TheVariants.{Char, Opening, Closing}
use Rattle.model_page.specs.Elements.{is_white}
use Rattle.model_page.specs.Parts.{Parts, Ended, Words, Note, Group, Single, Parent}
use Rattle.model_page.specs.Fit.{Around, Flow, Structural, Content, Fit, Annotation, Leaf, Branch, Whole, around_in, fit_of, group_kind, note_kind}
use Rattle.ve_kinds.specs.Table.{is_inline_leaf}
use Rattle.model_page.specs.Heads.{characters, head_with, whole_head}
use Rattle.model_page.specs.Pieces.{SourceSpan, Piece, Owner, Made, Progress, past, source_span, no_piece, node, leaf, chars_piece, items_after, with_white, run_dropped, run_ended, run_closed, in_run, before_run, leaf_before}
use Rattle.model_page.specs.ReferenceNodes.{RefNode, ref_of}
use Rattle.model_page.specs.Convert.{marks_at, marked_around, element_source, inside_of, inside_piece, words_before, group_made, leaf_made, element_made, made_of}
use Rattle.model_page_law.specs.Origins.{origin_before, origins_of}
use Rattle.model_page_law.proofs.KindFits.{inline_held, Sane, Matches, matches, Stands, LeafFits, HoldsRuns, ref_fits, group_fits, note_fits, no_reference, Held, FitStands, fit_stands}

-- ---- items that nest under a parent

-- the innermost kind that is open inside of the parent, or the parent
abbrev pub innermost : Kind → List Kind → Kind
innermost parent [] = parent
innermost parent (k ∷ outer) = k

abbrev pub Closes : List Kind → Kind → (List Kind → Type 0) → Type 0
Closes [] kind rest = ⊥
Closes (k ∷ outer) kind rest = (k ≡ kind) × rest outer

-- where these kinds are open inside of the parent, the items lead to those; no opening has an
-- origin
abbrev pub Nests : Kind → List Kind → List PlainItem → List Kind → Type 0
Nests parent open_kinds [] after_them = open_kinds ≡ after_them
Nests parent open_kinds (Char c marks ∷ items) after_them = (is_content_branch (innermost parent open_kinds) ≡ true) × Nests parent open_kinds items after_them
Nests parent open_kinds (Opening kind head marks pre origin generated ∷ items) after_them =
    (may_hold (innermost parent open_kinds) kind ≡ true) × (kind_same kind InternalList ≡ false) × (origin ≡ None) × Nests parent (kind ∷ open_kinds) items after_them
Nests parent open_kinds (Closing kind pre ∷ items) after_them = Closes open_kinds kind (λ outer. Nests parent outer items after_them)

-- whole nodes
abbrev pub Holds : Kind → List PlainItem → Type 0
Holds parent items = Nests parent [] items []

closes_then : (s : List Kind) (kind : Kind) (a b : List Kind → Type 0) → ((outer : List Kind) → a outer → b outer) → Closes s kind a → Closes s kind b
closes_then [] kind a b f h = h
closes_then (k ∷ outer) kind a b f h = (h.0, f outer h.1)

pub Nests-append : (parent : Kind) (xs ys : List PlainItem) (s t u : List Kind) → Nests parent s xs t → Nests parent t ys u → Nests parent s (xs ++ ys) u
Nests-append parent [] ys s t u h g = subst (λ k. Nests parent k ys u) (sym h) g
Nests-append parent (Char c marks ∷ xs) ys s t u h g = (h.0, Nests-append parent xs ys s t u h.1 g)
Nests-append parent (Opening kind head marks pre origin generated ∷ xs) ys s t u h g = (h.0, h.1, h.2, Nests-append parent xs ys (kind ∷ s) t u h.3 g)
Nests-append parent (Closing kind pre ∷ xs) ys s t u h g =
    closes_then s kind (λ outer. Nests parent outer xs t) (λ outer. Nests parent outer (xs ++ ys) u) (λ outer k. Nests-append parent xs ys outer t u k g) h

-- inside of more kinds
inside_closes : (r s : List Kind) (kind : Kind) (a b : List Kind → Type 0) → ((outer : List Kind) → a outer → b (outer ++ s)) → Closes r kind a → Closes (r ++ s) kind b
inside_closes [] s kind a b f h = absurd h
inside_closes (k ∷ outer) s kind a b f h = (h.0, f outer h.1)

innermost_same : (parent k : Kind) (r s : List Kind) → innermost parent s ≡ k → innermost k r ≡ innermost parent (r ++ s)
innermost_same parent k [] s e = sym e
innermost_same parent k (j ∷ outer) s e = refl

Nests-inside : (parent k : Kind) (s : List Kind) → innermost parent s ≡ k → (items : List PlainItem) (r t : List Kind) → Nests k r items t → Nests parent (r ++ s) items (t ++ s)
Nests-inside parent k s e [] r t h = ap (λ x. x ++ s) h
Nests-inside parent k s e (Char c marks ∷ items) r t h = (ap is_content_branch (sym (innermost_same parent k r s e)) ∙ h.0, Nests-inside parent k s e items r t h.1)
Nests-inside parent k s e (Opening kind head marks pre origin generated ∷ items) r t h =
    (ap (λ j. may_hold j kind) (sym (innermost_same parent k r s e)) ∙ h.0, h.1, h.2, Nests-inside parent k s e items (kind ∷ r) t h.3)
Nests-inside parent k s e (Closing kind pre ∷ items) r t h =
    inside_closes r s kind (λ outer. Nests k outer items t) (λ outer. Nests parent outer items (t ++ s)) (λ outer g. Nests-inside parent k s e items outer t g) h

pub Holds-node : (parent kind : Kind) (head : Head) (marks : List Mark) (before : List ℕ) (generated : Bool) (inside : List PlainItem) (pre : List ℕ) →
    may_hold parent kind ≡ true → kind_same kind InternalList ≡ false → Holds kind inside → Holds parent (Opening kind head marks before None generated ∷ inside ++ Closing kind pre ∷ [])
Holds-node parent kind head marks before generated inside pre may other h =
    (may, other, refl, Nests-append parent inside (Closing kind pre ∷ []) (kind ∷ []) (kind ∷ []) [] (Nests-inside parent kind (kind ∷ []) refl inside [] [] h) (refl, refl))

pub Holds-append : (parent : Kind) (xs ys : List PlainItem) → Holds parent xs → Holds parent ys → Holds parent (xs ++ ys)
Holds-append parent xs ys h g = Nests-append parent xs ys [] [] [] h g

Nests-items_after : (parent : Kind) (white : List ℕ) (items : List PlainItem) (s t : List Kind) → Nests parent s items t → Nests parent s (items_after white items) t
Nests-items_after parent white [] s t h = h
Nests-items_after parent white (Char c marks ∷ items) s t h = h
Nests-items_after parent white (Opening kind head marks pre origin generated ∷ items) s t h = h
Nests-items_after parent white (Closing kind pre ∷ items) s t h = h

-- what nests has no origins
unplaced_closing : (s : List Kind) (kind : Kind) (nests : List Kind → Type 0) (origins : List ℕ) → Closes s kind nests → ((outer : List Kind) → nests outer → origins ≡ []) → origins ≡ []
unplaced_closing [] kind nests origins h f = absurd h
unplaced_closing (k ∷ outer) kind nests origins h f = f outer h.1

pub unplaced : (parent : Kind) (items : List PlainItem) (s t : List Kind) → Nests parent s items t → origins_of items ≡ []
unplaced parent [] s t h = refl
unplaced parent (Char c marks ∷ items) s t h = unplaced parent items s t h.1
unplaced parent (Opening kind head marks pre origin generated ∷ items) s t h = ap (λ o. origin_before o (origins_of items)) h.2 ∙ unplaced parent items (kind ∷ s) t h.3
unplaced parent (Closing kind pre ∷ items) s t h =
    unplaced_closing s kind (λ outer. Nests parent outer items t) (origins_of items) h (λ outer g. unplaced parent items outer t g)

-- ---- content

-- what every content branch may hold
abbrev pub Inline : List PlainItem → Type 0
Inline items = (parent : Kind) → is_content_branch parent ≡ true → Holds parent items

Inline-append : (xs ys : List PlainItem) → Inline xs → Inline ys → Inline (xs ++ ys)
Inline-append xs ys h g parent e = Holds-append parent xs ys (h parent e) (g parent e)

Inline-chars : (marks : List Mark) (text : List ℕ) → Inline (map (λ c. Char c marks) text)
Inline-chars marks [] parent e = refl
Inline-chars marks (c ∷ cs) parent e = (e, Inline-chars marks cs parent e)

-- ---- what is made

abbrev pub Blocks : Around → List PlainItem → Type 0
Blocks (Content marks) items = Unit {0}
Blocks (Flow k) items = Holds k items
Blocks (Structural k) items = Holds k items

-- a structural parent has no runs
abbrev pub Unsourced : Around → List ℕ → Type 0
Unsourced (Content marks) source = Unit {0}
Unsourced (Flow k) source = Unit {0}
Unsourced (Structural k) source = source ≡ []

pub record Meets (around : Around) (m : Made) : Type 0 where
  pub run : Inline m.run.items
  pub later : Blocks around m.later.items
  pub source : Unsourced around m.source

none_unsourced : (around : Around) → Unsourced around []
none_unsourced (Content marks) = tt
none_unsourced (Flow k) = tt
none_unsourced (Structural k) = refl

Blocks-items_after : (around : Around) (white : List ℕ) (items : List PlainItem) → Blocks around items → Blocks around (items_after white items)
Blocks-items_after (Content marks) white items h = tt
Blocks-items_after (Flow k) white items h = Nests-items_after k white items [] [] h
Blocks-items_after (Structural k) white items h = Nests-items_after k white items [] [] h

Blocks-append : (around : Around) (xs ys : List PlainItem) → Blocks around xs → Blocks around ys → Blocks around (xs ++ ys)
Blocks-append (Content marks) xs ys h g = tt
Blocks-append (Flow k) xs ys h g = Holds-append k xs ys h g
Blocks-append (Structural k) xs ys h g = Holds-append k xs ys h g

Blocks-node : (around : Around) (kind : Kind) (head : Head) (marks : List Mark) (generated : Bool) (span : SourceSpan) (inside : Piece) (pre : List ℕ) →
    Held around kind → kind_same kind InternalList ≡ false → Holds kind inside.items → Blocks around (node kind head marks generated span inside pre).items
Blocks-node (Content m) kind head marks generated span inside pre may other h = tt
Blocks-node (Flow k) kind head marks generated span inside pre may other h = Holds-node k kind head marks [] generated inside.items pre may other h
Blocks-node (Structural k) kind head marks generated span inside pre may other h = Holds-node k kind head marks [] generated inside.items pre may other h

Meets-with_white : (around : Around) (white : List ℕ) (m : Made) → Meets around m → Meets around (with_white white m)
Meets-with_white around white m h = record { run = h.run; later = Blocks-items_after around white m.later.items h.later; source = h.source }

Meets-run_dropped : (around : Around) (m : Made) → Meets around m → Meets around (run_dropped m)
Meets-run_dropped around m h = record { run = λ parent e. refl; later = h.later; source = none_unsourced around }

Meets-chosen : (around : Around) (c : Bool) (a b : Made) → Meets around a → Meets around b → Meets around (if c then a else b)
Meets-chosen around true a b f g = f
Meets-chosen around false a b f g = g

-- a run becomes a paragraph in a flow parent alone
Blocks-paragraph : (around : Around) → Sane around → (b : ℕ) (bs : List ℕ) → Unsourced around (b ∷ bs) → (span : SourceSpan) (run : Piece) → Inline run.items → Blocks around (node P empty_head [] true span run []).items
Blocks-paragraph (Content marks) s b bs u span run h = tt
Blocks-paragraph (Flow k) s b bs u span run h = Blocks-node (Flow k) P empty_head [] true span run [] s.1 refl (h P refl)
Blocks-paragraph (Structural k) s b bs u span run h = cc

Meets-run_ended : (around : Around) → Sane around → (source : List ℕ) → Unsourced around source → (w : Progress) (m : Made) → Meets around m → Meets around (run_ended source w m)
Meets-run_ended around s [] u w m h = Meets-run_dropped around m h
Meets-run_ended around s (b ∷ bs) u w m h =
    Meets-chosen around (is_white (b ∷ bs)) _ _ (Meets-with_white around (chars (b ∷ bs)) (run_dropped m) (Meets-run_dropped around m h)) (record {
      run = λ parent e. refl;
      later = Blocks-append around (node P empty_head [] true (source_span w (b ∷ bs)) m.run []).items m.later.items (Blocks-paragraph around s b bs u (source_span w (b ∷ bs)) m.run h.run) h.later;
      source = none_unsourced around;
    })

pub Meets-run_closed : (around : Around) → Sane around → (w : Progress) (m : Made) → Meets around m → Meets around (run_closed w m)
Meets-run_closed around s w m h = Meets-run_ended around s m.source h.source w m h

Meets-in_run : (around : Around) → HoldsRuns around → (piece : Piece) (source : List ℕ) (owners : List Owner) (m : Made) → Inline piece.items → Meets around m → Meets around (in_run piece source owners m)
Meets-in_run (Content marks) r piece source owners m p h = record { run = Inline-append piece.items m.run.items p h.run; later = tt; source = tt }
Meets-in_run (Flow k) r piece source owners m p h = record { run = Inline-append piece.items m.run.items p h.run; later = h.later; source = tt }
Meets-in_run (Structural k) r piece source owners m p h = absurd r

Meets-before_run : (around : Around) → Sane around → (w : Progress) (piece : Piece) (owners : List Owner) (m : Made) → Blocks around piece.items → Meets around m → Meets around (before_run w piece owners m)
Meets-before_run around s w piece owners m p h =
    let g = Meets-run_closed around s w m h in
    record { run = g.run; later = Blocks-append around piece.items (run_closed w m).later.items p g.later; source = g.source }

-- ---- leaves

Inline-leaf : (kind : Kind) (head : Head) (marks : List Mark) (span : SourceSpan) → is_inline_leaf kind ≡ true → kind_same kind InternalList ≡ false → Inline (leaf kind head marks span).items
Inline-leaf kind head marks span i other parent e = Holds-node parent kind head marks [] false [] [] (inline_held parent kind e i) other refl

stands_in : (around : Around) (kind : Kind) → Stands around kind true → HoldsRuns around
stands_in (Content marks) kind h = tt
stands_in (Flow k) kind h = tt
stands_in (Structural k) kind h = h

stands_held : (around : Around) (kind : Kind) → Stands around kind false → Held around kind
stands_held (Content marks) kind h = tt
stands_held (Flow k) kind h = h
stands_held (Structural k) kind h = h

Meets-leaf_before : (around : Around) → Sane around → (w : Progress) (kind : Kind) (head : Head) (marks : List Mark) (source : List ℕ) (owners : List Owner) (m : Made) →
    LeafFits around kind → Meets around m → Meets around (leaf_before w kind head marks source owners m)
Meets-leaf_before around s w kind head marks source owners m f h = by (is_inline_leaf kind) refl f.1
  where
    by : (c : Bool) → is_inline_leaf kind ≡ c → Stands around kind c → Meets around (
        if c
        then in_run (leaf kind head marks (source_span w source)) source owners m
        else before_run (past w source owners) (leaf kind head marks (source_span w source)) owners m)
    by true e g = Meets-in_run around (stands_in around kind g) (leaf kind head marks (source_span w source)) source owners m (Inline-leaf kind head marks (source_span w source) e f.0) h
    by false e g =
        Meets-before_run around s (past w source owners) (leaf kind head marks (source_span w source)) owners m
        (Blocks-node around kind head marks false (source_span w source) no_piece [] (stands_held around kind g) f.0 refl) h

-- ---- each part

Meets-words_before : (around : Around) (text : List ℕ) (m : Made) → Meets around m → Meets around (words_before around text m)
Meets-words_before (Structural k) text m h = Meets-with_white (Structural k) (chars text) m h
Meets-words_before (Flow k) text m h = Meets-in_run (Flow k) tt (chars_piece [] (characters text)) text [] m (Inline-chars [] (characters text)) h
Meets-words_before (Content marks) text m h = Meets-in_run (Content marks) tt (chars_piece marks (characters text)) text [] m (Inline-chars marks (characters text)) h

Meets-group_made : (around : Around) → Sane around → (nodes : Forest) (later : Progress → Made) (w : Progress) (r : Option RefNode) → ref_of w around nodes ≡ r →
    ((p : Progress) → Meets around (later p)) → Meets around (group_made around nodes later w r)
Meets-group_made around s nodes later w None e h =
    Meets-leaf_before around s w (group_kind around nodes) (whole_head (spelling nodes)) (marks_at around) (spelling nodes) [] (later (past w (spelling nodes) [])) (group_fits around s nodes) (h (past w (spelling nodes) []))
Meets-group_made (Content marks) s nodes later w (Some r) e h =
    Meets-leaf_before (Content marks) s w Ref r.head marks (spelling nodes) r.owners (later (past w (spelling nodes) r.owners)) (ref_fits (Content marks) tt) (h (past w (spelling nodes) r.owners))
Meets-group_made (Flow k) s nodes later w (Some r) e h =
    Meets-leaf_before (Flow k) s w Ref r.head [] (spelling nodes) r.owners (later (past w (spelling nodes) r.owners)) (ref_fits (Flow k) tt) (h (past w (spelling nodes) r.owners))
Meets-group_made (Structural k) s nodes later w (Some r) e h = absurd (none_some r (sym (no_reference w k nodes) ∙ e))
  where
    none_some : (r : RefNode) → None ≡ Some r → ⊥
    none_some r e = cc

Meets-leaf_made : (around : Around) → Sane around → (attrs : List Spelled) (source : List ℕ) (later : Progress → Made) (w : Progress) (fit : Fit) → FitStands around fit →
    ((p : Progress) → Meets around (later p)) → Meets around (leaf_made around attrs source later w fit)
Meets-leaf_made around s attrs source later w (Leaf kind) f h = Meets-leaf_before around s w kind (head_with attrs) (marks_at around) source [] (later (past w source [])) f (h (past w source []))
Meets-leaf_made around s attrs source later w (Whole kind) f h = Meets-leaf_before around s w kind (whole_head source) (marks_at around) source [] (later (past w source [])) f (h (past w source []))
Meets-leaf_made around s attrs source later w Annotation f h =
    Meets-leaf_before around s w (note_kind around) (whole_head source) (marks_at around) source [] (later (past w source [])) (note_fits around s) (h (past w source []))
Meets-leaf_made around s attrs source later w (Branch kind) f h =
    Meets-leaf_before around s w (note_kind around) (whole_head source) (marks_at around) source [] (later (past w source [])) (note_fits around s) (h (past w source []))

-- what is inside of a branch
Holds-inside : (k : Kind) (around : Around) → Matches k around → Sane around → (w : Progress) (m : Made) → Meets around m → Holds k (inside_piece around w m).later.items
Holds-inside k (Content marks) e s w m h = h.run k e
Holds-inside k (Flow j) e s w m h = subst (λ i. Holds i (run_closed w m).later.items) e (Meets-run_closed (Flow j) s w m h).later
Holds-inside k (Structural j) e s w m h = subst (λ i. Holds i m.later.items) e h.later

Meets-element_made : (around : Around) → Sane around → (name : List ℕ) (attrs : List Spelled) (source : List ℕ) (children : Around → Progress → Made) (later : Progress → Made) (w : Progress) (fit : Fit) → FitStands around fit →
    ((a : Around) → Sane a → (p : Progress) → Meets a (children a p)) → ((p : Progress) → Meets around (later p)) → Meets around (element_made around name attrs source children later w fit)
Meets-element_made around s name attrs source children later w Annotation f g h =
    let inside = children (marked_around around name attrs) (inside_of w name attrs) in
    Meets-in_run around f inside.run source inside.owners (later (past w source inside.owners)) (g (marked_around around name attrs) tt (inside_of w name attrs)).run (h (past w source inside.owners))
Meets-element_made around s name attrs source children later w (Branch kind) f g h =
    let at = inside_of w name attrs in
    let inside = inside_piece (around_in kind) at (children (around_in kind) at) in
    let after = past w source inside.owners in
    Meets-before_run around s after (node kind (head_with attrs) [] false (source_span w source) inside.later inside.pre) inside.owners (later after)
    (Blocks-node around kind (head_with attrs) [] false (source_span w source) inside.later inside.pre f.1 f.0 (Holds-inside kind (around_in kind) (matches kind) f.2 at (children (around_in kind) at) (g (around_in kind) f.2 at)))
    (h after)
Meets-element_made around s name attrs source children later w (Leaf kind) f g h = Meets-leaf_made around s attrs source later w (Leaf kind) f h
Meets-element_made around s name attrs source children later w (Whole kind) f g h = Meets-leaf_made around s attrs source later w (Whole kind) f h

pub Meets-made_of : (around : Around) → Sane around → (parts : Parts) (w : Progress) → Meets around (made_of around parts w)
Meets-made_of around s Ended w = record { run = λ parent e. refl; later = none around; source = none_unsourced around }
  where
    none : (a : Around) → Blocks a []
    none (Content marks) = tt
    none (Flow k) = refl
    none (Structural k) = refl
Meets-made_of around s (Words text later) w = Meets-words_before around text (made_of around later (past w text [])) (Meets-made_of around s later (past w text []))
Meets-made_of around s (Note text later) w =
    Meets-leaf_made around s [] (token_text (Comment text)) (made_of around later) w (Whole (note_kind around)) (note_fits around s) (λ p. Meets-made_of around s later p)
Meets-made_of around s (Group nodes later) w = Meets-group_made around s nodes (made_of around later) w (ref_of w around nodes) refl (λ p. Meets-made_of around s later p)
Meets-made_of around s (Single name attrs source later) w =
    Meets-leaf_made around s attrs source (made_of around later) w (fit_of around name Ended) (fit_stands around s name Ended) (λ p. Meets-made_of around s later p)
Meets-made_of around s (Parent name attrs children later) w =
    Meets-element_made around s name attrs (element_source name attrs children) (λ a. made_of a children) (made_of around later) w (fit_of around name children) (fit_stands around s name children)
    (λ a t p. Meets-made_of a t children p) (λ p. Meets-made_of around s later p)
