-- The spans of what conversion makes lie in the source, between its cuts.
use Rattle.std.proofs.Common.{◌≡◌, ℕ, ◌+◌, ◌<◌, ◌≤◌, Bool, true, false, if◌then◌else◌, List, [], ◌∷◌, ◌++◌, length, Option, Some, None, refl, sym, ap, subst, length-append, arith}
use Rattle.std.specs.Prelude.{chars}
use Rattle.std.specs.List.{AllByRecursion}
use Rattle.model_spelling.specs.Grammar.{Attr as Spelled, Comment, token_text, start_text, end_text}
use Rattle.model_spelling.specs.Forest.{Forest, spelling}
use Rattle.ve_kinds.specs.declared.kind.Kind.{Kind}
use Rattle.ve_kinds.specs.declared.kind.Kind.TheVariants.{Ref}
use Rattle.ve_kinds.specs.Table.{is_inline_leaf}
use Rattle.ve_base.specs.declared.marks.Mark.{Mark}
use Rattle.ve_base.specs.declared.head.Head.{Head}
use Rattle.model_page.specs.Elements.{is_white}
use Rattle.model_page.specs.Parts.{Parts, Ended, Words, Note, Group, Single, Parent, source_of}
use Rattle.model_page.specs.Fit.{Around, Flow, Structural, Content, Fit, Annotation, Leaf, Branch, Whole, around_in, fit_of, group_kind, note_kind}
use Rattle.model_page.specs.Heads.{characters, head_with, whole_head}
use Rattle.model_page.specs.Pieces.{SourceSpan, Piece, Owner, Made, Progress, past, source_span, leaf, node, chars_piece, with_white, run_dropped, run_ended, run_closed, in_run, before_run, leaf_before}
use Rattle.model_page.specs.ReferenceNodes.{RefNode, ref_of}
use Rattle.model_page.specs.Convert.{marks_at, marked_around, element_source, inside_of, inside_piece, words_before, group_made, leaf_made, element_made, made_of, in_flow}
use Rattle.model_page_law.proofs.KindFits.{Sane, FitStands, fit_stands}
use Rattle.model_page_law.proofs.NestLemmas.{Unsourced, Meets-made_of}
use Rattle.model_page_law.proofs.TileLemmas.{run_ended-source}

-- ---- spans between cuts

-- what cuts a text: a test of its positions
abbrev pub Cuts : Type 1
Cuts = ℕ → Type 0

-- from one cut to a later one, within these bounds
pub record IsBetween (B : Cuts) (low high : ℕ) (s : SourceSpan) : Type 0 where
  pub from : low ≤ s.from
  pub some : s.from < s.to
  pub to : s.to ≤ high
  pub first : B s.from
  pub last : B s.to

abbrev pub AreBetween : Cuts → ℕ → ℕ → List SourceSpan → Type 0
AreBetween B low high spans = AllByRecursion (IsBetween B low high) spans

wider : (B : Cuts) (low lower high : ℕ) → lower ≤ low → (spans : List SourceSpan) → AreBetween B low high spans → AreBetween B lower high spans
wider B low lower high l [] h = tt
wider B low lower high l (s ∷ spans) h =
    (record { from = omega (arith, l, h.0.from); some = h.0.some; to = h.0.to; first = h.0.first; last = h.0.last }, wider B low lower high l spans h.1)

both : (B : Cuts) (low high : ℕ) (xs ys : List SourceSpan) → AreBetween B low high xs → AreBetween B low high ys → AreBetween B low high (xs ++ ys)
both B low high [] ys h g = g
both B low high (x ∷ xs) ys h g = (h.0, both B low high xs ys h.1 g)

-- The cuts of parts that begin at a position: after each part, and after each start tag. What
-- becomes a leaf isn't empty.
abbrev pub AreCut : Cuts → ℕ → Parts → Type 0
AreCut B at Ended = Unit {0}
AreCut B at (Words text later) = B (at + length text) × AreCut B (at + length text) later
AreCut B at (Note text later) = B (at + length (token_text (Comment text))) × AreCut B (at + length (token_text (Comment text))) later
AreCut B at (Group nodes later) = (0 < length (spelling nodes)) × B (at + length (spelling nodes)) × AreCut B (at + length (spelling nodes)) later
AreCut B at (Single name attrs source later) = (0 < length source) × B (at + length source) × AreCut B (at + length source) later
AreCut B at (Parent name attrs children later) =
    B (at + length (start_text name attrs false)) × AreCut B (at + length (start_text name attrs false)) children
    × B (at + length (element_source name attrs children)) × AreCut B (at + length (element_source name attrs children)) later

-- The items that were made from a cut on: all spans lie between the cut and the bound, and the
-- run's source ends at a cut.
pub record Ranged (B : Cuts) (low high : ℕ) (m : Made) : Type 0 where
  pub begins : B low
  pub run : AreBetween B low high m.run.spans
  pub later : AreBetween B low high m.later.spans
  pub within : low + length m.source ≤ high
  pub ends : B (low + length m.source)

at_moved : (B : Cuts) (a b : ℕ) → a ≡ b → B a → B b
at_moved B a b e h = subst B e h

spanned : (B : Cuts) (high : ℕ) (w : Progress) (source : List ℕ) → B w.at → B (w.at + length source) → 0 < length source → w.at + length source ≤ high → IsBetween B w.at high (source_span w source)
spanned B high w source first last some le = record { from = omega arith; some = omega (arith, some); to = le; first = first; last = last }

-- ---- runs

Ranged-chosen : (B : Cuts) (low high : ℕ) (c : Bool) (a b : Made) → Ranged B low high a → Ranged B low high b → Ranged B low high (if c then a else b)
Ranged-chosen B low high true a b f g = f
Ranged-chosen B low high false a b f g = g

Ranged-with_white : (B : Cuts) (low high : ℕ) (white : List ℕ) (m : Made) → Ranged B low high m → Ranged B low high (with_white white m)
Ranged-with_white B low high white m r = record { begins = r.begins; run = r.run; later = r.later; within = r.within; ends = r.ends }

Ranged-run_dropped : (B : Cuts) (low high : ℕ) (m : Made) → Ranged B low high m → Ranged B low high (run_dropped m)
Ranged-run_dropped B low high m r = record {
  begins = r.begins;
  run = tt;
  later = r.later;
  within = omega (arith, r.within);
  ends = at_moved B low (low + 0) (omega arith) r.begins;
}

Ranged-run_ended : (B : Cuts) (high : ℕ) (source : List ℕ) (w : Progress) (m : Made) → m.source ≡ source → Ranged B w.at high m → Ranged B w.at high (run_ended source w m)
Ranged-run_ended B high [] w m e r = Ranged-run_dropped B w.at high m r
Ranged-run_ended B high (b ∷ bs) w m e r =
    let dropped = Ranged-run_dropped B w.at high m r in
    let l : length m.source ≡ length (b ∷ bs) = ap length e in
    Ranged-chosen B w.at high (is_white (b ∷ bs)) _ _ (Ranged-with_white B w.at high (chars (b ∷ bs)) (run_dropped m) dropped) (record {
      begins = r.begins;
      run = tt;
      later =
          both B w.at high (source_span w (b ∷ bs) ∷ m.run.spans) m.later.spans
          (spanned B high w (b ∷ bs) r.begins (at_moved B (w.at + length m.source) (w.at + length (b ∷ bs)) (omega (arith, l)) r.ends) (omega arith) (omega (arith, l, r.within)), r.run)
          r.later;
      within = dropped.within;
      ends = dropped.ends;
    })

Ranged-run_closed : (B : Cuts) (high : ℕ) (w : Progress) (m : Made) → Ranged B w.at high m → Ranged B w.at high (run_closed w m)
Ranged-run_closed B high w m r = Ranged-run_ended B high m.source w m refl r

-- one more part in the run
Ranged-in_run : (B : Cuts) (low high : ℕ) (piece : Piece) (source : List ℕ) (owners : List Owner) (m : Made) → B low → AreBetween B low high piece.spans →
    Ranged B (low + length source) high m → Ranged B low high (in_run piece source owners m)
Ranged-in_run B low high piece source owners m b p r =
    let l = length-append source m.source in
    let le : low ≤ low + length source = omega arith in
    record {
      begins = b;
      run = both B low high piece.spans m.run.spans p (wider B (low + length source) low high le m.run.spans r.run);
      later = wider B (low + length source) low high le m.later.spans r.later;
      within = omega (arith, l, r.within);
      ends = at_moved B (low + length source + length m.source) (low + length (source ++ m.source)) (omega (arith, l)) r.ends;
    }

-- a block before
Ranged-before_run : (B : Cuts) (high : ℕ) (w : Progress) (piece : Piece) (source : List ℕ) (added owners : List Owner) (m : Made) → B w.at → AreBetween B w.at high piece.spans →
    Ranged B (w.at + length source) high m → Ranged B w.at high (before_run (past w source added) piece owners m)
Ranged-before_run B high w piece source added owners m b p r =
    let after = past w source added in
    let closed = run_closed after m in
    let c : Ranged B after.at high closed = Ranged-run_closed B high after m r in
    let none : length closed.source ≡ 0 = ap length (run_ended-source m.source after m) in
    let le : w.at ≤ w.at + length source = omega arith in
    record {
      begins = b;
      run = wider B after.at w.at high le closed.run.spans c.run;
      later = both B w.at high piece.spans closed.later.spans p (wider B after.at w.at high le closed.later.spans c.later);
      within = let f = c.within in omega (arith, f);
      ends = at_moved B w.at (w.at + length closed.source) (omega (arith, none)) b;
    }

-- ---- parts, where `later` makes the ones after them

abbrev Following : Cuts → ℕ → ℕ → (Progress → Made) → Type 0
Following B at high later = (p : Progress) → p.at ≡ at → Ranged B at high (later p)

-- a part of this source, which is cut on both sides
record Ahead (B : Cuts) (high : ℕ) (w : Progress) (source : List ℕ) : Type 0 where
  begins : B w.at
  ends : B (w.at + length source)
  some : 0 < length source
  within : w.at + length source ≤ high

Ranged-leaf_before : (B : Cuts) (high : ℕ) (w : Progress) (kind : Kind) (head : Head) (marks : List Mark) (source : List ℕ) (owners : List Owner) (later : Progress → Made) → Ahead B high w source →
    Following B (w.at + length source) high later → Ranged B w.at high (leaf_before w kind head marks source owners (later (past w source owners)))
Ranged-leaf_before B high w kind head marks source owners later a f =
    let after = past w source owners in
    let piece : Piece = leaf kind head marks (source_span w source) in
    let p : AreBetween B w.at high piece.spans = (spanned B high w source a.begins a.ends a.some a.within, tt) in
    Ranged-chosen B w.at high (is_inline_leaf kind) _ _
    (Ranged-in_run B w.at high piece source owners (later after) a.begins p (f after refl))
    (Ranged-before_run B high w piece source owners owners (later after) a.begins p (f after refl))

Ranged-group_made : (B : Cuts) (high : ℕ) (around : Around) (nodes : Forest) (later : Progress → Made) (w : Progress) (r : Option RefNode) → Ahead B high w (spelling nodes) →
    Following B (w.at + length (spelling nodes)) high later → Ranged B w.at high (group_made around nodes later w r)
Ranged-group_made B high around nodes later w (Some r) a f = Ranged-leaf_before B high w Ref r.head (marks_at around) (spelling nodes) r.owners later a f
Ranged-group_made B high around nodes later w None a f = Ranged-leaf_before B high w (group_kind around nodes) (whole_head (spelling nodes)) (marks_at around) (spelling nodes) [] later a f

Ranged-leaf_made : (B : Cuts) (high : ℕ) (around : Around) (attrs : List Spelled) (source : List ℕ) (later : Progress → Made) (w : Progress) (fit : Fit) → Ahead B high w source →
    Following B (w.at + length source) high later → Ranged B w.at high (leaf_made around attrs source later w fit)
Ranged-leaf_made B high around attrs source later w (Leaf kind) a f = Ranged-leaf_before B high w kind (head_with attrs) (marks_at around) source [] later a f
Ranged-leaf_made B high around attrs source later w (Whole kind) a f = Ranged-leaf_before B high w kind (whole_head source) (marks_at around) source [] later a f
Ranged-leaf_made B high around attrs source later w Annotation a f = Ranged-leaf_before B high w (note_kind around) (whole_head source) (marks_at around) source [] later a f
Ranged-leaf_made B high around attrs source later w (Branch kind) a f = Ranged-leaf_before B high w (note_kind around) (whole_head source) (marks_at around) source [] later a f

-- what a branch holds
Ranged-inside_piece : (B : Cuts) (high : ℕ) (around : Around) (w : Progress) (m : Made) → Ranged B w.at high m → AreBetween B w.at high (inside_piece around w m).later.spans
Ranged-inside_piece B high (Content marks) w m r = r.run
Ranged-inside_piece B high (Flow kind) w m r = (Ranged-run_closed B high w m r).later
Ranged-inside_piece B high (Structural kind) w m r = r.later

Ranged-element_made : (B : Cuts) (high : ℕ) (around : Around) (name : List ℕ) (attrs : List Spelled) (source : List ℕ) (children : Around → Progress → Made) (later : Progress → Made) (w : Progress) (fit : Fit) →
    FitStands around fit → Ahead B high w source →
    ((a : Around) → Sane a → Following B (w.at + length (start_text name attrs false)) high (children a)) →
    Following B (w.at + length source) high later → Ranged B w.at high (element_made around name attrs source children later w fit)
Ranged-element_made B high around name attrs source children later w Annotation s a g f =
    let at = inside_of w name attrs in
    let inside = children (marked_around around name attrs) at in
    let le : w.at ≤ at.at = omega arith in
    Ranged-in_run B w.at high inside.run source inside.owners (later (past w source inside.owners)) a.begins
    (wider B at.at w.at high le inside.run.spans (g (marked_around around name attrs) tt at refl).run)
    (f (past w source inside.owners) refl)
Ranged-element_made B high around name attrs source children later w (Branch kind) s a g f =
    let at = inside_of w name attrs in
    let inside = inside_piece (around_in kind) at (children (around_in kind) at) in
    let after = past w source inside.owners in
    let le : w.at ≤ at.at = omega arith in
    Ranged-before_run B high w (node kind (head_with attrs) [] false (source_span w source) inside.later inside.pre) source inside.owners inside.owners (later after) a.begins (
      spanned B high w source a.begins a.ends a.some a.within,
      wider B at.at w.at high le inside.later.spans (Ranged-inside_piece B high (around_in kind) at (children (around_in kind) at) (g (around_in kind) s.2 at refl)),
    )
    (f after refl)
Ranged-element_made B high around name attrs source children later w (Leaf kind) s a g f = Ranged-leaf_made B high around attrs source later w (Leaf kind) a f
Ranged-element_made B high around name attrs source children later w (Whole kind) s a g f = Ranged-leaf_made B high around attrs source later w (Whole kind) a f

-- a text before: a structural parent has no run
Ranged-words_before : (B : Cuts) (high : ℕ) (around : Around) (text : List ℕ) (at : ℕ) (m : Made) → B at → Unsourced around m.source → Ranged B (at + length text) high m →
    Ranged B at high (words_before around text m)
Ranged-words_before B high (Structural kind) text at m b u r =
    let none : length m.source ≡ 0 = ap length u in
    let le : at ≤ at + length text = omega arith in
    record {
      begins = b;
      run = wider B (at + length text) at high le m.run.spans r.run;
      later = wider B (at + length text) at high le m.later.spans r.later;
      within = omega (arith, r.within);
      ends = at_moved B at (at + length m.source) (omega (arith, none)) b;
    }
Ranged-words_before B high (Flow kind) text at m b u r = Ranged-in_run B at high (chars_piece [] (characters text)) text [] m b tt r
Ranged-words_before B high (Content marks) text at m b u r = Ranged-in_run B at high (chars_piece marks (characters text)) text [] m b tt r

-- ---- all parts

-- the part of this source is before these
fits : (at high : ℕ) (source rest : List ℕ) → at + length (source ++ rest) ≤ high → (at + length source ≤ high) × (at + length source + length rest ≤ high)
fits at high source rest h = let l = length-append source rest in (omega (arith, l, h), omega (arith, l, h))

abbrev RangedFrom : Cuts → ℕ → Around → Parts → Type 0
RangedFrom B high around parts = (w : Progress) → w.at + length (source_of parts) ≤ high → B w.at → AreCut B w.at parts → Ranged B w.at high (made_of around parts w)

following : (B : Cuts) (high : ℕ) (around : Around) (parts : Parts) (at : ℕ) → RangedFrom B high around parts → at + length (source_of parts) ≤ high → B at → AreCut B at parts →
    Following B at high (made_of around parts)
following B high around parts at h le b c p e =
    subst (λ n. Ranged B n high (made_of around parts p)) e
    (h p (omega (arith, e, le)) (subst B (sym e) b) (subst (λ n. AreCut B n parts) (sym e) c))

inner-fits : (at high : ℕ) (name : List ℕ) (attrs : List Spelled) (children : Parts) → at + length (element_source name attrs children) ≤ high →
    at + length (start_text name attrs false) + length (source_of children) ≤ high
inner-fits at high name attrs children h =
    let l = length-append (start_text name attrs false ++ source_of children) (end_text name) in
    let k = length-append (start_text name attrs false) (source_of children) in
    omega (arith, l, k, h)

pub Ranged-made_of : (B : Cuts) (high : ℕ) (around : Around) → Sane around → (parts : Parts) → RangedFrom B high around parts
Ranged-made_of B high around s Ended w le b c = record { begins = b; run = tt; later = tt; within = le; ends = at_moved B w.at (w.at + 0) (omega arith) b }
Ranged-made_of B high around s (Words text later) w le b c =
    Ranged-words_before B high around text w.at (made_of around later (past w text [])) b (Meets-made_of around s later (past w text [])).source
    (Ranged-made_of B high around s later (past w text []) (fits w.at high text (source_of later) le).1 c.0 c.1)
Ranged-made_of B high around s (Note text later) w le b c =
    let source : List ℕ = token_text (Comment text) in
    let f = fits w.at high source (source_of later) le in
    Ranged-leaf_made B high around [] source (made_of around later) w (Whole (note_kind around)) (record { begins = b; ends = c.0; some = omega arith; within = f.0 })
    (following B high around later (w.at + length source) (λ p. Ranged-made_of B high around s later p) f.1 c.0 c.1)
Ranged-made_of B high around s (Group nodes later) w le b c =
    let f = fits w.at high (spelling nodes) (source_of later) le in
    Ranged-group_made B high around nodes (made_of around later) w (ref_of w around nodes) (record { begins = b; ends = c.1; some = c.0; within = f.0 })
    (following B high around later (w.at + length (spelling nodes)) (λ p. Ranged-made_of B high around s later p) f.1 c.1 c.2)
Ranged-made_of B high around s (Single name attrs source later) w le b c =
    let f = fits w.at high source (source_of later) le in
    Ranged-leaf_made B high around attrs source (made_of around later) w (fit_of around name Ended) (record { begins = b; ends = c.1; some = c.0; within = f.0 })
    (following B high around later (w.at + length source) (λ p. Ranged-made_of B high around s later p) f.1 c.1 c.2)
Ranged-made_of B high around s (Parent name attrs children later) w le b c =
    let source : List ℕ = element_source name attrs children in
    let f = fits w.at high source (source_of later) le in
    Ranged-element_made B high around name attrs source (λ a. made_of a children) (made_of around later) w (fit_of around name children) (fit_stands around s name children)
    (record { begins = b; ends = c.2; some = omega arith; within = f.0 })
    (λ a t. following B high a children (w.at + length (start_text name attrs false)) (λ p. Ranged-made_of B high a t children p) (inner-fits w.at high name attrs children f.0) c.0 c.1)
    (following B high around later (w.at + length source) (λ p. Ranged-made_of B high around s later p) f.1 c.2 c.3)

-- what stands in a flow parent
pub Ranged-in_flow : (B : Cuts) (high : ℕ) (kind : Kind) → Sane (Flow kind) → (parts : Parts) (w : Progress) → w.at + length (source_of parts) ≤ high → B w.at → AreCut B w.at parts →
    AreBetween B w.at high (in_flow kind parts w).later.spans
Ranged-in_flow B high kind s parts w le b c = (Ranged-run_closed B high w (made_of (Flow kind) parts w) (Ranged-made_of B high (Flow kind) s parts w le b c)).later
