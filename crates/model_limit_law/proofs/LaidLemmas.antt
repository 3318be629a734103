-- Sources of a run stand before those of what comes later.
use Rattle.std.specs.List.{AllByRecursion}
use Rattle.std.specs.Prelude.{chars, nat_lt}
use Rattle.std.proofs.Common.{◌≡◌, ◌≤◌, ℕ, suc, ◌+◌, ◌-◌, Bool, true, false, if◌then◌else◌, List, [], ◌∷◌, ◌++◌, length, Option, Some, None, refl, sym, ap, subst, arith}
use Rattle.std.proofs.lemmas.List.{length-append}
use Rattle.ve_base.specs.Limits.{max_open_kinds}
use Rattle.ve_base.specs.declared.head.Head.{Head}
use Rattle.ve_base.specs.declared.marks.Mark.{Mark}
use Rattle.ve_kinds.specs.Table.{is_inline_leaf}
use Rattle.ve_kinds.specs.declared.kind.Kind.{Kind}
use Rattle.ve_kinds.specs.declared.kind.Kind.TheVariants.{Ref}
use Rattle.model_items.specs.declared.plain_item.PlainItem.{PlainItem}
use Rattle.model_items.specs.declared.plain_item.PlainItem.TheVariants.{Char, Closing, Opening}
use Rattle.model_spelling.specs.Forest.{Forest, spelling}
use Rattle.model_spelling.specs.Grammar.{Attr as Spelled, Comment, end_text, start_text, token_text}
use Rattle.model_page.specs.Convert.{element_made, element_source, group_made, inside_of, inside_piece, leaf_made, made_of, marked_around, marks_at, words_before}
use Rattle.model_page.specs.Elements.{is_white}
use Rattle.model_page.specs.Fit.{Annotation, Around, Branch, Content, Fit, Flow, Leaf, Structural, Whole, around_in, fit_of, group_kind, note_kind}
use Rattle.model_page.specs.Heads.{characters, head_with, whole_head}
use Rattle.model_page.specs.Limits.{deep_at}
use Rattle.model_page.specs.Parts.{Ended, Group, Note, Parent, Parts, Single, Words, source_of}
use Rattle.model_page.specs.Pieces.{Made, Owner, Piece, Progress, SourceSpan, before_run, chars_piece, in_run, leaf, leaf_before, no_piece, node, paragraph_before, past, run_closed, run_dropped, run_ended, source_span, with_white}
use Rattle.model_page.specs.ReferenceNodes.{RefNode, ref_of}
use Rattle.model_page_law.proofs.KindFits.{FitStands, LeafFits, Sane, Stands, fit_stands, group_fits, no_reference, note_fits}
use Rattle.model_page_law.proofs.TileLemmas.{run_ended-source}
use Rattle.model_limit_law.proofs.FirstLemmas.{some_same}

-- ---- spans in an order

abbrev pub Within : ℕ → ℕ → List SourceSpan → Type 0
Within low high spans = AllByRecursion (λ (s : SourceSpan). (low ≤ s.from) × (s.from ≤ high)) spans

pub wider : (low lower high higher : ℕ) (spans : List SourceSpan) → lower ≤ low → high ≤ higher → Within low high spans → Within lower higher spans
wider low lower high higher [] l h w = tt
wider low lower high higher (s ∷ spans) l h w = ((omega (arith, l, w.0.0), omega (arith, h, w.0.1)), wider low lower high higher spans l h w.1)

pub within-append : (low high : ℕ) (xs ys : List SourceSpan) → Within low high xs → Within low high ys → Within low high (xs ++ ys)
within-append low high [] ys v w = w
within-append low high (x ∷ xs) ys v w = (v.0, within-append low high xs ys v.1 w)

pub deep_within : (d : ℕ) (items : List PlainItem) (low high : ℕ) (spans : List SourceSpan) → Within low high spans → (n : ℕ) → deep_at d items spans ≡ Some n → (low ≤ n) × (n ≤ high)
deep_within d [] low high spans w n e = cc
deep_within d (Char c marks ∷ items) low high spans w n e = deep_within d items low high spans w n e
deep_within d (Closing kind pre ∷ items) low high spans w n e = deep_within (d - 1) items low high spans w n e
deep_within d (Opening kind head marks pre origin generated ∷ items) low high [] w n e = cc
deep_within d (Opening kind head marks pre origin generated ∷ items) low high (span ∷ spans) w n e = by (nat_lt d max_open_kinds) e (deep_within (suc d) items low high spans w.1 n)
  where
    by : (b : Bool) → (if b then deep_at (suc d) items spans else Some span.from) ≡ Some n → (deep_at (suc d) items spans ≡ Some n → (low ≤ n) × (n ≤ high)) → (low ≤ n) × (n ≤ high)
    by true e rest = rest e
    by false e rest = let same = some_same span.from n e in (omega (arith, same, w.0.0), omega (arith, same, w.0.1))

-- ---- what is made from a position on

pub record Laid (low high : ℕ) (m : Made) : Type 0 where
  pub run : Within low (low + length m.source) m.run.spans
  pub later : Within (low + length m.source) high m.later.spans
  pub fits : low + length m.source ≤ high

-- a structural parent has no runs
abbrev pub Idle : Around → Made → Type 0
Idle (Content marks) m = Unit {0}
Idle (Flow kind) m = Unit {0}
Idle (Structural kind) m = (m.run.spans ≡ []) × (m.source ≡ [])

pub ended_none : (source : List ℕ) (w : Progress) (m : Made) → (run_ended source w m).run ≡ no_piece
ended_none [] w m = refl
ended_none (b ∷ bs) w m =
    elim (is_white (b ∷ bs)) as (λ c. (if c then with_white (chars (b ∷ bs)) (run_dropped m) else paragraph_before (source_span w (b ∷ bs)) m).run ≡ no_piece) [ true ↦ refl | false ↦ refl ]

before_idle : (around : Around) (w : Progress) (piece : Piece) (owners : List Owner) (m : Made) → Idle around (before_run w piece owners m)
before_idle (Content marks) w piece owners m = tt
before_idle (Flow kind) w piece owners m = tt
before_idle (Structural kind) w piece owners m = (ap (λ (p : Piece). p.spans) (ended_none m.source w m), run_ended-source m.source w m)

pub laid_ended : (high : ℕ) (source : List ℕ) (w : Progress) (m : Made) → m.source ≡ source → Laid w.at high m → Within w.at high (run_ended source w m).later.spans
laid_ended high [] w m e l = wider (w.at + length m.source) w.at high high m.later.spans (omega arith) (omega arith) l.later
laid_ended high (b ∷ bs) w m e l = by (is_white (b ∷ bs))
  where
    by : (c : Bool) → Within w.at high (if c then with_white (chars (b ∷ bs)) (run_dropped m) else paragraph_before (source_span w (b ∷ bs)) m).later.spans
    by true = wider (w.at + length m.source) w.at high high m.later.spans (omega arith) (omega arith) l.later
    by false =
        within-append w.at high (source_span w (b ∷ bs) ∷ m.run.spans) m.later.spans
        ((omega arith, omega (arith, l.fits)), wider w.at w.at (w.at + length m.source) high m.run.spans (omega arith) l.fits l.run)
        (wider (w.at + length m.source) w.at high high m.later.spans (omega arith) (omega arith) l.later)

laid_in_run : (low high : ℕ) (piece : Piece) (source : List ℕ) (owners : List Owner) (m : Made) → Within low (low + length source) piece.spans → Laid (low + length source) high m → Laid low high (in_run piece source owners m)
laid_in_run low high piece source owners m p l =
    let long = length-append source m.source in
    record {
      run =
          within-append low (low + length (source ++ m.source)) piece.spans m.run.spans
          (wider low low (low + length source) (low + length (source ++ m.source)) piece.spans (omega arith) (omega (arith, long)) p)
          (wider (low + length source) low (low + length source + length m.source) (low + length (source ++ m.source)) m.run.spans (omega arith) (omega (arith, long)) l.run);
      later = wider (low + length source + length m.source) (low + length (source ++ m.source)) high high m.later.spans (omega (arith, long)) (omega arith) l.later;
      fits = let f = l.fits in omega (arith, long, f);
    }

laid_before : (high : ℕ) (w : Progress) (piece : Piece) (source : List ℕ) (added owners : List Owner) (m : Made) → Within w.at (w.at + length source) piece.spans → Laid (w.at + length source) high m →
    Laid w.at high (before_run (past w source added) piece owners m)
laid_before high w piece source added owners m p l =
    let after = past w source added in
    let none : length (run_closed after m).source ≡ 0 = ap length (run_ended-source m.source after m) in
    let room : w.at + length source ≤ high = let f = l.fits in omega (arith, f) in
    record {
      run = subst (λ (q : Piece). Within w.at (w.at + length (run_closed after m).source) q.spans) (sym (ended_none m.source after m)) tt;
      later =
          within-append (w.at + length (run_closed after m).source) high piece.spans (run_closed after m).later.spans
          (wider w.at (w.at + length (run_closed after m).source) (w.at + length source) high piece.spans (omega (arith, none)) room p)
          (wider (w.at + length source) (w.at + length (run_closed after m).source) high high (run_closed after m).later.spans (omega (arith, none)) (omega arith) (laid_ended high m.source after m refl l));
      fits = omega (arith, none, room);
    }

pub one_within : (w : Progress) (source : List ℕ) → Within w.at (w.at + length source) (source_span w source ∷ [])
one_within w source = ((omega arith, omega arith), tt)

laid_leaf : (high : ℕ) (w : Progress) (kind : Kind) (head : Head) (marks : List Mark) (source : List ℕ) (owners : List Owner) (m : Made) → Laid (w.at + length source) high m →
    Laid w.at high (leaf_before w kind head marks source owners m)
laid_leaf high w kind head marks source owners m l =
    let piece = leaf kind head marks (source_span w source) in
    elim (is_inline_leaf kind) as (λ b. Laid w.at high (if b then in_run piece source owners m else before_run (past w source owners) piece owners m)) [
      | true ↦ laid_in_run w.at high piece source owners m (one_within w source) l
      | false ↦ laid_before high w piece source owners owners m (one_within w source) l
    ]

leaf_idle : (around : Around) (w : Progress) (kind : Kind) (head : Head) (marks : List Mark) (source : List ℕ) (owners : List Owner) (m : Made) → LeafFits around kind → Idle around (leaf_before w kind head marks source owners m)
leaf_idle (Content outer) w kind head marks source owners m f = tt
leaf_idle (Flow k) w kind head marks source owners m f = tt
leaf_idle (Structural k) w kind head marks source owners m f = by (is_inline_leaf kind) f.1
  where
    by : (b : Bool) → Stands (Structural k) kind b →
        Idle (Structural k) (if b then in_run (leaf kind head marks (source_span w source)) source owners m else before_run (past w source owners) (leaf kind head marks (source_span w source)) owners m)
    by true s = absurd s
    by false s = before_idle (Structural k) (past w source owners) (leaf kind head marks (source_span w source)) owners m

single_idle : (around : Around) (attrs : List Spelled) (source : List ℕ) (later : Progress → Made) (w : Progress) (fit : Fit) → Sane around → FitStands around fit → Idle around (leaf_made around attrs source later w fit)
single_idle around attrs source later w (Leaf kind) s f = leaf_idle around w kind (head_with attrs) (marks_at around) source [] (later (past w source [])) f
single_idle around attrs source later w (Whole kind) s f = leaf_idle around w kind (whole_head source) (marks_at around) source [] (later (past w source [])) f
single_idle around attrs source later w Annotation s f = leaf_idle around w (note_kind around) (whole_head source) (marks_at around) source [] (later (past w source [])) (note_fits around s)
single_idle around attrs source later w (Branch kind) s f = leaf_idle around w (note_kind around) (whole_head source) (marks_at around) source [] (later (past w source [])) (note_fits around s)

group_idle : (k : Kind) (nodes : Forest) (later : Progress → Made) (w : Progress) (r : Option RefNode) → r ≡ None → Sane (Structural k) → Idle (Structural k) (group_made (Structural k) nodes later w r)
group_idle k nodes later w (Some r) none s = cc
group_idle k nodes later w None none s =
    leaf_idle (Structural k) w (group_kind (Structural k) nodes) (whole_head (spelling nodes)) [] (spelling nodes) [] (later (past w (spelling nodes) [])) (group_fits (Structural k) s nodes)

element_idle : (k : Kind) (name : List ℕ) (attrs : List Spelled) (source : List ℕ) (children : Around → Progress → Made) (later : Progress → Made) (w : Progress) (fit : Fit) → Sane (Structural k) → FitStands (Structural k) fit →
    Idle (Structural k) (element_made (Structural k) name attrs source children later w fit)
element_idle k name attrs source children later w Annotation s f = absurd f
element_idle k name attrs source children later w (Branch kind) s f =
    let p = inside_of w name attrs in
    let inside = inside_piece (around_in kind) p (children (around_in kind) p) in
    let after = past w source inside.owners in
    before_idle (Structural k) after (node kind (head_with attrs) [] false (source_span w source) inside.later inside.pre) inside.owners (later after)
element_idle k name attrs source children later w (Leaf kind) s f = single_idle (Structural k) attrs source later w (Leaf kind) s f
element_idle k name attrs source children later w (Whole kind) s f = single_idle (Structural k) attrs source later w (Whole kind) s f

idle_made : (k : Kind) → Sane (Structural k) → (parts : Parts) (w : Progress) → Idle (Structural k) (made_of (Structural k) parts w)
idle_made k s Ended w = (refl, refl)
idle_made k s (Words text later) w = idle_made k s later (past w text [])
idle_made k s (Note text later) w = single_idle (Structural k) [] (token_text (Comment text)) (made_of (Structural k) later) w (Whole (note_kind (Structural k))) s (note_fits (Structural k) s)
idle_made k s (Group nodes later) w = group_idle k nodes (made_of (Structural k) later) w (ref_of w (Structural k) nodes) (no_reference w k nodes) s
idle_made k s (Single name attrs source later) w = single_idle (Structural k) attrs source (made_of (Structural k) later) w (fit_of (Structural k) name Ended) s (fit_stands (Structural k) s name Ended)
idle_made k s (Parent name attrs children later) w =
    element_idle k name attrs (element_source name attrs children) (λ a. made_of a children) (made_of (Structural k) later) w (fit_of (Structural k) name children) s (fit_stands (Structural k) s name children)

pub made_idle : (around : Around) → Sane around → (parts : Parts) (w : Progress) → Idle around (made_of around parts w)
made_idle (Content marks) s parts w = tt
made_idle (Flow kind) s parts w = tt
made_idle (Structural kind) s parts w = idle_made kind s parts w

laid_words : (around : Around) (text : List ℕ) (low high : ℕ) (m : Made) → Idle around m → Laid (low + length text) high m → Laid low high (words_before around text m)
laid_words (Content marks) text low high m i l = laid_in_run low high (chars_piece marks (characters text)) text [] m tt l
laid_words (Flow kind) text low high m i l = laid_in_run low high (chars_piece [] (characters text)) text [] m tt l
laid_words (Structural kind) text low high m i l =
    let none : length m.source ≡ 0 = ap length i.1 in
    record {
      run = subst (Within low (low + length m.source)) (sym i.0) tt;
      later = wider (low + length text + length m.source) (low + length m.source) high high m.later.spans (omega arith) (omega arith) l.later;
      fits = let f = l.fits in omega (arith, f);
    }

-- ---- all parts

pub fits : (at high : ℕ) (source rest : List ℕ) → at + length (source ++ rest) ≤ high → (at + length source ≤ high) × (at + length source + length rest ≤ high)
fits at high source rest h = let l = length-append source rest in (omega (arith, l, h), omega (arith, l, h))

pub inner_fits : (at high : ℕ) (name : List ℕ) (attrs : List Spelled) (children : Parts) → at + length (element_source name attrs children) ≤ high → at + length (start_text name attrs false) + length (source_of children) ≤ high
inner_fits at high name attrs children h =
    let l = length-append (start_text name attrs false ++ source_of children) (end_text name) in
    let k = length-append (start_text name attrs false) (source_of children) in
    omega (arith, l, k, h)

abbrev pub AreLaid : Parts → Type 0
AreLaid parts = (around : Around) → Sane around → (w : Progress) (high : ℕ) → w.at + length (source_of parts) ≤ high → Laid w.at high (made_of around parts w)

pub laid_inside : (high : ℕ) (around : Around) (w : Progress) (m : Made) → Laid w.at high m → Within w.at high (inside_piece around w m).later.spans
laid_inside high (Content marks) w m l = wider w.at w.at (w.at + length m.source) high m.run.spans (omega arith) l.fits l.run
laid_inside high (Flow kind) w m l = laid_ended high m.source w m refl l
laid_inside high (Structural kind) w m l = wider (w.at + length m.source) w.at high high m.later.spans (omega arith) (omega arith) l.later

group_laid : (high : ℕ) (around : Around) (nodes : Forest) (later : Progress → Made) (w : Progress) (r : Option RefNode) → ((owners : List Owner) → Laid (w.at + length (spelling nodes)) high (later (past w (spelling nodes) owners))) →
    Laid w.at high (group_made around nodes later w r)
group_laid high around nodes later w (Some r) h = laid_leaf high w Ref r.head (marks_at around) (spelling nodes) r.owners (later (past w (spelling nodes) r.owners)) (h r.owners)
group_laid high around nodes later w None h = laid_leaf high w (group_kind around nodes) (whole_head (spelling nodes)) (marks_at around) (spelling nodes) [] (later (past w (spelling nodes) [])) (h [])

single_laid : (high : ℕ) (around : Around) (attrs : List Spelled) (source : List ℕ) (later : Progress → Made) (w : Progress) (fit : Fit) → Laid (w.at + length source) high (later (past w source [])) →
    Laid w.at high (leaf_made around attrs source later w fit)
single_laid high around attrs source later w (Leaf kind) h = laid_leaf high w kind (head_with attrs) (marks_at around) source [] (later (past w source [])) h
single_laid high around attrs source later w (Whole kind) h = laid_leaf high w kind (whole_head source) (marks_at around) source [] (later (past w source [])) h
single_laid high around attrs source later w Annotation h = laid_leaf high w (note_kind around) (whole_head source) (marks_at around) source [] (later (past w source [])) h
single_laid high around attrs source later w (Branch kind) h = laid_leaf high w (note_kind around) (whole_head source) (marks_at around) source [] (later (past w source [])) h

pub run_laid : (low high : ℕ) (m : Made) → Laid low high m → Within low high m.run.spans
run_laid low high m l = wider low low (low + length m.source) high m.run.spans (omega arith) l.fits l.run

element_laid : (high : ℕ) (around : Around) (name : List ℕ) (attrs : List Spelled) (children later : Parts) (w : Progress) (fit : Fit) → FitStands around fit → AreLaid children →
    ((owners : List Owner) → Laid (w.at + length (element_source name attrs children)) high (made_of around later (past w (element_source name attrs children) owners))) →
    Laid w.at high (element_made around name attrs (element_source name attrs children) (λ a. made_of a children) (made_of around later) w fit)
element_laid high around name attrs children later w Annotation f g h =
    let p = inside_of w name attrs in
    let source = element_source name attrs children in
    let inside = made_of (marked_around around name attrs) children p in
    let end = w.at + length source in
    let within = run_laid p.at end inside (g (marked_around around name attrs) tt p end (inner_fits w.at end name attrs children (omega arith))) in
    laid_in_run w.at high inside.run source inside.owners (made_of around later (past w source inside.owners)) (wider p.at w.at end end inside.run.spans (omega arith) (omega arith) within) (h inside.owners)
element_laid high around name attrs children later w (Branch kind) f g h =
    let p = inside_of w name attrs in
    let source = element_source name attrs children in
    let a = around_in kind in
    let made = made_of a children p in
    let inside = inside_piece a p made in
    let end = w.at + length source in
    let within = laid_inside end a p made (g a f.2 p end (inner_fits w.at end name attrs children (omega arith))) in
    laid_before high w (node kind (head_with attrs) [] false (source_span w source) inside.later inside.pre) source inside.owners inside.owners (made_of around later (past w source inside.owners))
    ((omega arith, omega arith), wider p.at w.at end end inside.later.spans (omega arith) (omega arith) within) (h inside.owners)
element_laid high around name attrs children later w (Leaf kind) f g h = single_laid high around attrs (element_source name attrs children) (made_of around later) w (Leaf kind) (h [])
element_laid high around name attrs children later w (Whole kind) f g h = single_laid high around attrs (element_source name attrs children) (made_of around later) w (Whole kind) (h [])

pub laid_made : (parts : Parts) → AreLaid parts
laid_made Ended around s w high h = record { run = tt; later = tt; fits = h }
laid_made (Words text later) around s w high h =
    let p = past w text [] in
    laid_words around text w.at high (made_of around later p) (made_idle around s later p) (laid_made later around s p high (fits w.at high text (source_of later) h).1)
laid_made (Note text later) around s w high h =
    let source = token_text (Comment text) in
    single_laid high around [] source (made_of around later) w (Whole (note_kind around)) (laid_made later around s (past w source []) high (fits w.at high source (source_of later) h).1)
laid_made (Group nodes later) around s w high h =
    group_laid high around nodes (made_of around later) w (ref_of w around nodes) (λ owners. laid_made later around s (past w (spelling nodes) owners) high (fits w.at high (spelling nodes) (source_of later) h).1)
laid_made (Single name attrs source later) around s w high h =
    single_laid high around attrs source (made_of around later) w (fit_of around name Ended) (laid_made later around s (past w source []) high (fits w.at high source (source_of later) h).1)
laid_made (Parent name attrs children later) around s w high h =
    let source = element_source name attrs children in
    element_laid high around name attrs children later w (fit_of around name children) (fit_stands around s name children) (laid_made children)
    (λ owners. laid_made later around s (past w source owners) high (fits w.at high source (source_of later) h).1)
