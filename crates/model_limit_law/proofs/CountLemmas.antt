-- Each marked item of what is converted has as many marks as positions.
use Rattle.std.specs.Prelude.{chars, nat_lt}
use Rattle.std.proofs.Common.{◌≡◌, ℕ, ◌+◌, Bool, true, false, cond, ◌&&◌, if◌then◌else◌, List, [], ◌∷◌, ◌++◌, length, map, Option, Some, None, refl, sym, ap, ◌∙◌, subst, append_assoc}
use Rattle.std.proofs.lemmas.List.{append-nil, map-append}
use Rattle.std.proofs.lemmas.List.Elements.{filter-append}
use Rattle.ve_base.specs.Empty.{empty_head}
use Rattle.ve_base.specs.declared.head.Head.{Head}
use Rattle.ve_base.specs.declared.marks.Mark.{Mark}
use Rattle.ve_kinds.specs.Table.{is_inline_leaf, may_hold}
use Rattle.ve_kinds.specs.Tags.{kind_of_tag}
use Rattle.ve_kinds.specs.declared.kind.Kind.{Kind}
use Rattle.ve_kinds.specs.declared.kind.Kind.TheVariants.{AlienBlock, P, Ref}
use Rattle.model_items.specs.declared.plain_item.PlainItem.{PlainItem}
use Rattle.model_items.specs.declared.plain_item.PlainItem.TheVariants.{Char, Closing, Opening}
use Rattle.model_spelling.specs.Forest.{Forest, spelling}
use Rattle.model_spelling.specs.Grammar.{Attr as Spelled, Comment, start_text, token_text}
use Rattle.model_edit.specs.Marking.{item_marks}
use Rattle.model_page.specs.Convert.{element_made, element_source, group_made, inside_of, inside_piece, leaf_made, made_of, marked_around, marks_at, words_before}
use Rattle.model_page.specs.Elements.{is_white}
use Rattle.model_page.specs.Fit.{Annotation, Around, Branch, Content, Fit, Flow, Leaf, Structural, Whole, around_in, fit_in_block, fit_of, group_kind, is_convertible, is_generated, note_kind}
use Rattle.model_page.specs.Heads.{characters, head_with, whole_head}
use Rattle.model_page.specs.Parts.{Ended, Group, Note, Parent, Parts, Single, Words}
use Rattle.model_page.specs.Pieces.{Made, Owner, Piece, Progress, SourceSpan, before_run, chars_piece, in_run, items_after, leaf, leaf_before, node, paragraph_before, past, run_closed, run_dropped, run_ended, source_span, with_white}
use Rattle.model_page.specs.ReferenceNodes.{RefNode, ref_of}
use Rattle.model_page_law.proofs.InlinedLemmas.{is_white-parts}
use Rattle.model_page_law.proofs.MarkedLemmas.{FitsContent, FitsContent-kind, inline-whole_kind}
use Rattle.model_limit_law.specs.Counted.{MarksHavePlaces, mark_counts, mark_places, place_counts}
use Rattle.model_limit_law.proofs.PlaceLemmas.{Even, even_in, even_more, places_by}

-- ---- lists of counts

marks-append : (xs ys : List PlainItem) → mark_counts (xs ++ ys) ≡ mark_counts xs ++ mark_counts ys
marks-append xs ys = ap (Rattle.std.specs.List.filter (nat_lt 0)) (map-append (λ item. length (item_marks item)) xs ys) ∙ filter-append (nat_lt 0) (map (λ item. length (item_marks item)) xs) (map (λ item. length (item_marks item)) ys)

places-append : (xs ys : List (List ℕ)) → place_counts (xs ++ ys) ≡ place_counts xs ++ place_counts ys
places-append xs ys = ap (Rattle.std.specs.List.filter (nat_lt 0)) (map-append length xs ys) ∙ filter-append (nat_lt 0) (map length xs) (map length ys)

letters_counted : (outer : List ℕ) (marks : List Mark) (text : List ℕ) → length outer ≡ length marks → mark_counts (map (λ c. Char c marks) text) ≡ place_counts (map (λ (c : ℕ). outer) text)
letters_counted outer marks [] e = refl
letters_counted outer marks (c ∷ text) e = sym (λ i. let rest = sym (letters_counted outer marks text e) in cond (nat_lt 0 (e i)) (e i ∷ rest i) (rest i))

letters_unmarked : (outer text : List ℕ) → length outer ≡ 0 → place_counts (map (λ (c : ℕ). outer) text) ≡ []
letters_unmarked outer [] e = refl
letters_unmarked outer (c ∷ text) e = (λ i. let rest = letters_unmarked outer text e in cond (nat_lt 0 (e i)) (e i ∷ rest i) (rest i))

after_counted : (white : List ℕ) (items : List PlainItem) → mark_counts (items_after white items) ≡ mark_counts items
after_counted white [] = refl
after_counted white (Char c marks ∷ items) = refl
after_counted white (Opening kind head marks pre origin generated ∷ items) = refl
after_counted white (Closing kind pre ∷ items) = refl

node_counted : (kind : Kind) (head : Head) (generated : Bool) (span : SourceSpan) (inside : Piece) (pre : List ℕ) → mark_counts (node kind head [] generated span inside pre).items ≡ mark_counts inside.items
node_counted kind head generated span inside pre = marks-append inside.items (Closing kind pre ∷ []) ∙ append-nil (mark_counts inside.items)

leaf_counted : (outer : List ℕ) (kind : Kind) (head : Head) (marks : List Mark) (span : SourceSpan) → length outer ≡ length marks → mark_counts (leaf kind head marks span).items ≡ place_counts (outer ∷ [])
leaf_counted outer kind head marks span e = sym (λ i. cond (nat_lt 0 (e i)) (e i ∷ []) [])

-- ---- what is made, by where it stands

-- whitespace that is left out has no marks
abbrev Settled : Around → Made → Type 0
Settled (Content marks) m = mark_counts m.later.items ≡ []
Settled (Flow kind) m = is_white m.source ≡ true → mark_counts m.run.items ≡ []
Settled (Structural kind) m = mark_counts m.run.items ≡ []

record Counts (around : Around) (counts : List ℕ) (m : Made) : Type 0 where
  all : mark_counts m.run.items ++ mark_counts m.later.items ≡ counts
  settled : Settled around m

ended_counted : (source : List ℕ) (w : Progress) (m : Made) → (is_white source ≡ true → mark_counts m.run.items ≡ []) →
    mark_counts (run_ended source w m).later.items ≡ mark_counts m.run.items ++ mark_counts m.later.items
ended_counted [] w m h = ap (λ xs. xs ++ mark_counts m.later.items) (sym (h refl))
ended_counted (b ∷ bs) w m h = by (is_white (b ∷ bs)) h
  where
    by : (c : Bool) → (c ≡ true → mark_counts m.run.items ≡ []) →
        mark_counts (if c then with_white (chars (b ∷ bs)) (run_dropped m) else paragraph_before (source_span w (b ∷ bs)) m).later.items ≡ mark_counts m.run.items ++ mark_counts m.later.items
    by true h = after_counted (chars (b ∷ bs)) m.later.items ∙ ap (λ xs. xs ++ mark_counts m.later.items) (sym (h refl))
    by false h =
        let paragraph = node P empty_head [] true (source_span w (b ∷ bs)) m.run [] in
        marks-append paragraph.items m.later.items ∙ ap (λ xs. xs ++ mark_counts m.later.items) (node_counted P empty_head true (source_span w (b ∷ bs)) m.run [])

ended_run : (source : List ℕ) (w : Progress) (m : Made) → mark_counts (run_ended source w m).run.items ≡ []
ended_run [] w m = refl
ended_run (b ∷ bs) w m =
    elim (is_white (b ∷ bs)) as (λ c. mark_counts (if c then with_white (chars (b ∷ bs)) (run_dropped m) else paragraph_before (source_span w (b ∷ bs)) m).run.items ≡ []) [
      | true ↦ refl
      | false ↦ refl
    ]

abbrev pub NotContent : Around → Type 0
NotContent (Content marks) = ⊥
NotContent _ = Unit {0}

may_end : (around : Around) (m : Made) → NotContent around → Settled around m → is_white m.source ≡ true → mark_counts m.run.items ≡ []
may_end (Content marks) m n s = absurd n
may_end (Flow kind) m n s = s
may_end (Structural kind) m n s = λ white. s

inside_counted : (around : Around) (counts : List ℕ) (w : Progress) (m : Made) → Counts around counts m → mark_counts (inside_piece around w m).later.items ≡ counts
inside_counted (Content marks) counts w m c = sym (append-nil (mark_counts m.run.items)) ∙ ap (λ xs. mark_counts m.run.items ++ xs) (sym c.settled) ∙ c.all
inside_counted (Flow kind) counts w m c = ended_counted m.source w m c.settled ∙ c.all
inside_counted (Structural kind) counts w m c = ap (λ xs. xs ++ mark_counts m.later.items) (sym c.settled) ∙ c.all

-- ---- a part before

-- what a run takes in has no marks where it is whitespace, and none in a structural parent
abbrev Colored : Around → List ℕ → List ℕ → Type 0
Colored (Content marks) source counts = Unit {0}
Colored (Flow kind) source counts = is_white source ≡ true → counts ≡ []
Colored (Structural kind) source counts = counts ≡ []

run_settled : (around : Around) (piece : Piece) (source extra : List ℕ) (owners : List Owner) (m : Made) → mark_counts piece.items ≡ extra → Colored around source extra → Settled around m →
    Settled around (in_run piece source owners m)
run_settled (Content marks) piece source extra owners m e c s = s
run_settled (Flow kind) piece source extra owners m e c s = λ white.
    let parts = is_white-parts source m.source white in
    marks-append piece.items m.run.items ∙ (λ i. (e ∙ c parts.0) i ++ s parts.1 i)
run_settled (Structural kind) piece source extra owners m e c s = marks-append piece.items m.run.items ∙ (λ i. (e ∙ c) i ++ s i)

in_run_counted : (around : Around) (piece : Piece) (source extra counts : List ℕ) (owners : List Owner) (m : Made) → mark_counts piece.items ≡ extra → Colored around source extra → Counts around counts m →
    Counts around (extra ++ counts) (in_run piece source owners m)
in_run_counted around piece source extra counts owners m e c h = record {
  all =
      ap (λ xs. xs ++ mark_counts m.later.items) (marks-append piece.items m.run.items)
      ∙ append_assoc (mark_counts piece.items) (mark_counts m.run.items) (mark_counts m.later.items)
      ∙ (λ i. e i ++ h.all i);
  settled = run_settled around piece source extra owners m e c h.settled;
}

before_settled : (around : Around) (w : Progress) (piece : Piece) (owners : List Owner) (m : Made) → NotContent around → Settled around (before_run w piece owners m)
before_settled (Content marks) w piece owners m n = absurd n
before_settled (Flow kind) w piece owners m n = λ white. ended_run m.source w m
before_settled (Structural kind) w piece owners m n = ended_run m.source w m

before_run_counted : (around : Around) (w : Progress) (piece : Piece) (extra counts : List ℕ) (owners : List Owner) (m : Made) → NotContent around → mark_counts piece.items ≡ extra → Counts around counts m →
    Counts around (extra ++ counts) (before_run w piece owners m)
before_run_counted around w piece extra counts owners m n e h = record {
  all =
      ap (λ xs. xs ++ mark_counts (piece.items ++ (run_closed w m).later.items)) (ended_run m.source w m)
      ∙ marks-append piece.items (run_closed w m).later.items
      ∙ (λ i. e i ++ (ended_counted m.source w m (may_end around m n h.settled) ∙ h.all) i);
  settled = before_settled around w piece owners m n;
}

counts_chosen : (around : Around) (counts : List ℕ) (c : Bool) (a b : Made) → Counts around counts a → Counts around counts b → Counts around counts (if c then a else b)
counts_chosen around counts true a b f g = f
counts_chosen around counts false a b f g = g

-- a leaf of content is inline
abbrev pub InlineIn : Around → Kind → Type 0
InlineIn (Content marks) kind = is_inline_leaf kind ≡ true
InlineIn _ kind = Unit {0}

unmarked : (outer : List ℕ) → length outer ≡ 0 → place_counts (outer ∷ []) ≡ []
unmarked outer e = (λ i. cond (nat_lt 0 (e i)) (e i ∷ []) [])

leaf_before_counted : (around : Around) (outer : List ℕ) (w : Progress) (kind : Kind) (head : Head) (source : List ℕ) (owners : List Owner) (places : List (List ℕ)) (m : Made) → Even outer around → InlineIn around kind →
    Counts around (place_counts places) m → Counts around (place_counts (outer ∷ places)) (leaf_before w kind head (marks_at around) source owners m)
leaf_before_counted around outer w kind head source owners places m even inline h =
    subst (λ counts. Counts around counts (leaf_before w kind head (marks_at around) source owners m)) (sym (places-append (outer ∷ []) places)) (by around even inline h)
  where
    by : (a : Around) → Even outer a → InlineIn a kind → Counts a (place_counts places) m → Counts a (place_counts (outer ∷ []) ++ place_counts places) (leaf_before w kind head (marks_at a) source owners m)
    by (Content marks) even inline h =
        let piece = leaf kind head marks (source_span w source) in
        subst (λ b. Counts (Content marks) (place_counts (outer ∷ []) ++ place_counts places) (if b then in_run piece source owners m else before_run (past w source owners) piece owners m)) (sym inline)
        (in_run_counted (Content marks) piece source (place_counts (outer ∷ [])) (place_counts places) owners m (leaf_counted outer kind head marks (source_span w source) even) tt h)
    by (Flow k) even inline h =
        let piece = leaf kind head [] (source_span w source) in
        let e = leaf_counted outer kind head [] (source_span w source) even in
        counts_chosen (Flow k) (place_counts (outer ∷ []) ++ place_counts places) (is_inline_leaf kind) _ _
        (in_run_counted (Flow k) piece source (place_counts (outer ∷ [])) (place_counts places) owners m e (λ white. unmarked outer even) h)
        (before_run_counted (Flow k) (past w source owners) piece (place_counts (outer ∷ [])) (place_counts places) owners m tt e h)
    by (Structural k) even inline h =
        let piece = leaf kind head [] (source_span w source) in
        let e = leaf_counted outer kind head [] (source_span w source) even in
        counts_chosen (Structural k) (place_counts (outer ∷ []) ++ place_counts places) (is_inline_leaf kind) _ _
        (in_run_counted (Structural k) piece source (place_counts (outer ∷ [])) (place_counts places) owners m e (unmarked outer even) h)
        (before_run_counted (Structural k) (past w source owners) piece (place_counts (outer ∷ [])) (place_counts places) owners m tt e h)

words_counted : (around : Around) (outer text : List ℕ) (places : List (List ℕ)) (m : Made) → Even outer around → Counts around (place_counts places) m →
    Counts around (place_counts (map (λ (c : ℕ). outer) (characters text) ++ places)) (words_before around text m)
words_counted around outer text places m even h =
    subst (λ counts. Counts around counts (words_before around text m)) (sym (places-append (map (λ (c : ℕ). outer) (characters text)) places)) (by around even h)
  where
    by : (a : Around) → Even outer a → Counts a (place_counts places) m → Counts a (place_counts (map (λ (c : ℕ). outer) (characters text)) ++ place_counts places) (words_before a text m)
    by (Content marks) even h =
        in_run_counted (Content marks) (chars_piece marks (characters text)) text (place_counts (map (λ (c : ℕ). outer) (characters text))) (place_counts places) [] m (letters_counted outer marks (characters text) even) tt h
    by (Flow k) even h =
        in_run_counted (Flow k) (chars_piece [] (characters text)) text (place_counts (map (λ (c : ℕ). outer) (characters text))) (place_counts places) [] m (letters_counted outer [] (characters text) even)
        (λ white. letters_unmarked outer (characters text) even) h
    by (Structural k) even h = record {
      all =
          ap (λ xs. mark_counts m.run.items ++ xs) (after_counted (chars text) m.later.items) ∙ h.all
          ∙ ap (λ xs. xs ++ place_counts places) (sym (letters_unmarked outer (characters text) even));
      settled = h.settled;
    }

-- ---- all parts

pub note_inline : (around : Around) → InlineIn around (note_kind around)
note_inline (Content marks) = refl
note_inline (Flow kind) = tt
note_inline (Structural kind) = tt

pub group_inline : (around : Around) (nodes : Forest) → InlineIn around (group_kind around nodes)
group_inline (Content marks) nodes = inline-whole_kind (is_generated nodes)
group_inline (Flow kind) nodes = tt
group_inline (Structural kind) nodes = tt

pub ref_inline : (around : Around) → InlineIn around Ref
ref_inline (Content marks) = refl
ref_inline (Flow kind) = tt
ref_inline (Structural kind) = tt

group_counted : (around : Around) (outer : List ℕ) (nodes : Forest) (places : List (List ℕ)) (later : Progress → Made) (w : Progress) (r : Option RefNode) → Even outer around →
    ((owners : List Owner) → Counts around (place_counts places) (later (past w (spelling nodes) owners))) → Counts around (place_counts (outer ∷ places)) (group_made around nodes later w r)
group_counted around outer nodes places later w (Some r) even h =
    leaf_before_counted around outer w Ref r.head (spelling nodes) r.owners places (later (past w (spelling nodes) r.owners)) even (ref_inline around) (h r.owners)
group_counted around outer nodes places later w None even h =
    leaf_before_counted around outer w (group_kind around nodes) (whole_head (spelling nodes)) (spelling nodes) [] places (later (past w (spelling nodes) [])) even (group_inline around nodes) (h [])

-- what an element may become there
abbrev pub FitsIn : Around → Parts → Fit → Type 0
FitsIn (Content marks) children fit = FitsContent children fit
FitsIn (Flow kind) children fit = Unit {0}
FitsIn (Structural kind) children Annotation = ⊥
FitsIn (Structural kind) children _ = Unit {0}

block_fit : (parent k : Kind) (children : Parts) (kind : Option Kind) → FitsIn (Structural k) children (fit_in_block parent children kind)
block_fit parent k children None = tt
block_fit parent k children (Some kind) = elim (may_hold parent kind && is_convertible kind children) as (λ b. FitsIn (Structural k) children (if b then Branch kind else Whole AlienBlock)) [ true ↦ tt | false ↦ tt ]

pub fits_in : (around : Around) (name : List ℕ) (children : Parts) → FitsIn around children (fit_of around name children)
fits_in (Content marks) name children = FitsContent-kind name children (kind_of_tag name)
fits_in (Flow kind) name children = tt
fits_in (Structural kind) name children = block_fit kind kind children (kind_of_tag name)

pub leaf_inline : (around : Around) (children : Parts) (kind : Kind) → FitsIn around children (Leaf kind) → InlineIn around kind
leaf_inline (Content marks) children kind f = f
leaf_inline (Flow k) children kind f = tt
leaf_inline (Structural k) children kind f = tt

pub whole_inline : (around : Around) (children : Parts) (kind : Kind) → FitsIn around children (Whole kind) → InlineIn around kind
whole_inline (Content marks) children kind f = f
whole_inline (Flow k) children kind f = tt
whole_inline (Structural k) children kind f = tt

single_counted : (around : Around) (outer : List ℕ) (attrs : List Spelled) (source : List ℕ) (places : List (List ℕ)) (later : Progress → Made) (w : Progress) (children : Parts) (fit : Fit) → FitsIn around children fit → Even outer around →
    Counts around (place_counts places) (later (past w source [])) → Counts around (place_counts (outer ∷ places)) (leaf_made around attrs source later w fit)
single_counted around outer attrs source places later w children (Leaf kind) f even h =
    leaf_before_counted around outer w kind (head_with attrs) source [] places (later (past w source [])) even (leaf_inline around children kind f) h
single_counted around outer attrs source places later w children (Whole kind) f even h =
    leaf_before_counted around outer w kind (whole_head source) source [] places (later (past w source [])) even (whole_inline around children kind f) h
single_counted around outer attrs source places later w children Annotation f even h =
    leaf_before_counted around outer w (note_kind around) (whole_head source) source [] places (later (past w source [])) even (note_inline around) h
single_counted around outer attrs source places later w children (Branch kind) f even h =
    leaf_before_counted around outer w (note_kind around) (whole_head source) source [] places (later (past w source [])) even (note_inline around) h

marks_colored : (around : Around) (children : Parts) (source counts : List ℕ) → FitsIn around children Annotation → is_white source ≡ false → Colored around source counts
marks_colored (Content marks) children source counts f c = tt
marks_colored (Flow kind) children source counts f c = λ white. absurd (let e : true ≡ false = sym white ∙ c in cc)
marks_colored (Structural kind) children source counts f c = absurd f

pub branch_outside : (around : Around) (children : Parts) (kind : Kind) → FitsIn around children (Branch kind) → NotContent around
branch_outside (Content marks) children kind f = f
branch_outside (Flow k) children kind f = tt
branch_outside (Structural k) children kind f = tt

-- that what parts become is counted
abbrev AreCounted : Parts → Type 0
AreCounted parts = (outer : List ℕ) (around : Around) (w : Progress) → Even outer around → Counts around (place_counts (mark_places outer around parts w.at)) (made_of around parts w)

element_counted : (outer : List ℕ) (around : Around) (name : List ℕ) (attrs : List Spelled) (source : List ℕ) (children later : Parts) (w : Progress) (fit : Fit) → FitsIn around children fit → is_white source ≡ false → Even outer around →
    AreCounted children → ((owners : List Owner) → Counts around (place_counts (mark_places outer around later (w.at + length source))) (made_of around later (past w source owners))) →
    Counts around (place_counts (places_by outer around name attrs children later w.at (w.at + length (start_text name attrs false)) (w.at + length source) fit))
    (element_made around name attrs source (λ a. made_of a children) (made_of around later) w fit)
element_counted outer around name attrs source children later w Annotation f c even g h =
    let a = marked_around around name attrs in
    let p = inside_of w name attrs in
    let inside = made_of a children p in
    let places = mark_places (outer ++ w.at ∷ []) a children p.at in
    let rest = mark_places outer around later (w.at + length source) in
    let inner = inside_counted a (place_counts places) p inside (g (outer ++ w.at ∷ []) a p (even_more outer around name attrs w.at even)) in
    subst (λ counts. Counts around counts (in_run inside.run source inside.owners (made_of around later (past w source inside.owners)))) (sym (places-append places rest))
    (in_run_counted around inside.run source (place_counts places) (place_counts rest) inside.owners (made_of around later (past w source inside.owners)) inner
    (marks_colored around children source (place_counts places) f c) (h inside.owners))
element_counted outer around name attrs source children later w (Branch kind) f c even g h =
    let a = around_in kind in
    let p = inside_of w name attrs in
    let inside = inside_piece a p (made_of a children p) in
    let places = mark_places [] a children p.at in
    let rest = mark_places outer around later (w.at + length source) in
    let inner = inside_counted a (place_counts places) p (made_of a children p) (g [] a p (even_in kind)) in
    let after = past w source inside.owners in
    let block = node kind (head_with attrs) [] false (source_span w source) inside.later inside.pre in
    subst (λ counts. Counts around counts (before_run after block inside.owners (made_of around later after))) (sym (places-append places rest))
    (before_run_counted around after block (place_counts places) (place_counts rest) inside.owners (made_of around later after) (branch_outside around children kind f)
    (node_counted kind (head_with attrs) false (source_span w source) inside.later inside.pre ∙ inner) (h inside.owners))
element_counted outer around name attrs source children later w (Leaf kind) f c even g h =
    single_counted around outer attrs source (mark_places outer around later (w.at + length source)) (made_of around later) w children (Leaf kind) f even (h [])
element_counted outer around name attrs source children later w (Whole kind) f c even g h =
    single_counted around outer attrs source (mark_places outer around later (w.at + length source)) (made_of around later) w children (Whole kind) f even (h [])

none_settled : (around : Around) (w : Progress) → Settled around (made_of around Ended w)
none_settled (Content marks) w = refl
none_settled (Flow kind) w = λ white. refl
none_settled (Structural kind) w = refl

made_counted : (parts : Parts) → AreCounted parts
made_counted Ended outer around w even = record { all = refl; settled = none_settled around w }
made_counted (Words text later) outer around w even =
    let p = past w text [] in
    words_counted around outer text (mark_places outer around later p.at) (made_of around later p) even (made_counted later outer around p even)
made_counted (Note text later) outer around w even =
    let source = token_text (Comment text) in
    let p = past w source [] in
    single_counted around outer [] source (mark_places outer around later p.at) (made_of around later) w Ended (Whole (note_kind around)) (note_fits around) even (made_counted later outer around p even)
  where
    note_fits : (a : Around) → FitsIn a Ended (Whole (note_kind a))
    note_fits (Content marks) = refl
    note_fits (Flow kind) = tt
    note_fits (Structural kind) = tt
made_counted (Group nodes later) outer around w even =
    group_counted around outer nodes (mark_places outer around later (w.at + length (spelling nodes))) (made_of around later) w (ref_of w around nodes) even
    (λ owners. made_counted later outer around (past w (spelling nodes) owners) even)
made_counted (Single name attrs source later) outer around w even =
    single_counted around outer attrs source (mark_places outer around later (w.at + length source)) (made_of around later) w Ended (fit_of around name Ended) (fits_in around name Ended) even
    (made_counted later outer around (past w source []) even)
made_counted (Parent name attrs children later) outer around w even =
    let source = element_source name attrs children in
    element_counted outer around name attrs source children later w (fit_of around name children) (fits_in around name children) refl even (made_counted children)
    (λ owners. made_counted later outer around (past w source owners) even)

pub marks_have_places : MarksHavePlaces
marks_have_places kind parts w = inside_counted (Flow kind) (place_counts (mark_places [] (Flow kind) parts w.at)) w (made_of (Flow kind) parts w) (made_counted parts [] (Flow kind) w refl)
