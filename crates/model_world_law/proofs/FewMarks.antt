-- Where no annotation of a page or a fragment is inside of too many marks, no item has too many.
use Rattle.std.specs.List.{AllByRecursion}
use Rattle.std.specs.Option.{option_or}
use Rattle.std.specs.Prelude.{chars, flat_map, nat_le, nat_lt, option_map}
use Rattle.std.proofs.Common.{◌≡◌, ℕ, suc, ◌+◌, Bool, true, false, ◌&&◌, if◌then◌else◌, List, [], ◌∷◌, ◌++◌, length, map, Option, Some, None, refl, arith}
use Rattle.std.proofs.lemmas.Bool.{le-leb, ltb-true}
use Rattle.std.proofs.lemmas.List.{length-append}
use Rattle.ve_kinds.specs.declared.kind.Kind.{Kind}
use Rattle.ve_kinds.specs.declared.kind.Kind.TheVariants.{InternalItem, InternalList, P, Ref, Root}
use Rattle.ve_kinds.specs.Table.{is_content_branch, is_flow, is_inline_leaf}
use Rattle.ve_base.specs.Empty.{empty_head}
use Rattle.ve_base.specs.Limits.{max_marks}
use Rattle.ve_base.specs.declared.head.Head.{Head}
use Rattle.ve_base.specs.declared.marks.Mark.{Mark}
use Rattle.model_items.specs.declared.plain_item.PlainItem.{PlainItem}
use Rattle.model_items.specs.declared.plain_item.PlainItem.TheVariants.{Char, Closing, Opening}
use Rattle.model_spelling.specs.Forest.{Forest, spelling}
use Rattle.model_spelling.specs.Grammar.{Attr as Spelled, Comment, start_text, token_text}
use Rattle.model_spelling.specs.Parsed.{forest_of}
use Rattle.model_page.specs.Convert.{element_made, element_source, group_made, inside_of, inside_piece, leaf_made, made_of, marked_around, marks_at, words_before}
use Rattle.model_page.specs.Elements.{is_white}
use Rattle.model_page.specs.Fit.{Annotation, Around, Branch, Content, Fit, Flow, Leaf, Structural, Whole, around_in, fit_of, group_kind, note_kind}
use Rattle.model_page.specs.Fragment.{context_of, fragment_items, item_unmade, pieces_in}
use Rattle.model_page.specs.Heads.{attrs_of, characters, head_with, whole_head}
use Rattle.model_page.specs.Limits.{Limit, TooDeep, TooManyMarks, body_limit, deep_at, earlier, first_body_limit, fragment_limit, limit_of, marked_at, moved_to, page_limit}
use Rattle.model_page.specs.PageItems.{body_made, internal_item, internal_list, items_of_page, or_nothing, page_made, with_origins}
use Rattle.model_page.specs.Parts.{Ended, Group, Note, Parent, Parts, Single, Words, parts_of, source_of}
use Rattle.model_page.specs.Pieces.{Made, Owner, Piece, Progress, SourceSpan, before_run, chars_piece, in_run, items_after, leaf, leaf_before, no_piece, node, past, run_closed, run_dropped, run_ended, source_span, with_white}
use Rattle.model_page.specs.ReferenceNodes.{RefNode, ref_of}
use Rattle.model_world_law.specs.Standing.{has_few_marks}

abbrev Few : PlainItem → Type 0
Few item = has_few_marks item ≡ true

abbrev pub AllFew : List PlainItem → Type 0
AllFew items = AllByRecursion Few items

abbrev FewMarks : List Mark → Type 0
FewMarks marks = nat_le (length marks) max_marks ≡ true

few-append : (xs ys : List PlainItem) → AllFew xs → AllFew ys → AllFew (xs ++ ys)
few-append [] ys p q = q
few-append (x ∷ xs) ys p q = (p.0, few-append xs ys p.1 q)

few-chars : (marks : List Mark) (text : List ℕ) → FewMarks marks → AllFew (map (λ c. Char c marks) text)
few-chars marks [] h = tt
few-chars marks (c ∷ text) h = (h, few-chars marks text h)

-- ---- what is made

record MadeFew (m : Made) : Type 0 where
  run : AllFew m.run.items
  later : AllFew m.later.items

node_few : (kind : Kind) (head : Head) (marks : List Mark) (generated : Bool) (span : SourceSpan) (inside : Piece) (pre : List ℕ) → FewMarks marks → AllFew inside.items → AllFew (node kind head marks generated span inside pre).items
node_few kind head marks generated span inside pre p q = (p, few-append inside.items (Closing kind pre ∷ []) q (refl, tt))

after_few : (white : List ℕ) (items : List PlainItem) → AllFew items → AllFew (items_after white items)
after_few white [] p = p
after_few white (Char c marks ∷ items) p = p
after_few white (Opening kind head marks pre origin generated ∷ items) p = p
after_few white (Closing kind pre ∷ items) p = p

with_white_few : (white : List ℕ) (m : Made) → MadeFew m → MadeFew (with_white white m)
with_white_few white m h = record { run = h.run; later = after_few white m.later.items h.later }

made_chosen : (c : Bool) (a b : Made) → MadeFew a → MadeFew b → MadeFew (if c then a else b)
made_chosen true a b f g = f
made_chosen false a b f g = g

run_ended_few : (source : List ℕ) (w : Progress) (m : Made) → MadeFew m → MadeFew (run_ended source w m)
run_ended_few [] w m h = record { run = tt; later = h.later }
run_ended_few (b ∷ bs) w m h =
    made_chosen (is_white (b ∷ bs)) _ _ (with_white_few (chars (b ∷ bs)) (run_dropped m) (record { run = tt; later = h.later })) (record {
      run = tt;
      later = few-append (node P empty_head [] true (source_span w (b ∷ bs)) m.run []).items m.later.items (node_few P empty_head [] true (source_span w (b ∷ bs)) m.run [] refl h.run) h.later;
    })

run_closed_few : (w : Progress) (m : Made) → MadeFew m → MadeFew (run_closed w m)
run_closed_few w m h = run_ended_few m.source w m h

in_run_few : (piece : Piece) (source : List ℕ) (owners : List Owner) (m : Made) → AllFew piece.items → MadeFew m → MadeFew (in_run piece source owners m)
in_run_few piece source owners m p h = record { run = few-append piece.items m.run.items p h.run; later = h.later }

before_run_few : (w : Progress) (piece : Piece) (owners : List Owner) (m : Made) → AllFew piece.items → MadeFew m → MadeFew (before_run w piece owners m)
before_run_few w piece owners m p h =
    let g = run_closed_few w m h in
    record { run = g.run; later = few-append piece.items (run_closed w m).later.items p g.later }

leaf_before_few : (w : Progress) (kind : Kind) (head : Head) (marks : List Mark) (source : List ℕ) (owners : List Owner) (m : Made) → FewMarks marks → MadeFew m → MadeFew (leaf_before w kind head marks source owners m)
leaf_before_few w kind head marks source owners m few h =
    let p = node_few kind head marks false (source_span w source) no_piece [] few tt in
    made_chosen (is_inline_leaf kind) _ _ (in_run_few (leaf kind head marks (source_span w source)) source owners m p h) (before_run_few (past w source owners) (leaf kind head marks (source_span w source)) owners m p h)

words_before_few : (around : Around) (text : List ℕ) (m : Made) → FewMarks (marks_at around) → MadeFew m → MadeFew (words_before around text m)
words_before_few (Structural kind) text m few h = with_white_few (chars text) m h
words_before_few (Flow kind) text m few h = in_run_few (chars_piece [] (characters text)) text [] m (few-chars [] (characters text) refl) h
words_before_few (Content marks) text m few h = in_run_few (chars_piece marks (characters text)) text [] m (few-chars marks (characters text) few) h

inside_few : (around : Around) (w : Progress) (m : Made) → MadeFew m → AllFew (inside_piece around w m).later.items
inside_few (Content marks) w m h = h.run
inside_few (Flow kind) w m h = (run_closed_few w m h).later
inside_few (Structural kind) w m h = h.later

group_few : (around : Around) (nodes : Forest) (later : Progress → Made) (w : Progress) (r : Option RefNode) → FewMarks (marks_at around) → ((p : Progress) → MadeFew (later p)) → MadeFew (group_made around nodes later w r)
group_few around nodes later w (Some r) few h = leaf_before_few w Ref r.head (marks_at around) (spelling nodes) r.owners (later (past w (spelling nodes) r.owners)) few (h (past w (spelling nodes) r.owners))
group_few around nodes later w None few h =
    leaf_before_few w (group_kind around nodes) (whole_head (spelling nodes)) (marks_at around) (spelling nodes) [] (later (past w (spelling nodes) [])) few (h (past w (spelling nodes) []))

leaf_few : (around : Around) (attrs : List Spelled) (source : List ℕ) (later : Progress → Made) (w : Progress) (fit : Fit) → FewMarks (marks_at around) → ((p : Progress) → MadeFew (later p)) → MadeFew (leaf_made around attrs source later w fit)
leaf_few around attrs source later w (Leaf kind) few h = leaf_before_few w kind (head_with attrs) (marks_at around) source [] (later (past w source [])) few (h (past w source []))
leaf_few around attrs source later w (Whole kind) few h = leaf_before_few w kind (whole_head source) (marks_at around) source [] (later (past w source [])) few (h (past w source []))
leaf_few around attrs source later w Annotation few h = leaf_before_few w (note_kind around) (whole_head source) (marks_at around) source [] (later (past w source [])) few (h (past w source []))
leaf_few around attrs source later w (Branch kind) few h = leaf_before_few w (note_kind around) (whole_head source) (marks_at around) source [] (later (past w source [])) few (h (past w source []))

-- what no limit at an element says, by what the element becomes
abbrev NoneIn : Around → List ℕ → List Spelled → Parts → Parts → (at inside end : ℕ) → Fit → Type 0
NoneIn around name attrs children later at inside end Annotation =
    (nat_lt (length (marks_at around)) max_marks ≡ true) × (marked_at (marked_around around name attrs) children inside ≡ None) × (marked_at around later end ≡ None)
NoneIn around name attrs children later at inside end (Branch kind) = (marked_at (around_in kind) children inside ≡ None) × (marked_at around later end ≡ None)
NoneIn around name attrs children later at inside end (Leaf kind) = marked_at around later end ≡ None
NoneIn around name attrs children later at inside end (Whole kind) = marked_at around later end ≡ None

neither : (a b : Option ℕ) → option_or a b ≡ None → (a ≡ None) × (b ≡ None)
neither None b h = (refl, h)
neither (Some n) b h = cc

if_some : (c : Bool) (o : Option ℕ) (at : ℕ) → (if c then o else Some at) ≡ None → (c ≡ true) × (o ≡ None)
if_some true o at h = (refl, h)
if_some false o at h = cc

none_in : (around : Around) (name : List ℕ) (attrs : List Spelled) (children later : Parts) (at inside end : ℕ) (fit : Fit) →
    (elim fit as (λ _. Option ℕ) [
      | Annotation ↦
          if nat_lt (length (marks_at around)) max_marks
          then option_or (marked_at (marked_around around name attrs) children inside) (marked_at around later end)
          else Some at
      | Branch kind ↦ option_or (marked_at (around_in kind) children inside) (marked_at around later end)
      | Leaf kind ↦ marked_at around later end
      | Whole kind ↦ marked_at around later end
    ]) ≡ None → NoneIn around name attrs children later at inside end fit
none_in around name attrs children later at inside end Annotation h =
    let p = if_some (nat_lt (length (marks_at around)) max_marks) _ at h in
    let q = neither (marked_at (marked_around around name attrs) children inside) (marked_at around later end) p.1 in
    (p.0, q.0, q.1)
none_in around name attrs children later at inside end (Branch kind) h = neither (marked_at (around_in kind) children inside) (marked_at around later end) h
none_in around name attrs children later at inside end (Leaf kind) h = h
none_in around name attrs children later at inside end (Whole kind) h = h

one_more : (around : Around) (name : List ℕ) (attrs : List Spelled) → nat_lt (length (marks_at around)) max_marks ≡ true → FewMarks (marks_at (marked_around around name attrs))
one_more around name attrs h =
    let low = ltb-true (length (marks_at around)) max_marks h in
    let marks = marks_at around ++ record { tag = chars name; attrs = attrs_of attrs } ∷ [] in
    let long : length marks ≡ length (marks_at around) + 1 = length-append (marks_at around) (record { tag = chars name; attrs = attrs_of attrs } ∷ []) in
    le-leb (length marks) max_marks (omega arith)

few_around_in : (kind : Kind) → FewMarks (marks_at (around_in kind))
few_around_in kind = by (is_content_branch kind) (is_flow kind)
  where
    by : (b c : Bool) → FewMarks (marks_at (if b then Content [] else (if c then Flow kind else Structural kind)))
    by true c = refl
    by false true = refl
    by false false = refl

element_few : (around : Around) (name : List ℕ) (attrs : List Spelled) (source : List ℕ) (children later : Parts) (at inside end : ℕ) (w : Progress) (fit : Fit) → FewMarks (marks_at around) →
    ((a : Around) (n : ℕ) → FewMarks (marks_at a) → marked_at a children n ≡ None → (p : Progress) → MadeFew (made_of a children p)) →
    ((n : ℕ) → marked_at around later n ≡ None → (p : Progress) → MadeFew (made_of around later p)) →
    NoneIn around name attrs children later at inside end fit → MadeFew (element_made around name attrs source (λ a. made_of a children) (made_of around later) w fit)
element_few around name attrs source children later at inside end w Annotation few g h none =
    let a = marked_around around name attrs in
    let made = made_of a children (inside_of w name attrs) in
    in_run_few made.run source made.owners (made_of around later (past w source made.owners)) (g a inside (one_more around name attrs none.0) none.1 (inside_of w name attrs)).run
    (h end none.2 (past w source made.owners))
element_few around name attrs source children later at inside end w (Branch kind) few g h none =
    let p = inside_of w name attrs in
    let made = made_of (around_in kind) children p in
    let piece = inside_piece (around_in kind) p made in
    let suffix = past w source piece.owners in
    before_run_few suffix (node kind (head_with attrs) [] false (source_span w source) piece.later piece.pre) piece.owners (made_of around later suffix)
    (node_few kind (head_with attrs) [] false (source_span w source) piece.later piece.pre refl (inside_few (around_in kind) p made (g (around_in kind) inside (few_around_in kind) none.0 p)))
    (h end none.1 suffix)
element_few around name attrs source children later at inside end w (Leaf kind) few g h none = leaf_few around attrs source (made_of around later) w (Leaf kind) few (h end none)
element_few around name attrs source children later at inside end w (Whole kind) few g h none = leaf_few around attrs source (made_of around later) w (Whole kind) few (h end none)

made_few : (around : Around) (parts : Parts) (at : ℕ) → FewMarks (marks_at around) → marked_at around parts at ≡ None → (w : Progress) → MadeFew (made_of around parts w)
made_few around Ended at few none w = record { run = tt; later = tt }
made_few around (Words text later) at few none w =
    words_before_few around text (made_of around later (past w text [])) few (made_few around later (at + length text) few none (past w text []))
made_few around (Note text later) at few none w =
    leaf_few around [] (token_text (Comment text)) (made_of around later) w (Whole (note_kind around)) few (λ p. made_few around later (at + length (token_text (Comment text))) few none p)
made_few around (Group nodes later) at few none w =
    group_few around nodes (made_of around later) w (ref_of w around nodes) few (λ p. made_few around later (at + length (spelling nodes)) few none p)
made_few around (Single name attrs source later) at few none w =
    leaf_few around attrs source (made_of around later) w (fit_of around name Ended) few (λ p. made_few around later (at + length source) few none p)
made_few around (Parent name attrs children later) at few none w =
    let inside = at + length (start_text name attrs false) in
    let end = at + length (element_source name attrs children) in
    element_few around name attrs (element_source name attrs children) children later at inside end w (fit_of around name children) few
    (λ a n f e p. made_few a children n f e p) (λ n e p. made_few around later n few e p) (none_in around name attrs children later at inside end (fit_of around name children) none)

-- ---- fragments and pages

few-unmade : (items : List PlainItem) → AllFew items → AllFew (map item_unmade items)
few-unmade [] p = tt
few-unmade (Char c marks ∷ items) p = (p.0, few-unmade items p.1)
few-unmade (Closing kind pre ∷ items) p = (p.0, few-unmade items p.1)
few-unmade (Opening kind head marks pre origin generated ∷ items) p = (p.0, few-unmade items p.1)

pub fragment_few : (stack : List Kind) (f : Forest) → fragment_limit stack f ≡ None → AllFew (fragment_items stack f)
fragment_few stack f none =
    elim (is_flow (context_of (parts_of f) stack) && is_white (source_of (parts_of f))) as (λ b. AllFew (
    if b
    then Opening P empty_head [] [] None false ∷ map (λ c. Char c []) (chars (source_of (parts_of f))) ++ Closing P [] ∷ []
    else map item_unmade (pieces_in (context_of (parts_of f) stack) (parts_of f)).later.items
    )) [
      | true ↦ (refl, few-append (map (λ c. Char c []) (chars (source_of (parts_of f)))) (Closing P [] ∷ []) (few-chars [] (chars (source_of (parts_of f))) refl) (refl, tt))
      | false ↦
          let w : Progress = record { at = 0; owners = []; editable = false } in
          let around = around_in (context_of (parts_of f) stack) in
          few-unmade (pieces_in (context_of (parts_of f) stack) (parts_of f)).later.items
          (inside_few around w (made_of around (parts_of f) w) (made_few around (parts_of f) 0 (few_around_in (context_of (parts_of f) stack)) none w))
    ]

none_earlier : (a b : Option Limit) → earlier a b ≡ None → (a ≡ None) × (b ≡ None)
none_earlier None b h = (refl, h)
none_earlier (Some a) None h = cc
none_earlier (Some a) (Some b) h = one_of (nat_lt _ _) h
  where
    one_of : (c : Bool) → (if c then Some b else Some a) ≡ None → (Some a ≡ None) × (Some b ≡ None)
    one_of true h = cc
    one_of false h = cc

none_mapped : {A B : Type 0} (f : A → B) (o : Option A) → option_map f o ≡ None → o ≡ None
none_mapped f None h = refl
none_mapped f (Some x) h = cc

marks_within : (depth : ℕ) (around : Around) (parts : Parts) (at : ℕ) (m : Made) → limit_of depth around parts at m ≡ None → marked_at around parts at ≡ None
marks_within depth around parts at m h =
    none_mapped (λ n. TooManyMarks n) (marked_at around parts at)
    (none_earlier (option_map (λ n. TooDeep n) (deep_at depth m.later.items m.later.spans)) (option_map (λ n. TooManyMarks n) (marked_at around parts at)) h).1

few-origins : (k : ℕ) (items : List PlainItem) → AllFew items → AllFew (with_origins k items)
few-origins k [] p = tt
few-origins k (Char c marks ∷ items) p = (p.0, few-origins k items p.1)
few-origins k (Closing kind pre ∷ items) p = (p.0, few-origins k items p.1)
few-origins k (Opening kind head marks pre origin generated ∷ items) p = (p.0, few-origins (suc k) items p.1)

body_few : (o : Owner) → body_limit o ≡ None → AllFew (internal_item o)
body_few o none =
    let f = or_nothing (forest_of o.html) in
    let w : Progress = record { at = 0; owners = []; editable = false } in
    let inside = marks_within 2 (Flow InternalItem) (parts_of f) 0 (body_made f) (none_mapped (moved_to o.at) (limit_of 2 (Flow InternalItem) (parts_of f) 0 (body_made f)) none) in (
      refl,
      few-append (body_made f).later.items (Closing InternalItem (body_made f).pre ∷ [])
          (run_closed_few w (made_of (Flow InternalItem) (parts_of f) w) (made_few (Flow InternalItem) (parts_of f) 0 refl inside w)).later (refl, tt),
    )

none_of : (a b : Option Limit) → option_or a b ≡ None → (a ≡ None) × (b ≡ None)
none_of None b h = (refl, h)
none_of (Some n) b h = cc

bodies_few : (owners : List Owner) → first_body_limit owners ≡ None → AllFew (flat_map internal_item owners)
bodies_few [] none = tt
bodies_few (o ∷ owners) none =
    let p = none_of (body_limit o) (first_body_limit owners) none in
    few-append (internal_item o) (flat_map internal_item owners) (body_few o p.0) (bodies_few owners p.1)

pub page_few : (at : ℕ) (f : Forest) → page_limit at f ≡ None → AllFew (items_of_page (page_made at f))
page_few at f none =
    let w : Progress = record { at = at; owners = []; editable = true } in
    let m = page_made at f in
    let p = none_of (limit_of 0 (Flow Root) (parts_of f) at m) (first_body_limit m.owners) none in
    let inside = marks_within 0 (Flow Root) (parts_of f) at m p.0 in
    few-append (with_origins 0 m.later.items) (internal_list m.pre m.owners)
    (few-origins 0 m.later.items (run_closed_few w (made_of (Flow Root) (parts_of f) w) (made_few (Flow Root) (parts_of f) at refl inside w)).later)
    (refl, few-append (flat_map internal_item m.owners) (Closing InternalList [] ∷ []) (bodies_few m.owners p.1) (refl, tt))
