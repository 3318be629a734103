-- What is made of such parts is items that a line could write.
use Rattle.std.specs.List.{AllByRecursion, list_all, list_any}
use Rattle.std.specs.Prelude.{chars, map}
use Rattle.std.proofs.Common.{◌≡◌, ℕ, Bool, true, false, not, ◌&&◌, ◌||◌, if◌then◌else◌, List, [], ◌∷◌, ◌++◌, Option, Some, None, refl, sym, ap, ◌∙◌}
use Rattle.std.proofs.lemmas.Bool.{and_parts, and_from, or_left, or_parts, or_right}
use Rattle.ve_kinds.specs.declared.kind.Kind.{Kind}
use Rattle.ve_kinds.specs.declared.kind.Kind.TheVariants.{P, Ref}
use Rattle.ve_kinds.specs.Table.{is_content_branch, is_element, is_flow, is_inline_leaf, is_leaf, kind_same}
use Rattle.ve_kinds.specs.Tags.{is_void}
use Rattle.ve_base.specs.Empty.{empty_head}
use Rattle.ve_base.specs.declared.attrs.Attr.{Attr}
use Rattle.ve_base.specs.declared.head.Head.{Head}
use Rattle.ve_base.specs.declared.marks.Mark.{Mark}
use Rattle.model_items.specs.declared.plain_item.PlainItem.{PlainItem}
use Rattle.model_items.specs.declared.plain_item.PlainItem.TheVariants.{Char, Closing, Opening}
use Rattle.model_items.specs.Same.{head_same}
use Rattle.model_items.proofs.SameLemmas.{Means-head_same}
use Rattle.model_spelling.specs.Forest.{Forest, spelling}
use Rattle.model_spelling.specs.Grammar.{Attr as Spelled, Comment, token_text}
use Rattle.model_page.specs.Convert.{element_made, element_source, group_made, inside_of, inside_piece, leaf_made, made_of, marked_around, marks_at, words_before}
use Rattle.model_page.specs.Elements.{is_white}
use Rattle.model_page.specs.Fit.{Annotation, Around, Branch, Content, Fit, Flow, Leaf, Structural, Whole, around_in, fit_of, group_kind, note_kind}
use Rattle.model_page.specs.Heads.{attrs_of, characters, head_with, whole_head}
use Rattle.model_page.specs.Parts.{Ended, Group, Note, Parent, Parts, Single, Words}
use Rattle.model_page.specs.Pieces.{Made, Owner, Piece, Progress, SourceSpan, before_run, chars_piece, in_run, items_after, leaf, leaf_before, no_piece, node, past, run_closed, run_dropped, run_ended, source_span, white_left, with_white}
use Rattle.model_page.specs.ReferenceNodes.{RefNode, ref_of}
use Rattle.model_page.specs.Tags.{is_annotation_tag}
use Rattle.model_page_write.specs.Written.{is_empty}
use Rattle.model_page_law.proofs.FollowedNodes.{is_white-append}
use Rattle.model_world.specs.Attributes.{are_allowed, are_apart, holds_whole, is_mark}
use Rattle.model_world.specs.ItemWords.{may_close, may_open}
use Rattle.model_world_law.specs.ShownLaws.{plain_head}
use Rattle.model_world_law.specs.Writable.{are_marks, is_attr, is_head_attr, is_origin, is_plain_head, is_text, is_writable, is_writable_mark}
use Rattle.model_world_law.specs.PutBack.{is_outer}
use Rattle.model_world_law.proofs.WritableFits.{FitPasses, IsBranch, IsKept, Loose, Outside, Within, block_outside, fit_passes, group_kept, loose_inside, note_kept, within}
use Rattle.model_world_law.proofs.WritableParts.{PartsPass}
use Rattle.model_world_law.proofs.WritableTags.{TagPasses}
use Rattle.model_world_law.proofs.WritableTexts.{text_first, white_plain, white_text}

-- ---- the test

abbrev pub MarksPass : List Mark → Type 0
MarksPass marks = are_marks marks ≡ true

pub record OpeningPasses (kind : Kind) (head : Head) (marks : List Mark) (pre : List ℕ) (origin : Option ℕ) (generated : Bool) : Type 0 where
  pub plain : is_element kind ≡ true → is_plain_head head ≡ true
  pub marks_pass : MarksPass marks
  pub white : is_white pre ≡ true
  pub opens : may_open kind marks pre ≡ true
  pub placed : is_origin origin ≡ true
  pub made : (not generated || kind_same kind P) ≡ true

abbrev pub Passes : PlainItem → Type 0
Passes (Char c marks) = (is_text (c ∷ []) ≡ true) × MarksPass marks
Passes (Opening kind head marks pre origin generated) = OpeningPasses kind head marks pre origin generated
Passes (Closing kind pre) = (is_white pre ≡ true) × (may_close kind pre ≡ true)

abbrev pub AllPassing : List PlainItem → Type 0
AllPassing items = AllByRecursion Passes items

implied : (a b : Bool) → (a ≡ true → b ≡ true) → (not a || b) ≡ true
implied true b h = h refl
implied false b h = refl

pub passes_writable : (item : PlainItem) → Passes item → is_writable item ≡ true
passes_writable (Char c marks) p = and_from (is_text (c ∷ [])) (are_marks marks) p.0 p.1
passes_writable (Opening kind head marks pre origin generated) p =
    and_from (are_marks marks) _ p.marks_pass
    (or_right (not (is_outer kind)) _
    (and_from _ (not generated || kind_same kind P)
    (and_from _ (is_origin origin)
    (and_from _ (may_open kind marks pre)
    (and_from (not (is_element kind) || is_plain_head head) (is_text pre && is_white pre)
    (implied (is_element kind) (is_plain_head head) p.plain) (and_from (is_text pre) (is_white pre) (white_text pre p.white) p.white))
    p.opens)
    p.placed)
    p.made))
passes_writable (Closing kind pre) p =
    or_right (not (is_outer kind)) _ (and_from (is_text pre && is_white pre) (may_close kind pre) (and_from (is_text pre) (is_white pre) (white_text pre p.0) p.0) p.1)

pub passing-append : (xs ys : List PlainItem) → AllPassing xs → AllPassing ys → AllPassing (xs ++ ys)
passing-append [] ys p q = q
passing-append (x ∷ xs) ys p q = (p.0, passing-append xs ys p.1 q)

pub passing-chars : (marks : List Mark) (text : List ℕ) → MarksPass marks → is_text text ≡ true → AllPassing (map (λ c. Char c marks) text)
passing-chars marks [] m h = tt
passing-chars marks (c ∷ text) m h = let p = text_first c text h in ((p.0, m), passing-chars marks text m p.1)

-- ---- marks and heads

all-append : (xs ys : List Mark) → MarksPass xs → MarksPass ys → MarksPass (xs ++ ys)
all-append [] ys p q = q
all-append (x ∷ xs) ys p q = let r = and_parts (is_writable_mark x) (list_all is_writable_mark xs) p in and_from (is_writable_mark x) (list_all is_writable_mark (xs ++ ys)) r.0 (all-append xs ys r.1 q)

mark_passes : (name : List ℕ) (attrs : List Spelled) → TagPasses name attrs → is_annotation_tag name ≡ true → is_writable_mark (record { tag = chars name; attrs = attrs_of attrs }) ≡ true
mark_passes name attrs t h =
    and_from _ (is_mark true (record { tag = chars name; attrs = attrs_of attrs }))
    (and_from (is_text (chars name) && list_all is_attr (attrs_of attrs)) (are_apart (attrs_of attrs))
    (and_from (is_text (chars name)) (list_all is_attr (attrs_of attrs)) t.plain.text t.each) t.apart)
    (and_from (is_annotation_tag (chars name)) (are_allowed true (attrs_of attrs)) (ap is_annotation_tag t.plain.same ∙ h) (ap not t.free))

marked_passes : (around : Around) (name : List ℕ) (attrs : List Spelled) → MarksPass (marks_at around) → TagPasses name attrs → is_annotation_tag name ≡ true → MarksPass (marks_at (marked_around around name attrs))
marked_passes around name attrs m t h =
    let mark : Mark = record { tag = chars name; attrs = attrs_of attrs } in
    all-append (marks_at around) (mark ∷ []) m (and_from (is_writable_mark mark) true (mark_passes name attrs t h) refl)

head_attrs : (attrs : List Attr) → list_all is_attr attrs ≡ true → list_any holds_whole attrs ≡ false → list_all is_head_attr attrs ≡ true
head_attrs [] h f = refl
head_attrs (a ∷ attrs) h f =
    let p = and_parts (is_attr a) (list_all is_attr attrs) h in
    let q = or_parts (holds_whole a) (list_any holds_whole attrs) f in
    and_from (is_head_attr a) (list_all is_head_attr attrs) (and_from (is_attr a) (not (holds_whole a)) p.0 (ap not q.0)) (head_attrs attrs p.1 q.1)

head_passes : (name : List ℕ) (attrs : List Spelled) → TagPasses name attrs → is_plain_head (head_with attrs) ≡ true
head_passes name attrs t =
    and_from (head_same (head_with attrs) (plain_head (attrs_of attrs))) (list_all is_head_attr (attrs_of attrs)) (Means-head_same.itself (head_with attrs)) (head_attrs (attrs_of attrs) t.each t.free)

-- ---- pieces

-- marks stand on inline leaves alone
opens_at : (kind : Kind) (marks : List Mark) → (is_inline_leaf kind ≡ false → is_empty marks ≡ true) → may_open kind marks [] ≡ true
opens_at kind marks h = by (is_inline_leaf kind) refl
  where
    by : (c : Bool) → is_inline_leaf kind ≡ c → (if c then true else is_empty marks) ≡ true
    by true e = refl
    by false e = h e

node_passes : (kind : Kind) (head : Head) (marks : List Mark) (generated : Bool) (span : SourceSpan) (inside : Piece) (pre : List ℕ) → OpeningPasses kind head marks [] None generated → AllPassing inside.items → Passes (Closing kind pre) →
    AllPassing (node kind head marks generated span inside pre).items
node_passes kind head marks generated span inside pre o h c = (o, passing-append inside.items (Closing kind pre ∷ []) h (c, tt))

leaf_passes : (kind : Kind) (head : Head) (marks : List Mark) (span : SourceSpan) → OpeningPasses kind head marks [] None false → AllPassing (leaf kind head marks span).items
leaf_passes kind head marks span o = node_passes kind head marks false span no_piece [] o tt (refl, refl)

-- whitespace may stand before the first item
abbrev First : List PlainItem → Type 0
First [] = Unit {0}
First (Char c marks ∷ items) = Unit {0}
First (Opening kind head marks pre origin generated ∷ items) = is_inline_leaf kind ≡ false
First (Closing kind pre ∷ items) = ⊥

opens_after : (kind : Kind) (marks : List Mark) (white pre : List ℕ) → is_inline_leaf kind ≡ false → may_open kind marks pre ≡ true → may_open kind marks (white ++ pre) ≡ true
opens_after kind marks white pre h o = by (is_inline_leaf kind) h o
  where
    by : (c : Bool) → c ≡ false → (if c then is_empty pre else is_empty marks) ≡ true → (if c then is_empty (white ++ pre) else is_empty marks) ≡ true
    by true e f = cc
    by false e f = f

after_passes : (white : List ℕ) (items : List PlainItem) → is_white white ≡ true → First items → AllPassing items → AllPassing (items_after white items)
after_passes white [] w f p = tt
after_passes white (Char c marks ∷ items) w f p = p
after_passes white (Closing kind pre ∷ items) w f p = absurd f
after_passes white (Opening kind head marks pre origin generated ∷ items) w f p =
    let o : OpeningPasses kind head marks pre origin generated = p.0 in (
      record {
        plain = o.plain;
        marks_pass = o.marks_pass;
        white = is_white-append white pre w o.white;
        opens = opens_after kind marks white pre f o.opens;
        placed = o.placed;
        made = o.made;
      },
      p.1,
    )

first_after : (white : List ℕ) (items : List PlainItem) → First items → First (items_after white items)
first_after white [] f = tt
first_after white (Char c marks ∷ items) f = tt
first_after white (Closing kind pre ∷ items) f = f
first_after white (Opening kind head marks pre origin generated ∷ items) f = f

-- ---- what is made

-- in content no whitespace is left
abbrev Left : Around → List ℕ → Type 0
Left (Content marks) pre = pre ≡ []
Left (Flow kind) pre = is_white pre ≡ true
Left (Structural kind) pre = is_white pre ≡ true

nothing_left : (around : Around) → Left around []
nothing_left (Content marks) = refl
nothing_left (Flow kind) = refl
nothing_left (Structural kind) = refl

left_white : (around : Around) (pre : List ℕ) → Left around pre → is_white pre ≡ true
left_white (Content marks) pre h = ap is_white h
left_white (Flow kind) pre h = h
left_white (Structural kind) pre h = h

white_before : (around : Around) → Outside around → (white : List ℕ) (items : List PlainItem) (pre : List ℕ) → is_white white ≡ true → Left around pre → Left around (white_left white items pre)
white_before (Content marks) o white items pre w h = absurd o
white_before (Flow kind) o white [] pre w h = is_white-append white pre w h
white_before (Flow kind) o white (item ∷ items) pre w h = h
white_before (Structural kind) o white [] pre w h = is_white-append white pre w h
white_before (Structural kind) o white (item ∷ items) pre w h = h

pub record MadePasses (around : Around) (m : Made) : Type 0 where
  pub run : AllPassing m.run.items
  pub later : AllPassing m.later.items
  pub first : First m.later.items
  pub left : Left around m.pre

white_passes : (around : Around) → Outside around → (white : List ℕ) (m : Made) → is_white white ≡ true → MadePasses around m → MadePasses around (with_white white m)
white_passes around o white m w h = record {
  run = h.run;
  later = after_passes white m.later.items w h.first h.later;
  first = first_after white m.later.items h.first;
  left = white_before around o white m.later.items m.pre w h.left;
}

dropped_passes : (around : Around) (m : Made) → MadePasses around m → MadePasses around (run_dropped m)
dropped_passes around m h = record { run = tt; later = h.later; first = h.first; left = h.left }

paragraph_opens : OpeningPasses P empty_head [] [] None true
paragraph_opens = record { plain = λ e. refl; marks_pass = refl; white = refl; opens = refl; placed = refl; made = refl }

chosen : (around : Around) (c : Bool) (a b : Made) → (c ≡ true → MadePasses around a) → MadePasses around b → MadePasses around (if c then a else b)
chosen around true a b f g = f refl
chosen around false a b f g = g

white_chars_pass : (bs : List ℕ) → is_white bs ≡ true → is_white (chars bs) ≡ true
white_chars_pass bs h = ap is_white (white_plain bs h).same ∙ h

ended_passes : (around : Around) → Outside around → (source : List ℕ) (w : Progress) (m : Made) → MadePasses around m → MadePasses around (run_ended source w m)
ended_passes around o [] w m h = dropped_passes around m h
ended_passes around o (b ∷ bs) w m h =
    chosen around (is_white (b ∷ bs)) _ _
    (λ e. white_passes around o (chars (b ∷ bs)) (run_dropped m) (white_chars_pass (b ∷ bs) e) (dropped_passes around m h))
    (record {
      run = tt;
      later = passing-append (node P empty_head [] true (source_span w (b ∷ bs)) m.run []).items m.later.items
          (node_passes P empty_head [] true (source_span w (b ∷ bs)) m.run [] paragraph_opens h.run (refl, refl)) h.later;
      first = refl;
      left = h.left;
    })

pub closed_passes : (around : Around) → Outside around → (w : Progress) (m : Made) → MadePasses around m → MadePasses around (run_closed w m)
closed_passes around o w m h = ended_passes around o m.source w m h

run_passes : (around : Around) (piece : Piece) (source : List ℕ) (owners : List Owner) (m : Made) → AllPassing piece.items → MadePasses around m → MadePasses around (in_run piece source owners m)
run_passes around piece source owners m p h = record { run = passing-append piece.items m.run.items p h.run; later = h.later; first = h.first; left = h.left }

block_passes : (around : Around) → Outside around → (w : Progress) (kind : Kind) (head : Head) (marks : List Mark) (span : SourceSpan) (inside : Piece) (pre : List ℕ) (owners : List Owner) (m : Made) → is_inline_leaf kind ≡ false →
    AllPassing (node kind head marks false span inside pre).items → MadePasses around m → MadePasses around (before_run w (node kind head marks false span inside pre) owners m)
block_passes around o w kind head marks span inside pre owners m block p h =
    let g = closed_passes around o w m h in
    record { run = g.run; later = passing-append (node kind head marks false span inside pre).items (run_closed w m).later.items p g.later; first = block; left = g.left }

-- ---- leaves

outside_unmarked : (around : Around) → Outside around → is_empty (marks_at around) ≡ true
outside_unmarked (Content marks) o = absurd o
outside_unmarked (Flow kind) o = refl
outside_unmarked (Structural kind) o = refl

leaf_opens : (around : Around) (kind : Kind) (head : Head) → MarksPass (marks_at around) → (is_element kind ≡ true → is_plain_head head ≡ true) → Within around kind → OpeningPasses kind head (marks_at around) [] None false
leaf_opens around kind head m plain in_it = record {
  plain = plain;
  marks_pass = m;
  white = refl;
  opens = opens_at kind (marks_at around) (λ e. outside_unmarked around (block_outside around kind in_it e));
  placed = refl;
  made = refl;
}

leaf_before_passes : (around : Around) (w : Progress) (kind : Kind) (head : Head) (source : List ℕ) (owners : List Owner) (m : Made) → MarksPass (marks_at around) → (is_element kind ≡ true → is_plain_head head ≡ true) → Within around kind →
    MadePasses around m → MadePasses around (leaf_before w kind head (marks_at around) source owners m)
leaf_before_passes around w kind head source owners m marks plain in_it h = by (is_inline_leaf kind) refl
  where
    by : (c : Bool) → is_inline_leaf kind ≡ c → MadePasses around (if c then in_run (leaf kind head (marks_at around) (source_span w source)) source owners m else before_run (past w source owners) (leaf kind head (marks_at around) (source_span w source)) owners m)
    by true e = run_passes around (leaf kind head (marks_at around) (source_span w source)) source owners m (leaf_passes kind head (marks_at around) (source_span w source) (leaf_opens around kind head marks plain in_it)) h
    by false e =
        block_passes around (block_outside around kind in_it e) (past w source owners) kind head (marks_at around) (source_span w source) no_piece [] owners m e
        (leaf_passes kind head (marks_at around) (source_span w source) (leaf_opens around kind head marks plain in_it)) h

not_element : (kind : Kind) (head : Head) → is_element kind ≡ false → is_element kind ≡ true → is_plain_head head ≡ true
not_element kind head e f = absurd (let t : true ≡ false = sym f ∙ e in cc)

kept_passes : (around : Around) (w : Progress) (kind : Kind) (head : Head) (source : List ℕ) (owners : List Owner) (m : Made) → MarksPass (marks_at around) → IsKept around kind → MadePasses around m →
    MadePasses around (leaf_before w kind head (marks_at around) source owners m)
kept_passes around w kind head source owners m marks k h = leaf_before_passes around w kind head source owners m marks (not_element kind head k.whole) k.place h

-- ---- each part

words_pass : (around : Around) (text : List ℕ) (m : Made) → MarksPass (marks_at around) → is_text (characters text) ≡ true → Loose around (Words text Ended) → MadePasses around m → MadePasses around (words_before around text m)
words_pass (Structural kind) text m marks h loose p = white_passes (Structural kind) tt (chars text) m (white_chars_pass text loose.0) p
words_pass (Flow kind) text m marks h loose p = run_passes (Flow kind) (chars_piece [] (characters text)) text [] m (passing-chars [] (characters text) refl h) p
words_pass (Content ms) text m marks h loose p = run_passes (Content ms) (chars_piece ms (characters text)) text [] m (passing-chars ms (characters text) marks h) p

group_passes : (around : Around) (nodes : Forest) (later : Progress → Made) (w : Progress) (r : Option RefNode) → MarksPass (marks_at around) → ((p : Progress) → MadePasses around (later p)) → MadePasses around (group_made around nodes later w r)
group_passes around nodes later w (Some r) marks h =
    leaf_before_passes around w Ref r.head (spelling nodes) r.owners (later (past w (spelling nodes) r.owners)) marks (not_element Ref r.head refl) (within around Ref refl) (h (past w (spelling nodes) r.owners))
group_passes around nodes later w None marks h =
    kept_passes around w (group_kind around nodes) (whole_head (spelling nodes)) (spelling nodes) [] (later (past w (spelling nodes) [])) marks (group_kept around nodes) (h (past w (spelling nodes) []))

note_passes : (around : Around) (source : List ℕ) (later : Progress → Made) (w : Progress) → MarksPass (marks_at around) → ((p : Progress) → MadePasses around (later p)) →
    MadePasses around (leaf_before w (note_kind around) (whole_head source) (marks_at around) source [] (later (past w source [])))
note_passes around source later w marks h = kept_passes around w (note_kind around) (whole_head source) source [] (later (past w source [])) marks (note_kept around) (h (past w source []))

single_passes : (around : Around) (name : List ℕ) (attrs : List Spelled) (children : Parts) (source : List ℕ) (later : Progress → Made) (w : Progress) (fit : Fit) → FitPasses around name children fit → TagPasses name attrs → MarksPass (marks_at around) →
    ((p : Progress) → MadePasses around (later p)) → MadePasses around (leaf_made around attrs source later w fit)
single_passes around name attrs children source later w (Leaf kind) f t marks h =
    leaf_before_passes around w kind (head_with attrs) source [] (later (past w source [])) marks (λ e. head_passes name attrs t) (within around kind f) (h (past w source []))
single_passes around name attrs children source later w (Whole kind) f t marks h =
    kept_passes around w kind (whole_head source) source [] (later (past w source [])) marks (record { place = f.0; whole = f.1 }) (h (past w source []))
single_passes around name attrs children source later w Annotation f t marks h = note_passes around source later w marks h
single_passes around name attrs children source later w (Branch kind) f t marks h = note_passes around source later w marks h

-- what is inside of a branch, and the whitespace before its closing
record InsidePasses (kind : Kind) (m : Made) : Type 0 where
  items : AllPassing m.later.items
  closing : Passes (Closing kind m.pre)

inside_passes : (kind : Kind) → IsBranch kind → (w : Progress) (m : Made) → MadePasses (around_in kind) m → InsidePasses kind (inside_piece (around_in kind) w m)
inside_passes kind b w m h = by (is_content_branch kind) (is_flow kind) refl h
  where
    closes : (pre : List ℕ) → is_content_branch kind ≡ false → may_close kind pre ≡ true
    closes pre e = or_right (is_empty pre) (not (is_leaf kind || is_content_branch kind)) (λ i. not (b.leaf i || e i))

    by : (x y : Bool) → is_content_branch kind ≡ x → MadePasses (if x then Content [] else (if y then Flow kind else Structural kind)) m →
        InsidePasses kind (inside_piece (if x then Content [] else (if y then Flow kind else Structural kind)) w m)
    by true y e g = record { items = g.run; closing = (left_white (Content []) m.pre g.left, or_left (is_empty m.pre) _ (ap is_empty g.left)) }
    by false true e g = let k = closed_passes (Flow kind) tt w m g in record { items = k.later; closing = (k.left, closes (run_closed w m).pre e) }
    by false false e g = record { items = g.later; closing = (g.left, closes m.pre e) }

-- where it isn't known which branch it is
pub inside_items : (around : Around) (w : Progress) (m : Made) → MadePasses around m → AllPassing (inside_piece around w m).later.items
inside_items (Content marks) w m h = h.run
inside_items (Flow kind) w m h = (closed_passes (Flow kind) tt w m h).later
inside_items (Structural kind) w m h = h.later

pub inside_marks : (kind : Kind) → MarksPass (marks_at (around_in kind))
inside_marks kind = by (is_content_branch kind) (is_flow kind)
  where
    by : (x y : Bool) → MarksPass (marks_at (if x then Content [] else (if y then Flow kind else Structural kind)))
    by true y = refl
    by false true = refl
    by false false = refl

branch_opens : (kind : Kind) (name : List ℕ) (attrs : List Spelled) → is_inline_leaf kind ≡ false → TagPasses name attrs → OpeningPasses kind (head_with attrs) [] [] None false
branch_opens kind name attrs e t = record { plain = λ f. head_passes name attrs t; marks_pass = refl; white = refl; opens = opens_at kind [] (λ f. refl); placed = refl; made = refl }

element_passes : (around : Around) (name : List ℕ) (attrs : List Spelled) (source : List ℕ) (children : Parts) (later : Progress → Made) (w : Progress) (fit : Fit) → FitPasses around name children fit → TagPasses name attrs → is_void name ≡ false →
    MarksPass (marks_at around) → ((a : Around) → MarksPass (marks_at a) → Loose a children → (p : Progress) → MadePasses a (made_of a children p)) → ((p : Progress) → MadePasses around (later p)) →
    MadePasses around (element_made around name attrs source (λ a. made_of a children) later w fit)
element_passes around name attrs source children later w Annotation f t v marks g h =
    let a = marked_around around name attrs in
    let inside = made_of a children (inside_of w name attrs) in
    run_passes around inside.run source inside.owners (later (past w source inside.owners)) (g a (marked_passes around name attrs marks t f) tt (inside_of w name attrs)).run (h (past w source inside.owners))
element_passes around name attrs source children later w (Branch kind) f t v marks g h =
    let b = f.1 v in
    let p = inside_of w name attrs in
    let made = made_of (around_in kind) children p in
    let inside = inside_piece (around_in kind) p made in
    let i = inside_passes kind b p made (g (around_in kind) (inside_marks kind) (loose_inside kind children b f.2) p) in
    let suffix = past w source inside.owners in
    block_passes around f.0 suffix kind (head_with attrs) [] (source_span w source) inside.later inside.pre inside.owners (later suffix) b.inline
    (node_passes kind (head_with attrs) [] false (source_span w source) inside.later inside.pre (branch_opens kind name attrs b.inline t) i.items i.closing) (h suffix)
element_passes around name attrs source children later w (Leaf kind) f t v marks g h = single_passes around name attrs children source later w (Leaf kind) f t marks h
element_passes around name attrs source children later w (Whole kind) f t v marks g h = single_passes around name attrs children source later w (Whole kind) f t marks h

loose_words : (around : Around) (text : List ℕ) (later : Parts) → Loose around (Words text later) → Loose around (Words text Ended) × Loose around later
loose_words (Content marks) text later l = (tt, tt)
loose_words (Flow kind) text later l = (tt, tt)
loose_words (Structural kind) text later l = ((l.0, tt), l.1)

loose_note : (around : Around) (text : List ℕ) (later : Parts) → Loose around (Note text later) → Loose around later
loose_note (Content marks) text later l = tt
loose_note (Flow kind) text later l = tt
loose_note (Structural kind) text later l = l

loose_group : (around : Around) (nodes : Forest) (later : Parts) → Loose around (Group nodes later) → Loose around later
loose_group (Content marks) nodes later l = tt
loose_group (Flow kind) nodes later l = tt
loose_group (Structural kind) nodes later l = l

loose_single : (around : Around) (name : List ℕ) (attrs : List Spelled) (source : List ℕ) (later : Parts) → Loose around (Single name attrs source later) → Loose around later
loose_single (Content marks) name attrs source later l = tt
loose_single (Flow kind) name attrs source later l = tt
loose_single (Structural kind) name attrs source later l = l

loose_parent : (around : Around) (name : List ℕ) (attrs : List Spelled) (children later : Parts) → Loose around (Parent name attrs children later) → Loose around later
loose_parent (Content marks) name attrs children later l = tt
loose_parent (Flow kind) name attrs children later l = tt
loose_parent (Structural kind) name attrs children later l = l

pub made_passes : (around : Around) (parts : Parts) → MarksPass (marks_at around) → Loose around parts → PartsPass parts → (w : Progress) → MadePasses around (made_of around parts w)
made_passes around Ended marks l p w = record { run = tt; later = tt; first = tt; left = nothing_left around }
made_passes around (Words text later) marks l p w =
    let q = loose_words around text later l in
    words_pass around text (made_of around later (past w text [])) marks p.0 q.0 (made_passes around later marks q.1 p.1 (past w text []))
made_passes around (Note text later) marks l p w =
    note_passes around (token_text (Comment text)) (made_of around later) w marks (λ q. made_passes around later marks (loose_note around text later l) p q)
made_passes around (Group nodes later) marks l p w =
    group_passes around nodes (made_of around later) w (ref_of w around nodes) marks (λ q. made_passes around later marks (loose_group around nodes later l) p q)
made_passes around (Single name attrs source later) marks l p w =
    single_passes around name attrs Ended source (made_of around later) w (fit_of around name Ended) (fit_passes around name Ended) p.0 marks
    (λ q. made_passes around later marks (loose_single around name attrs source later l) p.1 q)
made_passes around (Parent name attrs children later) marks l p w =
    element_passes around name attrs (element_source name attrs children) children (made_of around later) w (fit_of around name children) (fit_passes around name children) p.0 p.1 marks
    (λ a m k q. made_passes a children m k p.2 q) (λ q. made_passes around later marks (loose_parent around name attrs children later l) p.3 q)
