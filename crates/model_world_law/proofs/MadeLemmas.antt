-- The items of a page or a fragment have names apart: each head is empty, keeps a source alone, or
-- has the attributes of one start tag.
use Rattle.std.proofs.Common.{◌≡◌, ℕ, zero, suc, Bool, true, false, not, ◌&&◌, if◌then◌else◌, List, [], ◌∷◌, ◌++◌, map, Option, Some, None, refl, ap, subst}
use Rattle.std.specs.Prelude.{chars, codes, flat_map, unwrap_or}
use Rattle.std.proofs.lemmas.Bool.{and_parts}
use Rattle.model_spelling.specs.Grammar.{Attr as Spelled, Comment, token_text, end_text, comment_close, is_start, is_text, is_verbatim}
use Rattle.ve_kinds.specs.Tags.{is_void, is_raw}
use Rattle.model_spelling.specs.Forest.{Forest, Nothing, Text, Remark, Void, RawElement, Element, spelling, is_forest, starts_with_text}
use Rattle.model_spelling.specs.Parsed.{forest_of}
use Rattle.model_spelling.proofs.Proved.{law_reads_right}
use Rattle.ve_kinds.specs.declared.kind.Kind.{Kind}
use Rattle.ve_kinds.specs.declared.kind.Kind.TheVariants.{Root, P, Ref, InternalItem, InternalList}
use Rattle.ve_kinds.specs.Table.{is_inline_leaf, is_flow}
use Rattle.ve_base.specs.declared.marks.Mark.{Mark}
use Rattle.ve_base.specs.declared.head.Head.{Head}
use Rattle.ve_base.specs.Empty.{empty_head}
use Rattle.ve_base.specs.Names.{NamesApart}
use Rattle.model_items.specs.declared.plain_item.PlainItem.{PlainItem}
use Rattle.model_items.specs.declared.plain_item.PlainItem.TheVariants.{Char, Opening, Closing}
use Rattle.model_change.specs.Attributes.{AllNamesApart}
use Rattle.model_page.specs.Elements.{is_white, is_held, about_of, value_named}
use Rattle.model_page.specs.Parts.{Parts, Ended, Words, Note, Group, Single, Parent, about_in, is_shared, with_held, parts_of, source_of}
use Rattle.model_page.specs.DataMw.{RefRead}
use Rattle.model_page.specs.Fit.{Around, Flow, Structural, Content, Fit, Annotation, Leaf, Branch, Whole, around_in, fit_of, group_kind, note_kind}
use Rattle.model_page.specs.Heads.{characters, attrs_of, head_with, whole_head}
use Rattle.model_page.specs.Pieces.{SourceSpan, Piece, Owner, Made, Progress, past, source_span, no_piece, node, leaf, chars_piece, items_after, with_white, run_dropped, run_ended, run_closed, in_run, before_run, leaf_before}
use Rattle.model_page.specs.ReferenceNodes.{RefNode, reference_in, ref_node, may_be_reference, ref_of}
use Rattle.model_page.specs.Convert.{marks_at, marked_around, element_source, inside_of, inside_piece, words_before, group_made, leaf_made, element_made, made_of}
use Rattle.model_page.specs.PageItems.{with_origins, body_made, or_nothing, internal_item, internal_list, page_made, items_of_page}
use Rattle.model_page.specs.Fragment.{context_of, item_unmade, pieces_in, fragment_items}
use Rattle.model_world_law.proofs.NameLemmas.{start_apart}
use Rattle.model_edit_law.proofs.ApartLemmas.{AllNamesApart-append as apart-append}

pub apart-chars : (marks : List Mark) (text : List ℕ) → AllNamesApart (map (λ c. Char c marks) text)
apart-chars marks [] = tt
apart-chars marks (c ∷ text) = (tt, apart-chars marks text)

-- ---- forests and parts

-- the attributes of each tag
abbrev pub ForestApart : Forest → Type 0
ForestApart Nothing = Unit {0}
ForestApart (Text text rest) = ForestApart rest
ForestApart (Remark text rest) = ForestApart rest
ForestApart (Void name attrs slash rest) = NamesApart (attrs_of attrs) × ForestApart rest
ForestApart (RawElement name attrs text rest) = NamesApart (attrs_of attrs) × ForestApart rest
ForestApart (Element name attrs children rest) = NamesApart (attrs_of attrs) × ForestApart children × ForestApart rest

pub forest_apart : (room : ℕ) (f : Forest) → is_forest room f ≡ true → ForestApart f
forest_apart room Nothing h = tt
forest_apart room (Text text rest) h = forest_apart room rest (and_parts (is_text text && not (starts_with_text rest)) (is_forest room rest) h).1
forest_apart room (Remark text rest) h = forest_apart room rest (and_parts (is_verbatim comment_close text) (is_forest room rest) h).1
forest_apart zero (Void name attrs slash rest) h = cc
forest_apart (suc room) (Void name attrs slash rest) h =
    let p = and_parts (is_void name && is_start name attrs slash) (is_forest (suc room) rest) h in
    (start_apart name attrs slash (and_parts (is_void name) (is_start name attrs slash) p.0).1, forest_apart (suc room) rest p.1)
forest_apart zero (RawElement name attrs text rest) h = cc
forest_apart (suc room) (RawElement name attrs text rest) h =
    let p = and_parts (is_raw name && is_start name attrs false && is_verbatim (end_text name) text) (is_forest (suc room) rest) h in
    let q = and_parts (is_raw name && is_start name attrs false) (is_verbatim (end_text name) text) p.0 in
    (start_apart name attrs false (and_parts (is_raw name) (is_start name attrs false) q.0).1, forest_apart (suc room) rest p.1)
forest_apart zero (Element name attrs children rest) h = cc
forest_apart (suc room) (Element name attrs children rest) h =
    let p = and_parts (not (is_void name) && not (is_raw name) && is_start name attrs false && is_forest room children) (is_forest (suc room) rest) h in
    let q = and_parts (not (is_void name) && not (is_raw name) && is_start name attrs false) (is_forest room children) p.0 in
    let r = and_parts (not (is_void name) && not (is_raw name)) (is_start name attrs false) q.0 in
    (start_apart name attrs false r.1, forest_apart room children q.1, forest_apart (suc room) rest p.1)

abbrev pub PartsApart : Parts → Type 0
PartsApart Ended = Unit {0}
PartsApart (Words text later) = PartsApart later
PartsApart (Note text later) = PartsApart later
PartsApart (Group nodes later) = ForestApart nodes × PartsApart later
PartsApart (Single name attrs source later) = NamesApart (attrs_of attrs) × PartsApart later
PartsApart (Parent name attrs children later) = NamesApart (attrs_of attrs) × PartsApart children × PartsApart later

parts_chosen : (c : Bool) (a b : Parts) → PartsApart a → PartsApart b → PartsApart (if c then a else b)
parts_chosen true a b f g = f
parts_chosen false a b f g = g

held_apart : (about : Option (List ℕ)) (element : Forest → Forest) → ((nodes : Forest) → ForestApart nodes → ForestApart (element nodes)) → (parts : Parts) → PartsApart parts → PartsApart (with_held about element parts)
held_apart about element m Ended p = (m Nothing tt, tt)
held_apart about element m (Words t Ended) p = (m Nothing tt, p)
held_apart about element m (Words t (Words u later)) p = (m Nothing tt, p)
held_apart about element m (Words t (Note u later)) p = (m Nothing tt, p)
held_apart about element m (Words t (Group nodes later)) p =
    parts_chosen (is_white t && is_shared about (about_in nodes)) (Group (element (Text t nodes)) later) (Group (element Nothing) (Words t (Group nodes later))) (m (Text t nodes) p.0, p.1) (m Nothing tt, p)
held_apart about element m (Words t (Single name attrs source later)) p = (m Nothing tt, p)
held_apart about element m (Words t (Parent name attrs children later)) p = (m Nothing tt, p)
held_apart about element m (Note t later) p = (m Nothing tt, p)
held_apart about element m (Group nodes later) p =
    parts_chosen (is_shared about (about_in nodes)) (Group (element nodes) later) (Group (element Nothing) (Group nodes later)) (m nodes p.0, p.1) (m Nothing tt, p)
held_apart about element m (Single name attrs source later) p = (m Nothing tt, p)
held_apart about element m (Parent name attrs children later) p = (m Nothing tt, p)

pub parts_apart : (f : Forest) → ForestApart f → PartsApart (parts_of f)
parts_apart Nothing p = tt
parts_apart (Text text rest) p = parts_apart rest p
parts_apart (Remark text rest) p = parts_apart rest p
parts_apart (Void name attrs slash rest) p =
    parts_chosen (is_held attrs) _ _ (held_apart (about_of attrs) (Void name attrs slash) (λ nodes q. (p.0, q)) (parts_of rest) (parts_apart rest p.1)) (p.0, parts_apart rest p.1)
parts_apart (RawElement name attrs text rest) p =
    parts_chosen (is_held attrs) _ _ (held_apart (about_of attrs) (RawElement name attrs text) (λ nodes q. (p.0, q)) (parts_of rest) (parts_apart rest p.1)) (p.0, parts_apart rest p.1)
parts_apart (Element name attrs children rest) p =
    parts_chosen (is_held attrs) _ _ (held_apart (about_of attrs) (Element name attrs children) (λ nodes q. (p.0, p.1, q)) (parts_of rest) (parts_apart rest p.2)) (p.0, parts_apart children p.1, parts_apart rest p.2)

-- ---- a reference has the attributes of its element

made_ref : (w : Progress) (name : List ℕ) (attrs : List Spelled) (children : Forest) (r : RefNode) → NamesApart (attrs_of attrs) → (may : Bool) (found : Option RefRead) →
    (if may then (elim found [ None ↦ None | Some reading ↦ Some (ref_node w name attrs children reading) ]) else None) ≡ Some r → NamesApart r.head.attrs
made_ref w name attrs children r p false found h = cc
made_ref w name attrs children r p true None h = cc
made_ref w name attrs children r p true (Some reading) h =
    let first : RefNode = ref_node w name attrs children reading in
    let is : first ≡ r = let s : ◌≡◌ {A = Option RefNode} (Some first) (Some r) = h in ap (λ x. unwrap_or x first) s in
    subst (λ x. NamesApart x.head.attrs) is p

ref_apart : (w : Progress) (around : Around) (nodes : Forest) (r : RefNode) → ForestApart nodes → ref_of w around nodes ≡ Some r → NamesApart r.head.attrs
ref_apart w around Nothing r p e = cc
ref_apart w around (Text text rest) r p e = cc
ref_apart w around (Remark text rest) r p e = cc
ref_apart w around (Void name attrs slash rest) r p e = cc
ref_apart w around (RawElement name attrs text rest) r p e = cc
ref_apart w around (Element name attrs children Nothing) r p e =
    made_ref w name attrs children r p.0 (may_be_reference w around name attrs) (reference_in w.owners (value_named (codes "data-mw") attrs)) e
ref_apart w around (Element name attrs children (Text text rest)) r p e = cc
ref_apart w around (Element name attrs children (Remark text rest)) r p e = cc
ref_apart w around (Element name attrs children (Void n a slash rest)) r p e = cc
ref_apart w around (Element name attrs children (RawElement n a text rest)) r p e = cc
ref_apart w around (Element name attrs children (Element n a inner rest)) r p e = cc

-- ---- what is made

pub record MadeApart (m : Made) : Type 0 where
  pub run : AllNamesApart m.run.items
  pub later : AllNamesApart m.later.items

node_apart : (kind : Kind) (head : Head) (marks : List Mark) (generated : Bool) (span : SourceSpan) (inside : Piece) (pre : List ℕ) → NamesApart head.attrs → AllNamesApart inside.items → AllNamesApart (node kind head marks generated span inside pre).items
node_apart kind head marks generated span inside pre p q = (p, apart-append inside.items (Closing kind pre ∷ []) q (tt, tt))

after_apart : (white : List ℕ) (items : List PlainItem) → AllNamesApart items → AllNamesApart (items_after white items)
after_apart white [] p = p
after_apart white (Char c marks ∷ items) p = p
after_apart white (Opening kind head marks pre origin generated ∷ items) p = p
after_apart white (Closing kind pre ∷ items) p = p

with_white_apart : (white : List ℕ) (m : Made) → MadeApart m → MadeApart (with_white white m)
with_white_apart white m h = record { run = h.run; later = after_apart white m.later.items h.later }

made_chosen : (c : Bool) (a b : Made) → MadeApart a → MadeApart b → MadeApart (if c then a else b)
made_chosen true a b f g = f
made_chosen false a b f g = g

run_ended_apart : (source : List ℕ) (w : Progress) (m : Made) → MadeApart m → MadeApart (run_ended source w m)
run_ended_apart [] w m h = record { run = tt; later = h.later }
run_ended_apart (b ∷ bs) w m h =
    made_chosen (is_white (b ∷ bs)) _ _ (with_white_apart (chars (b ∷ bs)) (run_dropped m) (record { run = tt; later = h.later })) (record {
      run = tt;
      later = apart-append (node P empty_head [] true (source_span w (b ∷ bs)) m.run []).items m.later.items (node_apart P empty_head [] true (source_span w (b ∷ bs)) m.run [] tt h.run) h.later;
    })

run_closed_apart : (w : Progress) (m : Made) → MadeApart m → MadeApart (run_closed w m)
run_closed_apart w m h = run_ended_apart m.source w m h

in_run_apart : (piece : Piece) (source : List ℕ) (owners : List Owner) (m : Made) → AllNamesApart piece.items → MadeApart m → MadeApart (in_run piece source owners m)
in_run_apart piece source owners m p h = record { run = apart-append piece.items m.run.items p h.run; later = h.later }

before_run_apart : (w : Progress) (piece : Piece) (owners : List Owner) (m : Made) → AllNamesApart piece.items → MadeApart m → MadeApart (before_run w piece owners m)
before_run_apart w piece owners m p h =
    let g = run_closed_apart w m h in
    record { run = g.run; later = apart-append piece.items (run_closed w m).later.items p g.later }

leaf_before_apart : (w : Progress) (kind : Kind) (head : Head) (marks : List Mark) (source : List ℕ) (owners : List Owner) (m : Made) → NamesApart head.attrs → MadeApart m → MadeApart (leaf_before w kind head marks source owners m)
leaf_before_apart w kind head marks source owners m s h =
    let p = node_apart kind head marks false (source_span w source) no_piece [] s tt in
    made_chosen (is_inline_leaf kind) _ _ (in_run_apart (leaf kind head marks (source_span w source)) source owners m p h) (before_run_apart (past w source owners) (leaf kind head marks (source_span w source)) owners m p h)

words_before_apart : (around : Around) (text : List ℕ) (m : Made) → MadeApart m → MadeApart (words_before around text m)
words_before_apart (Structural kind) text m h = with_white_apart (chars text) m h
words_before_apart (Flow kind) text m h = in_run_apart (chars_piece [] (characters text)) text [] m (apart-chars [] (characters text)) h
words_before_apart (Content marks) text m h = in_run_apart (chars_piece marks (characters text)) text [] m (apart-chars marks (characters text)) h

inside_apart : (around : Around) (w : Progress) (m : Made) → MadeApart m → AllNamesApart (inside_piece around w m).later.items
inside_apart (Content marks) w m h = h.run
inside_apart (Flow kind) w m h = (run_closed_apart w m h).later
inside_apart (Structural kind) w m h = h.later

group_apart : (around : Around) (nodes : Forest) (later : Progress → Made) (w : Progress) (r : Option RefNode) → ref_of w around nodes ≡ r → ForestApart nodes → ((p : Progress) → MadeApart (later p)) → MadeApart (group_made around nodes later w r)
group_apart around nodes later w (Some r) e g h =
    leaf_before_apart w Ref r.head (marks_at around) (spelling nodes) r.owners (later (past w (spelling nodes) r.owners)) (ref_apart w around nodes r g e) (h (past w (spelling nodes) r.owners))
group_apart around nodes later w None e g h =
    leaf_before_apart w (group_kind around nodes) (whole_head (spelling nodes)) (marks_at around) (spelling nodes) [] (later (past w (spelling nodes) [])) tt (h (past w (spelling nodes) []))

leaf_apart : (around : Around) (attrs : List Spelled) (source : List ℕ) (later : Progress → Made) (w : Progress) (fit : Fit) → NamesApart (attrs_of attrs) → ((p : Progress) → MadeApart (later p)) → MadeApart (leaf_made around attrs source later w fit)
leaf_apart around attrs source later w (Leaf kind) p h = leaf_before_apart w kind (head_with attrs) (marks_at around) source [] (later (past w source [])) p (h (past w source []))
leaf_apart around attrs source later w (Whole kind) p h = leaf_before_apart w kind (whole_head source) (marks_at around) source [] (later (past w source [])) tt (h (past w source []))
leaf_apart around attrs source later w Annotation p h = leaf_before_apart w (note_kind around) (whole_head source) (marks_at around) source [] (later (past w source [])) tt (h (past w source []))
leaf_apart around attrs source later w (Branch kind) p h = leaf_before_apart w (note_kind around) (whole_head source) (marks_at around) source [] (later (past w source [])) tt (h (past w source []))

element_apart : (around : Around) (name : List ℕ) (attrs : List Spelled) (source : List ℕ) (children : Around → Progress → Made) (later : Progress → Made) (w : Progress) (fit : Fit) → NamesApart (attrs_of attrs) →
    ((a : Around) (p : Progress) → MadeApart (children a p)) → ((p : Progress) → MadeApart (later p)) → MadeApart (element_made around name attrs source children later w fit)
element_apart around name attrs source children later w Annotation p g h =
    let inside = children (marked_around around name attrs) (inside_of w name attrs) in
    in_run_apart inside.run source inside.owners (later (past w source inside.owners)) (g (marked_around around name attrs) (inside_of w name attrs)).run (h (past w source inside.owners))
element_apart around name attrs source children later w (Branch kind) p g h =
    let at = inside_of w name attrs in
    let inside = inside_piece (around_in kind) at (children (around_in kind) at) in
    let suffix = past w source inside.owners in
    before_run_apart suffix (node kind (head_with attrs) [] false (source_span w source) inside.later inside.pre) inside.owners (later suffix)
    (node_apart kind (head_with attrs) [] false (source_span w source) inside.later inside.pre p (inside_apart (around_in kind) at (children (around_in kind) at) (g (around_in kind) at)))
    (h suffix)
element_apart around name attrs source children later w (Leaf kind) p g h = leaf_apart around attrs source later w (Leaf kind) p h
element_apart around name attrs source children later w (Whole kind) p g h = leaf_apart around attrs source later w (Whole kind) p h

pub made_apart : (around : Around) (parts : Parts) → PartsApart parts → (w : Progress) → MadeApart (made_of around parts w)
made_apart around Ended g w = record { run = tt; later = tt }
made_apart around (Words text later) g w = words_before_apart around text (made_of around later (past w text [])) (made_apart around later g (past w text []))
made_apart around (Note text later) g w =
    leaf_apart around [] (token_text (Comment text)) (made_of around later) w (Whole (note_kind around)) tt (λ p. made_apart around later g p)
made_apart around (Group nodes later) g w = group_apart around nodes (made_of around later) w (ref_of w around nodes) refl g.0 (λ p. made_apart around later g.1 p)
made_apart around (Single name attrs source later) g w = leaf_apart around attrs source (made_of around later) w (fit_of around name Ended) g.0 (λ p. made_apart around later g.1 p)
made_apart around (Parent name attrs children later) g w =
    element_apart around name attrs (element_source name attrs children) (λ a. made_of a children) (made_of around later) w (fit_of around name children) g.0
    (λ a p. made_apart a children g.1 p) (λ p. made_apart around later g.2 p)

-- ---- texts that are read, fragments and pages

pub read_apart : (text : List ℕ) → ForestApart (or_nothing (forest_of text))
read_apart text = by (forest_of text) refl
  where
    by : (r : Option Forest) → forest_of text ≡ r → ForestApart (or_nothing r)
    by None e = tt
    by (Some f) e = forest_apart 200 f (law_reads_right text f e).1

unmade_apart : (items : List PlainItem) → AllNamesApart items → AllNamesApart (map item_unmade items)
unmade_apart [] p = tt
unmade_apart (Char c marks ∷ items) p = (tt, unmade_apart items p.1)
unmade_apart (Closing kind pre ∷ items) p = (tt, unmade_apart items p.1)
unmade_apart (Opening kind head marks pre origin generated ∷ items) p = (p.0, unmade_apart items p.1)

pub fragment_apart : (stack : List Kind) (f : Forest) → ForestApart f → AllNamesApart (fragment_items stack f)
fragment_apart stack f g = by (is_flow k && is_white (source_of parts))
  where
    parts : Parts
    parts = parts_of f

    k : Kind
    k = context_of parts stack

    by : (b : Bool) → AllNamesApart (
        if b
        then Opening P empty_head [] [] None false ∷ map (λ c. Char c []) (chars (source_of (parts_of f))) ++ Closing P [] ∷ []
        else map item_unmade (pieces_in (context_of (parts_of f) stack) (parts_of f)).later.items
        )
    by true = (tt, apart-append (map (λ c. Char c []) (chars (source_of (parts_of f)))) (Closing P [] ∷ []) (apart-chars [] (chars (source_of (parts_of f)))) (tt, tt))
    by false =
        let w : Progress = record { at = 0; owners = []; editable = false } in
        let around = around_in (context_of (parts_of f) stack) in
        unmade_apart (pieces_in (context_of (parts_of f) stack) (parts_of f)).later.items (inside_apart around w (made_of around (parts_of f) w) (made_apart around (parts_of f) (parts_apart f g) w))

origins_apart : (k : ℕ) (items : List PlainItem) → AllNamesApart items → AllNamesApart (with_origins k items)
origins_apart k [] p = tt
origins_apart k (Char c marks ∷ items) p = (tt, origins_apart k items p.1)
origins_apart k (Closing kind pre ∷ items) p = (tt, origins_apart k items p.1)
origins_apart k (Opening kind head marks pre origin generated ∷ items) p = (p.0, origins_apart (suc k) items p.1)

body_apart : (o : Owner) → AllNamesApart (internal_item o)
body_apart o =
    let f = or_nothing (forest_of o.html) in
    let w : Progress = record { at = 0; owners = []; editable = false } in
    (tt, apart-append (body_made f).later.items (Closing InternalItem (body_made f).pre ∷ []) (run_closed_apart w (made_of (Flow InternalItem) (parts_of f) w) (made_apart (Flow InternalItem) (parts_of f) (parts_apart f (read_apart o.html)) w)).later (tt, tt))

bodies_apart : (owners : List Owner) → AllNamesApart (flat_map internal_item owners)
bodies_apart [] = tt
bodies_apart (o ∷ owners) = apart-append (internal_item o) (flat_map internal_item owners) (body_apart o) (bodies_apart owners)

pub page_apart : (at : ℕ) (f : Forest) → ForestApart f → AllNamesApart (items_of_page (page_made at f))
page_apart at f g =
    let w : Progress = record { at = at; owners = []; editable = true } in
    let m = page_made at f in
    apart-append (with_origins 0 m.later.items) (internal_list m.pre m.owners)
    (origins_apart 0 m.later.items (run_closed_apart w (made_of (Flow Root) (parts_of f) w) (made_apart (Flow Root) (parts_of f) (parts_apart f g) w)).later)
    (tt, apart-append (flat_map internal_item m.owners) (Closing InternalList [] ∷ []) (bodies_apart m.owners) (tt, tt))
