-- References of an opened page have keys and editable texts.
use Rattle.std.proofs.Common.{◌≡◌, ℕ, Bool, true, false, ◌&&◌, if◌then◌else◌, List, [], ◌∷◌, ◌++◌, map, Option, Some, None, refl}
use Rattle.std.specs.Prelude.{chars, is_some}
use Rattle.std.proofs.lemmas.Bool.{and_parts, and_from}
use Rattle.model_spelling.specs.Grammar.{Attr as Spelled, Comment, token_text}
use Rattle.model_spelling.specs.Forest.{Forest, spelling}
use Rattle.ve_kinds.specs.declared.kind.Kind.{Kind}
use Rattle.ve_kinds.specs.declared.kind.Kind.TheVariants.{Root, P, H1, H2, H3, H4, H5, H6, Pre, Section, Li, Dt, Dd, Blockquote, Div, Td, Th, Caption, InternalItem, Ul, Ol, Dl, Table, Thead, Tbody, Tfoot, Tr, InternalList, TransBlock, AlienBlock, Br, Img, Ref, TransInline, AlienInline}
use Rattle.ve_kinds.specs.Table.{kind_same, may_hold, is_element, is_inline_leaf}
use Rattle.ve_kinds.specs.Tags.{kind_of_tag}
use Rattle.ve_base.specs.declared.marks.Mark.{Mark}
use Rattle.ve_base.specs.declared.head.Head.{Head}
use Rattle.ve_base.specs.Empty.{empty_head}
use Rattle.model_items.specs.declared.plain_item.PlainItem.{PlainItem}
use Rattle.model_items.specs.declared.plain_item.PlainItem.TheVariants.{Char, Opening, Closing}
use Rattle.model_page.specs.Tags.{is_annotation_tag, is_inline_tag}
use Rattle.model_page.specs.Elements.{is_white}
use Rattle.model_page.specs.Parts.{Parts, Ended, Words, Note, Group, Single, Parent}
use Rattle.model_page.specs.Editable.{is_editable_ref, head_refers, item_refers, all_refer}
use Rattle.model_page.specs.Fit.{Around, Flow, Structural, Content, Fit, Annotation, Leaf, Branch, Whole, around_in, has_child, is_convertible, fit_in_content, fit_in_block, fit_of, whole_kind, is_generated, has_inline_tags, is_inline_at, group_kind, note_kind}
use Rattle.model_page.specs.Heads.{characters, head_with, whole_head}
use Rattle.model_page.specs.Pieces.{SourceSpan, Piece, Owner, Made, Progress, past, source_span, no_piece, node, leaf, chars_piece, items_after, with_white, run_dropped, run_ended, run_closed, in_run, before_run, leaf_before}
use Rattle.model_page.specs.ReferenceNodes.{RefNode, ref_of}
use Rattle.model_page.specs.Convert.{marks_at, marked_around, element_source, inside_of, inside_piece, words_before, group_made, leaf_made, element_made, made_of}
use Rattle.model_page_law.proofs.KindFits.{element_of_tag}

-- ---- kinds that are no references

abbrev pub Other : Kind → Type 0
Other k = (kind_same k Ref ≡ false) × (kind_same k InternalItem ≡ false)

pub other_refers : (k : Kind) → Other k → (head : Head) → head_refers k head ≡ true
other_refers k o head = (λ i. if o.0 i then is_editable_ref head else (if o.1 i then is_some head.reference else true))

abbrev FitOther : Fit → Type 0
FitOther Annotation = Unit {0}
FitOther (Leaf k) = Other k
FitOther (Whole k) = Other k
FitOther (Branch k) = Other k

pub element-other : (k : Kind) → is_element k ≡ true → Other k
element-other Root e = cc
element-other P e = (refl, refl)
element-other H1 e = (refl, refl)
element-other H2 e = (refl, refl)
element-other H3 e = (refl, refl)
element-other H4 e = (refl, refl)
element-other H5 e = (refl, refl)
element-other H6 e = (refl, refl)
element-other Pre e = (refl, refl)
element-other Section e = (refl, refl)
element-other Li e = (refl, refl)
element-other Dt e = (refl, refl)
element-other Dd e = (refl, refl)
element-other Blockquote e = (refl, refl)
element-other Div e = (refl, refl)
element-other Td e = (refl, refl)
element-other Th e = (refl, refl)
element-other Caption e = (refl, refl)
element-other InternalItem e = cc
element-other Ul e = (refl, refl)
element-other Ol e = (refl, refl)
element-other Dl e = (refl, refl)
element-other Table e = (refl, refl)
element-other Thead e = (refl, refl)
element-other Tbody e = (refl, refl)
element-other Tfoot e = (refl, refl)
element-other Tr e = (refl, refl)
element-other InternalList e = cc
element-other TransBlock e = cc
element-other AlienBlock e = cc
element-other Br e = (refl, refl)
element-other Img e = (refl, refl)
element-other Ref e = cc
element-other TransInline e = cc
element-other AlienInline e = cc

fit_chosen : (c : Bool) (a b : Fit) → FitOther a → FitOther b → FitOther (if c then a else b)
fit_chosen true a b f g = f
fit_chosen false a b f g = g

block-other : (parent : Kind) (name : List ℕ) (children : Parts) (kind : Option Kind) → kind_of_tag name ≡ kind → FitOther (fit_in_block parent children kind)
block-other parent name children None e = (refl, refl)
block-other parent name children (Some k) e = fit_chosen (may_hold parent k && is_convertible k children) (Branch k) (Whole AlienBlock) (element-other k (element_of_tag name k e)) (refl, refl)

content-other : (name : List ℕ) (children : Parts) (kind : Option Kind) → FitOther (fit_in_content name children kind)
content-other name children None = fit_chosen (is_annotation_tag name && has_child children) Annotation (Whole AlienInline) tt (refl, refl)
content-other name children (Some Root) = fit_chosen (is_annotation_tag name && has_child children) Annotation (Whole AlienInline) tt (refl, refl)
content-other name children (Some P) = fit_chosen (is_annotation_tag name && has_child children) Annotation (Whole AlienInline) tt (refl, refl)
content-other name children (Some H1) = fit_chosen (is_annotation_tag name && has_child children) Annotation (Whole AlienInline) tt (refl, refl)
content-other name children (Some H2) = fit_chosen (is_annotation_tag name && has_child children) Annotation (Whole AlienInline) tt (refl, refl)
content-other name children (Some H3) = fit_chosen (is_annotation_tag name && has_child children) Annotation (Whole AlienInline) tt (refl, refl)
content-other name children (Some H4) = fit_chosen (is_annotation_tag name && has_child children) Annotation (Whole AlienInline) tt (refl, refl)
content-other name children (Some H5) = fit_chosen (is_annotation_tag name && has_child children) Annotation (Whole AlienInline) tt (refl, refl)
content-other name children (Some H6) = fit_chosen (is_annotation_tag name && has_child children) Annotation (Whole AlienInline) tt (refl, refl)
content-other name children (Some Pre) = fit_chosen (is_annotation_tag name && has_child children) Annotation (Whole AlienInline) tt (refl, refl)
content-other name children (Some Section) = fit_chosen (is_annotation_tag name && has_child children) Annotation (Whole AlienInline) tt (refl, refl)
content-other name children (Some Li) = fit_chosen (is_annotation_tag name && has_child children) Annotation (Whole AlienInline) tt (refl, refl)
content-other name children (Some Dt) = fit_chosen (is_annotation_tag name && has_child children) Annotation (Whole AlienInline) tt (refl, refl)
content-other name children (Some Dd) = fit_chosen (is_annotation_tag name && has_child children) Annotation (Whole AlienInline) tt (refl, refl)
content-other name children (Some Blockquote) = fit_chosen (is_annotation_tag name && has_child children) Annotation (Whole AlienInline) tt (refl, refl)
content-other name children (Some Div) = fit_chosen (is_annotation_tag name && has_child children) Annotation (Whole AlienInline) tt (refl, refl)
content-other name children (Some Td) = fit_chosen (is_annotation_tag name && has_child children) Annotation (Whole AlienInline) tt (refl, refl)
content-other name children (Some Th) = fit_chosen (is_annotation_tag name && has_child children) Annotation (Whole AlienInline) tt (refl, refl)
content-other name children (Some Caption) = fit_chosen (is_annotation_tag name && has_child children) Annotation (Whole AlienInline) tt (refl, refl)
content-other name children (Some InternalItem) = fit_chosen (is_annotation_tag name && has_child children) Annotation (Whole AlienInline) tt (refl, refl)
content-other name children (Some Ul) = fit_chosen (is_annotation_tag name && has_child children) Annotation (Whole AlienInline) tt (refl, refl)
content-other name children (Some Ol) = fit_chosen (is_annotation_tag name && has_child children) Annotation (Whole AlienInline) tt (refl, refl)
content-other name children (Some Dl) = fit_chosen (is_annotation_tag name && has_child children) Annotation (Whole AlienInline) tt (refl, refl)
content-other name children (Some Table) = fit_chosen (is_annotation_tag name && has_child children) Annotation (Whole AlienInline) tt (refl, refl)
content-other name children (Some Thead) = fit_chosen (is_annotation_tag name && has_child children) Annotation (Whole AlienInline) tt (refl, refl)
content-other name children (Some Tbody) = fit_chosen (is_annotation_tag name && has_child children) Annotation (Whole AlienInline) tt (refl, refl)
content-other name children (Some Tfoot) = fit_chosen (is_annotation_tag name && has_child children) Annotation (Whole AlienInline) tt (refl, refl)
content-other name children (Some Tr) = fit_chosen (is_annotation_tag name && has_child children) Annotation (Whole AlienInline) tt (refl, refl)
content-other name children (Some InternalList) = fit_chosen (is_annotation_tag name && has_child children) Annotation (Whole AlienInline) tt (refl, refl)
content-other name children (Some TransBlock) = fit_chosen (is_annotation_tag name && has_child children) Annotation (Whole AlienInline) tt (refl, refl)
content-other name children (Some AlienBlock) = fit_chosen (is_annotation_tag name && has_child children) Annotation (Whole AlienInline) tt (refl, refl)
content-other name children (Some Br) = (refl, refl)
content-other name children (Some Img) = (refl, refl)
content-other name children (Some Ref) = fit_chosen (is_annotation_tag name && has_child children) Annotation (Whole AlienInline) tt (refl, refl)
content-other name children (Some TransInline) = fit_chosen (is_annotation_tag name && has_child children) Annotation (Whole AlienInline) tt (refl, refl)
content-other name children (Some AlienInline) = fit_chosen (is_annotation_tag name && has_child children) Annotation (Whole AlienInline) tt (refl, refl)

fit-other : (around : Around) (name : List ℕ) (children : Parts) → FitOther (fit_of around name children)
fit-other (Content marks) name children = content-other name children (kind_of_tag name)
fit-other (Flow parent) name children =
    fit_chosen (is_inline_tag name) (fit_in_content name children (kind_of_tag name)) (fit_in_block parent children (kind_of_tag name))
    (content-other name children (kind_of_tag name)) (block-other parent name children (kind_of_tag name) refl)
fit-other (Structural parent) name children = block-other parent name children (kind_of_tag name) refl

whole-other : (generated inline : Bool) → Other (whole_kind generated inline)
whole-other true true = (refl, refl)
whole-other true false = (refl, refl)
whole-other false true = (refl, refl)
whole-other false false = (refl, refl)

group-other : (around : Around) (nodes : Forest) → Other (group_kind around nodes)
group-other around nodes = whole-other (is_generated nodes) (is_inline_at around (has_inline_tags nodes))

note-other : (around : Around) → Other (note_kind around)
note-other around = whole-other false (is_inline_at around false)

-- ---- what is made

pub refers-append : (xs ys : List PlainItem) → all_refer xs ≡ true → all_refer ys ≡ true → all_refer (xs ++ ys) ≡ true
refers-append [] ys h g = g
refers-append (x ∷ xs) ys h g = let p = and_parts (item_refers x) (all_refer xs) h in and_from (item_refers x) (all_refer (xs ++ ys)) p.0 (refers-append xs ys p.1 g)

pub refers-chars : (marks : List Mark) (text : List ℕ) → all_refer (map (λ c. Char c marks) text) ≡ true
refers-chars marks [] = refl
refers-chars marks (c ∷ cs) = refers-chars marks cs

refers-node : (kind : Kind) (head : Head) (marks : List Mark) (generated : Bool) (span : SourceSpan) (inside : Piece) (pre : List ℕ) → head_refers kind head ≡ true → all_refer inside.items ≡ true → all_refer (node kind head marks generated span inside pre).items ≡ true
refers-node kind head marks generated span inside pre h g = and_from (head_refers kind head) (all_refer (inside.items ++ Closing kind pre ∷ [])) h (refers-append inside.items (Closing kind pre ∷ []) g refl)

refers-items_after : (white : List ℕ) (items : List PlainItem) → all_refer items ≡ true → all_refer (items_after white items) ≡ true
refers-items_after white [] h = h
refers-items_after white (Char c marks ∷ items) h = h
refers-items_after white (Opening kind head marks pre origin generated ∷ items) h = h
refers-items_after white (Closing kind pre ∷ items) h = h

pub record Refers (m : Made) : Type 0 where
  pub run : all_refer m.run.items ≡ true
  pub later : all_refer m.later.items ≡ true

Refers-with_white : (white : List ℕ) (m : Made) → Refers m → Refers (with_white white m)
Refers-with_white white m h = record { run = h.run; later = refers-items_after white m.later.items h.later }

Refers-chosen : (c : Bool) (a b : Made) → Refers a → Refers b → Refers (if c then a else b)
Refers-chosen true a b f g = f
Refers-chosen false a b f g = g

Refers-run_ended : (source : List ℕ) (w : Progress) (m : Made) → Refers m → Refers (run_ended source w m)
Refers-run_ended [] w m h = record { run = refl; later = h.later }
Refers-run_ended (b ∷ bs) w m h =
    Refers-chosen (is_white (b ∷ bs)) _ _ (Refers-with_white (chars (b ∷ bs)) (run_dropped m) (record { run = refl; later = h.later })) (record {
      run = refl;
      later = refers-append (node P empty_head [] true (source_span w (b ∷ bs)) m.run []).items m.later.items (refers-node P empty_head [] true (source_span w (b ∷ bs)) m.run [] refl h.run) h.later;
    })

pub Refers-run_closed : (w : Progress) (m : Made) → Refers m → Refers (run_closed w m)
Refers-run_closed w m h = Refers-run_ended m.source w m h

Refers-in_run : (piece : Piece) (source : List ℕ) (owners : List Owner) (m : Made) → all_refer piece.items ≡ true → Refers m → Refers (in_run piece source owners m)
Refers-in_run piece source owners m p h = record { run = refers-append piece.items m.run.items p h.run; later = h.later }

Refers-before_run : (w : Progress) (piece : Piece) (owners : List Owner) (m : Made) → all_refer piece.items ≡ true → Refers m → Refers (before_run w piece owners m)
Refers-before_run w piece owners m p h =
    let g = Refers-run_closed w m h in
    record { run = g.run; later = refers-append piece.items (run_closed w m).later.items p g.later }

Refers-leaf_before : (w : Progress) (kind : Kind) (head : Head) (marks : List Mark) (source : List ℕ) (owners : List Owner) (m : Made) → head_refers kind head ≡ true → Refers m → Refers (leaf_before w kind head marks source owners m)
Refers-leaf_before w kind head marks source owners m s h =
    let p = refers-node kind head marks false (source_span w source) no_piece [] s refl in
    Refers-chosen (is_inline_leaf kind) _ _ (Refers-in_run (leaf kind head marks (source_span w source)) source owners m p h) (Refers-before_run (past w source owners) (leaf kind head marks (source_span w source)) owners m p h)

Refers-words_before : (around : Around) (text : List ℕ) (m : Made) → Refers m → Refers (words_before around text m)
Refers-words_before (Structural kind) text m h = Refers-with_white (chars text) m h
Refers-words_before (Flow kind) text m h = Refers-in_run (chars_piece [] (characters text)) text [] m (refers-chars [] (characters text)) h
Refers-words_before (Content marks) text m h = Refers-in_run (chars_piece marks (characters text)) text [] m (refers-chars marks (characters text)) h

pub Refers-inside_piece : (around : Around) (w : Progress) (m : Made) → Refers m → all_refer (inside_piece around w m).later.items ≡ true
Refers-inside_piece (Content marks) w m h = h.run
Refers-inside_piece (Flow kind) w m h = (Refers-run_closed w m h).later
Refers-inside_piece (Structural kind) w m h = h.later

-- a group that is a reference has an editable head
abbrev pub GroupRefers : Bool → Forest → Type 0
GroupRefers editable nodes = (w : Progress) (around : Around) (r : RefNode) → w.editable ≡ editable → ref_of w around nodes ≡ Some r → is_editable_ref r.head ≡ true

abbrev pub GroupsRefer : Bool → Parts → Type 0
GroupsRefer editable Ended = Unit {0}
GroupsRefer editable (Words text later) = GroupsRefer editable later
GroupsRefer editable (Note text later) = GroupsRefer editable later
GroupsRefer editable (Group nodes later) = GroupRefers editable nodes × GroupsRefer editable later
GroupsRefer editable (Single name attrs source later) = GroupsRefer editable later
GroupsRefer editable (Parent name attrs children later) = GroupsRefer editable children × GroupsRefer editable later

-- what a position leads to is editable alike
abbrev pub From : Bool → (Progress → Made) → Type 0
From editable f = (p : Progress) → p.editable ≡ editable → Refers (f p)

Refers-group_made : (editable : Bool) (around : Around) (nodes : Forest) (later : Progress → Made) (w : Progress) (r : Option RefNode) → ref_of w around nodes ≡ r → GroupRefers editable nodes → w.editable ≡ editable → From editable later → Refers (group_made around nodes later w r)
Refers-group_made editable around nodes later w (Some r) e g s h =
    Refers-leaf_before w Ref r.head (marks_at around) (spelling nodes) r.owners (later (past w (spelling nodes) r.owners)) (g w around r s e) (h (past w (spelling nodes) r.owners) s)
Refers-group_made editable around nodes later w None e g s h =
    Refers-leaf_before w (group_kind around nodes) (whole_head (spelling nodes)) (marks_at around) (spelling nodes) [] (later (past w (spelling nodes) []))
    (other_refers (group_kind around nodes) (group-other around nodes) (whole_head (spelling nodes))) (h (past w (spelling nodes) []) s)

Refers-leaf_made : (editable : Bool) (around : Around) (attrs : List Spelled) (source : List ℕ) (later : Progress → Made) (w : Progress) (fit : Fit) → FitOther fit → w.editable ≡ editable → From editable later → Refers (leaf_made around attrs source later w fit)
Refers-leaf_made editable around attrs source later w (Leaf kind) f s h = Refers-leaf_before w kind (head_with attrs) (marks_at around) source [] (later (past w source [])) (other_refers kind f (head_with attrs)) (h (past w source []) s)
Refers-leaf_made editable around attrs source later w (Whole kind) f s h = Refers-leaf_before w kind (whole_head source) (marks_at around) source [] (later (past w source [])) (other_refers kind f (whole_head source)) (h (past w source []) s)
Refers-leaf_made editable around attrs source later w Annotation f s h = Refers-leaf_before w (note_kind around) (whole_head source) (marks_at around) source [] (later (past w source [])) (other_refers (note_kind around) (note-other around) (whole_head source)) (h (past w source []) s)
Refers-leaf_made editable around attrs source later w (Branch kind) f s h = Refers-leaf_before w (note_kind around) (whole_head source) (marks_at around) source [] (later (past w source [])) (other_refers (note_kind around) (note-other around) (whole_head source)) (h (past w source []) s)

Refers-element_made : (editable : Bool) (around : Around) (name : List ℕ) (attrs : List Spelled) (source : List ℕ) (children : Around → Progress → Made) (later : Progress → Made) (w : Progress) (fit : Fit) → FitOther fit → w.editable ≡ editable →
    ((a : Around) → From editable (children a)) → From editable later → Refers (element_made around name attrs source children later w fit)
Refers-element_made editable around name attrs source children later w Annotation f s g h =
    let inside = children (marked_around around name attrs) (inside_of w name attrs) in
    Refers-in_run inside.run source inside.owners (later (past w source inside.owners)) (g (marked_around around name attrs) (inside_of w name attrs) s).run (h (past w source inside.owners) s)
Refers-element_made editable around name attrs source children later w (Branch kind) f s g h =
    let at = inside_of w name attrs in
    let inside = inside_piece (around_in kind) at (children (around_in kind) at) in
    let after = past w source inside.owners in
    Refers-before_run after (node kind (head_with attrs) [] false (source_span w source) inside.later inside.pre) inside.owners (later after)
    (refers-node kind (head_with attrs) [] false (source_span w source) inside.later inside.pre (other_refers kind f (head_with attrs)) (Refers-inside_piece (around_in kind) at (children (around_in kind) at) (g (around_in kind) at s)))
    (h after s)
Refers-element_made editable around name attrs source children later w (Leaf kind) f s g h = Refers-leaf_made editable around attrs source later w (Leaf kind) f s h
Refers-element_made editable around name attrs source children later w (Whole kind) f s g h = Refers-leaf_made editable around attrs source later w (Whole kind) f s h

pub Refers-made_of : (editable : Bool) (around : Around) (parts : Parts) → GroupsRefer editable parts → From editable (made_of around parts)
Refers-made_of editable around Ended g w s = record { run = refl; later = refl }
Refers-made_of editable around (Words text later) g w s = Refers-words_before around text (made_of around later (past w text [])) (Refers-made_of editable around later g (past w text []) s)
Refers-made_of editable around (Note text later) g w s =
    Refers-leaf_made editable around [] (token_text (Comment text)) (made_of around later) w (Whole (note_kind around)) (note-other around) s (λ p t. Refers-made_of editable around later g p t)
Refers-made_of editable around (Group nodes later) g w s =
    Refers-group_made editable around nodes (made_of around later) w (ref_of w around nodes) refl g.0 s (λ p t. Refers-made_of editable around later g.1 p t)
Refers-made_of editable around (Single name attrs source later) g w s =
    Refers-leaf_made editable around attrs source (made_of around later) w (fit_of around name Ended) (fit-other around name Ended) s (λ p t. Refers-made_of editable around later g p t)
Refers-made_of editable around (Parent name attrs children later) g w s =
    Refers-element_made editable around name attrs (element_source name attrs children) (λ a. made_of a children) (made_of around later) w (fit_of around name children) (fit-other around name children) s
    (λ a p t. Refers-made_of editable a children g.0 p t) (λ p t. Refers-made_of editable around later g.1 p t)
