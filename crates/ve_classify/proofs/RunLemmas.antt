-- In a flow parent a run is what it is in content.
use Rattle.std.proofs.Common.{◌≡◌, ℕ, ◌+◌, Bool, true, false, ◌&&◌, List, [], ◌++◌, length, Option, Some, None, refl, sym, ap, ◌∙◌, arith, append_assoc, append-nil, add-zero, if◌then◌else◌}
use Rattle.std.proofs.lemmas.List.{length-append}
use Rattle.model_spelling.specs.Grammar.{Attr as Spelled}
use Rattle.model_spelling.specs.Forest.{Forest, Nothing, Text, Remark, Void, RawElement, Element, spelling}
use Rattle.model_spelling.proofs.AttrReading.{and_left, and_right}
use Rattle.ve_kinds.specs.declared.kind.Kind.{Kind}
use Rattle.ve_kinds.specs.declared.kind.Kind.TheVariants.{Root, P, H1, H2, H3, H4, H5, H6, Pre, Section, Li, Dt, Dd, Blockquote, Div, Td, Th, Caption, InternalItem, Ul, Ol, Dl, Table, Thead, Tbody, Tfoot, Tr, InternalList, TransBlock, AlienBlock, Br, Img, Ref, TransInline, AlienInline}
use Rattle.ve_kinds.specs.Table.{is_inline_leaf}
use Rattle.ve_kinds.specs.Tags.{kind_of_tag}
use Rattle.model_page.specs.Tags.{is_annotation_tag, is_inline_tag}
use Rattle.model_page.specs.Parts.{Parts, Ended, Words, Note, Group, Single, Parent, source_of}
use Rattle.model_page.specs.Fit.{Around, Flow, Content, Fit, Annotation, Leaf, Branch, Whole, has_child, fit_of, fit_in_content, whole_kind, is_generated, has_inline_tags}
use Rattle.model_page.specs.Heads.{characters, head_with, whole_head}
use Rattle.model_page.specs.Pieces.{Piece, Owner, Made, Progress, past, source_span, leaf, chars_piece, in_run}
use Rattle.model_page.specs.ReferenceNodes.{RefNode, ref_of}
use Rattle.model_page.specs.Convert.{marked_around, element_source, inside_of, leaf_made, group_made, element_made, made_of}
use Rattle.ve_classify.specs.Runs.{then_parts, is_run, run_before}

-- ---- positions

pub past_none : (w : Progress) → past w [] [] ≡ w
past_none w =
    ap (λ n. record { at = n; owners = w.owners ++ []; editable = w.editable }) (add-zero w.at) ∙ ap (λ l. record { at = w.at; owners = l; editable = w.editable }) (append-nil w.owners)

pub past_past : (w : Progress) (s t : List ℕ) (a b : List Owner) → past (past w s a) t b ≡ past w (s ++ t) (a ++ b)
past_past w s t a b =
    let n : w.at + length s + length t ≡ w.at + length (s ++ t) = omega (arith, length-append s t) in
    ap (λ k. record { at = k; owners = w.owners ++ a ++ b; editable = w.editable }) n ∙ ap (λ l. record { at = w.at + length (s ++ t); owners = l; editable = w.editable }) (append_assoc w.owners a b)

-- one part more before a run and what follows it
step : (piece : Piece) (source rest : List ℕ) (owners : List Owner) (c : Made) (f : Progress → Made) (w : Progress) →
    in_run piece source owners (run_before c (f (past (past w source owners) rest c.owners))) ≡ run_before (in_run piece source owners c) (f (past w (source ++ rest) (owners ++ c.owners)))
step piece source rest owners c f w =
    let m : Made = f (past w (source ++ rest) (owners ++ c.owners)) in
    let e : f (past (past w source owners) rest c.owners) ≡ m = ap f (past_past w source rest owners c.owners) in
    let i = append_assoc piece.items c.run.items m.run.items in
    let s = append_assoc piece.spans c.run.spans m.run.spans in
    let t = append_assoc source c.source m.source in
    let o = append_assoc owners c.owners m.owners in
    ap (λ x. in_run piece source owners (run_before c x)) e
    ∙ (λ j. record { run = record { items = sym i j; spans = sym s j }; source = sym t j; later = m.later; pre = m.pre; owners = sym o j })

-- ---- a part that stands in a run

-- The part of this source in a run, whatever follows it, in either parent.
pub record InRun (source : List ℕ) (w : Progress) (flow content : (Progress → Made) → Made) : Type 0 where
  piece : Piece
  owners : List Owner
  in_flow : (later : Progress → Made) → flow later ≡ in_run piece source owners (later (past w source owners))
  in_content : (later : Progress → Made) → content later ≡ in_run piece source owners (later (past w source owners))

-- the fit of a leaf in a run
abbrev pub leaf_inline : Fit → Bool
leaf_inline Annotation = false
leaf_inline (Leaf k) = is_inline_leaf k
leaf_inline (Branch k) = false
leaf_inline (Whole k) = is_inline_leaf k

abbrev pub fit_inline : Fit → Bool
fit_inline Annotation = true
fit_inline (Leaf k) = is_inline_leaf k
fit_inline (Branch k) = false
fit_inline (Whole k) = is_inline_leaf k

leaf_in : (kind : Kind) (attrs : List Spelled) (source : List ℕ) (w : Progress) (f : Fit) → leaf_inline f ≡ true →
    InRun source w (λ later. leaf_made (Flow kind) attrs source later w f) (λ later. leaf_made (Content []) attrs source later w f)
leaf_in kind attrs source w Annotation e = absurd cc
leaf_in kind attrs source w (Branch k) e = absurd cc
leaf_in kind attrs source w (Leaf k) e = record { piece = leaf k (head_with attrs) [] (source_span w source); owners = []; in_flow = λ later. rw e refl; in_content = λ later. rw e refl }
leaf_in kind attrs source w (Whole k) e = record { piece = leaf k (whole_head source) [] (source_span w source); owners = []; in_flow = λ later. rw e refl; in_content = λ later. rw e refl }

element_in : (kind : Kind) (name : List ℕ) (attrs : List Spelled) (source : List ℕ) (children : Around → Progress → Made) (w : Progress) (f : Fit) → fit_inline f ≡ true →
    InRun source w (λ later. element_made (Flow kind) name attrs source children later w f) (λ later. element_made (Content []) name attrs source children later w f)
element_in kind name attrs source children w Annotation e =
    let inside = children (marked_around (Content []) name attrs) (inside_of w name attrs) in
    record { piece = inside.run; owners = inside.owners; in_flow = λ later. refl; in_content = λ later. refl }
element_in kind name attrs source children w (Branch k) e = absurd cc
element_in kind name attrs source children w (Leaf k) e = leaf_in kind attrs source w (Leaf k) e
element_in kind name attrs source children w (Whole k) e = leaf_in kind attrs source w (Whole k) e

ref_same : (w : Progress) (kind : Kind) (nodes : Forest) → ref_of w (Flow kind) nodes ≡ ref_of w (Content []) nodes
ref_same w kind Nothing = refl
ref_same w kind (Text text rest) = refl
ref_same w kind (Remark text rest) = refl
ref_same w kind (Void name attrs slash rest) = refl
ref_same w kind (RawElement name attrs text rest) = refl
ref_same w kind (Element name attrs children Nothing) = refl
ref_same w kind (Element name attrs children (Text t rest)) = refl
ref_same w kind (Element name attrs children (Remark t rest)) = refl
ref_same w kind (Element name attrs children (Void n a s rest)) = refl
ref_same w kind (Element name attrs children (RawElement n a t rest)) = refl
ref_same w kind (Element name attrs children (Element n a c rest)) = refl

whole_leaf : (generated : Bool) → is_inline_leaf (whole_kind generated true) ≡ true
whole_leaf true = refl
whole_leaf false = refl

group_in : (kind : Kind) (nodes : Forest) (w : Progress) (r : Option RefNode) → has_inline_tags nodes ≡ true →
    InRun (spelling nodes) w (λ later. group_made (Flow kind) nodes later w r) (λ later. group_made (Content []) nodes later w r)
group_in kind nodes w (Some r) e = record { piece = leaf Ref r.head [] (source_span w (spelling nodes)); owners = r.owners; in_flow = λ later. refl; in_content = λ later. refl }
group_in kind nodes w None e = record {
  piece = leaf (whole_kind (is_generated nodes) true) (whole_head (spelling nodes)) [] (source_span w (spelling nodes));
  owners = [];
  in_flow = λ later. rw (e, whole_leaf (is_generated nodes)) refl;
  in_content = λ later. rw (whole_leaf (is_generated nodes)) refl;
}

-- ---- the fit of an element of an inline tag

mark_fit : (b : Bool) → fit_inline (if b then Annotation else Whole AlienInline) ≡ true
mark_fit true = refl
mark_fit false = refl

no_child : (b : Bool) → leaf_inline (if b && false then Annotation else Whole AlienInline) ≡ true
no_child true = refl
no_child false = refl

pub content_inline : (name : List ℕ) (children : Parts) (kind : Option Kind) → fit_inline (fit_in_content name children kind) ≡ true
content_inline name children None = mark_fit (is_annotation_tag name && has_child children)
content_inline name children (Some Root) = mark_fit (is_annotation_tag name && has_child children)
content_inline name children (Some P) = mark_fit (is_annotation_tag name && has_child children)
content_inline name children (Some H1) = mark_fit (is_annotation_tag name && has_child children)
content_inline name children (Some H2) = mark_fit (is_annotation_tag name && has_child children)
content_inline name children (Some H3) = mark_fit (is_annotation_tag name && has_child children)
content_inline name children (Some H4) = mark_fit (is_annotation_tag name && has_child children)
content_inline name children (Some H5) = mark_fit (is_annotation_tag name && has_child children)
content_inline name children (Some H6) = mark_fit (is_annotation_tag name && has_child children)
content_inline name children (Some Pre) = mark_fit (is_annotation_tag name && has_child children)
content_inline name children (Some Section) = mark_fit (is_annotation_tag name && has_child children)
content_inline name children (Some Li) = mark_fit (is_annotation_tag name && has_child children)
content_inline name children (Some Dt) = mark_fit (is_annotation_tag name && has_child children)
content_inline name children (Some Dd) = mark_fit (is_annotation_tag name && has_child children)
content_inline name children (Some Blockquote) = mark_fit (is_annotation_tag name && has_child children)
content_inline name children (Some Div) = mark_fit (is_annotation_tag name && has_child children)
content_inline name children (Some Td) = mark_fit (is_annotation_tag name && has_child children)
content_inline name children (Some Th) = mark_fit (is_annotation_tag name && has_child children)
content_inline name children (Some Caption) = mark_fit (is_annotation_tag name && has_child children)
content_inline name children (Some InternalItem) = mark_fit (is_annotation_tag name && has_child children)
content_inline name children (Some Ul) = mark_fit (is_annotation_tag name && has_child children)
content_inline name children (Some Ol) = mark_fit (is_annotation_tag name && has_child children)
content_inline name children (Some Dl) = mark_fit (is_annotation_tag name && has_child children)
content_inline name children (Some Table) = mark_fit (is_annotation_tag name && has_child children)
content_inline name children (Some Thead) = mark_fit (is_annotation_tag name && has_child children)
content_inline name children (Some Tbody) = mark_fit (is_annotation_tag name && has_child children)
content_inline name children (Some Tfoot) = mark_fit (is_annotation_tag name && has_child children)
content_inline name children (Some Tr) = mark_fit (is_annotation_tag name && has_child children)
content_inline name children (Some InternalList) = mark_fit (is_annotation_tag name && has_child children)
content_inline name children (Some TransBlock) = mark_fit (is_annotation_tag name && has_child children)
content_inline name children (Some AlienBlock) = mark_fit (is_annotation_tag name && has_child children)
content_inline name children (Some Br) = refl
content_inline name children (Some Img) = refl
content_inline name children (Some Ref) = mark_fit (is_annotation_tag name && has_child children)
content_inline name children (Some TransInline) = mark_fit (is_annotation_tag name && has_child children)
content_inline name children (Some AlienInline) = mark_fit (is_annotation_tag name && has_child children)

pub single_inline : (name : List ℕ) (kind : Option Kind) → leaf_inline (fit_in_content name Ended kind) ≡ true
single_inline name None = no_child (is_annotation_tag name)
single_inline name (Some Root) = no_child (is_annotation_tag name)
single_inline name (Some P) = no_child (is_annotation_tag name)
single_inline name (Some H1) = no_child (is_annotation_tag name)
single_inline name (Some H2) = no_child (is_annotation_tag name)
single_inline name (Some H3) = no_child (is_annotation_tag name)
single_inline name (Some H4) = no_child (is_annotation_tag name)
single_inline name (Some H5) = no_child (is_annotation_tag name)
single_inline name (Some H6) = no_child (is_annotation_tag name)
single_inline name (Some Pre) = no_child (is_annotation_tag name)
single_inline name (Some Section) = no_child (is_annotation_tag name)
single_inline name (Some Li) = no_child (is_annotation_tag name)
single_inline name (Some Dt) = no_child (is_annotation_tag name)
single_inline name (Some Dd) = no_child (is_annotation_tag name)
single_inline name (Some Blockquote) = no_child (is_annotation_tag name)
single_inline name (Some Div) = no_child (is_annotation_tag name)
single_inline name (Some Td) = no_child (is_annotation_tag name)
single_inline name (Some Th) = no_child (is_annotation_tag name)
single_inline name (Some Caption) = no_child (is_annotation_tag name)
single_inline name (Some InternalItem) = no_child (is_annotation_tag name)
single_inline name (Some Ul) = no_child (is_annotation_tag name)
single_inline name (Some Ol) = no_child (is_annotation_tag name)
single_inline name (Some Dl) = no_child (is_annotation_tag name)
single_inline name (Some Table) = no_child (is_annotation_tag name)
single_inline name (Some Thead) = no_child (is_annotation_tag name)
single_inline name (Some Tbody) = no_child (is_annotation_tag name)
single_inline name (Some Tfoot) = no_child (is_annotation_tag name)
single_inline name (Some Tr) = no_child (is_annotation_tag name)
single_inline name (Some InternalList) = no_child (is_annotation_tag name)
single_inline name (Some TransBlock) = no_child (is_annotation_tag name)
single_inline name (Some AlienBlock) = no_child (is_annotation_tag name)
single_inline name (Some Br) = refl
single_inline name (Some Img) = refl
single_inline name (Some Ref) = no_child (is_annotation_tag name)
single_inline name (Some TransInline) = no_child (is_annotation_tag name)
single_inline name (Some AlienInline) = no_child (is_annotation_tag name)

flow_fit : (kind : Kind) (name : List ℕ) (children : Parts) → is_inline_tag name ≡ true → fit_of (Flow kind) name children ≡ fit_in_content name children (kind_of_tag name)
flow_fit kind name children e = rw e refl

-- ---- runs

-- one part before, by what it is in a run
in_front : (kind : Kind) (source : List ℕ) (w : Progress) (flow content : (Progress → Made) → Made) → InRun source w flow content → (later rest : Parts) →
    ((v : Progress) → made_of (Flow kind) (then_parts later rest) v ≡ run_before (made_of (Content []) later v) (made_of (Flow kind) rest (past v (source_of later) (made_of (Content []) later v).owners))) →
    flow (made_of (Flow kind) (then_parts later rest)) ≡ run_before (content (made_of (Content []) later)) (made_of (Flow kind) rest (past w (source ++ source_of later) (content (made_of (Content []) later)).owners))
in_front kind source w flow content p later rest h =
    let v : Progress = past w source p.owners in
    let c : Made = made_of (Content []) later v in
    let e = p.in_content (made_of (Content []) later) in
    p.in_flow (made_of (Flow kind) (then_parts later rest))
    ∙ ap (in_run p.piece source p.owners) (h v)
    ∙ step p.piece source (source_of later) p.owners c (made_of (Flow kind) rest) w
    ∙ ap (λ (x : Made). run_before x (made_of (Flow kind) rest (past w (source ++ source_of later) x.owners))) (sym e)

words_in : (kind : Kind) (text : List ℕ) (w : Progress) →
    InRun text w (λ later. in_run (chars_piece [] (characters text)) text [] (later (past w text []))) (λ later. in_run (chars_piece [] (characters text)) text [] (later (past w text [])))
words_in kind text w = record { piece = chars_piece [] (characters text); owners = []; in_flow = λ later. refl; in_content = λ later. refl }

source_assoc : (name : List ℕ) (attrs : List Spelled) (children later : Parts) → element_source name attrs children ++ source_of later ≡ source_of (Parent name attrs children later)
source_assoc name attrs children later = refl

-- the source of a run in content
pub runs_source : (run : Parts) (w : Progress) → is_run run ≡ true → (made_of (Content []) run w).source ≡ source_of run
runs_source Ended w e = refl
runs_source (Note text later) w e = absurd cc
runs_source (Words text later) w e = ap (λ s. text ++ s) (runs_source later (past w text []) e)
runs_source (Group nodes later) w e =
    let p = group_in P nodes w (ref_of w (Content []) nodes) (and_left (has_inline_tags nodes) (is_run later) e) in
    ap (λ (m : Made). m.source) (p.in_content (made_of (Content []) later)) ∙ ap (λ s. spelling nodes ++ s) (runs_source later (past w (spelling nodes) p.owners) (and_right (has_inline_tags nodes) (is_run later) e))
runs_source (Single name attrs source later) w e =
    let p = leaf_in P attrs source w (fit_in_content name Ended (kind_of_tag name)) (single_inline name (kind_of_tag name)) in
    ap (λ (m : Made). m.source) (p.in_content (made_of (Content []) later)) ∙ ap (λ s. source ++ s) (runs_source later (past w source p.owners) (and_right (is_inline_tag name) (is_run later) e))
runs_source (Parent name attrs children later) w e =
    let p = element_in P name attrs (element_source name attrs children) (λ a. made_of a children) w (fit_in_content name children (kind_of_tag name)) (content_inline name children (kind_of_tag name)) in
    ap (λ (m : Made). m.source) (p.in_content (made_of (Content []) later)) ∙ ap (λ s. element_source name attrs children ++ s) (runs_source later (past w (element_source name attrs children) p.owners) (and_right (is_inline_tag name) (is_run later) e))

pub runs_split : (kind : Kind) (run rest : Parts) (w : Progress) → is_run run ≡ true →
    made_of (Flow kind) (then_parts run rest) w ≡ run_before (made_of (Content []) run w) (made_of (Flow kind) rest (past w (source_of run) (made_of (Content []) run w).owners))
runs_split kind Ended rest w e = ap (made_of (Flow kind) rest) (sym (past_none w))
runs_split kind (Note text later) rest w e = absurd cc
runs_split kind (Words text later) rest w e = in_front kind text w _ _ (words_in kind text w) later rest (λ v. runs_split kind later rest v e)
runs_split kind (Group nodes later) rest w e =
    let here = and_left (has_inline_tags nodes) (is_run later) e in
    let after = and_right (has_inline_tags nodes) (is_run later) e in
    ap (group_made (Flow kind) nodes (made_of (Flow kind) (then_parts later rest)) w) (ref_same w kind nodes)
    ∙ in_front kind (spelling nodes) w _ _ (group_in kind nodes w (ref_of w (Content []) nodes) here) later rest (λ v. runs_split kind later rest v after)
runs_split kind (Single name attrs source later) rest w e =
    let here = and_left (is_inline_tag name) (is_run later) e in
    let after = and_right (is_inline_tag name) (is_run later) e in
    ap (leaf_made (Flow kind) attrs source (made_of (Flow kind) (then_parts later rest)) w) (flow_fit kind name Ended here)
    ∙ in_front kind source w _ _ (leaf_in kind attrs source w (fit_in_content name Ended (kind_of_tag name)) (single_inline name (kind_of_tag name))) later rest (λ v. runs_split kind later rest v after)
runs_split kind (Parent name attrs children later) rest w e =
    let here = and_left (is_inline_tag name) (is_run later) e in
    let after = and_right (is_inline_tag name) (is_run later) e in
    ap (element_made (Flow kind) name attrs (element_source name attrs children) (λ a. made_of a children) (made_of (Flow kind) (then_parts later rest)) w) (flow_fit kind name children here)
    ∙ in_front kind (element_source name attrs children) w _ _ (element_in kind name attrs (element_source name attrs children) (λ a. made_of a children) w (fit_in_content name children (kind_of_tag name)) (content_inline name children (kind_of_tag name))) later rest (λ v. runs_split kind later rest v after)
    ∙ ap (λ (s : List ℕ). run_before (element_made (Content []) name attrs (element_source name attrs children) (λ a. made_of a children) (made_of (Content []) later) w (fit_in_content name children (kind_of_tag name))) (made_of (Flow kind) rest (past w s (element_made (Content []) name attrs (element_source name attrs children) (λ a. made_of a children) (made_of (Content []) later) w (fit_in_content name children (kind_of_tag name))).owners))) (source_assoc name attrs children later)
