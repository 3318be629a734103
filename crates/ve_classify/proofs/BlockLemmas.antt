-- Blocks of a flow or structural parent, and runs between them.
use Rattle.std.proofs.Common.{◌≡◌, ℕ, Bool, true, false, not, ◌&&◌, ◌||◌, List, [], ◌∷◌, ◌++◌, Option, Some, None, refl, sym, ap, ◌∙◌, subst, append-nil, if◌then◌else◌}
use Rattle.std.specs.Prelude.{chars, codes, bytes_eq}
use Rattle.std.proofs.lemmas.Slice.Eq.{bytes_eq-Decides}
use Rattle.model_spelling.specs.Grammar.{Attr as Spelled, Comment, token_text}
use Rattle.model_spelling.specs.Forest.{Forest, Nothing, Text, Remark, Void, RawElement, Element, spelling}
use Rattle.model_spelling.proofs.AttrReading.{and_left, and_right}
use Rattle.ve_kinds.specs.declared.kind.Kind.{Kind}
use Rattle.ve_kinds.specs.declared.kind.Kind.TheVariants.{P, AlienBlock}
use Rattle.ve_kinds.specs.Table.{is_inline_leaf, may_hold}
use Rattle.ve_kinds.specs.Tags.{kind_of_tag, is_one_of}
use Rattle.ve_base.specs.Empty.{empty_head}
use Rattle.model_page.specs.Tags.{is_inline_tag}
use Rattle.model_page.specs.Elements.{is_white, has_type, is_reference_type}
use Rattle.model_page.specs.Parts.{Parts, Ended, Words, Note, Group, Single, Parent, source_of}
use Rattle.model_page.specs.Fit.{Around, Flow, Structural, Content, Fit, Annotation, Leaf, Branch, Whole, around_in, fit_of, fit_in_block, is_convertible, whole_kind, is_generated, has_inline_tags, note_kind}
use Rattle.model_page.specs.Heads.{head_with, whole_head}
use Rattle.model_page.specs.Pieces.{Piece, Owner, Made, Progress, past, source_span, no_piece, joined_pieces, node, leaf, with_white, run_dropped, run_ended, run_closed, before_run, paragraph_before}
use Rattle.model_page.specs.ReferenceNodes.{may_be_reference, ref_of}
use Rattle.model_page.specs.Convert.{element_source, inside_of, inside_piece, leaf_made, group_made, element_made, made_of}
use Rattle.ve_classify.specs.Runs.{then_parts, is_run, starts_block, run_before}
use Rattle.ve_classify.specs.FirstPart.{later_of, first_source}
use Rattle.ve_classify.specs.Siblings.{siblings, front, first_made, first_block, IsBlock, paragraph}
use Rattle.ve_classify.proofs.RunLemmas.{runs_split, runs_source}

-- ---- a run that is over

-- nothing is left of a run
record Over (m : Made) : Type 0 where
  run : m.run ≡ no_piece
  source : m.source ≡ []

over_by : (w : Bool) (white text : List ℕ) (v : Progress) (m : Made) → Over (if w then with_white white (run_dropped m) else paragraph_before (source_span v text) m)
over_by true white text v m = record { run = refl; source = refl }
over_by false white text v m = record { run = refl; source = refl }

ended_over : (s : List ℕ) (v : Progress) (m : Made) → Over (run_ended s v m)
ended_over [] v m = record { run = refl; source = refl }
ended_over (b ∷ bs) v m = over_by (is_white (b ∷ bs)) (chars (b ∷ bs)) (b ∷ bs) v m

before_over : (after : Progress) (piece : Piece) (owners : List Owner) (m : Made) → Over (before_run after piece owners m)
before_over after piece owners m = let o = ended_over m.source after m in record { run = o.run; source = o.source }

closes_same : (v : Progress) (m : Made) → Over m → run_closed v m ≡ m
closes_same v m o = ap (λ s. run_ended s v m) o.source ∙ (λ i. record m { run = sym o.run i; source = sym o.source i })

-- ---- the first part as a block

-- the fit of a block
abbrev block_like : Fit → Bool
block_like Annotation = false
block_like (Leaf k) = false
block_like (Branch k) = true
block_like (Whole k) = not (is_inline_leaf k)

convertible_by : (b : Bool) (k : Kind) → block_like (if b then Branch k else Whole AlienBlock) ≡ true
convertible_by true k = refl
convertible_by false k = refl

in_block : (parent : Kind) (children : Parts) (kind : Option Kind) → block_like (fit_in_block parent children kind) ≡ true
in_block parent children None = refl
in_block parent children (Some k) = convertible_by (may_hold parent k && is_convertible k children) k

-- a parent of blocks
abbrev holds_blocks : Around → Bool
holds_blocks (Flow k) = true
holds_blocks (Structural k) = true
holds_blocks (Content marks) = false

not_note : (around : Around) → holds_blocks around ≡ true → is_inline_leaf (note_kind around) ≡ false
not_note (Flow k) e = refl
not_note (Structural k) e = refl
not_note (Content marks) e = absurd cc

not_true_false : (b : Bool) → not b ≡ true → b ≡ false
not_true_false true e = absurd cc
not_true_false false e = refl

-- The part of this source as a block, whatever follows it.
record InBlock (source : List ℕ) (w : Progress) (made : (Progress → Made) → Made) : Type 0 where
  piece : Piece
  owners : List Owner
  is : (later : Progress → Made) → made later ≡ before_run (past w source owners) piece owners (later (past w source owners))

leaf_block : (around : Around) (attrs : List Spelled) (source : List ℕ) (w : Progress) (f : Fit) → holds_blocks around ≡ true → block_like f ≡ true → InBlock source w (λ later. leaf_made around attrs source later w f)
leaf_block around attrs source w Annotation h e = absurd cc
leaf_block around attrs source w (Leaf k) h e = absurd cc
leaf_block (Content marks) attrs source w (Branch k) h e = absurd cc
leaf_block (Content marks) attrs source w (Whole k) h e = absurd cc
leaf_block (Flow parent) attrs source w (Branch k) h e = record { piece = leaf AlienBlock (whole_head source) [] (source_span w source); owners = []; is = λ later. refl }
leaf_block (Structural parent) attrs source w (Branch k) h e = record { piece = leaf AlienBlock (whole_head source) [] (source_span w source); owners = []; is = λ later. refl }
leaf_block (Flow parent) attrs source w (Whole k) h e = record { piece = leaf k (whole_head source) [] (source_span w source); owners = []; is = λ later. rw (not_true_false (is_inline_leaf k) e) refl }
leaf_block (Structural parent) attrs source w (Whole k) h e = record { piece = leaf k (whole_head source) [] (source_span w source); owners = []; is = λ later. rw (not_true_false (is_inline_leaf k) e) refl }

element_block : (around : Around) (name : List ℕ) (attrs : List Spelled) (source : List ℕ) (children : Around → Progress → Made) (w : Progress) (f : Fit) → holds_blocks around ≡ true → block_like f ≡ true →
    InBlock source w (λ later. element_made around name attrs source children later w f)
element_block around name attrs source children w Annotation h e = absurd cc
element_block around name attrs source children w (Leaf k) h e = absurd cc
element_block around name attrs source children w (Whole k) h e = leaf_block around attrs source w (Whole k) h e
element_block around name attrs source children w (Branch k) h e =
    let at = inside_of w name attrs in
    let inside = inside_piece (around_in k) at (children (around_in k) at) in
    record { piece = node k (head_with attrs) [] false (source_span w source) inside.later inside.pre; owners = inside.owners; is = λ later. refl }

whole_block : (generated : Bool) → is_inline_leaf (whole_kind generated false) ≡ false
whole_block true = refl
whole_block false = refl

-- ---- a group that is a block is no reference

ref_by : (name : List ℕ) (a b : Bool) → bytes_eq (codes "sup") name ≡ a → bytes_eq (codes "span") name ≡ b → (a || (b || false)) ≡ true → is_inline_tag name ≡ true
ref_by name true b ea eb e = subst (λ n. is_inline_tag n ≡ true) ((bytes_eq-Decides (codes "sup") name).0 ea) refl
ref_by name false true ea eb e = subst (λ n. is_inline_tag n ≡ true) ((bytes_eq-Decides (codes "span") name).0 eb) refl
ref_by name false false ea eb e = absurd cc

ref_tag : (name : List ℕ) → is_one_of (codes "sup" ∷ codes "span" ∷ []) name ≡ true → is_inline_tag name ≡ true
ref_tag name e = ref_by name (bytes_eq (codes "sup") name) (bytes_eq (codes "span") name) refl refl e

may_be_inline : (w : Progress) (k : Kind) (name : List ℕ) (attrs : List Spelled) → may_be_reference w (Flow k) name attrs ≡ true → is_inline_tag name ≡ true
may_be_inline w k name attrs e =
    let one = is_one_of (codes "sup" ∷ codes "span" ∷ []) name in
    let typed = has_type is_reference_type attrs in
    ref_tag name (and_right w.editable one (and_left (w.editable && one) typed (and_left (w.editable && one && typed) _ e)))

no_may_be : (w : Progress) (k : Kind) (name : List ℕ) (attrs : List Spelled) (b : Bool) → may_be_reference w (Flow k) name attrs ≡ b → is_inline_tag name ≡ false → b ≡ false
no_may_be w k name attrs false e t = refl
no_may_be w k name attrs true e t = let i = may_be_inline w k name attrs e in absurd cc

one_inline : (b : Bool) → not (not b || false) ≡ false → b ≡ false
one_inline true e = absurd cc
one_inline false e = refl

flow_no_ref : (w : Progress) (k : Kind) (nodes : Forest) → has_inline_tags nodes ≡ false → ref_of w (Flow k) nodes ≡ None
flow_no_ref w k Nothing e = refl
flow_no_ref w k (Text text rest) e = refl
flow_no_ref w k (Remark text rest) e = refl
flow_no_ref w k (Void name attrs slash rest) e = refl
flow_no_ref w k (RawElement name attrs text rest) e = refl
flow_no_ref w k (Element name attrs children Nothing) e = rw (no_may_be w k name attrs (may_be_reference w (Flow k) name attrs) refl (one_inline (is_inline_tag name) e)) refl
flow_no_ref w k (Element name attrs children (Text t rest)) e = refl
flow_no_ref w k (Element name attrs children (Remark t rest)) e = refl
flow_no_ref w k (Element name attrs children (Void n a s rest)) e = refl
flow_no_ref w k (Element name attrs children (RawElement n a t rest)) e = refl
flow_no_ref w k (Element name attrs children (Element n a c rest)) e = refl

structural_no_ref : (w : Progress) (k : Kind) (nodes : Forest) → ref_of w (Structural k) nodes ≡ None
structural_no_ref w k Nothing = refl
structural_no_ref w k (Text text rest) = refl
structural_no_ref w k (Remark text rest) = refl
structural_no_ref w k (Void name attrs slash rest) = refl
structural_no_ref w k (RawElement name attrs text rest) = refl
structural_no_ref w k (Element name attrs children Nothing) = refl
structural_no_ref w k (Element name attrs children (Text t rest)) = refl
structural_no_ref w k (Element name attrs children (Remark t rest)) = refl
structural_no_ref w k (Element name attrs children (Void n a s rest)) = refl
structural_no_ref w k (Element name attrs children (RawElement n a t rest)) = refl
structural_no_ref w k (Element name attrs children (Element n a c rest)) = refl

abbrev group_piece : Forest → Progress → Piece
group_piece nodes w = leaf (whole_kind (is_generated nodes) false) (whole_head (spelling nodes)) [] (source_span w (spelling nodes))

flow_fit : (k : Kind) (name : List ℕ) (children : Parts) → is_inline_tag name ≡ false → fit_of (Flow k) name children ≡ fit_in_block k children (kind_of_tag name)
flow_fit k name children e = rw e refl

block_in : (around : Around) (parts : Parts) (w : Progress) → first_block around parts ≡ true → InBlock (first_source parts) w (λ later. first_made around parts later w)
block_in around Ended w e = absurd cc
block_in around (Words text rest) w e = absurd cc
block_in (Content marks) (Note text rest) w e = absurd cc
block_in (Content marks) (Group nodes rest) w e = absurd cc
block_in (Content marks) (Single name attrs source rest) w e = absurd cc
block_in (Content marks) (Parent name attrs children rest) w e = absurd cc
block_in (Flow k) (Note text rest) w e = leaf_block (Flow k) [] (token_text (Comment text)) w (Whole (note_kind (Flow k))) refl refl
block_in (Structural k) (Note text rest) w e = leaf_block (Structural k) [] (token_text (Comment text)) w (Whole (note_kind (Structural k))) refl refl
block_in (Flow k) (Group nodes rest) w e =
    let none = flow_no_ref w k nodes (not_true_false (has_inline_tags nodes) e) in
    record { piece = group_piece nodes w; owners = []; is = λ later. ap (group_made (Flow k) nodes later w) none ∙ rw (not_true_false (has_inline_tags nodes) e, whole_block (is_generated nodes)) refl }
block_in (Structural k) (Group nodes rest) w e =
    record { piece = group_piece nodes w; owners = []; is = λ later. ap (group_made (Structural k) nodes later w) (structural_no_ref w k nodes) ∙ rw (whole_block (is_generated nodes)) refl }
block_in (Flow k) (Single name attrs source rest) w e =
    subst (λ f. InBlock source w (λ later. leaf_made (Flow k) attrs source later w f)) (sym (flow_fit k name Ended (not_true_false (is_inline_tag name) e)))
    (leaf_block (Flow k) attrs source w (fit_in_block k Ended (kind_of_tag name)) refl (in_block k Ended (kind_of_tag name)))
block_in (Structural k) (Single name attrs source rest) w e = leaf_block (Structural k) attrs source w (fit_in_block k Ended (kind_of_tag name)) refl (in_block k Ended (kind_of_tag name))
block_in (Flow k) (Parent name attrs children rest) w e =
    let source : List ℕ = element_source name attrs children in
    subst (λ f. InBlock source w (λ later. element_made (Flow k) name attrs source (λ a. made_of a children) later w f)) (sym (flow_fit k name children (not_true_false (is_inline_tag name) e)))
    (element_block (Flow k) name attrs source (λ a. made_of a children) w (fit_in_block k children (kind_of_tag name)) refl (in_block k children (kind_of_tag name)))
block_in (Structural k) (Parent name attrs children rest) w e =
    element_block (Structural k) name attrs (element_source name attrs children) (λ a. made_of a children) w (fit_in_block k children (kind_of_tag name)) refl (in_block k children (kind_of_tag name))

first_is : (around : Around) (parts : Parts) (w : Progress) → first_block around parts ≡ true → made_of around parts w ≡ first_made around parts (made_of around (later_of parts)) w
first_is around Ended w e = absurd cc
first_is around (Words text rest) w e = absurd cc
first_is around (Note text rest) w e = refl
first_is around (Group nodes rest) w e = refl
first_is around (Single name attrs source rest) w e = refl
first_is around (Parent name attrs children rest) w e = refl

-- ---- where nothing is left of a run

block_over : (around : Around) (parts : Parts) (w : Progress) → first_block around parts ≡ true → Over (made_of around parts w)
block_over around parts w e =
    let b = block_in around parts w e in
    subst Over (sym (first_is around parts w e ∙ b.is (made_of around (later_of parts)))) (before_over (past w (first_source parts) b.owners) b.piece b.owners (made_of around (later_of parts) (past w (first_source parts) b.owners)))

flow_over : (k : Kind) (rest : Parts) (w : Progress) → starts_block rest ≡ true → Over (made_of (Flow k) rest w)
flow_over k Ended w e = record { run = refl; source = refl }
flow_over k (Words text rest) w e = absurd cc
flow_over k (Note text rest) w e = block_over (Flow k) (Note text rest) w e
flow_over k (Group nodes rest) w e = block_over (Flow k) (Group nodes rest) w e
flow_over k (Single name attrs source rest) w e = block_over (Flow k) (Single name attrs source rest) w e
flow_over k (Parent name attrs children rest) w e = block_over (Flow k) (Parent name attrs children rest) w e

structural_over : (k : Kind) (rest : Parts) (w : Progress) → Over (made_of (Structural k) rest w)
structural_over k Ended w = record { run = refl; source = refl }
structural_over k (Words text rest) w = let o = structural_over k rest (past w text []) in record { run = o.run; source = o.source }
structural_over k (Note text rest) w = block_over (Structural k) (Note text rest) w refl
structural_over k (Group nodes rest) w = block_over (Structural k) (Group nodes rest) w refl
structural_over k (Single name attrs source rest) w = block_over (Structural k) (Single name attrs source rest) w refl
structural_over k (Parent name attrs children rest) w = block_over (Structural k) (Parent name attrs children rest) w refl

-- ---- the clauses

split_at : (around : Around) (parts : Parts) (w : Progress) → first_block around parts ≡ true → (b : InBlock (first_source parts) w (λ later. first_made around parts later w)) →
    siblings around parts w ≡ front b.piece b.owners (siblings around (later_of parts) (past w (first_source parts) b.owners))
split_at (Content marks) Ended w e b = absurd cc
split_at (Content marks) (Words text rest) w e b = absurd cc
split_at (Content marks) (Note text rest) w e b = absurd cc
split_at (Content marks) (Group nodes rest) w e b = absurd cc
split_at (Content marks) (Single name attrs source rest) w e b = absurd cc
split_at (Content marks) (Parent name attrs children rest) w e b = absurd cc
split_at (Flow k) parts w e b =
    let after : Progress = past w (first_source parts) b.owners in
    let m : Made = made_of (Flow k) (later_of parts) after in
    ap (run_closed w) (first_is (Flow k) parts w e ∙ b.is (made_of (Flow k) (later_of parts)))
    ∙ closes_same w (before_run after b.piece b.owners m) (before_over after b.piece b.owners m)
split_at (Structural k) parts w e b =
    let after : Progress = past w (first_source parts) b.owners in
    let m : Made = made_of (Structural k) (later_of parts) after in
    first_is (Structural k) parts w e ∙ b.is (made_of (Structural k) (later_of parts))
    ∙ ap (front b.piece b.owners) (closes_same after m (structural_over k (later_of parts) after))

pub blocks_split : (around : Around) (parts : Parts) (w : Progress) → first_block around parts ≡ true →
    (b : IsBlock around parts w) × (siblings around parts w ≡ front b.piece b.owners (siblings around (later_of parts) (past w (first_source parts) b.owners)))
blocks_split around parts w e =
    let b = block_in around parts w e in (record { piece = b.piece; owners = b.owners; is = b.is }, split_at around parts w e b)

pub white_splits : (kind : Kind) (text : List ℕ) (rest : Parts) (w : Progress) → siblings (Structural kind) (Words text rest) w ≡ with_white (chars text) (siblings (Structural kind) rest (past w text []))
white_splits kind text rest w = refl

-- a run that ends before nothing of a run
run_read : (w : Progress) (b : ℕ) (bs : List ℕ) (c m : Made) (white : Bool) → is_white (b ∷ bs) ≡ white → c.source ≡ b ∷ bs → Over m →
    run_closed w (run_before c m) ≡ (if white then with_white (chars (b ∷ bs)) (front no_piece c.owners m) else front (node P empty_head [] true (source_span w (b ∷ bs)) c.run []) c.owners m)
run_read w b bs c m true e source o =
    let whole : c.source ++ m.source ≡ b ∷ bs = ap (λ s. s ++ m.source) source ∙ ap (λ s. (b ∷ bs) ++ s) o.source ∙ append-nil (b ∷ bs) in
    ap (λ s. run_ended s w (run_before c m)) whole ∙ rw e refl
    ∙ (λ i. with_white (chars (b ∷ bs)) (record { run = sym o.run i; source = sym o.source i; later = m.later; pre = m.pre; owners = c.owners ++ m.owners }))
run_read w b bs c m false e source o =
    let whole : c.source ++ m.source ≡ b ∷ bs = ap (λ s. s ++ m.source) source ∙ ap (λ s. (b ∷ bs) ++ s) o.source ∙ append-nil (b ∷ bs) in
    let run : joined_pieces c.run m.run ≡ c.run = ap (joined_pieces c.run) o.run ∙ (λ i. record { items = append-nil c.run.items i; spans = append-nil c.run.spans i }) in
    ap (λ s. run_ended s w (run_before c m)) whole ∙ rw e refl
    ∙ (λ i. record { run = sym o.run i; source = sym o.source i; later = joined_pieces (node P empty_head [] true (source_span w (b ∷ bs)) (run i) []) m.later; pre = m.pre; owners = c.owners ++ m.owners })

pub runs_read : (kind : Kind) (run rest : Parts) (w : Progress) (b : ℕ) (bs : List ℕ) → is_run run ≡ true → starts_block rest ≡ true → source_of run ≡ b ∷ bs →
    let c = made_of (Content []) run w in
    let after = siblings (Flow kind) rest (past w (source_of run) c.owners) in
    siblings (Flow kind) (then_parts run rest) w ≡ (if is_white (source_of run) then with_white (chars (source_of run)) (front no_piece c.owners after) else front (paragraph run w) c.owners after)
runs_read kind run rest w b bs r s e =
    let c : Made = made_of (Content []) run w in
    let v : Progress = past w (source_of run) c.owners in
    let m : Made = made_of (Flow kind) rest v in
    let o = flow_over kind rest v s in
    ap (run_closed w) (runs_split kind run rest w r)
    ∙ run_read w b bs c m (is_white (b ∷ bs)) refl (runs_source run w r ∙ e) o
    ∙ ap (λ (x : Made). if is_white (b ∷ bs) then with_white (chars (b ∷ bs)) (front no_piece c.owners x) else front (node P empty_head [] true (source_span w (b ∷ bs)) c.run []) c.owners x) (sym (closes_same v m o))
    ∙ ap (λ (t : List ℕ). if is_white t then with_white (chars t) (front no_piece c.owners (siblings (Flow kind) rest v)) else front (node P empty_head [] true (source_span w t) c.run []) c.owners (siblings (Flow kind) rest v)) (sym e)
