-- One part that by itself reads as a leaf reads so before others.
use Rattle.std.proofs.Common.{◌≡◌, ℕ, Bool, true, false, not, ◌&&◌, ◌||◌, if◌then◌else◌, List, [], ◌∷◌, ◌++◌, map, Some, None, refl, sym, ap, ◌∙◌, subst, inl, inr}
use Rattle.std.proofs.lemmas.Bool.{cases_Bool}
use Rattle.std.specs.Prelude.{chars}
use Rattle.model_spelling.specs.Grammar.{Attr as Spelled, Comment, token_text}
use Rattle.model_spelling.specs.Forest.{Forest, spelling}
use denote.Enum.Bare.{same_true}
use Rattle.ve_kinds.specs.contracts.kind.Kind.{the_type}
use Rattle.ve_kinds.specs.declared.kind.Kind.{Kind}
use Rattle.ve_kinds.specs.declared.kind.Kind.TheVariants.{P, TransBlock, AlienBlock, AlienInline}
use Rattle.ve_kinds.specs.Tags.{kind_of_tag}
use Rattle.ve_kinds.specs.Table.{kind_same, is_element, is_block_leaf, is_inline_leaf}
use Rattle.ve_base.specs.declared.marks.Mark.{Mark}
use Rattle.ve_base.specs.declared.head.Head.{Head}
use Rattle.model_items.specs.declared.plain_item.PlainItem.{PlainItem}
use Rattle.model_items.specs.declared.plain_item.PlainItem.TheVariants.{Char, Opening, Closing}
use Rattle.model_page.specs.Elements.{is_white}
use Rattle.model_page.specs.Parts.{Parts, Ended, Words, Note, Group, Single, Parent, parts_of}
use Rattle.model_page.specs.Fit.{Around, Flow, Structural, Content, Fit, Annotation, Leaf, Branch, Whole, around_in, has_child, fit_of, group_kind, note_kind}
use Rattle.model_page.specs.Tags.{is_annotation_tag}
use Rattle.model_page.specs.Fragment.{item_unmade}
use Rattle.model_page.specs.Heads.{head_with, whole_head}
use Rattle.model_page.specs.Pieces.{Owner, Made, Piece, Progress, past, source_span, no_piece, leaf, node, with_white, run_dropped, paragraph_before, run_ended, run_closed, in_run, before_run, leaf_before}
use Rattle.model_page.specs.Convert.{marks_at, marked_around, element_source, inside_of, inside_piece, group_made, leaf_made, element_made, made_of}
use Rattle.model_page_law.proofs.BlockText.{followed_by}
use Rattle.model_page_law.proofs.BlockReads.{AtBlock, Closes}
use Rattle.model_page_law.proofs.TileLemmas.{run_ended-source}
use Rattle.model_kept_law.specs.Readable.{is_one_part}
use Rattle.model_kept_law.proofs.FitFacts.{HoldsBlocks, FitFacts, fit_facts, tag_element}
use Rattle.model_kept_law.proofs.ApartParts.{Apart}
use Rattle.model_kept_law.proofs.JoinedParts.{joined}

-- ---- kinds of leaves among blocks

pub block_leaf : (A : Kind → Type 0) (k : Kind) → is_block_leaf k ≡ true → A TransBlock → A AlienBlock → A k
block_leaf A k h t a = elim (cases_Bool (kind_same TransBlock k)) [
  | inl e ↦ subst A (same_true the_type tt TransBlock k e) t
  | inr e ↦ subst A (same_true the_type tt AlienBlock k (or_nothing (kind_same TransBlock k) (kind_same AlienBlock k) e h)) a
]
  where
    or_nothing : (x y : Bool) → x ≡ false → (x || (y || false)) ≡ true → y ≡ true
    or_nothing true y e h = cc
    or_nothing false true e h = refl
    or_nothing false false e h = cc

pub block_leaf_inline : (k : Kind) → is_block_leaf k ≡ true → is_inline_leaf k ≡ false
block_leaf_inline k h = block_leaf (λ j. is_inline_leaf j ≡ false) k h refl refl

block_leaf_element : (k : Kind) → is_block_leaf k ≡ true → is_element k ≡ false
block_leaf_element k h = block_leaf (λ j. is_element j ≡ false) k h refl refl

pub no_paragraph : (k : Kind) → is_block_leaf k ≡ true → P ≡ k → ⊥
no_paragraph k h e = let f : false ≡ true = ap is_block_leaf e ∙ h in cc

-- ---- what is read alone

abbrev leaf_items : Kind → Head → List PlainItem
leaf_items kind head = Opening kind head [] [] None false ∷ Closing kind [] ∷ []

abbrev kind_in : List PlainItem → Kind → Kind
kind_in (Opening kind head marks pre origin generated ∷ items) d = kind
kind_in [] d = d
kind_in (Char c marks ∷ items) d = d
kind_in (Closing kind pre ∷ items) d = d

abbrev head_in : List PlainItem → Head → Head
head_in (Opening kind head marks pre origin generated ∷ items) d = head
head_in [] d = d
head_in (Char c marks ∷ items) d = d
head_in (Closing kind pre ∷ items) d = d

abbrev nothing : Made
nothing = record { run = no_piece; source = []; later = no_piece; pre = []; owners = [] }

abbrev Alone : Around → Progress → Made → List PlainItem
Alone around w m = (inside_piece around w m).later.items

abbrev run_made : Piece → List ℕ → List Owner → Made
run_made piece part owners = in_run piece part owners nothing

run_chosen : (w : Progress) (piece : Piece) (part : List ℕ) (owners : List Owner) (kind : Kind) (head : Head) → is_block_leaf kind ≡ true → (bs : List ℕ) (c : Bool) →
    (if c then with_white (chars bs) (run_dropped (run_made piece part owners)) else paragraph_before (source_span w bs) (run_made piece part owners)).later.items ≡ leaf_items kind head → ⊥
run_chosen w piece part owners kind head k bs true e = cc
run_chosen w piece part owners kind head k bs false e = no_paragraph kind k (ap (λ xs. kind_in xs P) e)

run_by : (w : Progress) (piece : Piece) (part : List ℕ) (owners : List Owner) (kind : Kind) (head : Head) → is_block_leaf kind ≡ true → (bs : List ℕ) →
    (run_ended bs w (run_made piece part owners)).later.items ≡ leaf_items kind head → ⊥
run_by w piece part owners kind head k [] e = cc
run_by w piece part owners kind head k (c ∷ cs) e = run_chosen w piece part owners kind head k (c ∷ cs) (is_white (c ∷ cs)) e

-- a run by itself is no leaf among blocks
run_alone : (around : Around) → HoldsBlocks around → (w : Progress) (piece : Piece) (part : List ℕ) (owners : List Owner) (kind : Kind) (head : Head) → is_block_leaf kind ≡ true →
    Alone around w (in_run piece part owners nothing) ≡ leaf_items kind head → ⊥
run_alone (Content marks) b w piece part owners kind head k e = absurd b
run_alone (Structural parent) b w piece part owners kind head k e = cc
run_alone (Flow parent) b w piece part owners kind head k e = run_by w piece part owners kind head k (part ++ []) e

before_alone : (around : Around) → HoldsBlocks around → (w v : Progress) (piece : Piece) (owners : List Owner) (m : Made) → Alone around w (before_run v piece owners m) ≡ piece.items ++ (run_closed v m).later.items
before_alone (Content marks) b w v piece owners m = absurd b
before_alone (Flow parent) b w v piece owners m = ap (λ s. (run_ended s w (before_run v piece owners m)).later.items) (run_ended-source m.source v m)
before_alone (Structural parent) b w v piece owners m = refl

-- the kind and the head of a leaf that is read alone
record Leafed (k : Kind) (h : Head) (kind : Kind) (head : Head) : Type 0 where
  kind_is : k ≡ kind
  head_is : h ≡ head

leaf_alone : (around : Around) → HoldsBlocks around → (w : Progress) (k : Kind) (h : Head) (marks : List Mark) (part : List ℕ) (kind : Kind) (head : Head) → is_block_leaf kind ≡ true →
    Alone around w (leaf_before w k h marks part [] nothing) ≡ leaf_items kind head → Leafed k h kind head
leaf_alone around b w k h marks part kind head l e = by (is_inline_leaf k) e
  where
    by : (c : Bool) → Alone around w (if c then in_run (leaf k h marks (source_span w part)) part [] nothing else before_run (past w part []) (leaf k h marks (source_span w part)) [] nothing) ≡ leaf_items kind head → Leafed k h kind head
    by true e = absurd (run_alone around b w (leaf k h marks (source_span w part)) part [] kind head l e)
    by false e =
        let s = sym (before_alone around b w (past w part []) (leaf k h marks (source_span w part)) [] nothing) ∙ e in
        record { kind_is = ap (λ xs. kind_in xs k) s; head_is = ap (λ xs. head_in xs h) s }

-- ---- the part before others

pub record LeafPart (around : Around) (p : Parts) (kind : Kind) (head : Head) : Type 0 where
  pub source : List ℕ
  pub made : (q : Parts) (w : Progress) → made_of around (joined p q) w ≡ leaf_before w kind head (marks_at around) source [] (made_of around q (past w source []))

leaf_same : (around : Around) (p : Parts) (k kind : Kind) (h head : Head) → Leafed k h kind head → LeafPart around p k h → LeafPart around p kind head
leaf_same around p k kind h head s l = subst (λ x. LeafPart around p x head) s.kind_is (subst (LeafPart around p k) s.head_is l)

-- an element as a leaf
record Fitted (around : Around) (attrs : List Spelled) (source : List ℕ) (fit : Fit) : Type 0 where
  kind : Kind
  head : Head
  is : (later : Progress → Made) (w : Progress) → leaf_made around attrs source later w fit ≡ leaf_before w kind head (marks_at around) source [] (later (past w source []))

fitted : (around : Around) (attrs : List Spelled) (source : List ℕ) (fit : Fit) → Fitted around attrs source fit
fitted around attrs source (Leaf kind) = record { kind = kind; head = head_with attrs; is = λ later w. refl }
fitted around attrs source (Whole kind) = record { kind = kind; head = whole_head source; is = λ later w. refl }
fitted around attrs source Annotation = record { kind = note_kind around; head = whole_head source; is = λ later w. refl }
fitted around attrs source (Branch kind) = record { kind = note_kind around; head = whole_head source; is = λ later w. refl }

single_part : (around : Around) → HoldsBlocks around → (w : Progress) (name : List ℕ) (attrs : List Spelled) (source : List ℕ) (kind : Kind) (head : Head) → is_block_leaf kind ≡ true →
    Alone around w (made_of around (Single name attrs source Ended) w) ≡ leaf_items kind head → LeafPart around (Single name attrs source Ended) kind head
single_part around b w name attrs source kind head l e =
    let f = fitted around attrs source (fit_of around name Ended) in
    leaf_same around (Single name attrs source Ended) f.kind kind f.head head
    (leaf_alone around b w f.kind f.head (marks_at around) source kind head l (ap (Alone around w) (sym (f.is (made_of around Ended) w)) ∙ e))
    (record { source = source; made = λ q u. f.is (made_of around q) u })

-- an element with children that reads as a leaf
whole_part : (around : Around) → HoldsBlocks around → (w : Progress) (name : List ℕ) (attrs : List Spelled) (children : Parts) (kind : Kind) (head : Head) → is_block_leaf kind ≡ true →
    (fit : Fit) → fit_of around name children ≡ fit → FitFacts around name children fit →
    Alone around w (element_made around name attrs (element_source name attrs children) (λ a. made_of a children) (made_of around Ended) w fit) ≡ leaf_items kind head →
    LeafPart around (Parent name attrs children Ended) kind head
whole_part around b w name attrs children kind head l Annotation g t e =
    let inside = made_of (marked_around around name attrs) children (inside_of w name attrs) in
    absurd (run_alone around b w inside.run (element_source name attrs children) inside.owners kind head l e)
whole_part around b w name attrs children kind head l (Branch k) g t e =
    let part : List ℕ = element_source name attrs children in
    let at = inside_of w name attrs in
    let inside = inside_piece (around_in k) at (made_of (around_in k) children at) in
    let after = past w part inside.owners in
    let s = sym (before_alone around b w after (node k (head_with attrs) [] false (source_span w part) inside.later inside.pre) inside.owners nothing) ∙ e in
    absurd (no_branch k kind (t.branch k refl).0 l (first k kind _ (head_with attrs) head s))
  where
    first : (k kind : Kind) (xs : List PlainItem) (h head : Head) → Opening k h [] [] None false ∷ xs ≡ leaf_items kind head → k ≡ kind
    first k kind xs h head s = ap (λ ys. kind_in ys k) s

    no_branch : (k kind : Kind) → kind_of_tag name ≡ Some k → is_block_leaf kind ≡ true → k ≡ kind → ⊥
    no_branch k kind e l s = let f : true ≡ false = sym (tag_element name k e) ∙ ap is_element s ∙ block_leaf_element kind l in cc
whole_part around b w name attrs children kind head l (Leaf k) g t e =
    let part : List ℕ = element_source name attrs children in
    leaf_same around (Parent name attrs children Ended) k kind (head_with attrs) head (leaf_alone around b w k (head_with attrs) (marks_at around) part kind head l e) (record {
      source = part;
      made = λ q u. ap (element_made around name attrs part (λ a. made_of a children) (made_of around q) u) g;
    })
whole_part around b w name attrs children kind head l (Whole k) g t e =
    let part : List ℕ = element_source name attrs children in
    leaf_same around (Parent name attrs children Ended) k kind (whole_head part) head (leaf_alone around b w k (whole_head part) (marks_at around) part kind head l e) (record {
      source = part;
      made = λ q u. ap (element_made around name attrs part (λ a. made_of a children) (made_of around q) u) g;
    })

pub leaf_part : (around : Around) → HoldsBlocks around → (w : Progress) (p : Parts) (kind : Kind) (head : Head) → is_one_part p ≡ true → Apart p → is_block_leaf kind ≡ true →
    (inside_piece around w (made_of around p w)).later.items ≡ Opening kind head [] [] None false ∷ Closing kind [] ∷ [] → LeafPart around p kind head
leaf_part around b w (Note text Ended) kind head h a l e =
    let part : List ℕ = token_text (Comment text) in
    leaf_same around (Note text Ended) (note_kind around) kind (whole_head part) head (leaf_alone around b w (note_kind around) (whole_head part) (marks_at around) part kind head l e)
    (record { source = part; made = λ q u. refl })
leaf_part around b w (Group nodes Ended) kind head h a l e =
    let part : List ℕ = spelling nodes in
    let alone : Alone around w (group_made around nodes (made_of around Ended) w None) ≡ leaf_items kind head = ap (λ r. Alone around w (group_made around nodes (made_of around Ended) w r)) (sym (a.0 w around)) ∙ e in
    leaf_same around (Group nodes Ended) (group_kind around nodes) kind (whole_head part) head (leaf_alone around b w (group_kind around nodes) (whole_head part) (marks_at around) part kind head l alone)
    (record { source = part; made = λ q u. ap (group_made around nodes (made_of around q) u) (a.0 u around) })
leaf_part around b w (Single name attrs source Ended) kind head h a l e = single_part around b w name attrs source kind head l e
leaf_part around b w (Parent name attrs children Ended) kind head h a l e = whole_part around b w name attrs children kind head l (fit_of around name children) refl (fit_facts around name children) e
leaf_part around b w Ended kind head h a l e = cc
leaf_part around b w (Words text later) kind head h a l e = cc
leaf_part around b w (Note text (Words t later)) kind head h a l e = cc
leaf_part around b w (Note text (Note t later)) kind head h a l e = cc
leaf_part around b w (Note text (Group n later)) kind head h a l e = cc
leaf_part around b w (Note text (Single n al s later)) kind head h a l e = cc
leaf_part around b w (Note text (Parent n al c later)) kind head h a l e = cc
leaf_part around b w (Group nodes (Words t later)) kind head h a l e = cc
leaf_part around b w (Group nodes (Note t later)) kind head h a l e = cc
leaf_part around b w (Group nodes (Group n later)) kind head h a l e = cc
leaf_part around b w (Group nodes (Single n al s later)) kind head h a l e = cc
leaf_part around b w (Group nodes (Parent n al c later)) kind head h a l e = cc
leaf_part around b w (Single name attrs source (Words t later)) kind head h a l e = cc
leaf_part around b w (Single name attrs source (Note t later)) kind head h a l e = cc
leaf_part around b w (Single name attrs source (Group n later)) kind head h a l e = cc
leaf_part around b w (Single name attrs source (Single n al s later)) kind head h a l e = cc
leaf_part around b w (Single name attrs source (Parent n al c later)) kind head h a l e = cc
leaf_part around b w (Parent name attrs children (Words t later)) kind head h a l e = cc
leaf_part around b w (Parent name attrs children (Note t later)) kind head h a l e = cc
leaf_part around b w (Parent name attrs children (Group n later)) kind head h a l e = cc
leaf_part around b w (Parent name attrs children (Single n al s later)) kind head h a l e = cc
leaf_part around b w (Parent name attrs children (Parent n al c later)) kind head h a l e = cc

-- ---- a leaf before blocks

made_if_false : (c : Bool) (a b : Made) → c ≡ false → (if c then a else b) ≡ b
made_if_false true a b e = cc
made_if_false false a b e = refl

ended_run : (part : List ℕ) (w : Progress) (m : Made) → (run_ended part w m).run.items ≡ []
ended_run [] w m = refl
ended_run (b ∷ bs) w m = chosen (is_white (b ∷ bs)) (with_white (chars (b ∷ bs)) (run_dropped m)) (paragraph_before (source_span w (b ∷ bs)) m) refl refl
  where
    chosen : (c : Bool) (x y : Made) → x.run.items ≡ [] → y.run.items ≡ [] → (if c then x else y).run.items ≡ []
    chosen true x y f g = f
    chosen false x y f g = g

unmarked : (around : Around) → HoldsBlocks around → marks_at around ≡ []
unmarked (Content marks) b = absurd b
unmarked (Flow k) b = refl
unmarked (Structural k) b = refl

pub leaf_block : (around : Around) → HoldsBlocks around → (f rest : Forest) (kind : Kind) (head : Head) (ys : List PlainItem) (closing : List ℕ) → LeafPart around (parts_of f) kind head → is_block_leaf kind ≡ true →
    parts_of (followed_by f rest) ≡ joined (parts_of f) (parts_of rest) → Closes around rest ys closing → AtBlock around (followed_by f rest) (Opening kind head [] [] None false ∷ Closing kind [] ∷ ys) closing
leaf_block around b f rest kind head ys closing p l j c =
    record {
      source = λ w. ap (λ m. m.source) (is w) ∙ run_ended-source (later w).source (suffix w) (later w);
      run = λ w. ap (λ m. m.run.items) (is w) ∙ ended_run (later w).source (suffix w) (later w);
      later = λ w.
          ap (λ m. map item_unmade m.later.items) (is w)
          ∙ (λ i. Opening kind head (unmarked around b i) [] None false ∷ Closing kind [] ∷ c.later (suffix w) i);
      white = λ w. ap (λ m. m.pre) (is w) ∙ c.white (suffix w);
    }
  where
    suffix : Progress → Progress
    suffix w = past w p.source []

    later : Progress → Made
    later w = made_of around (parts_of rest) (suffix w)

    is : (w : Progress) → made_of around (parts_of (followed_by f rest)) w ≡ before_run (suffix w) (leaf kind head (marks_at around) (source_span w p.source)) [] (later w)
    is w =
        ap (λ x. made_of around x w) j
        ∙ p.made (parts_of rest) w
        ∙ made_if_false (is_inline_leaf kind) _ _ (block_leaf_inline kind l)

-- ---- a leaf in content

record Inlined (k : Kind) (h : Head) (kind : Kind) (head : Head) : Type 0 where
  same : Leafed k h kind head
  inline : is_inline_leaf k ≡ true

inline_alone : (w : Progress) (k : Kind) (h : Head) (part : List ℕ) (kind : Kind) (head : Head) → (leaf_before w k h [] part [] nothing).run.items ≡ leaf_items kind head → Inlined k h kind head
inline_alone w k h part kind head e = by (is_inline_leaf k) refl e
  where
    by : (c : Bool) → is_inline_leaf k ≡ c → (if c then in_run (leaf k h [] (source_span w part)) part [] nothing else before_run (past w part []) (leaf k h [] (source_span w part)) [] nothing).run.items ≡ leaf_items kind head → Inlined k h kind head
    by true i e = record { same = record { kind_is = ap (λ xs. kind_in xs k) e; head_is = ap (λ xs. head_in xs h) e }; inline = i }
    by false i e = cc

-- inside of any marks
pub record ContentPart (p : Parts) (kind : Kind) (head : Head) : Type 0 where
  pub part : (marks : List Mark) → LeafPart (Content marks) p kind head
  pub inline : is_inline_leaf kind ≡ true

content_same : (p : Parts) (k kind : Kind) (h head : Head) → Inlined k h kind head → ((marks : List Mark) → LeafPart (Content marks) p k h) → ContentPart p kind head
content_same p k kind h head i l = record { part = λ marks. leaf_same (Content marks) p k kind h head i.same (l marks); inline = ap is_inline_leaf (sym i.same.kind_is) ∙ i.inline }

record ContentFitted (attrs : List Spelled) (source : List ℕ) (fit : Fit) : Type 0 where
  kind : Kind
  head : Head
  is : (marks : List Mark) (later : Progress → Made) (w : Progress) → leaf_made (Content marks) attrs source later w fit ≡ leaf_before w kind head marks source [] (later (past w source []))

content_fitted : (attrs : List Spelled) (source : List ℕ) (fit : Fit) → ContentFitted attrs source fit
content_fitted attrs source (Leaf kind) = record { kind = kind; head = head_with attrs; is = λ marks later w. refl }
content_fitted attrs source (Whole kind) = record { kind = kind; head = whole_head source; is = λ marks later w. refl }
content_fitted attrs source Annotation = record { kind = AlienInline; head = whole_head source; is = λ marks later w. refl }
content_fitted attrs source (Branch kind) = record { kind = AlienInline; head = whole_head source; is = λ marks later w. refl }

fit_anywhere : (name : List ℕ) (children : Parts) (marks : List Mark) → fit_of (Content marks) name children ≡ fit_of (Content []) name children
fit_anywhere name children marks = refl

content_whole : (w : Progress) (name : List ℕ) (attrs : List Spelled) (children : Parts) (kind : Kind) (head : Head) → not (is_annotation_tag name && has_child children) ≡ true →
    (fit : Fit) → fit_of (Content []) name children ≡ fit → FitFacts (Content []) name children fit →
    (element_made (Content []) name attrs (element_source name attrs children) (λ a. made_of a children) (made_of (Content []) Ended) w fit).run.items ≡ leaf_items kind head →
    ContentPart (Parent name attrs children Ended) kind head
content_whole w name attrs children kind head n Annotation g t e = let m = t.marks refl in absurd (no_marks (is_annotation_tag name) (has_child children) m.0 m.1 n)
  where
    no_marks : (a b : Bool) → a ≡ true → b ≡ true → not (a && b) ≡ true → ⊥
    no_marks true true x y e = cc
    no_marks true false x y e = cc
    no_marks false b x y e = cc
content_whole w name attrs children kind head n (Branch k) g t e = absurd (t.branch k refl).2
content_whole w name attrs children kind head n (Leaf k) g t e =
    let part : List ℕ = element_source name attrs children in
    content_same (Parent name attrs children Ended) k kind (head_with attrs) head (inline_alone w k (head_with attrs) part kind head e) (λ marks. record {
      source = part;
      made = λ q u. ap (element_made (Content marks) name attrs part (λ a. made_of a children) (made_of (Content marks) q) u) (fit_anywhere name children marks ∙ g);
    })
content_whole w name attrs children kind head n (Whole k) g t e =
    let part : List ℕ = element_source name attrs children in
    content_same (Parent name attrs children Ended) k kind (whole_head part) head (inline_alone w k (whole_head part) part kind head e) (λ marks. record {
      source = part;
      made = λ q u. ap (element_made (Content marks) name attrs part (λ a. made_of a children) (made_of (Content marks) q) u) (fit_anywhere name children marks ∙ g);
    })

pub content_part : (w : Progress) (p : Parts) (kind : Kind) (head : Head) → is_one_part p ≡ true → Apart p →
    (made_of (Content []) p w).run.items ≡ Opening kind head [] [] None false ∷ Closing kind [] ∷ [] → ContentPart p kind head
content_part w (Note text Ended) kind head h a e =
    let part : List ℕ = token_text (Comment text) in
    content_same (Note text Ended) AlienInline kind (whole_head part) head (inline_alone w AlienInline (whole_head part) part kind head e) (λ marks. record { source = part; made = λ q u. refl })
content_part w (Group nodes Ended) kind head h a e =
    let part : List ℕ = spelling nodes in
    let k : Kind = group_kind (Content []) nodes in
    let alone : (group_made (Content []) nodes (made_of (Content []) Ended) w None).run.items ≡ leaf_items kind head = ap (λ r. (group_made (Content []) nodes (made_of (Content []) Ended) w r).run.items) (sym (a.0 w (Content []))) ∙ e in
    content_same (Group nodes Ended) k kind (whole_head part) head (inline_alone w k (whole_head part) part kind head alone)
    (λ marks. record { source = part; made = λ q u. ap (group_made (Content marks) nodes (made_of (Content marks) q) u) (a.0 u (Content marks)) })
content_part w (Single name attrs source Ended) kind head h a e =
    let f = content_fitted attrs source (fit_of (Content []) name Ended) in
    content_same (Single name attrs source Ended) f.kind kind f.head head
    (inline_alone w f.kind f.head source kind head (ap (λ m. m.run.items) (sym (f.is [] (made_of (Content []) Ended) w)) ∙ e))
    (λ marks. record { source = source; made = λ q u. f.is marks (made_of (Content marks) q) u })
content_part w (Parent name attrs children Ended) kind head h a e = content_whole w name attrs children kind head h (fit_of (Content []) name children) refl (fit_facts (Content []) name children) e
content_part w Ended kind head h a e = cc
content_part w (Words text later) kind head h a e = cc
content_part w (Note text (Words t later)) kind head h a e = cc
content_part w (Note text (Note t later)) kind head h a e = cc
content_part w (Note text (Group n later)) kind head h a e = cc
content_part w (Note text (Single n al s later)) kind head h a e = cc
content_part w (Note text (Parent n al c later)) kind head h a e = cc
content_part w (Group nodes (Words t later)) kind head h a e = cc
content_part w (Group nodes (Note t later)) kind head h a e = cc
content_part w (Group nodes (Group n later)) kind head h a e = cc
content_part w (Group nodes (Single n al s later)) kind head h a e = cc
content_part w (Group nodes (Parent n al c later)) kind head h a e = cc
content_part w (Single name attrs source (Words t later)) kind head h a e = cc
content_part w (Single name attrs source (Note t later)) kind head h a e = cc
content_part w (Single name attrs source (Group n later)) kind head h a e = cc
content_part w (Single name attrs source (Single n al s later)) kind head h a e = cc
content_part w (Single name attrs source (Parent n al c later)) kind head h a e = cc
content_part w (Parent name attrs children (Words t later)) kind head h a e = cc
content_part w (Parent name attrs children (Note t later)) kind head h a e = cc
content_part w (Parent name attrs children (Group n later)) kind head h a e = cc
content_part w (Parent name attrs children (Single n al s later)) kind head h a e = cc
content_part w (Parent name attrs children (Parent n al c later)) kind head h a e = cc

-- it reads before other content
made_if_true : (c : Bool) (a b : Made) → c ≡ true → (if c then a else b) ≡ a
made_if_true true a b e = refl
made_if_true false a b e = cc

pub content_leaf : (marks : List Mark) (f rest : Forest) (kind : Kind) (head : Head) (ys : List PlainItem) → ContentPart (parts_of f) kind head → parts_of (followed_by f rest) ≡ joined (parts_of f) (parts_of rest) →
    ((w : Progress) → (made_of (Content marks) (parts_of rest) w).run.items ≡ ys) → (w : Progress) →
    (made_of (Content marks) (parts_of (followed_by f rest)) w).run.items ≡ Opening kind head marks [] None false ∷ Closing kind [] ∷ ys
content_leaf marks f rest kind head ys p j reads w =
    let l = p.part marks in
    let part : List ℕ = l.source in
    ap (λ x. (made_of (Content marks) x w).run.items) j
    ∙ ap (λ m. m.run.items) (l.made (parts_of rest) w)
    ∙ ap (λ m. m.run.items) (made_if_true (is_inline_leaf kind) (in_run (leaf kind head marks (source_span w part)) part [] (made_of (Content marks) (parts_of rest) (past w part []))) _ p.inline)
    ∙ ap (λ xs. Opening kind head marks [] None false ∷ Closing kind [] ∷ xs) (reads (past w part []))
