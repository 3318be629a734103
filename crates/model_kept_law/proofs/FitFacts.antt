-- Facts of an element that its fit tells.
use Rattle.std.proofs.Common.{◌≡◌, ℕ, Bool, true, false, ◌&&◌, ◌||◌, if◌then◌else◌, List, [], Option, Some, None, refl, sym, ap, ◌∙◌, subst, ◌⊎◌, inl, inr}
use Rattle.std.proofs.lemmas.Bool.{and_parts}
use Rattle.std.specs.Prelude.{unwrap_or, IfSome}
use Rattle.std.specs.Option.{option_and_then}
use Rattle.ve_kinds.specs.declared.kind.Kind.{Kind}
use Rattle.ve_kinds.specs.declared.kind.Kind.TheVariants.{Root, P, H1, H2, H3, H4, H5, H6, Pre, Section, Li, Dt, Dd, Blockquote, Div, Td, Th, Caption, InternalItem, Ul, Ol, Dl, Table, Thead, Tbody, Tfoot, Tr, InternalList, TransBlock, AlienBlock, Br, Img, Ref, TransInline, AlienInline}
use Rattle.ve_kinds.specs.Table.{kind_same, may_hold, is_element, is_leaf, is_among, block_leaves, inline_leaves}
use Rattle.ve_kinds.specs.Tags.{kind_of_tag, tag_of_kind}
use Rattle.ve_kinds.proofs.LawLemmas.{their_tags, tags_spell}
use Rattle.ve_base.specs.declared.marks.Mark.{Mark}
use Rattle.model_page.specs.Tags.{is_annotation_tag, is_inline_tag, tag_of}
use Rattle.model_page.specs.Parts.{Parts}
use Rattle.model_page.specs.Fit.{Around, Flow, Structural, Content, Fit, Annotation, Leaf, Branch, Whole, has_child, is_convertible, fit_in_content, fit_in_block, fit_of}
use Rattle.model_page_law.proofs.EscapeLemmas.{pick_true, annotation-fits}
use Rattle.model_page_law.proofs.TagLemmas.{mark_tag, leaf_kind}

-- br or img
abbrev pub Small : Kind → Type 0
Small kind = (kind_same kind Br || kind_same kind Img) ≡ true

-- there are blocks where parts stand so
abbrev pub HoldsBlocks : Around → Type 0
HoldsBlocks (Content marks) = ⊥
HoldsBlocks (Flow k) = Unit {0}
HoldsBlocks (Structural k) = Unit {0}

abbrev pub IsAlien : Around → Kind → Type 0
IsAlien around k = (k ≡ AlienInline) ⊎ ((k ≡ AlienBlock) × HoldsBlocks around)

pub record FitFacts (around : Around) (name : List ℕ) (children : Parts) (fit : Fit) : Type 0 where
  pub leaf : (k : Kind) → fit ≡ Leaf k → (kind_of_tag name ≡ Some k) × Small k
  pub branch : (k : Kind) → fit ≡ Branch k → (kind_of_tag name ≡ Some k) × (is_convertible k children ≡ true) × HoldsBlocks around
  pub whole : (k : Kind) → fit ≡ Whole k → IsAlien around k
  pub marks : fit ≡ Annotation → (is_annotation_tag name ≡ true) × (has_child children ≡ true)

-- ---- in content

abbrev Marking : List ℕ → Parts → Fit
Marking name children = if is_annotation_tag name && has_child children then Annotation else Whole AlienInline

abbrev InContent : List ℕ → Parts → Option Kind → Fit → Type 0
InContent name children kind fit = ((kind ≡ Some Br) × (fit ≡ Leaf Br)) ⊎ (((kind ≡ Some Img) × (fit ≡ Leaf Img)) ⊎ (fit ≡ Marking name children))

in_content : (name : List ℕ) (children : Parts) (kind : Option Kind) → InContent name children kind (fit_in_content name children kind)
in_content name children None = inr (inr refl)
in_content name children (Some Root) = inr (inr refl)
in_content name children (Some P) = inr (inr refl)
in_content name children (Some H1) = inr (inr refl)
in_content name children (Some H2) = inr (inr refl)
in_content name children (Some H3) = inr (inr refl)
in_content name children (Some H4) = inr (inr refl)
in_content name children (Some H5) = inr (inr refl)
in_content name children (Some H6) = inr (inr refl)
in_content name children (Some Pre) = inr (inr refl)
in_content name children (Some Section) = inr (inr refl)
in_content name children (Some Li) = inr (inr refl)
in_content name children (Some Dt) = inr (inr refl)
in_content name children (Some Dd) = inr (inr refl)
in_content name children (Some Blockquote) = inr (inr refl)
in_content name children (Some Div) = inr (inr refl)
in_content name children (Some Td) = inr (inr refl)
in_content name children (Some Th) = inr (inr refl)
in_content name children (Some Caption) = inr (inr refl)
in_content name children (Some InternalItem) = inr (inr refl)
in_content name children (Some Ul) = inr (inr refl)
in_content name children (Some Ol) = inr (inr refl)
in_content name children (Some Dl) = inr (inr refl)
in_content name children (Some Table) = inr (inr refl)
in_content name children (Some Thead) = inr (inr refl)
in_content name children (Some Tbody) = inr (inr refl)
in_content name children (Some Tfoot) = inr (inr refl)
in_content name children (Some Tr) = inr (inr refl)
in_content name children (Some InternalList) = inr (inr refl)
in_content name children (Some TransBlock) = inr (inr refl)
in_content name children (Some AlienBlock) = inr (inr refl)
in_content name children (Some Br) = inl (refl, refl)
in_content name children (Some Img) = inr (inl (refl, refl))
in_content name children (Some Ref) = inr (inr refl)
in_content name children (Some TransInline) = inr (inr refl)
in_content name children (Some AlienInline) = inr (inr refl)

leaf_in : Fit → Kind → Kind
leaf_in (Leaf k) d = k
leaf_in Annotation d = d
leaf_in (Branch k) d = d
leaf_in (Whole k) d = d

whole_in : Fit → Kind → Kind
whole_in (Whole k) d = k
whole_in Annotation d = d
whole_in (Branch k) d = d
whole_in (Leaf k) d = d

branch_in : Fit → Kind → Kind
branch_in (Branch k) d = k
branch_in Annotation d = d
branch_in (Whole k) d = d
branch_in (Leaf k) d = d

leaf_same : (j k : Kind) → Leaf j ≡ Leaf k → j ≡ k
unfolding leaf_in
leaf_same j k e = ap (λ f. leaf_in f j) e

whole_same : (j k : Kind) → Whole j ≡ Whole k → j ≡ k
unfolding whole_in
whole_same j k e = ap (λ f. whole_in f j) e

branch_same : (j k : Kind) → Branch j ≡ Branch k → j ≡ k
unfolding branch_in
branch_same j k e = ap (λ f. branch_in f j) e

facts_leaf : (around : Around) (name : List ℕ) (children : Parts) (kind : Kind) (fit : Fit) → kind_of_tag name ≡ Some kind → Small kind → fit ≡ Leaf kind → FitFacts around name children fit
facts_leaf around name children kind fit e s f = record {
  leaf = λ k g. let same : kind ≡ k = leaf_same kind k (sym f ∙ g) in (e ∙ ap (λ j. Some j) same, ap (λ j. kind_same j Br || kind_same j Img) (sym same) ∙ s);
  branch = λ k g. absurd (let h : Leaf kind ≡ Branch k = sym f ∙ g in cc);
  whole = λ k g. absurd (let h : Leaf kind ≡ Whole k = sym f ∙ g in cc);
  marks = λ g. absurd (let h : Leaf kind ≡ Annotation = sym f ∙ g in cc);
}

facts_whole : (around : Around) (name : List ℕ) (children : Parts) (kind : Kind) (fit : Fit) → IsAlien around kind → fit ≡ Whole kind → FitFacts around name children fit
facts_whole around name children kind fit a f = record {
  leaf = λ k g. absurd (let h : Whole kind ≡ Leaf k = sym f ∙ g in cc);
  branch = λ k g. absurd (let h : Whole kind ≡ Branch k = sym f ∙ g in cc);
  whole = λ k g. subst (IsAlien around) (whole_same kind k (sym f ∙ g)) a;
  marks = λ g. absurd (let h : Whole kind ≡ Annotation = sym f ∙ g in cc);
}

facts_marks : (around : Around) (name : List ℕ) (children : Parts) (fit : Fit) → is_annotation_tag name ≡ true → has_child children ≡ true → fit ≡ Annotation → FitFacts around name children fit
facts_marks around name children fit tag child f = record {
  leaf = λ k g. absurd (let h : Annotation ≡ Leaf k = sym f ∙ g in cc);
  branch = λ k g. absurd (let h : Annotation ≡ Branch k = sym f ∙ g in cc);
  whole = λ k g. absurd (let h : Annotation ≡ Whole k = sym f ∙ g in cc);
  marks = λ g. (tag, child);
}

facts_branch : (around : Around) (name : List ℕ) (children : Parts) (kind : Kind) (fit : Fit) → kind_of_tag name ≡ Some kind → is_convertible kind children ≡ true → HoldsBlocks around → fit ≡ Branch kind →
    FitFacts around name children fit
facts_branch around name children kind fit e c h f = record {
  leaf = λ k g. absurd (let x : Branch kind ≡ Leaf k = sym f ∙ g in cc);
  branch = λ k g. let same : kind ≡ k = branch_same kind k (sym f ∙ g) in (e ∙ ap (λ j. Some j) same, ap (λ j. is_convertible j children) (sym same) ∙ c, h);
  whole = λ k g. absurd (let x : Branch kind ≡ Whole k = sym f ∙ g in cc);
  marks = λ g. absurd (let x : Branch kind ≡ Annotation = sym f ∙ g in cc);
}

marking_facts : (around : Around) (name : List ℕ) (children : Parts) (fit : Fit) (c : Bool) → (is_annotation_tag name && has_child children) ≡ c → fit ≡ (if c then Annotation else Whole AlienInline) → FitFacts around name children fit
marking_facts around name children fit true c f = let p = and_parts (is_annotation_tag name) (has_child children) c in facts_marks around name children fit p.0 p.1 f
marking_facts around name children fit false c f = facts_whole around name children AlienInline fit (inl refl) f

content_facts : (around : Around) (name : List ℕ) (children : Parts) (fit : Fit) → InContent name children (kind_of_tag name) fit → FitFacts around name children fit
content_facts around name children fit (inl p) = facts_leaf around name children Br fit p.0 refl p.1
content_facts around name children fit (inr (inl p)) = facts_leaf around name children Img fit p.0 refl p.1
content_facts around name children fit (inr (inr e)) = marking_facts around name children fit (is_annotation_tag name && has_child children) refl e

-- ---- everywhere

block_by : (around : Around) (name : List ℕ) (children : Parts) (kind : Kind) (fit : Fit) (c : Bool) → HoldsBlocks around → kind_of_tag name ≡ Some kind → (c ≡ true → is_convertible kind children ≡ true) →
    fit ≡ (if c then Branch kind else Whole AlienBlock) → FitFacts around name children fit
block_by around name children kind fit true h e g f = facts_branch around name children kind fit e (g refl) h f
block_by around name children kind fit false h e g f = facts_whole around name children AlienBlock fit (inr (refl, h)) f

block_facts : (around : Around) (parent : Kind) (name : List ℕ) (children : Parts) (kind : Option Kind) → HoldsBlocks around → kind_of_tag name ≡ kind →
    FitFacts around name children (fit_in_block parent children kind)
block_facts around parent name children None h e = facts_whole around name children AlienBlock (Whole AlienBlock) (inr (refl, h)) refl
block_facts around parent name children (Some kind) h e =
    block_by around name children kind (fit_in_block parent children (Some kind)) (may_hold parent kind && is_convertible kind children) h e (λ c. (and_parts (may_hold parent kind) (is_convertible kind children) c).1) refl

chosen_facts : (around : Around) (name : List ℕ) (children : Parts) (c : Bool) (a b : Fit) → FitFacts around name children a → FitFacts around name children b → FitFacts around name children (if c then a else b)
chosen_facts around name children true a b f g = f
chosen_facts around name children false a b f g = g

pub fit_facts : (around : Around) (name : List ℕ) (children : Parts) → FitFacts around name children (fit_of around name children)
fit_facts (Content marks) name children = content_facts (Content marks) name children (fit_in_content name children (kind_of_tag name)) (in_content name children (kind_of_tag name))
fit_facts (Flow parent) name children =
    chosen_facts (Flow parent) name children (is_inline_tag name) (fit_in_content name children (kind_of_tag name)) (fit_in_block parent children (kind_of_tag name))
    (content_facts (Flow parent) name children (fit_in_content name children (kind_of_tag name)) (in_content name children (kind_of_tag name)))
    (block_facts (Flow parent) parent name children (kind_of_tag name) tt refl)
fit_facts (Structural parent) name children = block_facts (Structural parent) parent name children (kind_of_tag name) tt refl

-- a mark is one everywhere
pub marks_content : (name : List ℕ) (children : Parts) → is_annotation_tag name ≡ true → has_child children ≡ true → (marks : List Mark) → fit_of (Content marks) name children ≡ Annotation
marks_content name children tag child marks = annotation-fits name tag marks children child

pub marks_flow : (name : List ℕ) (children : Parts) → is_annotation_tag name ≡ true → has_child children ≡ true → (k : Kind) → fit_of (Flow k) name children ≡ Annotation
marks_flow name children tag child k = pick_true (is_inline_tag name) _ _ (mark_tag name tag).inline ∙ annotation-fits name tag [] children child

-- the name is the kind's tag
if_some : (A : Kind → Type 0) (o : Option Kind) (k : Kind) → o ≡ Some k → IfSome o A → A k
if_some A o k e h = subst (λ x. IfSome x A) e h

pub tag_is : (name : List ℕ) (kind : Kind) → kind_of_tag name ≡ Some kind → name ≡ tag_of kind
tag_is name kind e = sym (ap (λ o. unwrap_or o []) (if_some (λ k. tag_of_kind k ≡ Some name) (kind_of_tag name) kind e (their_tags name)))

-- so the kind is that of an element
element_by : (c : Bool) (k : Kind) → (if c then Some k else None) ≡ Some k → c ≡ true
element_by true k e = refl
element_by false k e = cc

pub tag_element : (name : List ℕ) (kind : Kind) → kind_of_tag name ≡ Some kind → is_element kind ≡ true
tag_element name kind e =
    let named : tag_of_kind kind ≡ Some name = if_some (λ k. tag_of_kind k ≡ Some name) (kind_of_tag name) kind e (their_tags name) in
    element_by (is_element kind) kind (sym (tags_spell kind) ∙ ap (option_and_then kind_of_tag) named ∙ e)

-- br and img are leaves
pub small_leaf : (k : Kind) → Small k → is_leaf k ≡ true
small_leaf k h = or_right (is_among block_leaves k) (is_among inline_leaves k) (leaf_kind k h).inline
  where
    or_right : (a b : Bool) → b ≡ true → (a || b) ≡ true
    or_right true b e = refl
    or_right false b e = e
