-- What an element, a group or a comment becomes is such that whitespace and marks may stand where they
-- are put.
use Rattle.std.proofs.Common.{◌≡◌, ℕ, Bool, true, false, not, ◌&&◌, ◌||◌, if◌then◌else◌, List, [], ◌∷◌, Option, Some, None, ◌⊎◌, inl, inr, refl, sym, ap, ◌∙◌, subst, bytes_eq}
use Rattle.std.proofs.lemmas.Bool.{and_parts}
use Rattle.std.proofs.lemmas.Slice.Eq.{bytes_eq-Decides}
use Rattle.ve_kinds.specs.declared.kind.Kind.{Kind}
use Rattle.ve_kinds.specs.declared.kind.Kind.TheVariants.{Root, P, H1, H2, H3, H4, H5, H6, Pre, Section, Li, Dt, Dd, Blockquote, Div, Td, Th, Caption, InternalItem, Ul, Ol, Dl, Table, Thead, Tbody, Tfoot, Tr, InternalList, TransBlock, AlienBlock, Br, Img, Ref, TransInline, AlienInline}
use Rattle.ve_kinds.specs.Table.{is_content_branch, is_element, is_flow, is_inline_leaf, is_leaf, is_structural, may_hold}
use Rattle.ve_kinds.specs.Tags.{is_void, kind_among, kind_of_tag, tags_of_kinds}
use Rattle.model_spelling.specs.Forest.{Forest}
use Rattle.model_page.specs.Elements.{is_white}
use Rattle.model_page.specs.Fit.{Annotation, Around, Branch, Content, Fit, Flow, Leaf, Structural, Whole, around_in, fit_in_block, fit_in_content, fit_of, group_kind, has_blocks_alone, has_child, has_inline_tags, is_convertible, is_generated, is_inline_at, note_kind, whole_kind}
use Rattle.model_page.specs.Fragment.{context_of, fits_content, fits_in, fits_structural}
use Rattle.model_page.specs.Parts.{Ended, Group, Note, Parent, Parts, Single, Words, source_of}
use Rattle.model_page.specs.Tags.{is_annotation_tag, is_inline_tag}

-- ---- kinds of branches

pub record IsBranch (k : Kind) : Type 0 where
  pub leaf : is_leaf k ≡ false
  pub inline : is_inline_leaf k ≡ false
  pub parent : (is_content_branch k || is_flow k || is_structural k) ≡ true

-- a tag is void, or its kind is a branch
abbrev RowFits : List ℕ × Kind → Type 0
RowFits row = (is_void row.0 ≡ true) ⊎ IsBranch row.1

abbrev AllRows : List (List ℕ × Kind) → Type 0
AllRows [] = Unit {0}
AllRows (row ∷ rows) = RowFits row × AllRows rows

tags_fit : AllRows tags_of_kinds
unfolding is_void
tags_fit = (inr (record { leaf = refl; inline = refl; parent = refl }), (inr (record { leaf = refl; inline = refl; parent = refl }), (inr (record { leaf = refl; inline = refl; parent = refl }), (inr (record { leaf = refl; inline = refl; parent = refl }), (inr (record { leaf = refl; inline = refl; parent = refl }), (inr (record { leaf = refl; inline = refl; parent = refl }), (inr (record { leaf = refl; inline = refl; parent = refl }), (inr (record { leaf = refl; inline = refl; parent = refl }), (inr (record { leaf = refl; inline = refl; parent = refl }), (inr (record { leaf = refl; inline = refl; parent = refl }), (inr (record { leaf = refl; inline = refl; parent = refl }), (inr (record { leaf = refl; inline = refl; parent = refl }), (inr (record { leaf = refl; inline = refl; parent = refl }), (inr (record { leaf = refl; inline = refl; parent = refl }), (inr (record { leaf = refl; inline = refl; parent = refl }), (inr (record { leaf = refl; inline = refl; parent = refl }), (inr (record { leaf = refl; inline = refl; parent = refl }), (inr (record { leaf = refl; inline = refl; parent = refl }), (inr (record { leaf = refl; inline = refl; parent = refl }), (inr (record { leaf = refl; inline = refl; parent = refl }), (inr (record { leaf = refl; inline = refl; parent = refl }), (inr (record { leaf = refl; inline = refl; parent = refl }), (inr (record { leaf = refl; inline = refl; parent = refl }), (inr (record { leaf = refl; inline = refl; parent = refl }), (inr (record { leaf = refl; inline = refl; parent = refl }), (inl refl, (inl refl, tt)))))))))))))))))))))))))))

same_kind : (j k : Kind) → ◌≡◌ {A = Option Kind} (Some j) (Some k) → j ≡ k
same_kind j k e = cc

row_branch : (row : List ℕ × Kind) (name : List ℕ) (k : Kind) → RowFits row → row.0 ≡ name → row.1 ≡ k → is_void name ≡ false → IsBranch k
row_branch row name k (inl v) e f n = absurd (let t : true ≡ false = sym v ∙ ap is_void e ∙ n in cc)
row_branch row name k (inr b) e f n = subst IsBranch f b

among_branch : (rows : List (List ℕ × Kind)) → AllRows rows → (name : List ℕ) (k : Kind) → kind_among rows name ≡ Some k → is_void name ≡ false → IsBranch k
among_branch [] a name k h n = cc
among_branch (row ∷ rows) a name k h n = by (bytes_eq row.0 name) refl h (λ e. among_branch rows a.1 name k e n)
  where
    by : (c : Bool) → bytes_eq row.0 name ≡ c → (if c then Some row.1 else kind_among rows name) ≡ Some k → (kind_among rows name ≡ Some k → IsBranch k) → IsBranch k
    by true e g rest = row_branch row name k a.0 ((bytes_eq-Decides row.0 name).0 e) (same_kind row.1 k g) n
    by false e g rest = rest g

-- ---- where nodes stand

-- a leaf in content is inline
abbrev pub Within : Around → Kind → Type 0
Within (Content marks) k = is_inline_leaf k ≡ true
Within (Flow parent) k = Unit {0}
Within (Structural parent) k = Unit {0}

abbrev pub Outside : Around → Type 0
Outside (Content marks) = ⊥
Outside (Flow parent) = Unit {0}
Outside (Structural parent) = Unit {0}

pub within : (around : Around) (k : Kind) → is_inline_leaf k ≡ true → Within around k
within (Content marks) k h = h
within (Flow parent) k h = tt
within (Structural parent) k h = tt

outside_within : (around : Around) (k : Kind) → Outside around → Within around k
outside_within (Content marks) k o = absurd o
outside_within (Flow parent) k o = tt
outside_within (Structural parent) k o = tt

pub block_outside : (around : Around) (k : Kind) → Within around k → is_inline_leaf k ≡ false → Outside around
block_outside (Content marks) k w h = let t : true ≡ false = sym w ∙ h in cc
block_outside (Flow parent) k w h = tt
block_outside (Structural parent) k w h = tt

-- each text is whitespace
abbrev pub AllWhite : Parts → Type 0
AllWhite Ended = Unit {0}
AllWhite (Words text later) = (is_white text ≡ true) × AllWhite later
AllWhite (Note text later) = AllWhite later
AllWhite (Group nodes later) = AllWhite later
AllWhite (Single name attrs source later) = AllWhite later
AllWhite (Parent name attrs children later) = AllWhite later

-- so it is in a structural parent
abbrev pub Loose : Around → Parts → Type 0
Loose (Content marks) parts = Unit {0}
Loose (Flow parent) parts = Unit {0}
Loose (Structural parent) parts = AllWhite parts

blocks_white : (parts : Parts) → has_blocks_alone parts ≡ true → AllWhite parts
blocks_white Ended h = tt
blocks_white (Words text later) h = let p = and_parts (is_white text) (has_blocks_alone later) h in (p.0, blocks_white later p.1)
blocks_white (Note text later) h = blocks_white later h
blocks_white (Group nodes later) h = blocks_white later h
blocks_white (Single name attrs source later) h = blocks_white later (and_parts (not (is_inline_tag name)) (has_blocks_alone later) h).1
blocks_white (Parent name attrs children later) h = blocks_white later (and_parts (not (is_inline_tag name)) (has_blocks_alone later) h).1

pub loose_inside : (k : Kind) (children : Parts) → IsBranch k → is_convertible k children ≡ true → Loose (around_in k) children
loose_inside k children b h = by (is_content_branch k) (is_flow k) (is_structural k) b.parent h
  where
    by : (x y z : Bool) → (x || y || z) ≡ true → (not z || has_blocks_alone children) ≡ true → Loose (if x then Content [] else (if y then Flow k else Structural k)) children
    by true y z e g = tt
    by false true z e g = tt
    by false false true e g = blocks_white children g
    by false false false e g = cc

structural_white : (k : Kind) (parts : Parts) → fits_structural k parts ≡ true → AllWhite parts
structural_white k Ended h = tt
structural_white k (Words text later) h = let p = and_parts (is_white text) (fits_structural k later) h in (p.0, structural_white k later p.1)
structural_white k (Note text later) h = structural_white k later h
structural_white k (Group nodes later) h = cc
structural_white k (Single name attrs source later) h = structural_white k later (and_parts _ (fits_structural k later) h).1
structural_white k (Parent name attrs children later) h = structural_white k later (and_parts _ (fits_structural k later) h).1

fitting_loose : (k : Kind) (parts : Parts) → fits_in parts k ≡ true → Loose (around_in k) parts
fitting_loose k parts h = by (is_content_branch k) (is_flow k) h
  where
    by : (x y : Bool) → (if x then fits_content parts else (y || (fits_structural k parts && not (is_white (source_of parts))))) ≡ true → Loose (if x then Content [] else (if y then Flow k else Structural k)) parts
    by true y g = tt
    by false true g = tt
    by false false g = structural_white k parts (and_parts (fits_structural k parts) (not (is_white (source_of parts))) g).0

-- in the kind that a fragment becomes children of
pub context_loose : (parts : Parts) (stack : List Kind) → Loose (around_in (context_of parts stack)) parts
context_loose parts [] = tt
context_loose parts (k ∷ outer) = by (fits_in parts k) refl (context_loose parts outer)
  where
    by : (c : Bool) → fits_in parts k ≡ c → Loose (around_in (context_of parts outer)) parts → Loose (around_in (if c then k else context_of parts outer)) parts
    by true e rest = fitting_loose k parts e
    by false e rest = rest

-- ---- elements

abbrev ContentFits : List ℕ → Fit → Type 0
ContentFits name Annotation = is_annotation_tag name ≡ true
ContentFits name (Leaf k) = is_inline_leaf k ≡ true
ContentFits name (Whole k) = (is_inline_leaf k ≡ true) × (is_element k ≡ false)
ContentFits name (Branch k) = ⊥

fit_chosen : (name : List ℕ) (c : Bool) → (c ≡ true → is_annotation_tag name ≡ true) → ContentFits name (if c then Annotation else Whole AlienInline)
fit_chosen name true h = h refl
fit_chosen name false h = (refl, refl)

tag_annotates : (name : List ℕ) (children : Parts) → (is_annotation_tag name && has_child children) ≡ true → is_annotation_tag name ≡ true
tag_annotates name children h = (and_parts (is_annotation_tag name) (has_child children) h).0

content_fits : (name : List ℕ) (children : Parts) (kind : Option Kind) → ContentFits name (fit_in_content name children kind)
content_fits name children None = fit_chosen name (is_annotation_tag name && has_child children) (tag_annotates name children)
content_fits name children (Some Root) = fit_chosen name (is_annotation_tag name && has_child children) (tag_annotates name children)
content_fits name children (Some P) = fit_chosen name (is_annotation_tag name && has_child children) (tag_annotates name children)
content_fits name children (Some H1) = fit_chosen name (is_annotation_tag name && has_child children) (tag_annotates name children)
content_fits name children (Some H2) = fit_chosen name (is_annotation_tag name && has_child children) (tag_annotates name children)
content_fits name children (Some H3) = fit_chosen name (is_annotation_tag name && has_child children) (tag_annotates name children)
content_fits name children (Some H4) = fit_chosen name (is_annotation_tag name && has_child children) (tag_annotates name children)
content_fits name children (Some H5) = fit_chosen name (is_annotation_tag name && has_child children) (tag_annotates name children)
content_fits name children (Some H6) = fit_chosen name (is_annotation_tag name && has_child children) (tag_annotates name children)
content_fits name children (Some Pre) = fit_chosen name (is_annotation_tag name && has_child children) (tag_annotates name children)
content_fits name children (Some Section) = fit_chosen name (is_annotation_tag name && has_child children) (tag_annotates name children)
content_fits name children (Some Li) = fit_chosen name (is_annotation_tag name && has_child children) (tag_annotates name children)
content_fits name children (Some Dt) = fit_chosen name (is_annotation_tag name && has_child children) (tag_annotates name children)
content_fits name children (Some Dd) = fit_chosen name (is_annotation_tag name && has_child children) (tag_annotates name children)
content_fits name children (Some Blockquote) = fit_chosen name (is_annotation_tag name && has_child children) (tag_annotates name children)
content_fits name children (Some Div) = fit_chosen name (is_annotation_tag name && has_child children) (tag_annotates name children)
content_fits name children (Some Td) = fit_chosen name (is_annotation_tag name && has_child children) (tag_annotates name children)
content_fits name children (Some Th) = fit_chosen name (is_annotation_tag name && has_child children) (tag_annotates name children)
content_fits name children (Some Caption) = fit_chosen name (is_annotation_tag name && has_child children) (tag_annotates name children)
content_fits name children (Some InternalItem) = fit_chosen name (is_annotation_tag name && has_child children) (tag_annotates name children)
content_fits name children (Some Ul) = fit_chosen name (is_annotation_tag name && has_child children) (tag_annotates name children)
content_fits name children (Some Ol) = fit_chosen name (is_annotation_tag name && has_child children) (tag_annotates name children)
content_fits name children (Some Dl) = fit_chosen name (is_annotation_tag name && has_child children) (tag_annotates name children)
content_fits name children (Some Table) = fit_chosen name (is_annotation_tag name && has_child children) (tag_annotates name children)
content_fits name children (Some Thead) = fit_chosen name (is_annotation_tag name && has_child children) (tag_annotates name children)
content_fits name children (Some Tbody) = fit_chosen name (is_annotation_tag name && has_child children) (tag_annotates name children)
content_fits name children (Some Tfoot) = fit_chosen name (is_annotation_tag name && has_child children) (tag_annotates name children)
content_fits name children (Some Tr) = fit_chosen name (is_annotation_tag name && has_child children) (tag_annotates name children)
content_fits name children (Some InternalList) = fit_chosen name (is_annotation_tag name && has_child children) (tag_annotates name children)
content_fits name children (Some TransBlock) = fit_chosen name (is_annotation_tag name && has_child children) (tag_annotates name children)
content_fits name children (Some AlienBlock) = fit_chosen name (is_annotation_tag name && has_child children) (tag_annotates name children)
content_fits name children (Some Br) = refl
content_fits name children (Some Img) = refl
content_fits name children (Some Ref) = fit_chosen name (is_annotation_tag name && has_child children) (tag_annotates name children)
content_fits name children (Some TransInline) = fit_chosen name (is_annotation_tag name && has_child children) (tag_annotates name children)
content_fits name children (Some AlienInline) = fit_chosen name (is_annotation_tag name && has_child children) (tag_annotates name children)

-- a branch stands outside of content, and an element that is none keeps its source
abbrev pub FitPasses : Around → List ℕ → Parts → Fit → Type 0
FitPasses around name children Annotation = is_annotation_tag name ≡ true
FitPasses around name children (Leaf k) = is_inline_leaf k ≡ true
FitPasses around name children (Whole k) = Within around k × (is_element k ≡ false)
FitPasses around name children (Branch k) = Outside around × (is_void name ≡ false → IsBranch k) × (is_convertible k children ≡ true)

of_content : (around : Around) (name : List ℕ) (children : Parts) (fit : Fit) → ContentFits name fit → FitPasses around name children fit
of_content around name children Annotation h = h
of_content around name children (Leaf k) h = h
of_content around name children (Whole k) h = (within around k h.0, h.1)
of_content around name children (Branch k) h = absurd h

block_passes : (around : Around) → Outside around → (parent : Kind) (name : List ℕ) (children : Parts) (kind : Option Kind) → kind_of_tag name ≡ kind → FitPasses around name children (fit_in_block parent children kind)
block_passes around o parent name children None e = (outside_within around AlienBlock o, refl)
block_passes around o parent name children (Some k) e = by (may_hold parent k) (is_convertible k children) refl
  where
    by : (c d : Bool) → is_convertible k children ≡ d → FitPasses around name children (if c && d then Branch k else Whole AlienBlock)
    by true true f = (o, (λ n. among_branch tags_of_kinds tags_fit name k e n), f)
    by true false f = (outside_within around AlienBlock o, refl)
    by false d f = (outside_within around AlienBlock o, refl)

pub fit_passes : (around : Around) (name : List ℕ) (children : Parts) → FitPasses around name children (fit_of around name children)
fit_passes (Content marks) name children = of_content (Content marks) name children (fit_in_content name children (kind_of_tag name)) (content_fits name children (kind_of_tag name))
fit_passes (Structural parent) name children = block_passes (Structural parent) tt parent name children (kind_of_tag name) refl
fit_passes (Flow parent) name children = by (is_inline_tag name)
  where
    by : (c : Bool) → FitPasses (Flow parent) name children (if c then fit_in_content name children (kind_of_tag name) else fit_in_block parent children (kind_of_tag name))
    by true = of_content (Flow parent) name children (fit_in_content name children (kind_of_tag name)) (content_fits name children (kind_of_tag name))
    by false = block_passes (Flow parent) tt parent name children (kind_of_tag name) refl

-- ---- leaves that are kept whole

pub record IsKept (around : Around) (k : Kind) : Type 0 where
  pub place : Within around k
  pub whole : is_element k ≡ false

kept : (around : Around) (generated inline : Bool) → IsKept around (whole_kind generated (is_inline_at around inline))
kept (Content marks) true inline = record { place = refl; whole = refl }
kept (Content marks) false inline = record { place = refl; whole = refl }
kept (Flow parent) true true = record { place = tt; whole = refl }
kept (Flow parent) true false = record { place = tt; whole = refl }
kept (Flow parent) false true = record { place = tt; whole = refl }
kept (Flow parent) false false = record { place = tt; whole = refl }
kept (Structural parent) true inline = record { place = tt; whole = refl }
kept (Structural parent) false inline = record { place = tt; whole = refl }

pub group_kept : (around : Around) (nodes : Forest) → IsKept around (group_kind around nodes)
group_kept around nodes = kept around (is_generated nodes) (has_inline_tags nodes)

pub note_kept : (around : Around) → IsKept around (note_kind around)
note_kept around = kept around false false
