-- Each converted node may stand where it is put, by the fit of an element and the kind of a leaf.
use Rattle.std.proofs.Common.{◌≡◌, ℕ, Bool, true, false, ◌&&◌, if◌then◌else◌, List, [], ◌∷◌, Option, Some, None, refl, sym, ap, ◌∙◌}
use Rattle.std.specs.Prelude.{bytes_eq}
use Rattle.std.proofs.lemmas.Bool.{and_parts}
use Rattle.model_spelling.specs.Forest.{Forest, Nothing, Text, Remark, Void, RawElement, Element}
use Rattle.ve_kinds.specs.declared.kind.Kind.{Kind}
use Rattle.ve_kinds.specs.declared.kind.Kind.TheVariants.{Root, P, H1, H2, H3, H4, H5, H6, Pre, Section, Li, Dt, Dd, Blockquote, Div, Td, Th, Caption, InternalItem, Ul, Ol, Dl, Table, Thead, Tbody, Tfoot, Tr, InternalList, TransBlock, AlienBlock, Br, Img, Ref, TransInline, AlienInline}
use Rattle.ve_kinds.specs.Table.{kind_same, may_hold, is_content_branch, is_flow, is_leaf, is_element}
use Rattle.ve_kinds.specs.Tags.{kind_among, tags_of_kinds, kind_of_tag}
use Rattle.model_page.specs.Tags.{is_annotation_tag, is_inline_tag}
use Rattle.model_page.specs.Parts.{Parts}
use Rattle.model_page.specs.Fit.{Around, Flow, Structural, Content, Fit, Annotation, Leaf, Branch, Whole, around_in, has_child, is_convertible, fit_in_content, fit_in_block, fit_of, whole_kind, is_generated, has_inline_tags, is_inline_at, group_kind, note_kind}
use Rattle.ve_kinds.specs.Table.{is_inline_leaf}
use Rattle.model_page.specs.Pieces.{Progress}
use Rattle.model_page.specs.ReferenceNodes.{ref_of}

-- ---- kinds

pub inline_held : (parent k : Kind) → is_content_branch parent ≡ true → is_inline_leaf k ≡ true → may_hold parent k ≡ true
inline_held Root k e h = cc
inline_held P k e h = h
inline_held H1 k e h = h
inline_held H2 k e h = h
inline_held H3 k e h = h
inline_held H4 k e h = h
inline_held H5 k e h = h
inline_held H6 k e h = h
inline_held Pre k e h = h
inline_held Section k e h = cc
inline_held Li k e h = cc
inline_held Dt k e h = cc
inline_held Dd k e h = cc
inline_held Blockquote k e h = cc
inline_held Div k e h = cc
inline_held Td k e h = cc
inline_held Th k e h = cc
inline_held Caption k e h = cc
inline_held InternalItem k e h = cc
inline_held Ul k e h = cc
inline_held Ol k e h = cc
inline_held Dl k e h = cc
inline_held Table k e h = cc
inline_held Thead k e h = cc
inline_held Tbody k e h = cc
inline_held Tfoot k e h = cc
inline_held Tr k e h = cc
inline_held InternalList k e h = cc
inline_held TransBlock k e h = cc
inline_held AlienBlock k e h = cc
inline_held Br k e h = cc
inline_held Img k e h = cc
inline_held Ref k e h = cc
inline_held TransInline k e h = cc
inline_held AlienInline k e h = cc

inline_no_list : (k : Kind) → is_inline_leaf k ≡ true → kind_same k InternalList ≡ false
inline_no_list Root h = cc
inline_no_list P h = cc
inline_no_list H1 h = cc
inline_no_list H2 h = cc
inline_no_list H3 h = cc
inline_no_list H4 h = cc
inline_no_list H5 h = cc
inline_no_list H6 h = cc
inline_no_list Pre h = cc
inline_no_list Section h = cc
inline_no_list Li h = cc
inline_no_list Dt h = cc
inline_no_list Dd h = cc
inline_no_list Blockquote h = cc
inline_no_list Div h = cc
inline_no_list Td h = cc
inline_no_list Th h = cc
inline_no_list Caption h = cc
inline_no_list InternalItem h = cc
inline_no_list Ul h = cc
inline_no_list Ol h = cc
inline_no_list Dl h = cc
inline_no_list Table h = cc
inline_no_list Thead h = cc
inline_no_list Tbody h = cc
inline_no_list Tfoot h = cc
inline_no_list Tr h = cc
inline_no_list InternalList h = cc
inline_no_list TransBlock h = cc
inline_no_list AlienBlock h = cc
inline_no_list Br h = refl
inline_no_list Img h = refl
inline_no_list Ref h = refl
inline_no_list TransInline h = refl
inline_no_list AlienInline h = refl

element_no_list : (k : Kind) → is_element k ≡ true → kind_same k InternalList ≡ false
element_no_list Root h = cc
element_no_list P h = refl
element_no_list H1 h = refl
element_no_list H2 h = refl
element_no_list H3 h = refl
element_no_list H4 h = refl
element_no_list H5 h = refl
element_no_list H6 h = refl
element_no_list Pre h = refl
element_no_list Section h = refl
element_no_list Li h = refl
element_no_list Dt h = refl
element_no_list Dd h = refl
element_no_list Blockquote h = refl
element_no_list Div h = refl
element_no_list Td h = refl
element_no_list Th h = refl
element_no_list Caption h = refl
element_no_list InternalItem h = cc
element_no_list Ul h = refl
element_no_list Ol h = refl
element_no_list Dl h = refl
element_no_list Table h = refl
element_no_list Thead h = refl
element_no_list Tbody h = refl
element_no_list Tfoot h = refl
element_no_list Tr h = refl
element_no_list InternalList h = cc
element_no_list TransBlock h = cc
element_no_list AlienBlock h = cc
element_no_list Br h = refl
element_no_list Img h = refl
element_no_list Ref h = cc
element_no_list TransInline h = cc
element_no_list AlienInline h = cc

no_br : (parent : Kind) → is_content_branch parent ≡ false → may_hold parent Br ≡ false
no_br Root e = refl
no_br P e = cc
no_br H1 e = cc
no_br H2 e = cc
no_br H3 e = cc
no_br H4 e = cc
no_br H5 e = cc
no_br H6 e = cc
no_br Pre e = cc
no_br Section e = refl
no_br Li e = refl
no_br Dt e = refl
no_br Dd e = refl
no_br Blockquote e = refl
no_br Div e = refl
no_br Td e = refl
no_br Th e = refl
no_br Caption e = refl
no_br InternalItem e = refl
no_br Ul e = refl
no_br Ol e = refl
no_br Dl e = refl
no_br Table e = refl
no_br Thead e = refl
no_br Tbody e = refl
no_br Tfoot e = refl
no_br Tr e = refl
no_br InternalList e = refl
no_br TransBlock e = refl
no_br AlienBlock e = refl
no_br Br e = refl
no_br Img e = refl
no_br Ref e = refl
no_br TransInline e = refl
no_br AlienInline e = refl

no_img : (parent : Kind) → is_content_branch parent ≡ false → may_hold parent Img ≡ false
no_img Root e = refl
no_img P e = cc
no_img H1 e = cc
no_img H2 e = cc
no_img H3 e = cc
no_img H4 e = cc
no_img H5 e = cc
no_img H6 e = cc
no_img Pre e = cc
no_img Section e = refl
no_img Li e = refl
no_img Dt e = refl
no_img Dd e = refl
no_img Blockquote e = refl
no_img Div e = refl
no_img Td e = refl
no_img Th e = refl
no_img Caption e = refl
no_img InternalItem e = refl
no_img Ul e = refl
no_img Ol e = refl
no_img Dl e = refl
no_img Table e = refl
no_img Thead e = refl
no_img Tbody e = refl
no_img Tfoot e = refl
no_img Tr e = refl
no_img InternalList e = refl
no_img TransBlock e = refl
no_img AlienBlock e = refl
no_img Br e = refl
no_img Img e = refl
no_img Ref e = refl
no_img TransInline e = refl
no_img AlienInline e = refl

opposite : {A : Type 0} (b : Bool) → b ≡ true → b ≡ false → A
opposite b e f = absurd (let g : true ≡ false = sym e ∙ f in cc)

not_leaf : (k parent : Kind) → is_content_branch parent ≡ false → may_hold parent k ≡ true → is_element k ≡ true → is_leaf k ≡ false
not_leaf Root parent e h i = cc
not_leaf P parent e h i = refl
not_leaf H1 parent e h i = refl
not_leaf H2 parent e h i = refl
not_leaf H3 parent e h i = refl
not_leaf H4 parent e h i = refl
not_leaf H5 parent e h i = refl
not_leaf H6 parent e h i = refl
not_leaf Pre parent e h i = refl
not_leaf Section parent e h i = refl
not_leaf Li parent e h i = refl
not_leaf Dt parent e h i = refl
not_leaf Dd parent e h i = refl
not_leaf Blockquote parent e h i = refl
not_leaf Div parent e h i = refl
not_leaf Td parent e h i = refl
not_leaf Th parent e h i = refl
not_leaf Caption parent e h i = refl
not_leaf InternalItem parent e h i = cc
not_leaf Ul parent e h i = refl
not_leaf Ol parent e h i = refl
not_leaf Dl parent e h i = refl
not_leaf Table parent e h i = refl
not_leaf Thead parent e h i = refl
not_leaf Tbody parent e h i = refl
not_leaf Tfoot parent e h i = refl
not_leaf Tr parent e h i = refl
not_leaf InternalList parent e h i = cc
not_leaf TransBlock parent e h i = cc
not_leaf AlienBlock parent e h i = cc
not_leaf Br parent e h i = opposite (may_hold parent Br) h (no_br parent e)
not_leaf Img parent e h i = opposite (may_hold parent Img) h (no_img parent e)
not_leaf Ref parent e h i = cc
not_leaf TransInline parent e h i = cc
not_leaf AlienInline parent e h i = cc

-- ---- the parents that conversion comes to

-- a parent of blocks, which may hold leaves that are kept whole and, where it is a flow parent,
-- paragraphs
abbrev pub Sane : Around → Type 0
Sane (Content marks) = Unit {0}
Sane (Flow k) = (is_content_branch k ≡ false) × (may_hold k P ≡ true) × (may_hold k TransBlock ≡ true) × (may_hold k AlienBlock ≡ true)
Sane (Structural k) = (is_content_branch k ≡ false) × (may_hold k TransBlock ≡ true) × (may_hold k AlienBlock ≡ true)

sane_in : (k : Kind) → is_element k ≡ true → is_leaf k ≡ false → Sane (around_in k)
sane_in Root e l = cc
sane_in P e l = tt
sane_in H1 e l = tt
sane_in H2 e l = tt
sane_in H3 e l = tt
sane_in H4 e l = tt
sane_in H5 e l = tt
sane_in H6 e l = tt
sane_in Pre e l = tt
sane_in Section e l = (refl, refl, refl, refl)
sane_in Li e l = (refl, refl, refl, refl)
sane_in Dt e l = (refl, refl, refl, refl)
sane_in Dd e l = (refl, refl, refl, refl)
sane_in Blockquote e l = (refl, refl, refl, refl)
sane_in Div e l = (refl, refl, refl, refl)
sane_in Td e l = (refl, refl, refl, refl)
sane_in Th e l = (refl, refl, refl, refl)
sane_in Caption e l = (refl, refl, refl, refl)
sane_in InternalItem e l = cc
sane_in Ul e l = (refl, refl, refl)
sane_in Ol e l = (refl, refl, refl)
sane_in Dl e l = (refl, refl, refl)
sane_in Table e l = (refl, refl, refl)
sane_in Thead e l = (refl, refl, refl)
sane_in Tbody e l = (refl, refl, refl)
sane_in Tfoot e l = (refl, refl, refl)
sane_in Tr e l = (refl, refl, refl)
sane_in InternalList e l = cc
sane_in TransBlock e l = cc
sane_in AlienBlock e l = cc
sane_in Br e l = cc
sane_in Img e l = cc
sane_in Ref e l = cc
sane_in TransInline e l = cc
sane_in AlienInline e l = cc

-- what stands in a branch is its content, or in it
abbrev pub Matches : Kind → Around → Type 0
Matches k (Content marks) = is_content_branch k ≡ true
Matches k (Flow j) = j ≡ k
Matches k (Structural j) = j ≡ k

pub matches : (k : Kind) → Matches k (around_in k)
matches k = by (is_content_branch k) (is_flow k) refl
  where
    by : (c d : Bool) → is_content_branch k ≡ c → Matches k (if c then Content [] else (if d then Flow k else Structural k))
    by true d e = e
    by false true e = refl
    by false false e = refl

-- ---- leaves

-- a leaf stands in a run or in content, or the parent may hold it
abbrev pub Stands : Around → Kind → Bool → Type 0
Stands (Content marks) k inline = Unit {0}
Stands (Flow parent) k true = Unit {0}
Stands (Flow parent) k false = may_hold parent k ≡ true
Stands (Structural parent) k true = ⊥
Stands (Structural parent) k false = may_hold parent k ≡ true

abbrev pub LeafFits : Around → Kind → Type 0
LeafFits around k = (kind_same k InternalList ≡ false) × Stands around k (is_inline_leaf k)

-- in content or in a run
abbrev pub HoldsRuns : Around → Type 0
HoldsRuns (Content marks) = Unit {0}
HoldsRuns (Flow k) = Unit {0}
HoldsRuns (Structural k) = ⊥

pub ref_fits : (around : Around) → HoldsRuns around → LeafFits around Ref
ref_fits (Content marks) h = (refl, tt)
ref_fits (Flow k) h = (refl, tt)
ref_fits (Structural k) h = absurd h

br_fits : (around : Around) → HoldsRuns around → LeafFits around Br
br_fits (Content marks) h = (refl, tt)
br_fits (Flow k) h = (refl, tt)
br_fits (Structural k) h = absurd h

img_fits : (around : Around) → HoldsRuns around → LeafFits around Img
img_fits (Content marks) h = (refl, tt)
img_fits (Flow k) h = (refl, tt)
img_fits (Structural k) h = absurd h

alien_fits : (around : Around) → HoldsRuns around → LeafFits around AlienInline
alien_fits (Content marks) h = (refl, tt)
alien_fits (Flow k) h = (refl, tt)
alien_fits (Structural k) h = absurd h

whole_fits : (around : Around) → Sane around → (generated inline : Bool) → LeafFits around (whole_kind generated (is_inline_at around inline))
whole_fits (Content marks) s true inline = (refl, tt)
whole_fits (Content marks) s false inline = (refl, tt)
whole_fits (Flow k) s true true = (refl, tt)
whole_fits (Flow k) s true false = (refl, s.2)
whole_fits (Flow k) s false true = (refl, tt)
whole_fits (Flow k) s false false = (refl, s.3)
whole_fits (Structural k) s true inline = (refl, s.1)
whole_fits (Structural k) s false inline = (refl, s.2)

pub group_fits : (around : Around) → Sane around → (nodes : Forest) → LeafFits around (group_kind around nodes)
group_fits around s nodes = whole_fits around s (is_generated nodes) (has_inline_tags nodes)

pub note_fits : (around : Around) → Sane around → LeafFits around (note_kind around)
note_fits around s = whole_fits around s false false

-- in a structural parent no group is a reference
pub no_reference : (place : Progress) (k : Kind) (nodes : Forest) → ref_of place (Structural k) nodes ≡ None
no_reference place k Nothing = refl
no_reference place k (Text text rest) = refl
no_reference place k (Remark text rest) = refl
no_reference place k (Void name attrs slash rest) = refl
no_reference place k (RawElement name attrs text rest) = refl
no_reference place k (Element name attrs children Nothing) = refl
no_reference place k (Element name attrs children (Text text rest)) = refl
no_reference place k (Element name attrs children (Remark text rest)) = refl
no_reference place k (Element name attrs children (Void n a slash rest)) = refl
no_reference place k (Element name attrs children (RawElement n a text rest)) = refl
no_reference place k (Element name attrs children (Element n a inner rest)) = refl

-- ---- elements

abbrev pub Held : Around → Kind → Type 0
Held (Content marks) k = Unit {0}
Held (Flow parent) k = may_hold parent k ≡ true
Held (Structural parent) k = may_hold parent k ≡ true

abbrev pub FitStands : Around → Fit → Type 0
FitStands around Annotation = HoldsRuns around
FitStands around (Leaf k) = LeafFits around k
FitStands around (Whole k) = LeafFits around k
FitStands around (Branch k) = (kind_same k InternalList ≡ false) × Held around k × Sane (around_in k)

fit_chosen : (around : Around) (c : Bool) (a b : Fit) → (c ≡ true → FitStands around a) → FitStands around b → FitStands around (if c then a else b)
fit_chosen around true a b f g = f refl
fit_chosen around false a b f g = g

-- each kind that a tag has is an element's
abbrev AllElements : List (List ℕ × Kind) → Type 0
AllElements [] = Unit {0}
AllElements (row ∷ rows) = (is_element row.1 ≡ true) × AllElements rows

tags-AllElements : AllElements tags_of_kinds
tags-AllElements = (refl, (refl, (refl, (refl, (refl, (refl, (refl, (refl, (refl, (refl, (refl, (refl, (refl, (refl, (refl, (refl, (refl, (refl, (refl, (refl, (refl, (refl, (refl, (refl, (refl, (refl, (refl, tt)))))))))))))))))))))))))))

same_kind : (j k : Kind) → ◌≡◌ {A = Option Kind} (Some j) (Some k) → j ≡ k
same_kind j k e = cc

first-element : (c : Bool) (j k : Kind) (later : Option Kind) → is_element j ≡ true → (later ≡ Some k → is_element k ≡ true) → (if c then Some j else later) ≡ Some k → is_element k ≡ true
first-element true j k later a rec e = ap is_element (sym (same_kind j k e)) ∙ a
first-element false j k later a rec e = rec e

among-element : (rows : List (List ℕ × Kind)) → AllElements rows → (name : List ℕ) (k : Kind) → kind_among rows name ≡ Some k → is_element k ≡ true
among-element [] a name k h = cc
among-element (row ∷ rows) a name k h =
    first-element (bytes_eq row.0 name) row.1 k (kind_among rows name) a.0 (λ e. among-element rows a.1 name k e) h

block_fits : (around : Around) (parent : Kind) → LeafFits around AlienBlock → ((k : Kind) → is_element k ≡ true → may_hold parent k ≡ true → FitStands around (Branch k)) →
    (name : List ℕ) (children : Parts) (kind : Option Kind) → kind_of_tag name ≡ kind → FitStands around (fit_in_block parent children kind)
block_fits around parent alien branch name children None e = alien
block_fits around parent alien branch name children (Some k) e =
    fit_chosen around (may_hold parent k && is_convertible k children) (Branch k) (Whole AlienBlock)
    (λ c. branch k (among-element tags_of_kinds tags-AllElements name k e) (and_parts (may_hold parent k) (is_convertible k children) c).0) alien

content_fits : (around : Around) → HoldsRuns around → (name : List ℕ) (children : Parts) (kind : Option Kind) → FitStands around (fit_in_content name children kind)
content_fits around h name children None = fit_chosen around (is_annotation_tag name && has_child children) Annotation (Whole AlienInline) (λ c. h) (alien_fits around h)
content_fits around h name children (Some Root) = fit_chosen around (is_annotation_tag name && has_child children) Annotation (Whole AlienInline) (λ c. h) (alien_fits around h)
content_fits around h name children (Some P) = fit_chosen around (is_annotation_tag name && has_child children) Annotation (Whole AlienInline) (λ c. h) (alien_fits around h)
content_fits around h name children (Some H1) = fit_chosen around (is_annotation_tag name && has_child children) Annotation (Whole AlienInline) (λ c. h) (alien_fits around h)
content_fits around h name children (Some H2) = fit_chosen around (is_annotation_tag name && has_child children) Annotation (Whole AlienInline) (λ c. h) (alien_fits around h)
content_fits around h name children (Some H3) = fit_chosen around (is_annotation_tag name && has_child children) Annotation (Whole AlienInline) (λ c. h) (alien_fits around h)
content_fits around h name children (Some H4) = fit_chosen around (is_annotation_tag name && has_child children) Annotation (Whole AlienInline) (λ c. h) (alien_fits around h)
content_fits around h name children (Some H5) = fit_chosen around (is_annotation_tag name && has_child children) Annotation (Whole AlienInline) (λ c. h) (alien_fits around h)
content_fits around h name children (Some H6) = fit_chosen around (is_annotation_tag name && has_child children) Annotation (Whole AlienInline) (λ c. h) (alien_fits around h)
content_fits around h name children (Some Pre) = fit_chosen around (is_annotation_tag name && has_child children) Annotation (Whole AlienInline) (λ c. h) (alien_fits around h)
content_fits around h name children (Some Section) = fit_chosen around (is_annotation_tag name && has_child children) Annotation (Whole AlienInline) (λ c. h) (alien_fits around h)
content_fits around h name children (Some Li) = fit_chosen around (is_annotation_tag name && has_child children) Annotation (Whole AlienInline) (λ c. h) (alien_fits around h)
content_fits around h name children (Some Dt) = fit_chosen around (is_annotation_tag name && has_child children) Annotation (Whole AlienInline) (λ c. h) (alien_fits around h)
content_fits around h name children (Some Dd) = fit_chosen around (is_annotation_tag name && has_child children) Annotation (Whole AlienInline) (λ c. h) (alien_fits around h)
content_fits around h name children (Some Blockquote) = fit_chosen around (is_annotation_tag name && has_child children) Annotation (Whole AlienInline) (λ c. h) (alien_fits around h)
content_fits around h name children (Some Div) = fit_chosen around (is_annotation_tag name && has_child children) Annotation (Whole AlienInline) (λ c. h) (alien_fits around h)
content_fits around h name children (Some Td) = fit_chosen around (is_annotation_tag name && has_child children) Annotation (Whole AlienInline) (λ c. h) (alien_fits around h)
content_fits around h name children (Some Th) = fit_chosen around (is_annotation_tag name && has_child children) Annotation (Whole AlienInline) (λ c. h) (alien_fits around h)
content_fits around h name children (Some Caption) = fit_chosen around (is_annotation_tag name && has_child children) Annotation (Whole AlienInline) (λ c. h) (alien_fits around h)
content_fits around h name children (Some InternalItem) = fit_chosen around (is_annotation_tag name && has_child children) Annotation (Whole AlienInline) (λ c. h) (alien_fits around h)
content_fits around h name children (Some Ul) = fit_chosen around (is_annotation_tag name && has_child children) Annotation (Whole AlienInline) (λ c. h) (alien_fits around h)
content_fits around h name children (Some Ol) = fit_chosen around (is_annotation_tag name && has_child children) Annotation (Whole AlienInline) (λ c. h) (alien_fits around h)
content_fits around h name children (Some Dl) = fit_chosen around (is_annotation_tag name && has_child children) Annotation (Whole AlienInline) (λ c. h) (alien_fits around h)
content_fits around h name children (Some Table) = fit_chosen around (is_annotation_tag name && has_child children) Annotation (Whole AlienInline) (λ c. h) (alien_fits around h)
content_fits around h name children (Some Thead) = fit_chosen around (is_annotation_tag name && has_child children) Annotation (Whole AlienInline) (λ c. h) (alien_fits around h)
content_fits around h name children (Some Tbody) = fit_chosen around (is_annotation_tag name && has_child children) Annotation (Whole AlienInline) (λ c. h) (alien_fits around h)
content_fits around h name children (Some Tfoot) = fit_chosen around (is_annotation_tag name && has_child children) Annotation (Whole AlienInline) (λ c. h) (alien_fits around h)
content_fits around h name children (Some Tr) = fit_chosen around (is_annotation_tag name && has_child children) Annotation (Whole AlienInline) (λ c. h) (alien_fits around h)
content_fits around h name children (Some InternalList) = fit_chosen around (is_annotation_tag name && has_child children) Annotation (Whole AlienInline) (λ c. h) (alien_fits around h)
content_fits around h name children (Some TransBlock) = fit_chosen around (is_annotation_tag name && has_child children) Annotation (Whole AlienInline) (λ c. h) (alien_fits around h)
content_fits around h name children (Some AlienBlock) = fit_chosen around (is_annotation_tag name && has_child children) Annotation (Whole AlienInline) (λ c. h) (alien_fits around h)
content_fits around h name children (Some Br) = br_fits around h
content_fits around h name children (Some Img) = img_fits around h
content_fits around h name children (Some Ref) = fit_chosen around (is_annotation_tag name && has_child children) Annotation (Whole AlienInline) (λ c. h) (alien_fits around h)
content_fits around h name children (Some TransInline) = fit_chosen around (is_annotation_tag name && has_child children) Annotation (Whole AlienInline) (λ c. h) (alien_fits around h)
content_fits around h name children (Some AlienInline) = fit_chosen around (is_annotation_tag name && has_child children) Annotation (Whole AlienInline) (λ c. h) (alien_fits around h)

pub fit_stands : (around : Around) → Sane around → (name : List ℕ) (children : Parts) → FitStands around (fit_of around name children)
fit_stands (Content marks) s name children = content_fits (Content marks) tt name children (kind_of_tag name)
fit_stands (Flow parent) s name children =
    fit_chosen (Flow parent) (is_inline_tag name) (fit_in_content name children (kind_of_tag name)) (fit_in_block parent children (kind_of_tag name))
    (λ c. content_fits (Flow parent) tt name children (kind_of_tag name))
    (block_fits (Flow parent) parent (refl, s.3) (λ k e h. (element_no_list k e, h, sane_in k e (not_leaf k parent s.0 h e))) name children (kind_of_tag name) refl)
fit_stands (Structural parent) s name children =
    block_fits (Structural parent) parent (refl, s.2) (λ k e h. (element_no_list k e, h, sane_in k e (not_leaf k parent s.0 h e))) name children (kind_of_tag name) refl

-- a kind that a tag has is an element's
pub element_of_tag : (name : List ℕ) (k : Kind) → kind_of_tag name ≡ Some k → is_element k ≡ true
element_of_tag name k e = among-element tags_of_kinds tags-AllElements name k e
