-- The first part as a block, by its fit: a leaf that keeps its source, or a branch.
use Rattle.std.proofs.Common.{◌≡◌, ◌⊎◌, inl, inr, ℕ, zero, suc, ◌+◌, Bool, true, false, not, ◌&&◌, if◌then◌else◌, List, [], ◌∷◌, ◌++◌, Option, Some, None, refl, sym, ap, ◌∙◌, subst}
use Rattle.std.specs.List.{list_any, list_all}
use Rattle.model_spelling.specs.Grammar.{Attr, name_same, is_start}
use Rattle.model_spelling.specs.Forest.{Forest, Nothing, Text, Remark, Void, RawElement, Element, spelling, is_forest}
use Rattle.model_spelling.specs.ForestNodes.{ForestNode, forest_size}
use Rattle.model_spelling.proofs.AttrReading.{and_left}
use Rattle.model_spelling.proofs.Back.{raw_parts}
use Rattle.model_spelling.proofs.ForestLaws.{any_passes, equal_names}
use Rattle.ve_kinds.specs.declared.kind.Kind.{Kind}
use Rattle.ve_kinds.specs.declared.kind.Kind.TheVariants.{AlienBlock, P}
use Rattle.ve_kinds.specs.Table.{is_content_branch, is_inline_leaf, may_hold}
use Rattle.ve_kinds.specs.Tags.{kind_of_tag, is_void, is_raw, void_tags}
use Rattle.ve_kinds.proofs.LawLemmas.{inline_in_content}
use Rattle.model_items.specs.declared.plain_item.PlainItem.{PlainItem}
use Rattle.model_items.specs.declared.plain_item.PlainItem.TheVariants.{Opening, Closing}
use Rattle.model_page.specs.Elements.{is_held, about_of}
use Rattle.model_page.specs.Parts.{Parts, Ended, Words, Note, Group, Single, Parent, with_held, parts_of}
use Rattle.model_page.specs.Fit as model
use Rattle.model_page.specs.Fit.{Around, Flow, Structural, Content, Annotation, Leaf, Branch, Whole, around_in, fit_of, fit_in_block, is_convertible, whole_kind, is_generated, has_inline_tags, note_kind, group_kind}
use Rattle.model_page.specs.Tags.{is_inline_tag}
use Rattle.model_page.specs.Heads.{head_with, whole_head}
use Rattle.model_page.specs.Pieces.{Piece, Owner, Made, Progress, past, source_span, no_piece, node, leaf, before_run}
use Rattle.model_page.specs.ReferenceNodes.{RefNode, ref_of}
use Rattle.model_page.specs.Convert.{element_source, inside_of, leaf_made, group_made, element_made, made_of}
use Rattle.ve_html_tree.specs.declared.node.Node.{Node}
use Rattle.ve_classify.specs.Standing.{Stands}
use Rattle.ve_classify.specs.Fits.{first_fit, same_fit, element_fit, group_fit}
use Rattle.ve_classify.specs.declared.around.Fit.{Fit}
use Rattle.ve_classify.specs.declared.around.Fit.TheVariants as fits
use Rattle.ve_classify.proofs.FirstFits.{raw_is}
use Rattle.ve_classify.proofs.GroupLemmas.{FirstElement, begun, void_first, raw_first, element_first}
use Rattle.ve_classify.specs.FirstPart.{first_source}
use Rattle.ve_classify.specs.Siblings.{siblings, first_block}
use Rattle.ve_classify.specs.Marked.{element_marked, first_marked}
use Rattle.ve_classify.proofs.BlockLemmas.{blocks_split}
use Rattle.ve_read.specs.Places.{holds_blocks}
use Rattle.ve_read.proofs.BlockTurns.{IsBlockOf}

-- ---- the fit of an element

not_true : (b : Bool) → not b ≡ true → b ≡ false
not_true true e = absurd cc
not_true false e = refl

abbrev IsBlockFit : model.Fit → Type 0
IsBlockFit f = ((k : Kind) × (f ≡ Branch k)) ⊎ (f ≡ Whole AlienBlock)

chosen_fit : (b : Bool) (k : Kind) → IsBlockFit (if b then Branch k else Whole AlienBlock)
chosen_fit true k = inl (k, refl)
chosen_fit false k = inr refl

in_block : (parent : Kind) (children : Parts) (kind : Option Kind) → IsBlockFit (fit_in_block parent children kind)
in_block parent children None = inr refl
in_block parent children (Some k) = chosen_fit (may_hold parent k && is_convertible k children) k

-- an element of the name is a block in the parent
abbrev names_block : Around → List ℕ → Bool
names_block (Flow kind) name = not (is_inline_tag name)
names_block (Structural kind) name = true
names_block (Content marks) name = false

single_names : (around : Around) (name : List ℕ) (attrs : List Attr) (source : List ℕ) (rest : Parts) → first_block around (Single name attrs source rest) ≡ true → names_block around name ≡ true
single_names (Flow kind) name attrs source rest e = e
single_names (Structural kind) name attrs source rest e = e
single_names (Content marks) name attrs source rest e = e

parent_names : (around : Around) (name : List ℕ) (attrs : List Attr) (children rest : Parts) → first_block around (Parent name attrs children rest) ≡ true → names_block around name ≡ true
parent_names (Flow kind) name attrs children rest e = e
parent_names (Structural kind) name attrs children rest e = e
parent_names (Content marks) name attrs children rest e = e

-- the kind of the parent
abbrev parent_kind : Around → Kind
parent_kind (Flow kind) = kind
parent_kind (Structural kind) = kind
parent_kind (Content marks) = P

fit_is : (around : Around) (name : List ℕ) (children : Parts) → names_block around name ≡ true → fit_of around name children ≡ fit_in_block (parent_kind around) children (kind_of_tag name)
fit_is (Flow kind) name children e = rw (not_true (is_inline_tag name) e) refl
fit_is (Structural kind) name children e = refl
fit_is (Content marks) name children e = absurd cc

shown_fit : (around : Around) (name : List ℕ) (children : Parts) → names_block around name ≡ true → element_fit around name children ≡ same_fit (fit_of around name children)
shown_fit (Flow kind) name children e = rw (not_true (is_inline_tag name) e) refl
shown_fit (Structural kind) name children e = refl
shown_fit (Content marks) name children e = absurd cc

element_is : (around : Around) (name : List ℕ) (children : Parts) → names_block around name ≡ true → IsBlockFit (fit_of around name children)
element_is around name children e = subst IsBlockFit (sym (fit_is around name children e)) (in_block (parent_kind around) children (kind_of_tag name))

-- ---- leaves

abbrev is_parent : Around → Bool
is_parent (Flow kind) = true
is_parent (Structural kind) = true
is_parent (Content marks) = false

names_parent : (around : Around) (name : List ℕ) → names_block around name ≡ true → is_parent around ≡ true
names_parent (Flow kind) name e = refl
names_parent (Structural kind) name e = refl
names_parent (Content marks) name e = absurd cc

whole_is : (around : Around) (attrs : List Attr) (source : List ℕ) (w : Progress) (k : Kind) (later : Progress → Made) → is_parent around ≡ true → is_inline_leaf k ≡ false
    → leaf_made around attrs source later w (Whole k) ≡ before_run (past w source []) (leaf k (whole_head source) [] (source_span w source)) [] (later (past w source []))
whole_is (Flow kind) attrs source w k later e i = rw i refl
whole_is (Structural kind) attrs source w k later e i = rw i refl
whole_is (Content marks) attrs source w k later e i = absurd cc

-- an element that has no children but the fit of a branch is a leaf, too
branch_leaf : (around : Around) (attrs : List Attr) (source : List ℕ) (w : Progress) (k : Kind) (later : Progress → Made) → is_parent around ≡ true
    → leaf_made around attrs source later w (Branch k) ≡ before_run (past w source []) (leaf AlienBlock (whole_head source) [] (source_span w source)) [] (later (past w source []))
branch_leaf (Flow kind) attrs source w k later e = refl
branch_leaf (Structural kind) attrs source w k later e = refl
branch_leaf (Content marks) attrs source w k later e = absurd cc

-- the first part is a leaf of the kind
abbrev IsLeafOf : Around → Parts → Progress → Kind → Type 0
IsLeafOf around parts w k = IsBlockOf around parts w (leaf k (whole_head (first_source parts)) [] (source_span w (first_source parts))) []

-- ---- groups

-- the kind of a group that is a block
group_block : (around : Around) (nodes : Forest) (rest : Parts) → first_block around (Group nodes rest) ≡ true → (is_parent around ≡ true) × (group_kind around nodes ≡ whole_kind (is_generated nodes) false) × (group_fit around nodes ≡ fits.Whole (group_kind around nodes))
group_block (Flow kind) nodes rest e = let no = not_true (has_inline_tags nodes) e in (refl, rw no refl, rw no refl)
group_block (Structural kind) nodes rest e = (refl, refl, refl)
group_block (Content marks) nodes rest e = absurd cc

block_kind : (generated : Bool) → is_inline_leaf (whole_kind generated false) ≡ false
block_kind true = refl
block_kind false = refl

group_none : (around : Around) (nodes : Forest) (w : Progress) (later : Progress → Made) → is_parent around ≡ true → is_inline_leaf (group_kind around nodes) ≡ false
    → group_made around nodes later w None ≡ before_run (past w (spelling nodes) []) (leaf (group_kind around nodes) (whole_head (spelling nodes)) [] (source_span w (spelling nodes))) [] (later (past w (spelling nodes) []))
group_none (Flow kind) nodes w later e i = rw i refl
group_none (Structural kind) nodes w later e i = rw i refl
group_none (Content marks) nodes w later e i = absurd cc

no_items : {A : Type 0} (x : A) (xs : List A) → x ∷ xs ≡ [] → ⊥
no_items x xs e = cc

-- a reference isn't a block
group_by : (around : Around) (nodes : Forest) (rest : Parts) (w : Progress) (ref : Option RefNode) → ref_of w around nodes ≡ ref → first_block around (Group nodes rest) ≡ true → IsLeafOf around (Group nodes rest) w (group_kind around nodes)
group_by around nodes rest w None is e = λ later.
    let g = group_block around nodes rest e in
    ap (group_made around nodes later w) is ∙ group_none around nodes w later g.0 (ap is_inline_leaf g.1 ∙ block_kind (is_generated nodes))
group_by around nodes rest w (Some reference) is e =
    let b = (blocks_split around (Group nodes rest) w e).0 in
    let none : Made = record { run = no_piece; source = []; later = no_piece; pre = []; owners = [] } in
    let made = sym (ap (group_made around nodes (λ _. none) w) is) ∙ b.is (λ _. none) in
    absurd (no_items _ _ (ap (λ (m : Made). m.run.items) made))

group_leaf : (around : Around) (nodes : Forest) (rest : Parts) (w : Progress) → first_block around (Group nodes rest) ≡ true → IsLeafOf around (Group nodes rest) w (group_kind around nodes)
group_leaf around nodes rest w e = group_by around nodes rest w (ref_of w around nodes) refl e

-- ---- a block, whatever it is

-- The first part as a block: its piece has an item.
pub record BlockOf (around : Around) (parts : Parts) (w : Progress) : Type 0 where
  pub piece : Piece
  pub owners : List Owner
  pub item : PlainItem
  pub items : List PlainItem
  pub some : piece.items ≡ item ∷ items
  pub is : IsBlockOf around parts w piece owners

leaf_block : (around : Around) (parts : Parts) (w : Progress) (k : Kind) → IsLeafOf around parts w k → BlockOf around parts w
leaf_block around parts w k is = record {
  piece = leaf k (whole_head (first_source parts)) [] (source_span w (first_source parts));
  owners = [];
  item = Opening k (whole_head (first_source parts)) [] [] None false;
  items = Closing k [] ∷ [];
  some = refl;
  is = is;
}

note_leaf : (around : Around) (text : List ℕ) (rest : Parts) (w : Progress) → first_block around (Note text rest) ≡ true → IsLeafOf around (Note text rest) w (note_kind around)
note_leaf (Flow kind) text rest w e = λ later. refl
note_leaf (Structural kind) text rest w e = λ later. refl
note_leaf (Content marks) text rest w e = absurd cc

single_leaf : (around : Around) (name : List ℕ) (attrs : List Attr) (source : List ℕ) (rest : Parts) (w : Progress) → names_block around name ≡ true → IsBlockFit (fit_of around name Ended)
    → IsLeafOf around (Single name attrs source rest) w AlienBlock
single_leaf around name attrs source rest w e (inl branch) = λ later. ap (leaf_made around attrs source later w) branch.1 ∙ branch_leaf around attrs source w branch.0 later (names_parent around name e)
single_leaf around name attrs source rest w e (inr whole) = λ later. ap (leaf_made around attrs source later w) whole ∙ whole_is around attrs source w AlienBlock later (names_parent around name e) refl

whole_leaf : (around : Around) (name : List ℕ) (attrs : List Attr) (children rest : Parts) (w : Progress) (k : Kind) → names_block around name ≡ true → is_inline_leaf k ≡ false → fit_of around name children ≡ Whole k
    → IsLeafOf around (Parent name attrs children rest) w k
whole_leaf around name attrs children rest w k e i whole = λ later.
    ap (element_made around name attrs (element_source name attrs children) (λ a. made_of a children) later w) whole
    ∙ whole_is around attrs (element_source name attrs children) w k later (names_parent around name e) i

-- a branch and what stands in it
abbrev pub branch_piece : List ℕ → List Attr → Parts → Kind → Progress → Piece
branch_piece name attrs children kind w =
    let inside = siblings (around_in kind) children (inside_of w name attrs) in
    node kind (head_with attrs) [] false (source_span w (element_source name attrs children)) inside.later inside.pre

pub branch_is : (around : Around) (name : List ℕ) (attrs : List Attr) (children rest : Parts) (w : Progress) (kind : Kind) → fit_of around name children ≡ Branch kind
    → IsBlockOf around (Parent name attrs children rest) w (branch_piece name attrs children kind w) (siblings (around_in kind) children (inside_of w name attrs)).owners
branch_is around name attrs children rest w kind e = λ later. ap (element_made around name attrs (element_source name attrs children) (λ a. made_of a children) later w) e

parent_block : (around : Around) (name : List ℕ) (attrs : List Attr) (children rest : Parts) (w : Progress) → names_block around name ≡ true → IsBlockFit (fit_of around name children) → BlockOf around (Parent name attrs children rest) w
parent_block around name attrs children rest w e (inl branch) =
    let inside = siblings (around_in branch.0) children (inside_of w name attrs) in
    record {
      piece = branch_piece name attrs children branch.0 w;
      owners = inside.owners;
      item = Opening branch.0 (head_with attrs) [] [] None false;
      items = inside.later.items ++ Closing branch.0 inside.pre ∷ [];
      some = refl;
      is = branch_is around name attrs children rest w branch.0 branch.1;
    }
parent_block around name attrs children rest w e (inr whole) = leaf_block around (Parent name attrs children rest) w AlienBlock (whole_leaf around name attrs children rest w AlienBlock e refl whole)

pub block_of : (around : Around) (parts : Parts) (w : Progress) → first_block around parts ≡ true → BlockOf around parts w
block_of around Ended w e = absurd cc
block_of around (Words text rest) w e = absurd cc
block_of around (Note text rest) w e = leaf_block around (Note text rest) w (note_kind around) (note_leaf around text rest w e)
block_of around (Group nodes rest) w e = leaf_block around (Group nodes rest) w (group_kind around nodes) (group_leaf around nodes rest w e)
block_of around (Single name attrs source rest) w e =
    let named = single_names around name attrs source rest e in
    leaf_block around (Single name attrs source rest) w AlienBlock (single_leaf around name attrs source rest w named (element_is around name Ended named))
block_of around (Parent name attrs children rest) w e =
    let named = parent_names around name attrs children rest e in
    parent_block around name attrs children rest w named (element_is around name children named)

-- ---- by the fit that the code finds

whole_same : (j k : Kind) → fits.Whole k ≡ fits.Whole j → k ≡ j
whole_same j k e = cc

whole_fit : (f : model.Fit) (k : Kind) → fits.Whole k ≡ same_fit f → f ≡ Whole k
whole_fit Annotation k e = absurd cc
whole_fit (Leaf j) k e = absurd cc
whole_fit (Branch j) k e = absurd cc
whole_fit (Whole j) k e = cc

alien_only : (f : model.Fit) (k : Kind) → f ≡ Whole k → IsBlockFit f → k ≡ AlienBlock
alien_only f k e (inl branch) = let none : Whole k ≡ Branch branch.0 = sym e ∙ branch.1 in absurd cc
alien_only f k e (inr whole) = let same : Whole k ≡ Whole AlienBlock = sym e ∙ whole in cc

pub leaf_is : (around : Around) (parts : Parts) (w : Progress) (k : Kind) → first_block around parts ≡ true → fits.Whole k ≡ first_fit around parts → IsLeafOf around parts w k
leaf_is around Ended w k e f = absurd cc
leaf_is around (Words text rest) w k e f = absurd cc
leaf_is around (Note text rest) w k e f = subst (IsLeafOf around (Note text rest) w) (sym (whole_same (note_kind around) k f)) (note_leaf around text rest w e)
leaf_is around (Group nodes rest) w k e f =
    let g = group_block around nodes rest e in
    subst (IsLeafOf around (Group nodes rest) w) (sym (whole_same (group_kind around nodes) k (f ∙ g.2))) (group_leaf around nodes rest w e)
leaf_is around (Single name attrs source rest) w k e f =
    let named = single_names around name attrs source rest e in
    let is = element_is around name Ended named in
    let whole = whole_fit (fit_of around name Ended) k (f ∙ shown_fit around name Ended named) in
    subst (IsLeafOf around (Single name attrs source rest) w) (sym (alien_only (fit_of around name Ended) k whole is)) (single_leaf around name attrs source rest w named is)
leaf_is around (Parent name attrs children rest) w k e f =
    let named = parent_names around name attrs children rest e in
    let is = element_is around name children named in
    let whole = whole_fit (fit_of around name children) k (f ∙ shown_fit around name children named) in
    let alien = alien_only (fit_of around name children) k whole is in
    whole_leaf around name attrs children rest w k named (ap is_inline_leaf alien) whole

-- no annotation is in it
pub leaf_unmarked : (around : Around) (parts : Parts) (at : ℕ) (k : Kind) → first_block around parts ≡ true → fits.Whole k ≡ first_fit around parts → first_marked around parts at ≡ None
leaf_unmarked around Ended at k e f = refl
leaf_unmarked around (Words text rest) at k e f = refl
leaf_unmarked around (Note text rest) at k e f = refl
leaf_unmarked around (Group nodes rest) at k e f = refl
leaf_unmarked around (Single name attrs source rest) at k e f = refl
leaf_unmarked around (Parent name attrs children rest) at k e f =
    ap (element_marked around name attrs children at) (whole_fit (fit_of around name children) k (f ∙ shown_fit around name children (parent_names around name attrs children rest e)))

-- what a block may be
abbrev pub is_block_fit : Fit → Bool
is_block_fit fits.White = false
is_block_fit fits.Chars = false
is_block_fit fits.Annotation = false
is_block_fit (fits.Leaf k) = false
is_block_fit (fits.Branch k) = true
is_block_fit (fits.Whole k) = true
is_block_fit fits.Inline = false

-- a block that is no branch is kept whole
pub whole_else : (f : Fit) → is_block_fit f ≡ true → ((k : Kind) → f ≡ fits.Branch k → ⊥) → ((k : Kind) → f ≡ fits.Whole k → ⊥) → ⊥
whole_else fits.White e branch whole = absurd cc
whole_else fits.Chars e branch whole = absurd cc
whole_else fits.Annotation e branch whole = absurd cc
whole_else (fits.Leaf k) e branch whole = absurd cc
whole_else (fits.Branch k) e branch whole = branch k refl
whole_else (fits.Whole k) e branch whole = whole k refl
whole_else fits.Inline e branch whole = absurd cc

element_fits : (f : model.Fit) → IsBlockFit f → is_block_fit (same_fit f) ≡ true
element_fits f (inl branch) = ap (λ x. is_block_fit (same_fit x)) branch.1
element_fits f (inr whole) = ap (λ x. is_block_fit (same_fit x)) whole

pub block_fits : (around : Around) (parts : Parts) → first_block around parts ≡ true → is_block_fit (first_fit around parts) ≡ true
block_fits around Ended e = absurd cc
block_fits around (Words text rest) e = absurd cc
block_fits around (Note text rest) e = refl
block_fits around (Group nodes rest) e = ap is_block_fit (group_block around nodes rest e).2
block_fits around (Single name attrs source rest) e =
    let named = single_names around name attrs source rest e in
    ap is_block_fit (shown_fit around name Ended named) ∙ element_fits (fit_of around name Ended) (element_is around name Ended named)
block_fits around (Parent name attrs children rest) e =
    let named = parent_names around name attrs children rest e in
    ap is_block_fit (shown_fit around name children named) ∙ element_fits (fit_of around name children) (element_is around name children named)

-- ---- branches

branch_fit : (f : model.Fit) (k : Kind) → fits.Branch k ≡ same_fit f → f ≡ Branch k
branch_fit Annotation k e = absurd cc
branch_fit (Leaf j) k e = absurd cc
branch_fit (Branch j) k e = cc
branch_fit (Whole j) k e = absurd cc

-- the kind of an element that has no children, if it has one, is that of a leaf
abbrev plain_kind : Option Kind → Bool
plain_kind None = true
plain_kind (Some k) = is_inline_leaf k

void_one_of : (name : List ℕ) → is_void name ≡ true → list_any (λ r. name_same r name) void_tags ≡ true
unfolding is_void name_same
void_one_of name e = e

void_names : list_all (λ r. plain_kind (kind_of_tag r)) void_tags ≡ true
void_names = refl

void_plain : (name : List ℕ) → is_void name ≡ true → plain_kind (kind_of_tag name) ≡ true
void_plain name e =
    let found = any_passes (λ r. name_same r name) (λ r. plain_kind (kind_of_tag r)) void_tags (void_one_of name e) void_names in
    subst (λ r. plain_kind (kind_of_tag r) ≡ true) (equal_names found.0 name found.1) found.2

raw_plain : (name : List ℕ) → is_raw name ≡ true → plain_kind (kind_of_tag name) ≡ true
raw_plain name e = ap plain_kind (raw_is name e).kind

allowed_void : (room : ℕ) (name : List ℕ) (attrs : List Attr) (slash : Bool) (rest : Forest) → is_forest room (Void name attrs slash rest) ≡ true → is_void name ≡ true
allowed_void zero name attrs slash rest e = absurd cc
allowed_void (suc room) name attrs slash rest e = and_left (is_void name) (is_start name attrs slash) (and_left (is_void name && is_start name attrs slash) (is_forest (suc room) rest) e)

allowed_raw : (room : ℕ) (name : List ℕ) (attrs : List Attr) (text : List ℕ) (rest : Forest) → is_forest room (RawElement name attrs text rest) ≡ true → is_raw name ≡ true
allowed_raw zero name attrs text rest e = absurd cc
allowed_raw (suc room) name attrs text rest e = (raw_parts room name attrs text rest e).raw

-- a part that is no group begins with this element
single_by : (held : Bool) (about : Option (List ℕ)) (element : Forest → Forest) (n : ℕ) → FirstElement element about n → (after other : Parts) (name : List ℕ) (attrs : List Attr) (source : List ℕ) (rest : Parts)
    → (if held then with_held about element after else other) ≡ Single name attrs source rest → other ≡ Single name attrs source rest
single_by true about element n first after other name attrs source rest e =
    let b = begun about element n first after in
    let g : Group b.nodes b.later ≡ Single name attrs source rest = sym b.is ∙ e in
    absurd cc
single_by false about element n first after other name attrs source rest e = e

single_plain : (room : ℕ) (f : Forest) (name : List ℕ) (attrs : List Attr) (source : List ℕ) (rest : Parts) → is_forest room f ≡ true → parts_of f ≡ Single name attrs source rest → plain_kind (kind_of_tag name) ≡ true
single_plain room Nothing name attrs source rest allowed e = absurd cc
single_plain room (Text t later) name attrs source rest allowed e = absurd cc
single_plain room (Remark t later) name attrs source rest allowed e = absurd cc
single_plain room (Void m a s later) name attrs source rest allowed e =
    let o : Single m a _ (parts_of later) ≡ Single name attrs source rest = single_by (is_held a) (about_of a) (Void m a s) 1 (void_first m a s) (parts_of later) _ name attrs source rest e in
    let same : m ≡ name = cc in
    ap (λ x. plain_kind (kind_of_tag x)) (sym same) ∙ void_plain m (allowed_void room m a s later allowed)
single_plain room (RawElement m a t later) name attrs source rest allowed e =
    let o : Single m a _ (parts_of later) ≡ Single name attrs source rest = single_by (is_held a) (about_of a) (RawElement m a t) (forest_size (RawElement m a t Nothing)) (raw_first m a t) (parts_of later) _ name attrs source rest e in
    let same : m ≡ name = cc in
    ap (λ x. plain_kind (kind_of_tag x)) (sym same) ∙ raw_plain m (allowed_raw room m a t later allowed)
single_plain room (Element m a kids later) name attrs source rest allowed e =
    let o = single_by (is_held a) (about_of a) (Element m a kids) (1 + forest_size kids) (element_first m a kids) (parts_of later) _ name attrs source rest e in absurd cc

not_content : (around : Around) → holds_blocks around ≡ true → is_content_branch (parent_kind around) ≡ false
not_content (Flow kind) e = not_true (is_content_branch kind) e
not_content (Structural kind) e = not_true (is_content_branch kind) e
not_content (Content marks) e = absurd cc

no_branch : (parent : Kind) (kind : Option Kind) (k : Kind) → plain_kind kind ≡ true → is_content_branch parent ≡ false → fit_in_block parent Ended kind ≡ Branch k → ⊥
no_branch parent None k p c e = cc
no_branch parent (Some j) k p c e =
    let held : may_hold parent j ≡ false = inline_in_content parent j p ∙ c in
    let none : Whole AlienBlock ≡ Branch k = sym (rw held refl) ∙ e in
    cc

-- An element that is a branch.
pub record BranchPart (around : Around) (parts : Parts) (kind : Kind) : Type 0 where
  pub name : List ℕ
  pub attrs : List Attr
  pub children : Parts
  pub rest : Parts
  pub is : parts ≡ Parent name attrs children rest
  pub fit : fit_of around name children ≡ Branch kind

branch_by : (around : Around) (parts : Parts) (kind : Kind) → ((name : List ℕ) (attrs : List Attr) (source : List ℕ) (rest : Parts) → parts ≡ Single name attrs source rest → plain_kind (kind_of_tag name) ≡ true)
    → holds_blocks around ≡ true → first_block around parts ≡ true → fits.Branch kind ≡ first_fit around parts → BranchPart around parts kind
branch_by around Ended kind plain h e f = absurd cc
branch_by around (Words text rest) kind plain h e f = absurd cc
branch_by around (Note text rest) kind plain h e f = absurd cc
branch_by around (Group nodes rest) kind plain h e f = let none : fits.Branch kind ≡ fits.Whole (group_kind around nodes) = f ∙ (group_block around nodes rest e).2 in absurd cc
branch_by around (Single name attrs source rest) kind plain h e f =
    let named = single_names around name attrs source rest e in
    let branch = branch_fit (fit_of around name Ended) kind (f ∙ shown_fit around name Ended named) in
    absurd (no_branch (parent_kind around) (kind_of_tag name) kind (plain name attrs source rest refl) (not_content around h) (sym (fit_is around name Ended named) ∙ branch))
branch_by around (Parent name attrs children rest) kind plain h e f =
    let named = parent_names around name attrs children rest e in
    record { name = name; attrs = attrs; children = children; rest = rest; is = refl; fit = branch_fit (fit_of around name children) kind (f ∙ shown_fit around name children named) }

pub branch_part : (nodes : List Node) (n at : ℕ) (f : Forest) (more : List ForestNode) (around : Around) (kind : Kind) → Stands nodes n at f more → holds_blocks around ≡ true → first_block around (parts_of f) ≡ true
    → fits.Branch kind ≡ first_fit around (parts_of f) → BranchPart around (parts_of f) kind
branch_part nodes n at f more around kind s h e fit = branch_by around (parts_of f) kind (λ name attrs source rest is. single_plain s.room f name attrs source rest s.allowed is) h e fit
