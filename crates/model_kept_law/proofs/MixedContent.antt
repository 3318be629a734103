-- Content of leaves br and img and of leaves that are kept whole.
use Rattle.std.proofs.Common.{◌≡◌, ℕ, Bool, true, false, not, ◌&&◌, ◌||◌, if◌then◌else◌, List, [], ◌∷◌, ◌++◌, map, Option, Some, None, refl, sym, ap, ◌∙◌, subst, append-nil, ◌⊎◌, inl, inr}
use Rattle.std.proofs.lemmas.Bool.{cases_Bool}
use Rattle.std.specs.Prelude.{encode_utf8_all, unwrap_or, is_some}
use Rattle.std.specs.Char.{IsScalar}
use denote.Enum.Bare.{same_true}
use Rattle.model_spelling.specs.Grammar.{Attr as Spelled, Comment, token_text, start_text}
use Rattle.model_spelling.specs.Forest.{Forest, Nothing, Void, spelling}
use Rattle.model_spelling.proofs.Proved.{law_reads_right}
use Rattle.ve_kinds.specs.contracts.kind.Kind.{the_type}
use Rattle.ve_kinds.specs.declared.kind.Kind.{Kind}
use Rattle.ve_kinds.specs.declared.kind.Kind.TheVariants.{TransBlock, AlienBlock, TransInline, AlienInline}
use Rattle.ve_kinds.specs.Table.{kind_same, is_among, is_content_branch, is_flow, is_leaf, is_inline_leaf, structural_kinds}
use Rattle.ve_base.specs.declared.head.Head.{Head}
use Rattle.ve_base.specs.declared.marks.Mark.{Mark}
use Rattle.model_items.specs.declared.plain_item.PlainItem.TheVariants.{Char, Opening, Closing}
use Rattle.model_page.specs.Elements.{about_of, is_held}
use Rattle.model_page.specs.Tags.{tag_of}
use Rattle.model_page.specs.Parts.{Parts, Ended, Words, Note, Group, Single, Parent, about_in, is_shared, parts_of}
use Rattle.model_page.specs.Fit.{Around, Flow, Structural, Content, Fit, Annotation, Leaf, Branch, Whole, around_in, has_blocks_alone, fit_of, whole_kind, is_generated}
use Rattle.model_page.specs.Fragment.{item_unmade}
use Rattle.model_page.specs.Heads.{head_with, whole_head}
use Rattle.model_page.specs.Pieces.{Owner, Made, Progress, past, source_span, leaf, in_run, before_run, leaf_before}
use Rattle.model_page.specs.ReferenceNodes.{RefNode, ref_of}
use Rattle.model_page.specs.Convert.{marked_around, element_source, inside_of, inside_piece, group_made, leaf_made, element_made, made_of}
use Rattle.model_page_write.specs.Nodes.{Start, Nodes, Empty, Letter, Node, node_items}
use Rattle.model_page_write.specs.Written.{Writer, leaf_text, content, blocks}
use Rattle.model_page_law.specs.Formed.{ArePlainMarks}
use Rattle.model_page_law.proofs.FormedNodes.{MarksMean, IsLeaf, IsContent}
use Rattle.model_page_law.proofs.OneLemmas.{spelled-Neat}
use Rattle.model_page_law.proofs.EscapeLemmas.{pick_true}
use Rattle.model_page_law.proofs.TagLemmas.{BranchTag, leaf_kind}
use Rattle.model_page_law.proofs.ContentLemmas.{content_items, parts_if_false}
use Rattle.model_page_law.proofs.NodesRead.{said_items}
use Rattle.model_kept_law.specs.Readable.{is_whole_leaf, is_one_part, leaf_forest, shares_about, holds_whole, IsWholeLeaf}
use Rattle.model_kept_law.proofs.FitFacts.{FitFacts, fit_facts}
use Rattle.model_kept_law.proofs.ApartParts.{Apart}
use Rattle.model_kept_law.proofs.Unreferred.{unreferred_apart}
use Rattle.model_kept_law.proofs.JoinedParts.{joined, Clear, one_clear}
use Rattle.model_kept_law.proofs.LeafParts.{ContentPart, content_part}
use Rattle.model_kept_law.proofs.OwnContent.{LeavesKnown, tagged}
use Rattle.model_kept_law.proofs.WholeContent.{Sourced, IsSourced, ContentRead, content_read}
use Rattle.model_kept_law.proofs.KeptBlocks.{Inner, content-unmade}

-- ---- kinds of leaves that are kept whole

pub whole_leaf : (A : Kind → Type 0) (k : Kind) → is_whole_leaf k ≡ true → A TransBlock → A AlienBlock → A TransInline → A AlienInline → A k
whole_leaf A k h a b c d = elim (cases_Bool (kind_same TransBlock k)) [
  | inl e ↦ subst A (same_true the_type tt TransBlock k e) a
  | inr e ↦ elim (cases_Bool (kind_same AlienBlock k)) [
    | inl f ↦ subst A (same_true the_type tt AlienBlock k f) b
    | inr f ↦ elim (cases_Bool (kind_same TransInline k)) [
      | inl g ↦ subst A (same_true the_type tt TransInline k g) c
      | inr g ↦ subst A (same_true the_type tt AlienInline k (last (kind_same TransBlock k) (kind_same AlienBlock k) (kind_same TransInline k) (kind_same AlienInline k) e f g h)) d
    ]
  ]
]
  where
    last : (w x y z : Bool) → w ≡ false → x ≡ false → y ≡ false → (w || (x || (y || (z || false)))) ≡ true → z ≡ true
    last w x y true e f g h = refl
    last true x y false e f g h = cc
    last false true y false e f g h = cc
    last false false true false e f g h = cc
    last false false false false e f g h = cc

pub whole_is_leaf : (k : Kind) → is_whole_leaf k ≡ true → is_leaf k ≡ true
whole_is_leaf k h = whole_leaf (λ j. is_leaf j ≡ true) k h refl refl refl refl

whole_text : (w : Writer) (s : Start) → is_whole_leaf s.kind ≡ true → leaf_text w s s.kind ≡ encode_utf8_all s.head.raw
whole_text w s h = whole_leaf (λ j. leaf_text w s j ≡ encode_utf8_all s.head.raw) s.kind h refl refl refl refl

-- ---- content

-- inside of a parent of this kind
abbrev pub IsMixed : Writer → Kind → Nodes → Type 0
IsMixed w parent Empty = Unit {0}
IsMixed w parent (Letter c marks later) = IsScalar c × ArePlainMarks marks × IsMixed w parent later
IsMixed w parent (Node s inside pre later) =
    ((IsLeaf s inside pre × ArePlainMarks s.marks) ⊎ ((inside ≡ Empty) × (is_inline_leaf s.kind ≡ true) × IsWholeLeaf w parent s inside pre later)) × IsMixed w parent later

or_left : (a b : Bool) → (a || b) ≡ false → a ≡ false
or_left true b e = cc
or_left false b e = refl

or_right : (a b : Bool) → (a || b) ≡ false → b ≡ false
or_right true b e = cc
or_right false b e = e

opposite : (b : Bool) → b ≡ true → b ≡ false → ⊥
opposite b e f = cc

-- without a leaf that is kept whole it is of the form
pub mixed_plain : (w : Writer) (parent : Kind) (n : Nodes) → IsMixed w parent n → holds_whole n ≡ false → IsContent n
mixed_plain w parent Empty m e = tt
mixed_plain w parent (Letter c marks later) m e = (m.0, m.1, mixed_plain w parent later m.2 e)
mixed_plain w parent (Node s inside pre later) m e = elim m.0 [
  | inl l ↦ (l.0, l.1, mixed_plain w parent later m.1 (or_right (is_whole_leaf s.kind) (holds_whole later) e))
  | inr l ↦ absurd (opposite (is_whole_leaf s.kind) l.2.leaf (or_left (is_whole_leaf s.kind) (holds_whole later) e))
]

-- it is read as it is said
pub mixed_said : (w : Writer) (parent : Kind) (n : Nodes) → IsMixed w parent n → content_items n ≡ said_items n
mixed_said w parent Empty m = refl
mixed_said w parent (Letter c marks later) m = ap (λ xs. Char c marks ∷ xs) (mixed_said w parent later m.2)
mixed_said w parent (Node s inside pre later) m = elim m.0 [
  | inl l ↦ by l.0.before l.0.alone l.0.closing (mixed_said w parent later m.1)
  | inr l ↦ by (l.2.inline l.1).1 l.0 l.2.closing (mixed_said w parent later m.1)
]
  where
    by : s.pre ≡ [] → inside ≡ Empty → pre ≡ [] → content_items later ≡ said_items later → content_items (Node s inside pre later) ≡ said_items (Node s inside pre later)
    by a b c e = (λ i. Opening s.kind s.head s.marks (sym a i) None false ∷ said_items (sym b i) ++ Closing s.kind (sym c i) ∷ e i)

-- ---- the source of a leaf br or img

clear_none : (f : Forest) → ((n : Forest) → shares_about f n ≡ false) → (q : Parts) → Clear f q
clear_none f h Ended = tt
clear_none f h (Words t Ended) = tt
clear_none f h (Words t (Words u later)) = tt
clear_none f h (Words t (Note u later)) = tt
clear_none f h (Words t (Group nodes later)) = and_false _ _ (h nodes)
  where
    and_false : (a b : Bool) → b ≡ false → (a && b) ≡ false
    and_false true b e = e
    and_false false b e = refl
clear_none f h (Words t (Single name attrs source later)) = tt
clear_none f h (Words t (Parent name attrs children later)) = tt
clear_none f h (Note t later) = tt
clear_none f h (Group nodes later) = h nodes
clear_none f h (Single name attrs source later) = tt
clear_none f h (Parent name attrs children later) = tt

no_about : (a b : Option (List ℕ)) → is_some a ≡ false → (is_shared a b || false) ≡ false
no_about None b e = refl
no_about (Some x) b e = cc

small_sourced : (w : Writer) → LeavesKnown w → (s : Start) (inside : Nodes) (pre : List ℕ) (later : Nodes) → IsLeaf s inside pre → Sourced s inside pre later (unwrap_or (w.original s (node_items s inside pre)) (leaf_text w s s.kind))
small_sourced w known s inside pre later l =
    let t = leaf_kind s.kind l.kind in
    let own = tagged w known s inside pre l (t.text w s) (w.original s (node_items s inside pre)) refl in
    let attrs : List Spelled = own.tag.attrs in
    let part : List ℕ = start_text (tag_of s.kind) attrs own.tag.slash in
    let f : Forest = Void (tag_of s.kind) attrs own.tag.slash Nothing in
    let parts_are : parts_of f ≡ Single (tag_of s.kind) attrs part Ended = parts_if_false (is_held attrs) _ (Single (tag_of s.kind) attrs part Ended) own.own.free in
    let single : ContentPart (Single (tag_of s.kind) attrs part Ended) s.kind s.head = record {
      part = λ marks. record {
        source = part;
        made = λ q u.
            ap (leaf_made (Content marks) attrs part (made_of (Content marks) q) u) (t.content marks)
            ∙ ap (λ h. leaf_before u s.kind h marks part [] (made_of (Content marks) q (past u part []))) own.own.head_is;
      };
      inline = t.inline;
    } in
    record {
      forest = f;
      is = own.text ∙ sym (append-nil part);
      neat = (record { name_is = t.name_is; void_is = t.void_is; raw_is = t.raw_is; attrs_are = own.own.neat }, tt);
      part = ap is_one_part parts_are;
      apart = subst Apart (sym parts_are) tt;
      reads = subst (λ p. ContentPart p s.kind s.head) (sym parts_are) single;
      clear = λ q h. clear_none f (λ n. no_about (about_of attrs) (about_in n) (or_left (is_some (about_of attrs)) _ own.own.free)) q;
      shows = λ g a q u. (subst (λ p. Clear g (joined p q)) (sym parts_are) tt, subst (λ p. Clear g (Words u (joined p q))) (sym parts_are) tt);
    }

-- ---- and of a leaf that is kept whole

not_shared : (a b : Bool) → not (a && b) ≡ true → a ≡ true → b ≡ false
not_shared true true e h = cc
not_shared true false e h = refl
not_shared false b e h = cc

whole_sourced : (w : Writer) (parent : Kind) (s : Start) (inside : Nodes) (pre : List ℕ) (later : Nodes) → is_content_branch parent ≡ true → IsWholeLeaf w parent s inside pre later →
    Sourced s inside pre later (unwrap_or (w.original s (node_items s inside pre)) (leaf_text w s s.kind))
whole_sourced w parent s inside pre later c l =
    let f : Forest = leaf_forest s in
    let spells = law_reads_right (encode_utf8_all s.head.raw) f l.spelled in
    let at : Progress = record { at = 0; owners = []; editable = false } in
    let around : around_in parent ≡ Content [] = pick_true (is_content_branch parent) (Content []) (if is_flow parent then Flow parent else Structural parent) c in
    let apart : Apart (parts_of f) = unreferred_apart f l.calm in
    record {
      forest = f;
      is = ap (unwrap_or (w.original s (node_items s inside pre))) (whole_text w s l.leaf) ∙ l.text ∙ sym spells.0;
      neat = spelled-Neat f 200 spells.1;
      part = l.part;
      apart = apart;
      reads = content_part at (parts_of f) s.kind s.head l.part apart (ap (λ a. (inside_piece a at (made_of a (parts_of f) at)).later.items) (sym around) ∙ l.reads);
      clear = λ q h. h f l.apart;
      shows = λ g a q t. one_clear g f q l.part (not_shared (is_leaf s.kind) (shares_about g f) a (whole_is_leaf s.kind l.leaf)) t;
    }

pub mixed_sourced : (w : Writer) → LeavesKnown w → (parent : Kind) → is_content_branch parent ≡ true → (n : Nodes) → IsMixed w parent n → IsSourced w n
mixed_sourced w known parent c Empty m = tt
mixed_sourced w known parent c (Letter ch marks later) m = (m.0, m.1, mixed_sourced w known parent c later m.2)
mixed_sourced w known parent c (Node s inside pre later) m = elim m.0 [
  | inl l ↦ (l.1, small_sourced w known s inside pre later l.0, mixed_sourced w known parent c later m.1)
  | inr l ↦ ((l.2.inline l.1).0, whole_sourced w parent s inside pre later c l.2, mixed_sourced w known parent c later m.1)
]

-- ---- content leaves no whitespace

abbrev Bare : (Progress → Made) → Type 0
Bare made = (w : Progress) → (made w).pre ≡ []

inline_pre : (w : Progress) (k : Kind) (h : Head) (marks : List Mark) (part : List ℕ) (owners : List Owner) (m : Made) → is_inline_leaf k ≡ true → m.pre ≡ [] → (leaf_before w k h marks part owners m).pre ≡ []
inline_pre w k h marks part owners m i e = by (is_inline_leaf k) i
  where
    by : (c : Bool) → c ≡ true → (if c then in_run (leaf k h marks (source_span w part)) part owners m else before_run (past w part owners) (leaf k h marks (source_span w part)) owners m).pre ≡ []
    by true i = e
    by false i = cc

leaf_pre : (ms : List Mark) (name : List ℕ) (children : Parts) (attrs : List Spelled) (part : List ℕ) (later : Progress → Made) (w : Progress) (fit : Fit) → FitFacts (Content ms) name children fit → Bare later →
    (leaf_made (Content ms) attrs part later w fit).pre ≡ []
leaf_pre ms name children attrs part later w (Leaf k) t b = inline_pre w k (head_with attrs) ms part [] (later (past w part [])) (leaf_kind k (t.leaf k refl).1).inline (b (past w part []))
leaf_pre ms name children attrs part later w (Whole k) t b = inline_pre w k (whole_head part) ms part [] (later (past w part [])) (whole_inline k (t.whole k refl)) (b (past w part []))
  where
    whole_inline : (k : Kind) → (k ≡ AlienInline) ⊎ ((k ≡ AlienBlock) × ⊥) → is_inline_leaf k ≡ true
    whole_inline k (inl e) = ap is_inline_leaf e
    whole_inline k (inr p) = absurd p.1
leaf_pre ms name children attrs part later w Annotation t b = b (past w part [])
leaf_pre ms name children attrs part later w (Branch k) t b = b (past w part [])

element_pre : (ms : List Mark) (name : List ℕ) (children : Parts) (attrs : List Spelled) (part : List ℕ) (inner : Around → Progress → Made) (later : Progress → Made) (w : Progress) (fit : Fit) → FitFacts (Content ms) name children fit → Bare later →
    (element_made (Content ms) name attrs part inner later w fit).pre ≡ []
element_pre ms name children attrs part inner later w Annotation t b = let inside = inner (marked_around (Content ms) name attrs) (inside_of w name attrs) in b (past w part inside.owners)
element_pre ms name children attrs part inner later w (Branch k) t b = absurd (t.branch k refl).2
element_pre ms name children attrs part inner later w (Leaf k) t b = leaf_pre ms name children attrs part later w (Leaf k) t b
element_pre ms name children attrs part inner later w (Whole k) t b = leaf_pre ms name children attrs part later w (Whole k) t b

group_pre : (ms : List Mark) (nodes : Forest) (later : Progress → Made) (w : Progress) (r : Option RefNode) → Bare later → (group_made (Content ms) nodes later w r).pre ≡ []
group_pre ms nodes later w (Some r) b = b (past w (spelling nodes) r.owners)
group_pre ms nodes later w None b = by (is_generated nodes)
  where
    by : (g : Bool) → (leaf_before w (whole_kind g true) (whole_head (spelling nodes)) ms (spelling nodes) [] (later (past w (spelling nodes) []))).pre ≡ []
    by true = b (past w (spelling nodes) [])
    by false = b (past w (spelling nodes) [])

content_pre : (parts : Parts) (ms : List Mark) → Bare (made_of (Content ms) parts)
content_pre Ended ms w = refl
content_pre (Words text later) ms w = content_pre later ms (past w text [])
content_pre (Note text later) ms w = content_pre later ms (past w (token_text (Comment text)) [])
content_pre (Group nodes later) ms w = group_pre ms nodes (made_of (Content ms) later) w (ref_of w (Content ms) nodes) (content_pre later ms)
content_pre (Single name attrs source later) ms w = leaf_pre ms name Ended attrs source (made_of (Content ms) later) w (fit_of (Content ms) name Ended) (fit_facts (Content ms) name Ended) (content_pre later ms)
content_pre (Parent name attrs children later) ms w =
    element_pre ms name children attrs (element_source name attrs children) (λ a. made_of a children) (made_of (Content ms) later) w (fit_of (Content ms) name children) (fit_facts (Content ms) name children) (content_pre later ms)

-- ---- what stands inside of a paragraph

abbrev InsideAt : Around → Forest → Nodes → List ℕ → Type 0
InsideAt around f inside pre =
    ((u : Progress) → map item_unmade (inside_piece around u (made_of around (parts_of f) u)).later.items ≡ said_items inside)
    × ((u : Progress) → (inside_piece around u (made_of around (parts_of f) u)).pre ≡ pre)

pub inner_mixed : MarksMean → (w : Writer) → LeavesKnown w → (s : Start) (inside : Nodes) (pre : List ℕ) → BranchTag s.kind → is_content_branch s.kind ≡ true → IsMixed w s.kind inside → pre ≡ [] → Inner w s inside pre
inner_mixed mean w known s inside pre t e m none =
    let f : ContentRead w inside = content_read mean w inside (mixed_sourced w known s.kind e inside m) in
    let at : around_in s.kind ≡ Content [] = pick_true (is_content_branch s.kind) (Content []) (if is_flow s.kind then Flow s.kind else Structural s.kind) e in
    let i : InsideAt (around_in s.kind) f.forest inside pre = subst (λ a. InsideAt a f.forest inside pre) (sym at) (
      (λ u. ap (map item_unmade) (f.reads u) ∙ content-unmade inside ∙ mixed_said w s.kind inside m),
      (λ u. content_pre (parts_of f.forest) [] u ∙ sym none),
    ) in
    record {
      forest = f.forest;
      spells =
          f.spells
          ∙ sym (append-nil (content w [] inside))
          ∙ ap (λ x. content w [] inside ++ encode_utf8_all x) (sym none)
          ∙ ap (λ x. x ++ encode_utf8_all pre) (sym (pick_true (is_content_branch s.kind) (content w [] inside) (blocks w false pre inside) e));
      neat = f.neat;
      apart = f.apart;
      convertible = elim (cases_Bool (is_among structural_kinds s.kind)) [
        | inr n ↦ ap (λ c. not c || has_blocks_alone (parts_of f.forest)) n
        | inl y ↦ absurd (opposite (is_content_branch s.kind) e (t.structural y).0)
      ];
      items = i.0;
      white = i.1;
    }
