-- Lists of which all that stands outside of kept blocks is of the form.
use Rattle.std.proofs.Common.{◌≡◌, ℕ, Bool, true, false, not, ◌&&◌, ◌||◌, if◌then◌else◌, List, [], ◌++◌, Option, Some, None, refl, sym, ap, ◌∙◌, subst, ◌⊎◌, inl, inr}
use Rattle.std.proofs.lemmas.Bool.{cases_Bool}
use Rattle.std.specs.Prelude.{is_some, encode_utf8_all, unwrap_or}
use denote.Enum.Bare.{same_true}
use Rattle.ve_kinds.specs.contracts.kind.Kind.{the_type}
use Rattle.ve_kinds.specs.declared.kind.Kind.{Kind}
use Rattle.ve_kinds.specs.declared.kind.Kind.TheVariants.{Root, Br, Img, InternalList, InternalItem, TransInline, AlienInline}
use Rattle.ve_kinds.specs.Table.{kind_same, may_hold, is_among, is_content_branch, is_element, is_block_leaf, is_inline_leaf, is_leaf, block_leaves, inline_leaves}
use Rattle.ve_base.specs.Empty.{empty_head}
use Rattle.model_items.specs.declared.plain_item.PlainItem.{PlainItem}
use Rattle.model_items.specs.Law.{Lawful}
use Rattle.model_page.specs.Elements.{is_white_char, is_white}
use Rattle.model_page_write.specs.Nodes.{Start, Nodes, Empty, Letter, Node, node_items, node_list_items, carried_nodes, carried_items}
use Rattle.model_page_law.proofs.EscapeLemmas.{pick_false}
use Rattle.model_page_law.proofs.TagLemmas.{branch_tag}
use Rattle.model_page_write.specs.Written.{white_after, is_bare, Writer, element_text, fresh_text, original_of, content, blocks}
use Rattle.model_page_law.specs.Formed.{IsFormedOpening}
use Rattle.model_page_law.proofs.FormedNodes.{MarksMean, IsContent, IsBranch, IsList, with_list}
use Rattle.model_page_law.proofs.FormKinds.{content_holds, no_br, no_img, no_root, leaf_holds, element_or, no_leaf}
use Rattle.model_page_law.proofs.NodesLemmas.{followed, nodes_of-items_of}
use Rattle.model_page_law.proofs.BlockClean.{bare_is}
use Rattle.model_spelling.specs.Forest.{Forest}
use Rattle.model_kept_law.specs.Readable.{is_whole_leaf, leaf_forest, is_apart, holds_whole, IsKeptBlock, IsWholeLeaf, AreReadable}
use Rattle.model_kept_law.proofs.MixedContent.{whole_leaf, whole_is_leaf, IsMixed, mixed_plain, inner_mixed}
use Rattle.ve_kinds.proofs.LawLemmas.{inline_in_content}
use Rattle.model_kept_law.proofs.OriginalNodes.{Kept}
use Rattle.model_kept_law.proofs.WrittenBlocks.{IsPlaced, placed, ElementChunk, Written, written_empty, element_written, leaf_not_bare, whole_written}
use Rattle.model_kept_law.proofs.KeptBlocks.{Known, Keeps, Inner, leaves_known, content-whole, element_of, not_bare, must_be_bare, keeps_plain, fresh_element, inner_blocks, formed_written}
use Rattle.model_kept_law.proofs.NestedNodes.{Nested, nested_list}

-- the nodes of a flow or structural parent: each is kept, a leaf, or of the form
abbrev pub AreStanding : Writer → Kind → Nodes → Type 0
AreStanding w parent Empty = Unit {0}
AreStanding w parent (Letter c marks later) = ⊥
AreStanding w parent (Node s inside pre later) =
    (((may_hold parent s.kind ≡ true) × IsKeptBlock w s inside pre)
    ⊎ (((inside ≡ Empty) × (is_block_leaf s.kind ≡ true) × IsWholeLeaf w parent s inside pre later)
    ⊎ (IsBranch parent s
    × (is_content_branch s.kind ≡ true → IsMixed w s.kind inside × (pre ≡ []) × (s.generated ≡ true → IsContent inside))
    × (is_content_branch s.kind ≡ false → AreStanding w s.kind inside × (is_white pre ≡ true)))))
    × AreStanding w parent later

-- ---- nodes that nest

true_false : (b : Bool) → b ≡ true → b ≡ false → ⊥
true_false true e f = cc
true_false false e f = cc

false_of : (b : Bool) → (b ≡ true → ⊥) → b ≡ false
false_of true h = absurd (h refl)
false_of false h = refl

later_of : (a b : Bool) → b ≡ true → (a || b) ≡ true
later_of true b e = refl
later_of false b e = e

first_of : (a b c : Bool) → a ≡ true → (a || b || c) ≡ true
first_of true b c e = refl
first_of false b c e = cc

second_of : (a b c : Bool) → b ≡ true → (a || b || c) ≡ true
second_of true true c e = refl
second_of false true c e = refl
second_of a false c e = cc

third_of : (a b c : Bool) → c ≡ true → (a || b || c) ≡ true
third_of true true true e = refl
third_of true false true e = refl
third_of false true true e = refl
third_of false false true e = refl
third_of a b false e = cc

leaf_empty : (k : Kind) (n : Nodes) → is_leaf k ≡ true → Nested k n → n ≡ Empty
leaf_empty k Empty l n = refl
leaf_empty k (Letter c marks later) l n = absurd (true_false (is_leaf k) l (no_leaf k n.0))
leaf_empty k (Node s inside pre later) l n = absurd (true_false (may_hold k s.kind) n.0 (leaf_holds k s.kind l))

content_leaf : (k : Kind) (s : Start) → is_content_branch k ≡ true → may_hold k s.kind ≡ true → is_leaf s.kind ≡ true
content_leaf k s c h = later_of (is_among block_leaves s.kind) (is_among inline_leaves s.kind) (content_holds k s.kind c h)

content_of : (w : Writer) (k : Kind) (n : Nodes) → is_content_branch k ≡ true → Nested k n → AreReadable w k n → IsMixed w k n
content_of w k Empty c n l = tt
content_of w k (Letter ch marks later) c n l = (l.0.0, l.0.1, content_of w k later c n.1 l.1)
content_of w k (Node s inside pre later) c n l =
    let leaf : is_leaf s.kind ≡ true = content_leaf k s c n.0 in
    let alone : inside ≡ Empty = leaf_empty s.kind inside leaf n.2 in (
      elim l.0 [
        | inl kept ↦ absurd (true_false (is_leaf s.kind) leaf kept.branch)
        | inr (inl whole) ↦ inr (alone, content_holds k s.kind c n.0, whole)
        | inr (inr f) ↦
            let g = f.0.leaf leaf in
            inl (
              record {
                kind = g.0;
                head = f.0.head;
                alone = alone;
                before = g.2;
                closing = f.1.none (first_of (is_leaf s.kind) (is_content_branch s.kind) (kind_same s.kind InternalList) leaf);
              },
              g.1,
            )
      ],
      content_of w k later c n.3 l.1,
    )

formed_branch : (k : Kind) (s : Start) → is_content_branch k ≡ false → may_hold k s.kind ≡ true → IsFormedOpening s.kind s.head s.marks s.pre → is_leaf s.kind ≡ false
formed_branch k s c h f = false_of (is_leaf s.kind) (λ l. neither (f.leaf l).0)
  where
    neither : (kind_same s.kind Br || kind_same s.kind Img) ≡ true → ⊥
    neither e =
        elim (cases_Bool (kind_same s.kind Br)) [
          | inl b ↦ true_false (may_hold k s.kind) h (ap (may_hold k) (same_true the_type tt s.kind Br b) ∙ no_br k c)
          | inr b ↦ true_false (may_hold k s.kind) h (ap (may_hold k) (same_true the_type tt s.kind Img (sym (ap (λ x. x || kind_same s.kind Img) b) ∙ e)) ∙ no_img k c)
        ]

branch_of : (k : Kind) (s : Start) → is_content_branch k ≡ false → may_hold k s.kind ≡ true → kind_same s.kind InternalList ≡ false → IsFormedOpening s.kind s.head s.marks s.pre → IsBranch k s
branch_of k s c h l f =
    let leaf : is_leaf s.kind ≡ false = formed_branch k s c h f in
    let root : kind_same s.kind Root ≡ false = false_of (kind_same s.kind Root) (λ e. true_false (may_hold k s.kind) h (ap (may_hold k) (same_true the_type tt s.kind Root e) ∙ no_root k)) in
    record { held = h; element = element_or s.kind leaf l f.item root; branch = leaf; head = f.head; marks = f.branch leaf; before = f.white }

-- a leaf that is kept whole among blocks is one of these
among_blocks : (k c : Kind) → is_content_branch k ≡ false → may_hold k c ≡ true → is_whole_leaf c ≡ true → is_block_leaf c ≡ true
among_blocks k c e h l = whole_leaf (λ j. may_hold k j ≡ true → is_block_leaf j ≡ true) c l (λ x. refl) (λ x. refl) (no_inline TransInline refl) (no_inline AlienInline refl) h
  where
    no_inline : (j : Kind) → is_inline_leaf j ≡ true → may_hold k j ≡ true → is_block_leaf j ≡ true
    no_inline j i x = absurd (true_false (may_hold k j) x (inline_in_content k j i ∙ e))

-- a generated one is of the form
generated_plain : (generated whole : Bool) → (generated && whole) ≡ false → generated ≡ true → whole ≡ false
generated_plain true whole e g = e
generated_plain false whole e g = cc

standing : (w : Writer) (k : Kind) (n : Nodes) → is_content_branch k ≡ false → Nested k n → AreReadable w k n → AreStanding w k n
standing w k Empty c n l = tt
standing w k (Letter ch marks later) c n l = absurd (true_false (is_content_branch k) n.0 c)
standing w k (Node s inside pre later) c n l = (
  elim l.0 [
    | inl kept ↦ inl (n.0, kept)
    | inr (inl whole) ↦ inr (inl (leaf_empty s.kind inside (whole_is_leaf s.kind whole.leaf) n.2, among_blocks k s.kind c n.0 whole.leaf, whole))
    | inr (inr f) ↦ inr (inr (
      branch_of k s c n.0 n.1 f.0,
      (λ e.
          let m = content_of w s.kind inside e n.2 f.3 in
          (m, f.1.none (second_of (is_leaf s.kind) (is_content_branch s.kind) (kind_same s.kind InternalList) e), (λ g. mixed_plain w s.kind inside m (generated_plain s.generated (holds_whole inside) f.2 g)))),
      (λ e. (standing w s.kind inside e n.2 f.3, f.1.white)),
    ))
  ],
  standing w k later c n.3 l.1,
)

-- ---- a block that is kept

some_of : (o : Option (List ℕ)) → is_some o ≡ true → (part : List ℕ) × (o ≡ Some part)
some_of None e = cc
some_of (Some part) e = (part, refl)

kept_placed : (refers : Bool) (k : Kind) (s : Start) (inside : Nodes) (pre part : List ℕ) → refers ≡ false → (kept : Kept refers s inside pre part) → s.generated ≡ false → is_leaf s.kind ≡ false → may_hold k s.kind ≡ true → is_white s.pre ≡ true →
    IsPlaced k s
kept_placed refers k s inside pre part calm kept made branch h white =
    let b = kept.block calm made branch in record { held = h; element = b.1.element; branch = branch; marks = b.0; before = white }

kept_written : (refers : Bool) (w : Writer) → Known refers w → refers ≡ false → (k : Kind) (before : Bool) (s : Start) (inside later : Nodes) (pre closing : List ℕ) → may_hold k s.kind ≡ true → IsKeptBlock w s inside pre →
    Written w k (is_bare before s inside (white_after later closing)) closing later → Written w k before closing (Node s inside pre later)
kept_written refers w known calm k before s inside later pre closing h b r =
    let bare : Bool = is_bare before s inside (white_after later closing) in
    let o = some_of (w.original s (node_items s inside pre)) b.kept in
    let kept = known s inside pre o.0 o.1 in
    let chunk : ElementChunk s inside pre o.0 = element_of s inside pre o.0 kept.items kept.said (kept.block calm b.tags b.branch).1 in
    let no_bare : bare ≡ false = not_bare before s inside (white_after later closing) bare refl b.tags in
    let text : List ℕ = if is_content_branch s.kind then content w [] inside else blocks w false pre inside in
    let original : original_of w bare s (node_items s inside pre) ≡ Some o.0 = ap (λ g. if g && not bare then None else w.original s (node_items s inside pre)) b.tags ∙ o.1 in
    element_written w k before s inside later pre closing o.0 (kept_placed refers k s inside pre o.0 calm kept b.tags b.branch h b.before) chunk (subst (λ x. Written w k x closing later) no_bare r)
    (ap (λ x. encode_utf8_all s.pre ++ unwrap_or x (fresh_text w bare s text pre) ++ blocks w bare closing later) original ∙ ap (λ x. encode_utf8_all s.pre ++ o.0 ++ blocks w x closing later) no_bare)

-- a generated block of the form
keeps_generated : (refers : Bool) (w : Writer) → Known refers w → (k : Kind) (before : Bool) (s : Start) (inside : Nodes) (pre after : List ℕ) → is_leaf s.kind ≡ false →
    (is_content_branch s.kind ≡ true → IsContent inside × (pre ≡ [])) → s.generated ≡ true → Keeps w (is_bare before s inside after) s inside pre
keeps_generated refers w known k before s inside pre after b f g part e x =
    let bare : is_bare before s inside after ≡ true = must_be_bare s.generated (is_bare before s inside after) g x in
    let c : is_content_branch s.kind ≡ true = ap is_content_branch (bare_is before s inside after bare).kind in
    keeps_plain refers w known before s inside pre after b (content-whole inside (f c).0) part e x

-- a block with its tags, whatever is kept in it
tagged_written : (refers : Bool) (w : Writer) → Known refers w → refers ≡ false → (k : Kind) (before : Bool) (s : Start) (inside later : Nodes) (pre closing : List ℕ) → IsBranch k s → s.generated ≡ false → Inner w s inside pre →
    (o : Option (List ℕ)) → w.original s (node_items s inside pre) ≡ o → Written w k (is_bare before s inside (white_after later closing)) closing later → Written w k before closing (Node s inside pre later)
tagged_written refers w known calm k before s inside later pre closing b g i None e r =
    let bare : Bool = is_bare before s inside (white_after later closing) in
    let t = branch_tag s.kind b.element b.branch in
    let no_bare : bare ≡ false = not_bare before s inside (white_after later closing) bare refl g in
    let text : List ℕ = if is_content_branch s.kind then content w [] inside else blocks w false pre inside in
    let original : original_of w bare s (node_items s inside pre) ≡ None = ap (λ x. if x && not bare then None else w.original s (node_items s inside pre)) g ∙ e in
    let fresh : fresh_text w bare s text pre ≡ element_text s text pre =
    pick_false (kind_same s.kind InternalList) _ _ t.other ∙ pick_false (is_leaf s.kind) _ _ b.branch ∙ pick_false bare _ _ no_bare in
    element_written w k before s inside later pre closing (element_text s text pre) (placed k s b) (fresh_element w k s inside pre text b t i i.spells) (subst (λ x. Written w k x closing later) no_bare r)
    (λ j. encode_utf8_all s.pre ++ unwrap_or (original j) (fresh j) ++ blocks w (no_bare j) closing later)
tagged_written refers w known calm k before s inside later pre closing b g i (Some part) e r =
    kept_written refers w known calm k before s inside later pre closing b.held (record { branch = b.branch; tags = g; before = b.before; kept = ap is_some e }) r

-- a block of the form
form_written : MarksMean → (refers : Bool) (w : Writer) → Known refers w → refers ≡ false → (k : Kind) (before : Bool) (s : Start) (inside later : Nodes) (pre closing : List ℕ) → IsBranch k s →
    (is_content_branch s.kind ≡ true → IsMixed w s.kind inside × (pre ≡ []) × (s.generated ≡ true → IsContent inside)) → (is_content_branch s.kind ≡ false → Written w s.kind false pre inside) →
    Written w k (is_bare before s inside (white_after later closing)) closing later → (g : Bool) → s.generated ≡ g → Written w k before closing (Node s inside pre later)
form_written mean refers w known calm k before s inside later pre closing b f h r true g =
    let c : is_content_branch s.kind ≡ true → IsContent inside × (pre ≡ []) = λ e. let m = f e in (m.2 g, m.1) in
    formed_written mean refers w known k before s inside later pre closing b (keeps_generated refers w known k before s inside pre (white_after later closing) b.branch c g) c h r
form_written mean refers w known calm k before s inside later pre closing b f h r false g =
    let t = branch_tag s.kind b.element b.branch in
    let inner : Inner w s inside pre = elim (cases_Bool (is_content_branch s.kind)) [
      | inl e ↦ inner_mixed mean w (leaves_known refers w known) s inside pre t e (f e).0 (f e).1
      | inr e ↦ inner_blocks w s inside pre t e (h e)
    ] in
    tagged_written refers w known calm k before s inside later pre closing b g inner (w.original s (node_items s inside pre)) refl r

pub standing_written : MarksMean → (refers : Bool) (w : Writer) → Known refers w → refers ≡ false → (n : Nodes) (k : Kind) (before : Bool) (closing : List ℕ) → is_content_branch k ≡ false → AreStanding w k n → is_white closing ≡ true →
    Written w k before closing n
standing_written mean refers w known calm Empty k before closing c b h = written_empty w k before closing h
standing_written mean refers w known calm (Letter ch marks later) k before closing c b h = absurd b
standing_written mean refers w known calm (Node s inside pre later) k before closing c b h =
    let after : List ℕ = white_after later closing in
    let bare : Bool = is_bare before s inside after in
    let r : Written w k bare closing later = standing_written mean refers w known calm later k bare closing c b.1 h in
    elim b.0 [
      | inl x ↦ kept_written refers w known calm k before s inside later pre closing x.0 x.1 r
      | inr (inl x) ↦ whole_written w k before s inside later pre closing c x.0 x.1 x.2 (subst (λ y. Written w k y closing later) (leaf_not_bare before s inside after x.1) r)
      | inr (inr f) ↦
          form_written mean refers w known calm k before s inside later pre closing f.0 f.1
          (λ e. standing_written mean refers w known calm inside s.kind false pre e (f.2 e).0 (f.2 e).1) r s.generated refl
    ]

-- ---- the internal list

or_later : (a b c : Bool) → (b ≡ true → c ≡ true) → (a || b) ≡ true → (a || c) ≡ true
or_later true b c f e = refl
or_later false b c f e = f e

-- what is apart from the nodes before the last one
apart_before : (f : Forest) (n m : Nodes) → is_apart f (followed n m) ≡ true → is_apart f n ≡ true
apart_before f Empty m e = refl
apart_before f (Letter c marks later) m e = or_later (not (is_white_char c)) (is_apart f (followed later m)) (is_apart f later) (apart_before f later m) e
apart_before f (Node s inside pre later) m e = e

leaf_before : (w : Writer) (k : Kind) (s : Start) (inside later m : Nodes) (pre : List ℕ) → IsWholeLeaf w k s inside pre (followed later m) → IsWholeLeaf w k s inside pre later
leaf_before w k s inside later m pre l = record {
  leaf = l.leaf;
  tags = l.tags;
  inline = l.inline;
  block = l.block;
  closing = l.closing;
  text = l.text;
  spelled = l.spelled;
  calm = l.calm;
  part = l.part;
  reads = l.reads;
  alone = l.alone;
  apart = apart_before (leaf_forest s) later m l.apart;
}

readable_parts : (w : Writer) (k : Kind) (n m : Nodes) → AreReadable w k (followed n m) → AreReadable w k n × AreReadable w k m
readable_parts w k Empty m l = (tt, l)
readable_parts w k (Letter c marks later) m l = let p = readable_parts w k later m l.1 in ((l.0, p.0), p.1)
readable_parts w k (Node s inside pre later) m l =
    let p = readable_parts w k later m l.1 in (
      (
        elim l.0 [
          | inl kept ↦ inl kept
          | inr (inl whole) ↦ inr (inl (leaf_before w k s inside later m pre whole))
          | inr (inr f) ↦ inr (inr f)
        ],
        p.0,
      ),
      p.1,
    )

no_leaf_list : (w : Writer) (k : Kind) (s : Start) (inside later : Nodes) (pre : List ℕ) → IsWholeLeaf w k s inside pre later → is_whole_leaf s.kind ≡ false → ⊥
no_leaf_list w k s inside later pre l e = true_false (is_whole_leaf s.kind) l.leaf e

no_element : (refers : Bool) (w : Writer) → Known refers w → refers ≡ false → (s : Start) (inside : Nodes) (pre : List ℕ) → IsKeptBlock w s inside pre → is_element s.kind ≡ false → ⊥
no_element refers w known calm s inside pre b e =
    let o = some_of (w.original s (node_items s inside pre)) b.kept in
    true_false (is_element s.kind) ((known s inside pre o.0 o.1).block calm b.tags b.branch).1.element e

only_items : (c : Kind) → may_hold InternalList c ≡ true → c ≡ InternalItem
only_items c h = sym (same_true the_type tt InternalItem c (or_nothing (kind_same InternalItem c) h))
  where
    or_nothing : (a : Bool) → (a || false) ≡ true → a ≡ true
    or_nothing true e = refl
    or_nothing false e = cc

empty_inside : (refers : Bool) (w : Writer) → Known refers w → refers ≡ false → (n : Nodes) → Nested InternalList n → AreReadable w InternalList n → n ≡ Empty
empty_inside refers w known calm Empty n l = refl
empty_inside refers w known calm (Letter c marks later) n l = absurd (let f : false ≡ true = n.0 in cc)
empty_inside refers w known calm (Node s inside pre later) n l =
    let k : s.kind ≡ InternalItem = only_items s.kind n.0 in
    elim l.0 [
      | inl b ↦ absurd (no_element refers w known calm s inside pre b (ap is_element k))
      | inr (inl x) ↦ absurd (no_leaf_list w InternalList s inside later pre x (ap is_whole_leaf k))
      | inr (inr f) ↦ absurd (let e : true ≡ false = ap (λ x. kind_same x InternalItem) (sym k) ∙ f.0.item in cc)
    ]

-- a list whose nodes stand so, and then the empty internal list
pub record StandingList (w : Writer) (items : List PlainItem) : Type 0 where
  pub nodes : Nodes
  pub list : Start
  pub are : carried_items items ≡ node_list_items (with_list nodes list)
  pub blocks : AreStanding w Root nodes
  pub last : IsList list

with_list-followed : (n : Nodes) (list : Start) → followed n (Node list Empty [] Empty) ≡ with_list n list
with_list-followed Empty list = refl
with_list-followed (Letter c marks later) list = ap (Letter c marks) (with_list-followed later list)
with_list-followed (Node s inside pre later) list = ap (Node s inside pre) (with_list-followed later list)

list_is : (s : Start) → s.kind ≡ InternalList → IsFormedOpening s.kind s.head s.marks s.pre → IsList s
list_is s k f =
    let head : s.head ≡ empty_head = f.head.alone ∙ ap (λ a. record { tag = []; attrs = a; raw = []; reference = None; owner = false }) (f.list (ap (λ x. kind_same x InternalList) k)) in
    record { kind = k; head = head; marks = f.branch (ap is_leaf k); before = f.white }

pub standing_list : (refers : Bool) (w : Writer) → Known refers w → refers ≡ false → (items : List PlainItem) → Lawful items → AreReadable w Root (carried_nodes (carried_items items)) → StandingList w items
standing_list refers w known calm items h left =
    let n = nested_list items h in
    let all : Nodes = followed n.nodes (Node n.list n.inside n.pre Empty) in
    let p = readable_parts w Root n.nodes (Node n.list n.inside n.pre Empty) (subst (AreReadable w Root) (ap carried_nodes n.are ∙ nodes_of-items_of all) left) in
    elim p.1.0 [
      | inl b ↦ absurd (no_element refers w known calm n.list n.inside n.pre b (ap is_element n.kind))
      | inr (inl x) ↦ absurd (no_leaf_list w Root n.list n.inside Empty n.pre x (ap is_whole_leaf n.kind))
      | inr (inr f) ↦
          let inside : n.inside ≡ Empty = empty_inside refers w known calm n.inside n.within (subst (λ k. AreReadable w k n.inside) n.kind f.3) in
          let pre : n.pre ≡ [] = f.1.none (third_of (is_leaf n.list.kind) (is_content_branch n.list.kind) (kind_same n.list.kind InternalList) (ap (λ x. kind_same x InternalList) n.kind)) in
          record {
            nodes = n.nodes;
            list = n.list;
            are = n.are ∙ (λ i. node_list_items (followed n.nodes (Node n.list (inside i) (pre i) Empty))) ∙ ap node_list_items (with_list-followed n.nodes n.list);
            blocks = standing w Root n.nodes refl n.nested p.0;
            last = list_is n.list n.kind f.0;
          }
    ]
