-- All blocks that a writer writes, where what it keeps has a source that is known.
use Rattle.std.proofs.Common.{◌≡◌, ℕ, Bool, true, false, not, ◌&&◌, ◌||◌, if◌then◌else◌, List, [], ◌∷◌, ◌++◌, map, Option, Some, None, refl, sym, ap, ◌∙◌, subst, append_assoc, append-nil, ◌⊎◌, inl, inr}
use Rattle.std.proofs.lemmas.Bool.{and_parts, cases_Bool}
use Rattle.std.specs.Prelude.{encode_utf8_all, unwrap_or}
use Rattle.model_spelling.specs.Grammar.{start_text, end_text}
use Rattle.model_spelling.specs.Forest.{Forest, spelling}
use Rattle.model_spelling.specs.Written.{canon_attrs, attr_bytes}
use Rattle.ve_kinds.specs.declared.kind.Kind.{Kind}
use Rattle.ve_kinds.specs.declared.kind.Kind.TheVariants.{P, InternalList}
use Rattle.ve_kinds.specs.Table.{kind_same, is_among, is_content_branch, is_flow, is_leaf, structural_kinds}
use Rattle.ve_kinds.specs.Tags.{is_void}
use Rattle.model_items.specs.declared.plain_item.PlainItem.{PlainItem}
use Rattle.model_items.specs.declared.plain_item.PlainItem.TheVariants.{Char, Opening, Closing}
use Rattle.model_page.specs.Elements.{is_white}
use Rattle.model_page.specs.Tags.{tag_of}
use Rattle.model_page.specs.Parts.{Parts, parts_of}
use Rattle.model_page.specs.Fit.{Around, Flow, Structural, Content, around_in, has_blocks_alone, is_convertible}
use Rattle.model_page.specs.Fragment.{item_unmade}
use Rattle.model_page.specs.Pieces.{Progress}
use Rattle.model_page.specs.Convert.{inside_piece, made_of}
use Rattle.model_page_write.specs.Nodes.{Start, Nodes, Empty, Letter, Node, node_items}
use Rattle.model_page_write.specs.Written.{white_after, is_bare, is_empty, has_content, all_stay_inline, Writer, element_text, fresh_text, original_of, content, blocks}
use Rattle.model_page_law.proofs.FormedNodes.{MarksMean, IsContent, IsBranch, AreBlocks}
use Rattle.model_page_law.proofs.NeatForests.{Neat}
use Rattle.model_page_law.proofs.EscapeLemmas.{pick_true, pick_false}
use Rattle.model_page_law.proofs.TagLemmas.{BranchTag, branch_tag, leaf_kind}
use Rattle.model_page_law.proofs.ContentLemmas.{content_items, leaf_items}
use Rattle.model_page_law.proofs.BlankLemmas.{content-not_white, Loose-pre}
use Rattle.model_page_law.proofs.BlockClean.{bare_is}
use Rattle.model_page_law.proofs.CleanLemmas.{head_back, clean_tag}
use Rattle.model_page_law.proofs.NodesRead.{said_items}
use Rattle.model_kept_law.proofs.FitFacts.{Small, small_leaf}
use Rattle.model_kept_law.proofs.ApartParts.{Apart}
use Rattle.model_kept_law.proofs.WholeParts.{MayStand, NoWhole}
use Rattle.model_kept_law.proofs.OwnSource.{OwnLeaf, OwnBlock, OwnRun}
use Rattle.model_kept_law.proofs.SourceRows.{Own}
use Rattle.model_kept_law.proofs.OriginalNodes.{Kept}
use Rattle.model_kept_law.proofs.OwnContent.{ContentWritten, LeavesKnown, content_written}
use Rattle.model_kept_law.proofs.WrittenBlocks.{placed, ElementChunk, RunChunk, Written, written_empty, element_written, run_written}

-- the source of what is kept is known
abbrev pub Known : Bool → Writer → Type 0
Known refers w = (s : Start) (inside : Nodes) (pre part : List ℕ) → w.original s (node_items s inside pre) ≡ Some part → Kept refers s inside pre part

pub opposite : (b : Bool) → b ≡ true → b ≡ false → ⊥
opposite b e f = cc

-- ---- nothing is kept whole

pub NoWhole-unmade : (xs : List PlainItem) → NoWhole (map item_unmade xs) → NoWhole xs
NoWhole-unmade [] h = h
NoWhole-unmade (Char c marks ∷ xs) h = NoWhole-unmade xs h
NoWhole-unmade (Closing kind pre ∷ xs) h = NoWhole-unmade xs h
NoWhole-unmade (Opening kind head marks pre origin generated ∷ xs) h = (h.0, NoWhole-unmade xs h.1)

NoWhole-append : (xs ys : List PlainItem) → NoWhole xs → NoWhole ys → NoWhole (xs ++ ys)
NoWhole-append [] ys h g = g
NoWhole-append (Char c marks ∷ xs) ys h g = NoWhole-append xs ys h g
NoWhole-append (Closing kind pre ∷ xs) ys h g = NoWhole-append xs ys h g
NoWhole-append (Opening kind head marks pre origin generated ∷ xs) ys h g = (h.0, NoWhole-append xs ys h.1 g)

pub branch_stands : (k : Kind) → is_leaf k ≡ false → MayStand k
branch_stands k b l = absurd (opposite (is_leaf k) l b)

pub content-whole : (n : Nodes) → IsContent n → NoWhole (said_items n)
content-whole Empty c = tt
content-whole (Letter ch marks later) c = content-whole later c.2
content-whole (Node s inside pre later) c =
    ((λ l. c.0.kind), subst (λ n. NoWhole (said_items n ++ Closing s.kind pre ∷ said_items later)) (sym c.0.alone) (content-whole later c.2))

inside-whole : (s : Start) (inside : Nodes) (pre : List ℕ) → (is_content_branch s.kind ≡ true → IsContent inside × (pre ≡ [])) → (is_content_branch s.kind ≡ false → NoWhole (said_items inside)) → NoWhole (said_items inside)
inside-whole s inside pre f g = elim (cases_Bool (is_content_branch s.kind)) [ inl e ↦ content-whole inside (f e).0 | inr e ↦ g e ]

blocks-whole : (k : Kind) (n : Nodes) → AreBlocks k n → NoWhole (said_items n)
blocks-whole k Empty b = tt
blocks-whole k (Letter c marks later) b = absurd b
blocks-whole k (Node s inside pre later) b = (
  branch_stands s.kind b.0.branch,
  NoWhole-append (said_items inside) (Closing s.kind pre ∷ said_items later) (inside-whole s inside pre b.1 (λ e. blocks-whole s.kind inside (b.2 e).0)) (blocks-whole k later b.3),
)

-- ---- kept leaves

no_block_leaf : (k : Kind) → Small k → is_void (tag_of k) ≡ false → ⊥
no_block_leaf k h e = opposite (is_void (tag_of k)) (leaf_kind k h).void_is e

no_paragraph_leaf : (k : Kind) → Small k → k ≡ P → ⊥
no_paragraph_leaf k h e = let f : false ≡ true = subst Small e h in cc

leaf_of : (s : Start) (inside : Nodes) (pre part : List ℕ) (items : List PlainItem) → Small s.kind → Own s.kind s.head s.generated items pre part → OwnLeaf s.kind s.head part
leaf_of s inside pre part items h (inl l) = l
leaf_of s inside pre part items h (inr (inl b)) = absurd (no_block_leaf s.kind h b.1.tag.void_is)
leaf_of s inside pre part items h (inr (inr r)) = absurd (no_paragraph_leaf s.kind h r.1)

pub leaves_known : (refers : Bool) (w : Writer) → Known refers w → LeavesKnown w
leaves_known refers w known s inside pre part l e =
    let k = known s inside pre part e in
    let none : NoWhole k.items = NoWhole-unmade k.items (subst NoWhole (sym k.said) (subst (λ n. NoWhole (said_items n)) (sym l.alone) tt)) in
    leaf_of s inside pre part k.items l.kind (k.own (λ i. l.kind) none)

-- ---- a block that is kept

-- how a block is spelled, by whether it is bare
abbrev pub Chunk : Bool → Start → Nodes → List ℕ → List ℕ → Type 0
Chunk bare s inside pre text = ((bare ≡ false) × ElementChunk s inside pre text) ⊎ ((bare ≡ true) × RunChunk inside text)

pub element_of : (s : Start) (inside : Nodes) (pre part : List ℕ) (items : List PlainItem) → map item_unmade items ≡ said_items inside → OwnBlock s.kind s.head items pre part → ElementChunk s inside pre part
element_of s inside pre part items said b = record {
  attrs = b.attrs;
  inner = b.inner;
  is = b.is;
  tag = b.tag;
  free = b.free;
  head_is = b.head_is;
  neat = b.neat;
  apart = b.apart;
  convertible = b.convertible;
  items = λ w. ap (map item_unmade) (b.later w) ∙ said;
  white = b.white;
}

run_of : (inside : Nodes) (part : List ℕ) (items : List PlainItem) → map item_unmade items ≡ said_items inside → OwnRun items part → RunChunk inside part
run_of inside part items said r = record { run = r.run; is = r.is; neat = r.neat; loose = r.loose; apart = r.apart; items = items; reads = r.reads; said = said; solid = r.solid }

-- a bare node is generated
bare_generated : (before : Bool) (s : Start) (inside : Nodes) (after : List ℕ) → is_bare before s inside after ≡ true → s.generated ≡ true
bare_generated before s inside after h =
    (and_parts (kind_same s.kind P) s.generated
    (and_parts _ _ (and_parts _ _ (and_parts _ _ (and_parts _ _ (and_parts _ _
    (and_parts (kind_same s.kind P && s.generated && is_empty s.head.attrs && is_empty s.pre && has_content inside && all_stay_inline inside && is_empty after) (not before) h).0).0).0).0).0).0).1

pub not_bare : (before : Bool) (s : Start) (inside : Nodes) (after : List ℕ) (c : Bool) → is_bare before s inside after ≡ c → s.generated ≡ false → c ≡ false
not_bare before s inside after true e g = absurd (opposite s.generated (bare_generated before s inside after e) g)
not_bare before s inside after false e g = refl

pub must_be_bare : (generated bare : Bool) → generated ≡ true → (generated && not bare) ≡ false → bare ≡ true
must_be_bare true true g e = refl
must_be_bare true false g e = cc
must_be_bare false bare g e = cc

kept_chunk : (before : Bool) (s : Start) (inside : Nodes) (pre after part : List ℕ) (items : List PlainItem) → is_leaf s.kind ≡ false → (s.generated && not (is_bare before s inside after)) ≡ false →
    map item_unmade items ≡ said_items inside → Own s.kind s.head s.generated items pre part → Chunk (is_bare before s inside after) s inside pre part
kept_chunk before s inside pre after part items b g said (inl l) = absurd (opposite (is_leaf s.kind) (small_leaf s.kind l.small) b)
kept_chunk before s inside pre after part items b g said (inr (inl o)) = inl (not_bare before s inside after (is_bare before s inside after) refl o.0, element_of s inside pre part items said o.1)
kept_chunk before s inside pre after part items b g said (inr (inr r)) = inr (must_be_bare s.generated (is_bare before s inside after) r.0 g, run_of inside part items said r.2)

-- ---- a block that is written afresh

content-said : (n : Nodes) → IsContent n → content_items n ≡ said_items n
content-said Empty c = refl
content-said (Letter ch marks later) c = ap (λ xs. Char ch marks ∷ xs) (content-said later c.2)
content-said (Node s inside pre later) c =
    let l = c.0 in
    (λ i. Opening s.kind s.head s.marks (sym l.before i) None false ∷ said_items (sym l.alone i) ++ Closing s.kind (sym l.closing i) ∷ content-said later c.2 i)

pub content-unmade : (n : Nodes) → map item_unmade (content_items n) ≡ content_items n
content-unmade Empty = refl
content-unmade (Letter ch marks later) = ap (λ xs. Char ch marks ∷ xs) (content-unmade later)
content-unmade (Node s inside pre later) = ap (leaf_items s) (content-unmade later)

-- what stands inside of a block, with its text before the closing
pub record Inner (w : Writer) (s : Start) (inside : Nodes) (pre : List ℕ) : Type 0 where
  pub forest : Forest
  pub spells : spelling forest ≡ (if is_content_branch s.kind then content w [] inside else blocks w false pre inside) ++ encode_utf8_all pre
  pub neat : Neat forest
  pub apart : Apart (parts_of forest)
  pub convertible : is_convertible s.kind (parts_of forest) ≡ true
  pub items : (u : Progress) → map item_unmade (inside_piece (around_in s.kind) u (made_of (around_in s.kind) (parts_of forest) u)).later.items ≡ said_items inside
  pub white : (u : Progress) → (inside_piece (around_in s.kind) u (made_of (around_in s.kind) (parts_of forest) u)).pre ≡ pre

abbrev InsideAt : Around → Forest → Nodes → List ℕ → Type 0
InsideAt around f inside pre =
    ((u : Progress) → map item_unmade (inside_piece around u (made_of around (parts_of f) u)).later.items ≡ said_items inside)
    × ((u : Progress) → (inside_piece around u (made_of around (parts_of f) u)).pre ≡ pre)

inner_content : (w : Writer) (s : Start) (inside : Nodes) (pre : List ℕ) → BranchTag s.kind → is_content_branch s.kind ≡ true → IsContent inside → pre ≡ [] → ContentWritten w inside → Inner w s inside pre
inner_content w s inside pre t e c none f =
    let at : around_in s.kind ≡ Content [] = pick_true (is_content_branch s.kind) (Content []) (if is_flow s.kind then Flow s.kind else Structural s.kind) e in
    let i : InsideAt (around_in s.kind) f.forest inside pre = subst (λ a. InsideAt a f.forest inside pre) (sym at) (
      (λ u. ap (map item_unmade) (f.reads u) ∙ content-unmade inside ∙ content-said inside c),
      (λ u. Loose-pre s.kind f.forest (f.loose s.kind) u ∙ sym none),
    ) in
    record {
      forest = f.forest;
      spells =
          f.spells ∙ sym (append-nil (content w [] inside)) ∙ ap (λ x. content w [] inside ++ encode_utf8_all x) (sym none)
          ∙ ap (λ x. x ++ encode_utf8_all pre) (sym (pick_true (is_content_branch s.kind) (content w [] inside) (blocks w false pre inside) e));
      neat = f.neat;
      apart = f.apart;
      convertible = not_structural s t e (parts_of f.forest);
      items = i.0;
      white = i.1;
    }
  where
    not_structural : (s : Start) → BranchTag s.kind → is_content_branch s.kind ≡ true → (parts : Parts) → is_convertible s.kind parts ≡ true
    not_structural s t e parts = elim (cases_Bool (is_among structural_kinds s.kind)) [
      | inr n ↦ ap (λ c. not c || has_blocks_alone parts) n
      | inl y ↦ absurd (opposite (is_content_branch s.kind) e (t.structural y).0)
    ]

pub inner_blocks : (w : Writer) (s : Start) (inside : Nodes) (pre : List ℕ) → BranchTag s.kind → is_content_branch s.kind ≡ false → Written w s.kind false pre inside → Inner w s inside pre
inner_blocks w s inside pre t e r =
    let at : around_in s.kind ≡ (if is_flow s.kind then Flow s.kind else Structural s.kind) = pick_false (is_content_branch s.kind) (Content []) (if is_flow s.kind then Flow s.kind else Structural s.kind) e in
    let i : InsideAt (around_in s.kind) r.forest inside pre = subst (λ a. InsideAt a r.forest inside pre) (sym at)
    (elim (cases_Bool (is_flow s.kind)) [
      | inl h ↦ subst (λ a. InsideAt a r.forest inside pre) (sym (pick_true (is_flow s.kind) (Flow s.kind) (Structural s.kind) h)) ((r.reads.closes h).later, (r.reads.closes h).white)
      | inr h ↦
          let b = r.reads.structural (t.class e h) in
          subst (λ a. InsideAt a r.forest inside pre) (sym (pick_false (is_flow s.kind) (Flow s.kind) (Structural s.kind) h)) (b.later, b.white)
    ]) in
    record {
      forest = r.forest;
      spells = r.spells ∙ ap (λ x. x ++ encode_utf8_all pre) (sym (pick_false (is_content_branch s.kind) (content w [] inside) (blocks w false pre inside) e));
      neat = r.neat;
      apart = r.apart;
      convertible = elim (cases_Bool (is_among structural_kinds s.kind)) [
        | inr n ↦ ap (λ c. not c || has_blocks_alone (parts_of r.forest)) n
        | inl y ↦ ap (λ c. not c || has_blocks_alone (parts_of r.forest)) y ∙ r.alone y
      ];
      items = i.0;
      white = i.1;
    }

-- an element around it
pub fresh_element : (w : Writer) (k : Kind) (s : Start) (inside : Nodes) (pre text : List ℕ) → IsBranch k s → BranchTag s.kind → (i : Inner w s inside pre) → spelling i.forest ≡ text ++ encode_utf8_all pre →
    ElementChunk s inside pre (element_text s text pre)
fresh_element w k s inside pre text b t i e =
    let attrs = canon_attrs (map attr_bytes s.head.attrs) in
    let c = clean_tag false (tag_of s.kind) s.head.attrs t.name_is t.void_is t.raw_is b.head.attrs in
    record {
      attrs = attrs;
      inner = i.forest;
      is =
          ap (λ x. x ++ end_text (encode_utf8_all (tag_of s.kind))) (append_assoc (start_text (encode_utf8_all (tag_of s.kind)) attrs false) text (encode_utf8_all pre))
          ∙ (λ j. start_text (t.bytes j) attrs false ++ sym e j ++ end_text (t.bytes j));
      tag = c.0;
      free = c.1;
      head_is = head_back s b.head;
      neat = i.neat;
      apart = i.apart;
      convertible = i.convertible;
      items = i.items;
      white = i.white;
    }

fresh_run : (w : Writer) (k : Kind) (inside : Nodes) (text : List ℕ) → IsContent inside → ContentWritten w inside → has_content inside ≡ true → text ≡ content w [] inside → RunChunk inside text
fresh_run w k inside text c f has is = record {
  run = f.forest;
  is = is ∙ sym f.spells;
  neat = f.neat;
  loose = f.loose;
  apart = f.apart;
  items = content_items inside;
  reads = f.reads;
  said = content-unmade inside ∙ content-said inside c;
  solid = ap is_white (is ∙ sym f.spells) ∙ content-not_white k inside f.forest (f.loose k) f.reads has;
}

fresh_chunk : (w : Writer) (k : Kind) (before : Bool) (s : Start) (inside : Nodes) (pre after : List ℕ) (bare : Bool) → is_bare before s inside after ≡ bare → IsBranch k s → BranchTag s.kind →
    (is_content_branch s.kind ≡ true → IsContent inside × (pre ≡ [])) → (IsContent inside → ContentWritten w inside) → Inner w s inside pre →
    let text : List ℕ = if is_content_branch s.kind then content w [] inside else blocks w false pre inside in
    Chunk bare s inside pre (if bare then text else element_text s text pre)
fresh_chunk w k before s inside pre after true e b t f g i =
    let bare = bare_is before s inside after e in
    let h : is_content_branch s.kind ≡ true = ap is_content_branch bare.kind in
    let c = (f h).0 in
    inr (refl, fresh_run w k inside _ c (g c) bare.content (pick_true (is_content_branch s.kind) (content w [] inside) (blocks w false pre inside) h))
fresh_chunk w k before s inside pre after false e b t f g i = inl (refl, fresh_element w k s inside pre _ b t i i.spells)

-- ---- one block

-- what the writer writes of it
record Chosen (w : Writer) (bare : Bool) (s : Start) (inside : Nodes) (pre : List ℕ) : Type 0 where
  part : List ℕ
  is :
      let text : List ℕ = if is_content_branch s.kind then content w [] inside else blocks w false pre inside in
      unwrap_or (original_of w bare s (node_items s inside pre)) (fresh_text w bare s text pre) ≡ part
  chunk : Chunk bare s inside pre part

taken : (c : Bool) (o : Option (List ℕ)) (part : List ℕ) → (if c then None else o) ≡ Some part → (c ≡ false) × (o ≡ Some part)
taken true o part e = cc
taken false o part e = (refl, e)

-- what is kept of a block reads as the block
abbrev pub Keeps : Writer → Bool → Start → Nodes → List ℕ → Type 0
Keeps w bare s inside pre = (part : List ℕ) → w.original s (node_items s inside pre) ≡ Some part → (s.generated && not bare) ≡ false → Chunk bare s inside pre part

chosen : (w : Writer) (k : Kind) (before : Bool) (s : Start) (inside : Nodes) (pre after : List ℕ) → IsBranch k s → Keeps w (is_bare before s inside after) s inside pre →
    (is_content_branch s.kind ≡ true → IsContent inside × (pre ≡ [])) → (IsContent inside → ContentWritten w inside) → Inner w s inside pre → (o : Option (List ℕ)) →
    original_of w (is_bare before s inside after) s (node_items s inside pre) ≡ o → Chosen w (is_bare before s inside after) s inside pre
chosen w k before s inside pre after b keeps f g i None e =
    let bare : Bool = is_bare before s inside after in
    let t = branch_tag s.kind b.element b.branch in
    let text : List ℕ = if is_content_branch s.kind then content w [] inside else blocks w false pre inside in
    record {
      part = if bare then text else element_text s text pre;
      is =
          ap (λ x. unwrap_or x (fresh_text w bare s text pre)) e
          ∙ pick_false (kind_same s.kind InternalList) _ _ t.other
          ∙ pick_false (is_leaf s.kind) _ _ b.branch;
      chunk = fresh_chunk w k before s inside pre after bare refl b t f g i;
    }
chosen w k before s inside pre after b keeps f g i (Some part) e =
    let bare : Bool = is_bare before s inside after in
    let text : List ℕ = if is_content_branch s.kind then content w [] inside else blocks w false pre inside in
    let o = taken (s.generated && not bare) (w.original s (node_items s inside pre)) part e in
    record { part = part; is = ap (λ x. unwrap_or x (fresh_text w bare s text pre)) e; chunk = keeps part o.1 o.0 }

-- where nothing in it is kept whole
pub keeps_plain : (refers : Bool) (w : Writer) → Known refers w → (before : Bool) (s : Start) (inside : Nodes) (pre after : List ℕ) → is_leaf s.kind ≡ false → NoWhole (said_items inside) →
    Keeps w (is_bare before s inside after) s inside pre
keeps_plain refers w known before s inside pre after b none part e g =
    let kept = known s inside pre part e in
    let own = kept.own (branch_stands s.kind b) (NoWhole-unmade kept.items (subst NoWhole (sym kept.said) none)) in
    kept_chunk before s inside pre after part kept.items b g kept.said own

block_written : (w : Writer) (k : Kind) (before : Bool) (s : Start) (inside later : Nodes) (pre closing : List ℕ) → IsBranch k s → (is_content_branch s.kind ≡ true → IsContent inside × (pre ≡ [])) →
    (c : Chosen w (is_bare before s inside (white_after later closing)) s inside pre) → Written w k (is_bare before s inside (white_after later closing)) closing later →
    Written w k before closing (Node s inside pre later)
block_written w k before s inside later pre closing b f c r =
    let bare : Bool = is_bare before s inside (white_after later closing) in
    let is : blocks w before closing (Node s inside pre later) ≡ encode_utf8_all s.pre ++ c.part ++ blocks w bare closing later = ap (λ x. encode_utf8_all s.pre ++ x ++ blocks w bare closing later) c.is in
    elim c.chunk [
      | inl p ↦
          element_written w k before s inside later pre closing c.part (placed k s b) p.1 (subst (λ x. Written w k x closing later) p.0 r)
          (is ∙ ap (λ x. encode_utf8_all s.pre ++ c.part ++ blocks w x closing later) p.0)
      | inr p ↦
          let h : is_content_branch s.kind ≡ true = ap is_content_branch (bare_is before s inside (white_after later closing) p.0).kind in
          run_written w k before s inside later pre closing c.part b p.0 (f h).1 p.1 (subst (λ x. Written w k x closing later) p.0 r)
          (is ∙ ap (λ x. encode_utf8_all s.pre ++ c.part ++ blocks w x closing later) p.0)
    ]

-- what stands inside, by the parent
inner_written : MarksMean → (refers : Bool) (w : Writer) → Known refers w → (s : Start) (inside : Nodes) (pre : List ℕ) → BranchTag s.kind → (is_content_branch s.kind ≡ true → IsContent inside × (pre ≡ [])) →
    (is_content_branch s.kind ≡ false → Written w s.kind false pre inside) → Inner w s inside pre
inner_written mean refers w known s inside pre t f g = elim (cases_Bool (is_content_branch s.kind)) [
  | inl e ↦ inner_content w s inside pre t e (f e).0 (f e).1 (content_written mean w (leaves_known refers w known) inside (f e).0)
  | inr e ↦ inner_blocks w s inside pre t e (g e)
]

-- a block of the form
pub formed_written : MarksMean → (refers : Bool) (w : Writer) → Known refers w → (k : Kind) (before : Bool) (s : Start) (inside later : Nodes) (pre closing : List ℕ) → IsBranch k s →
    Keeps w (is_bare before s inside (white_after later closing)) s inside pre → (is_content_branch s.kind ≡ true → IsContent inside × (pre ≡ [])) →
    (is_content_branch s.kind ≡ false → Written w s.kind false pre inside) → Written w k (is_bare before s inside (white_after later closing)) closing later → Written w k before closing (Node s inside pre later)
formed_written mean refers w known k before s inside later pre closing b keeps f g r =
    let after : List ℕ = white_after later closing in
    let t = branch_tag s.kind b.element b.branch in
    let content_is : IsContent inside → ContentWritten w inside = λ c. content_written mean w (leaves_known refers w known) inside c in
    block_written w k before s inside later pre closing b f
    (chosen w k before s inside pre after b keeps f content_is (inner_written mean refers w known s inside pre t f g) (original_of w (is_bare before s inside after) s (node_items s inside pre)) refl) r

-- ---- all blocks

pub written : MarksMean → (refers : Bool) (w : Writer) → Known refers w → (n : Nodes) (k : Kind) (before : Bool) (closing : List ℕ) → AreBlocks k n → is_white closing ≡ true → Written w k before closing n
written mean refers w known Empty k before closing b h = written_empty w k before closing h
written mean refers w known (Letter c marks later) k before closing b h = absurd b
written mean refers w known (Node s inside pre later) k before closing b h =
    let after : List ℕ = white_after later closing in
    let bare : Bool = is_bare before s inside after in
    let none : NoWhole (said_items inside) = inside-whole s inside pre b.1 (λ e. blocks-whole s.kind inside (b.2 e).0) in
    formed_written mean refers w known k before s inside later pre closing b.0 (keeps_plain refers w known before s inside pre after b.0.branch none) b.1
    (λ e. written mean refers w known inside s.kind false pre (b.2 e).0 (b.2 e).1)
    (written mean refers w known later k bare closing b.3 h)
