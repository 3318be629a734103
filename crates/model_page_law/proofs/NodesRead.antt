-- The forest of blocks is read as these blocks.
use Rattle.std.proofs.Common.{◌≡◌, ℕ, Bool, true, false, ◌&&◌, if◌then◌else◌, List, [], ◌∷◌, ◌++◌, map, None, refl, sym, ap, ◌∙◌, subst, inl, inr}
use Rattle.std.proofs.lemmas.List.{append-nil}
use Rattle.std.proofs.lemmas.Bool.{and_from, cases_Bool}
use Rattle.model_spelling.specs.Forest.{Forest, Nothing}
use Rattle.model_spelling.specs.Written.{canon_attrs, attr_bytes}
use Rattle.ve_kinds.specs.declared.kind.Kind.{Kind}
use Rattle.ve_kinds.specs.declared.kind.Kind.TheVariants.{P}
use Rattle.model_items.specs.declared.plain_item.PlainItem.{PlainItem}
use Rattle.model_items.specs.declared.plain_item.PlainItem.TheVariants.{Char, Opening, Closing}
use Rattle.ve_kinds.specs.Table.{may_hold, is_among, is_flow, is_content_branch, structural_kinds}
use Rattle.model_page.specs.Elements.{is_white, is_held}
use Rattle.model_page.specs.Parts.{Parts, parts_of}
use Rattle.model_page.specs.Fit.{Around, Flow, Structural, Content, Branch, around_in, is_convertible, fit_in_block, fit_of}
use Rattle.model_page.specs.Fragment.{item_unmade}
use Rattle.ve_kinds.specs.Tags.{kind_of_tag}
use Rattle.model_page.specs.Tags.{tag_of, is_inline_tag}
use Rattle.ve_base.specs.Empty.{empty_head}
use Rattle.model_page.specs.Pieces.{Progress}
use Rattle.model_page.specs.Convert.{inside_piece, made_of}
use Rattle.model_page_write.specs.Nodes.{Start, Nodes, Empty, Letter, Node}
use Rattle.model_page_write.specs.Written.{is_empty, white_after, is_bare}
use Rattle.model_page_law.proofs.FormedNodes.{MarksMean, IsContent, IsBranch, AreBlocks}
use Rattle.model_page_law.specs.Formed.{IsHead}
use Rattle.model_page_law.proofs.EscapeLemmas.{pick_true, pick_false, letters_back}
use Rattle.model_page_law.proofs.ContentLemmas.{Reads, content_levels, content_items, leaf_items, content-Reads}
use Rattle.model_page_law.proofs.BlockText.{white_before, followed_by, block_element, blocks_forest}
use Rattle.model_page_law.proofs.BlockReads.{AtBlock, Closes, Inside, Closes-AtBlock, AtBlock-nothing, AtBlock-element, AtBlock-white, Closes-white, Closes-bare}
use Rattle.model_page_law.proofs.TagLemmas.{BranchTag, branch_tag}
use Rattle.model_page_law.proofs.CleanLemmas.{head_back, clean_tag, good_content, content-Sound}
use Rattle.model_page_law.proofs.BlankLemmas.{content-not_white, Loose-pre}
use Rattle.model_page_law.proofs.BlockClean.{is_empty-nil, IsBare, bare_is, never_bare, inner_forest, convertible}

-- ---- the items of nodes, up to origins and the flag generated

abbrev pub said_items : Nodes → List PlainItem
said_items Empty = []
said_items (Letter c marks later) = Char c marks ∷ said_items later
said_items (Node s inside pre later) = Opening s.kind s.head s.marks s.pre None false ∷ said_items inside ++ Closing s.kind pre ∷ said_items later

-- content is read as it is said
content-said : (n : Nodes) → IsContent n → content_items n ≡ said_items n
content-said Empty c = refl
content-said (Letter ch marks later) c = ap (λ xs. Char ch marks ∷ xs) (content-said later c.2)
content-said (Node s inside pre later) c =
    let l = c.0 in
    (λ i. Opening s.kind s.head s.marks (sym l.before i) None false ∷ said_items (sym l.alone i) ++ Closing s.kind (sym l.closing i) ∷ content-said later c.2 i)

content-unmade : (n : Nodes) → map item_unmade (content_items n) ≡ content_items n
content-unmade Empty = refl
content-unmade (Letter ch marks later) = ap (λ xs. Char ch marks ∷ xs) (content-unmade later)
content-unmade (Node s inside pre later) = ap (leaf_items s) (content-unmade later)

content_as_said : (n : Nodes) → IsContent n → map item_unmade (content_items n) ≡ said_items n
content_as_said n c = content-unmade n ∙ content-said n c

-- ---- what nodes are read as

pub record BlocksRead (k : Kind) (before : Bool) (closing : List ℕ) (after : List ℕ) (f : Forest) (items : List PlainItem) : Type 0 where
  pub closes : Closes (Flow k) f items closing
  pub stands : before ≡ true → is_empty after ≡ true → AtBlock (Flow k) f items closing
  pub structural : is_among structural_kinds k ≡ true → AtBlock (Structural k) f items closing

closes_same : (around : Around) (f : Forest) (xs ys : List PlainItem) (pre : List ℕ) → xs ≡ ys → Closes around f xs pre → Closes around f ys pre
closes_same around f xs ys pre e c = subst (λ zs. Closes around f zs pre) e c

block_same : (around : Around) (f : Forest) (xs ys : List PlainItem) (pre : List ℕ) → xs ≡ ys → AtBlock around f xs pre → AtBlock around f ys pre
block_same around f xs ys pre e c = subst (λ zs. AtBlock around f zs pre) e c

-- what stands inside of a node
abbrev InsideAt : Around → Forest → List PlainItem → List ℕ → Type 0
InsideAt around f items pre =
    ((w : Progress) → map item_unmade (inside_piece around w (made_of around (parts_of f) w)).later.items ≡ items)
    × ((w : Progress) → (inside_piece around w (made_of around (parts_of f) w)).pre ≡ pre)

inside_at : MarksMean → (s : Start) (inside : Nodes) (pre : List ℕ) → BranchTag s.kind → (is_content_branch s.kind ≡ true → IsContent inside × (pre ≡ [])) →
    (is_content_branch s.kind ≡ false → BlocksRead s.kind false pre (white_after inside pre) (blocks_forest false pre inside) (said_items inside)) →
    InsideAt (around_in s.kind) (inner_forest s inside pre) (said_items inside) pre
inside_at mean s inside pre t f g =
    let content : Forest = (content_levels [] inside).here in
    let blocks : Forest = blocks_forest false pre inside in
    elim (cases_Bool (is_content_branch s.kind)) [
      | inl e ↦
          let p = f e in
          let reads : Reads [] content (content_items inside) = content-Reads mean letters_back inside (good_content inside p.0) in
          subst (λ a. InsideAt a (inner_forest s inside pre) (said_items inside) pre) (sym (pick_true (is_content_branch s.kind) (Content []) (if is_flow s.kind then Flow s.kind else Structural s.kind) e))
          (subst (λ x. InsideAt (Content []) x (said_items inside) pre) (sym (pick_true (is_content_branch s.kind) content blocks e)) (
            (λ w. ap (map item_unmade) (reads w) ∙ content_as_said inside p.0),
            (λ w. Loose-pre s.kind content (content-Sound s.kind inside [] p.0).0.loose w ∙ sym p.1),
          ))
      | inr e ↦
          let r = g e in
          subst (λ a. InsideAt a (inner_forest s inside pre) (said_items inside) pre) (sym (pick_false (is_content_branch s.kind) (Content []) (if is_flow s.kind then Flow s.kind else Structural s.kind) e))
          (subst (λ x. InsideAt (if is_flow s.kind then Flow s.kind else Structural s.kind) x (said_items inside) pre) (sym (pick_false (is_content_branch s.kind) content blocks e))
          (elim (cases_Bool (is_flow s.kind)) [
            | inl h ↦ subst (λ a. InsideAt a blocks (said_items inside) pre) (sym (pick_true (is_flow s.kind) (Flow s.kind) (Structural s.kind) h)) (r.closes.later, r.closes.white)
            | inr h ↦
                let b = r.structural (t.class e h) in
                subst (λ a. InsideAt a blocks (said_items inside) pre) (sym (pick_false (is_flow s.kind) (Flow s.kind) (Structural s.kind) h)) (b.later, b.white)
          ]))
    ]

-- ---- a node that is not bare

fits_block : (k : Kind) (s : Start) (inner : Parts) → BranchTag s.kind → may_hold k s.kind ≡ true → is_convertible s.kind inner ≡ true → fit_in_block k inner (kind_of_tag (tag_of s.kind)) ≡ Branch s.kind
fits_block k s inner t held c =
    ap (fit_in_block k inner) t.kind ∙ pick_true (may_hold k s.kind && is_convertible s.kind inner) _ _ (and_from (may_hold k s.kind) (is_convertible s.kind inner) held c)

fits_flow : (k : Kind) (s : Start) (inner : Parts) → BranchTag s.kind → may_hold k s.kind ≡ true → is_convertible s.kind inner ≡ true → fit_of (Flow k) (tag_of s.kind) inner ≡ Branch s.kind
fits_flow k s inner t held c = pick_false (is_inline_tag (tag_of s.kind)) _ _ t.block ∙ fits_block k s inner t held c

-- its opening with the whitespace before it
with_pre : (s : Start) (xs : List PlainItem) → s.marks ≡ [] → Opening s.kind s.head [] (s.pre ++ []) None false ∷ xs ≡ Opening s.kind s.head s.marks s.pre None false ∷ xs
with_pre s xs m = (λ i. Opening s.kind s.head (sym m i) (append-nil s.pre i) None false ∷ xs)

without_pre : (s : Start) (xs : List PlainItem) → s.marks ≡ [] → s.pre ≡ [] → Opening s.kind s.head [] [] None false ∷ xs ≡ Opening s.kind s.head s.marks s.pre None false ∷ xs
without_pre s xs m p = (λ i. Opening s.kind s.head (sym m i) (sym p i) None false ∷ xs)

white_nothing : (white : List ℕ) (f : Forest) → white ≡ [] → f ≡ white_before white f
white_nothing white f e = ap (λ w. white_before w f) (sym e)

node_items : Start → List PlainItem → List ℕ → List PlainItem → List PlainItem
node_items s xs pre ys = xs ++ Closing s.kind pre ∷ ys

element_read : (k : Kind) (before : Bool) (s : Start) (inner rest : Forest) (xs ys : List PlainItem) (pre closing : List ℕ) → IsBranch k s → BranchTag s.kind →
    is_convertible s.kind (parts_of inner) ≡ true → InsideAt (around_in s.kind) inner xs pre →
    Closes (Flow k) rest ys closing → (is_among structural_kinds k ≡ true → Closes (Structural k) rest ys closing) →
    BlocksRead k before closing s.pre (white_before s.pre (block_element s inner rest)) (Opening s.kind s.head s.marks s.pre None false ∷ xs ++ Closing s.kind pre ∷ ys)
element_read k before s inner rest xs ys pre closing b t c i r st =
    let f : Forest = block_element s inner rest in
    let free : is_held (canon_attrs (map attr_bytes s.head.attrs)) ≡ false = (clean_tag false (tag_of s.kind) s.head.attrs t.name_is t.void_is t.raw_is b.head.attrs).1 in
    let inside : Inside s.kind inner xs pre = record { later = i.0; white = i.1 } in
    let more : List PlainItem = xs ++ Closing s.kind pre ∷ ys in
    let first : List PlainItem = Opening s.kind s.head [] [] None false ∷ more in
    let here : AtBlock (Flow k) f first closing =
    AtBlock-element (Flow k) s inner rest xs ys pre closing (fits_flow k s (parts_of inner) t b.held c) free (head_back s b.head) inside r in
    record {
      closes = closes_same (Flow k) (white_before s.pre f) _ _ closing (with_pre s more b.marks) (Closes-white k s.pre f first closing b.before here);
      stands = λ h empty.
          let no : s.pre ≡ [] = is_empty-nil s.pre empty in
          subst (λ g. AtBlock (Flow k) g (Opening s.kind s.head s.marks s.pre None false ∷ more) closing) (white_nothing s.pre f no) (block_same (Flow k) f first _ closing (without_pre s more b.marks no) here);
      structural = λ h.
          block_same (Structural k) (white_before s.pre f) _ _ closing (with_pre s more b.marks)
          (AtBlock-white k s.pre f first closing b.before
          (AtBlock-element (Structural k) s inner rest xs ys pre closing (fits_block k s (parts_of inner) t b.held c) free (head_back s b.head) inside (st h)));
    }

-- ---- a bare paragraph

bare_items : (s : Start) (inside : Nodes) (pre : List ℕ) (ys : List PlainItem) → s.kind ≡ P → s.head.attrs ≡ [] → s.pre ≡ [] → s.marks ≡ [] → pre ≡ [] → IsHead s.head → IsContent inside →
    Opening P empty_head [] [] None false ∷ map item_unmade (content_items inside) ++ Closing P [] ∷ ys ≡ Opening s.kind s.head s.marks s.pre None false ∷ said_items inside ++ Closing s.kind pre ∷ ys
bare_items s inside pre ys kind attrs white marks closing head content =
    let h : empty_head ≡ s.head = ap (λ a. record { tag = []; attrs = a; raw = []; reference = None; owner = false }) (sym attrs) ∙ sym head.alone in
    (λ i. Opening (sym kind i) (h i) (sym marks i) (sym white i) None false ∷ content_as_said inside content i ++ Closing (sym kind i) (sym closing i) ∷ ys)

bare_read : MarksMean → (k : Kind) (before : Bool) (s : Start) (inside : Nodes) (after : List ℕ) (rest : Forest) (ys : List PlainItem) (pre closing : List ℕ) → IsBranch k s →
    IsBare before s inside after → (is_content_branch s.kind ≡ true → IsContent inside × (pre ≡ [])) → (is_among structural_kinds k ≡ true → ⊥) → AtBlock (Flow k) rest ys closing →
    BlocksRead k before closing s.pre (white_before s.pre (followed_by (inner_forest s inside pre) rest)) (Opening s.kind s.head s.marks s.pre None false ∷ said_items inside ++ Closing s.kind pre ∷ ys)
bare_read mean k before s inside after rest ys pre closing b bare f st r =
    let e : is_content_branch s.kind ≡ true = ap is_content_branch bare.kind in
    let p = f e in
    let content : Forest = (content_levels [] inside).here in
    let sound = (content-Sound k inside [] p.0).0 in
    let reads : Reads [] content (content_items inside) = content-Reads mean letters_back inside (good_content inside p.0) in
    let c : Closes (Flow k) (followed_by content rest) (Opening P empty_head [] [] None false ∷ map item_unmade (content_items inside) ++ Closing P [] ∷ ys) closing =
    Closes-bare k content rest (content_items inside) ys closing sound.loose (content-not_white k inside content sound.loose reads bare.content) reads r in
    record {
      closes =
          subst (λ g. Closes (Flow k) g (Opening s.kind s.head s.marks s.pre None false ∷ said_items inside ++ Closing s.kind pre ∷ ys) closing)
          (ap (λ x. followed_by x rest) (sym (pick_true (is_content_branch s.kind) content (blocks_forest false pre inside) e)) ∙ white_nothing s.pre (followed_by (inner_forest s inside pre) rest) bare.white)
          (closes_same (Flow k) (followed_by content rest) _ _ closing (bare_items s inside pre ys bare.kind bare.attrs bare.white b.marks p.1 b.head p.0) c);
      stands = λ h empty. absurd (both h bare.first);
      structural = λ h. absurd (st h);
    }
  where
    both : before ≡ true → before ≡ false → ⊥
    both a b = cc

-- ---- all nodes

node_read : MarksMean → (k : Kind) (before : Bool) (s : Start) (inside : Nodes) (after : List ℕ) (bare : Bool) (rest : Forest) (ys : List PlainItem) (pre closing : List ℕ) → IsBranch k s →
    is_bare before s inside after ≡ bare → (is_content_branch s.kind ≡ true → IsContent inside × (pre ≡ [])) → (is_content_branch s.kind ≡ false → AreBlocks s.kind inside × (is_white pre ≡ true)) →
    (is_content_branch s.kind ≡ false → BlocksRead s.kind false pre (white_after inside pre) (blocks_forest false pre inside) (said_items inside)) →
    BlocksRead k bare closing after rest ys →
    BlocksRead k before closing s.pre (white_before s.pre (if bare then followed_by (inner_forest s inside pre) rest else block_element s (inner_forest s inside pre) rest))
    (Opening s.kind s.head s.marks s.pre None false ∷ said_items inside ++ Closing s.kind pre ∷ ys)
node_read mean k before s inside after true rest ys pre closing b e f g i r =
    let bare = bare_is before s inside after e in
    bare_read mean k before s inside after rest ys pre closing b bare f (λ h. both (never_bare k before s inside after h b.held)) (r.stands refl bare.after_is)
  where
    both : is_bare before s inside after ≡ false → ⊥
    both h = cc
node_read mean k before s inside after false rest ys pre closing b e f g i r =
    let t = branch_tag s.kind b.element b.branch in
    element_read k before s (inner_forest s inside pre) rest (said_items inside) ys pre closing b t (convertible s inside pre t g) (inside_at mean s inside pre t f i) r.closes
    (λ h. Closes-AtBlock (Structural k) rest ys closing (r.structural h))

-- blocks that are written are read as these blocks
pub blocks_read : MarksMean → (n : Nodes) (k : Kind) (before : Bool) (closing : List ℕ) → AreBlocks k n → is_white closing ≡ true →
    BlocksRead k before closing (white_after n closing) (blocks_forest before closing n) (said_items n)
blocks_read mean Empty k before closing b h = record {
  closes = subst (λ c. Closes (Flow k) (white_before closing Nothing) [] c) (append-nil closing) (Closes-white k closing Nothing [] [] h (AtBlock-nothing (Flow k)));
  stands = λ e empty. subst (λ c. AtBlock (Flow k) (white_before c Nothing) [] c) (sym (is_empty-nil closing empty)) (AtBlock-nothing (Flow k));
  structural = λ e. subst (λ c. AtBlock (Structural k) (white_before closing Nothing) [] c) (append-nil closing) (AtBlock-white k closing Nothing [] [] h (AtBlock-nothing (Structural k)));
}
blocks_read mean (Letter c marks later) k before closing b h = absurd b
blocks_read mean (Node s inside pre later) k before closing b h =
    let after : List ℕ = white_after later closing in
    let bare : Bool = is_bare before s inside after in
    node_read mean k before s inside after bare (blocks_forest bare closing later) (said_items later) pre closing b.0 refl b.1 b.2
    (λ e. blocks_read mean inside s.kind false pre (b.2 e).0 (b.2 e).1)
    (blocks_read mean later k bare closing b.3 h)
