-- Blocks that are written are read as these blocks, whether they are kept or written afresh: one
-- block before others.
use Rattle.std.proofs.Common.{◌≡◌, ℕ, Bool, true, false, not, ◌&&◌, ◌==◌, if◌then◌else◌, List, [], ◌∷◌, ◌++◌, map, None, refl, sym, ap, ◌∙◌, subst, append_assoc, append-nil, arith}
use Rattle.std.proofs.lemmas.Bool.{and_parts, and_from}
use Rattle.std.proofs.lemmas.Grind.{common_steps}
use Rattle.std.proofs.lemmas.List.{map-append}
use Rattle.std.specs.Prelude.{chars, encode_utf8_all, unwrap_or}
use Rattle.model_spelling.specs.Grammar.{Attr as Spelled, Comment, token_text, start_text, end_text}
use Rattle.model_spelling.specs.Forest.{Forest, Nothing, Text, Remark, Void, RawElement, Element, spelling, starts_with_text}
use Rattle.ve_kinds.specs.declared.kind.Kind.{Kind}
use Rattle.ve_kinds.specs.declared.kind.Kind.TheVariants.{Root, P, H1, H2, H3, H4, H5, H6, Pre, Section, Li, Dt, Dd, Blockquote, Div, Td, Th, Caption, InternalItem, Ul, Ol, Dl, Table, Thead, Tbody, Tfoot, Tr, InternalList, TransBlock, AlienBlock, Br, Img, Ref, TransInline, AlienInline}
use Rattle.ve_kinds.specs.Table.{kind_same, may_hold, is_among, is_content_branch, is_element, is_flow, is_leaf, is_block_leaf, structural_kinds}
use Rattle.ve_kinds.specs.Tags.{kind_of_tag}
use Rattle.ve_base.specs.Empty.{empty_head}
use Rattle.model_items.specs.declared.plain_item.PlainItem.{PlainItem}
use Rattle.model_items.specs.declared.plain_item.PlainItem.TheVariants.{Opening, Closing}
use Rattle.model_page.specs.Elements.{is_white_char, is_white, is_held}
use Rattle.model_page.specs.Tags.{tag_of, is_inline_tag}
use Rattle.model_page.specs.Parts.{Parts, Ended, Words, Note, Group, Single, Parent, parts_of}
use Rattle.model_page.specs.Fit.{Around, Flow, Structural, Branch, around_in, has_blocks_alone, is_convertible, fit_in_block, fit_of}
use Rattle.model_page.specs.Fragment.{item_unmade}
use Rattle.model_page.specs.Heads.{head_with}
use Rattle.model_page.specs.Pieces.{Made, Progress, past, source_span, node, with_white, run_dropped, paragraph_before, run_ended, run_closed, before_run}
use Rattle.model_page.specs.Convert.{element_source, element_made, inside_of, inside_piece, made_of}
use Rattle.model_page_write.specs.Nodes.{Start, Nodes, Empty, Node, node_items}
use Rattle.model_page_write.specs.Written.{is_empty, white_after, is_bare, Writer, leaf_text, fresh_text, original_of, content, blocks}
use Rattle.model_page_law.specs.Formed.{IsHead}
use Rattle.model_page_law.proofs.NeatForests.{without, NeatTag, Neat}
use Rattle.model_page_law.proofs.FormedNodes.{IsBranch}
use Rattle.model_page_law.proofs.EscapeLemmas.{pick_true, pick_false}
use Rattle.model_page_law.proofs.ContentLemmas.{Reads, parts_if_false}
use Rattle.model_page_law.proofs.TagLemmas.{BranchTag, branch_tag}
use Rattle.model_page_law.proofs.TileLemmas.{run_ended-source}
use Rattle.model_page_law.proofs.BlockText.{white_before, followed_by}
use Rattle.model_page_law.proofs.BlockReads.{Loose, AtBlock, Closes, Closes-AtBlock, AtBlock-nothing, AtBlock-white, Closes-white, Closes-bare, white_bytes}
use Rattle.model_page_law.proofs.BlockClean.{is_empty-nil, IsBare, bare_is, never_bare}
use Rattle.model_page_law.proofs.NodesRead.{said_items}
use Rattle.model_spelling.proofs.Proved.{law_reads_right}
use Rattle.model_page_law.proofs.OneLemmas.{spelled-Neat}
use Rattle.model_kept_law.specs.Readable.{leaf_forest, shares_about, is_apart, IsWholeLeaf}
use Rattle.model_kept_law.proofs.FitFacts.{HoldsBlocks}
use Rattle.model_kept_law.proofs.ApartParts.{Apart}
use Rattle.model_kept_law.proofs.Unreferred.{unreferred_apart}
use Rattle.model_kept_law.proofs.JoinedParts.{joined, Clear, parts_followed, joined_apart, joined_alone, one_neat, one_starts, one_clear}
use Rattle.model_kept_law.proofs.LeafParts.{block_leaf, block_leaf_inline, no_paragraph, LeafPart, leaf_part, leaf_block}

-- ---- a block that its parent may hold

pub record IsPlaced (parent : Kind) (s : Start) : Type 0 where
  pub held : may_hold parent s.kind ≡ true
  pub element : is_element s.kind ≡ true
  pub branch : is_leaf s.kind ≡ false
  pub marks : s.marks ≡ []
  pub before : is_white s.pre ≡ true

pub placed : (parent : Kind) (s : Start) → IsBranch parent s → IsPlaced parent s
placed parent s b = record { held = b.held; element = b.element; branch = b.branch; marks = b.marks; before = b.before }

-- ---- how one block is spelled

-- by an element that reads as the block
pub record ElementChunk (s : Start) (inside : Nodes) (pre text : List ℕ) : Type 0 where
  pub attrs : List Spelled
  pub inner : Forest
  pub is : text ≡ start_text (tag_of s.kind) attrs false ++ spelling inner ++ end_text (tag_of s.kind)
  pub tag : NeatTag false (tag_of s.kind) attrs
  pub free : is_held attrs ≡ false
  pub head_is : head_with attrs ≡ s.head
  pub neat : Neat inner
  pub apart : Apart (parts_of inner)
  pub convertible : is_convertible s.kind (parts_of inner) ≡ true
  pub items : (w : Progress) → map item_unmade (inside_piece (around_in s.kind) w (made_of (around_in s.kind) (parts_of inner) w)).later.items ≡ said_items inside
  pub white : (w : Progress) → (inside_piece (around_in s.kind) w (made_of (around_in s.kind) (parts_of inner) w)).pre ≡ pre

-- or, without tags, by content that reads as what is in it
pub record RunChunk (inside : Nodes) (text : List ℕ) : Type 0 where
  pub run : Forest
  pub is : text ≡ spelling run
  pub neat : Neat run
  pub loose : (k : Kind) → Loose k run
  pub apart : Apart (parts_of run)
  pub items : List PlainItem
  pub reads : Reads [] run items
  pub said : map item_unmade items ≡ said_items inside
  pub solid : is_white text ≡ false

-- ---- blocks as they are written, with the whitespace after them

-- what they are read as in a parent of this kind
pub record BlocksAre (k : Kind) (before : Bool) (closing after : List ℕ) (f : Forest) (items : List PlainItem) : Type 0 where
  pub closes : is_flow k ≡ true → Closes (Flow k) f items closing
  pub stands : is_flow k ≡ true → before ≡ true → is_empty after ≡ true → AtBlock (Flow k) f items closing
  pub structural : is_among structural_kinds k ≡ true → AtBlock (Structural k) f items closing

pub record Written (w : Writer) (k : Kind) (before : Bool) (closing : List ℕ) (n : Nodes) : Type 0 where
  pub forest : Forest
  pub spells : spelling forest ≡ blocks w before closing n ++ encode_utf8_all closing
  pub neat : Neat forest
  pub starts : before ≡ true → is_empty (white_after n closing) ≡ true → starts_with_text forest ≡ false
  pub reads : BlocksAre k before closing (white_after n closing) forest (said_items n)
  pub apart : Apart (parts_of forest)
  pub alone : is_among structural_kinds k ≡ true → has_blocks_alone (parts_of forest) ≡ true
  pub clear : (g : Forest) → is_apart g n ≡ true → Clear g (parts_of forest)

-- ---- whitespace before

spelling-white_before : (white : List ℕ) (f : Forest) → spelling (white_before white f) ≡ encode_utf8_all white ++ spelling f
spelling-white_before [] f = refl
spelling-white_before (c ∷ cs) f = refl

white-without : (white : List ℕ) → is_white white ≡ true → without 60 white ≡ true
white-without [] h = refl
white-without (c ∷ cs) h = let p = and_parts (is_white_char c) (is_white cs) h in and_from (not (c == 60)) (without 60 cs) (not_tag c p.0) (white-without cs p.1)
  where
    not_tag : (c : ℕ) → is_white_char c ≡ true → not (c == 60) ≡ true
    not_tag c h = grind (arith, common_steps)

Neat-white_before : (white : List ℕ) (f : Forest) → is_white white ≡ true → starts_with_text f ≡ false → Neat f → Neat (white_before white f)
Neat-white_before [] f h s n = n
Neat-white_before (x ∷ xs) f h s n = (ap is_empty (white_bytes (x ∷ xs) h), ap (without 60) (white_bytes (x ∷ xs) h) ∙ white-without (x ∷ xs) h, s, n)

starts-white_before : (white : List ℕ) (f : Forest) → is_empty white ≡ true → starts_with_text f ≡ false → starts_with_text (white_before white f) ≡ false
starts-white_before [] f h s = s
starts-white_before (c ∷ cs) f h s = cc

Apart-white_before : (white : List ℕ) (f : Forest) → Apart (parts_of f) → Apart (parts_of (white_before white f))
Apart-white_before [] f a = a
Apart-white_before (c ∷ cs) f a = a

alone-white_before : (white : List ℕ) (f : Forest) → is_white white ≡ true → has_blocks_alone (parts_of f) ≡ true → has_blocks_alone (parts_of (white_before white f)) ≡ true
alone-white_before [] f h a = a
alone-white_before (c ∷ cs) f h a = and_from (is_white (encode_utf8_all (c ∷ cs))) (has_blocks_alone (parts_of f)) (ap is_white (white_bytes (c ∷ cs) h) ∙ h) a

clear_before : (g : Forest) (white : List ℕ) (f : Forest) → Clear g (parts_of f) → ((t : List ℕ) → Clear g (Words t (parts_of f))) → Clear g (parts_of (white_before white f))
clear_before g [] f c d = c
clear_before g (x ∷ xs) f c d = d (encode_utf8_all (x ∷ xs))

white_nothing : (white : List ℕ) (f : Forest) → white ≡ [] → f ≡ white_before white f
white_nothing white f e = ap (λ w. white_before w f) (sym e)

-- ---- nothing but whitespace

pub written_empty : (w : Writer) (k : Kind) (before : Bool) (closing : List ℕ) → is_white closing ≡ true → Written w k before closing Empty
written_empty w k before closing h = record {
  forest = white_before closing Nothing;
  spells = spelling-white_before closing Nothing ∙ append-nil (encode_utf8_all closing);
  neat = Neat-white_before closing Nothing h refl tt;
  starts = λ b e. starts-white_before closing Nothing e refl;
  reads = record {
    closes = λ n. subst (λ c. Closes (Flow k) (white_before closing Nothing) [] c) (append-nil closing) (Closes-white k closing Nothing [] [] h (AtBlock-nothing (Flow k)));
    stands = λ n e empty. subst (λ c. AtBlock (Flow k) (white_before c Nothing) [] c) (sym (is_empty-nil closing empty)) (AtBlock-nothing (Flow k));
    structural = λ e. subst (λ c. AtBlock (Structural k) (white_before closing Nothing) [] c) (append-nil closing) (AtBlock-white k closing Nothing [] [] h (AtBlock-nothing (Structural k)));
  };
  apart = Apart-white_before closing Nothing tt;
  alone = λ e. alone-white_before closing Nothing h refl;
  clear = λ g e. clear_before g closing Nothing tt (λ t. tt);
}

-- ---- an element before

ended_run : (part : List ℕ) (w : Progress) (m : Made) → (run_ended part w m).run.items ≡ []
ended_run [] w m = refl
ended_run (b ∷ bs) w m = chosen (is_white (b ∷ bs)) (with_white (chars (b ∷ bs)) (run_dropped m)) (paragraph_before (source_span w (b ∷ bs)) m) refl refl
  where
    chosen : (c : Bool) (x y : Made) → x.run.items ≡ [] → y.run.items ≡ [] → (if c then x else y).run.items ≡ []
    chosen true x y f g = f
    chosen false x y f g = g

AtBlock-own : (around : Around) (s : Start) (inside : Nodes) (rest : Forest) (ys : List PlainItem) (pre text closing : List ℕ) (c : ElementChunk s inside pre text) →
    fit_of around (tag_of s.kind) (parts_of c.inner) ≡ Branch s.kind → Closes around rest ys closing →
    AtBlock around (Element (tag_of s.kind) c.attrs c.inner rest) (Opening s.kind s.head [] [] None false ∷ said_items inside ++ Closing s.kind pre ∷ ys) closing
AtBlock-own around s inner_nodes rest ys pre text closing chunk fits c =
    record {
      source = λ w. ap (λ m. m.source) (is w) ∙ run_ended-source (made_of around (parts_of rest) (suffix w)).source (suffix w) (made_of around (parts_of rest) (suffix w));
      run = λ w. ap (λ m. m.run.items) (is w) ∙ ended_run (made_of around (parts_of rest) (suffix w)).source (suffix w) (made_of around (parts_of rest) (suffix w));
      later = λ w.
          ap (λ m. map item_unmade m.later.items) (is w)
          ∙ map-append item_unmade (Opening s.kind (head_with attrs) [] [] None false ∷ (inside w).later.items ++ Closing s.kind (inside w).pre ∷ []) (run_closed (suffix w) (made_of around (parts_of rest) (suffix w))).later.items
          ∙ ap (λ zs. Opening s.kind (head_with attrs) [] [] None false ∷ zs ++ map item_unmade (run_closed (suffix w) (made_of around (parts_of rest) (suffix w))).later.items) (map-append item_unmade (inside w).later.items (Closing s.kind (inside w).pre ∷ []))
          ∙ (λ j. Opening s.kind (chunk.head_is j) [] [] None false ∷ (chunk.items (at w) j ++ Closing s.kind (chunk.white (at w) j) ∷ []) ++ c.later (suffix w) j)
          ∙ ap (λ zs. Opening s.kind s.head [] [] None false ∷ zs) (append_assoc (said_items inner_nodes) (Closing s.kind pre ∷ []) ys);
      white = λ w. ap (λ m. m.pre) (is w) ∙ c.white (suffix w);
    }
  where
    attrs : List Spelled
    attrs = chunk.attrs

    name : List ℕ
    name = tag_of s.kind

    part : List ℕ
    part = element_source name attrs (parts_of chunk.inner)

    at : Progress → Progress
    at w = inside_of w name attrs

    inside : Progress → Made
    inside w = inside_piece (around_in s.kind) (at w) (made_of (around_in s.kind) (parts_of chunk.inner) (at w))

    suffix : Progress → Progress
    suffix w = past w part (inside w).owners

    is : (w : Progress) → made_of around (parts_of (Element name attrs chunk.inner rest)) w ≡ before_run (suffix w) (node s.kind (head_with attrs) [] false (source_span w part) (inside w).later (inside w).pre) (inside w).owners (made_of around (parts_of rest) (suffix w))
    is w =
        ap (λ x. made_of around x w) (parts_if_false (is_held attrs) _ (Parent name attrs (parts_of chunk.inner) (parts_of rest)) chunk.free)
        ∙ ap (element_made around name attrs part (λ a. made_of a (parts_of chunk.inner)) (made_of around (parts_of rest)) w) fits

fits_block : (k : Kind) (s : Start) (inner : Parts) → BranchTag s.kind → may_hold k s.kind ≡ true → is_convertible s.kind inner ≡ true → fit_in_block k inner (kind_of_tag (tag_of s.kind)) ≡ Branch s.kind
fits_block k s inner t held c =
    ap (fit_in_block k inner) t.kind ∙ pick_true (may_hold k s.kind && is_convertible s.kind inner) _ _ (and_from (may_hold k s.kind) (is_convertible s.kind inner) held c)

fits_flow : (k : Kind) (s : Start) (inner : Parts) → BranchTag s.kind → may_hold k s.kind ≡ true → is_convertible s.kind inner ≡ true → fit_of (Flow k) (tag_of s.kind) inner ≡ Branch s.kind
fits_flow k s inner t held c = pick_false (is_inline_tag (tag_of s.kind)) _ _ t.block ∙ fits_block k s inner t held c

closes_same : (around : Around) (f : Forest) (xs ys : List PlainItem) (pre : List ℕ) → xs ≡ ys → Closes around f xs pre → Closes around f ys pre
closes_same around f xs ys pre e c = subst (λ zs. Closes around f zs pre) e c

block_same : (around : Around) (f : Forest) (xs ys : List PlainItem) (pre : List ℕ) → xs ≡ ys → AtBlock around f xs pre → AtBlock around f ys pre
block_same around f xs ys pre e c = subst (λ zs. AtBlock around f zs pre) e c

with_pre : (s : Start) (xs : List PlainItem) → s.marks ≡ [] → Opening s.kind s.head [] (s.pre ++ []) None false ∷ xs ≡ Opening s.kind s.head s.marks s.pre None false ∷ xs
with_pre s xs m = (λ i. Opening s.kind s.head (sym m i) (append-nil s.pre i) None false ∷ xs)

without_pre : (s : Start) (xs : List PlainItem) → s.marks ≡ [] → s.pre ≡ [] → Opening s.kind s.head [] [] None false ∷ xs ≡ Opening s.kind s.head s.marks s.pre None false ∷ xs
without_pre s xs m p = (λ i. Opening s.kind s.head (sym m i) (sym p i) None false ∷ xs)

-- a block with the whitespace before it
placed_reads : (k : Kind) (before : Bool) (s : Start) (f : Forest) (more : List PlainItem) (closing : List ℕ) → s.marks ≡ [] → is_white s.pre ≡ true →
    (is_flow k ≡ true → AtBlock (Flow k) f (Opening s.kind s.head [] [] None false ∷ more) closing) →
    (is_among structural_kinds k ≡ true → AtBlock (Structural k) f (Opening s.kind s.head [] [] None false ∷ more) closing) →
    BlocksAre k before closing s.pre (white_before s.pre f) (Opening s.kind s.head s.marks s.pre None false ∷ more)
placed_reads k before s f more closing marks white flow structural =
    let first : List PlainItem = Opening s.kind s.head [] [] None false ∷ more in
    record {
      closes = λ n. closes_same (Flow k) (white_before s.pre f) _ _ closing (with_pre s more marks) (Closes-white k s.pre f first closing white (flow n));
      stands = λ n h empty.
          let no_white : s.pre ≡ [] = is_empty-nil s.pre empty in
          subst (λ g. AtBlock (Flow k) g (Opening s.kind s.head s.marks s.pre None false ∷ more) closing) (white_nothing s.pre f no_white) (block_same (Flow k) f first _ closing (without_pre s more marks no_white) (flow n));
      structural = λ h. block_same (Structural k) (white_before s.pre f) _ _ closing (with_pre s more marks) (AtBlock-white k s.pre f first closing white (structural h));
    }

element_read : (k : Kind) (before : Bool) (s : Start) (inside : Nodes) (rest : Forest) (ys : List PlainItem) (pre text closing : List ℕ) (c : ElementChunk s inside pre text) → IsPlaced k s → BranchTag s.kind →
    (is_flow k ≡ true → Closes (Flow k) rest ys closing) → (is_among structural_kinds k ≡ true → Closes (Structural k) rest ys closing) →
    BlocksAre k before closing s.pre (white_before s.pre (Element (tag_of s.kind) c.attrs c.inner rest)) (Opening s.kind s.head s.marks s.pre None false ∷ said_items inside ++ Closing s.kind pre ∷ ys)
element_read k before s inside rest ys pre text closing c b t flow structural =
    placed_reads k before s (Element (tag_of s.kind) c.attrs c.inner rest) (said_items inside ++ Closing s.kind pre ∷ ys) closing b.marks b.before
    (λ n. AtBlock-own (Flow k) s inside rest ys pre text closing c (fits_flow k s (parts_of c.inner) t b.held c.convertible) (flow n))
    (λ h. AtBlock-own (Structural k) s inside rest ys pre text closing c (fits_block k s (parts_of c.inner) t b.held c.convertible) (structural h))

-- the text of a block before others
spelled_before : (white part own rest closing : List ℕ) (f : Forest) → spelling f ≡ rest ++ closing → own ≡ white ++ part ++ rest → white ++ (part ++ spelling f) ≡ own ++ closing
spelled_before white part own rest closing f e is =
    ap (λ x. white ++ (part ++ x)) e ∙ sym (append_assoc white part (rest ++ closing)) ∙ sym (append_assoc (white ++ part) rest closing) ∙ ap (λ x. x ++ closing) (sym is)

pub element_written : (w : Writer) (k : Kind) (before : Bool) (s : Start) (inside later : Nodes) (pre closing text : List ℕ) → IsPlaced k s → ElementChunk s inside pre text → Written w k false closing later →
    blocks w before closing (Node s inside pre later) ≡ encode_utf8_all s.pre ++ text ++ blocks w false closing later → Written w k before closing (Node s inside pre later)
element_written w k before s inside later pre closing text b c r is =
    let f : Forest = Element (tag_of s.kind) c.attrs c.inner r.forest in
    let t = branch_tag s.kind b.element b.branch in
    let parts_are : parts_of f ≡ Parent (tag_of s.kind) c.attrs (parts_of c.inner) (parts_of r.forest) = parts_if_false (is_held c.attrs) _ _ c.free in
    record {
      forest = white_before s.pre f;
      spells =
          spelling-white_before s.pre f
          ∙ ap (λ x. encode_utf8_all s.pre ++ (x ++ spelling r.forest)) (sym c.is)
          ∙ spelled_before (encode_utf8_all s.pre) text (blocks w before closing (Node s inside pre later)) (blocks w false closing later) (encode_utf8_all closing) r.forest r.spells is;
      neat = Neat-white_before s.pre f b.before refl (c.tag, c.neat, r.neat);
      starts = λ h e. starts-white_before s.pre f e refl;
      reads = element_read k before s inside r.forest (said_items later) pre text closing c b t r.reads.closes (λ h. Closes-AtBlock (Structural k) r.forest (said_items later) closing (r.reads.structural h));
      apart = Apart-white_before s.pre f (subst Apart (sym parts_are) (c.apart, r.apart));
      alone = λ h. alone-white_before s.pre f b.before
          (ap has_blocks_alone parts_are ∙ and_from (not (is_inline_tag (tag_of s.kind))) (has_blocks_alone (parts_of r.forest)) (ap not t.block) (r.alone h));
      clear = λ g e. clear_before g s.pre f (subst (Clear g) (sym parts_are) tt) (λ u. subst (λ x. Clear g (Words u x)) (sym parts_are) tt);
    }

-- ---- a run before

pub spelling-followed_by : (a b : Forest) → spelling (followed_by a b) ≡ spelling a ++ spelling b
spelling-followed_by Nothing b = refl
spelling-followed_by (Text text rest) b = ap (λ s. text ++ s) (spelling-followed_by rest b) ∙ sym (append_assoc text (spelling rest) (spelling b))
spelling-followed_by (Remark text rest) b =
    let source : List ℕ = token_text (Comment text) in
    ap (λ s. source ++ s) (spelling-followed_by rest b) ∙ sym (append_assoc source (spelling rest) (spelling b))
spelling-followed_by (Void name attrs slash rest) b = ap (λ s. start_text name attrs slash ++ s) (spelling-followed_by rest b) ∙ sym (append_assoc (start_text name attrs slash) (spelling rest) (spelling b))
spelling-followed_by (RawElement name attrs text rest) b =
    let source : List ℕ = start_text name attrs false ++ text ++ end_text name in
    ap (λ s. source ++ s) (spelling-followed_by rest b) ∙ sym (append_assoc source (spelling rest) (spelling b))
spelling-followed_by (Element name attrs children rest) b =
    let source : List ℕ = start_text name attrs false ++ spelling children ++ end_text name in
    ap (λ s. source ++ s) (spelling-followed_by rest b) ∙ sym (append_assoc source (spelling rest) (spelling b))

starts-followed_by : (a b : Forest) → starts_with_text a ≡ false → starts_with_text b ≡ false → starts_with_text (followed_by a b) ≡ false
starts-followed_by Nothing b e f = f
starts-followed_by (Text text rest) b e f = e
starts-followed_by (Remark text rest) b e f = refl
starts-followed_by (Void name attrs slash rest) b e f = refl
starts-followed_by (RawElement name attrs text rest) b e f = refl
starts-followed_by (Element name attrs children rest) b e f = refl

Neat-followed_by : (a b : Forest) → Neat a → Neat b → starts_with_text b ≡ false → Neat (followed_by a b)
Neat-followed_by Nothing b n m e = m
Neat-followed_by (Text text rest) b n m e = (n.0, n.1, starts-followed_by rest b n.2 e, Neat-followed_by rest b n.3 m e)
Neat-followed_by (Remark text rest) b n m e = (n.0, Neat-followed_by rest b n.1 m e)
Neat-followed_by (RawElement name attrs text rest) b n m e = (n.0, Neat-followed_by rest b n.1 m e)
Neat-followed_by (Void name attrs slash rest) b n m e = (n.0, Neat-followed_by rest b n.1 m e)
Neat-followed_by (Element name attrs children rest) b n m e = (n.0, n.1, Neat-followed_by rest b n.2 m e)

Apart-followed_by : (k : Kind) (a b : Forest) → Loose k a → Apart (parts_of a) → Apart (parts_of b) → Apart (parts_of (followed_by a b))
Apart-followed_by k Nothing b l x y = y
Apart-followed_by k (Text text rest) b l x y = Apart-followed_by k rest b l x y
Apart-followed_by k (Remark text rest) b l x y = absurd l
Apart-followed_by k (RawElement name attrs text rest) b l x y = absurd l
Apart-followed_by k (Void name attrs slash rest) b l x y =
    subst Apart (sym (parts_if_false (is_held attrs) _ (Single name attrs (start_text name attrs slash) (parts_of (followed_by rest b))) l.0))
    (Apart-followed_by k rest b l.2 (subst Apart (parts_if_false (is_held attrs) _ (Single name attrs (start_text name attrs slash) (parts_of rest)) l.0) x) y)
Apart-followed_by k (Element name attrs children rest) b l x y =
    let p : Apart (Parent name attrs (parts_of children) (parts_of rest)) = subst Apart (parts_if_false (is_held attrs) _ (Parent name attrs (parts_of children) (parts_of rest)) l.0) x in
    subst Apart (sym (parts_if_false (is_held attrs) _ (Parent name attrs (parts_of children) (parts_of (followed_by rest b))) l.0)) (p.0, Apart-followed_by k rest b l.3 p.1 y)

run_items : (s : Start) (inside : Nodes) (xs ys : List PlainItem) (pre : List ℕ) → s.kind ≡ P → s.head.attrs ≡ [] → s.pre ≡ [] → s.marks ≡ [] → pre ≡ [] → IsHead s.head → map item_unmade xs ≡ said_items inside →
    Opening P empty_head [] [] None false ∷ map item_unmade xs ++ Closing P [] ∷ ys ≡ Opening s.kind s.head s.marks s.pre None false ∷ said_items inside ++ Closing s.kind pre ∷ ys
run_items s inside xs ys pre kind attrs white marks closing head said =
    let h : empty_head ≡ s.head = ap (λ a. record { tag = []; attrs = a; raw = []; reference = None; owner = false }) (sym attrs) ∙ sym head.alone in
    (λ i. Opening (sym kind i) (h i) (sym marks i) (sym white i) None false ∷ said i ++ Closing (sym kind i) (sym closing i) ∷ ys)

opposite : (b : Bool) → b ≡ true → b ≡ false → ⊥
opposite b e f = cc

single_is : (name : List ℕ) (attrs : List Spelled) (slash : Bool) (rest : Forest) → is_held attrs ≡ false → parts_of (Void name attrs slash rest) ≡ Single name attrs (start_text name attrs slash) (parts_of rest)
single_is name attrs slash rest e = parts_if_false (is_held attrs) _ _ e

parent_is : (name : List ℕ) (attrs : List Spelled) (children rest : Forest) → is_held attrs ≡ false → parts_of (Element name attrs children rest) ≡ Parent name attrs (parts_of children) (parts_of rest)
parent_is name attrs children rest e = parts_if_false (is_held attrs) _ _ e

-- words that are not white join nothing
solid_clear : (g : Forest) (t : List ℕ) (q : Parts) → is_white t ≡ false → Clear g (Words t q)
solid_clear g t Ended e = tt
solid_clear g t (Words u later) e = tt
solid_clear g t (Note u later) e = tt
solid_clear g t (Group nodes later) e = ap (λ b. b && shares_about g nodes) e
solid_clear g t (Single name attrs source later) e = tt
solid_clear g t (Parent name attrs children later) e = tt

-- nothing joins what a run begins with
run_clear : (g : Forest) (k : Kind) (run rest : Forest) → Loose k run → Neat run → is_white (spelling run) ≡ false → Clear g (parts_of (followed_by run rest))
run_clear g k Nothing rest l n e = cc
run_clear g k (Text t Nothing) rest l n e = solid_clear g t (parts_of rest) (ap is_white (sym (append-nil t)) ∙ e)
run_clear g k (Text t (Text u more)) rest l n e = absurd (let f : true ≡ false = n.2 in cc)
run_clear g k (Text t (Remark u more)) rest l n e = absurd l
run_clear g k (Text t (Void name attrs slash more)) rest l n e = subst (λ x. Clear g (Words t x)) (sym (single_is name attrs slash (followed_by more rest) l.0)) tt
run_clear g k (Text t (RawElement name attrs u more)) rest l n e = absurd l
run_clear g k (Text t (Element name attrs children more)) rest l n e = subst (λ x. Clear g (Words t x)) (sym (parent_is name attrs children (followed_by more rest) l.0)) tt
run_clear g k (Remark t more) rest l n e = absurd l
run_clear g k (Void name attrs slash more) rest l n e = subst (Clear g) (sym (single_is name attrs slash (followed_by more rest) l.0)) tt
run_clear g k (RawElement name attrs t more) rest l n e = absurd l
run_clear g k (Element name attrs children more) rest l n e = subst (Clear g) (sym (parent_is name attrs children (followed_by more rest) l.0)) tt

pub run_written : (w : Writer) (k : Kind) (before : Bool) (s : Start) (inside later : Nodes) (pre closing text : List ℕ) → IsBranch k s → is_bare before s inside (white_after later closing) ≡ true → pre ≡ [] → RunChunk inside text →
    Written w k true closing later → blocks w before closing (Node s inside pre later) ≡ encode_utf8_all s.pre ++ text ++ blocks w true closing later → Written w k before closing (Node s inside pre later)
run_written w k before s inside later pre closing text b bare none c r is =
    let f : Forest = followed_by c.run r.forest in
    let i : IsBare before s inside (white_after later closing) = bare_is before s inside (white_after later closing) bare in
    let next : starts_with_text r.forest ≡ false = r.starts refl i.after_is in
    let no_structure : is_among structural_kinds k ≡ true → ⊥ = λ h. opposite _ bare (never_bare k before s inside (white_after later closing) h b.held) in
    record {
      forest = white_before s.pre f;
      spells =
          spelling-white_before s.pre f
          ∙ ap (λ x. encode_utf8_all s.pre ++ x) (spelling-followed_by c.run r.forest)
          ∙ ap (λ x. encode_utf8_all s.pre ++ (x ++ spelling r.forest)) (sym c.is)
          ∙ spelled_before (encode_utf8_all s.pre) text (blocks w before closing (Node s inside pre later)) (blocks w true closing later) (encode_utf8_all closing) r.forest r.spells is;
      neat = subst Neat (white_nothing s.pre f i.white) (Neat-followed_by c.run r.forest c.neat r.neat next);
      starts = λ h e. absurd (opposite before h i.first);
      reads = record {
        closes = λ n.
            subst (λ g. Closes (Flow k) g (Opening s.kind s.head s.marks s.pre None false ∷ said_items inside ++ Closing s.kind pre ∷ said_items later) closing) (white_nothing s.pre f i.white)
            (closes_same (Flow k) f _ _ closing (run_items s inside c.items (said_items later) pre i.kind i.attrs i.white b.marks none b.head c.said)
            (Closes-bare k c.run r.forest c.items (said_items later) closing (c.loose k) (ap is_white (sym c.is) ∙ c.solid) c.reads (r.reads.stands n refl i.after_is)));
        stands = λ n h e. absurd (opposite before h i.first);
        structural = λ h. absurd (no_structure h);
      };
      apart = Apart-white_before s.pre f (Apart-followed_by k c.run r.forest (c.loose k) c.apart r.apart);
      alone = λ h. absurd (no_structure h);
      clear = λ g e. subst (λ x. Clear g (parts_of x)) (white_nothing s.pre f i.white) (run_clear g k c.run r.forest (c.loose k) c.neat (ap is_white (sym c.is) ∙ c.solid));
    }

-- ---- a leaf that is kept whole, before others

not_true : (b : Bool) → (b ≡ true → ⊥) → b ≡ false
not_true true h = absurd (h refl)
not_true false h = refl

pub leaf_not_bare : (before : Bool) (s : Start) (inside : Nodes) (after : List ℕ) → is_block_leaf s.kind ≡ true → is_bare before s inside after ≡ false
leaf_not_bare before s inside after l = not_true (is_bare before s inside after) (λ e. no_paragraph s.kind l (sym (bare_is before s inside after e).kind))

leaf_written : (w : Writer) (k : Kind) (before : Bool) (s : Start) (inside later : Nodes) (pre closing : List ℕ) → is_block_leaf s.kind ≡ true → IsWholeLeaf w k s inside pre later →
    blocks w before closing (Node s inside pre later) ≡ encode_utf8_all s.pre ++ encode_utf8_all s.head.raw ++ blocks w false closing later
leaf_written w k before s inside later pre closing leaf l =
    let bare : Bool = is_bare before s inside (white_after later closing) in
    let text : List ℕ = if is_content_branch s.kind then content w [] inside else blocks w false pre inside in
    let no_bare : bare ≡ false = leaf_not_bare before s inside (white_after later closing) leaf in
    let original : original_of w bare s (node_items s inside pre) ≡ w.original s (node_items s inside pre) = ap (λ g. if g && not bare then None else w.original s (node_items s inside pre)) l.tags in
    let fresh : fresh_text w bare s text pre ≡ encode_utf8_all s.head.raw =
    pick_false (kind_same s.kind InternalList) _ _ (block_leaf (λ j. kind_same j InternalList ≡ false) s.kind leaf refl refl)
    ∙ pick_true (is_leaf s.kind) _ _ (block_leaf (λ j. is_leaf j ≡ true) s.kind leaf refl refl)
    ∙ block_leaf (λ j. leaf_text w s j ≡ encode_utf8_all s.head.raw) s.kind leaf refl refl in
    (λ i. encode_utf8_all s.pre ++ unwrap_or (original i) (fresh i) ++ blocks w (no_bare i) closing later) ∙ ap (λ x. encode_utf8_all s.pre ++ x ++ blocks w false closing later) l.text

structural_flow : (k : Kind) → is_among structural_kinds k ≡ true → is_flow k ≡ false
structural_flow Root e = cc
structural_flow P e = cc
structural_flow H1 e = cc
structural_flow H2 e = cc
structural_flow H3 e = cc
structural_flow H4 e = cc
structural_flow H5 e = cc
structural_flow H6 e = cc
structural_flow Pre e = cc
structural_flow Section e = cc
structural_flow Li e = cc
structural_flow Dt e = cc
structural_flow Dd e = cc
structural_flow Blockquote e = cc
structural_flow Div e = cc
structural_flow Td e = cc
structural_flow Th e = cc
structural_flow Caption e = cc
structural_flow InternalItem e = cc
structural_flow Ul e = refl
structural_flow Ol e = refl
structural_flow Dl e = refl
structural_flow Table e = refl
structural_flow Thead e = refl
structural_flow Tbody e = refl
structural_flow Tfoot e = refl
structural_flow Tr e = refl
structural_flow InternalList e = refl
structural_flow TransBlock e = cc
structural_flow AlienBlock e = cc
structural_flow Br e = cc
structural_flow Img e = cc
structural_flow Ref e = cc
structural_flow TransInline e = cc
structural_flow AlienInline e = cc

-- what is clear of what a leaf shares
not_shared : (a b : Bool) → not (a && b) ≡ true → a ≡ true → b ≡ false
not_shared true true e h = cc
not_shared true false e h = refl
not_shared false b e h = cc

pub whole_written : (w : Writer) (k : Kind) (before : Bool) (s : Start) (inside later : Nodes) (pre closing : List ℕ) → is_content_branch k ≡ false → inside ≡ Empty → is_block_leaf s.kind ≡ true → IsWholeLeaf w k s inside pre later →
    Written w k false closing later → Written w k before closing (Node s inside pre later)
whole_written w k before s inside later pre closing c none leaf l r =
    let f : Forest = leaf_forest s in
    let stands = l.block (block_leaf_inline s.kind leaf) in
    let all : Forest = followed_by f r.forest in
    let spells = law_reads_right (encode_utf8_all s.head.raw) f l.spelled in
    let apart : Apart (parts_of f) = unreferred_apart f l.calm in
    let together : parts_of all ≡ joined (parts_of f) (parts_of r.forest) = parts_followed f r.forest (r.clear f l.apart) in
    let start : starts_with_text all ≡ false = one_starts f r.forest l.part in
    let more : List PlainItem = Closing s.kind [] ∷ said_items later in
    let at : Progress = record { at = 0; owners = []; editable = false } in
    let part : (around : Around) → HoldsBlocks around → around_in k ≡ around → LeafPart around (parts_of f) s.kind s.head = λ around b e.
    leaf_part around b at (parts_of f) s.kind s.head l.part apart leaf
    (ap (λ a. (inside_piece a at (made_of a (parts_of f) at)).later.items) (sym e) ∙ l.reads) in
    let flow : is_flow k ≡ true → around_in k ≡ Flow k = λ h. pick_false (is_content_branch k) _ _ c ∙ pick_true (is_flow k) _ _ h in
    let structural : is_among structural_kinds k ≡ true → around_in k ≡ Structural k = λ h. pick_false (is_content_branch k) _ _ c ∙ pick_false (is_flow k) _ _ (structural_flow k h) in
    let same : Opening s.kind s.head s.marks s.pre None false ∷ more ≡ said_items (Node s inside pre later) =
    (λ i. Opening s.kind s.head s.marks s.pre None false ∷ said_items (sym none i) ++ Closing s.kind (sym l.closing i) ∷ said_items later) in
    record {
      forest = white_before s.pre all;
      spells =
          spelling-white_before s.pre all
          ∙ ap (λ x. encode_utf8_all s.pre ++ x) (spelling-followed_by f r.forest)
          ∙ spelled_before (encode_utf8_all s.pre) (spelling f) (blocks w before closing (Node s inside pre later)) (blocks w false closing later) (encode_utf8_all closing) r.forest r.spells
          (leaf_written w k before s inside later pre closing leaf l ∙ ap (λ x. encode_utf8_all s.pre ++ x ++ blocks w false closing later) (sym spells.0));
      neat = Neat-white_before s.pre all stands.1 start (one_neat f r.forest l.part (spelled-Neat f 200 spells.1) r.neat);
      starts = λ h e. starts-white_before s.pre all e start;
      reads = subst (λ xs. BlocksAre k before closing s.pre (white_before s.pre all) xs) same
          (placed_reads k before s all more closing stands.0 stands.1
          (λ h. leaf_block (Flow k) tt f r.forest s.kind s.head (said_items later) closing (part (Flow k) tt (flow h)) leaf together (r.reads.closes h))
          (λ h. leaf_block (Structural k) tt f r.forest s.kind s.head (said_items later) closing (part (Structural k) tt (structural h)) leaf together
          (Closes-AtBlock (Structural k) r.forest (said_items later) closing (r.reads.structural h))));
      apart = Apart-white_before s.pre all (subst Apart (sym together) (joined_apart (parts_of f) (parts_of r.forest) apart r.apart));
      alone = λ h. alone-white_before s.pre all stands.1
          (ap has_blocks_alone together ∙ joined_alone (parts_of f) (parts_of r.forest) ∙ and_from (has_blocks_alone (parts_of f)) (has_blocks_alone (parts_of r.forest)) (l.alone h) (r.alone h));
      clear = λ g e.
          let no_share : shares_about g f ≡ false = not_shared (is_leaf s.kind) (shares_about g f) e (block_leaf (λ j. is_leaf j ≡ true) s.kind leaf refl refl) in
          let one = one_clear g f (parts_of r.forest) l.part no_share in
          clear_before g s.pre all (subst (Clear g) (sym together) (one []).0) (λ t. subst (λ x. Clear g (Words t x)) (sym together) (one t).1);
    }
