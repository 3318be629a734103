-- Blocks are written as the forest that they make spells.
use Rattle.std.proofs.Common.{◌≡◌, ℕ, Bool, true, false, not, ◌&&◌, if◌then◌else◌, List, [], ◌∷◌, ◌++◌, map, Option, None, refl, sym, ap, ◌∙◌, append_assoc}
use Rattle.std.proofs.lemmas.List.{append-nil}
use Rattle.std.proofs.lemmas.Bool.{and_parts}
use denote.Enum.Bare.{same_true}
use Rattle.ve_kinds.specs.contracts.kind.Kind.{the_type}
use Rattle.std.specs.Prelude.{encode_utf8_all, unwrap_or}
use Rattle.model_spelling.specs.Grammar.{Comment, token_text, start_text, end_text}
use Rattle.model_spelling.specs.Forest.{Forest, Nothing, Text, Remark, Void, RawElement, Element, spelling}
use Rattle.model_spelling.specs.Written.{canon_attrs, attr_bytes}
use Rattle.ve_kinds.specs.declared.kind.Kind.TheVariants.{P, InternalList}
use Rattle.ve_kinds.specs.Table.{kind_same}
use Rattle.ve_kinds.specs.Table.{is_content_branch, is_leaf}
use Rattle.model_page.specs.Tags.{tag_of}
use Rattle.model_page_write.specs.Nodes.{Carried, Start, Nodes, Empty, Letter, Node, node_items}
use Rattle.model_page_write.specs.Written.{is_empty, has_content, all_stay_inline, white_after, is_bare, Writer, element_text, fresh_text, original_of, content, blocks}
use Rattle.model_page_law.proofs.ContentLemmas.{content_levels}
use Rattle.model_page_law.proofs.ContentText.{LeafTexts, KeepsNone, content-spelling}
use Rattle.model_page_law.proofs.FormedNodes.{MarksMean}

-- whitespace, where there is some
abbrev pub white_before : List ℕ → Forest → Forest
white_before [] f = f
white_before (c ∷ cs) f = Text (encode_utf8_all (c ∷ cs)) f

-- one forest and then another
abbrev pub followed_by : Forest → Forest → Forest
followed_by Nothing later = later
followed_by (Text text rest) later = Text text (followed_by rest later)
followed_by (Remark text rest) later = Remark text (followed_by rest later)
followed_by (Void name attrs slash rest) later = Void name attrs slash (followed_by rest later)
followed_by (RawElement name attrs text rest) later = RawElement name attrs text (followed_by rest later)
followed_by (Element name attrs children rest) later = Element name attrs children (followed_by rest later)

abbrev pub block_element : Start → Forest → Forest → Forest
block_element s inner later = Element (tag_of s.kind) (canon_attrs (map attr_bytes s.head.attrs)) inner later

-- the forest of blocks, with the whitespace after them
abbrev pub blocks_forest : Bool → List ℕ → Nodes → Forest
blocks_forest before closing Empty = white_before closing Nothing
blocks_forest before closing (Letter c marks later) = blocks_forest false closing later
blocks_forest before closing (Node s inside pre later) =
    let bare = is_bare before s inside (white_after later closing) in
    let inner = if is_content_branch s.kind then (content_levels [] inside).here else blocks_forest false pre inside in
    white_before s.pre (if bare then followed_by inner (blocks_forest bare closing later) else block_element s inner (blocks_forest bare closing later))

spelling-white_before : (white : List ℕ) (f : Forest) → spelling (white_before white f) ≡ encode_utf8_all white ++ spelling f
spelling-white_before [] f = refl
spelling-white_before (c ∷ cs) f = refl

spelling-followed_by : (a b : Forest) → spelling (followed_by a b) ≡ spelling a ++ spelling b
spelling-followed_by Nothing b = refl
spelling-followed_by (Text text rest) b = ap (λ s. text ++ s) (spelling-followed_by rest b) ∙ sym (append_assoc text (spelling rest) (spelling b))
spelling-followed_by (Remark text rest) b =
    let source : List ℕ = token_text (Comment text) in
    ap (λ s. source ++ s) (spelling-followed_by rest b) ∙ sym (append_assoc source (spelling rest) (spelling b))
spelling-followed_by (Void name attrs slash rest) b = ap (λ s. start_text name attrs slash ++ s) (spelling-followed_by rest b) ∙ sym (append_assoc (start_text name attrs slash) (spelling rest) (spelling b))
spelling-followed_by (RawElement name attrs text rest) b =
    let source : List ℕ = start_text name attrs false ++ text ++ end_text name in
    ap (λ s. source ++ s) (spelling-followed_by rest b) ∙ sym (append_assoc source (spelling rest) (spelling b))
spelling-followed_by (Element name attrs children rest) b =
    let source : List ℕ = start_text name attrs false ++ spelling children ++ end_text name in
    ap (λ s. source ++ s) (spelling-followed_by rest b) ∙ sym (append_assoc source (spelling rest) (spelling b))

-- what the proof needs of blocks
abbrev pub TextBlocks : Writer → Nodes → Type 0
TextBlocks w Empty = Unit {0}
TextBlocks w (Letter c marks later) = ⊥
TextBlocks w (Node s inside pre later) =
    (kind_same s.kind InternalList ≡ false) × (is_leaf s.kind ≡ false) × (encode_utf8_all (tag_of s.kind) ≡ tag_of s.kind)
    × (is_content_branch s.kind ≡ true → LeafTexts w inside × (pre ≡ []))
    × (is_content_branch s.kind ≡ false → TextBlocks w inside)
    × TextBlocks w later

pub pick_true : {A : Type 0} (c : Bool) (x y : A) → c ≡ true → (if c then x else y) ≡ x
pick_true true x y e = refl
pick_true false x y e = cc

pick_false : {A : Type 0} (c : Bool) (x y : A) → c ≡ false → (if c then x else y) ≡ y
pick_false true x y e = cc
pick_false false x y e = refl

none_either : (c : Bool) (o : Option (List ℕ)) → o ≡ None → (if c then None else o) ≡ None
none_either true o e = refl
none_either false o e = e

-- the text of a bare paragraph or of an element, before more
node-spelling : (bare : Bool) (s : Start) (inner rest : Forest) (text pre : List ℕ) → spelling inner ≡ text ++ encode_utf8_all pre → encode_utf8_all (tag_of s.kind) ≡ tag_of s.kind →
    (bare ≡ true → pre ≡ []) →
    spelling (if bare then followed_by inner rest else block_element s inner rest) ≡ (if bare then text else element_text s text pre) ++ spelling rest
node-spelling true s inner rest text pre e t b =
    spelling-followed_by inner rest ∙ ap (λ x. x ++ spelling rest) (e ∙ ap (λ p. text ++ encode_utf8_all p) (b refl) ∙ append-nil text)
node-spelling false s inner rest text pre e t b =
    let attrs = canon_attrs (map attr_bytes s.head.attrs) in
    ap (λ x. start_text (tag_of s.kind) attrs false ++ x ++ end_text (tag_of s.kind) ++ spelling rest) e
    ∙ ap (λ n. start_text n attrs false ++ (text ++ encode_utf8_all pre) ++ end_text n ++ spelling rest) (sym t)
    ∙ ap (λ x. x ++ end_text (encode_utf8_all (tag_of s.kind)) ++ spelling rest) (sym (append_assoc (start_text (encode_utf8_all (tag_of s.kind)) attrs false) text (encode_utf8_all pre)))

fresh_text-block : (w : Writer) (bare : Bool) (s : Start) (text pre : List ℕ) → kind_same s.kind InternalList ≡ false → is_leaf s.kind ≡ false →
    fresh_text w bare s text pre ≡ (if bare then text else element_text s text pre)
fresh_text-block w bare s text pre i l = pick_false (kind_same s.kind InternalList) _ _ i ∙ pick_false (is_leaf s.kind) _ _ l

-- a bare node is a p, whose closing has no whitespace before it
bare-content : (before : Bool) (s : Start) (inside : Nodes) (after : List ℕ) → is_bare before s inside after ≡ true → is_content_branch s.kind ≡ true
bare-content before s inside after h =
    let kind : kind_same s.kind P ≡ true =
    (and_parts _ _ (and_parts _ _ (and_parts _ _ (and_parts _ _ (and_parts _ _ (and_parts _ _ (and_parts (kind_same s.kind P && s.generated && is_empty s.head.attrs && is_empty s.pre && has_content inside && all_stay_inline inside && is_empty after) (not before) h).0).0).0).0).0).0).0 in
    ap is_content_branch (same_true the_type tt s.kind P kind)

pub original-none : (w : Writer) → KeepsNone w → (bare : Bool) (s : Start) (items : List Carried) → original_of w bare s items ≡ None
original-none w none bare s items = none_either (s.generated && not bare) (w.original s items) (none s items)

inner-spelling : MarksMean → (w : Writer) → KeepsNone w → (c : Bool) (inside : Nodes) (pre : List ℕ) → (c ≡ true → LeafTexts w inside × (pre ≡ [])) →
    (c ≡ false → spelling (blocks_forest false pre inside) ≡ blocks w false pre inside ++ encode_utf8_all pre) →
    spelling (if c then (content_levels [] inside).here else blocks_forest false pre inside) ≡ (if c then content w [] inside else blocks w false pre inside) ++ encode_utf8_all pre
inner-spelling mean w none true inside pre f g =
    let p = f refl in
    sym (content-spelling mean w none inside p.0) ∙ sym (append-nil (content w [] inside)) ∙ ap (λ x. content w [] inside ++ encode_utf8_all x) (sym p.1)
inner-spelling mean w none false inside pre f g = g refl

-- blocks are written as their forest is spelled, but for the whitespace after them
pub blocks-spelling : MarksMean → (w : Writer) → KeepsNone w → (n : Nodes) (before : Bool) (closing : List ℕ) → TextBlocks w n →
    spelling (blocks_forest before closing n) ≡ blocks w before closing n ++ encode_utf8_all closing
blocks-spelling mean w none Empty before closing t = spelling-white_before closing Nothing ∙ append-nil (encode_utf8_all closing)
blocks-spelling mean w none (Letter c marks later) before closing t = absurd t
blocks-spelling mean w none (Node s inside pre later) before closing t =
    let bare : Bool = is_bare before s inside (white_after later closing) in
    let content_branch : Bool = is_content_branch s.kind in
    let inner : Forest = if content_branch then (content_levels [] inside).here else blocks_forest false pre inside in
    let text : List ℕ = if content_branch then content w [] inside else blocks w false pre inside in
    let rest : Forest = blocks_forest bare closing later in
    let white : List ℕ = encode_utf8_all s.pre in
    let chosen : List ℕ = if bare then text else element_text s text pre in
    let spelled : spelling inner ≡ text ++ encode_utf8_all pre =
    inner-spelling mean w none content_branch inside pre t.3 (λ e. blocks-spelling mean w none inside false pre (t.4 e)) in
    let own : unwrap_or (original_of w bare s (node_items s inside pre)) (fresh_text w bare s text pre) ≡ chosen =
    ap (λ o. unwrap_or o (fresh_text w bare s text pre)) (original-none w none bare s (node_items s inside pre)) ∙ fresh_text-block w bare s text pre t.0 t.1 in
    spelling-white_before s.pre (if bare then followed_by inner rest else block_element s inner rest)
    ∙ ap (λ x. white ++ x) (node-spelling bare s inner rest text pre spelled t.2 (λ b. (t.3 (bare-content before s inside (white_after later closing) b)).1))
    ∙ ap (λ x. white ++ (chosen ++ x)) (blocks-spelling mean w none later bare closing t.5)
    ∙ sym (append_assoc white chosen (blocks w bare closing later ++ encode_utf8_all closing))
    ∙ sym (append_assoc (white ++ chosen) (blocks w bare closing later) (encode_utf8_all closing))
    ∙ ap (λ x. white ++ x ++ blocks w bare closing later ++ encode_utf8_all closing) (sym own)
