-- The forest of blocks may be spelled, and a structural one has blocks alone.
use Rattle.std.proofs.Common.{◌≡◌, ℕ, Bool, true, false, not, ◌&&◌, ◌||◌, ◌==◌, if◌then◌else◌, List, [], ◌∷◌, map, refl, sym, ap, ◌∙◌, subst, arith, inl, inr}
use Rattle.std.proofs.lemmas.Bool.{and_parts, and_from, cases_Bool}
use Rattle.std.proofs.lemmas.Grind.{common_steps}
use Rattle.std.specs.Prelude.{encode_utf8_all}
use Rattle.model_spelling.specs.Forest.{Forest, Nothing, Text, Remark, Void, RawElement, Element, starts_with_text}
use Rattle.model_spelling.specs.Written.{canon_attrs, attr_bytes}
use denote.Enum.Bare.{same_true}
use Rattle.ve_kinds.specs.contracts.kind.Kind.{the_type}
use Rattle.ve_kinds.specs.declared.kind.Kind.{Kind}
use Rattle.ve_kinds.specs.declared.kind.Kind.TheVariants.{P}
use Rattle.ve_kinds.specs.Table.{kind_same}
use Rattle.ve_kinds.specs.Table.{may_hold, is_among, is_content_branch, structural_kinds}
use Rattle.model_page.specs.Elements.{is_white_char, is_white, is_held}
use Rattle.model_page.specs.Parts.{Parent, parts_of}
use Rattle.model_page.specs.Fit.{has_blocks_alone, is_convertible}
use Rattle.model_page.specs.Tags.{tag_of, is_inline_tag}
use Rattle.model_page_write.specs.Nodes.{Start, Nodes, Empty, Letter, Node}
use Rattle.model_page_write.specs.Written.{is_empty, has_content, all_stay_inline, white_after, is_bare, Writer}
use Rattle.model_page_law.proofs.FormedNodes.{IsContent, AreBlocks}
use Rattle.model_page_law.proofs.NeatForests.{without}
use Rattle.model_page_law.proofs.EscapeLemmas.{pick_true, pick_false}
use Rattle.model_page_law.proofs.ContentLemmas.{content_levels, parts_if_false}
use Rattle.model_page_law.proofs.BlockText.{white_before, followed_by, block_element, blocks_forest, TextBlocks}
use Rattle.model_page_law.proofs.BlockReads.{white_bytes}
use Rattle.model_page_law.proofs.TagLemmas.{BranchTag, branch_tag, no_paragraph}
use Rattle.model_page_law.proofs.CleanLemmas.{CleanTag, Clean, clean_tag, leaf_texts, content-Sound}

-- ---- bare paragraphs

pub is_empty-nil : {A : Type 0} (xs : List A) → is_empty xs ≡ true → xs ≡ []
is_empty-nil [] h = refl
is_empty-nil (x ∷ xs) h = cc

pub record IsBare (before : Bool) (s : Start) (inside : Nodes) (after : List ℕ) : Type 0 where
  pub kind : s.kind ≡ P
  pub attrs : s.head.attrs ≡ []
  pub white : s.pre ≡ []
  pub content : has_content inside ≡ true
  pub after_is : is_empty after ≡ true
  pub first : before ≡ false

not_before : (before : Bool) → not before ≡ true → before ≡ false
not_before false h = refl
not_before true h = cc

pub bare_is : (before : Bool) (s : Start) (inside : Nodes) (after : List ℕ) → is_bare before s inside after ≡ true → IsBare before s inside after
bare_is before s inside after h =
    let p7 = and_parts (kind_same s.kind P && s.generated && is_empty s.head.attrs && is_empty s.pre && has_content inside && all_stay_inline inside && is_empty after) (not before) h in
    let p6 = and_parts (kind_same s.kind P && s.generated && is_empty s.head.attrs && is_empty s.pre && has_content inside && all_stay_inline inside) (is_empty after) p7.0 in
    let p5 = and_parts (kind_same s.kind P && s.generated && is_empty s.head.attrs && is_empty s.pre && has_content inside) (all_stay_inline inside) p6.0 in
    let p4 = and_parts (kind_same s.kind P && s.generated && is_empty s.head.attrs && is_empty s.pre) (has_content inside) p5.0 in
    let p3 = and_parts (kind_same s.kind P && s.generated && is_empty s.head.attrs) (is_empty s.pre) p4.0 in
    let p2 = and_parts (kind_same s.kind P && s.generated) (is_empty s.head.attrs) p3.0 in
    let p1 = and_parts (kind_same s.kind P) s.generated p2.0 in
    record {
      kind = same_true the_type tt s.kind P p1.0;
      attrs = is_empty-nil s.head.attrs p2.1;
      white = is_empty-nil s.pre p3.1;
      content = p4.1;
      after_is = p6.1;
      first = not_before before p7.1;
    }

-- in a structural parent nothing is bare
pub never_bare : (k : Kind) (before : Bool) (s : Start) (inside : Nodes) (after : List ℕ) → is_among structural_kinds k ≡ true → may_hold k s.kind ≡ true → is_bare before s inside after ≡ false
never_bare k before s inside after h held =
    elim (cases_Bool (is_bare before s inside after)) [
      | inr e ↦ e
      | inl e ↦ let no : may_hold k s.kind ≡ false = ap (may_hold k) (bare_is before s inside after e).kind ∙ no_paragraph k h in absurd (both held no)
    ]
  where
    both : may_hold k s.kind ≡ true → may_hold k s.kind ≡ false → ⊥
    both a b = cc

-- ---- the text of blocks

pub text_blocks : (w : Writer) (k : Kind) (n : Nodes) → AreBlocks k n → TextBlocks w n
text_blocks w k Empty b = tt
text_blocks w k (Letter c marks later) b = absurd b
text_blocks w k (Node s inside pre later) b =
    let t = branch_tag s.kind b.0.element b.0.branch in (
      t.other,
      b.0.branch,
      t.bytes,
      (λ h. (leaf_texts w inside (b.1 h).0, (b.1 h).1)),
      (λ h. text_blocks w s.kind inside (b.2 h).0),
      text_blocks w k later b.3,
    )

-- ---- the forest of blocks

-- what stands inside of a node
abbrev pub inner_forest : Start → Nodes → List ℕ → Forest
inner_forest s inside pre = if is_content_branch s.kind then (content_levels [] inside).here else blocks_forest false pre inside

white-nonempty : (c : ℕ) (cs : List ℕ) → is_white (c ∷ cs) ≡ true → is_empty (encode_utf8_all (c ∷ cs)) ≡ false
white-nonempty c cs h = ap is_empty (white_bytes (c ∷ cs) h)

white-without : (white : List ℕ) → is_white white ≡ true → without 60 white ≡ true
white-without [] h = refl
white-without (c ∷ cs) h = let p = and_parts (is_white_char c) (is_white cs) h in and_from (not (c == 60)) (without 60 cs) (not_tag c p.0) (white-without cs p.1)
  where
    not_tag : (c : ℕ) → is_white_char c ≡ true → not (c == 60) ≡ true
    not_tag c h = grind (arith, common_steps)

Clean-white_before : (white : List ℕ) (f : Forest) → is_white white ≡ true → starts_with_text f ≡ false → Clean f → Clean (white_before white f)
Clean-white_before [] f h s c = c
Clean-white_before (x ∷ xs) f h s c = (white-nonempty x xs h, ap (without 60) (white_bytes (x ∷ xs) h) ∙ white-without (x ∷ xs) h, s, c)

starts-followed_by : (a b : Forest) → starts_with_text a ≡ false → starts_with_text b ≡ false → starts_with_text (followed_by a b) ≡ false
starts-followed_by Nothing b e f = f
starts-followed_by (Text text rest) b e f = e
starts-followed_by (Remark text rest) b e f = refl
starts-followed_by (Void name attrs slash rest) b e f = refl
starts-followed_by (RawElement name attrs text rest) b e f = refl
starts-followed_by (Element name attrs children rest) b e f = refl

Clean-followed_by : (a b : Forest) → Clean a → Clean b → starts_with_text b ≡ false → Clean (followed_by a b)
Clean-followed_by Nothing b c d e = d
Clean-followed_by (Text text rest) b c d e = (c.0, c.1, starts-followed_by rest b c.2 e, Clean-followed_by rest b c.3 d e)
Clean-followed_by (Remark text rest) b c d e = absurd c
Clean-followed_by (RawElement name attrs text rest) b c d e = absurd c
Clean-followed_by (Void name attrs slash rest) b c d e = (c.0, c.1, Clean-followed_by rest b c.2 d e)
Clean-followed_by (Element name attrs children rest) b c d e = (c.0, c.1, Clean-followed_by rest b c.2 d e)

pub record BlockClean (before : Bool) (after : List ℕ) (f : Forest) : Type 0 where
  pub clean : Clean f
  pub starts : before ≡ true → is_empty after ≡ true → starts_with_text f ≡ false

starts-white_before : (white : List ℕ) (f : Forest) → is_empty white ≡ true → starts_with_text f ≡ false → starts_with_text (white_before white f) ≡ false
starts-white_before [] f h s = s
starts-white_before (c ∷ cs) f h s = cc

Clean-inner : (s : Start) (inside : Nodes) (pre : List ℕ) → (is_content_branch s.kind ≡ true → IsContent inside × (pre ≡ [])) → (is_content_branch s.kind ≡ false → Clean (blocks_forest false pre inside)) →
    Clean (inner_forest s inside pre)
Clean-inner s inside pre f g =
    elim (cases_Bool (is_content_branch s.kind)) [
      | inl e ↦ subst Clean (sym (pick_true (is_content_branch s.kind) (content_levels [] inside).here (blocks_forest false pre inside) e)) (content-Sound s.kind inside [] (f e).0).0.clean
      | inr e ↦ subst Clean (sym (pick_false (is_content_branch s.kind) (content_levels [] inside).here (blocks_forest false pre inside) e)) (g e)
    ]

-- a node that is bare, and one that isn't
Clean-node : (before : Bool) (s : Start) (inside : Nodes) (after : List ℕ) (bare : Bool) (inner rest : Forest) → is_bare before s inside after ≡ bare → is_white s.pre ≡ true →
    CleanTag false (tag_of s.kind) (canon_attrs (map attr_bytes s.head.attrs)) → Clean inner → BlockClean bare after rest →
    BlockClean before s.pre (white_before s.pre (if bare then followed_by inner rest else block_element s inner rest))
Clean-node before s inside after true inner rest e h t i r =
    let b = bare_is before s inside after e in
    record {
      clean = subst (λ white. Clean (white_before white (followed_by inner rest))) (sym b.white) (Clean-followed_by inner rest i r.clean (r.starts refl b.after_is));
      starts = λ k. absurd (both k b.first);
    }
  where
    both : before ≡ true → before ≡ false → ⊥
    both a b = cc
Clean-node before s inside after false inner rest e h t i r = record {
  clean = Clean-white_before s.pre (block_element s inner rest) h refl (t, i, r.clean);
  starts = λ k empty. starts-white_before s.pre (block_element s inner rest) empty refl;
}

pub blocks-Clean : (k : Kind) (n : Nodes) (before : Bool) (closing : List ℕ) → AreBlocks k n → is_white closing ≡ true → BlockClean before (white_after n closing) (blocks_forest before closing n)
blocks-Clean k Empty before closing b h = record { clean = Clean-white_before closing Nothing h refl tt; starts = λ k empty. starts-white_before closing Nothing empty refl }
blocks-Clean k (Letter c marks later) before closing b h = absurd b
blocks-Clean k (Node s inside pre later) before closing b h =
    let bare : Bool = is_bare before s inside (white_after later closing) in
    let t = branch_tag s.kind b.0.element b.0.branch in
    Clean-node before s inside (white_after later closing) bare (inner_forest s inside pre) (blocks_forest bare closing later) refl b.0.before
    (clean_tag false (tag_of s.kind) s.head.attrs t.name_is t.void_is t.raw_is b.0.head.attrs)
    (Clean-inner s inside pre b.1 (λ e. (blocks-Clean s.kind inside false pre (b.2 e).0 (b.2 e).1).clean))
    (blocks-Clean k later bare closing b.3 h)

-- ---- a structural kind is convertible

alone-white_before : (white : List ℕ) (f : Forest) → is_white white ≡ true → has_blocks_alone (parts_of f) ≡ true → has_blocks_alone (parts_of (white_before white f)) ≡ true
alone-white_before [] f h a = a
alone-white_before (c ∷ cs) f h a = and_from (is_white (encode_utf8_all (c ∷ cs))) (has_blocks_alone (parts_of f)) (ap is_white (white_bytes (c ∷ cs) h) ∙ h) a

blocks-alone : (k : Kind) (n : Nodes) (before : Bool) (closing : List ℕ) → is_among structural_kinds k ≡ true → AreBlocks k n → is_white closing ≡ true →
    has_blocks_alone (parts_of (blocks_forest before closing n)) ≡ true
blocks-alone k Empty before closing st b h = alone-white_before closing Nothing h refl
blocks-alone k (Letter c marks later) before closing st b h = absurd b
blocks-alone k (Node s inside pre later) before closing st b h =
    let bare : Bool = is_bare before s inside (white_after later closing) in
    let t = branch_tag s.kind b.0.element b.0.branch in
    let attrs = canon_attrs (map attr_bytes s.head.attrs) in
    let inner : Forest = inner_forest s inside pre in
    let rest : Forest = blocks_forest bare closing later in
    ap (λ f. has_blocks_alone (parts_of (white_before s.pre f))) (pick_false bare (followed_by inner rest) (block_element s inner rest) (never_bare k before s inside (white_after later closing) st b.0.held))
    ∙ alone-white_before s.pre (block_element s inner rest) b.0.before
    (ap has_blocks_alone (parts_if_false (is_held attrs) _ (Parent (tag_of s.kind) attrs (parts_of inner) (parts_of rest)) (clean_tag false (tag_of s.kind) s.head.attrs t.name_is t.void_is t.raw_is b.0.head.attrs).1)
    ∙ and_from (not (is_inline_tag (tag_of s.kind))) (has_blocks_alone (parts_of rest)) (ap not t.block) (blocks-alone k later bare closing st b.3 h))

pub convertible : (s : Start) (inside : Nodes) (pre : List ℕ) → BranchTag s.kind → (is_content_branch s.kind ≡ false → AreBlocks s.kind inside × (is_white pre ≡ true)) →
    is_convertible s.kind (parts_of (inner_forest s inside pre)) ≡ true
convertible s inside pre t f =
    elim (cases_Bool (is_among structural_kinds s.kind)) [
      | inr e ↦ ap (λ c. not c || has_blocks_alone (parts_of (inner_forest s inside pre))) e
      | inl e ↦
          let g = f (t.structural e).0 in
          ap (λ c. not c || has_blocks_alone (parts_of (inner_forest s inside pre))) e
          ∙ ap (λ i. has_blocks_alone (parts_of i)) (pick_false (is_content_branch s.kind) (content_levels [] inside).here (blocks_forest false pre inside) (t.structural e).0)
          ∙ blocks-alone s.kind inside false pre e g.0 g.1
    ]
