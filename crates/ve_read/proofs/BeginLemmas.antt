-- The items before a node with an origin in the list of an opened page: no internal list, and
-- openings that have origins.
use Rattle.std.proofs.Common.{◌≡◌, ℕ, zero, suc, ◌+◌, ◌<◌, Bool, true, false, List, [], ◌∷◌, ◌++◌, length, take, Some, refl, sym, ap, ◌∙◌, subst, arith}
use Rattle.std.specs.Prelude.{◌||◌}
use Rattle.std.specs.List.{list_any}
use Rattle.std.proofs.lemmas.List.Folds.{list_any-append}
use Rattle.ve_kinds.specs.declared.kind.Kind.{Kind}
use Rattle.ve_kinds.specs.declared.kind.Kind.TheVariants.{Root, InternalList}
use Rattle.ve_kinds.specs.Table.{kind_same}
use Rattle.ve_base.specs.declared.marks.Mark.{Mark}
use Rattle.ve_base.specs.declared.head.Head.{Head}
use Rattle.model_items.specs.declared.plain_item.PlainItem.{PlainItem}
use Rattle.model_items.specs.declared.plain_item.PlainItem.TheVariants.{Char, Opening, Closing}
use Rattle.model_items.specs.Tree.{length_to_close}
use Rattle.model_page.specs.PageItems.{with_origins}
use Rattle.model_page_law.specs.Origins.{origins_of}
use Rattle.model_page_law.proofs.LawfulLemmas.{opening_count}
use Rattle.model_page_law.proofs.NestLemmas.{Nests}
use Rattle.model_page_law.proofs.OriginLemmas.{origins_of-append}
use Rattle.ve_origin.specs.Kept.{opens_notes}

-- no internal list opens
abbrev pub Clean : List PlainItem → Type 0
Clean items = list_any opens_notes items ≡ false

neither : (b c : Bool) → b ≡ false → c ≡ false → (b || c) ≡ false
neither false c e h = h
neither true c e h = absurd (cc)

pub clean_both : (xs ys : List PlainItem) → Clean xs → Clean ys → Clean (xs ++ ys)
clean_both xs ys h g = list_any-append opens_notes xs ys ∙ neither (list_any opens_notes xs) (list_any opens_notes ys) h g

pub clean_later : (x : PlainItem) (items : List PlainItem) → opens_notes x ≡ false → Clean items → Clean (x ∷ items)
clean_later x items e h = neither (opens_notes x) (list_any opens_notes items) e h

-- ---- before a node

not_nil : (xs ys : List ℕ) (y : ℕ) → xs ++ (y ∷ ys) ≡ [] → ⊥
not_nil [] ys y e = absurd (cc)
not_nil (x ∷ xs) ys y e = absurd (cc)

-- The node of the origin k begins among the first items, whose openings have origins from j on:
-- what of them follows its opening, and which kinds are open there.
pub record Begins (j : ℕ) (before more last : List PlainItem) (kind : Kind) (k : ℕ) : Type 0 where
  pub number : k ≡ j + opening_count before
  pub clean : Clean before
  pub other : kind_same kind InternalList ≡ false
  pub rest : List PlainItem
  pub outer : List Kind
  pub rest_is : more ≡ with_origins (suc k) rest ++ last
  pub nests : Nests Root (kind ∷ outer) rest []

pub begins : (before first last more : List PlainItem) (s : List Kind) (j k : ℕ) (kind : Kind) (head : Head) (marks : List Mark) (pre : List ℕ) (generated : Bool) →
    before ++ (Opening kind head marks pre (Some k) generated ∷ more) ≡ with_origins j first ++ last → origins_of last ≡ [] → Nests Root s first [] →
    Begins j before more last kind k
begins before [] last more s j k kind head marks pre generated e none h =
    absurd (not_nil (origins_of before) (origins_of more) k (sym (origins_of-append before (Opening kind head marks pre (Some k) generated ∷ more)) ∙ ap origins_of e ∙ none))
begins [] (Char c others ∷ first) last more s j k kind head marks pre generated e none h = absurd (cc)
begins [] (Closing other white ∷ first) last more s j k kind head marks pre generated e none h = absurd (cc)
begins [] (Opening first_kind first_head first_marks first_pre origin made ∷ first) last more s j k kind head marks pre generated e none h =
    let number : k ≡ j = cc in
    let kinds : first_kind ≡ kind = cc in
    let rest : more ≡ with_origins (suc j) first ++ last = cc in
    record {
      number = omega (arith, number);
      clean = refl;
      other = subst (λ x. kind_same x InternalList ≡ false) kinds h.1;
      rest = first;
      outer = s;
      rest_is = rest ∙ ap (λ n. with_origins (suc n) first ++ last) (sym number);
      nests = subst (λ x. Nests Root (x ∷ s) first []) kinds h.3;
    }
begins (x ∷ before) (Char c others ∷ first) last more s j k kind head marks pre generated e none h =
    let same : Char c others ≡ x = cc in
    let tail : before ++ (Opening kind head marks pre (Some k) generated ∷ more) ≡ with_origins j first ++ last = cc in
    let r = begins before first last more s j k kind head marks pre generated tail none h.1 in
    subst (λ y. Begins j (y ∷ before) more last kind k) same
    (record { number = r.number; clean = r.clean; other = r.other; rest = r.rest; outer = r.outer; rest_is = r.rest_is; nests = r.nests })
begins (x ∷ before) (Closing other white ∷ first) last more [] j k kind head marks pre generated e none h = absurd h
begins (x ∷ before) (Closing other white ∷ first) last more (inner ∷ s) j k kind head marks pre generated e none h =
    let same : Closing other white ≡ x = cc in
    let tail : before ++ (Opening kind head marks pre (Some k) generated ∷ more) ≡ with_origins j first ++ last = cc in
    let r = begins before first last more s j k kind head marks pre generated tail none h.1 in
    subst (λ y. Begins j (y ∷ before) more last kind k) same
    (record { number = r.number; clean = r.clean; other = r.other; rest = r.rest; outer = r.outer; rest_is = r.rest_is; nests = r.nests })
begins (x ∷ before) (Opening first_kind first_head first_marks first_pre origin made ∷ first) last more s j k kind head marks pre generated e none h =
    let same : Opening first_kind first_head first_marks first_pre (Some j) made ≡ x = cc in
    let tail : before ++ (Opening kind head marks pre (Some k) generated ∷ more) ≡ with_origins (suc j) first ++ last = cc in
    let r = begins before first last more (first_kind ∷ s) (suc j) k kind head marks pre generated tail none h.3 in
    subst (λ y. Begins j (y ∷ before) more last kind k) same
    (record {
      number = omega (arith, r.number);
      clean = clean_later (Opening first_kind first_head first_marks first_pre (Some j) made) before h.1 r.clean;
      other = r.other;
      rest = r.rest;
      outer = r.outer;
      rest_is = r.rest_is;
      nests = r.nests;
    })

-- ---- in a node

take_none : (items : List PlainItem) → take 0 items ≡ []
take_none [] = refl
take_none (x ∷ items) = refl

-- up to where a node closes that is open there, no internal list opens
pub clean_inside : (first last : List PlainItem) (n depth : ℕ) (s : List Kind) → Nests Root s first [] → depth < length s →
    Clean (take (length_to_close depth (with_origins n first ++ last)) (with_origins n first ++ last))
clean_inside [] last n depth s h deep = absurd (omega (arith, deep, ap (λ (l : List Kind). length l) h))
clean_inside (Char c marks ∷ first) last n depth s h deep = clean_inside first last n depth s h.1 deep
clean_inside (Opening kind head marks pre origin generated ∷ first) last n depth s h deep =
    clean_later (Opening kind head marks pre (Some n) generated) (take (length_to_close (suc depth) (with_origins (suc n) first ++ last)) (with_origins (suc n) first ++ last)) h.1 (clean_inside first last (suc n) (suc depth) (kind ∷ s) h.3 (omega (arith, deep)))
clean_inside (Closing kind pre ∷ first) last n depth [] h deep = absurd h
clean_inside (Closing kind pre ∷ first) last n zero (inner ∷ s) h deep = ap (λ items. list_any opens_notes (Closing kind pre ∷ items)) (take_none (with_origins n first ++ last))
clean_inside (Closing kind pre ∷ first) last n (suc depth) (inner ∷ s) h deep = clean_inside first last n depth s h.1 (omega (arith, deep))
