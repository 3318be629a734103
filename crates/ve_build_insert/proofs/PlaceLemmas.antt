-- Where something may be put, and how far out pieces go.
use Rattle.std.proofs.Common.{◌≡◌, ◌≤◌, ◌<◌, ℕ, zero, suc, ◌+◌, Bool, true, false, ◌||◌, if◌then◌else◌, Ok, Option, Some, None, option_map, List, [], ◌∷◌, length, take, drop, slice_get, refl, sym, ap, ◌∙◌, arith}
use Rattle.std.specs.Prelude.{nat_le}
use Rattle.std.proofs.lemmas.Bool.Decides.{nat_tests}
use Rattle.std.proofs.lemmas.List.{length-map}
use Rattle.ve_base.specs.declared.value.Value.{Value}
use Rattle.ve_kinds.specs.declared.kind.Kind.{Kind}
use Rattle.ve_kinds.specs.declared.kind.Kind.TheVariants.{Root}
use Rattle.ve_kinds.specs.Table.{is_leaf}
use Rattle.model_items.specs.declared.item.Item.{Item}
use Rattle.model_items.specs.declared.plain_item.PlainItem.{PlainItem}
use Rattle.model_items.specs.Law.{State, start, after, top}
use Rattle.model_items.specs.Offsets.{is_inside_leaf}
use Rattle.model_items.specs.Plain.{plain, plain_list}
use Rattle.model_edit.specs.Brackets.{is_internal}
use Rattle.model_edit.specs.Insert.{is_bad_offset, may_hold_pieces, levels_up, is_mixed, in_paragraph}
use Rattle.ve_edits.proofs.StackLemmas.{stack_is}
use Rattle.ve_build_insert.specs.Placed.{placement}

-- nothing can be put at the end, past it, or inside a leaf
bad_by : (items : List PlainItem) (at : ℕ) (inside : Bool) → is_inside_leaf items at ≡ inside → is_bad_offset items at ≡ (nat_le (length items) at || inside)
bad_by items at inside is = ap (λ b. nat_le (length items) at || b) is

past : (n at : ℕ) (b : Bool) → n ≤ at → (nat_le n at || b) ≡ true
past n at b h = grind (arith, nat_tests)

before : (n at : ℕ) (b : Bool) → at < n → (nat_le n at || b) ≡ b
before n at b h = grind (arith, nat_tests)

or_true : (b : Bool) → (b || true) ≡ true
or_true true = refl
or_true false = refl

pub bad_past : (values : List Value) (items : List Item) (at : ℕ) → length items ≤ at → is_bad_offset (plain_list values items) at ≡ true
bad_past values items at h = let n = length-map items (plain values) in past (length (plain_list values items)) at (is_inside_leaf (plain_list values items) at) (omega arith)

leaf_is : (values : List Value) (items : List Item) (o : ℕ) (s : State) (k : Kind) → after start (plain_list [] (take o items)) ≡ Ok s → k ≡ top s.stack →
    is_inside_leaf (plain_list values items) o ≡ is_leaf k
leaf_is values items o s k h is = ap (λ l. is_leaf (top l)) (stack_is values items o s h) ∙ ap is_leaf (sym is)

pub bad_inside : (values : List Value) (items : List Item) (o : ℕ) (s : State) (k : Kind) → after start (plain_list [] (take o items)) ≡ Ok s → k ≡ top s.stack →
    is_leaf k ≡ true → is_bad_offset (plain_list values items) o ≡ true
bad_inside values items o s k h is leaf =
    bad_by (plain_list values items) o true (leaf_is values items o s k h is ∙ leaf) ∙ or_true (nat_le (length (plain_list values items)) o)

pub good_at : (values : List Value) (items : List Item) (o : ℕ) (s : State) (k : Kind) → after start (plain_list [] (take o items)) ≡ Ok s → k ≡ top s.stack →
    is_leaf k ≡ false → o < length items → is_bad_offset (plain_list values items) o ≡ false
good_at values items o s k h is leaf within =
    let n = length-map items (plain values) in
    bad_by (plain_list values items) o false (leaf_is values items o s k h is ∙ leaf) ∙ before (length (plain_list values items)) o false (omega arith)

-- ---- how far out pieces go

pub kinds_from : (stack : List Kind) (level : ℕ) (k : Kind) → slice_get stack level ≡ Some k → drop level stack ≡ k ∷ drop (suc level) stack
kinds_from [] level k h = absurd (cc)
kinds_from (x ∷ stack) zero k h = let same : x ≡ k = cc in ap (λ y. y ∷ stack) same
kinds_from (x ∷ stack) (suc level) k h = kinds_from stack level k h

-- so many levels further out
abbrev pub further : ℕ → Option ℕ → Option ℕ
further level o = option_map (λ j. level + j) o

further_suc : (level : ℕ) (o : Option ℕ) → further level (option_map (λ j. suc j) o) ≡ further (level + 1) o
further_suc level None = refl
further_suc level (Some j) = let e : level + suc j ≡ level + 1 + j = omega arith in ap Some e

pub further_none : (o : Option ℕ) → o ≡ further 0 o
further_none None = refl
further_none (Some j) = let e : j ≡ 0 + j = omega arith in ap Some e

module _ (pieces : List PlainItem) (stack : List Kind) (level : ℕ) where
  abbrev pub left_up : ℕ → Option ℕ
  left_up level = further level (levels_up pieces (drop level stack))

  module _ (k : Kind) (there : slice_get stack level ≡ Some k) where
    here : left_up level ≡ further level (if may_hold_pieces k pieces then Some 0 else (if is_internal k then None else option_map (λ j. suc j) (levels_up pieces (drop (level + 1) stack))))
    here =
        let next : suc level ≡ level + 1 = omega arith in
        ap (λ l. further level (levels_up pieces l)) (kinds_from stack level k there ∙ ap (λ n. k ∷ drop n stack) next)

    pub level_holds : may_hold_pieces k pieces ≡ true → left_up level ≡ Some level
    level_holds holds =
        here ∙ ap (λ b. further level (if b then Some 0 else (if is_internal k then None else option_map (λ j. suc j) (levels_up pieces (drop (level + 1) stack))))) holds
        ∙ (let e : level + 0 ≡ level = omega arith in ap Some e)

    pub level_internal : may_hold_pieces k pieces ≡ false → is_internal k ≡ true → left_up level ≡ None
    level_internal fails internal =
        here ∙ ap (λ b. further level (if b then Some 0 else (if is_internal k then None else option_map (λ j. suc j) (levels_up pieces (drop (level + 1) stack))))) fails
        ∙ ap (λ b. further level (if b then None else option_map (λ j. suc j) (levels_up pieces (drop (level + 1) stack)))) internal

    pub level_further : may_hold_pieces k pieces ≡ false → is_internal k ≡ false → left_up level ≡ left_up (level + 1)
    level_further fails internal =
        here ∙ ap (λ b. further level (if b then Some 0 else (if is_internal k then None else option_map (λ j. suc j) (levels_up pieces (drop (level + 1) stack))))) fails
        ∙ ap (λ b. further level (if b then None else option_map (λ j. suc j) (levels_up pieces (drop (level + 1) stack)))) internal
        ∙ further_suc level (levels_up pieces (drop (level + 1) stack))

  module _ (none : drop level stack ≡ []) where
    pub root_holds : may_hold_pieces Root pieces ≡ true → left_up level ≡ Some level
    root_holds holds =
        ap (λ l. further level (levels_up pieces l)) none ∙ ap (λ b. further level (if b then Some 0 else None)) holds
        ∙ (let e : level + 0 ≡ level = omega arith in ap Some e)

    pub root_fails : may_hold_pieces Root pieces ≡ false → left_up level ≡ None
    root_fails fails = ap (λ l. further level (levels_up pieces l)) none ∙ ap (λ b. further level (if b then Some 0 else None)) fails

-- ---- the placement

module _ (stack : List Kind) (pieces : List PlainItem) where
  pub none_mixed : is_mixed pieces ≡ true → placement stack pieces ≡ None
  none_mixed h =
      ap (λ b. if b then None else (let items = in_paragraph (top stack) pieces in option_map (λ levels. (items, levels)) (levels_up items stack))) h

  pub placed_by : (items : List PlainItem) (kind : Kind) (o : Option ℕ) → is_mixed pieces ≡ false → kind ≡ top stack → items ≡ in_paragraph kind pieces →
      o ≡ levels_up items stack → option_map (λ levels. (items, levels)) o ≡ placement stack pieces
  placed_by items kind o h k is found =
      let same : items ≡ in_paragraph (top stack) pieces = is ∙ ap (λ k. in_paragraph k pieces) k in
      ap (option_map (λ levels. (items, levels))) found
      ∙ ap (λ (items : List PlainItem). option_map (λ levels. (items, levels)) (levels_up items stack)) same
      ∙ sym (ap (λ b. if b then None else (let items = in_paragraph (top stack) pieces in option_map (λ levels. (items, levels)) (levels_up items stack))) h)

pub none_of : {X : Type 0} → (o : Option X) → ((x : X) → o ≡ Some x → ⊥) → o ≡ None
none_of None h = refl
none_of (Some x) h = absurd (h x refl)
