-- Where list items and their lists begin and end.
use Rattle.std.proofs.Common.{◌≡◌, ◌<◌, ℕ, zero, suc, ◌-◌, Bool, true, false, if◌then◌else◌, Option, Some, None, List, [], ◌∷◌, length, map, slice_get, refl, sym, ap, ◌∙◌, arith}
use Rattle.ve_base.specs.declared.value.Value.{Value}
use Rattle.ve_kinds.specs.declared.kind.Kind.{Kind}
use Rattle.ve_kinds.specs.declared.kind.Kind.TheVariants.{Li}
use Rattle.ve_kinds.specs.Table.{kind_same}
use Rattle.model_items.specs.declared.item.Item.{Item}
use Rattle.model_items.specs.declared.item.Item.TheVariants as item
use Rattle.model_items.specs.declared.plain_item.PlainItem.{PlainItem}
use Rattle.model_items.specs.Law.{Lawful}
use Rattle.model_items.specs.Offsets.{partner, passes}
use Rattle.model_items.specs.Plain.{plain, plain_list}
use Rattle.model_items.specs.Tree.{Open}
use Rattle.model_edit.specs.Brackets.{is_opening_of}
use Rattle.model_edit.specs.Lists.{is_list_item, passes_before}
use Rattle.ve_tree.specs.IsTree.{unvalued}
use Rattle.ve_edits.proofs.BracketLemmas.{slice_get-plain, partner_past}
use Rattle.ve_edits.proofs.RoundLemmas.{item_there}
use Rattle.ve_lists.specs.Moved.{nested_in}

-- a list item ends past its opening
pub list_item_past : (values : List Value) (items : List Item) (at : ℕ) → Lawful (unvalued items) → at < length items → is_list_item (plain_list values items) at ≡ true →
    at < partner (plain_list values items) at
list_item_past values items at lawful h opens = let there = item_there items at h in by there.0 there.0 refl there.1
  where
    by : (x y : Item) → x ≡ y → slice_get items at ≡ Some x → at < partner (plain_list values items) at
    by x (item.Char ch marks) is there =
        let here = ap (passes (is_opening_of Li)) (slice_get-plain values items at x there ∙ ap (λ y. Some (plain values y)) is) in absurd (cc)
    by x (item.Closing kind pre) is there =
        let here = ap (passes (is_opening_of Li)) (slice_get-plain values items at x there ∙ ap (λ y. Some (plain values y)) is) in absurd (cc)
    by x (item.Opening kind generated head marks pre origin) is there = partner_past values items at x kind generated head marks pre origin lawful there is

-- the item just before a position
pub passes_before_at : (test : PlainItem → Bool) (items : List PlainItem) (at : ℕ) → 0 < at → passes_before test items at ≡ passes test (slice_get items (at - 1))
passes_before_at test items zero h = absurd (omega arith)
passes_before_at test items (suc at) h = let e : suc at - 1 ≡ at = omega arith in ap (λ n. passes test (slice_get items n)) (sym e)

pub none_open : (opens : List Open) (stack : List Kind) → map (λ (node : Open). node.kind) opens ≡ stack → 0 < length stack → opens ≡ [] → ⊥
none_open opens stack e some none = let n = ap length (sym e ∙ ap (map (λ (node : Open). node.kind)) none) in omega arith

-- ---- the list of an item

pub nested_few : (opens : List Open) (stack : List Kind) → map (λ (node : Open). node.kind) opens ≡ stack → length stack < 2 → nested_in opens ≡ None
nested_few [] stack e h = refl
nested_few (list ∷ []) stack e h = refl
nested_few (list ∷ outer ∷ others) stack e h = let n = ap length e in absurd (omega arith)

pub nested_other : (opens : List Open) (stack : List Kind) (k : Kind) → map (λ (node : Open). node.kind) opens ≡ stack → slice_get stack 1 ≡ Some k → kind_same k Li ≡ false →
    nested_in opens ≡ None
nested_other [] stack k e h other = refl
nested_other (list ∷ []) stack k e h other = refl
nested_other (list ∷ outer ∷ others) stack k e h other =
    let same : outer.kind ≡ k = by (ap (λ s. slice_get s 1) e ∙ h) in
    ap (λ b. if b then Some list else None) (ap (λ x. kind_same x Li) same ∙ other)
  where
    by : ◌≡◌ {A = Option Kind} (Some outer.kind) (Some k) → outer.kind ≡ k
    by s = cc

pub nested_found : (opens rest : List Open) (stack : List Kind) (inner k kind : Kind) (from : ℕ) → map (λ (node : Open). node.kind) opens ≡ stack →
    slice_get stack 0 ≡ Some inner → slice_get stack 1 ≡ Some k → kind_same k Li ≡ true → opens ≡ record { kind = kind; from = from } ∷ rest →
    Some (record { kind = inner; from = from }) ≡ nested_in opens
nested_found [] rest stack inner k kind from e first second li is = absurd (cc)
nested_found (list ∷ []) rest stack inner k kind from e first second li is =
    absurd (by (ap (λ s. slice_get s 1) e ∙ second))
  where
    by : ◌≡◌ {A = Option Kind} None (Some k) → ⊥
    by s = cc
nested_found (list ∷ outer ∷ others) rest stack inner k kind from e first second li is =
    let same : outer.kind ≡ k = by (ap (λ s. slice_get s 1) e ∙ second) in
    let mine : list.kind ≡ inner = by_first (ap (λ s. slice_get s 0) e ∙ first) in
    let begun : list.from ≡ from = cc in
    let node : record { kind = inner; from = from } ≡ list = λ i. record { kind = sym mine i; from = sym begun i } in
    ap Some node ∙ sym (ap (λ b. if b then Some list else None) (ap (λ x. kind_same x Li) same ∙ li))
  where
    by : ◌≡◌ {A = Option Kind} (Some outer.kind) (Some k) → outer.kind ≡ k
    by s = cc

    by_first : ◌≡◌ {A = Option Kind} (Some list.kind) (Some inner) → list.kind ≡ inner
    by_first s = cc
