-- Ranges: what is inside a leaf, and positions one after the other.
use Rattle.std.proofs.Common.{◌≡◌, ◌≤◌, ◌<◌, ℕ, zero, suc, ◌+◌, ◌-◌, Bool, true, false, cond, ◌||◌, IsTrue, ◌↔◌, Some, List, [], ◌∷◌, ◌++◌, length, map, filter, take, drop, slice_get, refl, sym, ap, ◌∙◌, subst, arith, inl, inr}
use Rattle.std.specs.List.{range_with_len, list_any}
use Rattle.std.proofs.lemmas.Bool.{cases_Bool}
use Rattle.std.proofs.lemmas.Bool.Decides.{nat_tests}
use Rattle.std.specs.Prelude.{nat_le, nat_lt}
use Rattle.std.proofs.lemmas.List.Elements.{filter-append}
use Rattle.ve_kinds.specs.declared.kind.Kind.{Kind}
use Rattle.ve_kinds.specs.declared.kind.Kind.TheVariants.{Root, P, H1, H2, H3, H4, H5, H6, Pre, Section, Li, Dt, Dd, Blockquote, Div, Td, Th, Caption, InternalItem, Ul, Ol, Dl, Table, Thead, Tbody, Tfoot, Tr, InternalList, TransBlock, AlienBlock, Br, Img, Ref, TransInline, AlienInline}
use Rattle.ve_kinds.specs.Table.{is_leaf}
use Rattle.ve_base.specs.declared.value.Value.{Value}
use Rattle.model_items.specs.declared.item.Item.{Item}
use Rattle.model_items.specs.declared.plain_item.PlainItem.{PlainItem}
use Rattle.model_items.specs.declared.offset_class.OffsetClass.{OffsetClass}
use Rattle.model_items.specs.declared.offset_class.OffsetClass.TheVariants.{Content, Structural, Inside}
use Rattle.model_items.specs.Plain.{plain_list}
use Rattle.model_items.specs.Law.{top}
use Rattle.model_items.specs.Tree.{Open, class_in, class_at, node_at, place_with}
use Rattle.model_items.specs.Offsets.{opens_at, kind_at, is_inside_leaf, places_in}
use Rattle.ve_tree.specs.IsTree.{unvalued}
use Rattle.ve_edits.proofs.BracketLemmas.{opens_at-plain}

abbrev is_inside : OffsetClass → Bool
is_inside Inside = true
is_inside Content = false
is_inside Structural = false

leaf_is : (k : Kind) → is_leaf k ≡ is_inside (class_in k)
leaf_is Root = refl
leaf_is P = refl
leaf_is H1 = refl
leaf_is H2 = refl
leaf_is H3 = refl
leaf_is H4 = refl
leaf_is H5 = refl
leaf_is H6 = refl
leaf_is Pre = refl
leaf_is Section = refl
leaf_is Li = refl
leaf_is Dt = refl
leaf_is Dd = refl
leaf_is Blockquote = refl
leaf_is Div = refl
leaf_is Td = refl
leaf_is Th = refl
leaf_is Caption = refl
leaf_is InternalItem = refl
leaf_is Ul = refl
leaf_is Ol = refl
leaf_is Dl = refl
leaf_is Table = refl
leaf_is Thead = refl
leaf_is Tbody = refl
leaf_is Tfoot = refl
leaf_is Tr = refl
leaf_is InternalList = refl
leaf_is TransBlock = refl
leaf_is AlienBlock = refl
leaf_is Br = refl
leaf_is Img = refl
leaf_is Ref = refl
leaf_is TransInline = refl
leaf_is AlienInline = refl

kind_round : (values : List Value) (items : List Item) (o : ℕ) → kind_at (plain_list values items) o ≡ (node_at (unvalued items) o).kind
kind_round values items o =
    ap (λ opens. top (map (λ (node : Open). node.kind) opens)) (opens_at-plain values items o) ∙ by (opens_at (unvalued items) o) (drop o (unvalued items))
  where
    by : (opens : List Open) (rest : List PlainItem) → top (map (λ (node : Open). node.kind) opens) ≡ (place_with opens o rest).kind
    by [] rest = refl
    by (inner ∷ outer) rest = refl

decided : (b : Bool) (class : OffsetClass) → (IsTrue b ↔ (class ≡ Inside)) → b ≡ is_inside class
decided b Inside h = h.1 refl
decided true Content h = let wrong = h.0 refl in absurd (cc)
decided false Content h = refl
decided true Structural h = let wrong = h.0 refl in absurd (cc)
decided false Structural h = refl

pub inside_leaf : (values : List Value) (items : List Item) (o : ℕ) (b : Bool) → (IsTrue b ↔ (class_at (unvalued items) o ≡ Inside)) → b ≡ is_inside_leaf (plain_list values items) o
inside_leaf values items o b h = decided b (class_at (unvalued items) o) h ∙ sym (ap is_leaf (kind_round values items o) ∙ leaf_is (node_at (unvalued items) o).kind)

-- one position more
range_snoc : (a n : ℕ) → range_with_len a (suc n) ≡ range_with_len a n ++ (a + n) ∷ []
range_snoc a zero = let e : a ≡ a + 0 = omega arith in ap (λ k. k ∷ []) e
range_snoc a (suc n) = let e : a + 1 + n ≡ a + suc n = omega arith in ap (λ l. a ∷ l) (range_snoc (a + 1) n ∙ ap (λ k. range_with_len (a + 1) n ++ k ∷ []) e)

pub places_more : (from at : ℕ) → from ≤ at → places_in from (at + 1) ≡ places_in from at ++ at ∷ []
places_more from at h =
    let n : at + 1 - from ≡ suc (at - from) = omega arith in
    let e : from + (at - from) ≡ at = omega arith in
    ap (range_with_len from) n ∙ range_snoc from (at - from) ∙ ap (λ k. range_with_len from (at - from) ++ k ∷ []) e

pub places_none : (from : ℕ) → places_in from from ≡ []
places_none from = let n : from - from ≡ 0 = omega arith in ap (range_with_len from) n

pub passing_more : (p : ℕ → Bool) (from at : ℕ) → from ≤ at → p at ≡ true → filter p (places_in from (at + 1)) ≡ filter p (places_in from at) ++ at ∷ []
passing_more p from at h is =
    ap (filter p) (places_more from at h) ∙ filter-append p (places_in from at) (at ∷ []) ∙ ap (λ b. filter p (places_in from at) ++ cond b (at ∷ []) []) is

pub passing_same : (p : ℕ → Bool) (from at : ℕ) → from ≤ at → p at ≡ false → filter p (places_in from (at + 1)) ≡ filter p (places_in from at)
passing_same p from at h is =
    ap (filter p) (places_more from at h) ∙ filter-append p (places_in from at) (at ∷ []) ∙ ap (λ b. filter p (places_in from at) ++ cond b (at ∷ []) []) is
    ∙ append_nil (filter p (places_in from at))
  where
    append_nil : (xs : List ℕ) → xs ++ [] ≡ xs
    append_nil [] = refl
    append_nil (x ∷ xs) = ap (λ l. x ∷ l) (append_nil xs)

-- each number passes the test and is in the range
abbrev pub AllIn : (ℕ → Bool) → (from end : ℕ) → List ℕ → Type 0
AllIn p from end [] = Unit {0}
AllIn p from end (n ∷ ns) = (p n ≡ true) × (from ≤ n) × (n < end) × AllIn p from end ns

AllIn-wider : (p : ℕ → Bool) (from from' end end' : ℕ) (ns : List ℕ) → from' ≤ from → end ≤ end' → AllIn p from end ns → AllIn p from' end' ns
AllIn-wider p from from' end end' [] low high h = tt
AllIn-wider p from from' end end' (n ∷ ns) low high h = let a = h.1 in let b = h.2 in (h.0, omega arith, omega arith, AllIn-wider p from from' end end' ns low high h.3)

pub AllIn-filter : (p : ℕ → Bool) (from count : ℕ) → AllIn p from (from + count) (filter p (range_with_len from count))
AllIn-filter p from zero = tt
AllIn-filter p from (suc count) =
    let rest = filter p (range_with_len (from + 1) count) in
    let later : AllIn p from (from + suc count) rest =
    AllIn-wider p (from + 1) from ((from + 1) + count) (from + suc count) rest (omega arith) (omega arith) (AllIn-filter p (from + 1) count) in
    elim (cases_Bool (p from)) [
      | inl yes_ ↦ subst (λ b. AllIn p from (from + suc count) (cond b (from ∷ rest) rest)) (sym yes_) (yes_, omega arith, omega arith, later)
      | inr no_ ↦ subst (λ b. AllIn p from (from + suc count) (cond b (from ∷ rest) rest)) (sym no_) later
    ]

-- one item of a range, and then the others
pub range_first : (items : List PlainItem) (at to : ℕ) (x : PlainItem) → at < to → slice_get items at ≡ Some x → take (to - at) (drop at items) ≡ x ∷ take (to - (at + 1)) (drop (at + 1) items)
range_first items at to x less h =
    let n : to - at ≡ suc (to - (at + 1)) = omega arith in
    let m : suc at ≡ at + 1 = omega arith in
    ap (λ k. take k (drop at items)) n ∙ ap (take (suc (to - (at + 1)))) (cut items at x h) ∙ ap (λ k. x ∷ take (to - (at + 1)) (drop k items)) m
  where
    cut : (items : List PlainItem) (at : ℕ) (x : PlainItem) → slice_get items at ≡ Some x → drop at items ≡ x ∷ drop (suc at) items
    cut [] at x h = absurd (cc)
    cut (y ∷ items) zero x h = let same : y ≡ x = cc in ap (λ y. y ∷ items) same
    cut (y ∷ items) (suc at) x h = cut items at x h

pub range_any : (test : PlainItem → Bool) (items : List PlainItem) (at to : ℕ) (x : PlainItem) → at < to → slice_get items at ≡ Some x →
    list_any test (take (to - at) (drop at items)) ≡ (test x || list_any test (take (to - (at + 1)) (drop (at + 1) items)))
range_any test items at to x less h = ap (list_any test) (range_first items at to x less h)

-- a range of the list is bad where one of its ends is inside a leaf
pub span_by_ends : (items : List PlainItem) (from to : ℕ) (a b r : Bool) → (to ≤ from → ⊥) → (length items < to → ⊥) → r ≡ (a || b) →
    r ≡ (nat_le to from || (nat_lt (length items) to || (a || b)))
span_by_ends items from to a b r some within is =
    let one : nat_le to from ≡ false = grind (arith, nat_tests) in
    let two : nat_lt (length items) to ≡ false = grind (arith, nat_tests) in
    is ∙ ap (λ t. t || (a || b)) (sym two) ∙ ap (λ t. t || (nat_lt (length items) to || (a || b))) (sym one)

pub or_first : (a b r : Bool) → r ≡ a → r ≡ true → r ≡ (a || b)
or_first true b r is yes_ = is
or_first false b r is yes_ = absurd (cc)

pub or_second : (a b r first : Bool) → first ≡ a → first ≡ false → r ≡ b → r ≡ (a || b)
or_second true b r first is no_ same = absurd (cc)
or_second false b r first is no_ same = same
