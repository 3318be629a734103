-- Nodes compared by what they cite, and by value.
use Rattle.std.proofs.Common.{◌≡◌, ◌≢◌, ℕ, ◌+◌, ◌-◌, ◌<◌, ◌≤◌, true, List, [], ◌∷◌, length, take, drop, refl, sym, ap, ◌∙◌, arith, Some, suc, inl, inr, length-take-le, length-drop}
use Rattle.std.specs.List.{slice_range, slice_get}
use Rattle.std.proofs.lemmas.List.{drop_more}
use Rattle.std.proofs.Math.Nat.{eq-or-lt_of_le}
use Rattle.ve_origin.proofs.AlikeLemmas.{at_piece}
use Rattle.std.proofs.lemmas.Option.{slice_get_within, get_or_from_slice_get, slice_get_cases}
use Rattle.ve_base.specs.declared.value.Value.{Value}
use Rattle.model_items.specs.declared.item.Item.{Item}
use Rattle.model_items.specs.declared.item.Item.TheVariants.{Char, Opening, Closing}
use Rattle.model_items.specs.Plain.{plain, plain_list, CitesWell, AreDistinct}
use Rattle.model_items.specs.Same.{list_same, item_same}
use Rattle.model_items.proofs.SameLemmas.{Means-list_same, Means-item_same}
use Rattle.model_items.proofs.PlainLemmas.{plain_tells_apart}
use Rattle.model_page_write.specs.PageText.{item_without_pre}
use Rattle.ve_origin.specs.Without.{without, first_without, first_plain, AreSameNodes}

-- a range is its first item and the rest
pub range_first : {A : Type 0} (xs : List A) (from count : ℕ) (x : A) → 0 < count → slice_get xs from ≡ Some x → slice_range xs from (from + count) ≡ x ∷ slice_range xs (from + 1) (from + 1 + (count - 1))
range_first xs from count x some found =
    let n : from + count - from ≡ suc (count - 1) = omega (arith, some) in
    let m : count - 1 ≡ from + 1 + (count - 1) - (from + 1) = omega arith in
    ap (λ k. take k (drop from xs)) n
    ∙ ap (take (suc (count - 1))) (drop_more xs from x (slice_get_within xs from x found) ∙ ap (λ y. y ∷ drop (from + 1) xs) (get_or_from_slice_get xs from x x found))
    ∙ ap (λ k. x ∷ take k (drop (from + 1) xs)) m

-- ---- by value

abbrev pub AreCiting : List Value → List Item → Type 0
AreCiting values [] = Unit {0}
AreCiting values (x ∷ xs) = CitesWell values x × AreCiting values xs

plain_without : (values : List Value) (x : Item) → plain values (without x) ≡ item_without_pre (plain values x)
plain_without values (Char ch marks) = refl
plain_without values (Opening kind generated head marks pre origin) = refl
plain_without values (Closing kind pre) = refl

pub plain_front : (values : List Value) (xs : List Item) → plain_list values (first_without xs) ≡ first_plain (plain_list values xs)
plain_front values [] = refl
plain_front values (x ∷ xs) = ap (λ y. y ∷ plain_list values xs) (plain_without values x)

without_cites : (values : List Value) (x : Item) → CitesWell values x → CitesWell values (without x)
without_cites values (Char ch marks) h = h
without_cites values (Opening kind generated head marks pre origin) h = (h.0, h.1, tt)
without_cites values (Closing kind pre) h = h

front_cites : (values : List Value) (xs : List Item) → AreCiting values xs → AreCiting values (first_without xs)
front_cites values [] h = tt
front_cites values (x ∷ xs) h = (without_cites values x h.0, h.1)

pub lists_apart : (values : List Value) (xs ys : List Item) → AreDistinct values → AreCiting values xs → AreCiting values ys → plain_list values xs ≡ plain_list values ys → xs ≡ ys
lists_apart values [] [] d h k e = refl
lists_apart values (x ∷ xs) (y ∷ ys) d h k e =
    let head : plain values x ≡ plain values y = cc in
    let tail : plain_list values xs ≡ plain_list values ys = cc in
    let a = plain_tells_apart values x y d h.0 k.0 head in
    let b = lists_apart values xs ys d h.1 k.1 tail in
    (λ i. a i ∷ b i)
lists_apart values [] (y ∷ ys) d h k e = cc
lists_apart values (x ∷ xs) [] d h k e = cc

-- Nodes that cite the same are the same by value, and over distinct values no others are.
pub same_by_value : (values : List Value) (xs ys : List Item) → first_without xs ≡ first_without ys → list_same item_same (first_plain (plain_list values xs)) (first_plain (plain_list values ys)) ≡ true
same_by_value values xs ys e =
    ap (list_same item_same (first_plain (plain_list values xs))) (sym (plain_front values ys) ∙ ap (plain_list values) (sym e) ∙ plain_front values xs)
    ∙ (Means-list_same item_same Means-item_same).itself (first_plain (plain_list values xs))

pub apart_by_value : (values : List Value) (xs ys : List Item) → AreDistinct values → AreCiting values xs → AreCiting values ys →
    list_same item_same (first_plain (plain_list values xs)) (first_plain (plain_list values ys)) ≡ true → first_without xs ≡ first_without ys
apart_by_value values xs ys d h k e =
    lists_apart values (first_without xs) (first_without ys) d (front_cites values xs h) (front_cites values ys k)
    (plain_front values xs ∙ (Means-list_same item_same Means-item_same).equal _ _ e ∙ sym (plain_front values ys))

-- ---- one comparison

pub fronts_agree : (xs ys : List Item) (from place count : ℕ) (x y : Item) → 0 < count → slice_get xs from ≡ Some x → slice_get ys place ≡ Some y → without x ≡ without y →
    slice_range xs (from + 1) (from + 1 + (count - 1)) ≡ slice_range ys (place + 1) (place + 1 + (count - 1)) →
    first_without (slice_range xs from (from + count)) ≡ first_without (slice_range ys place (place + count))
fronts_agree xs ys from place count x y some found found' same rest =
    ap first_without (range_first xs from count x some found)
    ∙ (λ i. same i ∷ rest i)
    ∙ sym (ap first_without (range_first ys place count y some found'))

-- the first items and the rest of lists that agree
pub record Parts (xs ys : List Item) (from place count : ℕ) (x y : Item) : Type 0 where
  pub first : without x ≡ without y
  pub rest : slice_range xs (from + 1) (from + 1 + (count - 1)) ≡ slice_range ys (place + 1) (place + 1 + (count - 1))

heads_same : (x y : Item) (xs ys : List Item) → first_without (x ∷ xs) ≡ first_without (y ∷ ys) → (without x ≡ without y) × (xs ≡ ys)
heads_same x y xs ys e = (cc, cc)

pub parts_agree : (xs ys : List Item) (from place count : ℕ) (x y : Item) → 0 < count → slice_get xs from ≡ Some x → slice_get ys place ≡ Some y →
    first_without (slice_range xs from (from + count)) ≡ first_without (slice_range ys place (place + count)) → Parts xs ys from place count x y
parts_agree xs ys from place count x y some found found' e =
    let p = heads_same x y _ _ (sym (ap first_without (range_first xs from count x some found)) ∙ e ∙ ap first_without (range_first ys place count y some found')) in
    record { first = p.0; rest = p.1 }

pub range_get : {A : Type 0} (xs : List A) (a n k : ℕ) → k < n → a + n ≤ length xs → slice_get xs (a + k) ≡ slice_get (slice_range xs a (a + n)) k
range_get xs a n k less within =
    let piece = slice_range xs a (a + n) in
    let many : a + n - a ≡ n = omega arith in
    let long : length piece ≡ n = length-take-le (a + n - a) (drop a xs) (let d = length-drop a xs in omega (arith, d, within)) ∙ many in
    let e0 : a ≡ a + 0 = omega arith in
    let e1 : a + n ≡ a + 0 + length piece = omega (arith, long) in
    let k0 : a + k ≡ a + (0 + k) = omega arith in
    ap (slice_get xs) k0 ∙ at_piece xs piece a 0 k (λ i. slice_range xs (e0 i) (e1 i)) (omega (arith, long, less)) (omega (arith, long, within))

-- a comparison that stops before the end found a difference
pub stops : (xs ys : List Item) (a b n k : ℕ) → a + n ≤ length xs → b + n ≤ length ys → k ≤ n → (k < n → slice_get xs (a + k) ≢ slice_get ys (b + k)) → slice_range xs a (a + n) ≡ slice_range ys b (b + n) → k ≡ n
stops xs ys a b n k here there le differ same = elim (eq-or-lt_of_le le) [
  | inl e ↦ e
  | inr less ↦ absurd (differ less (range_get xs a n k less here ∙ ap (λ l. slice_get l k) same ∙ sym (range_get ys b n k less there)))
]

rest_agrees : (xs ys : List Item) (from place count : ℕ) → 0 < count → from + count ≤ length xs → place + count ≤ length ys → AreSameNodes xs from ys place count →
    slice_range xs (from + 1) (from + 1 + (count - 1)) ≡ slice_range ys (place + 1) (place + 1 + (count - 1))
rest_agrees xs ys from place count some here there same = elim (slice_get_cases xs from).1 [
  | inl p ↦ elim (slice_get_cases ys place).1 [
    | inl q ↦ (parts_agree xs ys from place count p.0 q.0 some p.2 q.2 same).rest
    | inr q ↦ absurd (omega (arith, some, there, q.0))
  ]
  | inr p ↦ absurd (omega (arith, some, here, p.0))
]

-- a comparison that passed the first items and stops before the end found a difference
pub stops_later : (xs ys : List Item) (from place count k : ℕ) → 0 < k → from + count ≤ length xs → place + count ≤ length ys → k ≤ count →
    (k < count → slice_get xs (from + k) ≢ slice_get ys (place + k)) → AreSameNodes xs from ys place count → k ≡ count
stops_later xs ys from place count k some here there le differ same =
    let a : from + k ≡ from + 1 + (k - 1) = omega (arith, some) in
    let b : place + k ≡ place + 1 + (k - 1) = omega (arith, some) in
    let rest = rest_agrees xs ys from place count (omega (arith, some, le)) here there same in
    let end = stops xs ys (from + 1) (place + 1) (count - 1) (k - 1) (omega (arith, some, le, here)) (omega (arith, some, le, there)) (omega (arith, le))
    (λ less e. differ (omega (arith, some, less)) (ap (slice_get xs) a ∙ e ∙ sym (ap (slice_get ys) b))) rest in
    omega (arith, end, some, le)
