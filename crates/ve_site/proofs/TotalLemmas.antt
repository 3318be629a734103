-- Counts along a list, and along the positions of a list.
use Rattle.std.proofs.Common.{◌≡◌, ◌≤◌, ◌<◌, ℕ, zero, suc, ◌+◌, Bool, true, false, not, ◌&&◌, List, [], ◌∷◌, length, map, All, sum_by, count_by, cond, ◌⊎◌, inl, inr, refl, sym, ap, ◌∙◌, arith}
use Rattle.std.specs.List.{list_any}
use Rattle.std.proofs.lemmas.Bool.{or_parts}
use Rattle.std.proofs.lemmas.List.Sums.{sum_by-cons}
use Rattle.std.proofs.lemmas.List.Elements.{All-head, All-tail}

-- ---- along a list

-- a truth as a number
abbrev pub as_one : Bool → ℕ
as_one b = cond b 1 0

pub one_at_most : (b : Bool) → as_one b ≤ 1
one_at_most true = omega arith
one_at_most false = omega arith

pub fewer_both : (a b : Bool) → as_one (a && b) ≤ as_one a
fewer_both true b = one_at_most b
fewer_both false b = omega arith

pub sum-mapped : {X Y : Type 0} (g : X → Y) (f : Y → ℕ) (xs : List X) → sum_by f (map g xs) ≡ sum_by (λ x. f (g x)) xs
sum-mapped g f [] = refl
sum-mapped g f (x ∷ xs) = sum_by-cons f (g x) (map g xs) ∙ ap (λ n. f (g x) + n) (sum-mapped g f xs) ∙ sym (sum_by-cons (λ y. f (g y)) x xs)

pub sum-more : {X : Type 0} (f g : X → ℕ) (xs : List X) → ((x : X) → f x ≤ g x) → sum_by f xs ≤ sum_by g xs
sum-more f g [] h = omega arith
sum-more f g (x ∷ xs) h = omega (arith, h x, sum-more f g xs h, sum_by-cons f x xs, sum_by-cons g x xs)

-- two terms of each element, one together at most
pub sum-pairs : {X : Type 0} (f g : X → ℕ) (xs : List X) → All (λ x. f x + g x ≤ 1) xs → sum_by f xs + sum_by g xs ≤ length xs
sum-pairs f g [] h = omega arith
sum-pairs f g (x ∷ xs) h =
    let one = All-head (λ y. f y + g y ≤ 1) x xs h in
    omega (arith, one, sum-pairs f g xs (All-tail (λ y. f y + g y ≤ 1) x xs h), sum_by-cons f x xs, sum_by-cons g x xs)

-- one of those that are counted, or none is
pub found : {X : Type 0} (P : X → Type 0) (m : X → Bool) (xs : List X) → All P xs → ((x : X) × P x × (m x ≡ true)) ⊎ (count_by m xs ≡ 0)
found P m [] a = inr refl
found {X = X} P m (x ∷ xs) a = by (m x) refl (found P m xs (All-tail P x xs a))
  where
    by : (b : Bool) → m x ≡ b → ((y : X) × P y × (m y ≡ true)) ⊎ (count_by m xs ≡ 0) → ((y : X) × P y × (m y ≡ true)) ⊎ (count_by m (x ∷ xs) ≡ 0)
    by true e r = inl (x, All-head P x xs a, e)
    by false e (inl p) = inl p
    by false e (inr none) = let own : as_one (m x) ≡ 0 = ap as_one e in inr (omega (arith, own, none, sum_by-cons (λ y. as_one (m y)) x xs))

pub none_counted : {X : Type 0} (m : X → Bool) (xs : List X) → list_any m xs ≡ false → count_by m xs ≡ 0
none_counted m [] h = refl
none_counted m (x ∷ xs) h =
    let p = or_parts (m x) (list_any m xs) h in
    let own : as_one (m x) ≡ 0 = ap as_one p.0 in
    omega (arith, own, none_counted m xs p.1, sum_by-cons (λ y. as_one (m y)) x xs)

-- of those that pass a test, which one at most does, none passes it or one may pass another
pub once : {X : Type 0} (m q : X → Bool) (xs : List X) → count_by m xs ≤ 1 → as_one (not (list_any m xs)) + count_by (λ x. m x && q x) xs ≤ 1
once m q xs few = by (list_any m xs) refl
  where
    fewer : count_by (λ x. m x && q x) xs ≤ count_by m xs
    fewer = sum-more (λ x. as_one (m x && q x)) (λ x. as_one (m x)) xs (λ x. fewer_both (m x) (q x))

    by : (b : Bool) → list_any m xs ≡ b → as_one (not b) + count_by (λ x. m x && q x) xs ≤ 1
    by true e = omega (arith, fewer, few)
    by false e = omega (arith, fewer, none_counted m xs e)

-- ---- along positions

abbrev pub total : ℕ → (ℕ → ℕ) → ℕ
total zero f = 0
total (suc n) f = f 0 + total n (λ k. f (suc k))

pub total-same : (n : ℕ) (f g : ℕ → ℕ) → ((k : ℕ) → f k ≡ g k) → total n f ≡ total n g
total-same zero f g h = refl
total-same (suc n) f g h = λ i. h 0 i + total-same n (λ k. f (suc k)) (λ k. g (suc k)) (λ k. h (suc k)) i

pub total-append : (m n : ℕ) (f : ℕ → ℕ) → total (m + n) f ≡ total m f + total n (λ k. f (m + k))
total-append zero n f =
    let e : 0 + n ≡ n = omega arith in
    let same = total-same n f (λ k. f (0 + k)) (λ k. ap f (let z : k ≡ 0 + k = omega arith in z)) in
    let one : total (0 + n) f ≡ total n f = ap (λ j. total j f) e in
    omega (arith, same, one)
total-append (suc m) n f =
    let e : suc m + n ≡ suc (m + n) = omega arith in
    let one : total (suc m + n) f ≡ total (suc (m + n)) f = ap (λ j. total j f) e in
    let rest = total-append m n (λ k. f (suc k)) in
    let same = total-same n (λ k. f (suc (m + k))) (λ k. f (suc m + k)) (λ k. ap f (let z : suc (m + k) ≡ suc m + k = omega arith in z)) in
    omega (arith, one, rest, same)

pub total-both : (n : ℕ) (f g : ℕ → ℕ) → total n f + total n g ≡ total n (λ k. f k + g k)
total-both zero f g = refl
total-both (suc n) f g = let rest = total-both n (λ k. f (suc k)) (λ k. g (suc k)) in omega (arith, rest)

pub total-at : (n : ℕ) (f : ℕ → ℕ) (p : ℕ) → p < n → f p ≤ total n f
total-at zero f p h = absurd (omega (arith, h))
total-at (suc n) f zero h = omega arith
total-at (suc n) f (suc p) h = let rest = total-at n (λ k. f (suc k)) p (omega (arith, h)) in omega (arith, rest)

pub total-small : (n : ℕ) (f : ℕ → ℕ) → ((k : ℕ) → k < n → f k ≤ 1) → total n f ≤ n
total-small zero f h = omega arith
total-small (suc n) f h =
    let one = h 0 (omega arith) in
    let rest = total-small n (λ k. f (suc k)) (λ k less. h (suc k) (omega (arith, less))) in
    omega (arith, one, rest)

-- Each stands at some position: so many are counted position by position.
pub count_by_places : {X : Type 0} (stands : X → ℕ → Bool) (m : X → Bool) (n : ℕ) (xs : List X) → All (λ x. (p : ℕ) × (p < n) × (stands x p ≡ true)) xs →
    count_by m xs ≤ total n (λ k. count_by (λ x. stands x k && m x) xs)
count_by_places stands m n [] a = omega arith
count_by_places stands m n (x ∷ xs) a =
    let here = All-head (λ y. (p : ℕ) × (p < n) × (stands y p ≡ true)) x xs a in
    let rest = count_by_places stands m n xs (All-tail (λ y. (p : ℕ) × (p < n) × (stands y p ≡ true)) x xs a) in
    let own = λ (k : ℕ). as_one (stands x k && m x) in
    let others = λ (k : ℕ). count_by (λ y. stands y k && m y) xs in
    let first : own here.0 ≤ total n own = total-at n own here.0 here.1 in
    let is : own here.0 ≡ as_one (m x) = ap (λ b. as_one (b && m x)) here.2 in
    let both = total-both n own others in
    let parts = total-same n (λ k. count_by (λ y. stands y k && m y) (x ∷ xs)) (λ k. own k + others k) (λ k. sum_by-cons (λ y. as_one (stands y k && m y)) x xs) in
    omega (arith, rest, first, is, both, parts, sum_by-cons (λ y. as_one (m y)) x xs)
