-- Going on by a piece of each of two lists.
use Rattle.std.proofs.Common.{◌≡◌, ◌≢◌, ℕ, zero, suc, ◌+◌, ◌-◌, ◌<◌, ◌≤◌, List, [], ◌∷◌, ◌++◌, refl, length, get_or, take, drop, sym, ap, ◌∙◌, arith, drop-drop, inl, inr, Some}
use Rattle.std.specs.List.{slice_range, slice_get}
use Rattle.std.proofs.Math.Seq.{take-add}
use Rattle.std.proofs.lemmas.List.{take-take, get_or-take, get_or-drop}
use Rattle.std.proofs.lemmas.Option.{slice_get-get_or, get_or_from_slice_get, slice_get_cases}
use Rattle.model_items.specs.declared.item.Item.{Item}
use Rattle.ve_origin.specs.Agree.{Agree}
use Rattle.ve_origin.specs.Known.{AreAlike, IsRunOf}
use Rattle.ve_origin.specs.declared.known.Run.{Run}

pub piece_is : {A : Type 0} (xs piece : List A) (at : ℕ) → piece ≡ slice_range xs at (at + length piece) → piece ≡ take (length piece) (drop at xs)
piece_is xs piece at is = is ∙ ap (λ m. take m (drop at xs)) (let e : at + length piece - at ≡ length piece = omega arith in e)

-- a range up to a position in a piece that begins where the range ended
pub range_on : {A : Type 0} (xs piece : List A) (from n k : ℕ) → k ≤ length piece → piece ≡ slice_range xs (from + n) (from + n + length piece) →
    slice_range xs from (from + (n + k)) ≡ slice_range xs from (from + n) ++ take k piece
range_on xs piece from n k le is =
    let long : from + (n + k) - from ≡ n + k = omega arith in
    let short : n ≡ from + n - from = omega arith in
    ap (λ m. take m (drop from xs)) long ∙ take-add n k (drop from xs)
    ∙ ap (λ m. take m (drop from xs) ++ take k (drop n (drop from xs))) short
    ∙ ap (λ l. slice_range xs from (from + n) ++ l) (ap (take k) (drop-drop n from xs) ∙ sym (take-take k (length piece) (drop (from + n) xs) le) ∙ ap (take k) (sym (piece_is xs piece (from + n) is)))

-- so two ranges that are alike stay alike by the common prefix of two pieces
pub alike_on : {A : Type 0} (xs ys one other : List A) (from place n k : ℕ) → Agree one other k → one ≡ slice_range xs (from + n) (from + n + length one) →
    other ≡ slice_range ys (place + n) (place + n + length other) → slice_range xs from (from + n) ≡ slice_range ys place (place + n) →
    slice_range xs from (from + (n + k)) ≡ slice_range ys place (place + (n + k))
alike_on xs ys one other from place n k agree here there same =
    range_on xs one from n k agree.here here
    ∙ ap (λ l. l ++ take k one) same
    ∙ ap (λ l. slice_range ys place (place + n) ++ l) agree.same
    ∙ sym (range_on ys other place n k agree.there there)

-- an item of a piece
in_piece : {A : Type 0} (xs piece : List A) (from n k : ℕ) (x : A) → piece ≡ slice_range xs (from + n) (from + n + length piece) → k < length piece → from + n + length piece ≤ length xs →
    slice_get piece k ≡ Some x → slice_get xs (from + (n + k)) ≡ Some x
in_piece xs piece from n k x is less within found =
    let at : from + n + k ≡ from + (n + k) = omega arith in
    slice_get-get_or xs (from + (n + k)) x (omega (arith, less, within))
    ∙ ap (λ m. Some (get_or xs m x)) (sym at)
    ∙ ap Some (sym (get_or-drop (from + n) xs k x) ∙ sym (get_or-take (length piece) (drop (from + n) xs) k x less)
    ∙ ap (λ l. get_or l k x) (sym (piece_is xs piece (from + n) is)) ∙ get_or_from_slice_get piece k x x found)

pub at_piece : {A : Type 0} (xs piece : List A) (from n k : ℕ) → piece ≡ slice_range xs (from + n) (from + n + length piece) → k < length piece → from + n + length piece ≤ length xs →
    slice_get xs (from + (n + k)) ≡ slice_get piece k
at_piece xs piece from n k is less within = elim (slice_get_cases piece k).1 [
  | inl p ↦ in_piece xs piece from n k p.0 is less within p.2 ∙ sym p.2
  | inr p ↦ absurd (omega (arith, less, p.0))
]

pub differs_on : {A : Type 0} (xs ys one other : List A) (from place n k most : ℕ) → Agree one other k → one ≡ slice_range xs (from + n) (from + n + length one) →
    other ≡ slice_range ys (place + n) (place + n + length other) → k < length one → k < length other →
    from + n + length one ≤ from + most → place + n + length other ≤ place + most → from + most ≤ length xs → place + most ≤ length ys →
    slice_get xs (from + (n + k)) ≢ slice_get ys (place + (n + k))
differs_on xs ys one other from place n k most agree here there less less' in_one in_other long long' same =
    agree.differ less less'
    (sym (at_piece xs one from n k here less (omega (arith, in_one, long))) ∙ same ∙ at_piece ys other place n k there less' (omega (arith, in_other, long')))

-- ---- what is known

inside : {A : Type 0} (xs ys : List A) (n p m : ℕ) → p + m ≤ n → take n xs ≡ take n ys → take m (drop p xs) ≡ take m (drop p ys)
inside xs ys n zero m le e = sym (take-take m n xs (omega (arith, le))) ∙ ap (take m) e ∙ take-take m n ys (omega (arith, le))
inside xs ys zero (suc p) m le e = absurd (omega (arith, le))
inside [] [] (suc n) (suc p) m le e = refl
inside [] (y ∷ ys) (suc n) (suc p) m le e = cc
inside (x ∷ xs) [] (suc n) (suc p) m le e = cc
inside (x ∷ xs) (y ∷ ys) (suc n) (suc p) m le e = let rest : take n xs ≡ take n ys = cc in inside xs ys n p m (omega (arith, le)) rest

range_take : {A : Type 0} (xs : List A) (from n : ℕ) → slice_range xs from (from + n) ≡ take n (drop from xs)
range_take xs from n = ap (λ m. take m (drop from xs)) (let e : from + n - from ≡ n = omega arith in e)

-- a part of two ranges that are alike
pub range_part : {A : Type 0} (xs ys : List A) (a b n p m : ℕ) → p + m ≤ n → slice_range xs a (a + n) ≡ slice_range ys b (b + n) → slice_range xs (a + p) (a + p + m) ≡ slice_range ys (b + p) (b + p + m)
range_part xs ys a b n p m le e =
    range_take xs (a + p) m ∙ ap (take m) (sym (drop-drop p a xs))
    ∙ inside (drop a xs) (drop b ys) n p m le (sym (range_take xs a n) ∙ e ∙ range_take ys b n)
    ∙ ap (take m) (drop-drop p b ys) ∙ sym (range_take ys (b + p) m)

-- two ranges one after the other
pub ranges_join : {A : Type 0} (xs ys : List A) (a b n k : ℕ) → slice_range xs a (a + n) ≡ slice_range ys b (b + n) → slice_range xs (a + n) (a + n + k) ≡ slice_range ys (b + n) (b + n + k) →
    slice_range xs a (a + (n + k)) ≡ slice_range ys b (b + (n + k))
ranges_join {A = A} xs ys a b n k e f =
    parts xs a ∙ (λ i. e i ++ f i) ∙ sym (parts ys b)
  where
    parts : (l : List A) (from : ℕ) → slice_range l from (from + (n + k)) ≡ slice_range l from (from + n) ++ slice_range l (from + n) (from + n + k)
    parts l from =
        range_take l from (n + k) ∙ take-add n k (drop from l)
        ∙ (λ i. sym (range_take l from n) i ++ (ap (take k) (drop-drop n from l) ∙ sym (range_take l (from + n) k)) i)

-- so many items of a known run from two places on are alike
pub known_part : (xs ys : List Item) (run : Run) (from place n m : ℕ) → AreAlike xs ys run → (0 < n → run.now ≤ from) → (0 < n → place ≡ run.first + (from - run.now)) → (0 < n → from - run.now + n ≡ run.count) →
    m ≤ n → slice_range xs from (from + m) ≡ slice_range ys place (place + m)
known_part xs ys run from place n zero known before step end le = range_take xs from 0 ∙ sym (range_take ys place 0)
known_part xs ys run from place n (suc m) known before step end le =
    let some : 0 < n = omega (arith, le) in
    let b = before some in
    let s = step some in
    let e = end some in
    let here : run.now + (from - run.now) ≡ from = omega (arith, b) in
    let there : run.first + (from - run.now) ≡ place = sym s in
    let part = range_part xs ys run.now run.first run.count (from - run.now) (suc m) (omega (arith, e, le)) known.same in
    (λ i. slice_range xs (sym here i) (sym here i + suc m)) ∙ part ∙ (λ i. slice_range ys (there i) (there i + suc m))

-- the run of two nodes is alike
pub run_alike : (now first : List Item) (from place count : ℕ) (run : Run) → IsRunOf now from first place count run → AreAlike now first run
run_alike now first from place count run (inl p) = p.1.alike
run_alike now first from place count run (inr p) = p.1.alike
