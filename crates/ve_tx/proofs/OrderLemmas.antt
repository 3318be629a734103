-- Numbers in a row that is kept in chunks.
use Rattle.std.proofs.Common.{◌≡◌, ◌≤◌, ◌<◌, ◌+◌, ◌-◌, ◌^◌, ℕ, zero, suc, Bool, true, false, ◌||◌, cond, min, List, [], ◌∷◌, ◌++◌, length, take, drop, get_or, Option, None, Some, Contains, refl, sym, ap, ◌∙◌, subst, inl, inr, arith, length-append, take-append-drop}
use Rattle.std.specs.Prelude.{◌==◌, slice_get, slice_set}
use Rattle.std.specs.List.{remove}
use Rattle.std.specs.Option.{option_map}
use Rattle.std.proofs.lemmas.Bool.{cond-true, cond-false, eqb-true, eqb-false, eq-eqb, ne_eqb, cases_eq, cases_Bool, or_cases, or_parts, or_from, or_left, or_right, false_from_ne_true, both_ways}
use Rattle.std.proofs.lemmas.List.{take_more, take_all, set-get_or, get_or_past, get_or-set_other, length-set, take_min, drop_min, take_at}
use Rattle.ve_items.specs.Blocks.{joined}
use Rattle.ve_items.proofs.Blocks.{joined_next}
use Rattle.ve_tx.specs.Order.{place_of, without, counted, stands, EachOnce, AtHome, IsKept, AreBelow, settled, all_settled}

-- ---- whether a number stands in a row

or_assoc : (a b c : Bool) → (a || (b || c)) ≡ ((a || b) || c)
or_assoc true b c = refl
or_assoc false b c = refl

or_swap : (a b c : Bool) → (a || (b || c)) ≡ (b || (a || c))
or_swap true true c = refl
or_swap true false c = refl
or_swap false b c = refl

pub stands_append : (x : ℕ) (xs ys : List ℕ) → stands x (xs ++ ys) ≡ (stands x xs || stands x ys)
stands_append x [] ys = refl
stands_append x (n ∷ xs) ys = ap (λ b. (n == x) || b) (stands_append x xs ys) ∙ or_assoc (n == x) (stands x xs) (stands x ys)

-- a number put in at a position
pub stands_put : (x number : ℕ) (xs : List ℕ) (at : ℕ) → stands x (take at xs ++ number ∷ drop at xs) ≡ ((number == x) || stands x xs)
stands_put x number xs at =
    stands_append x (take at xs) (number ∷ drop at xs)
    ∙ or_swap (stands x (take at xs)) (number == x) (stands x (drop at xs))
    ∙ ap (λ b. (number == x) || b) (sym (stands_append x (take at xs) (drop at xs)) ∙ ap (stands x) (take-append-drop at xs))

pub contains_standing : (x : ℕ) (xs : List ℕ) → stands x xs ≡ true → Contains xs x
contains_standing x [] t = cc
contains_standing x (n ∷ xs) t = elim (or_cases (n == x) (stands x xs) t) [
  | inl e ↦ (0, omega arith, eqb-true n x e)
  | inr later ↦ let rest = contains_standing x xs later in (suc rest.0, (let lt = rest.1 in omega arith), rest.2)
]

pub new_number : (x : ℕ) (xs : List ℕ) → ¬ Contains xs x → stands x xs ≡ false
new_number x xs new = false_from_ne_true (stands x xs) (λ t. new (contains_standing x xs t))

-- ---- the place of a number

first_place : (x n : ℕ) (xs : List ℕ) → n ≡ x → place_of x (n ∷ xs) ≡ Some 0
first_place x n xs e = cond-true (n == x) _ _ (eq-eqb n x e)

later_place : (x n : ℕ) (xs : List ℕ) → (n == x) ≡ false → place_of x (n ∷ xs) ≡ option_map suc (place_of x xs)
later_place x n xs e = cond-false (n == x) _ _ e

pub no_place : (x : ℕ) (xs : List ℕ) → stands x xs ≡ false → place_of x xs ≡ None
no_place x [] h = refl
no_place x (n ∷ xs) h = let parts = or_parts (n == x) (stands x xs) h in
    later_place x n xs parts.0 ∙ ap (option_map suc) (no_place x xs parts.1)

-- found behind others
pub place_found : (x : ℕ) (xs : List ℕ) (i : ℕ) → i < length xs → stands x (take i xs) ≡ false → get_or xs i 0 ≡ x → place_of x xs ≡ Some i
place_found x [] i lt h e = absurd (let none : ⊥ = omega arith in none)
place_found x (n ∷ xs) zero lt h e = first_place x n xs e
place_found x (n ∷ xs) (suc i) lt h e = let parts = or_parts (n == x) (stands x (take i xs)) h in
    later_place x n xs parts.0 ∙ ap (option_map suc) (place_found x xs i (omega arith) parts.1 e)

pub passed : (x : ℕ) (xs : List ℕ) (i : ℕ) → i < length xs → stands x (take i xs) ≡ false → (get_or xs i 0 ≡ x → ⊥) → stands x (take (i + 1) xs) ≡ false
passed x xs i lt h ne =
    ap (stands x) (take_more xs i 0 lt) ∙ stands_append x (take i xs) (get_or xs i 0 ∷ [])
    ∙ or_from (stands x (take i xs)) (stands x (get_or xs i 0 ∷ [])) h (or_from (get_or xs i 0 == x) false (ne_eqb (get_or xs i 0) x ne) refl)

map_zero : (o : Option ℕ) → o ≡ option_map (λ p. 0 + p) o
map_zero None = refl
map_zero (Some p) = ap Some (omega arith)

map_sum : (a b c : ℕ) (o : Option ℕ) → c ≡ a + b → option_map (λ p. a + p) (option_map (λ p. b + p) o) ≡ option_map (λ p. c + p) o
map_sum a b c None e = refl
map_sum a b c (Some p) e = ap Some (omega arith)

map_suc : (a : ℕ) (o : Option ℕ) → option_map suc (option_map (λ p. a + p) o) ≡ option_map (λ p. suc a + p) o
map_suc a None = refl
map_suc a (Some p) = ap Some (omega arith)

place_right : (x : ℕ) (xs ys : List ℕ) → stands x xs ≡ false → place_of x (xs ++ ys) ≡ option_map (λ p. length xs + p) (place_of x ys)
place_right x [] ys h = map_zero (place_of x ys)
place_right x (n ∷ xs) ys h = let parts = or_parts (n == x) (stands x xs) h in
    later_place x n (xs ++ ys) parts.0 ∙ ap (option_map suc) (place_right x xs ys parts.1) ∙ map_suc (length xs) (place_of x ys)

place_left : (x : ℕ) (xs ys : List ℕ) → stands x ys ≡ false → place_of x (xs ++ ys) ≡ place_of x xs
place_left x [] ys h = no_place x ys h
place_left x (n ∷ xs) ys h = ap (λ o. cond (n == x) (Some 0) (option_map suc o)) (place_left x xs ys h)

-- ---- a number taken out of a row

found_by : (b s : Bool) (o : Option ℕ) (p : ℕ) → ((q : ℕ) → o ≡ Some q → s ≡ true) → cond b (Some 0) (option_map suc o) ≡ Some p → (b || s) ≡ true
found_by true s o p later is = refl
found_by false s None p later is = cc
found_by false s (Some q) p later is = later q refl

pub found : (x : ℕ) (xs : List ℕ) (p : ℕ) → place_of x xs ≡ Some p → stands x xs ≡ true
found x [] p is = cc
found x (n ∷ xs) p is = found_by (n == x) (stands x xs) (place_of x xs) p (found x xs) is

missing_by : (b s : Bool) (o : Option ℕ) → (o ≡ None → s ≡ false) → cond b (Some 0) (option_map suc o) ≡ None → (b || s) ≡ false
missing_by true s o later is = cc
missing_by false s None later is = later refl
missing_by false s (Some q) later is = cc

pub missing : (x : ℕ) (xs : List ℕ) → place_of x xs ≡ None → stands x xs ≡ false
missing x [] is = refl
missing x (n ∷ xs) is = missing_by (n == x) (stands x xs) (place_of x xs) (missing x xs) is

removed_by : (b : Bool) (x n : ℕ) (xs : List ℕ) (o : Option ℕ) (p : ℕ) → ((q : ℕ) → o ≡ Some q → remove xs q ≡ without x xs) → cond b (Some 0) (option_map suc o) ≡ Some p →
    remove (n ∷ xs) p ≡ cond b xs (n ∷ without x xs)
removed_by true x n xs o p later is = let e : 0 ≡ p = cc in subst (λ k. remove (n ∷ xs) k ≡ xs) e refl
removed_by false x n xs None p later is = cc
removed_by false x n xs (Some q) p later is = let e : suc q ≡ p = cc in subst (λ k. remove (n ∷ xs) k ≡ n ∷ without x xs) e (ap (λ l. n ∷ l) (later q refl))

pub removed : (x : ℕ) (xs : List ℕ) (p : ℕ) → place_of x xs ≡ Some p → remove xs p ≡ without x xs
removed x [] p is = cc
removed x (n ∷ xs) p is = removed_by (n == x) x n xs (place_of x xs) p (removed x xs) is

pub without_none : (x : ℕ) (xs : List ℕ) → stands x xs ≡ false → without x xs ≡ xs
without_none x [] h = refl
without_none x (n ∷ xs) h = let parts = or_parts (n == x) (stands x xs) h in
    cond-false (n == x) _ _ parts.0 ∙ ap (λ l. n ∷ l) (without_none x xs parts.1)

left_by : (b s : Bool) (x n : ℕ) (xs ys : List ℕ) → (s ≡ true → without x (xs ++ ys) ≡ without x xs ++ ys) → (b || s) ≡ true →
    cond b (xs ++ ys) (n ∷ without x (xs ++ ys)) ≡ cond b xs (n ∷ without x xs) ++ ys
left_by true s x n xs ys later h = refl
left_by false s x n xs ys later h = ap (λ l. n ∷ l) (later h)

without_left : (x : ℕ) (xs ys : List ℕ) → stands x xs ≡ true → without x (xs ++ ys) ≡ without x xs ++ ys
without_left x [] ys h = cc
without_left x (n ∷ xs) ys h = left_by (n == x) (stands x xs) x n xs ys (without_left x xs ys) h

without_right : (x : ℕ) (xs ys : List ℕ) → stands x xs ≡ false → without x (xs ++ ys) ≡ xs ++ without x ys
without_right x [] ys h = refl
without_right x (n ∷ xs) ys h = let parts = or_parts (n == x) (stands x xs) h in
    cond-false (n == x) _ _ parts.0 ∙ ap (λ l. n ∷ l) (without_right x xs ys parts.1)

still_by : (b : Bool) (x n : ℕ) (xs ys : List ℕ) → (stands x ys ≡ true → stands x xs ≡ true) → stands x (cond b xs (n ∷ ys)) ≡ true → ((n == x) || stands x xs) ≡ true
still_by true x n xs ys later h = or_right (n == x) (stands x xs) h
still_by false x n xs ys later h = elim (or_cases (n == x) (stands x ys) h) [
  | inl e ↦ or_left (n == x) (stands x xs) e
  | inr t ↦ or_right (n == x) (stands x xs) (later t)
]

-- what stands without a number stood there before
pub still_stands : (x number : ℕ) (xs : List ℕ) → stands x (without number xs) ≡ true → stands x xs ≡ true
still_stands x number [] h = h
still_stands x number (n ∷ xs) h = still_by (n == number) x n xs (without number xs) (still_stands x number xs) h

once_by : (b : Bool) (x n : ℕ) (xs : List ℕ) → stands n xs ≡ false → EachOnce xs → EachOnce (without x xs) → EachOnce (cond b xs (n ∷ without x xs))
once_by true x n xs new once rest = once
once_by false x n xs new once rest = (false_from_ne_true (stands n (without x xs)) (λ t. both_ways (stands n xs) new (still_stands n x xs t)), rest)

pub once_without : (x : ℕ) (xs : List ℕ) → EachOnce xs → EachOnce (without x xs)
once_without x [] h = h
once_without x (n ∷ xs) h = once_by (n == x) x n xs h.0 h.1 (once_without x xs h.1)

shorter_by : (b s : Bool) (x n : ℕ) (xs : List ℕ) → (s ≡ true → length xs ≡ length (without x xs) + 1) → (b || s) ≡ true → length (n ∷ xs) ≡ length (cond b xs (n ∷ without x xs)) + 1
shorter_by true s x n xs later h = omega arith
shorter_by false s x n xs later h = let e = later h in omega arith

pub shorter : (x : ℕ) (xs : List ℕ) → stands x xs ≡ true → length xs ≡ length (without x xs) + 1
shorter x [] h = cc
shorter x (n ∷ xs) h = shorter_by (n == x) (stands x xs) x n xs (shorter x xs) h

-- ---- each number once

pub once_right : (xs ys : List ℕ) → EachOnce (xs ++ ys) → EachOnce ys
once_right [] ys h = h
once_right (n ∷ xs) ys h = once_right xs ys h.1

pub once_left : (x : ℕ) (xs ys : List ℕ) → EachOnce (xs ++ ys) → stands x xs ≡ true → stands x ys ≡ false
once_left x [] ys h t = cc
once_left x (n ∷ xs) ys h t = elim (or_cases (n == x) (stands x xs) t) [
  | inl e ↦ (or_parts (stands x xs) (stands x ys) (sym (stands_append x xs ys) ∙ subst (λ k. stands k (xs ++ ys) ≡ false) (eqb-true n x e) h.0)).1
  | inr later ↦ once_left x xs ys h.1 later
]

pub once_put : (number : ℕ) (xs : List ℕ) (at : ℕ) → EachOnce xs → stands number xs ≡ false → EachOnce (take at xs ++ number ∷ drop at xs)
once_put number xs zero once new = (new, once)
once_put number [] (suc at) once new = (refl, tt)
once_put number (n ∷ xs) (suc at) once new =
    let parts = or_parts (n == number) (stands number xs) new in
    let other : (number == n) ≡ false = ne_eqb number n (λ e. eqb-false n number parts.0 (sym e)) in
    (stands_put n number xs at ∙ or_from (number == n) (stands n xs) other once.0, once_put number xs at once.1 parts.1)

pub length_put : (number : ℕ) (xs : List ℕ) (at : ℕ) → length (take at xs ++ number ∷ drop at xs) ≡ length xs + 1
length_put number xs at =
    let whole = ap length (take-append-drop at xs) in
    omega (arith, whole, length-append (take at xs) (drop at xs), length-append (take at xs) (number ∷ drop at xs))

-- ---- so many numbers from one on

pub counted_more : (from k : ℕ) → counted from (suc k) ≡ counted from k ++ (from + k) ∷ []
counted_more from zero = ap (λ n. n ∷ []) (omega arith)
counted_more from (suc k) = ap (λ l. from ∷ l) (counted_more (suc from) k)
    ∙ ap (λ n. from ∷ (counted (suc from) k ++ n ∷ [])) (omega arith)

pub counted_within : (x from k : ℕ) → stands x (counted from k) ≡ true → (from ≤ x) × (x < from + k)
counted_within x from zero h = cc
counted_within x from (suc k) h = elim (or_cases (from == x) (stands x (counted (suc from) k)) h) [
  | inl e ↦ let same = eqb-true from x e in (omega arith, omega arith)
  | inr t ↦ let rest = counted_within x (suc from) k t in let low = rest.0 in let high = rest.1 in (omega arith, omega arith)
]

pub counted_once : (from k : ℕ) → EachOnce (counted from k)
counted_once from zero = tt
counted_once from (suc k) =
    (false_from_ne_true (stands from (counted (suc from) k)) (λ t. let low = (counted_within from (suc from) k t).0 in let none : ⊥ = omega arith in none), counted_once (suc from) k)

pub counted_length : (from k : ℕ) → length (counted from k) ≡ k
counted_length from zero = refl
counted_length from (suc k) = ap suc (counted_length (suc from) k)

-- ---- what stands in chunks

pub nowhere : (x : ℕ) (chunks : List (List ℕ)) → ((k : ℕ) → stands x (get_or chunks k []) ≡ false) → stands x (joined chunks) ≡ false
nowhere x [] h = refl
nowhere x (c ∷ cs) h = stands_append x c (joined cs) ∙ or_from (stands x c) (stands x (joined cs)) (h 0) (nowhere x cs (λ k. h (suc k)))

pub somewhere : (x : ℕ) (chunks : List (List ℕ)) (k : ℕ) → stands x (get_or chunks k []) ≡ true → stands x (joined chunks) ≡ true
somewhere x [] k h = cc
somewhere x (c ∷ cs) zero h = stands_append x c (joined cs) ∙ or_left (stands x c) (stands x (joined cs)) h
somewhere x (c ∷ cs) (suc k) h = stands_append x c (joined cs) ∙ or_right (stands x c) (stands x (joined cs)) (somewhere x cs k h)

pub all_below : (chunks : List (List ℕ)) (bound : ℕ) → ((k x : ℕ) → stands x (get_or chunks k []) ≡ true → x < bound) → AreBelow (joined chunks) bound
all_below [] bound h x t = cc
all_below (c ∷ cs) bound h x t = elim (or_cases (stands x c) (stands x (joined cs)) (sym (stands_append x c (joined cs)) ∙ t)) [
  | inl here ↦ h 0 x here
  | inr later ↦ all_below cs bound (λ k. h (suc k)) x later
]

pub got_within : (xs : List ℕ) (i n : ℕ) → slice_get xs i ≡ Some n → i < length xs
got_within [] i n is = cc
got_within (x ∷ xs) zero n is = omega arith
got_within (x ∷ xs) (suc i) n is = let lt = got_within xs i n is in omega arith

pub below_homes : (chunks : List (List ℕ)) (homes : List ℕ) → AtHome chunks homes → AreBelow (joined chunks) (length homes)
below_homes chunks homes home = all_below chunks (length homes) (λ k x t. got_within homes x k (home k x t))

-- a number stands in its home alone, or nowhere
pub alone : (chunks : List (List ℕ)) (homes : List ℕ) (x n : ℕ) → AtHome chunks homes → slice_get homes x ≡ Some n → (k : ℕ) → (k ≡ n → ⊥) → stands x (get_or chunks k []) ≡ false
alone chunks homes x n home is k ne = false_from_ne_true (stands x (get_or chunks k [])) (λ t. let there = home k x t in ne (let same : k ≡ n = cc in same))

pub homeless : (chunks : List (List ℕ)) (homes : List ℕ) (x : ℕ) → AtHome chunks homes → slice_get homes x ≡ None → stands x (joined chunks) ≡ false
homeless chunks homes x home is = nowhere x chunks (λ k. false_from_ne_true (stands x (get_or chunks k [])) (λ t. let there = home k x t in let none : ⊥ = cc in none))

pub not_at_home : (chunks : List (List ℕ)) (homes : List ℕ) (x n : ℕ) → AtHome chunks homes → slice_get homes x ≡ Some n → stands x (get_or chunks n []) ≡ false → stands x (joined chunks) ≡ false
not_at_home chunks homes x n home is h = nowhere x chunks (λ k. elim (cases_eq k n) [
  | inl same ↦ subst (λ i. stands x (get_or chunks i []) ≡ false) (sym same) h
  | inr ne ↦ alone chunks homes x n home is k ne
])

pub home_past : (chunks : List (List ℕ)) (homes : List ℕ) (x n : ℕ) → AtHome chunks homes → slice_get homes x ≡ Some n → length chunks ≤ n → stands x (joined chunks) ≡ false
home_past chunks homes x n home is past = not_at_home chunks homes x n home is (ap (stands x) (get_or_past chunks n [] past))

-- ---- the place of a number by its home

pub place_in_chunks : (x : ℕ) (chunks : List (List ℕ)) (n : ℕ) → ((k : ℕ) → (k ≡ n → ⊥) → stands x (get_or chunks k []) ≡ false) →
    place_of x (joined chunks) ≡ option_map (λ p. length (joined (take n chunks)) + p) (place_of x (get_or chunks n []))
place_in_chunks x [] n h = refl
place_in_chunks x (c ∷ cs) zero h =
    place_left x c (joined cs) (nowhere x cs (λ k. h (suc k) (λ e. let none : ⊥ = omega arith in none))) ∙ map_zero (place_of x c)
place_in_chunks x (c ∷ cs) (suc n) h =
    place_right x c (joined cs) (h 0 (λ e. let none : ⊥ = omega arith in none))
    ∙ ap (option_map (λ p. length c + p)) (place_in_chunks x cs n (λ k ne. h (suc k) (λ e. ne (let same : k ≡ n = omega arith in same))))
    ∙ map_sum (length c) (length (joined (take n cs))) (length (c ++ joined (take n cs))) (place_of x (get_or cs n [])) (length-append c (joined (take n cs)))

pub before_and_in : (chunks : List (List ℕ)) (n : ℕ) → length (joined (take n chunks)) + length (get_or chunks n []) ≤ length (joined chunks)
before_and_in [] zero = omega arith
before_and_in [] (suc n) = omega arith
before_and_in (c ∷ cs) zero = omega (arith, length-append c (joined cs))
before_and_in (c ∷ cs) (suc n) = omega (arith, before_and_in cs n, length-append c (joined cs), length-append c (joined (take n cs)))

pub found_home : (x : ℕ) (chunks : List (List ℕ)) (homes : List ℕ) (n p : ℕ) → AtHome chunks homes → slice_get homes x ≡ Some n → place_of x (get_or chunks n []) ≡ Some p →
    place_of x (joined chunks) ≡ Some (length (joined (take n chunks)) + p)
found_home x chunks homes n p home is place =
    place_in_chunks x chunks n (alone chunks homes x n home is) ∙ ap (option_map (λ p. length (joined (take n chunks)) + p)) place

-- ---- homes that are set

pub get_set_other : (xs : List ℕ) (i j a : ℕ) → (i ≡ j → ⊥) → slice_get (slice_set xs i a) j ≡ slice_get xs j
get_set_other [] i j a ne = refl
get_set_other (x ∷ xs) zero zero a ne = absurd (ne refl)
get_set_other (x ∷ xs) zero (suc j) a ne = refl
get_set_other (x ∷ xs) (suc i) zero a ne = refl
get_set_other (x ∷ xs) (suc i) (suc j) a ne = get_set_other xs i j a (λ e. ne (ap suc e))

pub get_set_same : (xs : List ℕ) (i a : ℕ) → i < length xs → slice_get (slice_set xs i a) i ≡ Some a
get_set_same [] i a lt = absurd (let none : ⊥ = omega arith in none)
get_set_same (x ∷ xs) zero a lt = refl
get_set_same (x ∷ xs) (suc i) a lt = get_set_same xs i a (omega arith)

pub get_pushed : (xs : List ℕ) (a i n : ℕ) → slice_get xs i ≡ Some n → slice_get (xs ++ a ∷ []) i ≡ Some n
get_pushed [] a i n is = cc
get_pushed (x ∷ xs) a zero n is = is
get_pushed (x ∷ xs) a (suc i) n is = get_pushed xs a i n is

pub below_first : (x : ℕ) (xs : List ℕ) (bound : ℕ) → AreBelow (x ∷ xs) bound → x < bound
below_first x xs bound h = h x (or_left (x == x) (stands x xs) (eq-eqb x x refl))

pub below_rest : (x : ℕ) (xs : List ℕ) (bound : ℕ) → AreBelow (x ∷ xs) bound → AreBelow xs bound
below_rest x xs bound h n t = h n (or_right (x == n) (stands n xs) t)

below_left : (xs ys : List ℕ) (bound : ℕ) → AreBelow (xs ++ ys) bound → AreBelow xs bound
below_left xs ys bound h n t = h n (stands_append n xs ys ∙ or_left (stands n xs) (stands n ys) t)

below_right : (xs ys : List ℕ) (bound : ℕ) → AreBelow (xs ++ ys) bound → AreBelow ys bound
below_right xs ys bound h n t = h n (stands_append n xs ys ∙ or_right (stands n xs) (stands n ys) t)

pub length_settled : (homes : List ℕ) (n : ℕ) (xs : List ℕ) → length (settled homes n xs) ≡ length homes
length_settled homes n [] = refl
length_settled homes n (x ∷ xs) = length_settled (slice_set homes x n) n xs ∙ length-set homes x n

settled_other : (homes : List ℕ) (n : ℕ) (xs : List ℕ) (x : ℕ) → stands x xs ≡ false → slice_get (settled homes n xs) x ≡ slice_get homes x
settled_other homes n [] x h = refl
settled_other homes n (y ∷ ys) x h = let parts = or_parts (y == x) (stands x ys) h in
    settled_other (slice_set homes y n) n ys x parts.1 ∙ get_set_other homes y x n (eqb-false y x parts.0)

settled_own : (homes : List ℕ) (n : ℕ) (xs : List ℕ) (x : ℕ) → AreBelow xs (length homes) → stands x xs ≡ true → slice_get (settled homes n xs) x ≡ Some n
settled_own homes n [] x below h = cc
settled_own homes n (y ∷ ys) x below h = elim (cases_Bool (stands x ys)) [
  | inl t ↦ settled_own (slice_set homes y n) n ys x (subst (AreBelow ys) (sym (length-set homes y n)) (below_rest y ys (length homes) below)) t
  | inr f ↦
      let same : y ≡ x = elim (or_cases (y == x) (stands x ys) h) [ inl e ↦ eqb-true y x e | inr t ↦ absurd (both_ways (stands x ys) f t) ] in
      settled_other (slice_set homes y n) n ys x f
      ∙ subst (λ z. slice_get (slice_set homes y n) z ≡ Some n) same (get_set_same homes y n (below_first y ys (length homes) below))
]

all_settled_other : (homes : List ℕ) (n : ℕ) (chunks : List (List ℕ)) (x : ℕ) → stands x (joined chunks) ≡ false → slice_get (all_settled homes n chunks) x ≡ slice_get homes x
all_settled_other homes n [] x h = refl
all_settled_other homes n (c ∷ cs) x h = let parts = or_parts (stands x c) (stands x (joined cs)) (sym (stands_append x c (joined cs)) ∙ h) in
    all_settled_other (settled homes n c) (suc n) cs x parts.1 ∙ settled_other homes n c x parts.0

pub length_all_settled : (homes : List ℕ) (n : ℕ) (chunks : List (List ℕ)) → length (all_settled homes n chunks) ≡ length homes
length_all_settled homes n [] = refl
length_all_settled homes n (c ∷ cs) = length_all_settled (settled homes n c) (suc n) cs ∙ length_settled homes n c

settled_home : (homes : List ℕ) (n : ℕ) (chunks : List (List ℕ)) → AreBelow (joined chunks) (length homes) → EachOnce (joined chunks) → (k x : ℕ) → stands x (get_or chunks k []) ≡ true → slice_get (all_settled homes n chunks) x ≡ Some (n + k)
settled_home homes n [] below once k x t = cc
settled_home homes n (c ∷ cs) below once zero x t =
    all_settled_other (settled homes n c) (suc n) cs x (once_left x c (joined cs) once t)
    ∙ settled_own homes n c x (below_left c (joined cs) (length homes) below) t
    ∙ ap Some (omega arith)
settled_home homes n (c ∷ cs) below once (suc k) x t =
    settled_home (settled homes n c) (suc n) cs (subst (AreBelow (joined cs)) (sym (length_settled homes n c)) (below_right c (joined cs) (length homes) below)) (once_right c (joined cs) once) k x t
    ∙ ap Some (omega arith)

pub all_at_home : (homes : List ℕ) (chunks : List (List ℕ)) → AreBelow (joined chunks) (length homes) → EachOnce (joined chunks) → AtHome chunks (all_settled homes 0 chunks)
all_at_home homes chunks below once k x t = settled_home homes 0 chunks below once k x t ∙ ap Some (omega arith)

-- ---- a number taken out of its home

pub joined_without : (x : ℕ) (chunks : List (List ℕ)) (n : ℕ) → ((k : ℕ) → (k ≡ n → ⊥) → stands x (get_or chunks k []) ≡ false) → stands x (get_or chunks n []) ≡ true →
    joined (slice_set chunks n (without x (get_or chunks n []))) ≡ without x (joined chunks)
joined_without x [] n h t = cc
joined_without x (c ∷ cs) zero h t = sym (without_left x c (joined cs) t)
joined_without x (c ∷ cs) (suc n) h t =
    ap (λ l. c ++ l) (joined_without x cs n (λ k ne. h (suc k) (λ e. ne (let same : k ≡ n = omega arith in same))) t)
    ∙ sym (without_right x c (joined cs) (h 0 (λ e. let none : ⊥ = omega arith in none)))

get_or_set_cases : (chunks : List (List ℕ)) (n k x : ℕ) (c : List ℕ) → (stands x c ≡ true → stands x (get_or chunks n []) ≡ true) → stands x (get_or (slice_set chunks n c) k []) ≡ true → stands x (get_or chunks k []) ≡ true
get_or_set_cases [] n k x c h t = t
get_or_set_cases (d ∷ ds) zero zero x c h t = h t
get_or_set_cases (d ∷ ds) zero (suc k) x c h t = t
get_or_set_cases (d ∷ ds) (suc n) zero x c h t = t
get_or_set_cases (d ∷ ds) (suc n) (suc k) x c h t = get_or_set_cases ds n k x c h t

pub home_without : (x : ℕ) (chunks : List (List ℕ)) (homes : List ℕ) (n : ℕ) → AtHome chunks homes → AtHome (slice_set chunks n (without x (get_or chunks n []))) homes
home_without x chunks homes n home k y t = home k y (get_or_set_cases chunks n k y (without x (get_or chunks n [])) (still_stands y x (get_or chunks n [])) t)

-- ---- a number put in

put_left : (xs ys : List ℕ) (p number : ℕ) → p ≤ length xs → (take p xs ++ number ∷ drop p xs) ++ ys ≡ take p (xs ++ ys) ++ number ∷ drop p (xs ++ ys)
put_left xs ys zero number within = refl
put_left [] ys (suc p) number within = absurd (let none : ⊥ = omega arith in none)
put_left (x ∷ xs) ys (suc p) number within = ap (λ l. x ∷ l) (put_left xs ys p number (omega arith))

put_right : (xs ys : List ℕ) (p number : ℕ) → xs ++ (take p ys ++ number ∷ drop p ys) ≡ take (length xs + p) (xs ++ ys) ++ number ∷ drop (length xs + p) (xs ++ ys)
put_right [] ys p number = let e : p ≡ 0 + p = omega arith in subst (λ i. take p ys ++ number ∷ drop p ys ≡ take i ys ++ number ∷ drop i ys) e refl
put_right (x ∷ xs) ys p number =
    let e : suc (length xs + p) ≡ suc (length xs) + p = omega arith in
    subst (λ i. x ∷ (xs ++ (take p ys ++ number ∷ drop p ys)) ≡ take i (x ∷ (xs ++ ys)) ++ number ∷ drop i (x ∷ (xs ++ ys))) e (ap (λ l. x ∷ l) (put_right xs ys p number))

pub joined_put : (chunks : List (List ℕ)) (n p at number : ℕ) → n < length chunks → p ≤ length (get_or chunks n []) → length (joined (take n chunks)) + p ≡ at →
    joined (slice_set chunks n (take p (get_or chunks n []) ++ number ∷ drop p (get_or chunks n []))) ≡ take at (joined chunks) ++ number ∷ drop at (joined chunks)
joined_put [] n p at number lt within is = absurd (let none : ⊥ = omega arith in none)
joined_put (c ∷ cs) zero p at number lt within is =
    let same : p ≡ at = omega arith in
    subst (λ i. (take p c ++ number ∷ drop p c) ++ joined cs ≡ take i (c ++ joined cs) ++ number ∷ drop i (c ++ joined cs)) same (put_left c (joined cs) p number within)
joined_put (c ∷ cs) (suc n) p at number lt within is =
    let e = length-append c (joined (take n cs)) in
    let same : length c + (length (joined (take n cs)) + p) ≡ at = omega arith in
    ap (λ l. c ++ l) (joined_put cs n p (length (joined (take n cs)) + p) number (omega arith) within refl)
    ∙ subst (λ i. c ++ (take (length (joined (take n cs)) + p) (joined cs) ++ number ∷ drop (length (joined (take n cs)) + p) (joined cs)) ≡ take i (c ++ joined cs) ++ number ∷ drop i (c ++ joined cs)) same (put_right c (joined cs) (length (joined (take n cs)) + p) number)

pub put_at_min : (xs : List ℕ) (at number : ℕ) → take (min at (length xs)) xs ++ number ∷ drop (min at (length xs)) xs ≡ take at xs ++ number ∷ drop at xs
put_at_min xs at number = ap (λ l. l ++ number ∷ drop (min at (length xs)) xs) (take_min at xs) ∙ ap (λ l. take at xs ++ number ∷ l) (drop_min at xs)

-- the number gets its home, and the others keep theirs
pub home_put : (chunks : List (List ℕ)) (homes : List ℕ) (n p number : ℕ) → AtHome chunks homes → n < length chunks → number < length homes → stands number (joined chunks) ≡ false →
    AtHome (slice_set chunks n (take p (get_or chunks n []) ++ number ∷ drop p (get_or chunks n []))) (slice_set homes number n)
home_put chunks homes n p number home lt within new k x t =
    let made = take p (get_or chunks n []) ++ number ∷ drop p (get_or chunks n []) in
    elim (cases_eq number x) [
      | inl same ↦
          elim (cases_eq k n) [
            | inl here ↦ subst (λ y. slice_get (slice_set homes number n) y ≡ Some k) same (get_set_same homes number n within ∙ ap Some (sym here))
            | inr ne ↦
                let there : stands x (get_or chunks k []) ≡ true = subst (λ c. stands x c ≡ true) (get_or-set_other chunks n k made [] ne) t in
                absurd (both_ways (stands x (joined chunks)) (subst (λ y. stands y (joined chunks) ≡ false) same new) (somewhere x chunks k there))
          ]
      | inr other ↦
          let before : stands x made ≡ true → stands x (get_or chunks n []) ≡ true =
          λ h. sym (ap (λ b. b || stands x (get_or chunks n [])) (ne_eqb number x other)) ∙ sym (stands_put x number (get_or chunks n []) p) ∙ h in
          get_set_other homes number x n other ∙ home k x (get_or_set_cases chunks n k x made before t)
    ]

-- ---- what the code reads

pub got : (xs : List ℕ) (i : ℕ) → i < length xs → slice_get xs i ≡ Some (get_or xs i 0)
got [] i lt = absurd (let none : ⊥ = omega arith in none)
got (x ∷ xs) zero lt = refl
got (x ∷ xs) (suc i) lt = got xs i (omega arith)

pub got_past : (xs : List ℕ) (i : ℕ) → length xs ≤ i → slice_get xs i ≡ None
got_past [] i past = refl
got_past (x ∷ xs) zero past = absurd (let none : ⊥ = omega arith in none)
got_past (x ∷ xs) (suc i) past = got_past xs i (omega arith)

stands_at : (xs : List ℕ) (i : ℕ) → i < length xs → stands (get_or xs i 0) xs ≡ true
stands_at [] i lt = absurd (let none : ⊥ = omega arith in none)
stands_at (x ∷ xs) zero lt = or_left (x == x) (stands x xs) (eq-eqb x x refl)
stands_at (x ∷ xs) (suc i) lt = or_right (x == get_or xs i 0) (stands (get_or xs i 0) xs) (stands_at xs i (omega arith))

pub next_below : (xs : List ℕ) (i bound : ℕ) → AreBelow xs bound → i < length xs → get_or xs i 0 < bound
next_below xs i bound h lt = h (get_or xs i 0) (stands_at xs i lt)

pub chunk_below : (chunks : List (List ℕ)) (chunk : List ℕ) (k bound other : ℕ) → AreBelow (joined chunks) bound → chunk ≡ get_or chunks k [] → other ≡ bound → AreBelow chunk other
chunk_below chunks chunk k bound other h is same x t =
    subst (λ b. x < b) (sym same) (h x (somewhere x chunks k (subst (λ c. stands x c ≡ true) is t)))

-- what is left of the row and of the chunks where a number was taken out of its home
pub taken_row : (x : ℕ) (chunks : List (List ℕ)) (homes : List ℕ) (n : ℕ) → AtHome chunks homes → slice_get homes x ≡ Some n →
    joined (slice_set chunks n (without x (get_or chunks n []))) ≡ without x (joined chunks)
taken_row x chunks homes n home is = elim (cases_Bool (stands x (get_or chunks n []))) [
  | inl t ↦ joined_without x chunks n (alone chunks homes x n home is) t
  | inr f ↦
      ap (λ c. joined (slice_set chunks n c)) (without_none x (get_or chunks n []) f)
      ∙ ap joined (set-get_or chunks n [])
      ∙ sym (without_none x (joined chunks) (not_at_home chunks homes x n home is f))
]

pub taken_stood : (x : ℕ) (chunks : List (List ℕ)) (homes : List ℕ) (n : ℕ) → AtHome chunks homes → slice_get homes x ≡ Some n →
    stands x (get_or chunks n []) ≡ stands x (joined chunks)
taken_stood x chunks homes n home is = elim (cases_Bool (stands x (get_or chunks n []))) [
  | inl t ↦ t ∙ sym (somewhere x chunks n t)
  | inr f ↦ f ∙ sym (not_at_home chunks homes x n home is f)
]

-- the part of a position that falls into a chunk, and the last chunk of all
pub next_part : (chunks : List (List ℕ)) (i left at count size : ℕ) → i < length chunks → size ≡ length (get_or chunks i []) → size ≤ left → left + length (joined (take i chunks)) ≡ at → count ≡ i + 1 → (left - size) + length (joined (take count chunks)) ≡ at
next_part chunks i left at count size lt is within so_far next =
    let e = ap length (joined_next chunks i lt) in
    let f = ap (λ k. length (joined (take k chunks))) next in
    omega (arith, e, f, length-append (joined (take i chunks)) (get_or chunks i []))

pub part_within : (chunks : List (List ℕ)) (i left at size : ℕ) → size ≡ length (get_or chunks i []) → left ≤ size → left + length (joined (take i chunks)) ≡ at → length (joined (take i chunks)) + left ≡ min at (length (joined chunks))
part_within chunks i left at size is within so_far = omega (arith, before_and_in chunks i)

last_of : (chunks : List (List ℕ)) (last : ℕ) → suc last ≡ length chunks → length (joined (take last chunks)) + length (get_or chunks last []) ≡ length (joined chunks)
last_of [] last is = absurd (let none : ⊥ = omega arith in none)
last_of (c ∷ []) zero is = omega (arith, length-append c [])
last_of (c ∷ d ∷ cs) zero is = absurd (let none : ⊥ = omega arith in none)
last_of (c ∷ cs) (suc last) is = omega (arith, last_of cs last (omega arith), length-append c (joined cs), length-append c (joined (take last cs)))

pub part_at_end : (chunks : List (List ℕ)) (i left at last size : ℕ) → length chunks ≤ i → left + length (joined (take i chunks)) ≡ at → suc last ≡ length chunks → size ≡ length (get_or chunks last []) → length (joined (take last chunks)) + size ≡ min at (length (joined chunks))
part_at_end chunks i left at last size past so_far is end =
    let all = ap (λ l. length (joined l)) (take_all i chunks past) in
    omega (arith, last_of chunks last is, all)

-- ---- what an order is kept as, after each call

kept_length : (chunks seen : List (List ℕ)) (homes : List ℕ) (len : ℕ) → IsKept chunks homes len → seen ≡ chunks → length (joined seen) ≡ len
kept_length chunks seen homes len kept is = ap (λ l. length (joined l)) is ∙ sym kept.count

pub kept_small : (chunks seen : List (List ℕ)) (homes : List ℕ) (len : ℕ) → IsKept chunks homes len → seen ≡ chunks → length (joined seen) < 2 ^ 64
kept_small chunks seen homes len kept is = let same = kept_length chunks seen homes len kept is in let small = kept.small in omega arith

-- a slice that was lent is the whole list again
pub given_back : {X : Type 0} (new rest : List X) (size n : ℕ) → size ≡ n → length new ≡ size → take n (new ++ rest) ≡ new
given_back new rest size n is same = take_at new rest n (same ∙ is)

pub first_below : (chunks seen : List (List ℕ)) (row given : List ℕ) (count : ℕ) → row ≡ counted 0 count → joined chunks ≡ row → seen ≡ chunks → given ≡ row → AreBelow (joined seen) (length given)
first_below chunks seen row given count is all same lent x t =
    let stood : stands x (counted 0 count) ≡ true = subst (λ l. stands x l ≡ true) (ap joined same ∙ all ∙ is) t in
    let low = (counted_within x 0 count stood).1 in
    let size : length given ≡ count = ap length (lent ∙ is) ∙ counted_length 0 count in
    omega arith

pub first_kept : (chunks : List (List ℕ)) (row homes : List ℕ) (count : ℕ) → count < 2 ^ 64 → row ≡ counted 0 count → joined chunks ≡ row → homes ≡ all_settled row 0 chunks → IsKept chunks homes count
first_kept chunks row homes count small is all set =
    let once : EachOnce (joined chunks) = subst EachOnce (sym (all ∙ is)) (counted_once 0 count) in
    record {
      home = subst (AtHome chunks) (sym set) (all_at_home row chunks (first_below chunks chunks row row count is all refl refl) once);
      once = once;
      count = sym (ap length (all ∙ is) ∙ counted_length 0 count);
      small = small;
    }

pub kept_untouched : (chunks seen new : List (List ℕ)) (homes : List ℕ) (len number : ℕ) → IsKept chunks homes len → seen ≡ chunks → AtHome new homes → joined new ≡ without number (joined seen) → stands number (joined seen) ≡ false → IsKept new homes len
kept_untouched chunks seen new homes len number kept is home row stood =
    let same : joined new ≡ joined chunks = row ∙ without_none number (joined seen) stood ∙ ap joined is in
    record { home = home; once = subst EachOnce (sym same) kept.once; count = kept.count ∙ sym (ap length same); small = kept.small }

pub kept_taken : (chunks seen new : List (List ℕ)) (homes : List ℕ) (len number : ℕ) → IsKept chunks homes len → seen ≡ chunks → AtHome new homes → joined new ≡ without number (joined seen) → stands number (joined seen) ≡ true → IsKept new homes (len - 1)
kept_taken chunks seen new homes len number kept is home row stood =
    let same = ap length row in
    let size = kept_length chunks seen homes len kept is in
    let one = shorter number (joined seen) stood in
    record {
      home = home;
      once = subst EachOnce (sym row) (once_without number (joined seen) (subst (λ l. EachOnce (joined l)) (sym is) kept.once));
      count = omega arith;
      small = let below = kept.small in omega arith;
    }

pub kept_reached : (chunks made begun : List (List ℕ)) (homes made_homes long : List ℕ) (len : ℕ) → IsKept chunks homes len → joined made ≡ joined chunks → AtHome made made_homes → joined begun ≡ joined made → ((hs : List ℕ) → AtHome made hs → AtHome begun hs) →
    ((other home : ℕ) → slice_get made_homes other ≡ Some home → slice_get long other ≡ Some home) → IsKept begun long len
kept_reached chunks made begun homes made_homes long len kept same home row begins longer =
    record {
      home = λ k x t. longer x k (begins made_homes home k x t);
      once = subst EachOnce (sym (row ∙ same)) kept.once;
      count = kept.count ∙ sym (ap length (row ∙ same));
      small = kept.small;
    }

pub kept_put : (begun seen new : List (List ℕ)) (long new_homes : List ℕ) (len more at number : ℕ) → IsKept begun long len → seen ≡ begun → AtHome new new_homes → joined new ≡ take at (joined seen) ++ number ∷ drop at (joined seen) → stands number (joined seen) ≡ false → more ≡ len + 1 → len + 1 < 2 ^ 64 → IsKept new new_homes more
kept_put begun seen new long new_homes len more at number kept is home row fresh next below =
    record {
      home = home;
      once = subst EachOnce (sym row) (once_put number (joined seen) at (subst (λ l. EachOnce (joined l)) (sym is) kept.once) fresh);
      count = next ∙ ap (λ n. n + 1) (sym (kept_length begun seen long len kept is)) ∙ sym (length_put number (joined seen) at) ∙ sym (ap length row);
      small = omega arith;
    }
