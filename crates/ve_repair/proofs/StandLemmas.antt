-- Signs that stand at positions: no two share a position, and no two have one number.
use Rattle.std.proofs.Common.{◌≡◌, ◌≤◌, ◌<◌, ◌⊎◌, inl, inr, ℕ, suc, ◌+◌, Option, Some, None, List, [], ◌∷◌, ◌++◌, map, refl, sym, ap, ◌∙◌, subst, arith}
use Rattle.std.proofs.lemmas.Option.{same_Some, none-some}
use Rattle.ve_tree.specs.Links.{Apart, AllApart}
use Rattle.ve_repair.specs.Spelled.{Sign, BeginOf, LettersOf, EndOf, token_of}
use Rattle.ve_repair.specs.Ready.{nums}
use Rattle.ve_repair.specs.Sizes.{place_after}
use Rattle.ve_repair.specs.Traced.{Stands, NoText, AreOnce}

abbrev pub size_of : Sign → ℕ
size_of (BeginOf n kind) = 1
size_of (LettersOf n count) = count
size_of (EndOf kind) = 1

abbrev pub number_in : Sign → Option ℕ
number_in (BeginOf n kind) = Some n
number_in (LettersOf n count) = Some n
number_in (EndOf kind) = None

abbrev pub opening_number : Sign → Option ℕ
opening_number (BeginOf n kind) = Some n
opening_number (LettersOf n count) = None
opening_number (EndOf kind) = None

-- lists in two parts
pub stands_left : (xs ys : List Sign) (from : ℕ) (s : Sign) (at : ℕ) → Stands xs from s at → Stands (xs ++ ys) from s at
stands_left [] ys from s at h = absurd h
stands_left (BeginOf n kind ∷ xs) ys from s at h = elim h [ inl e ↦ inl e | inr l ↦ inr (stands_left xs ys (suc from) s at l) ]
stands_left (LettersOf n count ∷ xs) ys from s at h = elim h [ inl e ↦ inl e | inr l ↦ inr (stands_left xs ys (from + count) s at l) ]
stands_left (EndOf kind ∷ xs) ys from s at h = elim h [ inl e ↦ inl e | inr l ↦ inr (stands_left xs ys (suc from) s at l) ]

pub stands_right : (xs ys : List Sign) (from : ℕ) (s : Sign) (at : ℕ) → Stands ys (place_after xs from) s at → Stands (xs ++ ys) from s at
stands_right [] ys from s at h = h
stands_right (BeginOf n kind ∷ xs) ys from s at h = inr (stands_right xs ys (suc from) s at h)
stands_right (LettersOf n count ∷ xs) ys from s at h = inr (stands_right xs ys (from + count) s at h)
stands_right (EndOf kind ∷ xs) ys from s at h = inr (stands_right xs ys (suc from) s at h)

-- a sign stands behind the start
pub stands_from : (xs : List Sign) (from : ℕ) (s : Sign) (at : ℕ) → Stands xs from s at → from ≤ at
stands_from [] from s at h = absurd h
stands_from (BeginOf n kind ∷ xs) from s at h = elim h [ inl e ↦ (let x = e.1 in omega (arith, x)) | inr l ↦ (let x = stands_from xs (suc from) s at l in omega (arith, x)) ]
stands_from (LettersOf n count ∷ xs) from s at h = elim h [ inl e ↦ (let x = e.1 in omega (arith, x)) | inr l ↦ (let x = stands_from xs (from + count) s at l in omega (arith, x)) ]
stands_from (EndOf kind ∷ xs) from s at h = elim h [ inl e ↦ (let x = e.1 in omega (arith, x)) | inr l ↦ (let x = stands_from xs (suc from) s at l in omega (arith, x)) ]

pub place_grows : (xs : List Sign) (at : ℕ) → at ≤ place_after xs at
place_grows [] at = omega arith
place_grows (BeginOf n kind ∷ xs) at = let r = place_grows xs (suc at) in omega (arith, r)
place_grows (LettersOf n count ∷ xs) at = let r = place_grows xs (at + count) in omega (arith, r)
place_grows (EndOf kind ∷ xs) at = let r = place_grows xs (suc at) in omega (arith, r)

-- where two signs share a position, they are one
pub record Same (s s' : Sign) (at at' : ℕ) : Type 0 where
  pub sign : s ≡ s'
  pub place : at ≡ at'

first_two : (xs : List Sign) (x s s' : Sign) (from at at' p : ℕ) → ((x ≡ s) × (from ≡ at)) ⊎ Stands xs (from + size_of x) s at →
    ((x ≡ s') × (from ≡ at')) ⊎ Stands xs (from + size_of x) s' at' →
    at ≤ p → p < at + size_of s → at' ≤ p → p < at' + size_of s' →
    (Stands xs (from + size_of x) s at → Stands xs (from + size_of x) s' at' → Same s s' at at') → Same s s' at at'
first_two xs x s s' from at at' p h h' a b a' b' rec = elim h [
  | inl e ↦ elim h' [
    | inl e' ↦ record { sign = sym e.0 ∙ e'.0; place = sym e.1 ∙ e'.1 }
    | inr l' ↦ (let low = stands_from xs (from + size_of x) s' at' l' in let here = e.1 in let size = ap size_of e.0 in absurd (omega (arith, low, here, size, b, a')))
  ]
  | inr l ↦ elim h' [
    | inl e' ↦ (let low = stands_from xs (from + size_of x) s at l in let here = e'.1 in let size = ap size_of e'.0 in absurd (omega (arith, low, here, size, b', a)))
    | inr l' ↦ rec l l'
  ]
]

pub one_at : (xs : List Sign) (from : ℕ) (s s' : Sign) (at at' p : ℕ) → Stands xs from s at → Stands xs from s' at' → at ≤ p → p < at + size_of s → at' ≤ p →
    p < at' + size_of s' → Same s s' at at'
one_at [] from s s' at at' p h h' a b a' b' = absurd h
one_at (BeginOf n kind ∷ xs) from s s' at at' p h h' a b a' b' =
    let e : suc from ≡ from + 1 = omega arith in
    first_two xs (BeginOf n kind) s s' from at at' p (subst (λ k. ((BeginOf n kind ≡ s) × (from ≡ at)) ⊎ Stands xs k s at) e h)
    (subst (λ k. ((BeginOf n kind ≡ s') × (from ≡ at')) ⊎ Stands xs k s' at') e h') a b a' b' (λ l l'. one_at xs (from + 1) s s' at at' p l l' a b a' b')
one_at (LettersOf n count ∷ xs) from s s' at at' p h h' a b a' b' = first_two xs (LettersOf n count) s s' from at at' p h h' a b a' b' (λ l l'. one_at xs (from + count) s s' at at' p l l' a b a' b')
one_at (EndOf kind ∷ xs) from s s' at at' p h h' a b a' b' =
    let e : suc from ≡ from + 1 = omega arith in
    first_two xs (EndOf kind) s s' from at at' p (subst (λ k. ((EndOf kind ≡ s) × (from ≡ at)) ⊎ Stands xs k s at) e h)
    (subst (λ k. ((EndOf kind ≡ s') × (from ≡ at')) ⊎ Stands xs k s' at') e h') a b a' b' (λ l l'. one_at xs (from + 1) s s' at at' p l l' a b a' b')

-- and so they are where they have one number
pub not_listed : (xs : List Sign) (from : ℕ) (s : Sign) (at n : ℕ) → Stands xs from s at → number_in s ≡ Some n → Apart n (nums (map token_of xs)) → ⊥
not_listed [] from s at n h e a = h
not_listed (BeginOf m kind ∷ xs) from s at n h e a = elim h [
  | inl i ↦ a.0 (same_Some n m (sym e
      ∙ ap number_in (sym i.0)))
  | inr l ↦ not_listed xs (suc from) s at n l e a.1
]
not_listed (LettersOf m count ∷ xs) from s at n h e a = elim h [
  | inl i ↦ a.0 (same_Some n m (sym e
      ∙ ap number_in (sym i.0)))
  | inr l ↦ not_listed xs (from + count) s at n l e a.1
]
not_listed (EndOf kind ∷ xs) from s at n h e a = elim h [ inl i ↦ none-some n (ap number_in i.0 ∙ e) | inr l ↦ not_listed xs (suc from) s at n l e a ]

first_numbered : (xs : List Sign) (x s s' : Sign) (from next at at' m n : ℕ) → ((x ≡ s) × (from ≡ at)) ⊎ Stands xs next s at →
    ((x ≡ s') × (from ≡ at')) ⊎ Stands xs next s' at' →
    number_in x ≡ Some m → number_in s ≡ Some n → number_in s' ≡ Some n → Apart m (nums (map token_of xs)) →
    (Stands xs next s at → Stands xs next s' at' → Same s s' at at') → Same s s' at at'
first_numbered xs x s s' from next at at' m n h h' ex e e' apart rec = elim h [
  | inl i ↦ elim h' [
    | inl i' ↦ record { sign = sym i.0 ∙ i'.0; place = sym i.1 ∙ i'.1 }
    | inr l' ↦ absurd (not_listed xs next s' at' m l' (e' ∙ sym e ∙ ap number_in (sym i.0) ∙ ex) apart)
  ]
  | inr l ↦ elim h' [
    | inl i' ↦ absurd (not_listed xs next s at m l (e ∙ sym e' ∙ ap number_in (sym i'.0) ∙ ex) apart)
    | inr l' ↦ rec l l'
  ]
]

pub one_numbered : (xs : List Sign) (from : ℕ) (s s' : Sign) (at at' n : ℕ) → AllApart (nums (map token_of xs)) → Stands xs from s at → Stands xs from s' at' →
    number_in s ≡ Some n →
    number_in s' ≡ Some n → Same s s' at at'
one_numbered [] from s s' at at' n all h h' e e' = absurd h
one_numbered (BeginOf m kind ∷ xs) from s s' at at' n all h h' e e' =
    first_numbered xs (BeginOf m kind) s s' from (suc from) at at' m n h h' refl e e' all.0 (λ l l'. one_numbered xs (suc from) s s' at at' n all.1 l l' e e')
one_numbered (LettersOf m count ∷ xs) from s s' at at' n all h h' e e' =
    first_numbered xs (LettersOf m count) s s' from (from + count) at at' m n h h' refl e e' all.0 (λ l l'. one_numbered xs (from + count) s s' at at' n all.1 l l' e e')
one_numbered (EndOf kind ∷ xs) from s s' at at' n all h h' e e' = elim h [
  | inl i ↦ absurd (none-some n (ap number_in i.0 ∙ e))
  | inr l ↦ elim h' [ inl i' ↦ absurd (none-some n (ap number_in i'.0 ∙ e')) | inr l' ↦ one_numbered xs (suc from) s s' at at' n all l l' e e' ]
]

text_number : Sign → ℕ → ℕ
text_number (LettersOf n count) d = n
text_number s d = d

text_count : Sign → ℕ → ℕ
text_count (LettersOf n count) d = count
text_count s d = d

-- so each text of a list is there once
pub are_once : (old : List Sign) → AllApart (nums (map token_of old)) → AreOnce old
unfolding text_number text_count
are_once old all = record {
  by_place = λ t at count t' at' count' p h h' a b a' b'. ap (λ s. text_number s 0) (one_at old 0 (LettersOf t count) (LettersOf t' count') at at' p h h' a b a' b').sign;
  by_number = λ t at count at' count' h h'.
      let same = one_numbered old 0 (LettersOf t count) (LettersOf t count') at at' t all h h' refl refl in
      (same.place, ap (λ s. text_count s 0) same.sign);
}

-- where a bracket stands, no text does
pub no_text : (old : List Sign) (s : Sign) (p : ℕ) → size_of s ≡ 1 → ((t count : ℕ) → s ≡ LettersOf t count → ⊥) → Stands old 0 s p → NoText old p
no_text old s p one not h t at count text a b = not t count (one_at old 0 s (LettersOf t count) p at p h text (omega arith) (omega (arith, one)) a b).sign
