-- The content offset that a search on one side finds is the model's.
use Rattle.std.specs.List.{range_with_len}
use Rattle.std.proofs.Common.{◌≡◌, ◌⊎◌, inl, inr, ℕ, zero, suc, ◌+◌, ◌-◌, ◌<◌, ◌≤◌, Bool, true, false, nat_le, if◌then◌else◌, List, [], ◌∷◌, ◌++◌, length, filter, Option, Some, None, IfSome, refl, sym, ap, ◌∙◌, arith}
use Rattle.std.specs.Prelude.{IfNone, find, reverse}
use Rattle.std.proofs.lemmas.Bool.{cases_lt, true≢false}
use Rattle.std.proofs.lemmas.List.{length-map, reverse-append}
use Rattle.model_items.specs.declared.item.Item.{Item}
use Rattle.model_items.specs.Plain.{plain}
use Rattle.model_items.specs.Offsets as model
use Rattle.ve_tree.specs.IsTree.{unvalued}
use Rattle.ve_offsets.specs.Nearest.{IsLastContent, IsFirstContent, HasNoneUpTo, HasNoneFrom}
use Rattle.ve_offsets.proofs.NearestModelLemmas.{content_there, no_content}

-- the numbers from one on that pass
abbrev passing : (ℕ → Bool) → ℕ → ℕ → List ℕ
passing test from count = filter test (range_with_len from count)

le_true : (m n : ℕ) → m ≤ n → nat_le m n ≡ true
le_true m n h = grind arith

le_false : (m n : ℕ) → n < m → nat_le m n ≡ false
le_false m n h = grind arith

-- the first is the one that is sought, or is passed over
found_here : (x : ℕ) (b : Bool) (later : Option ℕ) → b ≡ true → (if b then Some x else later) ≡ Some x
found_here x true later e = refl
found_here x false later e = absurd (true≢false (sym e))

passed_over : (x : ℕ) (b : Bool) (later r : Option ℕ) → b ≡ false → later ≡ r → (if b then Some x else later) ≡ r
passed_over x false later r e h = h
passed_over x true later r e h = absurd (true≢false e)

-- ---- from an offset on

module _ (test : ℕ → Bool) (o : ℕ) where
  none_from : (from count : ℕ) → ((q : ℕ) → from ≤ q → q < from + count → o ≤ q → test q ≡ false) →
      find (λ n. nat_le o n) (passing test from count) ≡ None
  none_from from zero none = refl
  none_from from (suc count) none =
      by (none_from (from + 1) count (λ q low high le. none q (omega (arith, low)) (omega (arith, high)) le)) (test from) refl (cases_lt from o)
    where
      by : find (λ n. nat_le o n) (passing test (from + 1) count) ≡ None → (b : Bool) → test from ≡ b → (from < o) ⊎ (o ≤ from) →
          find (λ n. nat_le o n) (if b then from ∷ passing test (from + 1) count else passing test (from + 1) count) ≡ None
      by later false e c = later
      by later true e (inl lt) = passed_over from (nat_le o from) _ None (le_false o from lt) later
      by later true e (inr le) = absurd (true≢false (sym e ∙ none from (omega arith) (omega arith) le))

  first_is : (from count p : ℕ) → from ≤ p → p < from + count → o ≤ p → test p ≡ true → ((q : ℕ) → o ≤ q → q < p → test q ≡ false) →
      find (λ n. nat_le o n) (passing test from count) ≡ Some p
  first_is from zero p low high order passes none = absurd (omega (arith, low, high))
  first_is from (suc count) p low high order passes none =
      by (λ lt. first_is (from + 1) count p (omega (arith, lt)) (omega (arith, high)) order passes none) (test from) refl (cases_lt from p)
    where
      by : (from < p → find (λ n. nat_le o n) (passing test (from + 1) count) ≡ Some p) → (b : Bool) → test from ≡ b → (from < p) ⊎ (p ≤ from) →
          find (λ n. nat_le o n) (if b then from ∷ passing test (from + 1) count else passing test (from + 1) count) ≡ Some p
      by later false e (inl lt) = later lt
      by later false e (inr le) = let same : p ≡ from = omega (arith, le, low) in absurd (true≢false (sym passes ∙ ap test same ∙ e))
      by later true e (inr le) = let same : from ≡ p = omega (arith, le, low) in
          found_here from (nat_le o from) _ (le_true o from (omega (arith, order, same))) ∙ ap (λ n. Some n) same
      by later true e (inl lt) = before (cases_lt from o)
        where
          before : (from < o) ⊎ (o ≤ from) → find (λ n. nat_le o n) (from ∷ passing test (from + 1) count) ≡ Some p
          before (inl under) = passed_over from (nat_le o from) _ (Some p) (le_false o from under) (later lt)
          before (inr le) = absurd (true≢false (sym e ∙ none from le lt))

-- ---- up to an offset

find_some : (test : ℕ → Bool) (xs ys : List ℕ) (p : ℕ) → find test xs ≡ Some p → find test (xs ++ ys) ≡ Some p
find_some test [] ys p h = cc
find_some test (x ∷ xs) ys p h = by (λ e. find_some test xs ys p e) (test x) h
  where
    by : (find test xs ≡ Some p → find test (xs ++ ys) ≡ Some p) → (b : Bool) → (if b then Some x else find test xs) ≡ Some p → (if b then Some x else find test (xs ++ ys)) ≡ Some p
    by later true e = e
    by later false e = later e

find_none : (test : ℕ → Bool) (xs ys : List ℕ) → find test xs ≡ None → find test (xs ++ ys) ≡ find test ys
find_none test [] ys h = refl
find_none test (x ∷ xs) ys h = by (λ e. find_none test xs ys e) (test x) h
  where
    by : (find test xs ≡ None → find test (xs ++ ys) ≡ find test ys) → (b : Bool) → (if b then Some x else find test xs) ≡ None → (if b then Some x else find test (xs ++ ys)) ≡ find test ys
    by later true e = cc
    by later false e = later e

module _ (test : ℕ → Bool) (o : ℕ) where
  none_up_to : (from count : ℕ) → ((q : ℕ) → from ≤ q → q < from + count → q ≤ o → test q ≡ false) →
      find (λ n. nat_le n o) (reverse (passing test from count)) ≡ None
  none_up_to from zero none = refl
  none_up_to from (suc count) none =
      by (none_up_to (from + 1) count (λ q low high le. none q (omega (arith, low)) (omega (arith, high)) le)) (test from) refl (cases_lt o from)
    where
      rest : List ℕ
      rest = passing test (from + 1) count

      by : find (λ n. nat_le n o) (reverse rest) ≡ None → (b : Bool) → test from ≡ b → (o < from) ⊎ (from ≤ o) → find (λ n. nat_le n o) (reverse (if b then from ∷ rest else rest)) ≡ None
      by later false e c = later
      by later true e (inl lt) =
          ap (find (λ n. nat_le n o)) (reverse-append (from ∷ []) rest) ∙ find_none (λ n. nat_le n o) (reverse rest) (from ∷ []) later
          ∙ passed_over from (nat_le from o) None None (le_false from o lt) refl
      by later true e (inr le) = absurd (true≢false (sym e ∙ none from (omega arith) (omega arith) le))

  last_is : (from count p : ℕ) → from ≤ p → p < from + count → p ≤ o → test p ≡ true → ((q : ℕ) → p < q → q ≤ o → test q ≡ false) →
      find (λ n. nat_le n o) (reverse (passing test from count)) ≡ Some p
  last_is from zero p low high order passes none = absurd (omega (arith, low, high))
  last_is from (suc count) p low high order passes none =
      by (λ lt. last_is (from + 1) count p (omega (arith, lt)) (omega (arith, high)) order passes none) (test from) refl (cases_lt from p)
    where
      rest : List ℕ
      rest = passing test (from + 1) count

      by : (from < p → find (λ n. nat_le n o) (reverse rest) ≡ Some p) → (b : Bool) → test from ≡ b → (from < p) ⊎ (p ≤ from) → find (λ n. nat_le n o) (reverse (if b then from ∷ rest else rest)) ≡ Some p
      by later false e (inl lt) = later lt
      by later false e (inr le) = let same : p ≡ from = omega (arith, le, low) in absurd (true≢false (sym passes ∙ ap test same ∙ e))
      by later true e (inl lt) =
          ap (find (λ n. nat_le n o)) (reverse-append (from ∷ []) rest) ∙ find_some (λ n. nat_le n o) (reverse rest) (from ∷ []) p (later lt)
      by later true e (inr le) =
          let same : from ≡ p = omega (arith, le, low) in
          ap (find (λ n. nat_le n o)) (reverse-append (from ∷ []) rest)
          ∙ find_none (λ n. nat_le n o) (reverse rest) (from ∷ [])
          (none_up_to (from + 1) count (λ q under high up. none q (omega (arith, under, same)) up))
          ∙ found_here from (nat_le from o) None (le_true from o (omega (arith, order, same))) ∙ ap (λ n. Some n) same

-- ---- of a list

all_offsets : (items : List Item) → model.content_offsets (unvalued items) ≡ passing (model.is_content (unvalued items)) 0 (suc (length items))
all_offsets items =
    let long = length-map items (plain []) in
    let count : suc (length (unvalued items)) - 0 ≡ suc (length items) = omega (arith, long) in
    ap (passing (model.is_content (unvalued items)) 0) count

pub back_is : (items : List Item) (o : ℕ) (r : Option ℕ) → o ≤ length items → IfSome r (λ p. IsLastContent items o p) → IfNone r (HasNoneUpTo items o) →
    r ≡ find (λ p. nat_le p o) (reverse (model.content_offsets (unvalued items)))
back_is items o (Some p) within found none =
    sym (ap (λ places. find (λ p. nat_le p o) (reverse places)) (all_offsets items)
    ∙ last_is (model.is_content (unvalued items)) o 0 (suc (length items)) p (omega arith) (omega (arith, found.order, within)) found.order
    (content_there items p found.content) (λ q low high. no_content items q (found.last q low high)))
back_is items o None within found none =
    sym (ap (λ places. find (λ p. nat_le p o) (reverse places)) (all_offsets items)
    ∙ none_up_to (model.is_content (unvalued items)) o 0 (suc (length items)) (λ q low high le. no_content items q (none q le)))

pub ahead_is : (items : List Item) (o : ℕ) (r : Option ℕ) → IfSome r (λ p. IsFirstContent items o p) → IfNone r (HasNoneFrom items o) →
    r ≡ find (λ p. nat_le o p) (model.content_offsets (unvalued items))
ahead_is items o (Some p) found none =
    sym (ap (find (λ p. nat_le o p)) (all_offsets items)
    ∙ first_is (model.is_content (unvalued items)) o 0 (suc (length items)) p (omega arith) (omega (arith, found.within)) found.order
    (content_there items p found.content) (λ q low high. no_content items q (found.first q low high)))
ahead_is items o None found none =
    sym (ap (find (λ p. nat_le o p)) (all_offsets items)
    ∙ none_from (model.is_content (unvalued items)) o 0 (suc (length items)) (λ q low high le. no_content items q (none q le (omega (arith, high)))))
