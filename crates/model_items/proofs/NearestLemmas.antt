-- The nearest content offset is a content offset, and none lies nearer.
use Rattle.std.specs.List.{range_with_len}
use Rattle.std.proofs.Common.{◌≡◌, ◌⊎◌, inl, inr, ℕ, zero, suc, ◌+◌, ◌-◌, ◌<◌, ◌≤◌, Bool, true, false, nat_le, if◌then◌else◌, List, ◌∷◌, length, filter, Option, Some, None, refl, sym, ap, ◌∙◌, subst, arith}
use Rattle.std.proofs.lemmas.Bool.{cases_Bool, leb-true, leb-false, true≢false}
use Rattle.model_items.specs.declared.plain_item.PlainItem.{PlainItem}
use Rattle.model_items.specs.Offsets.{is_content, distance, nearer, nearest, nearest_content, IsNearestContent, NearestIsFound, NearestIsOnly, NoneIsFound, NoneIsOnly}

-- of the offsets from one on that pass, `place` is the nearest, and the lower of two
record IsNearest (test : ℕ → Bool) (at from count place : ℕ) : Type 0 where
  pub low : from ≤ place
  pub high : place < from + count
  pub passes : test place ≡ true
  pub none_nearer : (other : ℕ) → from ≤ other → other < from + count → test other ≡ true → distance at place ≤ distance at other
  pub lowest : (other : ℕ) → from ≤ other → other < from + count → test other ≡ true → distance at other ≡ distance at place → place ≤ other

abbrev NonePasses : (test : ℕ → Bool) (from count : ℕ) → Type 0
NonePasses test from count = (other : ℕ) → from ≤ other → other < from + count → test other ≡ false

-- what the offsets from one on answer
abbrev Answers : (test : ℕ → Bool) (at from count : ℕ) → Option ℕ → Type 0
Answers test at from count None = NonePasses test from count
Answers test at from count (Some place) = IsNearest test at from count place

first_or_later : (from other : ℕ) → from ≤ other → (other ≡ from) ⊎ (suc from ≤ other)
first_or_later from other low = by (cases_Bool (nat_le (suc from) other))
  where
    by : (nat_le (suc from) other ≡ true) ⊎ (nat_le (suc from) other ≡ false) → (other ≡ from) ⊎ (suc from ≤ other)
    by (inl e) = inr (leb-true (suc from) other e)
    by (inr e) = let l = leb-false (suc from) other e in inl (omega arith)

-- one more offset before the others, which doesn't pass
skipped : (test : ℕ → Bool) (at from count : ℕ) (r : Option ℕ) → test from ≡ false → Answers test at (suc from) count r → Answers test at from (suc count) r
skipped test at from count None e none = λ other low high.
    (λ (c : (other ≡ from) ⊎ (suc from ≤ other)). pick other high c) (first_or_later from other low)
  where
    pick : (other : ℕ) → other < from + suc count → (other ≡ from) ⊎ (suc from ≤ other) → test other ≡ false
    pick other high (inl same) = ap test same ∙ e
    pick other high (inr later) = none other later (omega arith)
skipped test at from count (Some place) e is = record {
  low = let l = is.low in omega arith;
  high = let l = is.high in omega arith;
  passes = is.passes;
  none_nearer = λ other low high p. near other high p (first_or_later from other low);
  lowest = λ other low high p same. lower other high p same (first_or_later from other low);
}
  where
    near : (other : ℕ) → other < from + suc count → test other ≡ true → (other ≡ from) ⊎ (suc from ≤ other) → distance at place ≤ distance at other
    near other high p (inl same) = absurd (true≢false (sym p ∙ ap test same ∙ e))
    near other high p (inr later) = is.none_nearer other later (omega arith) p

    lower : (other : ℕ) → other < from + suc count → test other ≡ true → distance at other ≡ distance at place → (other ≡ from) ⊎ (suc from ≤ other) → place ≤ other
    lower other high p same (inl first) = absurd (true≢false (sym p ∙ ap test first ∙ e))
    lower other high p same (inr later) = is.lowest other later (omega arith) p same

-- one more offset before the others, which passes
taken : (test : ℕ → Bool) (at from count : ℕ) (r : Option ℕ) → test from ≡ true → Answers test at (suc from) count r → IsNearest test at from (suc count) (nearer at from r)
taken test at from count None e none = record {
  low = omega arith;
  high = omega arith;
  passes = e;
  none_nearer = λ other low high p. near other high p (first_or_later from other low);
  lowest = λ other low high p same. low;
}
  where
    near : (other : ℕ) → other < from + suc count → test other ≡ true → (other ≡ from) ⊎ (suc from ≤ other) → distance at from ≤ distance at other
    near other high p (inl same) = omega (arith, same)
    near other high p (inr later) = absurd (true≢false (sym p ∙ none other later (omega arith)))
taken test at from count (Some place) e is = by (nat_le (distance from at) (distance place at)) refl
  where
    by : (b : Bool) → nat_le (distance from at) (distance place at) ≡ b → IsNearest test at from (suc count) (if b then from else place)
    by true le = record {
      low = omega arith;
      high = omega arith;
      passes = e;
      none_nearer = λ other low high p. near other high p (first_or_later from other low);
      lowest = λ other low high p same. low;
    }
      where
        near : (other : ℕ) → other < from + suc count → test other ≡ true → (other ≡ from) ⊎ (suc from ≤ other) → distance at from ≤ distance at other
        near other high p (inl same) = omega (arith, same)
        near other high p (inr later) =
            let d = is.none_nearer other later (omega arith) p in
            let l = leb-true (distance from at) (distance place at) le in
            omega (arith, d, l)
    by false lt = record {
      low = let l = is.low in omega arith;
      high = let l = is.high in omega arith;
      passes = is.passes;
      none_nearer = λ other low high p. near other high p (first_or_later from other low);
      lowest = λ other low high p same. lower other high p same (first_or_later from other low);
    }
      where
        far : distance place at < distance from at
        far = leb-false (distance from at) (distance place at) lt

        near : (other : ℕ) → other < from + suc count → test other ≡ true → (other ≡ from) ⊎ (suc from ≤ other) → distance at place ≤ distance at other
        near other high p (inl same) = omega (arith, same, far)
        near other high p (inr later) = is.none_nearer other later (omega arith) p

        lower : (other : ℕ) → other < from + suc count → test other ≡ true → distance at other ≡ distance at place → (other ≡ from) ⊎ (suc from ≤ other) → place ≤ other
        lower other high p same (inl first) = absurd (omega (arith, same, first, far))
        lower other high p same (inr later) = is.lowest other later (omega arith) p same

answers : (test : ℕ → Bool) (at from count : ℕ) → Answers test at from count (nearest at (filter test (range_with_len from count)))
answers test at from zero = λ other low high. absurd (omega arith)
answers test at from (suc count) =
    by (test from) refl (subst (λ n. Answers test at n count (nearest at rest)) (omega arith) (answers test at (from + 1) count))
  where
    rest : List ℕ
    rest = filter test (range_with_len (from + 1) count)

    by : (b : Bool) → test from ≡ b → Answers test at (suc from) count (nearest at rest) →
        Answers test at from (suc count) (nearest at (if b then from ∷ rest else rest))
    by true e later = taken test at from count (nearest at rest) e later
    by false e later = skipped test at from count (nearest at rest) e later

found : (items : List PlainItem) (at : ℕ) → Answers (is_content items) at 0 (suc (length items)) (nearest_content items at)
found items at =
    let e : suc (length items) ≡ suc (length items) - 0 = omega arith in
    subst (λ n. Answers (is_content items) at 0 (suc (length items)) (nearest at (filter (is_content items) (range_with_len 0 n)))) e
    (answers (is_content items) at 0 (suc (length items)))

pub nearest_is_found : NearestIsFound
nearest_is_found items at place e =
    let is = subst (Answers (is_content items) at 0 (suc (length items))) e (found items at) in
    record {
      within = let h = is.high in omega arith;
      content = is.passes;
      none_nearer = λ other le p. is.none_nearer other (omega arith) (omega arith) p;
      lowest = λ other le p same. is.lowest other (omega arith) (omega arith) p same;
    }

pub none_is_found : NoneIsFound
none_is_found items at e =
    let none = subst (Answers (is_content items) at 0 (suc (length items))) e (found items at) in
    λ other le. none other (omega arith) (omega arith)

same_place : (items : List PlainItem) (at one other : ℕ) → IsNearestContent items at one → IsNearestContent items at other → one ≡ other
same_place items at one other a b =
    let d = a.none_nearer other b.within b.content in
    let e = b.none_nearer one a.within a.content in
    let same : distance at one ≡ distance at other = omega (arith, d, e) in
    let low = a.lowest other b.within b.content (sym same) in
    let high = b.lowest one a.within a.content same in
    omega (arith, low, high)

pub nearest_is_only : NearestIsOnly
nearest_is_only items at place is = by (nearest_content items at) refl
  where
    by : (r : Option ℕ) → nearest_content items at ≡ r → r ≡ Some place
    by None e = absurd (true≢false (sym is.content ∙ none_is_found items at e place is.within))
    by (Some other) e = ap Some (same_place items at other place (nearest_is_found items at other e) is)

pub none_is_only : NoneIsOnly
none_is_only items at none = by (nearest_content items at) refl
  where
    by : (r : Option ℕ) → nearest_content items at ≡ r → r ≡ None
    by None e = refl
    by (Some other) e =
        let is = nearest_is_found items at other e in
        absurd (true≢false (sym is.content ∙ none other is.within))
