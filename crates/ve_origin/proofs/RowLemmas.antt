-- Rows that rise, and what is found among them.
use Rattle.std.proofs.Common.{◌≡◌, ◌≢◌, ℕ, zero, suc, ◌+◌, ◌-◌, ◌<◌, ◌≤◌, ◌==◌, Bool, true, false, List, [], ◌∷◌, get_or, refl, sym, ap, ◌∙◌, arith, eqb-true, eq-eqb, inl, inr, ltb, ltb-true, ltb-false}
use Rattle.std.specs.Prelude.{slice_get, find, Some, None}
use Rattle.std.specs.List.Sorted.{IsNonDecreasingBy, IsPartitionPoint}
use Rattle.std.proofs.lemmas.Option.{slice_get-get_or, slice_get_within, get_or_from_slice_get}
use Rattle.std.proofs.Math.Nat.{eq-or-lt_of_le}
use Rattle.model_page.specs.declared.ref_table.RefRow.{RefRow}
use Rattle.ve_origin.specs.Rows.{RowsRise}

pub rise_by : (rows : List RefRow) → RowsRise rows → IsNonDecreasingBy (λ (r : RefRow). r.at) rows
rise_by rows rise i j d le within = elim (eq-or-lt_of_le le) [
  | inl e ↦ let same : (get_or rows i d).at ≡ (get_or rows j d).at = ap (λ k. (get_or rows k d).at) e in omega (arith, same)
  | inr less ↦
      let up = rise i j (get_or rows i d) (get_or rows j d) (slice_get-get_or rows i d (omega (arith, less, within))) (slice_get-get_or rows j d within) less in
      omega (arith, up)
]

-- ---- what is found

not_at : (m n : ℕ) → m < n → (m == n) ≡ false
not_at m n h = cases (m == n) refl
  where
    cases : (b : Bool) → (m == n) ≡ b → b ≡ false
    cases false e = refl
    cases true e = let same : m ≡ n = eqb-true _ _ e in absurd (omega (arith, h, same))

pub not_same : (m n : ℕ) → m ≢ n → (m == n) ≡ false
not_same m n h = cases (m == n) refl
  where
    cases : (b : Bool) → (m == n) ≡ b → b ≡ false
    cases false e = refl
    cases true e = absurd (h (eqb-true _ _ e))

find_here : (rows : List RefRow) (r : RefRow) (at : ℕ) → (r.at == at) ≡ true → find (λ s. s.at == at) (r ∷ rows) ≡ Some r
find_here rows r at h = rw h refl

find_later : (rows : List RefRow) (r : RefRow) (at : ℕ) → (r.at == at) ≡ false → find (λ s. s.at == at) (r ∷ rows) ≡ find (λ s. s.at == at) rows
find_later rows r at h = rw h refl

pub found_row : (rows : List RefRow) (at k : ℕ) (r : RefRow) → slice_get rows k ≡ Some r → r.at ≡ at → ((j : ℕ) (s : RefRow) → slice_get rows j ≡ Some s → j < k → s.at < at) → find (λ s. s.at == at) rows ≡ Some r
found_row [] at k r e f h = cc
found_row (x ∷ rows) at zero r e f h = let same : x ≡ r = cc in find_here rows x at (eq-eqb _ _ (ap (λ (s : RefRow). s.at) same ∙ f)) ∙ e
found_row (x ∷ rows) at (suc k) r e f h = find_later rows x at (not_at x.at at (h 0 x refl (omega arith))) ∙ found_row rows at k r e f (λ j s g less. h (suc j) s g (omega (arith, less)))

pub no_row : (rows : List RefRow) (at : ℕ) → ((j : ℕ) (s : RefRow) → slice_get rows j ≡ Some s → s.at ≢ at) → find (λ s. s.at == at) rows ≡ None
no_row [] at h = refl
no_row (x ∷ rows) at h = find_later rows x at (not_same x.at at (h 0 x refl)) ∙ no_row rows at (λ j s g. h (suc j) s g)

-- none is found where the first row from a position on stands at another one, or there is none
pub none_found : (rows : List RefRow) (at k : ℕ) → RowsRise rows → ((j : ℕ) (s : RefRow) → slice_get rows j ≡ Some s → j < k → s.at < at) → ((j : ℕ) (s : RefRow) → slice_get rows j ≡ Some s → k ≤ j → at ≤ s.at) →
    ((s : RefRow) → slice_get rows k ≡ Some s → s.at ≢ at) → find (λ s. s.at == at) rows ≡ None
none_found rows at k rise before after apart = no_row rows at other
  where
    from : (j : ℕ) (s : RefRow) → slice_get rows j ≡ Some s → k ≤ j → s.at ≢ at
    from j s g le = elim (eq-or-lt_of_le le) [
      | inl e ↦ apart s (ap (slice_get rows) e ∙ g)
      | inr less ↦ λ same.
          let within = slice_get_within rows j s g in
          let here = slice_get-get_or rows k s (omega (arith, less, within)) in
          let up = rise k j (get_or rows k s) s here g less in
          let low = after k (get_or rows k s) here (omega arith) in
          absurd (omega (arith, up, low, same))
    ]

    other : (j : ℕ) (s : RefRow) → slice_get rows j ≡ Some s → s.at ≢ at
    other j s g same = cases (ltb j k) refl
      where
        cases : (b : Bool) → ltb j k ≡ b → ⊥
        cases true e = let low = before j s g (ltb-true j k e) in omega (arith, low, same)
        cases false e = from j s g (ltb-false j k e) same

-- ---- the rows before and after a point

pub rows_low : (rows : List RefRow) (at n : ℕ) → IsPartitionPoint (λ (s : RefRow). ltb s.at at ≡ true) (λ (s : RefRow). ltb s.at at ≡ false) rows n → (k : ℕ) (r : RefRow) → slice_get rows k ≡ Some r → k < n → r.at < at
rows_low rows at n point k r e less =
    ltb-true _ _ (ap (λ (s : RefRow). ltb s.at at) (sym (get_or_from_slice_get rows k r r e)) ∙ point.0 k r (omega arith) less)

pub rows_high : (rows : List RefRow) (at n : ℕ) → IsPartitionPoint (λ (s : RefRow). ltb s.at at ≡ true) (λ (s : RefRow). ltb s.at at ≡ false) rows n → (k : ℕ) (r : RefRow) → slice_get rows k ≡ Some r → n ≤ k → at ≤ r.at
rows_high rows at n point k r e le =
    ltb-false _ _ (ap (λ (s : RefRow). ltb s.at at) (sym (get_or_from_slice_get rows k r r e)) ∙ point.1 k r le (slice_get_within rows k r e))

-- rows of a range stand before the first row that is past it
pub within_stop : (rows : List RefRow) (from count k : ℕ) (row : RefRow) → RowsRise rows → slice_get rows k ≡ Some row → count ≤ row.at - from →
    (j : ℕ) (r : RefRow) → slice_get rows j ≡ Some r → from ≤ r.at → r.at < from + count → j < k
within_stop rows from count k row rise found far j r g low high = cases (ltb j k) refl
  where
    cases : (b : Bool) → ltb j k ≡ b → j < k
    cases true e = ltb-true j k e
    cases false e = elim (eq-or-lt_of_le (ltb-false j k e)) [
      | inl same ↦
          let some : Some row ≡ Some r = sym found ∙ ap (slice_get rows) same ∙ g in
          let one : row ≡ r = cc in
          let at : row.at ≡ r.at = ap (λ (s : RefRow). s.at) one in
          absurd (omega (arith, far, low, high, at))
      | inr less ↦ let up = rise k j row r found g less in absurd (omega (arith, far, low, high, up))
    ]

pub same_row : (rows : List RefRow) (k : ℕ) (r s : RefRow) → slice_get rows k ≡ Some r → slice_get rows k ≡ Some s → r.at ≡ s.at
same_row rows k r s e f = let same : Some r ≡ Some s = sym e ∙ f in let one : r ≡ s = cc in ap (λ (t : RefRow). t.at) one
