-- The starts of groups rise, so the last one that is not past a position is found by halves.
use Rattle.std.proofs.Common.{◌≡◌, ◌≤◌, ◌<◌, ◌-◌, ◌*◌, ℕ, List, length, sum, leb, true, false, get_or, inl, inr, arith}
use Rattle.std.proofs.lemmas.Bool.{cases_lt, leb-true, leb-false}
use Rattle.std.proofs.lemmas.List.{get_or_default}
use Rattle.std.specs.List.Sorted.{IsNonDecreasingBy, IsPartitionPoint}
use Rattle.ve_lengths.proofs.StartLemmas.{before_end}
use Rattle.ve_lengths.specs.Starts.{AreStarts}
use Rattle.ve_lengths.proofs.FindLemmas.{sum_rises}

pub starts_rise : (lens starts : List ℕ) (total : ℕ) → AreStarts lens starts total → IsNonDecreasingBy (λ (start : ℕ). start) starts
starts_rise lens starts total a i j d le within =
    let first = get_or_default starts i d 0 (omega (arith, le, within)) in
    let second = get_or_default starts j d 0 within in
    omega (arith, first, second, a.each i (omega (arith, le, within)), a.each j within, sum_rises lens (16 * i) (16 * j) (omega (arith, le)))

module _ (lens starts : List ℕ) (total at n : ℕ) (a : AreStarts lens starts total)
    (point : IsPartitionPoint (λ (start : ℕ). leb start at ≡ true) (λ (start : ℕ). leb start at ≡ false) starts n) where
  -- the first group starts at 0
  pub some_start : at < sum lens → 1 ≤ n
  some_start within = elim (cases_lt 0 n) [
    | inl some ↦ omega (arith, some)
    | inr none ↦
        let here : 0 < length lens = before_end lens at 0 at (omega arith) within in
        let some : 0 < length starts = omega (arith, here, a.count) in
        let past = leb-false _ _ (point.1 0 0 (omega (arith, none)) some) in
        absurd (omega (arith, past, a.each 0 some))
  ]

  pub last_start : (read : ℕ) → read ≡ get_or starts (n - 1) read → 1 ≤ n → read ≤ at
  last_start read is some = let low = leb-true _ _ (point.0 (n - 1) read (omega arith) (omega (arith, some))) in omega (arith, is, low)
