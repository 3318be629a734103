-- A position lies in one length.
use Rattle.std.proofs.Common.{◌≡◌, ◌<◌, ◌≤◌, ◌+◌, ◌-◌, ℕ, List, take, drop, sum, inl, inr, ap, ◌∙◌, arith}
use Rattle.std.proofs.lemmas.List.Sums.{sum_by-append, sum_by_more, sum_by-take-le}
use Rattle.std.proofs.lemmas.Bool.{cases_lt}
use Rattle.std.proofs.Math.Seq.{take-add}
use Rattle.ve_lengths.specs.Starts.{Finds}
use Rattle.ve_lengths.specs.Laws.{OneIsFound, FoundIsWithin}

-- more lengths have no smaller sum
pub sum_rises : (lens : List ℕ) (i j : ℕ) → i ≤ j → sum (take i lens) ≤ sum (take j lens)
sum_rises lens i j le =
    let goes : i + (j - i) ≡ j = omega arith in
    let all : sum (take (i + (j - i)) lens) ≡ sum (take j lens) = ap (λ n. sum (take n lens)) goes in
    let parts = ap sum (take-add i (j - i) lens) ∙ sum_by-append (λ x. x) (take i lens) (take (j - i) (drop i lens)) in
    omega (arith, all, parts)

-- what lies in one length is before every later one
found_before : (lens : List ℕ) (at k offset other : ℕ) → Finds lens at k offset → k < other → at < sum (take other lens)
found_before lens at k offset other f lt =
    omega (arith, f.place, f.inside, sum_by_more (λ x. x) lens k 0 f.among, sum_rises lens (k + 1) other (omega (arith, lt)))

pub one_is_found : OneIsFound
one_is_found lens at k offset other far f g =
    let same : k ≡ other = elim (cases_lt k other) [
      | inl less ↦ let before = found_before lens at k offset other f less in let place = g.place in absurd (omega (arith, before, place))
      | inr more ↦ elim (cases_lt other k) [
        | inl less ↦ let before = found_before lens at other far k g less in let place = f.place in absurd (omega (arith, before, place))
        | inr no_more ↦ omega (arith, more, no_more)
      ]
    ] in
    let starts : sum (take k lens) ≡ sum (take other lens) = ap (λ n. sum (take n lens)) same in
    (same, omega (arith, starts, f.place, g.place))

pub found_is_within : FoundIsWithin
found_is_within lens at k offset f =
    omega (arith, f.place, f.inside, sum_by_more (λ x. x) lens k 0 f.among, sum_by-take-le (λ x. x) lens (k + 1))
