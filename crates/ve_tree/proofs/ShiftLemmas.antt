-- Landmarks where characters of a run give way to others: those behind the run move.
use Rattle.std.proofs.Common.{◌≡◌, ◌≤◌, ◌<◌, ◌+◌, ℕ, zero, suc, List, [], ◌∷◌, length, take, sum, get_or, refl, ap, ◌∙◌, arith}
use Rattle.std.specs.Prelude.{slice_set}
use Rattle.std.proofs.lemmas.List.{get_or_default}
use Rattle.std.proofs.lemmas.List.Sums.{sum_by_more}
use Rattle.ve_arena.specs.declared.node.NodeId.{NodeId}
use Rattle.ve_tree.specs.Landmarks.{LandmarkRow, IsLandmark}
use Rattle.ve_tree.proofs.LandmarkLemmas.{sum_cons}

-- what lies before a position once a length is greater
pub sum_grown : (xs : List ℕ) (k j by : ℕ) → k < j → k < length xs → sum (take j (slice_set xs k (get_or xs k 0 + by))) ≡ sum (take j xs) + by
sum_grown [] k j by after within = absurd (omega (arith, within))
sum_grown (x ∷ xs) k zero by after within = absurd (omega (arith, after))
sum_grown (x ∷ xs) zero (suc j) by after within =
    let now : sum (take (suc j) (slice_set (x ∷ xs) 0 (x + by))) ≡ x + by + sum (take j xs) = sum_cons (x + by) (take j xs) in
    let was : sum (take (suc j) (x ∷ xs)) ≡ x + sum (take j xs) = sum_cons x (take j xs) in
    omega (arith, now, was)
sum_grown (x ∷ xs) (suc k) (suc j) by after within =
    let rest = sum_grown xs k j by (omega (arith, after)) (omega (arith, within)) in
    let now : sum (take (suc j) (slice_set (x ∷ xs) (suc k) (get_or xs k 0 + by))) ≡ x + sum (take j (slice_set xs k (get_or xs k 0 + by))) = sum_cons x (take j (slice_set xs k (get_or xs k 0 + by))) in
    let was : sum (take (suc j) (x ∷ xs)) ≡ x + sum (take j xs) = sum_cons x (take j xs) in
    omega (arith, rest, now, was)

pub sums_rise : (xs : List ℕ) (j k : ℕ) → j ≤ k → sum (take j xs) ≤ sum (take k xs)
sums_rise xs zero k le = omega arith
sums_rise xs (suc j) zero le = absurd (omega (arith, le))
sums_rise [] (suc j) (suc k) le = omega arith
sums_rise (x ∷ xs) (suc j) (suc k) le =
    let rest = sums_rise xs j k (omega (arith, le)) in
    let less : sum (take (suc j) (x ∷ xs)) ≡ x + sum (take j xs) = sum_cons x (take j xs) in
    let more : sum (take (suc k) (x ∷ xs)) ≡ x + sum (take k xs) = sum_cons x (take k xs) in
    omega (arith, rest, less, more)

pub sum_at : (xs : List ℕ) (k : ℕ) → k < length xs → sum (take (suc k) xs) ≡ sum (take k xs) + get_or xs k 0
sum_at xs k within =
    let next : suc k ≡ k + 1 = omega arith in
    ap (λ j. sum (take j xs)) next ∙ sum_by_more (λ x. x) xs k 0 within

-- the landmark with a number
pub record Numbered (row : LandmarkRow) (from : ℕ) : Type 0 where
  pub node : NodeId
  pub landmark : IsLandmark row node from

pub numbered : (nodes : List NodeId) (gaps : List ℕ) (k : ℕ) → k < length nodes → Numbered (record { nodes = nodes; gaps = gaps }) (sum (take (suc k) gaps))
numbered [] gaps k among = absurd (omega (arith, among))
numbered (d ∷ ds) gaps k among = record {
  node = get_or (d ∷ ds) k d;
  landmark = record { k = k; among = among; node_is = get_or_default (d ∷ ds) k (get_or (d ∷ ds) k d) d among; from_is = refl };
}
