-- Gaps between landmarks where some of them are taken out.
use Rattle.std.proofs.Common.{◌≡◌, ◌≤◌, ◌<◌, ◌+◌, ◌-◌, inl, inr, ℕ, zero, suc, List, [], ◌∷◌, ◌++◌, length, take, drop, sum, get_or, refl, sym, ap, ◌∙◌, arith}
use Rattle.std.specs.Prelude.{slice_set, slice_index_or}
use Rattle.std.proofs.lemmas.Bool.{cases_lt}
use Rattle.std.proofs.lemmas.List.{take_all, length-set, get_or-set_same, get_or-drop}
use Rattle.ve_lengths.specs.Starts.{Finds}
use Rattle.ve_arena.specs.declared.node.NodeId.{NodeId}
use Rattle.ve_tree.specs.Landmarks.{IsCut, EndBefore, Stay, IsClosedUp}
use Rattle.ve_tree.proofs.LandmarkLemmas.{sum_cons, sum_after, sum_before}
use Rattle.ve_tree.proofs.ShiftLemmas.{sum_grown, sums_rise, sum_at}

-- the lengths before the one that holds the position before end before it
pub ends_found : (lens : List ℕ) (place k past : ℕ) → 0 < place → Finds lens (place - 1) k past → EndBefore lens place k
ends_found lens place k past some f = record {
  among = omega (arith, f.among);
  before = λ j lt. let rise = sums_rise lens (suc j) k (omega (arith, lt)) in omega (arith, rise, f.place, some);
  after = λ j le among.
      let rise = sums_rise lens (suc k) (suc j) (omega (arith, le)) in
      let ends = sum_at lens k f.among in
      omega (arith, rise, ends, f.place, f.inside, some);
}

drop_sum : (xs : List ℕ) (high j : ℕ) → high ≤ length xs → sum (take j (drop high xs)) + sum (take high xs) ≡ sum (take (j + high) xs)
drop_sum xs zero j le = let same : j + 0 ≡ j = omega arith in let now = ap (λ i. sum (take i xs)) same in omega (arith, now)
drop_sum [] (suc high) j le = absurd (omega (arith, le))
drop_sum (x ∷ xs) (suc high) j le =
    let rest = drop_sum xs high j (omega (arith, le)) in
    let before : sum (take (suc high) (x ∷ xs)) ≡ x + sum (take high xs) = sum_cons x (take high xs) in
    let next : j + suc high ≡ suc (j + high) = omega arith in
    let all : sum (take (j + suc high) (x ∷ xs)) ≡ x + sum (take (j + high) xs) = ap (λ i. sum (take i (x ∷ xs))) next ∙ sum_cons x (take (j + high) xs) in
    omega (arith, rest, before, all)

-- what lies before a position once some lengths before it are taken out
cut_sum : (xs : List ℕ) (low high j : ℕ) → low ≤ high → high ≤ length xs → low ≤ j → sum (take j (take low xs ++ drop high xs)) + sum (take high xs) ≡ sum (take low xs) + sum (take (j + (high - low)) xs)
cut_sum xs zero high j order le after =
    let same : j + (high - 0) ≡ j + high = omega arith in
    let now = ap (λ i. sum (take i xs)) same in
    let all = drop_sum xs high j le in
    omega (arith, all, now)
cut_sum [] (suc low) high j order le after = absurd (omega (arith, order, le))
cut_sum (x ∷ xs) (suc low) zero j order le after = absurd (omega (arith, order))
cut_sum (x ∷ xs) (suc low) (suc high) zero order le after = absurd (omega (arith, after))
cut_sum (x ∷ xs) (suc low) (suc high) (suc j) order le after =
    let rest = cut_sum xs low high j (omega (arith, order)) (omega (arith, le)) (omega (arith, after)) in
    let cut : sum (take (suc j) (take (suc low) (x ∷ xs) ++ drop (suc high) (x ∷ xs))) ≡ x + sum (take j (take low xs ++ drop high xs)) = sum_cons x (take j (take low xs ++ drop high xs)) in
    let to_high : sum (take (suc high) (x ∷ xs)) ≡ x + sum (take high xs) = sum_cons x (take high xs) in
    let to_low : sum (take (suc low) (x ∷ xs)) ≡ x + sum (take low xs) = sum_cons x (take low xs) in
    let next : suc j + (suc high - suc low) ≡ suc (j + (high - low)) = omega (arith, order) in
    let all : sum (take (suc j + (suc high - suc low)) (x ∷ xs)) ≡ x + sum (take (j + (high - low)) xs) = ap (λ i. sum (take i (x ∷ xs))) next ∙ sum_cons x (take (j + (high - low)) xs) in
    omega (arith, rest, cut, to_high, to_low, all)

cut_sum_before : (xs : List ℕ) (low high j : ℕ) → low ≤ high → high ≤ length xs → j ≤ low → sum (take j (take low xs ++ drop high xs)) ≡ sum (take j xs)
cut_sum_before xs low high zero order le before = refl
cut_sum_before xs zero high (suc j) order le before = absurd (omega (arith, before))
cut_sum_before [] (suc low) high (suc j) order le before = absurd (omega (arith, order, le))
cut_sum_before (x ∷ xs) (suc low) zero (suc j) order le before = absurd (omega (arith, order))
cut_sum_before (x ∷ xs) (suc low) (suc high) (suc j) order le before =
    sum_cons x (take j (take low xs ++ drop high xs)) ∙ ap (λ s. x + s) (cut_sum_before xs low high j (omega (arith, order)) (omega (arith, le)) (omega (arith, before))) ∙ sym (sum_cons x (take j xs))

cut_length : {A : Type 0} (xs : List A) (low high : ℕ) → low ≤ high → high ≤ length xs → length (take low xs ++ drop high xs) + (high - low) ≡ length xs
cut_length xs zero zero order le = omega arith
cut_length [] zero (suc high) order le = absurd (omega (arith, le))
cut_length (x ∷ xs) zero (suc high) order le = let rest = cut_length xs 0 high (omega arith) (omega (arith, le)) in omega (arith, rest)
cut_length xs (suc low) zero order le = absurd (omega (arith, order))
cut_length [] (suc low) (suc high) order le = absurd (omega (arith, le))
cut_length (x ∷ xs) (suc low) (suc high) order le = let rest = cut_length xs low high (omega (arith, order)) (omega (arith, le)) in omega (arith, rest, order)

get_cut : {A : Type 0} (xs : List A) (low high k : ℕ) (d : A) → low ≤ high → high ≤ length xs → low ≤ k → get_or (take low xs ++ drop high xs) k d ≡ get_or xs (k + (high - low)) d
get_cut xs zero high k d order le after = get_or-drop high xs k d ∙ ap (λ i. get_or xs i d) (omega arith)
get_cut [] (suc low) high k d order le after = absurd (omega (arith, order, le))
get_cut (x ∷ xs) (suc low) zero k d order le after = absurd (omega (arith, order))
get_cut (x ∷ xs) (suc low) (suc high) zero d order le after = absurd (omega (arith, after))
get_cut (x ∷ xs) (suc low) (suc high) (suc k) d order le after =
    let next : suc (k + (high - low)) ≡ suc k + (suc high - suc low) = omega (arith, order) in
    get_cut xs low high k d (omega (arith, order)) (omega (arith, le)) (omega (arith, after)) ∙ ap (λ i. get_or (x ∷ xs) i d) next

get_cut_before : {A : Type 0} (xs : List A) (low high k : ℕ) (d : A) → low ≤ high → high ≤ length xs → k < low → get_or (take low xs ++ drop high xs) k d ≡ get_or xs k d
get_cut_before xs zero high k d order le before = absurd (omega (arith, before))
get_cut_before [] (suc low) high k d order le before = absurd (omega (arith, order, le))
get_cut_before (x ∷ xs) (suc low) zero k d order le before = absurd (omega (arith, order))
get_cut_before (x ∷ xs) (suc low) (suc high) zero d order le before = refl
get_cut_before (x ∷ xs) (suc low) (suc high) (suc k) d order le before = get_cut_before xs low high k d (omega (arith, order)) (omega (arith, le)) (omega (arith, before))

-- what is taken out fits
pub cut_whole : (xs : List ℕ) (low high : ℕ) → low ≤ high → high ≤ length xs → sum (take low xs ++ drop high xs) + (sum (take high xs) - sum (take low xs)) ≡ sum xs
cut_whole xs low high order le =
    let rise = sums_rise xs low high order in
    let n = length xs in
    let count = cut_length xs low high order le in
    let cut = cut_sum xs low high n order le (omega (arith, order, le)) in
    let ys = ap sum (take_all n (take low xs ++ drop high xs) (omega (arith, count))) in
    let all = ap sum (take_all (n + (high - low)) xs (omega arith)) in
    omega (arith, cut, ys, all, rise)

-- the length that then stands there is long enough
pub cut_long : (xs mid grown : List ℕ) (low high less more : ℕ) → low ≤ high → high ≤ length xs → low < length mid → mid ≡ take low xs ++ drop high xs →
    grown ≡ slice_set mid low (get_or mid low 0 + (sum (take high xs) - sum (take low xs) + more)) → (high < length xs → sum (take low xs) + less ≤ sum (take (suc high) xs)) →
    less ≤ get_or grown low 0
cut_long xs mid grown low high less more order le among mid_is grown_is long =
    let by = sum (take high xs) - sum (take low xs) + more in
    let now = ap (λ zs. get_or zs low 0) grown_is ∙ get_or-set_same mid low (get_or mid low 0 + by) 0 among in
    let count = ap length mid_is in
    let whole = cut_length xs low high order le in
    let within : high < length xs = omega (arith, count, whole, among, order) in
    let at : low + (high - low) ≡ high = omega (arith, order) in
    let here = ap (λ zs. get_or zs low 0) mid_is ∙ get_cut xs low high low 0 order le (omega arith) ∙ ap (λ i. get_or xs i 0) at in
    let ends = sum_at xs high within in
    omega (arith, now, here, ends, long within)

pub closed_up : (xs mid grown new : List ℕ) (low high less more : ℕ) → low ≤ high → high ≤ length xs → low < length mid → mid ≡ take low xs ++ drop high xs →
    grown ≡ slice_set mid low (get_or mid low 0 + (sum (take high xs) - sum (take low xs) + more)) → new ≡ slice_set grown low (get_or grown low 0 - less) → less ≤ get_or grown low 0 →
    IsClosedUp xs new low high less more
closed_up xs mid grown new low high less more order le among mid_is grown_is new_is long =
    let by = sum (take high xs) - sum (take low xs) + more in
    let whole = cut_length xs low high order le in
    let mid_count = ap length mid_is in
    let grown_count : length grown ≡ length mid = ap length grown_is ∙ length-set mid low (get_or mid low 0 + by) in
    let new_count : length new ≡ length grown = ap length new_is ∙ length-set grown low (get_or grown low 0 - less) in
    record {
      count = omega (arith, whole, mid_count, grown_count, new_count);
      before = λ j before.
          ap (λ zs. sum (take j zs)) new_is ∙ sum_before grown low j (get_or grown low 0 - less) before ∙ ap (λ zs. sum (take j zs)) grown_is ∙ sum_before mid low j (get_or mid low 0 + by) before
          ∙ ap (λ zs. sum (take j zs)) mid_is ∙ cut_sum_before xs low high j order le before;
      after = λ j after within.
          let shrunk : sum (take j new) + less ≡ sum (take j grown) = ap (λ zs. sum (take j zs) + less) new_is ∙ sum_after grown low j less after (omega (arith, grown_count, among)) long in
          let raised : sum (take j grown) ≡ sum (take j mid) + by = ap (λ zs. sum (take j zs)) grown_is ∙ sum_grown mid low j by after among in
          let was = ap (λ zs. sum (take j zs)) mid_is in
          let cut = cut_sum xs low high j order le (omega (arith, after)) in
          let rise = sums_rise xs low high order in
          omega (arith, shrunk, raised, was, cut, rise);
    }

-- the landmarks before the cut stay, and those behind it move
pub landmarks_cut : (nodes nodes' : List NodeId) (gaps gaps' : List ℕ) (root : NodeId) (from to len low high count past : ℕ) → length nodes ≡ length gaps → from ≤ to → Stay nodes gaps root from low → EndBefore gaps past count →
    0 < past → to ≤ past → low ≤ high → count ≤ high → high ≤ length gaps → nodes' ≡ take low nodes ++ drop high nodes → IsClosedUp gaps gaps' low high (to - from) len →
    IsCut (record { nodes = nodes; gaps = gaps }) (record { nodes = nodes'; gaps = gaps' }) root from to len
landmarks_cut nodes nodes' gaps gaps' root from to len low high count past long order stay ends some reaches low_high count_high high_end nodes_is closed n start mark =
    elim (cases_lt mark.k low) [
      | inl less ↦
          let here : slice_index_or nodes mark.k n ≡ n = sym (ap (λ ns. get_or ns mark.k n) nodes_is ∙ get_cut_before nodes low high mark.k n low_high (omega (arith, long, high_end)) less) ∙ mark.node_is in
          record {
            was = sum (take (suc mark.k) gaps);
            landmark = record { k = mark.k; among = omega (arith, less, long, low_high, high_end); node_is = here; from_is = refl };
            kept = inl (stay.each mark.k n less here, sym mark.from_is ∙ closed.before (suc mark.k) (omega (arith, less)));
          }
      | inr not_less ↦
          let k = mark.k + (high - low) in
          let cut = cut_length nodes low high low_high (omega (arith, long, high_end)) in
          let left = ap length nodes_is in
          let among : k < length nodes = omega (arith, mark.among, left, cut) in
          let here = sym (ap (λ ns. get_or ns mark.k n) nodes_is ∙ get_cut nodes low high mark.k n low_high (omega (arith, long, high_end)) (omega (arith, not_less))) ∙ mark.node_is in
          let behind = ends.after k (omega (arith, not_less, low_high, count_high)) (omega (arith, among, long)) in
          let moved = closed.after (suc mark.k) (omega (arith, not_less)) (omega (arith, mark.among, left, cut, closed.count, long)) in
          let next : suc mark.k + (high - low) ≡ suc k = omega arith in
          let old = ap (λ i. sum (take i gaps)) next in
          record {
            was = sum (take (suc k) gaps);
            landmark = record { k = k; among = among; node_is = here; from_is = refl };
            kept = inr (omega (arith, behind, reaches), omega (arith, behind, some), omega (arith, moved, old, mark.from_is));
          }
    ]
