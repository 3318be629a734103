-- The starts of groups as a length grows, and the length that a search comes to.
use Rattle.std.proofs.Common.{◌≡◌, ◌≤◌, ◌++◌, drop, ◌<◌, ◌+◌, ◌-◌, ◌*◌, ◌/◌, ◌^◌, inl, inr, ℕ, List, length, take, get_or, sum, sym, ap, ◌∙◌, subst, arith}
use Rattle.std.specs.Prelude.{slice_set}
use Rattle.std.proofs.lemmas.List.{take-set-le, length-set, length-take-le, get_or-take, get_or_default, take_all, take-append-le}
use Rattle.std.proofs.lemmas.List.Sums.{sum_by-append, sum_by-set, sum_by-take-drop, sum_by-take-le, sum_by_more}
use Rattle.std.proofs.lemmas.Bool.{cases_lt}
use Rattle.std.proofs.Math.Seq.{take-set-lt}
use Rattle.ve_lengths.proofs.FindLemmas.{sum_rises}
use Rattle.ve_lengths.specs.Starts.{AreStarts, RaisedFrom}

-- one length grows
sum_grown : (xs : List ℕ) (k by : ℕ) → k < length xs → sum (slice_set xs k (get_or xs k 0 + by)) ≡ sum xs + by
sum_grown xs k by lt = let e = sum_by-set (λ x. x) xs k (get_or xs k 0 + by) 0 lt in omega (arith, e)

sum_grown_after : (xs : List ℕ) (k by n : ℕ) → k < length xs → k < n → n ≤ length xs → sum (take n (slice_set xs k (get_or xs k 0 + by))) ≡ sum (take n xs) + by
sum_grown_after xs k by n lt after within =
    let same = get_or-take n xs k 0 after in
    let len = length-take-le n xs within in
    ap sum (take-set-lt n xs k (get_or xs k 0 + by) after)
    ∙ ap (λ x. sum (slice_set (take n xs) k (x + by))) (sym same)
    ∙ sum_grown (take n xs) k by (omega (arith, after, len))

sum_set_before : (xs : List ℕ) (k x n : ℕ) → n ≤ k → sum (take n (slice_set xs k x)) ≡ sum (take n xs)
sum_set_before xs k x n before = ap sum (take-set-le n xs k x before)

-- one length shrinks
sum_shrunk : (xs : List ℕ) (k by : ℕ) → k < length xs → by ≤ get_or xs k 0 → sum (slice_set xs k (get_or xs k 0 - by)) + by ≡ sum xs
sum_shrunk xs k by lt long = let e = sum_by-set (λ x. x) xs k (get_or xs k 0 - by) 0 lt in omega (arith, e)

sum_shrunk_after : (xs : List ℕ) (k by n : ℕ) → k < length xs → k < n → n ≤ length xs → by ≤ get_or xs k 0 →
    sum (take n (slice_set xs k (get_or xs k 0 - by))) + by ≡ sum (take n xs)
sum_shrunk_after xs k by n lt after within long =
    let same = get_or-take n xs k 0 after in
    let len = length-take-le n xs within in
    let whole = sum_shrunk (take n xs) k by (omega (arith, after, len)) (omega (arith, same, long)) in
    ap (λ l. sum l + by) (take-set-lt n xs k (get_or xs k 0 - by) after)
    ∙ ap (λ x. sum (slice_set (take n xs) k (x - by)) + by) (sym same)
    ∙ whole

-- the starts of the groups after a length that grows
pub starts_grown : (lens old new : List ℕ) (total k by : ℕ) → AreStarts lens old total → k < length lens → sum lens + by < 2 ^ 64 → RaisedFrom old new (k / 16 + 1) by →
    AreStarts (slice_set lens k (get_or lens k 0 + by)) new (total + by)
starts_grown lens old new total k by a lt small r = record {
  count = omega (arith, r.count, a.count, length-set lens k (get_or lens k 0 + by));
  each = λ g within. elim (cases_lt g (k / 16 + 1)) [
    | inl less ↦ r.before g less ∙ a.each g (omega (arith, within, r.count)) ∙ sym (sum_set_before lens k (get_or lens k 0 + by) (16 * g) (omega (arith, less)))
    | inr more ↦
        let here : g < length old = omega (arith, within, r.count) in
        let inside : 16 * g ≤ length lens = omega (arith, here, a.count) in
        r.after g more here ∙ ap (λ x. x + by) (a.each g here) ∙ sym (sum_grown_after lens k by (16 * g) lt (omega (arith, more)) inside)
  ];
  total_is = ap (λ x. x + by) a.total_is ∙ sym (sum_grown lens k by lt);
  fits = omega (arith, small, a.total_is);
}

-- and of one that shrinks
pub starts_shrunk : (lens old new : List ℕ) (total k by : ℕ) → AreStarts lens old total → k < length lens → by ≤ get_or lens k 0 → RaisedFrom new old (k / 16 + 1) by →
    AreStarts (slice_set lens k (get_or lens k 0 - by)) new (total - by)
starts_shrunk lens old new total k by a lt long r = record {
  count = omega (arith, r.count, a.count, length-set lens k (get_or lens k 0 - by));
  each = λ g within. elim (cases_lt g (k / 16 + 1)) [
    | inl less ↦ sym (r.before g less) ∙ a.each g (omega (arith, within, r.count)) ∙ sym (sum_set_before lens k (get_or lens k 0 - by) (16 * g) (omega (arith, less)))
    | inr more ↦
        let inside : 16 * g ≤ length lens = omega (arith, within, r.count, a.count) in
        omega (arith, r.after g more within, a.each g (omega (arith, within, r.count)), sum_shrunk_after lens k by (16 * g) lt (omega (arith, more)) inside long)
  ];
  total_is = omega (arith, a.total_is, sum_shrunk lens k by lt long);
  fits = omega (arith, a.fits);
}

-- a start is no more than the sum
pub start_within : (lens starts : List ℕ) (total g : ℕ) → AreStarts lens starts total → g < length starts → get_or starts g 0 ≤ sum lens
start_within lens starts total g a lt = omega (arith, a.each g lt, sum_by-take-le (λ x. x) lens (16 * g))

-- a position within the sum is before the end of the row
pub before_end : (lens : List ℕ) (at k left : ℕ) → sum (take k lens) + left ≡ at → at < sum lens → k < length lens
before_end lens at k left e within = elim (cases_lt k (length lens)) [
  | inl less ↦ less
  | inr more ↦ let all = ap sum (take_all k lens (omega (arith, more))) in absurd (omega (arith, e, within, all))
]

pub next_sum : (lens : List ℕ) (k : ℕ) → k < length lens → sum (take (k + 1) lens) ≡ sum (take k lens) + get_or lens k 0
next_sum lens k lt = sum_by_more (λ x. x) lens k 0 lt

-- what is read at a position of a list
pub read_at : (xs : List ℕ) (i x : ℕ) → i < length xs → x ≡ get_or xs i x → x ≡ get_or xs i 0
read_at xs i x lt e = e ∙ get_or_default xs i x 0 lt

-- a slice that was borrowed whole and written back
pub written_back : (old new : List ℕ) (n : ℕ) → n ≡ length old → length new ≡ length old → take n (new ++ drop (length new) old) ≡ new
written_back old new n all same =
    take-append-le n new (drop (length new) old) (omega (arith, all, same)) ∙ take_all n new (omega (arith, all, same))

-- a table of starts after a length that was read has grown, and after it has shrunk
pub grown_kept : (lens old lent new : List ℕ) (n total k by read : ℕ) → AreStarts lens old total → k < length lens → sum lens + by < 2 ^ 64 →
    lent ≡ old → RaisedFrom lent new (k / 16 + 1) by → n ≡ length old → read ≡ get_or lens k read →
    AreStarts (slice_set lens k (read + by)) (take n (new ++ drop (length new) old)) (total + by)
grown_kept lens old lent new n total k by read a lt small lends r all reads =
    let from = subst (λ l. RaisedFrom l new (k / 16 + 1) by) lends r in
    subst (λ l. AreStarts (slice_set lens k (read + by)) l (total + by)) (sym (written_back old new n all from.count))
    (subst (λ x. AreStarts (slice_set lens k (x + by)) new (total + by)) (sym (read_at lens k read lt reads))
    (starts_grown lens old new total k by a lt small from))

pub shrunk_kept : (lens old lent new : List ℕ) (n total k by read : ℕ) → AreStarts lens old total → k < length lens → by ≤ get_or lens k 0 →
    lent ≡ old → RaisedFrom new lent (k / 16 + 1) by → n ≡ length old → read ≡ get_or lens k read →
    AreStarts (slice_set lens k (read - by)) (take n (new ++ drop (length new) old)) (total - by)
shrunk_kept lens old lent new n total k by read a lt long lends r all reads =
    let from = subst (λ l. RaisedFrom new l (k / 16 + 1) by) lends r in
    subst (λ l. AreStarts (slice_set lens k (read - by)) l (total - by)) (sym (written_back old new n all (sym from.count)))
    (subst (λ x. AreStarts (slice_set lens k (x - by)) new (total - by)) (sym (read_at lens k read lt reads))
    (starts_shrunk lens old new total k by a lt long from))

-- a start after a length is no less than that length
pub start_holds : (lens starts : List ℕ) (total k g : ℕ) → AreStarts lens starts total → k < length lens → k / 16 + 1 ≤ g → g < length starts →
    get_or lens k 0 ≤ get_or starts g 0
start_holds lens starts total k g a lt after within =
    omega (arith, a.each g within, sum_by_more (λ x. x) lens k 0 lt, sum_rises lens (k + 1) (16 * g) (omega (arith, after)))

-- what is left when lengths go has no greater sum
pub sum_left : (lens : List ℕ) (from to : ℕ) → from ≤ to → sum (take from lens ++ drop to lens) ≤ sum lens
sum_left lens from to le =
    omega (arith, sum_by-append (λ x. x) (take from lens) (drop to lens), sum_by-take-drop (λ x. x) lens to, sum_rises lens from to le)
