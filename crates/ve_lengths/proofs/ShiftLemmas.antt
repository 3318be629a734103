-- The starts of groups as one length is put in or taken out: each later group changes by the one
-- length that comes over from its neighbour.
use Rattle.std.proofs.Common.{◌≡◌, ◌≤◌, ◌<◌, ◌+◌, ◌-◌, ◌*◌, ◌/◌, ◌%◌, ◌^◌, ◌++◌, ◌∷◌, [], zero, suc, ℕ, List, inl, inr, length, take, drop, get_or, sum, refl, sym, ap, subst, ◌∙◌, arith}
use Rattle.std.specs.Prelude.{insert}
use Rattle.std.proofs.lemmas.Bool.{cases_lt}
use Rattle.std.proofs.lemmas.List.{take-take, take-append-le, length-append, length-take-le, take_all, get_or-take, get_or_append_left}
use Rattle.std.proofs.Math.Seq.{get_or-append_seam}
use Rattle.std.proofs.lemmas.List.Edits.{length-insert, length-remove}
use Rattle.std.proofs.lemmas.List.Sums.{sum_by-cons, sum_by-insert, sum_by-remove, sum_by_more, sum_by-take-le}
use Rattle.ve_lengths.proofs.StartLemmas.{read_at, start_holds, written_back}
use Rattle.ve_lengths.specs.Starts.{AreStarts, AreShifted, AreShiftedBack}

next_sum : (xs : List ℕ) (m : ℕ) → m < length xs → sum (take (suc m) xs) ≡ sum (take m xs) + get_or xs m 0
next_sum xs m within = let one : suc m ≡ m + 1 = omega arith in ap (λ n. sum (take n xs)) one ∙ sum_by_more (λ x. x) xs m 0 within

-- the sums past a length that is put in
one_in : (xs : List ℕ) (k m x : ℕ) → k ≤ m → m ≤ length xs → sum (take (suc m) (insert xs k x)) ≡ sum (take m xs) + x
one_in xs zero m x le within = let all = sum_by-cons (λ n. n) x (take m xs) in omega (arith, all)
one_in [] (suc k) m x le within = absurd (omega (arith, le, within))
one_in (y ∷ xs) (suc k) zero x le within = absurd (omega (arith, le))
one_in (y ∷ xs) (suc k) (suc m) x le within =
    let rest = one_in xs k m x (omega (arith, le)) (omega (arith, within)) in
    let longer = sum_by-cons (λ n. n) y (take (suc m) (insert xs k x)) in
    let shorter = sum_by-cons (λ n. n) y (take m xs) in
    omega (arith, rest, longer, shorter)

-- and those before it
none_in : (xs : List ℕ) (k n x : ℕ) → n ≤ k → k ≤ length xs → take n (insert xs k x) ≡ take n xs
none_in xs k n x before within =
    take-append-le n (take k xs) (x ∷ drop k xs) (omega (arith, before, within, length-take-le k xs within)) ∙ take-take n k xs before

-- the sums past a length that is taken out
one_out : (xs : List ℕ) (k m : ℕ) → k ≤ m → m < length xs → sum (take (suc m) xs) ≡ sum (take m (take k xs ++ drop (suc k) xs)) + get_or xs k 0
one_out [] k m le within = absurd (omega (arith, within))
one_out (x ∷ xs) zero m le within =
    let all = sum_by-cons (λ n. n) x (take m xs) in
    let left : sum (take m (take 0 (x ∷ xs) ++ drop 1 (x ∷ xs))) ≡ sum (take m xs) = refl in
    omega (arith, all, left)
one_out (x ∷ xs) (suc k) zero le within = absurd (omega (arith, le))
one_out (x ∷ xs) (suc k) (suc m) le within =
    let rest = one_out xs k m (omega (arith, le)) (omega (arith, within)) in
    let longer = sum_by-cons (λ n. n) x (take (suc m) xs) in
    let shorter = sum_by-cons (λ n. n) x (take m (take k xs ++ drop (suc k) xs)) in
    omega (arith, rest, longer, shorter)

none_out : (xs : List ℕ) (k n : ℕ) → n ≤ k → k < length xs → take n (take k xs ++ drop (suc k) xs) ≡ take n xs
none_out xs k n before within =
    take-append-le n (take k xs) (drop (suc k) xs) (omega (arith, before, within, length-take-le k xs (omega (arith, within)))) ∙ take-take n k xs before

-- each length after it has moved back
moved : (xs : List ℕ) (k m : ℕ) → k ≤ m → get_or (take k xs ++ drop (suc k) xs) m 0 ≡ get_or xs (suc m) 0
moved [] zero m le = refl
moved [] (suc k) m le = refl
moved (x ∷ xs) zero m le = refl
moved (x ∷ xs) (suc k) zero le = absurd (omega (arith, le))
moved (x ∷ xs) (suc k) (suc m) le = moved xs k m (omega (arith, le))

-- the starts, and behind them that of the group which a length more would begin
pub record AreNext (lens starts : List ℕ) : Type 0 where
  pub count : length starts ≡ length lens / 16 + 1
  pub each : (g : ℕ) → g < length starts → get_or starts g 0 ≡ sum (take (16 * g) lens)

pub starts_shifted : (lens old new : List ℕ) (k len : ℕ) → AreNext lens old → k ≤ length lens → sum lens + len < 2 ^ 64 →
    AreShifted (insert lens k len) old new (k / 16 + 1) len → AreStarts (insert lens k len) new (sum lens + len)
starts_shifted lens old new k len a le small s =
    let longer : length (insert lens k len) ≡ length lens + 1 = length-insert lens k len le in
    record {
      count = omega (arith, s.count, a.count, longer);
      each = λ g within. elim (cases_lt g (k / 16 + 1)) [
        | inl less ↦
            s.before g less ∙ a.each g (omega (arith, within, s.count)) ∙ ap sum (sym (none_in lens k (16 * g) len (omega (arith, less)) le))
        | inr more ↦
            let here : g < length old = omega (arith, within, s.count) in
            let inside : 16 * g ≤ length lens = omega (arith, here, a.count) in
            let next = next_sum (insert lens k len) (16 * g) (omega (arith, longer, inside)) in
            omega (arith, s.after g more here, a.each g here, one_in lens k (16 * g) len (omega (arith, more)) inside, next)
      ];
      total_is = sym (sum_by-insert (λ x. x) lens k len);
      fits = small;
    }

-- what goes over to a group is no more than what is left of all
pub over_within : (lens starts : List ℕ) (total k n g : ℕ) → AreStarts lens starts total → k < length lens → n + 1 ≡ length lens → k / 16 + 1 ≤ g → g < (n + 15) / 16 → g < length starts →
    get_or starts g 0 + get_or (take k lens ++ drop (suc k) lens) (16 * g - 1) 0 < 2 ^ 64
over_within lens starts total k n g a lt one more among within =
    let back : suc (16 * g - 1) ≡ 16 * g = omega (arith, more) in
    let over : get_or (take k lens ++ drop (suc k) lens) (16 * g - 1) 0 ≡ get_or lens (16 * g) 0 =
    moved lens k (16 * g - 1) (omega (arith, more)) ∙ ap (λ n. get_or lens n 0) back in
    omega (
      arith,
      over,
      a.each g within,
      a.total_is,
      a.fits,
      next_sum lens (16 * g) (omega (arith, one, among)),
      sum_by-take-le (λ x. x) lens (suc (16 * g)),
    )

pub starts_shifted_back : (lens old new : List ℕ) (total k n : ℕ) → AreStarts lens old total → k < length lens → n + 1 ≡ length lens →
    AreShiftedBack (take k lens ++ drop (suc k) lens) (take ((n + 15) / 16) old) new (k / 16 + 1) (get_or lens k 0) →
    AreStarts (take k lens ++ drop (suc k) lens) new (total - get_or lens k 0)
starts_shifted_back lens old new total k n a lt one s =
    let left = take k lens ++ drop (suc k) lens in
    let shorter : length left + 1 ≡ length lens = length-remove lens k lt in
    let cut : length (take ((n + 15) / 16) old) ≡ (n + 15) / 16 = length-take-le ((n + 15) / 16) old (omega (arith, a.count, one)) in
    let whole : sum left + get_or lens k 0 ≡ sum lens = sum_by-remove (λ x. x) lens k 0 lt in
    record {
      count = omega (arith, s.count, cut, shorter, one);
      each = λ g within.
          let among : g < (n + 15) / 16 = omega (arith, within, s.count, cut) in
          let here : g < length old = omega (arith, among, a.count, one) in
          let read : get_or (take ((n + 15) / 16) old) g 0 ≡ get_or old g 0 = get_or-take ((n + 15) / 16) old g 0 among in
          elim (cases_lt g (k / 16 + 1)) [
            | inl less ↦ s.before g less ∙ read ∙ a.each g here ∙ ap sum (sym (none_out lens k (16 * g) (omega (arith, less)) lt))
            | inr more ↦
                let back : suc (16 * g - 1) ≡ 16 * g = omega (arith, more) in
                let over : get_or left (16 * g - 1) 0 ≡ get_or lens (16 * g) 0 = moved lens k (16 * g - 1) (omega (arith, more)) ∙ ap (λ m. get_or lens m 0) back in
                let next = next_sum lens (16 * g) (omega (arith, among, one)) in
                omega (arith, s.after g more (omega (arith, among, cut)), read, a.each g here, over, next, one_out lens k (16 * g) (omega (arith, more)) (omega (arith, among, one)))
          ];
      total_is = omega (arith, a.total_is, whole);
      fits = omega (arith, a.fits);
    }

-- where the last group is full, the sum of all lengths is the start of the next one
pub next_begun : (lens old olds : List ℕ) (total : ℕ) → AreStarts lens old total → length lens % 16 ≡ 0 → olds ≡ old ++ total ∷ [] → AreNext lens olds
next_begun lens old olds total a full is =
    let longer : length olds ≡ length old + 1 = ap length is ∙ length-append old (total ∷ []) in
    record {
      count = omega (arith, longer, a.count, full);
      each = λ g within. elim (cases_lt g (length old)) [
        | inl less ↦ ap (λ l. get_or l g 0) is ∙ get_or_append_left old (total ∷ []) 0 g less ∙ a.each g less
        | inr more ↦
            let last : g ≡ length old = omega (arith, longer, within, more) in
            let all : sum (take (16 * g) lens) ≡ sum lens = ap sum (take_all (16 * g) lens (omega (arith, last, a.count, full))) in
            ap (λ l. get_or l g 0) is ∙ ap (λ n. get_or (old ++ total ∷ []) n 0) last ∙ get_or-append_seam old total [] 0 ∙ a.total_is ∙ sym all
      ];
    }

pub next_same : (lens old : List ℕ) (total : ℕ) → AreStarts lens old total → (length lens % 16 ≡ 0 → ⊥) → AreNext lens old
next_same lens old total a open_group = record { count = omega (arith, a.count, open_group); each = a.each }

pub put_kept : (lens olds row lent new : List ℕ) (total k len size : ℕ) → AreNext lens olds → k ≤ length lens → sum lens + len < 2 ^ 64 → total ≡ sum lens →
    lent ≡ olds → row ≡ insert lens k len → AreShifted row lent new (k / 16 + 1) len → size ≡ length olds →
    AreStarts row (take size (new ++ drop (length new) olds)) (total + len)
put_kept lens olds row lent new total k len size a le small is lends rows s all =
    let by_row = subst (λ l. AreShifted l lent new (k / 16 + 1) len) rows s in
    let by_lent = subst (λ l. AreShifted (insert lens k len) l new (k / 16 + 1) len) lends by_row in
    let kept = starts_shifted lens olds new k len a le small by_lent in
    let as_total = subst (λ t. AreStarts (insert lens k len) new (t + len)) (sym is) kept in
    let as_row = subst (λ l. AreStarts l new (total + len)) (sym rows) as_total in
    subst (λ l. AreStarts row l (total + len)) (sym (written_back olds new size all by_lent.count)) as_row

-- the starts that are left, as they are lent and written back
module _ (lens old : List ℕ) (total k n m : ℕ) (a : AreStarts lens old total) (lt : k < length lens) (one : n + 1 ≡ length lens) (cut : m ≡ (n + 15) / 16)
    (lent row : List ℕ) (lends : lent ≡ take m old) (rest : row ≡ take k lens ++ drop (suc k) lens) where
  among : (g : ℕ) → g < length lent → g < (n + 15) / 16
  among g within =
      let all : length (take m old) ≡ m = length-take-le m old (omega (arith, cut, one, a.count)) in
      omega (arith, within, ap length lends, all, cut)

  same : (g : ℕ) → g < length lent → get_or lent g 0 ≡ get_or old g 0
  same g within = ap (λ l. get_or l g 0) lends ∙ get_or-take m old g 0 (omega (arith, among g within, cut))

  pub taken_fits : (g : ℕ) → k / 16 + 1 ≤ g → g < length lent → get_or lent g 0 + get_or row (16 * g - 1) 0 < 2 ^ 64
  taken_fits g after within =
      let here : g < length old = omega (arith, among g within, one, a.count) in
      let fits = over_within lens old total k n g a lt one after (among g within) here in
      omega (arith, fits, same g within, ap (λ l. get_or l (16 * g - 1) 0) rest)

  pub taken_holds : (read : ℕ) → read ≡ get_or lens k read → (g : ℕ) → k / 16 + 1 ≤ g → g < length lent → read ≤ get_or lent g 0
  taken_holds read reads g after within =
      omega (arith, start_holds lens old total k g a lt after (omega (arith, among g within, one, a.count)), same g within, read_at lens k read lt reads)

  pub taken_kept : (read size : ℕ) (new back : List ℕ) → read ≡ get_or lens k read → AreShiftedBack row lent new (k / 16 + 1) read → back ≡ lent → size ≡ length back →
      AreStarts row (take size (new ++ drop (length new) back)) (total - read)
  taken_kept read size new back reads s backs all =
      let is = read_at lens k read lt reads in
      let lent_is : lent ≡ take ((n + 15) / 16) old = lends ∙ ap (λ c. take c old) cut in
      let by_rest = subst (λ l. AreShiftedBack l lent new (k / 16 + 1) read) rest s in
      let by_lent = subst (λ l. AreShiftedBack (take k lens ++ drop (suc k) lens) l new (k / 16 + 1) read) lent_is by_rest in
      let by_read = subst (λ r. AreShiftedBack (take k lens ++ drop (suc k) lens) (take ((n + 15) / 16) old) new (k / 16 + 1) r) is by_lent in
      let kept = starts_shifted_back lens old new total k n a lt one by_read in
      let as_read = subst (λ r. AreStarts (take k lens ++ drop (suc k) lens) new (total - r)) (sym is) kept in
      let as_row = subst (λ l. AreStarts l new (total - read)) (sym rest) as_read in
      subst (λ l. AreStarts row l (total - read)) (sym (written_back back new size all (s.count ∙ ap length (sym backs)))) as_row
