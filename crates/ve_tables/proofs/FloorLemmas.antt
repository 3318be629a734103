-- Runs of columns counted: free ones, taken ones, and the floors that they stand for.
use Rattle.std.specs.Prelude.{sum_by, IsPermutation}
use Rattle.std.proofs.Common.{◌≡◌, ◌⊎◌, inl, inr, ℕ, zero, suc, ◌+◌, ◌-◌, ◌<◌, ◌≤◌, ◌&&◌, max, Bool, true, false, if◌then◌else◌, nat_lt, nat_le, List, [], ◌∷◌, length, get_or, All, refl, sym, ap, ◌∙◌, subst, arith}
use Rattle.std.proofs.lemmas.Bool.{cases_Bool, ltb-true, ltb-false, lt-ltb, le-leb}
use Rattle.std.proofs.lemmas.Bool.Decides.{nat_tests}
use Rattle.std.proofs.lemmas.List.Elements.{All-nil, All-cons, All-head, All-tail}
use Rattle.std.proofs.lemmas.List.Sorted.{All-permutation, sum_by_pushed, sum_by_popped}
use Rattle.std.proofs.lemmas.List.Sums.{sum_by-cons}
use Rattle.ve_tables.specs.declared.runs.Run.{Run}
use Rattle.ve_tables.specs.Runs.{IsLeast, over, count_at, floor_at, IsBelow, IsSome, IsFree, AreFrom}
use Rattle.ve_tables.specs.declared.floors.Floors.{Floors}
use Rattle.ve_tables.specs.Floors.{AreApart, IsSettled, AreOut, IsStop, AreFreed, HasTaken, AreTaken, IsFirst}

-- ---- columns from one on up to another

pub over_in : (from to c : ℕ) → from ≤ c → c < to → over from to c ≡ 1
over_in from to c low high = grind (arith, nat_tests)

pub over_out : (from to c : ℕ) → (c < from) ⊎ (to ≤ c) → over from to c ≡ 0
over_out from to c (inl less) = grind (arith, nat_tests)
over_out from to c (inr far) = grind (arith, nat_tests)

pub over_few : (from to c : ℕ) → over from to c ≤ 1
over_few from to c = grind (arith, nat_tests)

pub over_join : (from mid to c : ℕ) → from ≤ mid → mid ≤ to → over from mid c + over mid to c ≡ over from to c
over_join from mid to c low high = grind (arith, nat_tests)

pub over_none : (from to c : ℕ) → to ≤ from → over from to c ≡ 0
over_none from to c order = grind (arith, nat_tests)

over_some : (from to c : ℕ) → 1 ≤ over from to c → (from ≤ c) × (c < to)
over_some from to c some =
    elim (cases_Bool (nat_lt c from)) [
      | inl t ↦ absurd (let o = over_out from to c (inl (ltb-true c from t)) in omega arith)
      | inr f ↦ (let low = ltb-false c from f in elim (cases_Bool (nat_lt c to)) [
        | inl t ↦ (low, ltb-true c to t)
        | inr g ↦ absurd (let high = ltb-false c to g in let o = over_out from to c (inr high) in omega arith)
      ])
    ]

-- ---- what runs come to at a column

abbrev one_over : ℕ → Run → ℕ
one_over c run = over run.from run.to c

abbrev one_floor : ℕ → Run → ℕ
one_floor c run = if nat_le run.from c && nat_lt c run.to then run.number else 0

abbrev one_if : Bool → ℕ
one_if b = if b then 1 else 0

no_floor : (b : Bool) (n : ℕ) → one_if b ≡ 0 → (if b then n else 0) ≡ 0
no_floor true n h = absurd (omega arith)
no_floor false n h = refl

a_floor : (b : Bool) (n : ℕ) → 1 ≤ one_if b → (if b then n else 0) ≡ n
a_floor true n h = refl
a_floor false n h = absurd (omega arith)

-- no run reaches over it: no floor
pub floor_none : (runs : List Run) (c : ℕ) → count_at runs c ≡ 0 → floor_at runs c ≡ 0
floor_none [] c h = refl
floor_none (run ∷ runs) c h =
    let a = sum_by-cons (one_over c) run runs in
    let b = sum_by-cons (one_floor c) run runs in
    let here = no_floor (nat_le run.from c && nat_lt c run.to) run.number (omega arith) in
    let later = floor_none runs c (omega arith) in
    omega arith

-- one does: it is below the row
pub floor_below : (row : ℕ) (runs : List Run) (c : ℕ) → All (IsBelow row) runs → 1 ≤ count_at runs c → row < floor_at runs c
floor_below row [] c below some = absurd (let z : count_at [] c ≡ 0 = refl in omega arith)
floor_below row (run ∷ runs) c below some =
    let a = sum_by-cons (one_over c) run runs in
    let b = sum_by-cons (one_floor c) run runs in
    let few = over_few run.from run.to c in
    let number = All-head (IsBelow row) run runs below in
    elim (cases_Bool (nat_lt 0 (one_over c run))) [
      | inl t ↦ (let l = ltb-true 0 (one_over c run) t in let here = a_floor (nat_le run.from c && nat_lt c run.to) run.number (omega arith) in omega arith)
      | inr f ↦ (let l = ltb-false 0 (one_over c run) f in let later = floor_below row runs c (All-tail (IsBelow row) run runs below) (omega arith) in omega arith)
    ]

-- a run that reaches over it is counted
counted : (runs : List Run) (k : ℕ) (d : Run) (c : ℕ) → k < length runs → one_over c (get_or runs k d) ≡ 1 → 1 ≤ count_at runs c
counted [] k d c inside is = absurd (omega arith)
counted (run ∷ runs) zero d c inside is = let a = sum_by-cons (one_over c) run runs in omega arith
counted (run ∷ runs) (suc k) d c inside is =
    let a = sum_by-cons (one_over c) run runs in
    let later = counted runs k d c (omega arith) is in
    omega arith

-- and those that begin behind it are not
none_before : (runs : List Run) (c : ℕ) → All (λ (run : Run). c < run.from) runs → count_at runs c ≡ 0
none_before [] c h = refl
none_before (run ∷ runs) c h =
    let P : Run → Type 0 = λ run. c < run.from in
    let a = sum_by-cons (one_over c) run runs in
    let here = over_out run.from run.to c (inl (All-head P run runs h)) in
    let later = none_before runs c (All-tail P run runs h) in
    omega arith

-- ---- the first free column

pub first_some : (floors : Floors) (number : ℕ) → AreApart floors → IsLeast number floors.free → IsFirst floors number
first_some floors number apart least = record {
  high = omega (arith, inside);
  passed = λ c less.
      let none = none_before floors.free c (λ k d inside. let low = least.least k d inside in let free = apart.free k d inside in let begins = free.begins in omega arith) in
      let once = apart.once c in
      let o = over_in 0 floors.width c (omega arith) (omega (arith, inside)) in
      omega arith;
  free = omega (arith, apart.once number, over_few 0 floors.width number, here);
}
  where
    whole : All IsFree (least.first ∷ least.later)
    whole = subst (All IsFree) least.are apart.free

    first : IsFree least.first
    first = All-head IsFree least.first least.later whole

    here : 1 ≤ count_at floors.free number
    here =
        let begins = first.begins in
        let some = first.some in
        let is = least.is in
        let o = over_in least.first.from least.first.to number (omega arith) (omega arith) in
        let a = sum_by-cons (one_over number) least.first least.later in
        let e : count_at floors.free number ≡ count_at (least.first ∷ least.later) number = ap (λ (runs : List Run). count_at runs number) least.are in
        omega arith

    inside : number < floors.width
    inside = let once = apart.once number in (over_some 0 floors.width number (omega (arith, here))).1

pub first_none : (floors : Floors) → AreApart floors → floors.free ≡ [] → IsFirst floors floors.width
first_none floors apart none = record {
  high = omega arith;
  passed = λ c less.
      let once = apart.once c in
      let z : count_at floors.free c ≡ 0 = ap (λ (runs : List Run). count_at runs c) none in
      let o = over_in 0 floors.width c (omega arith) less in
      omega arith;
  free =
      let once = apart.once floors.width in
      let o = over_out 0 floors.width floors.width (inr (omega arith)) in
      omega arith;
}

-- ---- a run that is freed

abbrev freed : Run → Run
freed run = record { number = run.from; from = run.from; to = run.to }

floors_same : (r a b : ℕ) → a ≤ r → b ≤ r → nat_lt r a ≡ nat_lt r b
floors_same r a b low high = grind (arith, nat_tests)

module _ (row : ℕ) (run : Run) (old new : Floors) (apart : AreApart old) (taken : IsPermutation old.taken (run ∷ new.taken)) (few : run.number ≤ row)
    (more : IsPermutation (freed run ∷ old.free) new.free) (width : new.width ≡ old.width) where
  some : All IsSome (run ∷ new.taken)
  some = All-permutation IsSome old.taken (run ∷ new.taken) taken apart.taken

  pub freed_apart : AreApart new
  freed_apart = record {
    once = λ c.
        let once = apart.once c in
        let a = sum_by_popped (one_over c) run old.taken new.taken taken in
        let b = sum_by_pushed (one_over c) (freed run) old.free new.free more in
        let e : over 0 new.width c ≡ over 0 old.width c = ap (λ n. over 0 n c) width in
        omega arith;
    taken = All-tail IsSome run new.taken some;
    free = All-permutation IsFree (freed run ∷ old.free) new.free more
        (All-cons IsFree (freed run) old.free (record { some = All-head IsSome run new.taken some; begins = refl }) apart.free);
  }

  pub freed_settled : IsSettled row old new
  freed_settled = record {
    same = λ r c low.
        let once = apart.once c in
        let few_ = over_few 0 old.width c in
        let a = sum_by_popped (one_over c) run old.taken new.taken taken in
        let b = sum_by_popped (one_floor c) run old.taken new.taken taken in
        elim (cases_Bool (nat_lt 0 (one_over c run))) [
          | inl t ↦
              (let l = ltb-true 0 (one_over c run) t in
              let number = a_floor (nat_le run.from c && nat_lt c run.to) run.number (omega arith) in
              let none = floor_none new.taken c (omega arith) in
              floors_same r (floor_at new.taken c) (floor_at old.taken c) (omega arith) (omega arith))
          | inr f ↦
              (let l = ltb-false 0 (one_over c run) f in
              let number = no_floor (nat_le run.from c && nat_lt c run.to) run.number (omega arith) in
              let e : floor_at new.taken c ≡ floor_at old.taken c = omega arith in
              ap (nat_lt r) e)
        ];
    width = width;
  }

pub settled_first : (row : ℕ) (floors : Floors) → IsSettled row floors floors
settled_first row floors = record { same = λ r c low. refl; width = refl }

pub settled_next : (row : ℕ) (old mid new : Floors) → IsSettled row old mid → IsSettled row mid new → IsSettled row old new
settled_next row old mid new a b = record { same = λ r c low. b.same r c low ∙ a.same r c low; width = b.width ∙ a.width }

-- ---- free runs taken out

pub out_first : (from : ℕ) (free : List Run) → AreFrom from free → AreOut free from from free
out_first from free are = record { order = omega arith; less = λ c. let o = over_none from from c (omega arith) in omega arith; rest = are }

module _ (old mid new : List Run) (from end : ℕ) (run : Run) (out : AreOut old from end mid) (popped : IsPermutation mid (run ∷ new)) (few : run.number ≤ end) where
  rest : AreFrom end mid
  rest = out.rest

  all_free : All IsFree (run ∷ new)
  all_free = All-permutation IsFree mid (run ∷ new) popped rest.free

  abbrev IsLater : Run → Type 0
  IsLater other = end ≤ other.from

  all_later : All IsLater (run ∷ new)
  all_later = All-permutation IsLater mid (run ∷ new) popped rest.later

  begins : run.from ≡ end
  begins =
      let free = All-head IsFree run new all_free in
      let is = free.begins in
      let low = All-head IsLater run new all_later in
      omega arith

  some_out : run.from < run.to
  some_out = (All-head IsFree run new all_free).some

  count_out : (c : ℕ) → count_at new c + over run.from run.to c ≡ count_at mid c
  count_out c = sum_by_popped (one_over c) run mid new popped

  later : All (λ (other : Run). run.to ≤ other.from) new
  later k d inside =
      let other = get_or new k d in
      let free = All-tail IsFree run new all_free k d inside in
      let low = All-tail IsLater run new all_later k d inside in
      let some = free.some in
      let is = begins in
      elim (cases_Bool (nat_lt other.from run.to)) [
        | inl t ↦ absurd (let l = ltb-true other.from run.to t in
            let mine = over_in run.from run.to other.from (omega arith) l in
            let its = counted new k d other.from inside (over_in other.from other.to other.from (omega arith) some) in
            let sum_ = count_out other.from in
            let once = rest.once other.from in
            omega arith)
        | inr f ↦ ltb-false other.from run.to f
      ]

  pub out_next : AreOut old from run.to new
  out_next = record {
    order = omega (arith, out.order, begins, some_out);
    less = λ c.
        let a = out.less c in
        let b = count_out c in
        let e : over run.from run.to c ≡ over end run.to c = ap (λ n. over n run.to c) begins in
        let j = over_join from end run.to c out.order (omega (arith, begins, some_out)) in
        omega arith;
    rest = record {
      once = λ c. omega (arith, count_out c, rest.once c);
      free = All-tail IsFree run new all_free;
      later = later;
    };
  }

-- it stops before a run that begins behind
pub stops : (from end to : ℕ) (old free : List Run) → AreOut old from end free → All (λ (run : Run). end < run.number) free → IsStop end to free
stops from end to old free out h = inr (λ k d inside. let f = (out.rest).free k d inside in let begins = f.begins in let number = h k d inside in omega arith)

pub rest_freed : (old new : List Run) (from to : ℕ) → from < to → IsPermutation (record { number = from; from = from; to = to } ∷ old) new → AreFreed old from to new
rest_freed old new from to some more =
    let run : Run = record { number = from; from = from; to = to } in
    record {
      more = λ c. sum_by_pushed (one_over c) run old new more;
      free = λ all. All-permutation IsFree (run ∷ old) new more (All-cons IsFree run old (record { some = some; begins = refl }) all);
    }

pub none_freed : (old : List Run) (from to : ℕ) → to ≤ from → AreFreed old from to old
none_freed old from to none = record { more = λ c. let o = over_none from to c none in omega arith; free = λ all. all }

-- ---- columns that are taken

pub from_first : (floors : Floors) (from : ℕ) → AreApart floors → IsFirst floors from → AreFrom from floors.free
from_first floors from apart first = record {
  once = λ c. omega (arith, apart.once c, over_few 0 floors.width c);
  free = apart.free;
  later = λ k d inside.
      let run = get_or floors.free k d in
      elim (cases_Bool (nat_lt run.from from)) [
        | inl t ↦ absurd (let passed = first.passed run.from (ltb-true run.from from t) in
            let free = apart.free k d inside in
            let its = counted floors.free k d run.from inside (over_in run.from run.to run.from (omega arith) free.some) in
            let once = apart.once run.from in
            let few = over_few 0 floors.width run.from in
            omega arith)
        | inr f ↦ ltb-false run.from from f
      ];
}

module _ (old : Floors) (from end to : ℕ) (mid : List Run) (apart : AreApart old) (first : IsFirst old from) (out : AreOut old.free from end mid) (stop : IsStop end to mid) where
  -- the end of the free runs is no farther than all columns
  end_within : end ≤ old.width
  end_within =
      elim (cases_Bool (nat_lt from end)) [
        | inl t ↦ (let l = ltb-true from end t in
            let o = over_in from end (end - 1) (omega arith) (omega arith) in
            let less = out.less (end - 1) in
            let once = apart.once (end - 1) in
            let within = over_some 0 old.width (end - 1) (omega arith) in
            omega (arith, within.1))
        | inr f ↦ (let l = ltb-false from end f in let high = first.high in let order = out.order in omega arith)
      ]

  pub taken_before : end < to → end < old.width → HasTaken old.taken from to
  taken_before short within = (end, out.order, short, by stop)
    where
      by : IsStop end to mid → count_at old.taken end ≡ 1
      by (inl far) = absurd (omega arith)
      by (inr behind) =
          let none = none_before mid end behind in
          let less = out.less end in
          let o = over_out from end end (inr (omega arith)) in
          let once = apart.once end in
          let w = over_in 0 old.width end (omega arith) within in
          omega arith

  module _ (floor : ℕ) (new : Floors) (some : from < to) (far : (to ≤ end) ⊎ (old.width ≤ end)) (width : new.width ≡ max old.width to) (free : AreFreed mid to end new.free)
      (taken : IsPermutation (record { number = floor; from = from; to = to } ∷ old.taken) new.taken) where
    abbrev run : Run
    run = record { number = floor; from = from; to = to }

    -- the columns that are taken, and the rest of the free runs, are those runs and what lies behind all columns
    abbrev Same : ℕ → Type 0
    Same c = (over from to c + over to end c) + over 0 old.width c ≡ over from end c + over 0 new.width c

    over_far : (c : ℕ) → to ≤ end → Same c
    over_far c l =
        let j = over_join from to end c (omega arith) l in
        let within = end_within in
        let w : new.width ≡ old.width = omega arith in
        let e : over 0 new.width c ≡ over 0 old.width c = ap (λ n. over 0 n c) w in
        omega arith

    over_short : (c : ℕ) → old.width ≤ end → end < to → Same c
    over_short c l less =
        let within = end_within in
        let order = out.order in
        let none = over_none to end c (omega arith) in
        let is : end ≡ old.width = omega arith in
        let w : new.width ≡ to = omega arith in
        let j = over_join from end to c order (omega arith) in
        let k = over_join 0 end to c (omega arith) (omega arith) in
        let e : over 0 new.width c ≡ over 0 to c = ap (λ n. over 0 n c) w in
        let o : over 0 end c ≡ over 0 old.width c = ap (λ n. over 0 n c) is in
        omega arith

    over_all : (c : ℕ) → Same c
    over_all c = by far
      where
        by : (to ≤ end) ⊎ (old.width ≤ end) → Same c
        by (inl l) = over_far c l
        by (inr l) =
            elim (cases_Bool (nat_lt end to)) [
              | inl t ↦ over_short c l (ltb-true end to t)
              | inr f ↦ over_far c (ltb-false end to f)
            ]

    pub taken_apart : AreApart new
    taken_apart = record {
      once = λ c.
          let a = free.more c in
          let b = sum_by_pushed (one_over c) run old.taken new.taken taken in
          let less = out.less c in
          let once = apart.once c in
          let all = over_all c in
          omega arith;
      taken = All-permutation IsSome (run ∷ old.taken) new.taken taken (All-cons IsSome run old.taken some apart.taken);
      free = free.free (out.rest).free;
    }

    was_free : (c : ℕ) → from ≤ c → c < to → count_at old.taken c ≡ 0
    was_free c low high =
        let once = apart.once c in
        let less = out.less c in
        elim (cases_Bool (nat_lt c end)) [
          | inl t ↦ (let o = over_in from end c low (ltb-true c end t) in let few = over_few 0 old.width c in omega arith)
          | inr f ↦ by (ltb-false c end f) far
        ]
      where
        by : end ≤ c → (to ≤ end) ⊎ (old.width ≤ end) → count_at old.taken c ≡ 0
        by past (inl l) = absurd (omega arith)
        by past (inr l) = let o = over_out 0 old.width c (inr (omega arith)) in let once = apart.once c in omega arith

    pub are_taken : AreTaken old from to floor new
    are_taken = record {
      free = was_free;
      inside = λ c low high.
          let a = sum_by_pushed (one_floor c) run old.taken new.taken taken in
          let none = floor_none old.taken c (was_free c low high) in
          let o = over_in from to c low high in
          let here = a_floor (nat_le from c && nat_lt c to) floor (omega arith) in
          omega arith;
      outside = λ c apart_.
          let a = sum_by_pushed (one_floor c) run old.taken new.taken taken in
          let here = no_floor (nat_le from c && nat_lt c to) floor (over_out from to c apart_) in
          omega arith;
      width = width;
    }
