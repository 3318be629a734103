-- How often a number stands in a list: distinct numbers stand there once at most.
use Rattle.std.proofs.Common.{◌≡◌, ◌≢◌, ℕ, ◌+◌, ◌≤◌, Bool, true, false, if◌then◌else◌, List, [], ◌∷◌, ◌++◌, refl, ap, ◌∙◌, eqb, arith}
use Rattle.std.proofs.lemmas.Bool.{eq-eqb, eqb-true}
use Rattle.ve_tree.specs.Links.{Apart, AllApart}

pub one : ℕ → ℕ → ℕ
one q n = if eqb q n then 1 else 0

abbrev pub times : ℕ → List ℕ → ℕ
times q [] = 0
times q (n ∷ ns) = one q n + times q ns

pub one-same : (q : ℕ) → one q q ≡ 1
unfolding one
one-same q = ap (λ b. if b then 1 else 0) (eq-eqb q q refl)

one-other : (q n : ℕ) → q ≢ n → one q n ≡ 0
unfolding one
one-other q n h = go (eqb q n) refl
  where
    go : (b : Bool) → eqb q n ≡ b → ◌≡◌ {A = ℕ} (if b then 1 else 0) 0
    go true e = absurd (h (eqb-true q n e))
    go false e = refl

pub times-append : (q : ℕ) (ms ns : List ℕ) → times q (ms ++ ns) ≡ times q ms + times q ns
times-append q [] ns = omega arith
times-append q (m ∷ ms) ns = let h = times-append q ms ns in omega (arith, h)

pub apart_none : (q : ℕ) (ns : List ℕ) → Apart q ns → times q ns ≡ 0
apart_none q [] h = refl
apart_none q (n ∷ ns) h = let e = one-other q n h.0 in let r = apart_none q ns h.1 in omega (arith, e, r)

pub none_apart : (q : ℕ) (ns : List ℕ) → times q ns ≡ 0 → Apart q ns
none_apart q [] h = tt
none_apart q (n ∷ ns) h =
    let zero_ : one q n ≡ 0 = omega (arith, h) in (
      (λ e. let some = one-same q in let other = ap (one q) e in absurd (omega (arith, zero_, some, other))),
      none_apart q ns (omega (arith, h)),
    )

pub apart_once : (q : ℕ) (ns : List ℕ) → AllApart ns → times q ns ≤ 1
unfolding one
apart_once q [] h = omega arith
apart_once q (n ∷ ns) h = go (eqb q n) refl (apart_once q ns h.1)
  where
    go : (b : Bool) → eqb q n ≡ b → times q ns ≤ 1 → times q (n ∷ ns) ≤ 1
    go true e r =
        let rest = apart_none n ns h.0 in
        let k : times q ns ≡ 0 = ap (λ m. times m ns) (eqb-true q n e) ∙ rest in
        let some : ◌≡◌ {A = ℕ} (if eqb q n then 1 else 0) 1 = ap (λ (b : Bool). if b then 1 else 0) e in
        omega (arith, k, some)
    go false e r =
        let none : ◌≡◌ {A = ℕ} (if eqb q n then 1 else 0) 0 = ap (λ (b : Bool). if b then 1 else 0) e in
        omega (arith, r, none)

pub once_apart : (ns : List ℕ) → ((q : ℕ) → times q ns ≤ 1) → AllApart ns
once_apart [] h = tt
once_apart (n ∷ ns) h =
    let some = one-same n in
    let all = h n in (
      none_apart n ns (omega (arith, some, all)),
      once_apart ns (λ q. let some_ = h q in omega (arith, some_)),
    )
