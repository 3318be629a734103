-- A stack kept at the start of a list.
use Rattle.std.proofs.Common.{◌≡◌, ◌≢◌, ℕ, zero, suc, ◌+◌, ◌-◌, ◌<◌, ◌≤◌, Bool, nat_eq, nat_lt, List, ◌∷◌, length, set, get_or, slice_get, Some, ◌∙◌, refl, sym, ap, arith, add-one, get_or-set_same, get_or-set_other, ne_eqb, lt-ltb, true, ◌||◌, Ok}
use Rattle.ve_kinds.specs.declared.kind.Kind.{Kind}
use Rattle.ve_kinds.specs.declared.kind.Kind.TheVariants.{Root}
use Rattle.ve_kinds.specs.declared.kind.Kind.TheVariants.{InternalList}
use Rattle.ve_kinds.specs.Table.{kind_same}
use Rattle.model_items.specs.Law.{top, is_empty, may_open, state_opened, state_closed}
use Rattle.model_items.proofs.SameLemmas.{Means-kind_same}
use Rattle.ve_lawful.specs.Stack.{stack_of}

pub length_stack_of : (kinds : List Kind) (n : ℕ) → length (stack_of kinds n) ≡ n
length_stack_of kinds zero = refl
length_stack_of kinds (suc n) = ap suc (length_stack_of kinds n)

pub is_empty_stack_of : (kinds : List Kind) (n : ℕ) → is_empty (stack_of kinds n) ≡ nat_eq n 0
is_empty_stack_of kinds zero = refl
is_empty_stack_of kinds (suc n) = sym (ne_eqb (suc n) 0 (λ e. omega arith))

pub top_stack_of : (kinds : List Kind) (n : ℕ) → n ≢ 0 → top (stack_of kinds n) ≡ get_or kinds (n - 1) Root
top_stack_of kinds zero h = absurd (h refl)
top_stack_of kinds (suc n) h = ap (λ k. get_or kinds k Root) (omega arith)

pub stack_of_pop : (kinds : List Kind) (n : ℕ) → n ≢ 0 → stack_of kinds n ≡ get_or kinds (n - 1) Root ∷ stack_of kinds (n - 1)
stack_of_pop kinds zero h = absurd (h refl)
stack_of_pop kinds (suc n) h = let e : n ≡ suc n - 1 = omega arith in ap (λ k. get_or kinds k Root ∷ stack_of kinds k) e

pub stack_of_set : (kinds : List Kind) (n i : ℕ) (k : Kind) → n ≤ i → stack_of (set kinds i k) n ≡ stack_of kinds n
stack_of_set kinds zero i k h = refl
stack_of_set kinds (suc n) i k h =
    let other : n ≢ i = omega arith in
    let e = get_or-set_other kinds i n k Root other in
    let rest = stack_of_set kinds n i k (omega arith) in
    λ j. e j ∷ rest j

pub stack_of_push : (kinds : List Kind) (n : ℕ) (k : Kind) → n < length kinds → stack_of (set kinds n k) (n + 1) ≡ k ∷ stack_of kinds n
stack_of_push kinds n k h =
    let e = get_or-set_same kinds n k Root h in
    let rest = stack_of_set kinds n n k (omega arith) in
    rw add-one (λ j. e j ∷ rest j)

-- an opening that is allowed goes on top
pub opened_stack_of : (kinds : List Kind) (n : ℕ) (seen new : Bool) (kind : Kind) →
    may_open (record { stack = stack_of kinds n; seen = seen }) kind ≡ true → n < 100 → n < length kinds → new ≡ (seen || kind_same kind InternalList) →
    state_opened (record { stack = stack_of kinds n; seen = seen }) kind ≡ Ok (record { stack = stack_of (set kinds n kind) (n + 1); seen = new })
opened_stack_of kinds n seen new kind allowed few room e =
    let long = length_stack_of kinds n in
    let below : nat_lt (length (stack_of kinds n)) 100 ≡ true = lt-ltb (length (stack_of kinds n)) 100 (omega arith) in
    let pushed = stack_of_push kinds n kind room in
    rw (allowed, below) (λ i. Ok (record { stack = sym pushed i; seen = sym e i }))

-- the closing of the top takes it away
pub closed_stack_of : (kinds : List Kind) (n : ℕ) (seen : Bool) (kind : Kind) → 0 < n → top (stack_of kinds n) ≡ kind →
    state_closed (stack_of kinds n) seen kind ≡ Ok (record { stack = stack_of kinds (n - 1); seen = seen })
closed_stack_of kinds zero seen kind some same = absurd (omega arith)
closed_stack_of kinds (suc n) seen kind some same =
    let e : n ≡ suc n - 1 = omega arith in
    rw (same, Means-kind_same.itself kind) (λ i. Ok (record { stack = stack_of kinds (e i); seen = seen }))

-- so many levels up
pub stack_at : (kinds : List Kind) (len n : ℕ) → n < len → slice_get (stack_of kinds len) n ≡ Some (get_or kinds (len - 1 - n) Root)
stack_at kinds zero n h = absurd (let none : ⊥ = omega arith in none)
stack_at kinds (suc len) zero h = ap (λ k. Some (get_or kinds k Root)) (let e : len ≡ suc len - 1 - 0 = omega arith in e)
stack_at kinds (suc len) (suc n) h = stack_at kinds len n (omega arith) ∙ ap (λ k. Some (get_or kinds k Root)) (let e : len - 1 - n ≡ suc len - 1 - suc n = omega arith in e)
