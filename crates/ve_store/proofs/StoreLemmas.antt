-- Values found by the test of equality.
use Rattle.std.proofs.Common.{◌≡◌, take, length-take-le, ◌↔◌, ◌≤◌, not, ◌<◌, ◌++◌, IfSome, IsSome, cond, ℕ, zero, suc, Bool, true, false, ◌||◌, ◌+◌, append_assoc, List, [], ◌∷◌, length, get_or, slice_get, Contains, Option, Some, None, is_some, position, if◌then◌else◌, nat_lt, refl, sym, ap, subst, ◌∙◌, true≢false, arith}
use Rattle.std.specs.List.{position_or_len, IsDistinct, AllByRecursion}
use Rattle.std.proofs.lemmas.Bool.{ltb-true, false_from_ne_true}
use Rattle.std.proofs.lemmas.List.{take_more, get_or-take}
use Rattle.std.proofs.lemmas.List.Folds.{list_any-append}
use Rattle.std.proofs.lemmas.List.Sums.{passes_at_first, prefix_len-le-length}
use Rattle.std.proofs.lemmas.Option.{slice_get-get_or, get_or_from_slice_get}
use Rattle.std.proofs.lemmas.Map.Views.{list_any-from_Contains}
use Rattle.std.proofs.lemmas.Map.Keys.{IsDistinct-head, IsDistinct-tail}
use Rattle.indexmap.proofs.CallerLemmas.{Contains-list_any}
use Rattle.ve_base.specs.declared.value.Value.{Value}
use Rattle.model_change.specs.Store.{holds, admitted}
use Rattle.model_items.specs.Plain.{AreDistinct}
use Rattle.model_items.specs.Same.{value_same}
use Rattle.model_items.proofs.SameLemmas.{Means-value_same}
use Rattle.ve_store.specs.Laws.{value_same-equivalence}

-- what is found is the value itself
pub first_is : (values : List Value) (v : Value) → position_or_len (value_same v) values < length values → slice_get values (position_or_len (value_same v) values) ≡ Some v
first_is values v within =
    let at = position_or_len (value_same v) values in
    slice_get-get_or values at v within ∙ ap Some (sym (Means-value_same.equal v (get_or values at v) (passes_at_first (value_same v) values v within)))

pub Contains-holds : (values : List Value) (v : Value) → holds values v ≡ true → Contains values v
Contains-holds values v h = Contains-list_any value_same Means-value_same.equal values v h

pub holds-Contains : (values : List Value) (v : Value) → Contains values v → holds values v ≡ true
holds-Contains values v h = list_any-from_Contains value_same-equivalence v values h

none_holds : (v : Value) (ys : List Value) → AllByRecursion (λ y. value_same v y ≡ false) ys → holds ys v ≡ false
none_holds v [] a = refl
none_holds v (y ∷ ys) a = rw a.0 (none_holds v ys a.1)

or_later : (first later : Bool) → later ≡ true → (first || later) ≡ true
or_later true later h = refl
or_later false later h = h

there_holds : (values : List Value) (at : ℕ) (v : Value) → slice_get values at ≡ Some v → holds values v ≡ true
there_holds [] at v h = cc
there_holds (x ∷ xs) zero v h =
    let same : x ≡ v = cc in
    let P : Value → Type 0 = λ y. value_same v y ≡ true in
    ap (λ b. b || holds xs v) (subst P (sym same) (Means-value_same.itself v))
there_holds (x ∷ xs) (suc at) v h = or_later (value_same v x) (holds xs v) (there_holds xs at v h)

not_after : (x : Value) (xs : List Value) → IsDistinct value_same (x ∷ xs) → (at : ℕ) (v : Value) → ◌≡◌ {A = Option Value} (Some x) (Some v) → slice_get xs at ≡ Some v → ⊥
not_after x xs d at v first later =
    let same : x ≡ v = cc in
    let P : Value → Type 0 = λ y. holds xs y ≡ false in
    true≢false (sym (there_holds xs at v later) ∙ subst P same (none_holds x xs (IsDistinct-head value_same x xs d)))

pub are_distinct : (values : List Value) → IsDistinct value_same values → AreDistinct values
are_distinct [] d i j v p q = cc
are_distinct (x ∷ xs) d zero zero v p q = refl
are_distinct (x ∷ xs) d zero (suc j) v p q = absurd (not_after x xs d j v p q)
are_distinct (x ∷ xs) d (suc i) zero v p q = absurd (not_after x xs d i v q p)
are_distinct (x ∷ xs) d (suc i) (suc j) v p q = ap suc (are_distinct xs (IsDistinct-tail value_same x xs d) i j v p q)

-- as a look-up answers
pub found_at : (values : List Value) (v : Value) (r : Option ℕ) → r ≡ position (value_same v) values → IfSome r (λ place. slice_get values place ≡ Some v)
found_at values v r e =
    let P : Option ℕ → Type 0 = λ o. IfSome o (λ place. slice_get values place ≡ Some v) in
    subst P (sym e) (go (nat_lt (position_or_len (value_same v) values) (length values)) refl) where
      go : (b : Bool) → nat_lt (position_or_len (value_same v) values) (length values) ≡ b
          → IfSome (cond b (Some (position_or_len (value_same v) values)) None) (λ place. slice_get values place ≡ Some v)
      go true below = first_is values v (ltb-true _ _ below)
      go false past = tt

pub found_some : (values : List Value) (v : Value) (r : Option ℕ) → is_some r ≡ holds values v → IsSome r ↔ Contains values v
found_some values v (Some place) e = (λ _. Contains-holds values v (sym e), λ _. refl)
found_some values v None e = (λ none. absurd (true≢false (sym none)), λ there. absurd (true≢false (sym (holds-Contains values v there) ∙ sym e)))

-- a value that is there adds nothing
pub admitted_there : (values : List Value) (v : Value) → Contains values v → values ≡ admitted values v
admitted_there values v h = sym (ap (λ b. if b then values else values ++ v ∷ []) (holds-Contains values v h))

-- values that follow a store
pub holds-append : (values more : List Value) (v : Value) → holds (values ++ more) v ≡ (holds values v || holds more v)
holds-append values more v = list_any-append (value_same v) values more

pub admitted_before : (values more : List Value) (v : Value) → Contains values v → values ++ more ≡ admitted (values ++ more) v
admitted_before values more v h =
    sym (ap (λ b. if b then values ++ more else values ++ more ++ v ∷ []) (holds-append values more v ∙ ap (λ b. b || holds more v) (holds-Contains values v h)))

pub admitted_after : (values more : List Value) (v : Value) → ¬ Contains values v → values ++ admitted more v ≡ admitted (values ++ more) v
admitted_after values more v new =
    let absent : holds values v ≡ false = false_from_ne_true (holds values v) (λ there. new (Contains-holds values v there)) in
    let same : holds (values ++ more) v ≡ holds more v = holds-append values more v ∙ ap (λ b. b || holds more v) absent in
    go (holds more v) ∙ sym (ap (λ b. if b then values ++ more else values ++ more ++ v ∷ []) same) where
      go : (b : Bool) → values ++ (if b then more else more ++ v ∷ []) ≡ (if b then values ++ more else values ++ more ++ v ∷ [])
      go true = refl
      go false = sym (append_assoc values more (v ∷ []))

pub get_before : {X : Type 0} (xs ys : List X) (at : ℕ) (x : X) → slice_get xs at ≡ Some x → slice_get (xs ++ ys) at ≡ Some x
get_before [] ys at x h = cc
get_before (y ∷ xs) ys zero x h = h
get_before (y ∷ xs) ys (suc at) x h = get_before xs ys at x h

pub get_after : {X : Type 0} (xs ys : List X) (at many : ℕ) (x : X) → many ≡ length xs → slice_get ys at ≡ Some x → slice_get (xs ++ ys) (many + at) ≡ Some x
get_after [] ys at many x e h = ap (λ n. slice_get ys n) (let f : many + at ≡ at = omega (arith, e) in f) ∙ h
get_after (y ∷ xs) ys at zero x e h = absurd (let none : ⊥ = omega (arith, e) in none)
get_after (y ∷ xs) ys at (suc many) x e h =
    ap (λ n. slice_get (y ∷ (xs ++ ys)) n) (let f : suc many + at ≡ suc (many + at) = omega arith in f) ∙ get_after xs ys at many x (omega (arith, e)) h

-- a position in the list, or at its end
pub place_within : (values : List Value) (v : Value) → position_or_len (value_same v) values ≤ length values
place_within values v = prefix_len-le-length (λ x. not (value_same v x)) values

-- a store that is filled with the values of another, one after the other
pub admitted_next : (values : List Value) (n : ℕ) (v : Value) → AreDistinct values → n < length values → slice_get values n ≡ Some v → admitted (take n values) v ≡ take (n + 1) values
admitted_next values n v distinct within at =
    let twice : Contains (take n values) v → ⊥ = λ there. again there.0 there.1 there.2 in
    let absent : holds (take n values) v ≡ false = false_from_ne_true (holds (take n values) v) (λ there. twice (Contains-holds (take n values) v there)) in
    ap (λ b. if b then take n values else take n values ++ v ∷ []) absent
    ∙ sym (take_more values n v within ∙ ap (λ x. take n values ++ x ∷ []) (get_or_from_slice_get values n v v at)) where
      again : (i : ℕ) → i < length (take n values) → get_or (take n values) i v ≡ v → ⊥
      again i below here =
          let before : i < n = omega (arith, length-take-le n values (omega arith)) in
          let same : i ≡ n = distinct i n v (slice_get-get_or values i v (omega arith) ∙ ap Some (sym (get_or-take n values i v before) ∙ here)) at in
          let none : ⊥ = omega arith in
          none

-- the first position in two lists, where the value is in the one before, and where it isn't
pub first_before : (values more : List Value) (v : Value) → holds values v ≡ true → position_or_len (value_same v) values ≡ position_or_len (value_same v) (values ++ more)
first_before [] more v h = absurd (true≢false (sym h))
first_before (x ∷ xs) more v h = go (value_same v x) (λ later. first_before xs more v later) h where
  go : (b : Bool) → (holds xs v ≡ true → position_or_len (value_same v) xs ≡ position_or_len (value_same v) (xs ++ more)) → (b || holds xs v) ≡ true →
      cond (not b) (1 + position_or_len (value_same v) xs) 0 ≡ cond (not b) (1 + position_or_len (value_same v) (xs ++ more)) 0
  go true next there = refl
  go false next there = ap (λ n. 1 + n) (next there)

pub first_after : (values more : List Value) (v : Value) → holds values v ≡ false → length values + position_or_len (value_same v) more ≡ position_or_len (value_same v) (values ++ more)
first_after [] more v h = omega arith
first_after (x ∷ xs) more v h = go (value_same v x) (λ later. first_after xs more v later) h where
  go : (b : Bool) → (holds xs v ≡ false → length xs + position_or_len (value_same v) more ≡ position_or_len (value_same v) (xs ++ more)) → (b || holds xs v) ≡ false →
      suc (length xs) + position_or_len (value_same v) more ≡ cond (not b) (1 + position_or_len (value_same v) (xs ++ more)) 0
  go true next there = absurd (true≢false there)
  go false next there = let e = next there in omega (arith, e)

pub absent : (values : List Value) (v : Value) → ¬ Contains values v → holds values v ≡ false
absent values v new = false_from_ne_true (holds values v) (λ there. new (Contains-holds values v there))
