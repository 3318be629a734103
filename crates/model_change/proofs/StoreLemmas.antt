-- Filling a list of values.
use Rattle.std.proofs.Common.{ap, ◌≡◌, ℕ, zero, suc, Bool, true, false, ◌||◌, List, [], ◌∷◌, ◌++◌, Contains, slice_get, Some, refl, sym, ◌∙◌, subst, inl, inr, append_assoc, append-nil, arith}
use Rattle.std.proofs.lemmas.Bool.{cases_Bool, or_parts}
use Rattle.std.proofs.lemmas.Option.{slice_get_within, get_or_from_slice_get, slice_get-get_or}
use Rattle.std.proofs.lemmas.List.Elements.{Contains-append_left, Contains-append_right, Contains-append_cases}
use Rattle.ve_base.specs.declared.value.Value.{Value}
use Rattle.model_items.specs.Same.{value_same}
use Rattle.model_items.proofs.SameLemmas.{Means-value_same}
use Rattle.model_change.specs.Store.{holds, admitted, fill, IsFilled, FillAppends}
use Rattle.model_items.specs.Plain.{AreDistinct}

contains_first : (v : Value) (vs : List Value) → Contains (v ∷ vs) v
contains_first v vs = (0, omega arith, refl)

pub contains_none : (v : Value) → ¬ Contains [] v
contains_none v within = absurd (let below = within.1 in omega arith)

contains_one : (v w : Value) → Contains (v ∷ []) w → v ≡ w
contains_one v w (zero, below, here) = here
contains_one v w (suc k, below, here) = absurd (let none : ⊥ = omega arith in none)

-- the test says whether the value is there

holds_contains : (vs : List Value) (v : Value) → holds vs v ≡ true → Contains vs v
holds_contains [] v h = cc
holds_contains (w ∷ vs) v h = by_test (holds_contains vs v) (value_same v w) refl h
  where
    by_test : (holds vs v ≡ true → Contains vs v) → (b : Bool) → value_same v w ≡ b → (b || holds vs v) ≡ true → Contains (w ∷ vs) v
    by_test rest true e h = subst (Contains (w ∷ vs)) (sym (Means-value_same.equal v w e)) (contains_first w vs)
    by_test rest false e h = Contains-append_right (w ∷ []) vs v (rest h)

not_held : (vs : List Value) (v : Value) → holds vs v ≡ false → ¬ Contains vs v
not_held [] v h within = contains_none v within
not_held (w ∷ vs) v h within =
    let p = or_parts (value_same v w) (holds vs v) h in
    elim (Contains-append_cases (w ∷ []) vs v within) [
      | inl first ↦ let e = contains_one w v first in let same : value_same v w ≡ true = subst (λ x. value_same v x ≡ true) (sym e) (Means-value_same.itself v) in cc
      | inr second ↦ not_held vs v p.1 second
    ]

-- no value stands among those after it: distinct, by recursion
abbrev NoneTwice : List Value → Type 0
NoneTwice [] = Unit {0}
NoneTwice (v ∷ vs) = (¬ Contains vs v) × NoneTwice vs

contains_at : (vs : List Value) (i : ℕ) (v : Value) → slice_get vs i ≡ Some v → Contains vs v
contains_at vs i v h = (i, slice_get_within vs i v h, get_or_from_slice_get vs i v v h)

at_place : (vs : List Value) (v : Value) → Contains vs v → (i : ℕ) × (slice_get vs i ≡ Some v)
at_place vs v within = (within.0, slice_get-get_or vs within.0 v within.1 ∙ ap Some within.2)

none_twice_from : (vs : List Value) → AreDistinct vs → NoneTwice vs
none_twice_from [] h = tt
none_twice_from (v ∷ vs) h = (
  λ within. let place = at_place vs v within in absurd (let e : 0 ≡ suc place.0 = h 0 (suc place.0) v refl place.1 in omega arith),
  none_twice_from vs (λ i j w p q. let e : suc i ≡ suc j = h (suc i) (suc j) w p q in omega arith),
)

distinct_from : (vs : List Value) → NoneTwice vs → AreDistinct vs
distinct_from [] h i j w p q = cc
distinct_from (v ∷ vs) h zero zero w p q = refl
distinct_from (v ∷ vs) h zero (suc j) w p q = let e : v ≡ w = cc in absurd (h.0 (contains_at vs j v (q ∙ ap Some (sym e))))
distinct_from (v ∷ vs) h (suc i) zero w p q = let e : v ≡ w = cc in absurd (h.0 (contains_at vs i v (p ∙ ap Some (sym e))))
distinct_from (v ∷ vs) h (suc i) (suc j) w p q = ap suc (distinct_from vs h.1 i j w p q)

none_twice-push : (vs : List Value) (v : Value) → NoneTwice vs → ¬ Contains vs v → NoneTwice (vs ++ v ∷ [])
none_twice-push [] v apart new = (contains_none v, tt)
none_twice-push (u ∷ us) v apart new = (
  λ within. elim (Contains-append_cases us (v ∷ []) u within) [ inl before ↦ apart.0 before | inr last ↦ new (subst (Contains (u ∷ us)) (sym (contains_one v u last)) (contains_first u us)) ],
  none_twice-push us v apart.1 (λ within. new (Contains-append_right (u ∷ []) us v within)),
)

held_before : (values : List Value) (v : Value) (vs filled : List Value) → Contains values v → IsFilled values vs filled → IsFilled values (v ∷ vs) filled
held_before values v vs filled there rest = record {
  appended = rest.appended;
  parts = rest.parts;
  new = λ w within. Contains-append_right (v ∷ []) vs w (rest.new w within);
  all = λ w within. elim (Contains-append_cases (v ∷ []) vs w within) [
    | inl first ↦ subst (Contains filled) (contains_one v w first) (let P : List Value → Type 0 = λ l. Contains l v in subst P (sym rest.parts) (Contains-append_left values rest.appended v there))
    | inr second ↦ rest.all w second
  ];
  distinct = rest.distinct;
}

new_to_it : (values : List Value) (v : Value) (vs filled : List Value) → ¬ Contains values v → IsFilled (values ++ v ∷ []) vs filled → IsFilled values (v ∷ vs) filled
new_to_it values v vs filled new rest =
    let parts : filled ≡ values ++ (v ∷ rest.appended) = rest.parts ∙ append_assoc values (v ∷ []) rest.appended in
    record {
      appended = v ∷ rest.appended;
      parts = parts;
      new = λ w within. elim (Contains-append_cases (v ∷ []) rest.appended w within) [
        | inl first ↦ subst (Contains (v ∷ vs)) (contains_one v w first) (contains_first v vs)
        | inr second ↦ Contains-append_right (v ∷ []) vs w (rest.new w second)
      ];
      all = λ w within. elim (Contains-append_cases (v ∷ []) vs w within) [
        | inl first ↦ subst (Contains filled) (contains_one v w first) (let P : List Value → Type 0 = λ l. Contains l v in subst P (sym parts) (Contains-append_right values (v ∷ rest.appended) v (contains_first v rest.appended)))
        | inr second ↦ rest.all w second
      ];
      distinct = λ h. rest.distinct (distinct_from (values ++ v ∷ []) (none_twice-push values v (none_twice_from values h) new));
    }

pub fill_appends : FillAppends
fill_appends values [] = record {
  appended = [];
  parts = sym (append-nil values);
  new = λ v within. absurd (contains_none v within);
  all = λ v within. absurd (contains_none v within);
  distinct = λ h. h;
}
fill_appends values (v ∷ vs) =
    elim (cases_Bool (holds values v)) [
      | inl there ↦ let same : admitted values v ≡ values = rw there in
          subst (λ vals. IsFilled values (v ∷ vs) (fill vals vs)) (sym same) (held_before values v vs (fill values vs) (holds_contains values v there) (fill_appends values vs))
      | inr new ↦ let same : admitted values v ≡ values ++ v ∷ [] = rw new in
          subst (λ vals. IsFilled values (v ∷ vs) (fill vals vs)) (sym same) (new_to_it values v vs (fill (values ++ v ∷ []) vs) (not_held values v new) (fill_appends (values ++ v ∷ []) vs))
    ]
