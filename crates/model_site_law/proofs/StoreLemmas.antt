-- Stores that are filled, and values that are in them.
use Rattle.std.proofs.Common.{◌≡◌, ℕ, zero, suc, Bool, true, false, ◌||◌, List, [], ◌∷◌, ◌++◌, take, drop, Contains, if◌then◌else◌, refl, sym, ap, ◌∙◌, subst, inl, inr, append_assoc, append-nil, arith}
use Rattle.std.proofs.lemmas.List.Elements.{Contains-append_left, Contains-append_right, Contains-append_cases}
use Rattle.std.proofs.lemmas.List.{take-append-drop}
use Rattle.ve_base.specs.declared.value.Value.{Value}
use Rattle.model_items.specs.declared.plain_item.PlainItem.{PlainItem}
use Rattle.model_items.specs.Same.{value_same}
use Rattle.model_items.proofs.SameLemmas.{Means-value_same}
use Rattle.model_change.specs.Store.{holds, fill, cited_by, cited}
use Rattle.model_change.proofs.StoreLemmas.{fill_appends}
use Rattle.model_site_law.specs.Sound.{AllIn}

contains_none : (v : Value) → ¬ Contains [] v
contains_none v within = absurd (let below = within.1 in omega arith)

contains_one : (v w : Value) → Contains (v ∷ []) w → v ≡ w
contains_one v w (zero, below, here) = here
contains_one v w (suc k, below, here) = absurd (let none : ⊥ = omega arith in none)

pub none_in : (S : List Value) → AllIn S []
none_in S v within = absurd (contains_none v within)

pub in_append : (S xs ys : List Value) → AllIn S xs → AllIn S ys → AllIn S (xs ++ ys)
in_append S xs ys p q v within = elim (Contains-append_cases xs ys v within) [ inl first ↦ p v first | inr second ↦ q v second ]

pub in_parts : (S xs ys : List Value) → AllIn S (xs ++ ys) → AllIn S xs × AllIn S ys
in_parts S xs ys p = (λ v within. p v (Contains-append_left xs ys v within), λ v within. p v (Contains-append_right xs ys v within))

-- a store that goes on
pub record Grown (S T : List Value) : Type 0 where
  pub more : List Value
  pub same : T ≡ S ++ more

pub grown_itself : (S : List Value) → Grown S S
grown_itself S = record { more = []; same = sym (append-nil S) }

pub grown_twice : (S T U : List Value) → Grown S T → Grown T U → Grown S U
grown_twice S T U g h = record { more = g.more ++ h.more; same = h.same ∙ ap (λ r. r ++ h.more) g.same ∙ append_assoc S g.more h.more }

-- it has as much
pub in_grown : (S T vs : List Value) → Grown S T → AllIn S vs → AllIn T vs
in_grown S T vs g p v within = subst (λ r. Contains r v) (sym g.same) (Contains-append_left S g.more v (p v within))

pub fill_grows : (S vs : List Value) → Grown S (fill S vs)
fill_grows S vs = let f = fill_appends S vs in record { more = f.appended; same = f.parts }

pub fill_has : (S vs : List Value) → AllIn (fill S vs) vs
fill_has S vs = (fill_appends S vs).all

holds_from : (S : List Value) (v : Value) → Contains S v → holds S v ≡ true
holds_from [] v within = absurd (contains_none v within)
holds_from (w ∷ S) v within = by_test (λ second. holds_from S v second) (value_same v w) refl
  where
    by_test : (Contains S v → holds S v ≡ true) → (b : Bool) → value_same v w ≡ b → (b || holds S v) ≡ true
    by_test rest true e = refl
    by_test rest false e = elim (Contains-append_cases (w ∷ []) S v within) [
      | inl first ↦ let same : value_same v w ≡ true = subst (λ x. value_same v x ≡ true) (sym (contains_one w v first)) (Means-value_same.itself v) in cc
      | inr second ↦ rest second
    ]

-- nothing is added where all is there
pub fill_full : (S vs : List Value) → AllIn S vs → fill S vs ≡ S
fill_full S [] p = refl
fill_full S (v ∷ vs) p =
    let parts = in_parts S (v ∷ []) vs p in
    let there = holds_from S v (parts.0 v (0, omega arith, refl)) in
    ap (λ b. fill (if b then S else S ++ v ∷ []) vs) there ∙ fill_full S vs parts.1

pub cited-append : (xs ys : List PlainItem) → cited (xs ++ ys) ≡ cited xs ++ cited ys
cited-append [] ys = refl
cited-append (x ∷ xs) ys = ap (λ r. cited_by x ++ r) (cited-append xs ys) ∙ sym (append_assoc (cited_by x) (cited xs) (cited ys))

pub in_cited : (S : List Value) (xs ys : List PlainItem) → AllIn S (cited xs) → AllIn S (cited ys) → AllIn S (cited (xs ++ ys))
in_cited S xs ys p q = subst (AllIn S) (sym (cited-append xs ys)) (in_append S (cited xs) (cited ys) p q)

pub in_cited_parts : (S : List Value) (xs ys : List PlainItem) → AllIn S (cited (xs ++ ys)) → AllIn S (cited xs) × AllIn S (cited ys)
in_cited_parts S xs ys p = in_parts S (cited xs) (cited ys) (subst (AllIn S) (cited-append xs ys) p)

pub in_take_drop : (S : List Value) (n : ℕ) (xs : List PlainItem) → AllIn S (cited xs) → AllIn S (cited (take n xs)) × AllIn S (cited (drop n xs))
in_take_drop S n xs p = in_cited_parts S (take n xs) (drop n xs) (subst (λ r. AllIn S (cited r)) (sym (take-append-drop n xs)) p)
