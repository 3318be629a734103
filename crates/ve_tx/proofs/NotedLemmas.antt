-- Names that are noted in the order of their bytes.
use Rattle.std.proofs.Common.{◌≡◌, ℕ, zero, suc, Bool, true, false, ◌||◌, not, List, [], ◌∷◌, Contains, ◌⊎◌, ◌↔◌, refl, sym, ap, ◌∙◌, subst, arith, inl, inr, Bor}
use Rattle.std.specs.List.{list_any, All}
use Rattle.std.specs.Str.{chars, encode_utf8_all}
use Rattle.std.specs.BTreeMap.{is_at}
use Rattle.std.specs.BTreeSet.{insert_key}
use Rattle.std.specs.Cmp.Lexicographic.{slice_cmp}
use Rattle.std.specs.Ordering.{nat_cmp, is_eq, match_ordering}
use Rattle.std.specs.declared.cmp.Ordering.{Ordering}
use Rattle.std.specs.declared.cmp.Ordering.TheVariants.{Less, Equal, Greater}
use Rattle.std.proofs.lemmas.Cmp.{nat_list_cmp_total, tied_itself}
use Rattle.std.proofs.lemmas.Map.Lookups.{exact_bytes}
use Rattle.ve_tx.specs.Noted.{IsEncoded, texts_of, HaveSameNames}

abbrev pub order : Bor (List ℕ) → Bor (List ℕ) → Ordering
order one other = slice_cmp nat_cmp one.now other.now

-- ---- first, or later in a list

pub first_or_later : {X : Type 0} (x y : X) (xs : List X) → Contains (x ∷ xs) y → (x ≡ y) ⊎ Contains xs y
first_or_later x y xs (zero, within, is) = inl is
first_or_later x y xs (suc k, within, is) = inr (k, omega arith, is)

pub is_first : {X : Type 0} (x y : X) (xs : List X) → x ≡ y → Contains (x ∷ xs) y
is_first x y xs same = (0, omega arith, same)

pub is_later : {X : Type 0} (x y : X) (xs : List X) → Contains xs y → Contains (x ∷ xs) y
is_later x y xs (k, within, is) = (suc k, omega arith, is)

-- ---- the order tells whether two names are the same

pub equal_texts : (one other : Bor (List ℕ)) → order one other ≡ Equal → chars one.now ≡ chars other.now
equal_texts one other equal = ap chars (exact_bytes one.now other.now equal)

pub equal_names : (one other : Bor (List ℕ)) → IsEncoded one → IsEncoded other → chars one.now ≡ chars other.now → order one other ≡ Equal
equal_names one other encoded encoded' same =
    let bytes : one.now ≡ other.now = encoded ∙ ap encode_utf8_all same ∙ sym encoded' in
    subst (λ (l : List ℕ). slice_cmp nat_cmp one.now l ≡ Equal) bytes (tied_itself nat_list_cmp_total one.now)

found_by : (name x : Bor (List ℕ)) (xs : List (Bor (List ℕ))) (o : Ordering) → order name x ≡ o → (list_any (is_at (order name)) xs ≡ true → Contains (texts_of xs) (chars name.now)) →
    (is_eq o || list_any (is_at (order name)) xs) ≡ true → Contains (texts_of (x ∷ xs)) (chars name.now)
found_by name x xs Less e later h = is_later (chars x.now) (chars name.now) (texts_of xs) (later h)
found_by name x xs Equal e later h = is_first (chars x.now) (chars name.now) (texts_of xs) (sym (equal_texts name x e))
found_by name x xs Greater e later h = is_later (chars x.now) (chars name.now) (texts_of xs) (later h)

-- a name that is found was noted
pub found : (name : Bor (List ℕ)) (noted : List (Bor (List ℕ))) → list_any (is_at (order name)) noted ≡ true → Contains (texts_of noted) (chars name.now)
found name [] h = cc
found name (x ∷ xs) h = found_by name x xs (order name x) refl (found name xs) h

or_later : (b : Bool) {c : Bool} → c ≡ true → (b || c) ≡ true
or_later true e = refl
or_later false e = e

-- a name that was noted is found
pub noted_found : (name : Bor (List ℕ)) (noted : List (Bor (List ℕ))) → IsEncoded name → All IsEncoded noted → Contains (texts_of noted) (chars name.now) → list_any (is_at (order name)) noted ≡ true
noted_found name [] encoded all (k, within, is) = absurd (let none : ⊥ = omega arith in none)
noted_found name (x ∷ xs) encoded all h = elim (first_or_later (chars x.now) (chars name.now) (texts_of xs) h) [
  | inl first ↦ rw (equal_names name x encoded (all 0 x (omega arith)) (sym first)) refl
  | inr later ↦ or_later (is_eq (order name x)) (noted_found name xs encoded (λ k d lt. all (suc k) d (omega (arith, lt))) later)
]

-- ---- one more name

one_of : (name x : Bor (List ℕ)) (xs : List (Bor (List ℕ))) (other : List ℕ) (o : Ordering) → (Contains (texts_of (insert_key order xs name)) other → (chars name.now ≡ other) ⊎ Contains (texts_of xs) other) →
    Contains (texts_of (match_ordering o (name ∷ x ∷ xs) (x ∷ xs) (x ∷ insert_key order xs name))) other → (chars name.now ≡ other) ⊎ Contains (texts_of (x ∷ xs)) other
one_of name x xs other Less rest h = first_or_later (chars name.now) other (texts_of (x ∷ xs)) h
one_of name x xs other Equal rest h = inr h
one_of name x xs other Greater rest h = elim (first_or_later (chars x.now) other (texts_of (insert_key order xs name)) h) [
  | inl first ↦ inr (is_first (chars x.now) other (texts_of xs) first)
  | inr later ↦ elim (rest later) [
    | inl same ↦ inl same
    | inr before ↦ inr (is_later (chars x.now) other (texts_of xs) before)
  ]
]

one_more : (name : Bor (List ℕ)) (noted : List (Bor (List ℕ))) (other : List ℕ) → Contains (texts_of (insert_key order noted name)) other → (chars name.now ≡ other) ⊎ Contains (texts_of noted) other
one_more name [] other h = first_or_later (chars name.now) other [] h
one_more name (x ∷ xs) other h = one_of name x xs other (order name x) (one_more name xs other) h

still : (name x : Bor (List ℕ)) (xs : List (Bor (List ℕ))) (other : List ℕ) (o : Ordering) → order name x ≡ o → ((chars name.now ≡ other) ⊎ Contains (texts_of xs) other → Contains (texts_of (insert_key order xs name)) other) →
    (chars name.now ≡ other) ⊎ Contains (texts_of (x ∷ xs)) other → Contains (texts_of (match_ordering o (name ∷ x ∷ xs) (x ∷ xs) (x ∷ insert_key order xs name))) other
still name x xs other Less e rest (inl same) = is_first (chars name.now) other (texts_of (x ∷ xs)) same
still name x xs other Less e rest (inr before) = is_later (chars name.now) other (texts_of (x ∷ xs)) before
still name x xs other Equal e rest (inl same) = is_first (chars x.now) other (texts_of xs) (sym (equal_texts name x e) ∙ same)
still name x xs other Equal e rest (inr before) = before
still name x xs other Greater e rest (inl same) = is_later (chars x.now) other (texts_of (insert_key order xs name)) (rest (inl same))
still name x xs other Greater e rest (inr before) = elim (first_or_later (chars x.now) other (texts_of xs) before) [
  | inl first ↦ is_first (chars x.now) other (texts_of (insert_key order xs name)) first
  | inr later ↦ is_later (chars x.now) other (texts_of (insert_key order xs name)) (rest (inr later))
]

still_noted : (name : Bor (List ℕ)) (noted : List (Bor (List ℕ))) (other : List ℕ) → (chars name.now ≡ other) ⊎ Contains (texts_of noted) other → Contains (texts_of (insert_key order noted name)) other
still_noted name [] other (inl same) = is_first (chars name.now) other [] same
still_noted name [] other (inr (k, within, is)) = absurd (let none : ⊥ = omega arith in none)
still_noted name (x ∷ xs) other h = still name x xs other (order name x) refl (still_noted name xs other) h

-- ---- what is answered

pub is_new : {C : Type 0} (b new : Bool) → new ≡ not b → (b ≡ true → C) → (C → b ≡ true) → (new ≡ true) ↔ (¬ C)
is_new true new e found noted = (λ yes h. cc, λ no. absurd (no (found refl)))
is_new false new e found noted = (λ yes h. let before = noted h in cc, λ no. e)

-- the names that were noted, as others see them
pub as_texts : (noted : List (Bor (List ℕ))) (name : Bor (List ℕ)) (texts : List (List ℕ)) (text : List ℕ) → texts_of noted ≡ texts → chars name.now ≡ text → Contains (texts_of noted) (chars name.now) → Contains texts text
as_texts noted name texts text seen is h =
    subst (λ (l : List (List ℕ)). Contains l text) seen (subst (λ (t : List ℕ). Contains (texts_of noted) t) is h)

pub as_names : (noted : List (Bor (List ℕ))) (name : Bor (List ℕ)) (texts : List (List ℕ)) (text : List ℕ) → texts_of noted ≡ texts → chars name.now ≡ text → Contains texts text → Contains (texts_of noted) (chars name.now)
as_names noted name texts text seen is h =
    subst (λ (t : List ℕ). Contains (texts_of noted) t) (sym is) (subst (λ (l : List (List ℕ)). Contains l text) (sym seen) h)

pub more_noted : (noted more : List (Bor (List ℕ))) (name : Bor (List ℕ)) (texts : List (List ℕ)) (text : List ℕ) → texts_of noted ≡ texts → chars name.now ≡ text → more ≡ insert_key order noted name →
    (other : List ℕ) → Contains (texts_of more) other ↔ ((text ≡ other) ⊎ Contains texts other)
more_noted noted more name texts text seen is e other =
    subst (λ (l : List (Bor (List ℕ))). Contains (texts_of l) other ↔ ((text ≡ other) ⊎ Contains texts other)) (sym e)
    (subst (λ (t : List ℕ). Contains (texts_of (insert_key order noted name)) other ↔ ((t ≡ other) ⊎ Contains texts other)) is
    (subst (λ (l : List (List ℕ)). Contains (texts_of (insert_key order noted name)) other ↔ ((chars name.now ≡ other) ⊎ Contains l other)) seen
    (one_more name noted other, still_noted name noted other)))

-- the names that were noted, with one more before those of a list
pub one_more_first : (name : List ℕ) (noted more texts : List (List ℕ)) → HaveSameNames noted texts → ((other : List ℕ) → Contains more other ↔ ((name ≡ other) ⊎ Contains noted other)) → HaveSameNames more (name ∷ texts)
one_more_first name noted more texts same noting other = (
  λ h. elim ((noting other).0 h) [ inl is ↦ is_first name other texts is | inr before ↦ is_later name other texts ((same other).0 before) ],
  λ h. elim (first_or_later name other texts h) [ inl is ↦ (noting other).1 (inl is) | inr before ↦ (noting other).1 (inr ((same other).1 before)) ],
)
