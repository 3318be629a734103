-- Distinct names.
use Rattle.std.proofs.Common.{◌≡◌, ℕ, zero, suc, ◌+◌, ◌<◌, Bool, true, false, not, ◌&&◌, ◌||◌, List, [], ◌∷◌, ◌++◌, length, take, drop, get_or, Contains, ◌⊎◌, ◌↔◌, inl, inr, refl, sym, ap, ◌∙◌, subst, arith}
use Rattle.std.specs.Bool.{Decides}
use Rattle.std.specs.List.{list_any}
use Rattle.std.proofs.lemmas.Bool.{false_from_ne_true, and_parts}
use Rattle.std.proofs.lemmas.List.{take-append-drop, at_drop_more}
use Rattle.std.proofs.lemmas.List.Elements.{Contains-append_left, Contains-append_right, Contains-append_cases}
use Rattle.ve_base.specs.declared.attrs.Attr.{Attr}
use Rattle.ve_base.specs.Names.{names, NamesApart}
use Rattle.model_items.specs.Same.{text_same}
use Rattle.model_items.proofs.SameLemmas.{Means-text_same}
use Rattle.model_world.specs.Attributes.{are_apart}
use Rattle.ve_tx.specs.Noted.{HaveSameNames}
use Rattle.ve_tx.proofs.NotedLemmas.{first_or_later, is_first}

pub text_decides : (s t : List ℕ) → Decides (text_same s t) (s ≡ t)
text_decides s t = (Means-text_same.equal s t, λ same. let P : List ℕ → Type 0 = λ u. text_same s u ≡ true in subst P same (Means-text_same.itself s))

-- an attribute of the name is found where the name is among theirs
name_found : (name : List ℕ) (attrs : List Attr) → Contains (names attrs) name → list_any (λ (b : Attr). text_same name b.name) attrs ≡ true
name_found name [] (i, within, is) = absurd (let none : ⊥ = omega arith in none)
name_found name (a ∷ attrs) (zero, within, is) = rw ((text_decides name a.name).1 (sym is)) refl
name_found name (a ∷ attrs) (suc i, within, is) = either (text_same name a.name) (name_found name attrs (i, omega arith, is)) where
  either : (b : Bool) {c : Bool} → c ≡ true → (b || c) ≡ true
  either true e = refl
  either false e = e

name_missed : (name : List ℕ) (attrs : List Attr) → ¬ Contains (names attrs) name → list_any (λ (b : Attr). text_same name b.name) attrs ≡ false
name_missed name [] none = refl
name_missed name (a ∷ attrs) none =
    rw (false_from_ne_true (text_same name a.name) (λ t. none (0, omega arith, sym ((text_decides name a.name).0 t))))
    (name_missed name attrs (λ h. none (suc h.0, omega (arith, h.1), h.2)))

pub apart_all : (attrs : List Attr) → NamesApart attrs → are_apart attrs ≡ true
apart_all [] apart = refl
apart_all (a ∷ attrs) apart = rw (name_missed a.name attrs apart.0) (apart_all attrs apart.1)

same_found : (name : List ℕ) (attrs : List Attr) (attr : Attr) (more : List Attr) → text_same name attr.name ≡ true → list_any (λ (b : Attr). text_same name b.name) (attrs ++ attr ∷ more) ≡ true
same_found name [] attr more e = rw e refl
same_found name (a ∷ attrs) attr more e = later (text_same name a.name) (same_found name attrs attr more e) where
  later : (b : Bool) {c : Bool} → c ≡ true → (b || c) ≡ true
  later true e = refl
  later false e = e

pub not_both : (b : Bool) {c : Bool} → c ≡ false → (b && c) ≡ false
not_both true e = e
not_both false e = refl

-- a name that stands among them already makes them not distinct, whatever follows
named_twice : (attrs : List Attr) (attr : Attr) (more : List Attr) → Contains (names attrs) attr.name → are_apart (attrs ++ attr ∷ more) ≡ false
named_twice [] attr more (k, within, is) = absurd (let none : ⊥ = omega arith in none)
named_twice (a ∷ attrs) attr more (zero, within, is) = rw (same_found a.name attrs attr more ((text_decides a.name attr.name).1 is)) refl
named_twice (a ∷ attrs) attr more (suc k, within, is) =
    not_both (not (list_any (λ (b : Attr). text_same a.name b.name) (attrs ++ attr ∷ more))) (named_twice attrs attr more (k, omega arith, is))

pub apart_from : (attrs : List Attr) → are_apart attrs ≡ true → NamesApart attrs
apart_from [] apart = tt
apart_from (a ∷ attrs) apart =
    let parts = and_parts (not (list_any (λ (b : Attr). text_same a.name b.name) attrs)) (are_apart attrs) apart in
    (λ h. let found = name_found a.name attrs h in let missed = parts.0 in cc, apart_from attrs parts.1)

split_at : (attrs : List Attr) (i : ℕ) (attr : Attr) → i < length attrs → attr ≡ get_or attrs i attr → attrs ≡ take i attrs ++ attr ∷ drop (i + 1) attrs
split_at attrs i attr within is =
    sym (take-append-drop i attrs) ∙ at_drop_more (λ l. take i attrs ++ l) attrs i attr within ∙ ap (λ (a : Attr). take i attrs ++ a ∷ drop (i + 1) attrs) (sym is)

-- an attribute whose name was noted before makes them not distinct
pub noted_twice : (attrs : List Attr) (i : ℕ) (attr : Attr) (noted : List (List ℕ)) (new : Bool) → i < length attrs → attr ≡ get_or attrs i attr → HaveSameNames noted (names (take i attrs)) →
    (¬ Contains noted attr.name → new ≡ true) → new ≡ false → are_apart attrs ≡ false
noted_twice attrs i attr noted new within is same otherwise known =
    false_from_ne_true (are_apart attrs) (λ apart. before (λ h. let once = here h in cc))
  where
    before : ¬ (¬ Contains (names (take i attrs)) attr.name)
    before none = let new_one = otherwise (λ h. none ((same attr.name).0 h)) in cc

    whole : attrs ≡ take i attrs ++ attr ∷ drop (i + 1) attrs
    whole = split_at attrs i attr within is

    here : Contains (names (take i attrs)) attr.name → are_apart attrs ≡ false
    here h = ap are_apart whole ∙ named_twice (take i attrs) attr (drop (i + 1) attrs) h

-- the names that were noted, with one more after those of a list
pub one_more_last : (name : List ℕ) (noted more texts : List (List ℕ)) → HaveSameNames noted texts → ((other : List ℕ) → Contains more other ↔ ((name ≡ other) ⊎ Contains noted other)) → HaveSameNames more (texts ++ name ∷ [])
one_more_last name noted more texts same noting other = (
  λ h. elim ((noting other).0 h) [ inl is ↦ Contains-append_right texts (name ∷ []) other (is_first name other [] is) | inr before ↦ Contains-append_left texts (name ∷ []) other ((same other).0 before) ],
  λ h. elim (Contains-append_cases texts (name ∷ []) other h) [
    | inl before ↦ (noting other).1 (inr ((same other).1 before))
    | inr last ↦ elim (first_or_later name other [] last) [ inl is ↦ (noting other).1 (inl is) | inr none ↦ absurd (let no : ⊥ = omega (arith, none.1) in no) ]
  ],
)
