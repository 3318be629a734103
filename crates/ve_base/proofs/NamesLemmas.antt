-- Names apart, one more at a time.
use Rattle.std.proofs.Common.{◌≡◌, inl, inr, ℕ, zero, suc, List, [], ◌∷◌, ◌++◌, Contains, subst, sym, ◌∙◌, arith}
use Rattle.std.proofs.lemmas.List.{map-append}
use Rattle.std.proofs.lemmas.List.Elements.{Contains-append_cases, Contains-append_right}
use Rattle.ve_base.specs.declared.attrs.Attr.{Attr}
use Rattle.ve_base.specs.declared.attrs.Held.{Held}
use Rattle.ve_base.specs.Held.{held_list}
use Rattle.ve_base.specs.Names.{names, NamesApart}

names-push : (attrs : List Attr) (attr : Attr) → names (attrs ++ attr ∷ []) ≡ names attrs ++ attr.name ∷ []
names-push attrs attr = map-append (λ a. a.name) attrs (attr ∷ [])

only_one : {X : Type 0} (x y : X) → Contains (x ∷ []) y → x ≡ y
only_one x y (zero, within, here) = here
only_one x y (suc k, within, here) = absurd (let none : ⊥ = omega arith in none)

-- a name that is new for a list and for one attribute
not_among-push : (attrs : List Attr) (name : List ℕ) (attr : Attr) → ¬ Contains (names attrs) name → ¬ (attr.name ≡ name) → ¬ Contains (names (attrs ++ attr ∷ [])) name
not_among-push attrs name attr among other h =
    elim (Contains-append_cases (names attrs) (attr.name ∷ []) name (let P : List (List ℕ) → Type 0 = λ l. Contains l name in subst P (names-push attrs attr) h)) [ inl before ↦ among before | inr last ↦ other (only_one attr.name name last) ]

pub NamesApart-push : (attrs : List Attr) (attr : Attr) → NamesApart attrs → ¬ Contains (names attrs) attr.name → NamesApart (attrs ++ attr ∷ [])
NamesApart-push [] attr apart new = (new, tt)
NamesApart-push (one ∷ attrs) attr apart new = (
  not_among-push attrs one.name attr apart.0 (λ e. new (0, omega arith, sym e)),
  NamesApart-push attrs attr apart.1 (λ h. new (Contains-append_right (one.name ∷ []) (names attrs) attr.name h)),
)

-- the same of the list that attributes are, and of the list that came of it
pub apart_pushed : (held : Held) (attrs before after : List Attr) (attr : Attr) → NamesApart (held_list held) → held_list held ≡ attrs → ¬ Contains (names attrs) attr.name → held_list held ≡ before → after ≡ before ++ attr ∷ [] → NamesApart after
apart_pushed held attrs before after attr apart view new is pushed =
    let P : List Attr → Type 0 = λ l. ¬ Contains (names l) attr.name in
    subst NamesApart (sym pushed) (NamesApart-push before attr (subst NamesApart is apart) (subst P (sym view ∙ is) new))
