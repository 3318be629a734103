-- Attributes of which one is changed, and whose names stay apart.
use Rattle.std.proofs.Common.{◌≡◌, ◌<◌, ℕ, zero, suc, ◌+◌, Bool, true, false, not, ◌||◌, if◌then◌else◌, List, [], ◌∷◌, ◌++◌, length, take, drop, get_or, slice_set, Contains, Option, Some, None, IsSome, codes, refl, sym, ap, ◌∙◌, subst, inl, inr, append_assoc, arith, take-append-drop}
use Rattle.std.specs.Bool.{Decides}
use Rattle.std.specs.List.{remove}
use Rattle.std.specs.Str.{chars}
use Rattle.std.proofs.lemmas.Bool.Decides.{same_from_decides}
use Rattle.std.proofs.lemmas.List.{map-append, drop_more}
use Rattle.std.proofs.lemmas.List.Elements.{Contains-append_right, Contains-append_cases}
use Rattle.ve_base.specs.declared.attrs.Attr.{Attr}
use Rattle.ve_base.specs.Names.{names, NamesApart}
use Rattle.model_items.specs.Same.{text_same, option_same}
use Rattle.model_items.proofs.SameLemmas.{Means-text_same, Means-option_same}
use Rattle.ve_base.specs.declared.head.Head.{Head}
use Rattle.model_change.specs.Attributes.{AttrChange, value_of, position_of, attr_replaced, attr_removed, attrs_changed, is_reserved}
use Rattle.model_change.proofs.AttributeLemmas.{item_apart}
use Rattle.model_items.specs.declared.plain_item.PlainItem.TheVariants.{Opening}
use Rattle.ve_kinds.specs.declared.kind.Kind.TheVariants.{P}

contains_one : (x y : List ℕ) → Contains (x ∷ []) y → x ≡ y
contains_one x y (zero, below, here) = here
contains_one x y (suc k, below, here) = absurd (let none : ⊥ = omega arith in none)

contains_there : (xs : List Attr) (y : Attr) (zs : List Attr) → Contains (names (xs ++ y ∷ zs)) y.name
contains_there xs y zs =
    subst (λ l. Contains l y.name) (sym (map-append (λ (a : Attr). a.name) xs (y ∷ zs)))
    (Contains-append_right (names xs) (names (y ∷ zs)) y.name (0, omega arith, refl))

-- where names are apart, a name is new to what stands before it
pub apart-new : (xs : List Attr) (y : Attr) (zs : List Attr) → NamesApart (xs ++ y ∷ zs) → ¬ Contains (names xs) y.name
apart-new [] y zs apart within = absurd (let below = within.1 in omega arith)
apart-new (x ∷ xs) y zs apart within =
    elim (Contains-append_cases (x.name ∷ []) (names xs) y.name within) [
      | inl first ↦ apart.0 (subst (λ n. Contains (names (xs ++ y ∷ zs)) n) (sym (contains_one x.name y.name first)) (contains_there xs y zs))
      | inr suffix ↦ apart-new xs y zs apart.1 suffix
    ]

-- the next of several attributes to be appended has a new name
pub apart-next : (xs ys : List Attr) (i : ℕ) (y : Attr) → i < length ys → y ≡ get_or ys i y → NamesApart (xs ++ ys) → ¬ Contains (names (xs ++ take i ys)) y.name
apart-next xs ys i y within is apart =
    let rest : drop i ys ≡ y ∷ drop (i + 1) ys = drop_more ys i y within ∙ ap (λ a. a ∷ drop (i + 1) ys) (sym is) in
    let whole : xs ++ ys ≡ (xs ++ take i ys) ++ y ∷ drop (i + 1) ys =
    ap (λ l. xs ++ l) (sym (take-append-drop i ys)) ∙ ap (λ l. xs ++ (take i ys ++ l)) rest ∙ sym (append_assoc xs (take i ys) (y ∷ drop (i + 1) ys)) in
    apart-new (xs ++ take i ys) y (drop (i + 1) ys) (subst NamesApart whole apart)

-- a test on a text, as the definitions compute it
text_test : (b : Bool) (s t : List ℕ) → Decides b (s ≡ t) → b ≡ text_same s t
text_test b s t d =
    same_from_decides b (text_same s t) d
    (Means-text_same.equal s t, λ same. let P : List ℕ → Type 0 = λ u. text_same s u ≡ true in subst P same (Means-text_same.itself s))

about_is : chars (codes "about") ≡ codes "about"
unfolding chars
about_is = refl

typeof_is : chars (codes "typeof") ≡ codes "typeof"
unfolding chars
typeof_is = refl

-- the two reserved names, tested one after the other
pub reserved_first : (b : Bool) (name : List ℕ) → Decides b (name ≡ chars (codes "about")) → b ≡ true → b ≡ is_reserved name
reserved_first b name d here =
    let about : b ≡ text_same name (codes "about") = text_test b name _ d ∙ ap (text_same name) about_is in
    let one : text_same name (codes "about") ≡ true = sym about ∙ here in
    here ∙ sym (ap (λ x. x || text_same name (codes "typeof")) one)

pub reserved_second : (a b : Bool) (name : List ℕ) → Decides a (name ≡ chars (codes "about")) → Decides b (name ≡ chars (codes "typeof")) → a ≡ false → b ≡ is_reserved name
reserved_second a b name d e other =
    let about : a ≡ text_same name (codes "about") = text_test a name _ d ∙ ap (text_same name) about_is in
    let typeof : b ≡ text_same name (codes "typeof") = text_test b name _ e ∙ ap (text_same name) typeof_is in
    let none : text_same name (codes "about") ≡ false = sym about ∙ other in
    typeof ∙ sym (ap (λ x. x || text_same name (codes "typeof")) none)

-- an attribute that has a value stands at a position
pub position-within : (name : List ℕ) (attrs : List Attr) → IsSome (value_of name attrs) → position_of name attrs < length attrs
position-within name [] h = cc
position-within name (a ∷ attrs) h = by (position-within name attrs) (text_same a.name name) h
  where
    by : (IsSome (value_of name attrs) → position_of name attrs < length attrs) → (b : Bool) → IsSome (if b then Some a.value else value_of name attrs) →
        (if b then 0 else suc (position_of name attrs)) < suc (length attrs)
    by rest true h = omega arith
    by rest false h = let less = rest h in omega arith

-- the attribute at its position is written with another value
pub set-replaced : (name value : List ℕ) (attrs : List Attr) (old : Attr) → IsSome (value_of name attrs) → old ≡ get_or attrs (position_of name attrs) old →
    slice_set attrs (position_of name attrs) (record { name = old.name; value = value }) ≡ attr_replaced name value attrs
set-replaced name value [] old h is = cc
set-replaced name value (a ∷ attrs) old h is = by (set-replaced name value attrs old) (text_same a.name name) h is
  where
    by : (IsSome (value_of name attrs) → old ≡ get_or attrs (position_of name attrs) old →
        slice_set attrs (position_of name attrs) (record { name = old.name; value = value }) ≡ attr_replaced name value attrs) →
        (b : Bool) → IsSome (if b then Some a.value else value_of name attrs) → old ≡ get_or (a ∷ attrs) (if b then 0 else suc (position_of name attrs)) old →
        slice_set (a ∷ attrs) (if b then 0 else suc (position_of name attrs)) (record { name = old.name; value = value })
        ≡ (if b then record { name = a.name; value = value } ∷ attrs else a ∷ attr_replaced name value attrs)
    by rest true h is = ap (λ (x : Attr). record { name = x.name; value = value } ∷ attrs) is
    by rest false h is = ap (λ l. a ∷ l) (rest h is)

-- the attribute at its position is removed
pub removed-out : (name : List ℕ) (attrs : List Attr) → IsSome (value_of name attrs) → remove attrs (position_of name attrs) ≡ attr_removed name attrs
removed-out name [] h = cc
removed-out name (a ∷ attrs) h = by (removed-out name attrs) (text_same a.name name) h
  where
    by : (IsSome (value_of name attrs) → remove attrs (position_of name attrs) ≡ attr_removed name attrs) → (b : Bool) → IsSome (if b then Some a.value else value_of name attrs) →
        remove (a ∷ attrs) (if b then 0 else suc (position_of name attrs)) ≡ (if b then attrs else a ∷ attr_removed name attrs)
    by rest true h = refl
    by rest false h = ap (λ l. a ∷ l) (rest h)

not_reserved : (b : Bool) → b ≡ false → not b ≡ true
not_reserved true h = sym h
not_reserved false h = refl

option_text_from : (o p : Option (List ℕ)) → o ≡ p → option_same text_same o p ≡ true
option_text_from o p e = rw e ((Means-option_same text_same Means-text_same).itself p)

-- names stay apart: an element's opening with these attributes allows the change
pub apart-changed : (name : List ℕ) (kept : Option ℕ) (from to : Option (List ℕ)) (attrs : List Attr) → value_of name attrs ≡ from → is_reserved name ≡ false →
    NamesApart attrs → NamesApart (attrs_changed name kept from to attrs)
apart-changed name kept from to attrs present free apart =
    let change : AttrChange = record { name = name; from = from; to = to; kept = kept } in
    let head : Head = record { tag = []; attrs = attrs; raw = []; reference = None; owner = false } in
    let has : option_same text_same (value_of name attrs) from ≡ true = option_text_from (value_of name attrs) from present in
    let may : not (is_reserved name) ≡ true = not_reserved (is_reserved name) free in
    item_apart change (Opening P head [] [] None false) (rw (has, may) refl) apart
