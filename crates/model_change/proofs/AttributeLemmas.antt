-- A change of an attribute, and its undoing.
use Rattle.std.proofs.Common.{◌≡◌, ℕ, zero, suc, Bool, true, false, not, if◌then◌else◌, List, [], ◌∷◌, ◌++◌, take, drop, Option, Some, None, Contains, arith, refl, sym, ap, ◌∙◌, subst, ◌⊎◌, inl, inr, take-append-drop, append-nil}
use Rattle.std.proofs.lemmas.List.Elements.{Contains-append_cases, Contains-append_right}
use Rattle.std.proofs.lemmas.Bool.{cases_Bool, and_parts, and_from}
use Rattle.ve_base.specs.declared.attrs.Attr.{Attr}
use Rattle.ve_base.specs.declared.head.Head.{Head}
use Rattle.ve_base.specs.Names.{names, NamesApart}
use Rattle.model_items.specs.declared.plain_item.PlainItem.{PlainItem}
use Rattle.model_items.specs.declared.plain_item.PlainItem.TheVariants.{Char, Opening, Closing}
use Rattle.model_items.specs.Same.{text_same, option_same}
use Rattle.ve_kinds.specs.Table.{is_element}
use Rattle.model_items.proofs.SameLemmas.{Means-text_same, Means-option_same}
use Rattle.model_change.specs.Attributes.{AttrChange, value_of, position_of, attr_added, attr_replaced, attr_removed, attrs_changed, item_changed, is_reserved, allows, position_kept, change_filled, IsPutBack, PutsBack, NamesApartIn, ChangeIsUndone, FilledPutsBack}

text_itself : (s : List ℕ) → text_same s s ≡ true
text_itself s = Means-text_same.itself s

pub text_other : (s t : List ℕ) → text_same s t ≡ false → text_same t s ≡ false
text_other s t h =
    elim (cases_Bool (text_same t s)) [
      | inl same ↦ absurd (let e : text_same s t ≡ true = rw (Means-text_same.equal t s same) (text_itself s) in cc)
      | inr other ↦ other
    ]

-- a name that is absent is neither the first one's nor among the others
absent_parts : (name : List ℕ) (a : Attr) (attrs : List Attr) → value_of name (a ∷ attrs) ≡ None → (text_same a.name name ≡ false) × (value_of name attrs ≡ None)
absent_parts name a attrs h = by_test (text_same a.name name) h
  where
    by_test : (b : Bool) → (if b then Some a.value else value_of name attrs) ≡ None → (b ≡ false) × (value_of name attrs ≡ None)
    by_test true h = cc
    by_test false h = (refl, h)

absent_from : (name : List ℕ) (a : Attr) (attrs : List Attr) → text_same a.name name ≡ false → value_of name attrs ≡ None → value_of name (a ∷ attrs) ≡ None
absent_from name a attrs other h = rw other h

-- a name that is present is the first one's or among the others
present_parts : (name value : List ℕ) (a : Attr) (attrs : List Attr) → value_of name (a ∷ attrs) ≡ Some value →
    ((text_same a.name name ≡ true) × (a.value ≡ value)) ⊎ ((text_same a.name name ≡ false) × (value_of name attrs ≡ Some value))
present_parts name value a attrs h = by_test (text_same a.name name) h
  where
    by_test : (b : Bool) → (if b then Some a.value else value_of name attrs) ≡ Some value → ((b ≡ true) × (a.value ≡ value)) ⊎ ((b ≡ false) × (value_of name attrs ≡ Some value))
    by_test true h = let e : a.value ≡ value = cc in inl (refl, e)
    by_test false h = inr (refl, h)

-- an attribute that is put between others that do not have its name
value_of-between : (name value : List ℕ) (p q : List Attr) → value_of name p ≡ None →
    value_of name (p ++ record { name = name; value = value } ∷ q) ≡ Some value
value_of-between name value [] q h = rw (text_itself name)
value_of-between name value (a ∷ p) q h =
    let parts = absent_parts name a p h in rw parts.0 (value_of-between name value p q parts.1)

attr_removed-between : (name value : List ℕ) (p q : List Attr) → value_of name p ≡ None →
    attr_removed name (p ++ record { name = name; value = value } ∷ q) ≡ p ++ q
attr_removed-between name value [] q h = rw (text_itself name)
attr_removed-between name value (a ∷ p) q h =
    let parts = absent_parts name a p h in rw parts.0 (ap (λ rest. a ∷ rest) (attr_removed-between name value p q parts.1))

value_of-take : (name : List ℕ) (at : ℕ) (attrs : List Attr) → value_of name attrs ≡ None → value_of name (take at attrs) ≡ None
value_of-take name zero attrs h = refl
value_of-take name (suc at) [] h = refl
value_of-take name (suc at) (a ∷ attrs) h =
    let parts = absent_parts name a attrs h in rw parts.0 (value_of-take name at attrs parts.1)

value_of-attr_replaced : (name value old : List ℕ) (attrs : List Attr) → value_of name attrs ≡ Some old → value_of name (attr_replaced name value attrs) ≡ Some value
value_of-attr_replaced name value old [] h = cc
value_of-attr_replaced name value old (a ∷ attrs) h =
    elim (present_parts name old a attrs h) [
      | inl here ↦ rw (here.0, here.0)
      | inr later ↦ rw (later.0, later.0) (value_of-attr_replaced name value old attrs later.1)
    ]

attr_replaced-back : (name value old : List ℕ) (attrs : List Attr) → value_of name attrs ≡ Some old → attr_replaced name old (attr_replaced name value attrs) ≡ attrs
attr_replaced-back name value old [] h = refl
attr_replaced-back name value old (a ∷ attrs) h =
    elim (present_parts name old a attrs h) [
      | inl here ↦ rw (here.0, here.0) (λ i. record { name = a.name; value = sym here.1 i } ∷ attrs)
      | inr later ↦ rw (later.0, later.0) (ap (λ rest. a ∷ rest) (attr_replaced-back name value old attrs later.1))
    ]

attr_added-attr_removed : (name old : List ℕ) (attrs : List Attr) → value_of name attrs ≡ Some old →
    attr_added (Some (position_of name attrs)) (record { name = name; value = old }) (attr_removed name attrs) ≡ attrs
attr_added-attr_removed name old [] h = cc
attr_added-attr_removed name old (a ∷ attrs) h =
    elim (present_parts name old a attrs h) [
      | inl here ↦ rw here.0 (λ i. record { name = sym (Means-text_same.equal a.name name here.0) i; value = sym here.1 i } ∷ attrs)
      | inr later ↦ rw later.0 (ap (λ rest. a ∷ rest) (attr_added-attr_removed name old attrs later.1))
    ]

-- names apart, by the value that others have

abbrev Apart : List Attr → Type 0
Apart [] = Unit {0}
Apart (a ∷ attrs) = (value_of a.name attrs ≡ None) × Apart attrs

absent_from_names : (name : List ℕ) (attrs : List Attr) → ¬ Contains (names attrs) name → value_of name attrs ≡ None
absent_from_names name [] h = refl
absent_from_names name (a ∷ attrs) h =
    elim (cases_Bool (text_same a.name name)) [
      | inl same ↦ absurd (h (0, omega arith, Means-text_same.equal a.name name same))
      | inr other ↦ rw other (absent_from_names name attrs (λ within. h (Contains-append_right (a.name ∷ []) (names attrs) name within)))
    ]

names_without : (name : List ℕ) (attrs : List Attr) → value_of name attrs ≡ None → ¬ Contains (names attrs) name
names_without name [] h within = absurd (let below = within.1 in omega arith)
names_without name (a ∷ attrs) h within =
    let parts = absent_parts name a attrs h in
    elim (Contains-append_cases (a.name ∷ []) (names attrs) name within) [
      | inl first ↦ absurd (let e = only_name a.name first in let f : text_same a.name name ≡ true = rw e (text_itself name) in cc)
      | inr second ↦ names_without name attrs parts.1 second
    ]
  where
    only_name : (x : List ℕ) → Contains (x ∷ []) name → x ≡ name
    only_name x (zero, below, here) = here
    only_name x (suc k, below, here) = absurd (let none : ⊥ = omega arith in none)

Apart_from : (attrs : List Attr) → NamesApart attrs → Apart attrs
Apart_from [] h = tt
Apart_from (a ∷ attrs) h = (absent_from_names a.name attrs h.0, Apart_from attrs h.1)

Apart_to : (attrs : List Attr) → Apart attrs → NamesApart attrs
Apart_to [] h = tt
Apart_to (a ∷ attrs) h = (names_without a.name attrs h.0, Apart_to attrs h.1)

value_of-attr_removed : (name : List ℕ) (attrs : List Attr) → Apart attrs → value_of name (attr_removed name attrs) ≡ None
value_of-attr_removed name [] apart = refl
value_of-attr_removed name (a ∷ attrs) apart =
    elim (cases_Bool (text_same a.name name)) [
      | inl same ↦ rw same (subst (λ n. value_of n attrs ≡ None) (Means-text_same.equal a.name name same) apart.0)
      | inr other ↦ rw (other, other) (value_of-attr_removed name attrs apart.1)
    ]

-- names stay apart

module _ (other : List ℕ) where
  absent-attr_replaced : (name value : List ℕ) (attrs : List Attr) → value_of other attrs ≡ None → value_of other (attr_replaced name value attrs) ≡ None
  absent-attr_replaced name value [] h = refl
  absent-attr_replaced name value (a ∷ attrs) h =
      let parts = absent_parts other a attrs h in
      elim (cases_Bool (text_same a.name name)) [
        | inl same ↦ rw (same, parts.0) parts.1
        | inr differ ↦ rw (differ, parts.0) (absent-attr_replaced name value attrs parts.1)
      ]

  absent-attr_removed : (name : List ℕ) (attrs : List Attr) → value_of other attrs ≡ None → value_of other (attr_removed name attrs) ≡ None
  absent-attr_removed name [] h = refl
  absent-attr_removed name (a ∷ attrs) h =
      let parts = absent_parts other a attrs h in
      elim (cases_Bool (text_same a.name name)) [
        | inl same ↦ rw same parts.1
        | inr differ ↦ rw (differ, parts.0) (absent-attr_removed name attrs parts.1)
      ]

  absent-between : (a : Attr) (p q : List Attr) → text_same a.name other ≡ false → value_of other (p ++ q) ≡ None → value_of other (p ++ a ∷ q) ≡ None
  absent-between a [] q differ h = rw differ h
  absent-between a (b ∷ p) q differ h =
      let parts = absent_parts other b (p ++ q) h in rw parts.0 (absent-between a p q differ parts.1)

apart-attr_replaced : (name value : List ℕ) (attrs : List Attr) → Apart attrs → Apart (attr_replaced name value attrs)
apart-attr_replaced name value [] apart = tt
apart-attr_replaced name value (a ∷ attrs) apart =
    elim (cases_Bool (text_same a.name name)) [
      | inl same ↦ rw same apart
      | inr differ ↦ rw differ (absent-attr_replaced a.name name value attrs apart.0, apart-attr_replaced name value attrs apart.1)
    ]

apart-attr_removed : (name : List ℕ) (attrs : List Attr) → Apart attrs → Apart (attr_removed name attrs)
apart-attr_removed name [] apart = tt
apart-attr_removed name (a ∷ attrs) apart =
    elim (cases_Bool (text_same a.name name)) [
      | inl same ↦ rw same apart.1
      | inr differ ↦ rw differ (absent-attr_removed a.name name attrs apart.0, apart-attr_removed name attrs apart.1)
    ]

apart-between : (a : Attr) (p q : List Attr) → value_of a.name (p ++ q) ≡ None → Apart (p ++ q) → Apart (p ++ a ∷ q)
apart-between a [] q h apart = (h, apart)
apart-between a (b ∷ p) q h apart =
    let parts = absent_parts a.name b (p ++ q) h in
    (absent-between b.name a p q (text_other b.name a.name parts.0) apart.0, apart-between a p q parts.1 apart.1)

-- the change back undoes the change, and may be made
record IsUndone (name : List ℕ) (kept : Option ℕ) (from to : Option (List ℕ)) (attrs : List Attr) : Type 0 where
  undone : attrs_changed name kept to from (attrs_changed name kept from to attrs) ≡ attrs
  present : value_of name (attrs_changed name kept from to attrs) ≡ to

-- names stay apart through a change that may be made
attrs_apart : (name : List ℕ) (kept : Option ℕ) (from to : Option (List ℕ)) (attrs : List Attr) →
    value_of name attrs ≡ from → Apart attrs → Apart (attrs_changed name kept from to attrs)
attrs_apart name kept None None attrs h apart = apart
attrs_apart name None None (Some value) attrs h apart =
    apart-between (record { name = name; value = value }) attrs [] (rw append-nil h) (rw append-nil apart)
attrs_apart name (Some at) None (Some value) attrs h apart =
    let whole : take at attrs ++ drop at attrs ≡ attrs = take-append-drop at attrs in
    apart-between (record { name = name; value = value }) (take at attrs) (drop at attrs) (rw whole h) (rw whole apart)
attrs_apart name kept (Some old) (Some value) attrs h apart = apart-attr_replaced name value attrs apart
attrs_apart name kept (Some old) None attrs h apart = apart-attr_removed name attrs apart

attrs_undone : (name : List ℕ) (kept : Option ℕ) (from to : Option (List ℕ)) (attrs : List Attr) →
    value_of name attrs ≡ from → IsPutBack name kept from to attrs → Apart attrs → IsUndone name kept from to attrs
attrs_undone name kept None None attrs h k apart = record { undone = refl; present = h }
attrs_undone name None None (Some value) attrs h k apart = record {
  undone = attr_removed-between name value attrs [] h ∙ append-nil attrs;
  present = value_of-between name value attrs [] h;
}
attrs_undone name (Some at) None (Some value) attrs h k apart =
    let before = value_of-take name at attrs h in
    record {
      undone = attr_removed-between name value (take at attrs) (drop at attrs) before ∙ take-append-drop at attrs;
      present = value_of-between name value (take at attrs) (drop at attrs) before;
    }
attrs_undone name kept (Some old) (Some value) attrs h k apart = record {
  undone = attr_replaced-back name value old attrs h;
  present = value_of-attr_replaced name value old attrs h;
}
attrs_undone name kept (Some old) None attrs h k apart = record {
  undone = k;
  present = value_of-attr_removed name attrs apart;
}

option_text_equal : (o p : Option (List ℕ)) → option_same text_same o p ≡ true → o ≡ p
option_text_equal o p h = (Means-option_same text_same Means-text_same).equal o p h

option_text_from : (o p : Option (List ℕ)) → o ≡ p → option_same text_same o p ≡ true
option_text_from o p e = rw e ((Means-option_same text_same Means-text_same).itself p)

allowed_parts : (c : AttrChange) (kind : _) (head : Head) (marks : _) (pre : _) (origin : _) (generated : _) → allows c (Opening kind head marks pre origin generated) ≡ true →
    (is_element kind ≡ true) × (value_of c.name head.attrs ≡ c.from) × (not (is_reserved c.name) ≡ true)
allowed_parts c kind head marks pre origin generated h =
    let p = and_parts (is_element kind) _ h in
    let q = and_parts (option_same text_same (value_of c.name head.attrs) c.from) (not (is_reserved c.name)) p.1 in
    (p.0, option_text_equal (value_of c.name head.attrs) c.from q.0, q.1)

pub item_apart : (c : AttrChange) (item : PlainItem) → allows c item ≡ true → NamesApartIn item → NamesApartIn (item_changed c item)
item_apart c (Char ch marks) h apart = tt
item_apart c (Closing kind pre) h apart = tt
item_apart c (Opening kind head marks pre origin generated) h apart =
    Apart_to (attrs_changed c.name c.kept c.from c.to head.attrs) (attrs_apart c.name c.kept c.from c.to head.attrs (allowed_parts c kind head marks pre origin generated h).1 (Apart_from head.attrs apart))

-- the same of an item
pub item_undone : ChangeIsUndone
item_undone c (Char ch marks) h k apart = cc
item_undone c (Closing kind pre) h k apart = cc
item_undone c (Opening kind head marks pre origin generated) h k apart =
    let p = allowed_parts c kind head marks pre origin generated h in
    let back = attrs_undone c.name c.kept c.from c.to head.attrs p.1 k (Apart_from head.attrs apart) in
    record {
      undone = λ i. Opening kind (record { tag = head.tag; attrs = back.undone i; raw = head.raw; reference = head.reference; owner = head.owner }) marks pre origin generated;
      allowed = and_from (is_element kind) _ p.0 (and_from _ (not (is_reserved c.name)) (option_text_from _ c.to back.present) p.2);
      put_back = put_back_from c.name c.kept c.from c.to head.attrs back.undone;
      apart = item_apart c (Opening kind head marks pre origin generated) h apart;
    }
  where
    put_back_from : (name : List ℕ) (kept : Option ℕ) (from to : Option (List ℕ)) (attrs : List Attr) →
        attrs_changed name kept to from (attrs_changed name kept from to attrs) ≡ attrs → IsPutBack name kept to from (attrs_changed name kept from to attrs)
    put_back_from name kept None None attrs e = tt
    put_back_from name kept None (Some value) attrs e = ap (attr_added kept (record { name = name; value = value })) e
    put_back_from name kept (Some old) None attrs e = tt
    put_back_from name kept (Some old) (Some value) attrs e = tt

-- a filled change does the same, and is filled
pub item_changed-change_filled : (c : AttrChange) (item : PlainItem) → item_changed (change_filled c item) item ≡ item_changed c item
item_changed-change_filled c (Char ch marks) = refl
item_changed-change_filled c (Closing kind pre) = refl
item_changed-change_filled c (Opening kind head marks pre origin generated) =
    let e = by_kind c.from c.to in λ i. Opening kind (record { tag = head.tag; attrs = e i; raw = head.raw; reference = head.reference; owner = head.owner }) marks pre origin generated
  where
    by_kind : (from to : Option (List ℕ)) →
        attrs_changed c.name (position_kept from to c.name c.kept (Opening kind head marks pre origin generated)) from to head.attrs ≡ attrs_changed c.name c.kept from to head.attrs
    by_kind None to = refl
    by_kind (Some u) (Some v) = refl
    by_kind (Some u) None = refl

pub change_filled-PutsBack : (c : AttrChange) (item : PlainItem) → allows c item ≡ true → PutsBack (change_filled c item) item
change_filled-PutsBack c (Char ch marks) h = tt
change_filled-PutsBack c (Closing kind pre) h = tt
change_filled-PutsBack c (Opening kind head marks pre origin generated) h =
    by_kind c.from c.to (allowed_parts c kind head marks pre origin generated h).1
  where
    by_kind : (from to : Option (List ℕ)) → value_of c.name head.attrs ≡ from →
        IsPutBack c.name (position_kept from to c.name c.kept (Opening kind head marks pre origin generated)) from to head.attrs
    by_kind None to e = tt
    by_kind (Some old) (Some value) e = tt
    by_kind (Some old) None e = attr_added-attr_removed c.name old head.attrs e

pub filled_puts_back : FilledPutsBack
filled_puts_back c item h = (item_changed-change_filled c item, change_filled-PutsBack c item h)
