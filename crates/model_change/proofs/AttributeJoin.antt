-- Changes of attributes that don't meet may be made in either order.
use Rattle.std.proofs.Common.{◌≡◌, ℕ, zero, suc, Bool, true, false, not, ◌&&◌, if◌then◌else◌, List, [], ◌∷◌, ◌++◌, take, drop, Option, Some, None, is_some, refl, sym, ap, ◌∙◌, inl, inr, append-nil, take-append-drop}
use Rattle.std.proofs.lemmas.Bool.{cases_Bool, or_parts}
use Rattle.ve_base.specs.declared.attrs.Attr.{Attr}
use Rattle.model_items.specs.declared.plain_item.PlainItem.{PlainItem}
use Rattle.model_items.specs.declared.plain_item.PlainItem.TheVariants.{Char, Opening, Closing}
use Rattle.model_items.specs.Same.{text_same, option_same, bool_same}
use Rattle.ve_kinds.specs.Table.{is_element}
use Rattle.model_items.proofs.SameLemmas.{Means-text_same}
use Rattle.model_change.specs.Attributes.{AttrChange, value_of, attr_added, attr_replaced, attr_removed, attrs_changed, item_changed, is_reserved, allows, adds_or_removes, clash, IsPutBack, PutsBack, ChangesCommute}
use Rattle.model_change.proofs.AttributeLemmas.{text_other}

-- two different names, and the changes of their attributes
module _ (n m : List ℕ) (differ : text_same n m ≡ false) where
  not_both : (s : List ℕ) → text_same s n ≡ true → text_same s m ≡ false
  not_both s same = rw (Means-text_same.equal s n same) differ

  not_both_ways : (s : List ℕ) → text_same s m ≡ true → text_same s n ≡ false
  not_both_ways s same = rw (Means-text_same.equal s m same) (text_other n m differ)

  value_of-replaced_other : (v : List ℕ) (attrs : List Attr) → value_of m (attr_replaced n v attrs) ≡ value_of m attrs
  value_of-replaced_other v [] = refl
  value_of-replaced_other v (a ∷ attrs) =
      elim (cases_Bool (text_same a.name n)) [
        | inl same ↦ let other = not_both a.name same in rw (same, other)
        | inr other ↦ rw other (ap (λ o. if text_same a.name m then Some a.value else o) (value_of-replaced_other v attrs))
      ]

  value_of-removed_other : (attrs : List Attr) → value_of m (attr_removed n attrs) ≡ value_of m attrs
  value_of-removed_other [] = refl
  value_of-removed_other (a ∷ attrs) =
      elim (cases_Bool (text_same a.name n)) [
        | inl same ↦ let other = not_both a.name same in rw (same, other)
        | inr other ↦ rw other (ap (λ o. if text_same a.name m then Some a.value else o) (value_of-removed_other attrs))
      ]

  value_of-between_other : (v : List ℕ) (p q : List Attr) → value_of m (p ++ record { name = n; value = v } ∷ q) ≡ value_of m (p ++ q)
  value_of-between_other v [] q = rw differ
  value_of-between_other v (a ∷ p) q = ap (λ o. if text_same a.name m then Some a.value else o) (value_of-between_other v p q)

  replaced-replaced : (v w : List ℕ) (attrs : List Attr) → attr_replaced n v (attr_replaced m w attrs) ≡ attr_replaced m w (attr_replaced n v attrs)
  replaced-replaced v w [] = refl
  replaced-replaced v w (a ∷ attrs) =
      elim (cases_Bool (text_same a.name n)) [
        | inl same ↦ let other = not_both a.name same in rw (same, other, same)
        | inr other ↦ elim (cases_Bool (text_same a.name m)) [
          | inl same ↦ rw (other, same, other)
          | inr another ↦ rw (another, other, another) (ap (λ l. a ∷ l) (replaced-replaced v w attrs))
        ]
      ]

  removed-replaced : (w : List ℕ) (attrs : List Attr) → attr_removed n (attr_replaced m w attrs) ≡ attr_replaced m w (attr_removed n attrs)
  removed-replaced w [] = refl
  removed-replaced w (a ∷ attrs) =
      elim (cases_Bool (text_same a.name n)) [
        | inl same ↦ let other = not_both a.name same in rw (same, other, same)
        | inr other ↦ elim (cases_Bool (text_same a.name m)) [
          | inl same ↦ rw (other, same, other)
          | inr another ↦ rw (another, other, another) (ap (λ l. a ∷ l) (removed-replaced w attrs))
        ]
      ]

  replaced-added_end : (v w : List ℕ) (attrs : List Attr) →
      attr_replaced m w (attrs ++ record { name = n; value = v } ∷ []) ≡ attr_replaced m w attrs ++ record { name = n; value = v } ∷ []
  replaced-added_end v w [] = rw differ
  replaced-added_end v w (a ∷ attrs) =
      elim (cases_Bool (text_same a.name m)) [
        | inl same ↦ rw same
        | inr other ↦ rw other (ap (λ l. a ∷ l) (replaced-added_end v w attrs))
      ]

  replaced-added : (v w : List ℕ) (kept : Option ℕ) (attrs : List Attr) →
      attr_replaced m w (attr_added kept (record { name = n; value = v }) attrs) ≡ attr_added kept (record { name = n; value = v }) (attr_replaced m w attrs)
  replaced-added v w None attrs = replaced-added_end v w attrs
  replaced-added v w (Some zero) attrs = rw differ
  replaced-added v w (Some (suc at)) [] = rw differ
  replaced-added v w (Some (suc at)) (a ∷ attrs) =
      elim (cases_Bool (text_same a.name m)) [
        | inl same ↦ rw same
        | inr other ↦ rw other (ap (λ l. a ∷ l) (replaced-added v w (Some at) attrs))
      ]

  value_of-changed_other : (kept : Option ℕ) (from to : Option (List ℕ)) (attrs : List Attr) → value_of m (attrs_changed n kept from to attrs) ≡ value_of m attrs
  value_of-changed_other kept None None attrs = refl
  value_of-changed_other None None (Some v) attrs = value_of-between_other v attrs [] ∙ ap (value_of m) (append-nil attrs)
  value_of-changed_other (Some at) None (Some v) attrs = value_of-between_other v (take at attrs) (drop at attrs) ∙ ap (value_of m) (take-append-drop at attrs)
  value_of-changed_other kept (Some u) (Some v) attrs = value_of-replaced_other v attrs
  value_of-changed_other kept (Some u) None attrs = value_of-removed_other attrs

-- it adds the attribute, or removes it
abbrev is_structural : Option (List ℕ) → Option (List ℕ) → Bool
is_structural from to = not (bool_same (is_some from) (is_some to))

attrs_commute : (n m : List ℕ) → text_same n m ≡ false → (k l : Option ℕ) (from to from' to' : Option (List ℕ)) (attrs : List Attr) →
    (is_structural from to && is_structural from' to') ≡ false →
    attrs_changed m l from' to' (attrs_changed n k from to attrs) ≡ attrs_changed n k from to (attrs_changed m l from' to' attrs)
attrs_commute n m differ k l None None from' to' attrs h = refl
attrs_commute n m differ k l None (Some v) None None attrs h = refl
attrs_commute n m differ k l (Some u) (Some v) None None attrs h = refl
attrs_commute n m differ k l (Some u) None None None attrs h = refl
attrs_commute n m differ k l None (Some v) (Some t) (Some w) attrs h = replaced-added n m differ v w k attrs
attrs_commute n m differ k l (Some u) None (Some t) (Some w) attrs h = sym (removed-replaced n m differ w attrs)
attrs_commute n m differ k l (Some u) (Some v) (Some t) (Some w) attrs h = sym (replaced-replaced n m differ v w attrs)
attrs_commute n m differ k l (Some u) (Some v) None (Some w) attrs h = sym (replaced-added m n (text_other n m differ) w v l attrs)
attrs_commute n m differ k l (Some u) (Some v) (Some t) None attrs h = removed-replaced m n (text_other n m differ) v attrs
attrs_commute n m differ k l None (Some v) None (Some w) attrs h = cc
attrs_commute n m differ k l None (Some v) (Some t) None attrs h = cc
attrs_commute n m differ k l (Some u) None None (Some w) attrs h = cc
attrs_commute n m differ k l (Some u) None (Some t) None attrs h = cc

pub item_changed-comm : (c d : AttrChange) (item : PlainItem) → clash c d ≡ false → item_changed d (item_changed c item) ≡ item_changed c (item_changed d item)
item_changed-comm c d (Char ch marks) h = refl
item_changed-comm c d (Closing kind pre) h = refl
item_changed-comm c d (Opening kind head marks pre origin generated) h =
    let p = or_parts (text_same c.name d.name) (adds_or_removes c && adds_or_removes d) h in
    let e = attrs_commute c.name d.name p.0 c.kept d.kept c.from c.to d.from d.to head.attrs p.1 in
    λ i. Opening kind (record { tag = head.tag; attrs = e i; raw = head.raw; reference = head.reference; owner = head.owner }) marks pre origin generated

-- what a change allows of another attribute stays
pub allows-other : (c d : AttrChange) (item : PlainItem) → text_same c.name d.name ≡ false → allows d (item_changed c item) ≡ allows d item
allows-other c d (Char ch marks) h = refl
allows-other c d (Closing kind pre) h = refl
allows-other c d (Opening kind head marks pre origin generated) h =
    let e = value_of-changed_other c.name d.name h c.kept c.from c.to head.attrs in
    ap (λ o. is_element kind && (option_same text_same o d.from && not (is_reserved d.name))) e

pub allows-item_changed : (c d : AttrChange) (item : PlainItem) → clash c d ≡ false → allows d (item_changed c item) ≡ allows d item
allows-item_changed c d item h = allows-other c d item (or_parts (text_same c.name d.name) (adds_or_removes c && adds_or_removes d) h).0

-- what would be put back still would be
pub PutsBack-item_changed : (c d : AttrChange) (item : PlainItem) → clash c d ≡ false → PutsBack d item → PutsBack d (item_changed c item)
PutsBack-item_changed c d (Char ch marks) h k = tt
PutsBack-item_changed c d (Closing kind pre) h k = tt
PutsBack-item_changed c d (Opening kind head marks pre origin generated) h k =
    let p = or_parts (text_same c.name d.name) (adds_or_removes c && adds_or_removes d) h in
    by_kind c.name d.name p.0 c.kept d.kept c.from c.to d.from d.to head.attrs p.1 k
  where
    by_kind : (n m : List ℕ) → text_same n m ≡ false → (k l : Option ℕ) (from to from' to' : Option (List ℕ)) (attrs : List Attr) →
        (is_structural from to && is_structural from' to') ≡ false →
        IsPutBack m l from' to' attrs → IsPutBack m l from' to' (attrs_changed n k from to attrs)
    by_kind n m differ k l from to None to' attrs h e = tt
    by_kind n m differ k l from to (Some t) (Some w) attrs h e = tt
    by_kind n m differ k l None None (Some t) None attrs h e = e
    by_kind n m differ k l None (Some v) (Some t) None attrs h e = cc
    by_kind n m differ k l (Some u) None (Some t) None attrs h e = cc
    by_kind n m differ k l (Some u) (Some v) (Some t) None attrs h e =
        ap (attr_added l (record { name = m; value = t })) (removed-replaced m n (text_other n m differ) v attrs)
        ∙ sym (replaced-added m n (text_other n m differ) t v l (attr_removed m attrs))
        ∙ ap (attr_replaced n v) e

pub changes_commute : ChangesCommute
changes_commute c d item h = (item_changed-comm c d item h, allows-item_changed c d item h)
