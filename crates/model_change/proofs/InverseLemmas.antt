-- The inverse of a transaction gives the old list back.
use Rattle.std.proofs.Common.{◌≡◌, ℕ, zero, suc, ◌+◌, ◌-◌, ◌≤◌, true, ◌&&◌, List, [], ◌∷◌, ◌++◌, length, take, drop, refl, sym, ap, ◌∙◌, subst, arith, take-append-drop, append-nil}
use Rattle.std.proofs.lemmas.Bool.{and_parts}
use Rattle.std.proofs.lemmas.List.{take_at, drop_at, length-take-le, length-drop}
use Rattle.model_items.specs.declared.plain_item.PlainItem.{PlainItem}
use Rattle.model_change.specs.Attributes.{AttrChange, item_changed, allows, change_back, PutsBack, AllNamesApart}
use Rattle.model_change.specs.Transaction.{Op, Retain, Replace, Attribute, Transaction, old_length, new_length, on_first, edited, is_something, may_precede, is_reduced}
use Rattle.model_change.specs.Inverse.{attribute_ops, inverse_after, inverse, IsRestorable, InverseUndoes}
use Rattle.model_change.proofs.Fits.{Fits, parts_of_Applies, Applies_from, length-edited}
use Rattle.model_change.proofs.AttributeLemmas.{item_undone}

-- all the changes in order
abbrev pub changed_all : List AttrChange → PlainItem → PlainItem
changed_all [] item = item
changed_all (c ∷ changes) item = changed_all changes (item_changed c item)

abbrev pub AllAllowed : List AttrChange → PlainItem → Type 0
AllAllowed [] item = Unit {0}
AllAllowed (c ∷ changes) item = (allows c item ≡ true) × PutsBack c item × AllAllowed changes (item_changed c item)

abbrev FirstAllowed : List AttrChange → List PlainItem → Type 0
FirstAllowed changes [] = changes ≡ []
FirstAllowed changes (item ∷ items) = AllAllowed changes item

edited-attribute_ops : (changes : List AttrChange) (ops : Transaction) (item : PlainItem) (items : List PlainItem) →
    edited (attribute_ops changes ++ ops) (item ∷ items) ≡ edited ops (changed_all changes item ∷ items)
edited-attribute_ops [] ops item items = refl
edited-attribute_ops (c ∷ changes) ops item items = edited-attribute_ops changes ops (item_changed c item) items

Fits-attribute_ops : (changes : List AttrChange) (ops : Transaction) (item : PlainItem) (items : List PlainItem) →
    AllAllowed changes item → Fits ops (changed_all changes item ∷ items) → Fits (attribute_ops changes ++ ops) (item ∷ items)
Fits-attribute_ops [] ops item items allowed fits = fits
Fits-attribute_ops (c ∷ changes) ops item items allowed fits =
    (allowed.0, Fits-attribute_ops changes ops (item_changed c item) items allowed.2 fits)

IsRestorable-attribute_ops : (changes : List AttrChange) (ops : Transaction) (item : PlainItem) (items : List PlainItem) →
    AllAllowed changes item → IsRestorable ops (changed_all changes item ∷ items) → IsRestorable (attribute_ops changes ++ ops) (item ∷ items)
IsRestorable-attribute_ops [] ops item items allowed full = full
IsRestorable-attribute_ops (c ∷ changes) ops item items allowed full =
    (allowed.1, IsRestorable-attribute_ops changes ops (item_changed c item) items allowed.2 full)

on_first-none : (items : List PlainItem) → on_first (changed_all []) items ≡ items
on_first-none [] = refl
on_first-none (item ∷ items) = refl

pub AllNamesApart-drop : (n : ℕ) (items : List PlainItem) → AllNamesApart items → AllNamesApart (drop n items)
AllNamesApart-drop zero items apart = apart
AllNamesApart-drop (suc n) [] apart = tt
AllNamesApart-drop (suc n) (item ∷ items) apart = AllNamesApart-drop n items apart.1

-- no change is open before a replace
abbrev Ready : List AttrChange → Transaction → Type 0
Ready changes (Replace removed inserted ∷ ops) = changes ≡ []
Ready changes [] = Unit {0}
Ready changes (Retain count ∷ ops) = Unit {0}
Ready changes (Attribute change ∷ ops) = Unit {0}

Ready_after : (c : AttrChange) (changes : List AttrChange) (ops : Transaction) → may_precede (Attribute c) ops ≡ true → Ready changes ops
Ready_after c changes [] h = tt
Ready_after c changes (Retain count ∷ ops) h = tt
Ready_after c changes (Attribute change ∷ ops) h = tt
Ready_after c changes (Replace removed inserted ∷ ops) h = cc

Ready_none : (ops : Transaction) → Ready [] ops
Ready_none [] = tt
Ready_none (Retain count ∷ ops) = tt
Ready_none (Attribute change ∷ ops) = tt
Ready_none (Replace removed inserted ∷ ops) = refl

FirstAllowed_none : (items : List PlainItem) → FirstAllowed [] items
FirstAllowed_none [] = refl
FirstAllowed_none (item ∷ items) = tt

-- the operations fit the new list and give the old one
record IsRestored (ops : Transaction) (new old : List PlainItem) : Type 0 where
  restored : edited ops new ≡ old
  fits : Fits ops new
  full : IsRestorable ops new

-- what the operations ask of a list
record IsAsked (ops : Transaction) (items : List PlainItem) : Type 0 where
  reduced : is_reduced ops ≡ true
  room : old_length ops ≤ length items
  fits : Fits ops items
  full : IsRestorable ops items
  apart : AllNamesApart items

pub reduced_parts : (op : Op) (ops : Transaction) → is_reduced (op ∷ ops) ≡ true → (is_something op ≡ true) × (may_precede op ops ≡ true) × (is_reduced ops ≡ true)
reduced_parts op ops h =
    let p = and_parts (is_something op) (may_precede op ops && is_reduced ops) h in
    let q = and_parts (may_precede op ops) (is_reduced ops) p.1 in
    (p.0, q.0, q.1)

restored_after : (ops : Transaction) (changes : List AttrChange) (items : List PlainItem) → Ready changes ops → FirstAllowed changes items → IsAsked ops items →
    IsRestored (inverse_after changes ops) (edited ops items) (on_first (changed_all changes) items)
restored_after [] changes [] ready allowed asked = rw allowed (record { restored = refl; fits = tt; full = tt })
restored_after [] changes (item ∷ items) ready allowed asked = record {
  restored = rw (← append-nil (attribute_ops changes)) (edited-attribute_ops changes [] item items);
  fits = rw (← append-nil (attribute_ops changes)) (Fits-attribute_ops changes [] item items allowed tt);
  full = rw (← append-nil (attribute_ops changes)) (IsRestorable-attribute_ops changes [] item items allowed tt);
}
restored_after (Retain zero ∷ ops) changes items ready allowed asked = absurd (let e = (reduced_parts (Retain zero) ops asked.reduced).0 in cc)
restored_after (Retain (suc n) ∷ ops) changes [] ready allowed asked = absurd (let r = asked.room in omega arith)
restored_after (Retain (suc n) ∷ ops) changes (item ∷ items) ready allowed asked =
    let room : n + old_length ops ≤ length items = omega arith in
    let cut : length (drop n items) ≡ length items - n = length-drop n items in
    let prefix : length (take n items) ≡ n = length-take-le n items (omega arith) in
    let parts = reduced_parts (Retain (suc n)) ops asked.reduced in
    let rest = restored_after ops [] (drop n items) (Ready_none ops) (FirstAllowed_none (drop n items)) (record {
      reduced = parts.2;
      room = omega arith;
      fits = asked.fits;
      full = asked.full;
      apart = AllNamesApart-drop n items asked.apart.1;
    }) in
    let new = edited ops (drop n items) in
    let same : take n (take n items ++ new) ≡ take n items = take_at (take n items) new n prefix in
    let beyond : drop n (take n items ++ new) ≡ new = drop_at (take n items) new n prefix in
    record {
      restored = edited-attribute_ops changes (Retain (suc n) ∷ inverse_after [] ops) item (take n items ++ new)
          ∙ rw (same, beyond, rest.restored, on_first-none (drop n items)) (ap (λ l. changed_all changes item ∷ l) (take-append-drop n items));
      fits = Fits-attribute_ops changes (Retain (suc n) ∷ inverse_after [] ops) item (take n items ++ new) allowed (subst (λ l. Fits (inverse_after [] ops) l) (sym beyond) rest.fits);
      full = IsRestorable-attribute_ops changes (Retain (suc n) ∷ inverse_after [] ops) item (take n items ++ new) allowed (subst (λ l. IsRestorable (inverse_after [] ops) l) (sym beyond) rest.full);
    }
restored_after (Replace removed inserted ∷ ops) (c ∷ changes) items ready allowed asked = absurd (let e = ready in cc)
restored_after (Replace removed inserted ∷ ops) [] items ready allowed asked =
    let cut : length (drop (length removed) items) ≡ length items - length removed = length-drop (length removed) items in
    let parts = reduced_parts (Replace removed inserted) ops asked.reduced in
    let rest = restored_after ops [] (drop (length removed) items) (Ready_none ops) (FirstAllowed_none (drop (length removed) items)) (record {
      reduced = parts.2;
      room = omega arith;
      fits = asked.fits.1;
      full = asked.full;
      apart = AllNamesApart-drop (length removed) items asked.apart;
    }) in
    let new = edited ops (drop (length removed) items) in
    let beyond : drop (length inserted) (inserted ++ new) ≡ new = drop_at inserted new (length inserted) refl in
    record {
      restored = rw (beyond, rest.restored, on_first-none (drop (length removed) items), on_first-none items) (sym asked.fits.0);
      fits = (ap (λ l. inserted ++ l) (sym beyond), subst (λ l. Fits (inverse_after [] ops) l) (sym beyond) rest.fits);
      full = subst (λ l. IsRestorable (inverse_after [] ops) l) (sym beyond) rest.full;
    }
restored_after (Attribute c ∷ ops) changes [] ready allowed asked = absurd (let e = asked.fits.0 in cc)
restored_after (Attribute c ∷ ops) changes (item ∷ items) ready allowed asked =
    let parts = reduced_parts (Attribute c) ops asked.reduced in
    let done = item_undone c item asked.fits.0 asked.full.0 asked.apart.0 in
    let rest = restored_after ops (change_back c ∷ changes) (item_changed c item ∷ items) (Ready_after c (change_back c ∷ changes) ops parts.1)
    (done.allowed, done.put_back, subst (λ x. AllAllowed changes x) (sym done.undone) allowed)
    (record { reduced = parts.2; room = asked.room; fits = asked.fits.1; full = asked.full.1; apart = (done.apart, asked.apart.1) }) in
    record {
      restored = rest.restored ∙ ap (λ x. changed_all changes x ∷ items) done.undone;
      fits = rest.fits;
      full = rest.full;
    }

old_length-attribute_ops : (changes : List AttrChange) (ops : Transaction) → old_length (attribute_ops changes ++ ops) ≡ old_length ops
old_length-attribute_ops [] ops = refl
old_length-attribute_ops (c ∷ changes) ops = old_length-attribute_ops changes ops

old_length-inverse_after : (ops : Transaction) (changes : List AttrChange) → old_length (inverse_after changes ops) ≡ new_length ops
old_length-inverse_after [] changes = ap old_length (sym (append-nil (attribute_ops changes))) ∙ old_length-attribute_ops changes []
old_length-inverse_after (Retain n ∷ ops) changes =
    old_length-attribute_ops changes (Retain n ∷ inverse_after [] ops) ∙ ap (λ k. n + k) (old_length-inverse_after ops [])
old_length-inverse_after (Replace removed inserted ∷ ops) changes =
    old_length-attribute_ops changes (Replace inserted removed ∷ inverse_after [] ops) ∙ ap (λ k. length inserted + k) (old_length-inverse_after ops [])
old_length-inverse_after (Attribute c ∷ ops) changes = old_length-inverse_after ops (change_back c ∷ changes)

pub inverse_undoes : InverseUndoes
inverse_undoes t items reduced apart applies full =
    let p = parts_of_Applies t items applies in
    let done = restored_after t [] items (Ready_none t) (FirstAllowed_none items) (record { reduced = reduced; room = omega arith; fits = p.1; full = full; apart = apart }) in
    let new = length-edited t items p.1 (omega arith) in
    let old = old_length-inverse_after t [] in
    record {
      applies = Applies_from (inverse t) (edited t items) (omega arith) done.fits;
      undone = done.restored ∙ on_first-none items;
      restorable = done.full;
    }
