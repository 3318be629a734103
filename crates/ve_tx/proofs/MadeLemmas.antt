-- How far a new list is made, and one step further.
use Rattle.std.proofs.Common.{◌≡◌, ◌≤◌, ◌<◌, ℕ, zero, suc, ◌+◌, ◌-◌, true, false, List, [], ◌∷◌, ◌++◌, length, take, drop, All, Option, Some, None, is_some, refl, sym, ap, ◌∙◌, subst, append_assoc, append-nil, arith}
use Rattle.std.proofs.lemmas.Bool.{ltb-true}
use Rattle.std.proofs.lemmas.List.{map-append, length-map, length-drop, drop-drop, drop_all}
use Rattle.std.proofs.lemmas.List.Elements.{All-append, All-nil}
use Rattle.ve_base.specs.declared.head.Head.{Head}
use Rattle.ve_base.specs.declared.value.Value.{Value}
use Rattle.model_items.specs.declared.item.Item.{Item}
use Rattle.model_items.specs.declared.plain_item.PlainItem.{PlainItem}
use Rattle.model_items.specs.declared.plain_item.PlainItem.TheVariants.{Char, Opening, Closing}
use Rattle.model_items.specs.Plain.{plain, plain_list, CitesWell}
use Rattle.model_change.specs.Attributes.{AttrChange, item_changed, allows}
use Rattle.model_change.specs.Transaction.{Retain, Replace, Attribute, Transaction, old_length, on_first, edited, may_precede, is_reduced}
use Rattle.model_change.specs.Fault.{first_allows, Applies}
use Rattle.model_change.specs.Store.{fill, head_if, heads_from, changed_heads}
use Rattle.model_change.proofs.Fits.{Fits, parts_of_Applies}
use Rattle.model_change.proofs.InverseLemmas.{reduced_parts}
use Rattle.ve_tx.specs.Making.{Extends, item_with_head, first_headed, IsOpening}
use Rattle.ve_tx.proofs.ValuesLemmas.{extends_itself, extends_on, list-extended, all-extended, filled_on}

-- each attribute operation is allowed, those before it at its position being done
abbrev pub AreAllowed : Transaction → List PlainItem → Type 0
AreAllowed [] items = Unit {0}
AreAllowed (Retain count ∷ ops) items = AreAllowed ops (drop count items)
AreAllowed (Replace removed inserted ∷ ops) items = AreAllowed ops (drop (length removed) items)
AreAllowed (Attribute change ∷ ops) items = (first_allows change items ≡ true) × AreAllowed ops (on_first (item_changed change) items)

-- what may follow an attribute operation
abbrev pub GoesOn : Transaction → Type 0
GoesOn [] = ⊥
GoesOn (Retain count ∷ ops) = Unit {0}
GoesOn (Replace removed inserted ∷ ops) = ⊥
GoesOn (Attribute change ∷ ops) = Unit {0}

abbrev pub BeginsOpen : List PlainItem → Type 0
BeginsOpen [] = ⊥
BeginsOpen (item ∷ items) = IsOpening item

-- The new items so far, with what the operations that are left make of the rest of the old ones,
-- are the whole; so it is of the values.
pub record IsMade (first_values : List Value) (old whole : List PlainItem) (all_values values : List Value) (made : List Item) (at : ℕ) (head : Option Head) (ops : Transaction) : Type 0 where
  pub reduced : is_reduced ops ≡ true
  pub fits : at + old_length ops ≡ length old
  pub extends : Extends first_values values
  pub cites : All (CitesWell values) made
  pub items : plain_list values made ++ edited ops (first_headed head (drop at old)) ≡ whole
  pub store : fill values (heads_from (is_some head) ops (first_headed head (drop at old))) ≡ all_values
  pub allowed : AreAllowed ops (first_headed head (drop at old))
  pub opening : is_some head ≡ true → BeginsOpen (drop at old) × GoesOn ops

pub first_headed-none : (items : List PlainItem) → first_headed None items ≡ items
first_headed-none [] = refl
first_headed-none (item ∷ items) = refl

allowed-fits : (ops : Transaction) (items : List PlainItem) → Fits ops items → AreAllowed ops items
allowed-fits [] items fits = tt
allowed-fits (Retain n ∷ ops) items fits = allowed-fits ops (drop n items) fits
allowed-fits (Replace removed inserted ∷ ops) items fits = allowed-fits ops (drop (length removed) items) fits.1
allowed-fits (Attribute c ∷ ops) items fits = (fits.0, allowed-fits ops (on_first (item_changed c) items) fits.1)

-- before the first operation nothing is made yet
pub made-none : (values : List Value) (t : Transaction) (items : List PlainItem) → is_reduced t ≡ true → Applies t items →
    IsMade values items (edited t items) (fill values (changed_heads t items)) values [] 0 None t
made-none values t items reduced applies =
    let parts = parts_of_Applies t items applies in
    record {
      reduced = reduced;
      fits = omega (arith, parts.0);
      extends = extends_itself values;
      cites = All-nil (CitesWell values);
      items = ap (edited t) (first_headed-none items);
      store = ap (λ l. fill values (changed_heads t l)) (first_headed-none items);
      allowed = subst (AreAllowed t) (sym (first_headed-none items)) (allowed-fits t items parts.1);
      opening = λ f. cc;
    }

pub take-first_headed : (head : Option Head) (n : ℕ) (items : List PlainItem) → first_headed head (take n items) ≡ take n (first_headed head items)
take-first_headed head zero items = refl
take-first_headed head (suc n) [] = refl
take-first_headed head (suc n) (item ∷ items) = refl

pub drop-first_headed : (head : Option Head) (n : ℕ) (items : List PlainItem) → 0 < n → drop n (first_headed head items) ≡ drop n items
drop-first_headed head zero items h = absurd (omega arith)
drop-first_headed head (suc n) [] h = refl
drop-first_headed head (suc n) (item ∷ items) h = refl

allows-opening : (c : AttrChange) (head : Option Head) (item : PlainItem) → allows c (item_with_head head item) ≡ true → IsOpening item
allows-opening c head (Opening kind other marks pre origin generated) h = tt
allows-opening c None (Char ch marks) h = cc
allows-opening c (Some head) (Char ch marks) h = cc
allows-opening c None (Closing kind pre) h = cc
allows-opening c (Some head) (Closing kind pre) h = cc

goes_on : (c : AttrChange) (ops : Transaction) → may_precede (Attribute c) ops ≡ true → GoesOn ops
goes_on c [] h = cc
goes_on c (Retain count ∷ ops) h = tt
goes_on c (Replace removed inserted ∷ ops) h = cc
goes_on c (Attribute d ∷ ops) h = tt

pub counts_some : (n : ℕ) (ops : Transaction) → is_reduced (Retain n ∷ ops) ≡ true → 0 < n
counts_some n ops h = ltb-true 0 n (reduced_parts (Retain n) ops h).0

pub begins_within : (at : ℕ) (items : List PlainItem) → BeginsOpen (drop at items) → at < length items
begins_within zero [] h = absurd h
begins_within zero (item ∷ items) h = omega arith
begins_within (suc at) [] h = absurd h
begins_within (suc at) (item ∷ items) h = let rest = begins_within at items h in omega arith

module _ (S0 : List Value) (old whole : List PlainItem) (V S : List Value) (made : List Item) (at : ℕ) (head : Option Head) where
  pub made-within : (ops : Transaction) → IsMade S0 old whole V S made at head ops → at ≤ length old
  made-within ops m = omega (arith, m.fits)

  -- a retain passes items, the first one with its head
  pub made-retain : (n : ℕ) (ops : Transaction) (S' : List Value) (made' : List Item) → IsMade S0 old whole V S made at head (Retain n ∷ ops) → Extends S S' → All (CitesWell S') made' →
      plain_list S' made' ≡ plain_list S made ++ first_headed head (take n (drop at old)) →
      S' ≡ fill S (head_if (is_some head) (first_headed head (drop at old))) → IsMade S0 old whole V S' made' (at + n) None ops
  made-retain n ops S' made' m more cites items_are stored =
      let some : 0 < n = counts_some n ops m.reduced in
      let left = first_headed head (drop at old) in
      let suffix : first_headed None (drop (at + n) old) ≡ drop n left =
      first_headed-none (drop (at + n) old) ∙ sym (drop-drop n at old) ∙ sym (drop-first_headed head n (drop at old) some) in
      record {
        reduced = (reduced_parts (Retain n) ops m.reduced).2;
        fits = omega (arith, m.fits);
        extends = extends_on S0 S S' m.extends more;
        cites = cites;
        items =
            ap (λ l. l ++ edited ops (first_headed None (drop (at + n) old))) (items_are ∙ ap (λ l. plain_list S made ++ l) (take-first_headed head n (drop at old)))
            ∙ ap (λ l. (plain_list S made ++ take n left) ++ edited ops l) suffix
            ∙ append_assoc (plain_list S made) (take n left) (edited ops (drop n left)) ∙ m.items;
        store =
            filled_on S S' (head_if (is_some head) left) (heads_from false ops (first_headed None (drop (at + n) old))) stored
            ∙ ap (λ l. fill S (head_if (is_some head) left ++ heads_from false ops l)) suffix ∙ m.store;
        allowed = subst (AreAllowed ops) (sym suffix) m.allowed;
        opening = λ h. cc;
      }

  -- a replace passes those removed, and appends those inserted
  pub made-replace : (removed inserted : List Item) (ops : Transaction) (made' : List Item) (next : ℕ) →
      IsMade S0 old whole V S made at head (Replace (plain_list S0 removed) (plain_list S0 inserted) ∷ ops) → All (CitesWell S0) inserted →
      made' ≡ made ++ inserted → next ≡ at + length removed → IsMade S0 old whole V S made' next head ops
  made-replace removed inserted ops made' next m cites made_is next_is = by head m
    where
      by : (h : Option Head) → IsMade S0 old whole V S made at h (Replace (plain_list S0 removed) (plain_list S0 inserted) ∷ ops) → IsMade S0 old whole V S made' next h ops
      by (Some h) k = absurd (k.opening refl).1
      by None k =
          let many : length (plain_list S0 removed) ≡ length removed = length-map removed (plain S0) in
          let same : plain_list S inserted ≡ plain_list S0 inserted = list-extended S0 S k.extends inserted cites in
          let suffix : first_headed None (drop next old) ≡ drop (length (plain_list S0 removed)) (first_headed None (drop at old)) =
          first_headed-none (drop next old) ∙ ap (λ j. drop j old) next_is ∙ sym (drop-drop (length removed) at old) ∙ ap (λ j. drop j (drop at old)) (sym many)
          ∙ ap (drop (length (plain_list S0 removed))) (sym (first_headed-none (drop at old))) in
          let P : List Item → Type 0 = All (CitesWell S) in
          record {
            reduced = (reduced_parts (Replace (plain_list S0 removed) (plain_list S0 inserted)) ops k.reduced).2;
            fits = omega (arith, k.fits);
            extends = k.extends;
            cites = subst P (sym made_is) (All-append (CitesWell S) made inserted k.cites (all-extended S0 S k.extends inserted cites));
            items =
                ap (λ l. plain_list S l ++ edited ops (first_headed None (drop next old))) made_is
                ∙ ap (λ l. l ++ edited ops (first_headed None (drop next old))) (map-append (plain S) made inserted)
                ∙ ap (λ l. (plain_list S made ++ l) ++ edited ops (first_headed None (drop next old))) same
                ∙ append_assoc (plain_list S made) (plain_list S0 inserted) (edited ops (first_headed None (drop next old)))
                ∙ ap (λ l. plain_list S made ++ (plain_list S0 inserted ++ edited ops l)) suffix ∙ k.items;
            store = ap (λ l. fill S (heads_from false ops l)) suffix ∙ k.store;
            allowed = subst (AreAllowed ops) (sym suffix) k.allowed;
            opening = λ h. cc;
          }

  -- an attribute operation changes the head, and passes nothing
  pub made-attribute : (c : AttrChange) (ops : Transaction) (p : PlainItem) (rest : List PlainItem) (head' : Head) → IsMade S0 old whole V S made at head (Attribute c ∷ ops) →
      drop at old ≡ p ∷ rest → item_with_head (Some head') p ≡ item_changed c (item_with_head head p) → IsMade S0 old whole V S made at (Some head') ops
  made-attribute c ops p rest head' m here changed =
      let now : first_headed head (drop at old) ≡ item_with_head head p ∷ rest = ap (first_headed head) here in
      let then_ : first_headed (Some head') (drop at old) ≡ on_first (item_changed c) (first_headed head (drop at old)) =
      ap (first_headed (Some head')) here ∙ ap (λ q. q ∷ rest) changed ∙ ap (on_first (item_changed c)) (sym now) in
      let parts = reduced_parts (Attribute c) ops m.reduced in
      let test : allows c (item_with_head head p) ≡ true = subst (λ l. first_allows c l ≡ true) now m.allowed.0 in
      record {
        reduced = parts.2;
        fits = m.fits;
        extends = m.extends;
        cites = m.cites;
        items = ap (λ l. plain_list S made ++ edited ops l) then_ ∙ m.items;
        store = ap (λ l. fill S (heads_from true ops l)) then_ ∙ m.store;
        allowed = subst (AreAllowed ops) (sym then_) m.allowed.1;
        opening = λ h. (subst BeginsOpen (sym here) (allows-opening c head p test), goes_on c ops parts.1);
      }

  -- the attribute operation is allowed on the item as it is
  pub made-allows : (c : AttrChange) (ops : Transaction) (p : PlainItem) (rest : List PlainItem) → IsMade S0 old whole V S made at head (Attribute c ∷ ops) →
      drop at old ≡ p ∷ rest → allows c (item_with_head head p) ≡ true
  made-allows c ops p rest m here = subst (λ l. first_allows c l ≡ true) (ap (first_headed head) here) m.allowed.0

  pub made-all : IsMade S0 old whole V S made at head [] → (plain_list S made ≡ whole) × (S ≡ V)
  made-all m = by head m
    where
      by : (h : Option Head) → IsMade S0 old whole V S made at h [] → (plain_list S made ≡ whole) × (S ≡ V)
      by (Some h) k = absurd (k.opening refl).1
      by None k =
          let none : drop at old ≡ [] = drop_all at old (omega (arith, k.fits)) in (
            sym (append-nil (plain_list S made)) ∙ ap (λ l. plain_list S made ++ first_headed None l) (sym none) ∙ k.items,
            k.store,
          )

  -- the opening that has a changed head is there
  pub made-below : (ops : Transaction) → IsMade S0 old whole V S made at head ops → is_some head ≡ true → at < length old
  made-below ops m some = begins_within at old (m.opening some).0

  -- so is the item whose attribute is to change
  pub made-inside : (c : AttrChange) (ops : Transaction) → IsMade S0 old whole V S made at head (Attribute c ∷ ops) → at < length old
  made-inside c ops m = there (drop at old) (length-drop at old) m.allowed.0
    where
      there : (left : List PlainItem) → length left ≡ length old - at → first_allows c (first_headed head left) ≡ true → at < length old
      there [] e h = cc
      there (item ∷ left) e h = omega arith
