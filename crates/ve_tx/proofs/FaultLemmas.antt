-- The first fault by passes over the operations, each over the old list alone, is the model's.
use Rattle.std.specs.Option.{option_or}
use Rattle.std.specs.Prelude.{option_map}
use Rattle.std.proofs.Common.{◌≡◌, ℕ, zero, suc, ◌+◌, true, false, not, ◌==◌, if◌then◌else◌, List, [], ◌∷◌, length, drop, map, Some, None, refl, sym, ap, ◌∙◌, arith}
use Rattle.std.proofs.lemmas.Bool.{and_parts, not-true}
use Rattle.std.proofs.lemmas.List.{length-map, drop-drop, drop-map}
use Rattle.ve_base.specs.declared.value.Value.{Value}
use Rattle.model_items.specs.declared.item.Item.{Item}
use Rattle.model_items.specs.declared.plain_item.PlainItem.{PlainItem}
use Rattle.model_items.specs.declared.plain_item.PlainItem.TheVariants.{Char, Opening, Closing}
use Rattle.model_items.specs.Plain.{plain, plain_list}
use Rattle.model_items.specs.Same.{text_same}
use Rattle.model_change.specs.declared.tx_fault.TxFault.TheVariants.{BadLength, Mismatch, BadAttr}
use Rattle.model_change.specs.Attributes.{AttrChange, item_changed}
use Rattle.model_change.specs.Transaction.{Retain, Replace, Attribute, Transaction, old_length, on_first, may_precede, is_reduced}
use Rattle.model_change.specs.Fault.{differs_at, mismatch_at, first_allows, bad_attribute_at, fault}
use Rattle.model_change.proofs.InverseLemmas.{reduced_parts}
use Rattle.model_change.proofs.AttributeJoin.{allows-other}
use Rattle.ve_tx.specs.Checked.{old_size, mismatch_in, bad_in, change_of, fault_in}
use Rattle.ve_tx.specs.Operation.{Operation, bare, by_value}
use Rattle.ve_tx.specs.Operation as kept

-- an attribute operation changes nothing of what is said of the operations after it

drop-on_first : (n : ℕ) (f : PlainItem → PlainItem) (items : List PlainItem) → drop (suc n) (on_first f items) ≡ drop (suc n) items
drop-on_first n f [] = refl
drop-on_first n f (item ∷ items) = refl

mismatch-on_first : (c : AttrChange) (ops : Transaction) (at : ℕ) (f : PlainItem → PlainItem) (items : List PlainItem) →
    is_reduced ops ≡ true → may_precede (Attribute c) ops ≡ true → mismatch_at at ops (on_first f items) ≡ mismatch_at at ops items
mismatch-on_first c [] at f items h k = refl
mismatch-on_first c (Retain zero ∷ ops) at f items h k = absurd (let e = (reduced_parts (Retain zero) ops h).0 in cc)
mismatch-on_first c (Retain (suc n) ∷ ops) at f items h k = ap (mismatch_at (at + suc n) ops) (drop-on_first n f items)
mismatch-on_first c (Replace removed inserted ∷ ops) at f items h k = cc
mismatch-on_first c (Attribute d ∷ ops) at f items h k =
    let p = reduced_parts (Attribute d) ops h in
    mismatch-on_first d ops at (item_changed d) (on_first f items) p.2 p.1
    ∙ mismatch-on_first d ops at f items p.2 p.1
    ∙ sym (mismatch-on_first d ops at (item_changed d) items p.2 p.1)

first_allows-other : (c d : AttrChange) (items : List PlainItem) → text_same c.name d.name ≡ false → first_allows d (on_first (item_changed c) items) ≡ first_allows d items
first_allows-other c d [] h = refl
first_allows-other c d (item ∷ items) h = allows-other c d item h

bad_attribute-on_first : (c : AttrChange) (ops : Transaction) (at : ℕ) (items : List PlainItem) →
    is_reduced ops ≡ true → may_precede (Attribute c) ops ≡ true → bad_attribute_at at ops (on_first (item_changed c) items) ≡ bad_attribute_at at ops items
bad_attribute-on_first c [] at items h k = refl
bad_attribute-on_first c (Retain zero ∷ ops) at items h k = absurd (let e = (reduced_parts (Retain zero) ops h).0 in cc)
bad_attribute-on_first c (Retain (suc n) ∷ ops) at items h k = ap (bad_attribute_at (at + suc n) ops) (drop-on_first n (item_changed c) items)
bad_attribute-on_first c (Replace removed inserted ∷ ops) at items h k = cc
bad_attribute-on_first c (Attribute d ∷ ops) at items h k =
    let p = reduced_parts (Attribute d) ops h in
    let q = and_parts (not (text_same c.name d.name)) (may_precede (Attribute c) ops) k in
    let allowed = first_allows-other c d items (not-true (text_same c.name d.name) q.0) in
    let rest = bad_attribute-on_first d ops at (on_first (item_changed c) items) p.2 p.1
    ∙ bad_attribute-on_first c ops at items p.2 q.1
    ∙ sym (bad_attribute-on_first d ops at items p.2 p.1) in
    λ i. if allowed i then rest i else Some at

module _ (values : List Value) (items : List Item) where
  all_by_value : List PlainItem
  all_by_value = plain_list values items

  drop-more : (at n : ℕ) → drop n (drop at (plain_list values items)) ≡ drop (at + n) (plain_list values items)
  drop-more at n = drop-drop n at (plain_list values items)

  length-by_value : (removed : List Item) → length (plain_list values removed) ≡ length removed
  length-by_value removed = length-map removed (plain values)

  pub size-by_value : (tx : List Operation) → old_length (by_value values tx) ≡ old_size (map bare tx)
  size-by_value [] = refl
  size-by_value (kept.Retain count ∷ tx) = ap (λ n. count + n) (size-by_value tx)
  size-by_value (kept.Replace removed inserted ∷ tx) = let e = size-by_value tx in let l = length-by_value removed in omega arith
  size-by_value (kept.Attribute change ∷ tx) = size-by_value tx

  pub mismatch-by_value : (tx : List Operation) (at : ℕ) → is_reduced (by_value values tx) ≡ true →
      mismatch_at at (by_value values tx) (drop at (plain_list values items)) ≡ mismatch_in values items at (map bare tx)
  mismatch-by_value [] at h = refl
  mismatch-by_value (kept.Retain count ∷ tx) at h =
      ap (mismatch_at (at + count) (by_value values tx)) (drop-more at count) ∙ mismatch-by_value tx (at + count) (reduced_parts (Retain count) (by_value values tx) h).2
  mismatch-by_value (kept.Replace removed inserted ∷ tx) at h =
      let l = length-by_value removed in
      let here : drop at (plain_list values items) ≡ plain_list values (drop at items) = drop-map (plain values) at items in
      let rest : mismatch_at (at + length (plain_list values removed)) (by_value values tx) (drop (length (plain_list values removed)) (drop at (plain_list values items)))
      ≡ mismatch_in values items (at + length removed) (map bare tx) =
      ap (λ n. mismatch_at (at + n) (by_value values tx) (drop n (drop at (plain_list values items)))) l
      ∙ ap (mismatch_at (at + length removed) (by_value values tx)) (drop-more at (length removed))
      ∙ mismatch-by_value tx (at + length removed) (reduced_parts (Replace (plain_list values removed) (plain_list values inserted)) (by_value values tx) h).2 in
      ap (λ l. option_or (differs_at at (plain_list values removed) l)
      (mismatch_at (at + length (plain_list values removed)) (by_value values tx) (drop (length (plain_list values removed)) (drop at (plain_list values items))))) here
      ∙ ap (option_or (differs_at at (plain_list values removed) (plain_list values (drop at items)))) rest
  mismatch-by_value (kept.Attribute change ∷ tx) at h =
      let p = reduced_parts (Attribute change) (by_value values tx) h in
      mismatch-on_first change (by_value values tx) at (item_changed change) (drop at (plain_list values items)) p.2 p.1 ∙ mismatch-by_value tx at p.2

  -- neither the new value nor the position kept matters
  first_allows-bare : (c : AttrChange) (l : List PlainItem) → first_allows c l ≡ first_allows (change_of c.name c.from c.to None) l
  first_allows-bare c [] = refl
  first_allows-bare c (Char ch marks ∷ l) = refl
  first_allows-bare c (Opening kind head marks pre origin generated ∷ l) = refl
  first_allows-bare c (Closing kind pre ∷ l) = refl

  pub bad-by_value : (tx : List Operation) (at : ℕ) → is_reduced (by_value values tx) ≡ true →
      bad_attribute_at at (by_value values tx) (drop at (plain_list values items)) ≡ bad_in values items at (map bare tx)
  bad-by_value [] at h = refl
  bad-by_value (kept.Retain count ∷ tx) at h =
      ap (bad_attribute_at (at + count) (by_value values tx)) (drop-more at count) ∙ bad-by_value tx (at + count) (reduced_parts (Retain count) (by_value values tx) h).2
  bad-by_value (kept.Replace removed inserted ∷ tx) at h =
      let l = length-by_value removed in
      ap (λ n. bad_attribute_at (at + n) (by_value values tx) (drop n (drop at (plain_list values items)))) l
      ∙ ap (bad_attribute_at (at + length removed) (by_value values tx)) (drop-more at (length removed))
      ∙ bad-by_value tx (at + length removed) (reduced_parts (Replace (plain_list values removed) (plain_list values inserted)) (by_value values tx) h).2
  bad-by_value (kept.Attribute change ∷ tx) at h =
      let p = reduced_parts (Attribute change) (by_value values tx) h in
      let rest : bad_attribute_at at (by_value values tx) (on_first (item_changed change) (drop at (plain_list values items))) ≡ bad_in values items at (map bare tx) =
      bad_attribute-on_first change (by_value values tx) at (drop at (plain_list values items)) p.2 p.1 ∙ bad-by_value tx at p.2 in
      let here : drop at (plain_list values items) ≡ plain_list values (drop at items) = drop-map (plain values) at items in
      let test : first_allows change (drop at (plain_list values items)) ≡ first_allows (change_of change.name change.from change.to None) (plain_list values (drop at items)) =
      first_allows-bare change (drop at (plain_list values items)) ∙ ap (first_allows (change_of change.name change.from change.to None)) here in
      ap (λ b. if b then bad_attribute_at at (by_value values tx) (on_first (item_changed change) (drop at (plain_list values items))) else Some at) test
      ∙ ap (λ o. if first_allows (change_of change.name change.from change.to None) (plain_list values (drop at items)) then o else Some at) rest

  pub fault-by_value : (tx : List Operation) → is_reduced (by_value values tx) ≡ true → fault (by_value values tx) (plain_list values items) ≡ fault_in values items (map bare tx)
  fault-by_value tx h =
      let size = size-by_value tx in
      let long : length (plain_list values items) ≡ length items = length-map items (plain values) in
      let m = mismatch-by_value tx 0 h in
      let b = bad-by_value tx 0 h in
      let t = by_value values tx in
      let L = plain_list values items in
      ap (λ n. if n == length L
      then option_or (option_map (λ at. Mismatch at) (mismatch_at 0 t L)) (option_map (λ at. BadAttr at) (bad_attribute_at 0 t L))
      else Some (BadLength (length L) n)) size
      ∙ ap (λ n. if old_size (map bare tx) == n
      then option_or (option_map (λ at. Mismatch at) (mismatch_at 0 t L)) (option_map (λ at. BadAttr at) (bad_attribute_at 0 t L))
      else Some (BadLength n (old_size (map bare tx)))) long
      ∙ ap (λ o. if old_size (map bare tx) == length items
      then option_or (option_map (λ at. Mismatch at) o) (option_map (λ at. BadAttr at) (bad_attribute_at 0 t L))
      else Some (BadLength (length items) (old_size (map bare tx)))) m
      ∙ ap (λ o. if old_size (map bare tx) == length items
      then option_or (option_map (λ at. Mismatch at) (mismatch_in values items 0 (map bare tx))) (option_map (λ at. BadAttr at) o)
      else Some (BadLength (length items) (old_size (map bare tx)))) b
