-- How operations with a retain and a replace pending grow with the edits that they collect.
use Rattle.std.proofs.Common.{◌≡◌, ◌≤◌, ◌<◌, ℕ, zero, suc, ◌+◌, ◌-◌, List, [], ◌∷◌, ◌++◌, length, take, drop, slice_range, All, refl, sym, ap, ◌∙◌, subst, arith, zero-add, add-zero, add_assoc, append_assoc, append-nil, length-drop, drop-drop}
use Rattle.std.proofs.lemmas.List.{map-append, take-map, drop-map, length-map}
use Rattle.std.proofs.lemmas.List.Elements.{All-append}
use Rattle.ve_base.specs.declared.value.Value.{Value}
use Rattle.model_items.specs.declared.item.Item.{Item}
use Rattle.model_items.specs.declared.plain_item.PlainItem.{PlainItem}
use Rattle.model_items.specs.Plain.{plain, plain_list, CitesWell}
use Rattle.model_change.specs.Transaction.{Retain, Replace, Attribute, Transaction}
use Rattle.model_edit.specs.Edits.{Edit, Change, retaining, merged, replacing, transaction_from, transaction_of}
use Rattle.ve_tx.specs.Operation.{by_value, unkept}
use Rattle.ve_tx.proofs.MakingLemmas.{All-drop, All-take}
use Rattle.ve_edits.specs.Collected.{Collected, collected_transaction, AreCited, Makes}

pub retaining-add : (m n : ℕ) (t : Transaction) → retaining m (retaining n t) ≡ retaining (m + n) t
retaining-add zero n t = ap (λ k. retaining k t) (sym (zero-add n))
retaining-add (suc m) zero t = ap (λ k. retaining k t) (sym (add-zero (suc m)))
retaining-add (suc m) (suc n) [] =
    let e : suc (m + suc n) ≡ suc m + suc n = omega arith in
    let P : ℕ → Type 0 = λ k. Retain k ∷ [] ≡ retaining k [] in subst P e refl
retaining-add (suc m) (suc n) (Retain count ∷ ops) =
    let e : suc (m + suc n) ≡ suc m + suc n = omega arith in
    let P : ℕ → Type 0 = λ k. Retain (k + count) ∷ ops ≡ retaining k (Retain count ∷ ops) in
    ap (λ k. Retain k ∷ ops) (sym (add_assoc (suc m) (suc n) count)) ∙ subst P e refl
retaining-add (suc m) (suc n) (Replace removed inserted ∷ ops) =
    let e : suc (m + suc n) ≡ suc m + suc n = omega arith in
    let P : ℕ → Type 0 = λ k. Retain k ∷ Replace removed inserted ∷ ops ≡ retaining k (Replace removed inserted ∷ ops) in subst P e refl
retaining-add (suc m) (suc n) (Attribute change ∷ ops) =
    let e : suc (m + suc n) ≡ suc m + suc n = omega arith in
    let P : ℕ → Type 0 = λ k. Retain k ∷ Attribute change ∷ ops ≡ retaining k (Attribute change ∷ ops) in subst P e refl

merged-merged : (r i r' i' : List PlainItem) (t : Transaction) → merged r i (merged r' i' t) ≡ merged (r ++ r') (i ++ i') t
merged-merged r i r' i' [] = refl
merged-merged r i r' i' (Retain count ∷ ops) = refl
merged-merged r i r' i' (Attribute change ∷ ops) = refl
merged-merged r i r' i' (Replace next others ∷ ops) =
    ap (λ v. Replace v (i ++ (i' ++ others)) ∷ ops) (sym (append_assoc r r' next))
    ∙ ap (λ v. Replace ((r ++ r') ++ next) v ∷ ops) (sym (append_assoc i i' others))

-- neighbouring replaces are one
pub replacing-merged : (r i r' i' : List PlainItem) (t : Transaction) → replacing r i (replacing r' i' t) ≡ replacing (r ++ r') (i ++ i') t
replacing-merged [] [] r' i' t = refl
replacing-merged [] (o ∷ is) [] [] t = ap (λ v. merged [] (o ∷ v) t) (sym (append-nil is))
replacing-merged [] (o ∷ is) [] (p ∷ ps) t = merged-merged [] (o ∷ is) [] (p ∷ ps) t
replacing-merged [] (o ∷ is) (q ∷ qs) i' t = merged-merged [] (o ∷ is) (q ∷ qs) i' t
replacing-merged (x ∷ xs) i [] [] t =
    ap (λ v. merged (x ∷ v) i t) (sym (append-nil xs)) ∙ ap (λ v. merged (x ∷ (xs ++ [])) v t) (sym (append-nil i))
replacing-merged (x ∷ xs) i [] (p ∷ ps) t = merged-merged (x ∷ xs) i [] (p ∷ ps) t
replacing-merged (x ∷ xs) i (q ∷ qs) i' t = merged-merged (x ∷ xs) i (q ∷ qs) i' t

-- what is pending, put down
pub put_down : (n : ℕ) (r i : List PlainItem) → retaining n [] ++ replacing r i [] ≡ retaining n (replacing r i [])
put_down zero r i = refl
put_down (suc n) [] [] = refl
put_down (suc n) [] (o ∷ is) = refl
put_down (suc n) (x ∷ xs) i = refl

merged-retained : (r i : List PlainItem) (gap : ℕ) (t : Transaction) → merged r i (retaining (suc gap) t) ≡ Replace r i ∷ retaining (suc gap) t
merged-retained r i gap [] = refl
merged-retained r i gap (Retain count ∷ ops) = refl
merged-retained r i gap (Replace removed inserted ∷ ops) = refl
merged-retained r i gap (Attribute change ∷ ops) = refl

after_replace : (n : ℕ) (r i : List PlainItem) (t : Transaction) → retaining n (Replace r i ∷ t) ≡ retaining n (Replace r i ∷ []) ++ t
after_replace zero r i t = refl
after_replace (suc n) r i t = refl

-- before a retain a replace that does something may be put down
replaced : (n : ℕ) (r i : List PlainItem) (gap : ℕ) (t : Transaction) → (r ≡ [] → i ≡ [] → ⊥) →
    retaining n (replacing r i (retaining (suc gap) t)) ≡ retaining n (replacing r i []) ++ retaining (suc gap) t
replaced n [] [] gap t some = absurd (some refl refl)
replaced n [] (o ∷ is) gap t some = ap (retaining n) (merged-retained [] (o ∷ is) gap t) ∙ after_replace n [] (o ∷ is) (retaining (suc gap) t)
replaced n (x ∷ xs) i gap t some = ap (retaining n) (merged-retained (x ∷ xs) i gap t) ∙ after_replace n (x ∷ xs) i (retaining (suc gap) t)

pub passed : (base now : Transaction) (n : ℕ) (r i : List PlainItem) (gap : ℕ) (t : Transaction) → (r ≡ [] → i ≡ [] → ⊥) → 0 < gap →
    now ≡ base ++ retaining n (replacing r i []) → now ++ retaining gap t ≡ base ++ retaining n (replacing r i (retaining gap t))
passed base now n r i zero t some more is = absurd (omega arith)
passed base now n r i (suc gap) t some more is =
    ap (λ v. v ++ retaining (suc gap) t) is
    ∙ append_assoc base (retaining n (replacing r i [])) (retaining (suc gap) t)
    ∙ ap (λ v. base ++ v) (sym (replaced n r i gap t some))

-- nothing is pending by value where nothing is
pub none_by_value : (values : List Value) (removed inserted : List Item) → (removed ≡ [] → inserted ≡ [] → ⊥) → plain_list values removed ≡ [] → plain_list values inserted ≡ [] → ⊥
none_by_value values [] [] some a b = some refl refl
none_by_value values [] (o ∷ is) some a b = cc
none_by_value values (x ∷ xs) inserted some a b = cc

-- One edit more: the position is passed to, and the replace that is pending grows.
module _ (values : List Value) (items : List Item) (edits : List Edit) (old mid : Collected) (place count : ℕ) (inserted : List Item)
    (order : old.at ≤ place) (within : place + count ≤ length items)
    (means : (t : Transaction) → collected_transaction values mid t ≡ collected_transaction values old (retaining (place - old.at) t))
    (cites : AreCited values old → AreCited values mid) where
  P : List PlainItem
  P = plain_list values items

  rest_is : drop (place - old.at) (drop old.at (plain_list values items)) ≡ drop place (plain_list values items)
  rest_is =
      let e : old.at + (place - old.at) ≡ place = omega arith in
      drop-drop (place - old.at) old.at (plain_list values items) ∙ ap (λ n. drop n (plain_list values items)) e

  removed_is : plain_list values (mid.removed ++ slice_range items place (place + count)) ≡ plain_list values mid.removed ++ take count (drop place (plain_list values items))
  removed_is =
      let e : (place + count) - place ≡ count = omega arith in
      map-append (plain values) mid.removed (slice_range items place (place + count))
      ∙ ap (λ n. plain_list values mid.removed ++ plain_list values (take n (drop place items))) e
      ∙ ap (λ v. plain_list values mid.removed ++ v) (sym (take-map (plain values) count (drop place items)) ∙ ap (take count) (sym (drop-map (plain values) place items)))

  pub changed : (removed' inserted' : List Item) → removed' ≡ mid.removed ++ slice_range items place (place + count) → inserted' ≡ mid.inserted ++ inserted →
      All (CitesWell values) items → All (CitesWell values) inserted → Makes values items edits old →
      Makes values items (edits ++ Change place count (plain_list values inserted) ∷ []) (record { at = place + count; ops = mid.ops; retained = mid.retained; removed = removed'; inserted = inserted' })
  changed removed' inserted' removed_parts inserted_parts listed new_cited m = record {
    within = within;
    means = λ more.
        let I = plain_list values inserted in
        let all = plain_list values items in
        let t = transaction_from (place + count) (drop (place + count) all) more in
        let rest = drop (place - old.at) (drop old.at all) in
        let later : drop count rest ≡ drop (place + count) all = ap (drop count) rest_is ∙ drop-drop count place all in
        ap (transaction_of all) (append_assoc edits (Change place count I ∷ []) more)
        ∙ m.means (Change place count I ∷ more)
        ∙ sym (means (replacing (take count rest) I (transaction_from (place + count) (drop count rest) more)))
        ∙ ap (λ v. collected_transaction values mid (replacing (take count rest) I (transaction_from (place + count) v more))) later
        ∙ ap (λ v. collected_transaction values mid (replacing (take count v) I t)) rest_is
        ∙ ap (λ v. by_value values (unkept mid.ops) ++ retaining mid.retained v)
        (replacing-merged (plain_list values mid.removed) (plain_list values mid.inserted) (take count (drop place all)) I t)
        ∙ ap (λ v. by_value values (unkept mid.ops) ++ retaining mid.retained (replacing v (plain_list values mid.inserted ++ I) t)) (sym removed_is)
        ∙ ap (λ v. by_value values (unkept mid.ops) ++ retaining mid.retained (replacing (plain_list values (mid.removed ++ slice_range items place (place + count))) v t))
        (sym (map-append (plain values) mid.inserted inserted))
        ∙ ap (λ v. by_value values (unkept mid.ops) ++ retaining mid.retained (replacing (plain_list values v) (plain_list values (mid.inserted ++ inserted)) t)) (sym removed_parts)
        ∙ ap (λ v. by_value values (unkept mid.ops) ++ retaining mid.retained (replacing (plain_list values removed') (plain_list values v) t)) (sym inserted_parts);
    cited =
        let before = cites m.cited in
        let W : List Item → Type 0 = All (CitesWell values) in
        record {
          ops = before.ops;
          removed =
              subst W (sym removed_parts)
              (All-append (CitesWell values) mid.removed (slice_range items place (place + count)) before.removed
              (All-take values ((place + count) - place) (drop place items) (All-drop values place items listed)));
          inserted = subst W (sym inserted_parts) (All-append (CitesWell values) mid.inserted inserted before.inserted new_cited);
        };
  }

-- All edits are collected: what is left of the list is passed, and what is pending is put down.
pub finished : (values : List Value) (items : List Item) (edits : List Edit) (old mid : Collected) (ops : Transaction) → Makes values items edits old →
    ((t : Transaction) → collected_transaction values mid t ≡ collected_transaction values old (retaining (length items - old.at) t)) → ops ≡ collected_transaction values mid [] →
    ops ≡ transaction_of (plain_list values items) edits
finished values items edits old mid ops m means settled =
    let all = plain_list values items in
    let e : length items - old.at ≡ length (drop old.at all) = omega (arith, length-drop old.at all, length-map items (plain values)) in
    settled ∙ means [] ∙ ap (λ n. collected_transaction values old (retaining n [])) e ∙ sym (m.means []) ∙ ap (transaction_of all) (append-nil edits)

pub settled : (before between now : Transaction) (n : ℕ) (r i : List PlainItem) → between ≡ before ++ retaining n [] → now ≡ between ++ replacing r i [] →
    now ≡ before ++ retaining n (replacing r i [])
settled before between now n r i one two =
    two ∙ ap (λ v. v ++ replacing r i []) one ∙ append_assoc before (retaining n []) (replacing r i []) ∙ ap (λ v. before ++ v) (put_down n r i)

-- a replace that was pending is put down, and the position is passed to
pub went_on : (values : List Value) (old set : Collected) (place : ℕ) (t : Transaction) → (old.removed ≡ [] → old.inserted ≡ [] → ⊥) → 0 < place - old.at →
    by_value values (unkept set.ops) ≡ collected_transaction values old [] → set.removed ≡ [] → set.inserted ≡ [] →
    collected_transaction values (record { at = place; ops = set.ops; retained = place - old.at; removed = set.removed; inserted = set.inserted }) t ≡ collected_transaction values old (retaining (place - old.at) t)
went_on values old set place t some gap down none_removed none_inserted =
    ap (λ v. by_value values (unkept set.ops) ++ retaining (place - old.at) (replacing (plain_list values v) (plain_list values set.inserted) t)) none_removed
    ∙ ap (λ v. by_value values (unkept set.ops) ++ retaining (place - old.at) (replacing [] (plain_list values v) t)) none_inserted
    ∙ passed (by_value values (unkept old.ops)) (by_value values (unkept set.ops)) old.retained (plain_list values old.removed) (plain_list values old.inserted) (place - old.at) t
    (none_by_value values old.removed old.inserted some) gap down

-- nothing was pending but a retain
pub went_further : (values : List Value) (old : Collected) (place : ℕ) (t : Transaction) → old.removed ≡ [] → old.inserted ≡ [] →
    collected_transaction values (record { at = place; ops = old.ops; retained = old.retained + (place - old.at); removed = old.removed; inserted = old.inserted }) t ≡ collected_transaction values old (retaining (place - old.at) t)
went_further values old place t none_removed none_inserted =
    ap (λ v. by_value values (unkept old.ops) ++ retaining (old.retained + (place - old.at)) (replacing (plain_list values v) (plain_list values old.inserted) t)) none_removed
    ∙ ap (λ v. by_value values (unkept old.ops) ++ retaining (old.retained + (place - old.at)) (replacing [] (plain_list values v) t)) none_inserted
    ∙ ap (λ v. by_value values (unkept old.ops) ++ v) (sym (retaining-add old.retained (place - old.at) t))
    ∙ ap (λ v. by_value values (unkept old.ops) ++ retaining old.retained (replacing [] (plain_list values v) (retaining (place - old.at) t))) (sym none_inserted)
    ∙ ap (λ v. by_value values (unkept old.ops) ++ retaining old.retained (replacing (plain_list values v) (plain_list values old.inserted) (retaining (place - old.at) t))) (sym none_removed)
