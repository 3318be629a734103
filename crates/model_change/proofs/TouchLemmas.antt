-- All nodes are counted; and what is retained stands at its new position.
use Rattle.std.proofs.Common.{◌≡◌, ℕ, zero, suc, ◌+◌, ◌-◌, ◌<◌, ◌≤◌, Bool, true, false, nat_lt, if◌then◌else◌, List, [], ◌∷◌, ◌++◌, length, take, drop, slice_get, Option, Some, None, option_map, ◌⊎◌, refl, sym, ap, ◌∙◌, subst, inl, inr, arith, ltb-true}
use Rattle.std.proofs.lemmas.Bool.{ltb-false, le-ltb}
use Rattle.std.proofs.lemmas.List.{length-append, length-take-le}
use Rattle.std.proofs.lemmas.Option.{slice_get_within}
use Rattle.model_items.specs.declared.plain_item.PlainItem.{PlainItem}
use Rattle.model_items.specs.declared.plain_item.PlainItem.TheVariants.{Char, Opening, Closing}
use Rattle.model_items.specs.Tree.{Forest, Empty, Run, Branch, item_count, node_count, tree_of, shape_of}
use Rattle.model_change.specs.Attributes.{AttrChange, item_changed, change_back}
use Rattle.model_change.specs.Transaction.{Retain, Replace, Attribute, Transaction, edited}
use Rattle.model_change.specs.Inverse.{attribute_ops, inverse_after, inverse}
use Rattle.model_change.specs.Touch.{NodeName, TheRoot, Opened, nodes_from, new_place, RetainedStays, NodesAreCounted}

count-nodes_from : (f : Forest) (parent : NodeName) (at : ℕ) → length (nodes_from parent at f) ≡ node_count f
count-nodes_from Empty parent at = refl
count-nodes_from (Run count later) parent at = let rest = count-nodes_from later parent (at + count) in omega arith
count-nodes_from (Branch kind inside later) parent at =
    let a = count-nodes_from inside (Opened at) (suc at) in
    let b = count-nodes_from later parent (at + item_count inside + 2) in
    let c = length-append (nodes_from (Opened at) (suc at) inside) (nodes_from parent (at + item_count inside + 2) later) in
    omega arith

pub nodes_are_counted : NodesAreCounted
nodes_are_counted items = ap suc (count-nodes_from (tree_of items) TheRoot 0)

-- an item of a list in two parts
pub get-suffix : (xs ys : List PlainItem) (i : ℕ) → slice_get (xs ++ ys) (length xs + i) ≡ slice_get ys i
get-suffix [] ys i = ap (slice_get ys) (omega arith)
get-suffix (x ∷ xs) ys i = let e : suc (length xs) + i ≡ suc (length xs + i) = omega arith in ap (slice_get (x ∷ (xs ++ ys))) e ∙ get-suffix xs ys i

get-drop : (n : ℕ) (xs : List PlainItem) (i : ℕ) → n ≤ i → slice_get (drop n xs) (i - n) ≡ slice_get xs i
get-drop zero xs i h = ap (slice_get xs) (omega arith)
get-drop (suc n) [] i h = refl
get-drop (suc n) (x ∷ xs) zero h = absurd (omega arith)
get-drop (suc n) (x ∷ xs) (suc i) h = let e : suc i - suc n ≡ i - n = omega arith in ap (slice_get (drop n xs)) e ∙ get-drop n xs i (omega arith)

shape-item_changed : (c : AttrChange) (x : PlainItem) → shape_of (item_changed c x) ≡ shape_of x
shape-item_changed c (Char ch marks) = refl
shape-item_changed c (Opening kind head marks pre origin generated) = refl
shape-item_changed c (Closing kind pre) = refl

-- a position that comes of a choice
place_by : (b : Bool) (at to : ℕ) (o : Option ℕ) (n : ℕ) → (if b then Some at else option_map (λ p. n + p) o) ≡ Some to →
    ((b ≡ true) × (at ≡ to)) ⊎ ((b ≡ false) × ((p : ℕ) × (o ≡ Some p) × (n + p ≡ to)))
place_by true at to o n h = let e : at ≡ to = cc in inl (refl, e)
place_by false at to None n h = cc
place_by false at to (Some p) n h = let e : n + p ≡ to = cc in inr (refl, (p, refl, e))

place_none : (b : Bool) (to : ℕ) (o : Option ℕ) (n : ℕ) → (if b then None else option_map (λ p. n + p) o) ≡ Some to →
    (b ≡ false) × ((p : ℕ) × (o ≡ Some p) × (n + p ≡ to))
place_none true to o n h = cc
place_none false to None n h = cc
place_none false to (Some p) n h = let e : n + p ≡ to = cc in (refl, (p, refl, e))

-- where it stands in the new list
record StandsAt (new : List PlainItem) (to : ℕ) (old : PlainItem) : Type 0 where
  item : PlainItem
  stands : slice_get new to ≡ Some item
  shape : shape_of item ≡ shape_of old

-- in a list that begins with part of another
pub get-take-append : (n : ℕ) (xs ys : List PlainItem) (i : ℕ) → i < n → i < length xs → slice_get (take n xs ++ ys) i ≡ slice_get xs i
get-take-append zero xs ys i h k = absurd (omega arith)
get-take-append (suc n) [] ys i h k = absurd (omega arith)
get-take-append (suc n) (x ∷ xs) ys zero h k = refl
get-take-append (suc n) (x ∷ xs) ys (suc i) h k = get-take-append n xs ys i (omega arith) (omega arith)

stays : (ops : Transaction) (items : List PlainItem) (at to : ℕ) (old : PlainItem) → new_place ops at ≡ Some to → slice_get items at ≡ Some old → StandsAt (edited ops items) to old
stays [] items at to old placed there = cc
stays (Retain count ∷ ops) items at to old placed there =
    elim (place_by (nat_lt at count) at to (new_place ops (at - count)) count placed) [
      | inl here ↦ record {
        item = old;
        stands = ap (slice_get (edited (Retain count ∷ ops) items)) (sym here.1)
            ∙ get-take-append count items (edited ops (drop count items)) at (ltb-true at count here.0) (slice_get_within items at old there) ∙ there;
        shape = refl;
      }
      | inr on ↦
          let past : count ≤ at = ltb-false at count on.0 in
          let inside = slice_get_within items at old there in
          let rest = stays ops (drop count items) (at - count) on.1.0 old on.1.1 (get-drop count items at past ∙ there) in
          let long : length (take count items) ≡ count = length-take-le count items (omega arith) in
          let sum = on.1.2 in
          let place : to ≡ length (take count items) + on.1.0 = omega arith in
          record {
            item = rest.item;
            stands = ap (slice_get (edited (Retain count ∷ ops) items)) place ∙ get-suffix (take count items) (edited ops (drop count items)) on.1.0 ∙ rest.stands;
            shape = rest.shape;
          }
    ]
stays (Replace removed inserted ∷ ops) items at to old placed there =
    let on = place_none (nat_lt at (length removed)) to (new_place ops (at - length removed)) (length inserted) placed in
    let past : length removed ≤ at = ltb-false at (length removed) on.0 in
    let rest = stays ops (drop (length removed) items) (at - length removed) on.1.0 old on.1.1 (get-drop (length removed) items at past ∙ there) in
    record {
      item = rest.item;
      stands = ap (slice_get (edited (Replace removed inserted ∷ ops) items)) (sym on.1.2) ∙ get-suffix inserted (edited ops (drop (length removed) items)) on.1.0 ∙ rest.stands;
      shape = rest.shape;
    }
stays (Attribute c ∷ ops) [] at to old placed there = cc
stays (Attribute c ∷ ops) (x ∷ items) zero to old placed there =
    let same : x ≡ old = cc in
    let rest = stays ops (item_changed c x ∷ items) zero to (item_changed c x) placed refl in
    record { item = rest.item; stands = rest.stands; shape = rest.shape ∙ shape-item_changed c x ∙ ap shape_of same }
stays (Attribute c ∷ ops) (x ∷ items) (suc at) to old placed there = stays ops (item_changed c x ∷ items) (suc at) to old placed there

new_place-attribute_ops : (changes : List AttrChange) (ops : Transaction) (at : ℕ) → new_place (attribute_ops changes ++ ops) at ≡ new_place ops at
new_place-attribute_ops [] ops at = refl
new_place-attribute_ops (c ∷ changes) ops at = new_place-attribute_ops changes ops at

leads_back : (ops : Transaction) (changes : List AttrChange) (at to : ℕ) → new_place ops at ≡ Some to → new_place (inverse_after changes ops) to ≡ Some at
leads_back [] changes at to placed = cc
leads_back (Retain count ∷ ops) changes at to placed =
    new_place-attribute_ops changes (Retain count ∷ inverse ops) to
    ∙ elim (place_by (nat_lt at count) at to (new_place ops (at - count)) count placed) [
      | inl here ↦
          let less : nat_lt to count ≡ true = subst (λ n. nat_lt n count ≡ true) here.1 here.0 in
          ap (λ b. if b then Some to else option_map (λ p. count + p) (new_place (inverse ops) (to - count))) less ∙ ap Some (sym here.1)
      | inr on ↦
          let past : count ≤ at = ltb-false at count on.0 in
          let sum = on.1.2 in
          let far : nat_lt to count ≡ false = le-ltb to count (omega arith) in
          let rest = leads_back ops [] (at - count) on.1.0 on.1.1 in
          let less : to - count ≡ on.1.0 = omega arith in
          let whole : count + (at - count) ≡ at = omega arith in
          ap (λ b. if b then Some to else option_map (λ p. count + p) (new_place (inverse ops) (to - count))) far
          ∙ ap (λ n. option_map (λ p. count + p) (new_place (inverse ops) n)) less
          ∙ ap (option_map (λ p. count + p)) rest ∙ ap Some whole
    ]
leads_back (Replace removed inserted ∷ ops) changes at to placed =
    let on = place_none (nat_lt at (length removed)) to (new_place ops (at - length removed)) (length inserted) placed in
    let past : length removed ≤ at = ltb-false at (length removed) on.0 in
    let sum = on.1.2 in
    let far : nat_lt to (length inserted) ≡ false = le-ltb to (length inserted) (omega arith) in
    let rest = leads_back ops [] (at - length removed) on.1.0 on.1.1 in
    let less : to - length inserted ≡ on.1.0 = omega arith in
    let whole : length removed + (at - length removed) ≡ at = omega arith in
    new_place-attribute_ops changes (Replace inserted removed ∷ inverse ops) to
    ∙ ap (λ b. if b then None else option_map (λ p. length removed + p) (new_place (inverse ops) (to - length inserted))) far
    ∙ ap (λ n. option_map (λ p. length removed + p) (new_place (inverse ops) n)) less
    ∙ ap (option_map (λ p. length removed + p)) rest ∙ ap Some whole
leads_back (Attribute c ∷ ops) changes at to placed = leads_back ops (change_back c ∷ changes) at to placed

pub retained_stays : RetainedStays
retained_stays t items at to old placed there =
    let s = stays t items at to old placed there in
    record { new = s.item; stands = s.stands; shape = s.shape; back = leads_back t [] at to placed }
