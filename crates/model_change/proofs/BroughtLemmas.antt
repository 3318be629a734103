-- The values that a transaction brings.
use Rattle.std.proofs.Common.{◌≡◌, ℕ, zero, suc, ◌+◌, ◌<◌, ◌≤◌, Bool, true, false, ◌&&◌, List, [], ◌∷◌, ◌++◌, length, take, drop, slice_get, Contains, Some, ◌⊎◌, refl, sym, ap, ◌∙◌, subst, inl, inr, arith, ltb-true}
use Rattle.std.proofs.lemmas.List.{length-drop, length-take-le}
use Rattle.std.proofs.lemmas.Bool.{and_parts}
use Rattle.std.proofs.lemmas.List.Elements.{Contains-append_left, Contains-append_right, Contains-append_cases}
use Rattle.ve_base.specs.declared.value.Value.{Value}
use Rattle.model_items.specs.declared.plain_item.PlainItem.{PlainItem}
use Rattle.model_items.specs.declared.plain_item.PlainItem.TheVariants.{Char, Opening, Closing}
use Rattle.model_change.specs.Attributes.{AttrChange, item_changed}
use Rattle.model_change.specs.Transaction.{Op, Retain, Replace, Attribute, Transaction, on_first, all_inserted, old_length, new_length, edited, is_reduced, is_something, may_precede}
use Rattle.model_change.specs.Store.{cited_by, cited, head_if, heads_from, changed_heads, brought, IsInserted, cited_head, IsChangedHead, HeadsAreChanged, BroughtIsNew}
use Rattle.model_change.proofs.StoreLemmas.{contains_none}
use Rattle.model_change.proofs.TouchLemmas.{get-suffix, get-take-append}

-- ---- what items cite

first_item : (x : PlainItem) (xs : List PlainItem) → Contains (x ∷ xs) x
first_item x xs = (0, omega arith, refl)

only_item : (x y : PlainItem) → Contains (x ∷ []) y → x ≡ y
only_item x y (zero, below, here) = here
only_item x y (suc k, below, here) = absurd (let none : ⊥ = omega arith in none)

no_item : (x : PlainItem) → ¬ Contains [] x
no_item x within = absurd (let below = within.1 in omega arith)

cited_from : (xs : List PlainItem) (v : Value) → Contains (cited xs) v → (item : PlainItem) × Contains xs item × Contains (cited_by item) v
cited_from [] v h = absurd (contains_none v h)
cited_from (x ∷ xs) v h =
    elim (Contains-append_cases (cited_by x) (cited xs) v h) [
      | inl here ↦ (x, first_item x xs, here)
      | inr second ↦ let (item, within, by) = cited_from xs v second in (item, Contains-append_right (x ∷ []) xs item within, by)
    ]

cited_all : (xs : List PlainItem) (item : PlainItem) (v : Value) → Contains xs item → Contains (cited_by item) v → Contains (cited xs) v
cited_all [] item v within by = absurd (no_item item within)
cited_all (x ∷ xs) item v within by =
    elim (Contains-append_cases (x ∷ []) xs item within) [
      | inl first ↦ Contains-append_left (cited_by x) (cited xs) v (subst (λ y. Contains (cited_by y) v) (sym (only_item x item first)) by)
      | inr second ↦ Contains-append_right (cited_by x) (cited xs) v (cited_all xs item v second by)
    ]

-- ---- the first item

-- the value is the head of the first item
abbrev AtFirst : Bool → List PlainItem → Value → Type 0
AtFirst true items v = (opening : PlainItem) × (slice_get items 0 ≡ Some opening) × Contains (cited_head opening) v
AtFirst false items v = ⊥

first_head : (changed : Bool) (items : List PlainItem) (v : Value) → Contains (head_if changed items) v → AtFirst changed items v
first_head false items v h = absurd (contains_none v h)
first_head true [] v h = absurd (contains_none v h)
first_head true (Opening kind head marks pre origin generated ∷ items) v h = (Opening kind head marks pre origin generated, refl, h)
first_head true (Char c marks ∷ items) v h = absurd (contains_none v h)
first_head true (Closing kind pre ∷ items) v h = absurd (contains_none v h)

head_there : (x : PlainItem) (items : List PlainItem) (v : Value) → Contains (cited_head x) v → Contains (head_if true (x ∷ items)) v
head_there (Opening kind head marks pre origin generated) items v h = h
head_there (Char c marks) items v h = absurd (contains_none v h)
head_there (Closing kind pre) items v h = absurd (contains_none v h)

head_back : (items : List PlainItem) (opening : PlainItem) (v : Value) → slice_get items 0 ≡ Some opening → Contains (cited_head opening) v → Contains (head_if true items) v
head_back [] opening v e h = cc
head_back (x ∷ items) opening v e h = let same : x ≡ opening = cc in head_there x items v (subst (λ y. Contains (cited_head y) v) (sym same) h)

-- what is retained begins the new list
retained_first : (count : ℕ) (items rest : List PlainItem) → 0 < count → count ≤ length items → slice_get (take count items ++ rest) 0 ≡ slice_get items 0
retained_first count items rest some le = get-take-append count items rest 0 some (omega arith)

after_retained : (count i : ℕ) (items rest : List PlainItem) → count ≤ length items → slice_get (take count items ++ rest) (count + i) ≡ slice_get rest i
after_retained count i items rest le = ap (λ n. slice_get (take count items ++ rest) (n + i)) (sym (length-take-le count items le)) ∙ get-suffix (take count items) rest i

first_length : (f : PlainItem → PlainItem) (items : List PlainItem) → length (on_first f items) ≡ length items
first_length f [] = refl
first_length f (x ∷ items) = refl

-- ---- changed heads

-- what stands after an attribute operation
abbrev Continues : Bool → Transaction → Type 0
Continues false ops = Unit {0}
Continues true [] = ⊥
Continues true (Retain count ∷ ops) = Unit {0}
Continues true (Replace removed inserted ∷ ops) = ⊥
Continues true (Attribute change ∷ ops) = Unit {0}

continues : (change : AttrChange) (ops : Transaction) → may_precede (Attribute change) ops ≡ true → Continues true ops
continues change [] h = cc
continues change (Retain count ∷ ops) h = tt
continues change (Replace removed inserted ∷ ops) h = cc
continues change (Attribute other ∷ ops) h = tt

later_reduced : (op : Op) (ops : Transaction) → is_reduced (op ∷ ops) ≡ true → is_reduced ops ≡ true
later_reduced op ops red = (and_parts (may_precede op ops) (is_reduced ops) (and_parts (is_something op) (may_precede op ops && is_reduced ops) red).1).1

retains_some : (count : ℕ) (ops : Transaction) → is_reduced (Retain count ∷ ops) ≡ true → 0 < count
retains_some count ops red = ltb-true 0 count (and_parts (is_something (Retain count)) (may_precede (Retain count) ops && is_reduced ops) red).0

goes_on : (change : AttrChange) (ops : Transaction) → is_reduced (Attribute change ∷ ops) ≡ true → Continues true ops
goes_on change ops red = continues change ops (and_parts (may_precede (Attribute change) ops) (is_reduced ops) (and_parts (is_something (Attribute change)) (may_precede (Attribute change) ops && is_reduced ops) red).1).0

first_on : (changed : Bool) (count : ℕ) (items rest : List PlainItem) (v : Value) → 0 < count → count ≤ length items → AtFirst changed items v → AtFirst changed (take count items ++ rest) v
first_on false count items rest v some le h = h
first_on true count items rest v some le (opening, there, cites) = (opening, retained_first count items rest some le ∙ there, cites)

heads_are : (ops : Transaction) (changed : Bool) (items : List PlainItem) (v : Value) → is_reduced ops ≡ true → old_length ops ≤ length items → Continues changed ops → Contains (heads_from changed ops items) v → AtFirst changed (edited ops items) v ⊎ IsChangedHead ops items v
heads_are [] changed items v red le on h = inl (first_head changed items v h)
heads_are (Retain count ∷ ops) changed items v red le on h =
    elim (Contains-append_cases (head_if changed items) (heads_from false ops (drop count items)) v h) [
      | inl first ↦ inl (first_on changed count items (edited ops (drop count items)) v (retains_some count ops red) (omega arith) (first_head changed items v first))
      | inr second ↦
          elim (heads_are ops false (drop count items) v (later_reduced (Retain count) ops red) (omega (arith, length-drop count items)) tt second) [
            | inl none ↦ absurd none
            | inr c ↦ inr (record {
              before = Retain count ∷ c.before;
              change = c.change;
              after = c.after;
              parts = ap (λ l. Retain count ∷ l) c.parts;
              opening = c.opening;
              there = after_retained count (new_length c.before) items (edited ops (drop count items)) (omega arith) ∙ c.there;
              cites = c.cites;
            })
          ]
    ]
heads_are (Replace removed inserted ∷ ops) true items v red le on h = absurd on
heads_are (Replace removed inserted ∷ ops) false items v red le on h =
    elim (Contains-append_cases (head_if false items) (heads_from false ops (drop (length removed) items)) v h) [
      | inl first ↦ absurd (contains_none v first)
      | inr second ↦
          elim (heads_are ops false (drop (length removed) items) v (later_reduced (Replace removed inserted) ops red) (omega (arith, length-drop (length removed) items)) tt second) [
            | inl none ↦ absurd none
            | inr c ↦ inr (record {
              before = Replace removed inserted ∷ c.before;
              change = c.change;
              after = c.after;
              parts = ap (λ l. Replace removed inserted ∷ l) c.parts;
              opening = c.opening;
              there = get-suffix inserted (edited ops (drop (length removed) items)) (new_length c.before) ∙ c.there;
              cites = c.cites;
            })
          ]
    ]
heads_are (Attribute change ∷ ops) changed items v red le on h =
    elim (heads_are ops true (on_first (item_changed change) items) v (later_reduced (Attribute change) ops red) (omega (arith, first_length (item_changed change) items)) (goes_on change ops red) h) [
      | inl (opening, there, cites) ↦ inr (record { before = []; change = change; after = ops; parts = refl; opening = opening; there = there; cites = cites })
      | inr c ↦ inr (record {
        before = Attribute change ∷ c.before;
        change = c.change;
        after = c.after;
        parts = ap (λ l. Attribute change ∷ l) c.parts;
        opening = c.opening;
        there = c.there;
        cites = c.cites;
      })
    ]

heads_first : (ops : Transaction) (items : List PlainItem) (v : Value) → is_reduced ops ≡ true → old_length ops ≤ length items → Continues true ops → AtFirst true (edited ops items) v → Contains (heads_from true ops items) v
heads_first [] items v red le on h = absurd on
heads_first (Retain count ∷ ops) items v red le on (opening, there, cites) =
    let here = sym (retained_first count items (edited ops (drop count items)) (retains_some count ops red) (omega arith)) ∙ there in
    Contains-append_left (head_if true items) (heads_from false ops (drop count items)) v (head_back items opening v here cites)
heads_first (Replace removed inserted ∷ ops) items v red le on h = absurd on
heads_first (Attribute change ∷ ops) items v red le on h =
    heads_first ops (on_first (item_changed change) items) v (later_reduced (Attribute change) ops red) (omega (arith, first_length (item_changed change) items)) (goes_on change ops red) h

heads_all : (before : Transaction) (change : AttrChange) (after : Transaction) (changed : Bool) (items : List PlainItem) (opening : PlainItem) (v : Value) → let ops = before ++ Attribute change ∷ after in
    is_reduced ops ≡ true → old_length ops ≤ length items → slice_get (edited ops items) (new_length before) ≡ Some opening → Contains (cited_head opening) v → Contains (heads_from changed ops items) v
heads_all [] change after changed items opening v red le there cites =
    heads_first after (on_first (item_changed change) items) v (later_reduced (Attribute change) after red) (omega (arith, first_length (item_changed change) items)) (goes_on change after red) (opening, there, cites)
heads_all (Retain count ∷ before) change after changed items opening v red le there cites =
    let ops = before ++ Attribute change ∷ after in
    let on = sym (after_retained count (new_length before) items (edited ops (drop count items)) (omega arith)) ∙ there in
    Contains-append_right (head_if changed items) (heads_from false ops (drop count items)) v
    (heads_all before change after false (drop count items) opening v (later_reduced (Retain count) ops red) (omega (arith, length-drop count items)) on cites)
heads_all (Replace removed inserted ∷ before) change after changed items opening v red le there cites =
    let ops = before ++ Attribute change ∷ after in
    let on = sym (get-suffix inserted (edited ops (drop (length removed) items)) (new_length before)) ∙ there in
    Contains-append_right (head_if changed items) (heads_from false ops (drop (length removed) items)) v
    (heads_all before change after false (drop (length removed) items) opening v (later_reduced (Replace removed inserted) ops red) (omega (arith, length-drop (length removed) items)) on cites)
heads_all (Attribute other ∷ before) change after changed items opening v red le there cites =
    heads_all before change after true (on_first (item_changed other) items) opening v (later_reduced (Attribute other) (before ++ Attribute change ∷ after) red) (omega (arith, first_length (item_changed other) items)) there cites

heads_back : (t : Transaction) (items : List PlainItem) (v : Value) → is_reduced t ≡ true → old_length t ≤ length items → IsChangedHead t items v → Contains (changed_heads t items) v
heads_back t items v red le c =
    let whole = c.before ++ Attribute c.change ∷ c.after in
    subst (λ ops. Contains (heads_from false ops items) v) (sym c.parts)
    (heads_all c.before c.change c.after false items c.opening v (ap is_reduced (sym c.parts) ∙ red) (subst (λ ops. old_length ops ≤ length items) c.parts le) (ap (λ ops. slice_get (edited ops items) (new_length c.before)) (sym c.parts) ∙ c.there) c.cites)

-- ---- the laws

heads_from_changed : (t : Transaction) (items : List PlainItem) (v : Value) → is_reduced t ≡ true → old_length t ≤ length items → Contains (changed_heads t items) v → IsChangedHead t items v
heads_from_changed t items v red le h = elim (heads_are t false items v red le tt h) [ inl none ↦ absurd none | inr c ↦ c ]

pub heads_are_changed : HeadsAreChanged
heads_are_changed t items v red le = (λ h. heads_from_changed t items v red le h, λ c. heads_back t items v red le c)

brought_from : (t : Transaction) (items : List PlainItem) (v : Value) → is_reduced t ≡ true → old_length t ≤ length items → Contains (brought t items) v → IsInserted t v ⊎ IsChangedHead t items v
brought_from t items v red le h =
    elim (Contains-append_cases (cited (all_inserted t)) (changed_heads t items) v h) [
      | inl inserted ↦ inl (cited_from (all_inserted t) v inserted)
      | inr head ↦ inr (heads_from_changed t items v red le head)
    ]

brought_all : (t : Transaction) (items : List PlainItem) (v : Value) → is_reduced t ≡ true → old_length t ≤ length items → IsInserted t v ⊎ IsChangedHead t items v → Contains (brought t items) v
brought_all t items v red le (inl (item, within, by)) = Contains-append_left (cited (all_inserted t)) (changed_heads t items) v (cited_all (all_inserted t) item v within by)
brought_all t items v red le (inr c) = Contains-append_right (cited (all_inserted t)) (changed_heads t items) v (heads_back t items v red le c)

pub brought_is_new : BroughtIsNew
brought_is_new t items v red le = (λ h. brought_from t items v red le h, λ h. brought_all t items v red le h)
