-- A retained item is changed by the attribute operations of its position alone.
use Rattle.std.proofs.Common.{◌≡◌, ℕ, zero, suc, ◌+◌, ◌-◌, ◌<◌, ◌≤◌, Bool, true, false, ◌==◌, nat_lt, if◌then◌else◌, List, [], ◌∷◌, length, take, drop, slice_get, Option, Some, None, option_map, ◌⊎◌, inl, inr, refl, sym, ap, ◌∙◌, arith, eq-eqb, ltb-true}
use Rattle.std.proofs.lemmas.Bool.{ltb-false, ne_eqb}
use Rattle.std.proofs.lemmas.List.{length-take-le}
use Rattle.std.proofs.lemmas.Option.{slice_get_within}
use Rattle.model_items.specs.declared.plain_item.PlainItem.{PlainItem}
use Rattle.model_items.specs.declared.plain_item.PlainItem.TheVariants.{Char, Opening, Closing}
use Rattle.model_change.specs.Attributes.{AttrChange, item_changed}
use Rattle.model_change.specs.Transaction.{Retain, Replace, Attribute, Transaction, edited}
use Rattle.model_change.specs.Fault.{placed_changes}
use Rattle.model_change.specs.Touch.{new_place}
use Rattle.model_change.proofs.TouchLemmas.{get-suffix, get-take-append}
use Rattle.model_change_law.specs.Retained.{changes_at, all_changed, without_attrs, RetainedIsChanged, AttributesAloneChange}

get-drop : (n : ℕ) (xs : List PlainItem) (i : ℕ) → n ≤ i → slice_get (drop n xs) (i - n) ≡ slice_get xs i
get-drop zero xs i h = ap (slice_get xs) (omega arith)
get-drop (suc n) [] i h = refl
get-drop (suc n) (x ∷ xs) zero h = absurd (omega arith)
get-drop (suc n) (x ∷ xs) (suc i) h = let e : suc i - suc n ≡ i - n = omega arith in ap (slice_get (drop n xs)) e ∙ get-drop n xs i (omega arith)

-- a position that is passed by so many items
passed_by : (to n : ℕ) (o : Option ℕ) → option_map (λ p. n + p) o ≡ Some to → (p : ℕ) × (o ≡ Some p) × (n + p ≡ to)
passed_by to n None h = cc
passed_by to n (Some p) h = let e : n + p ≡ to = cc in (p, refl, e)

-- a position that comes of a choice: within what is passed, or after it
place_by : (b : Bool) (at to n : ℕ) (o : Option ℕ) → (if b then Some at else option_map (λ p. n + p) o) ≡ Some to →
    ((b ≡ true) × (at ≡ to)) ⊎ ((b ≡ false) × ((p : ℕ) × (o ≡ Some p) × (n + p ≡ to)))
place_by true at to n o h = let e : at ≡ to = cc in inl (refl, e)
place_by false at to n o h = inr (refl, passed_by to n o h)

place_after : (b : Bool) (to n : ℕ) (o : Option ℕ) → (if b then None else option_map (λ p. n + p) o) ≡ Some to →
    (b ≡ false) × ((p : ℕ) × (o ≡ Some p) × (n + p ≡ to))
place_after true to n o h = cc
place_after false to n o h = (refl, passed_by to n o h)

-- an operation at a position, and one at another
here : (change : AttrChange) (later : List AttrChange) (b : Bool) → b ≡ true → (if b then change ∷ later else later) ≡ change ∷ later
here change later true h = refl
here change later false h = cc

elsewhere : (change : AttrChange) (later : List AttrChange) (b : Bool) → b ≡ false → (if b then change ∷ later else later) ≡ later
elsewhere change later true h = cc
elsewhere change later false h = refl

-- operations that stand from a later position on say nothing of an earlier one
none_before : (ops : Transaction) (from at : ℕ) → at < from → changes_at at (placed_changes from ops) ≡ []
none_before [] from at past = refl
none_before (Retain count ∷ ops) from at past = none_before ops (from + count) at (omega arith)
none_before (Replace removed inserted ∷ ops) from at past = none_before ops (from + length removed) at (omega arith)
none_before (Attribute change ∷ ops) from at past =
    elsewhere change (changes_at at (placed_changes from ops)) (from == at) (ne_eqb from at (λ same. absurd (omega arith)))
    ∙ none_before ops from at past

abbrev After : Transaction → ℕ → ℕ → PlainItem → PlainItem
After ops from at old = all_changed (changes_at (from + at) (placed_changes from ops)) old

stays : (ops : Transaction) (items : List PlainItem) (from at to : ℕ) (old : PlainItem) → new_place ops at ≡ Some to → slice_get items at ≡ Some old →
    slice_get (edited ops items) to ≡ Some (After ops from at old)
stays [] items from at to old placed there = cc
stays (Retain count ∷ ops) items from at to old placed there =
    elim (place_by (nat_lt at count) at to count (new_place ops (at - count)) placed) [
      | inl within ↦
          let low : at < count = ltb-true at count within.0 in
          ap (slice_get (edited (Retain count ∷ ops) items)) (sym within.1)
          ∙ get-take-append count items (edited ops (drop count items)) at low (slice_get_within items at old there)
          ∙ there
          ∙ ap (λ changes. Some (all_changed changes old)) (sym (none_before ops (from + count) (from + at) (omega arith)))
      | inr on ↦
          let past : count ≤ at = ltb-false at count on.0 in
          let inside = slice_get_within items at old there in
          let rest = stays ops (drop count items) (from + count) (at - count) on.1.0 old on.1.1 (get-drop count items at past ∙ there) in
          let long : length (take count items) ≡ count = length-take-le count items (omega arith) in
          let sum = on.1.2 in
          let place : to ≡ length (take count items) + on.1.0 = omega arith in
          let same : (from + count) + (at - count) ≡ from + at = omega arith in
          ap (slice_get (edited (Retain count ∷ ops) items)) place
          ∙ get-suffix (take count items) (edited ops (drop count items)) on.1.0
          ∙ rest
          ∙ ap (λ p. Some (all_changed (changes_at p (placed_changes (from + count) ops)) old)) same
    ]
stays (Replace removed inserted ∷ ops) items from at to old placed there =
    let on = place_after (nat_lt at (length removed)) to (length inserted) (new_place ops (at - length removed)) placed in
    let past : length removed ≤ at = ltb-false at (length removed) on.0 in
    let rest = stays ops (drop (length removed) items) (from + length removed) (at - length removed) on.1.0 old on.1.1
    (get-drop (length removed) items at past ∙ there) in
    let same : (from + length removed) + (at - length removed) ≡ from + at = omega arith in
    ap (slice_get (edited (Replace removed inserted ∷ ops) items)) (sym on.1.2)
    ∙ get-suffix inserted (edited ops (drop (length removed) items)) on.1.0
    ∙ rest
    ∙ ap (λ p. Some (all_changed (changes_at p (placed_changes (from + length removed) ops)) old)) same
stays (Attribute c ∷ ops) [] from at to old placed there = cc
stays (Attribute c ∷ ops) (x ∷ items) from zero to old placed there =
    let same : x ≡ old = cc in
    let rest = stays ops (item_changed c x ∷ items) from zero to (item_changed c x) placed refl in
    let it : from ≡ from + 0 = omega arith in
    rest
    ∙ ap (λ item. Some (all_changed (changes_at (from + 0) (placed_changes from ops)) (item_changed c item))) same
    ∙ ap (λ changes. Some (all_changed changes old)) (sym (here c (changes_at (from + 0) (placed_changes from ops)) (from == from + 0) (eq-eqb from (from + 0) it)))
stays (Attribute c ∷ ops) (x ∷ items) from (suc at) to old placed there =
    let rest = stays ops (item_changed c x ∷ items) from (suc at) to old placed there in
    rest
    ∙ ap (λ changes. Some (all_changed changes old))
    (sym (elsewhere c (changes_at (from + suc at) (placed_changes from ops)) (from == from + suc at) (ne_eqb from (from + suc at) (λ e. absurd (omega arith)))))

pub retained_is_changed : RetainedIsChanged
retained_is_changed t items at to old placed there =
    let e : 0 + at ≡ at = omega arith in
    stays t items 0 at to old placed there ∙ ap (λ p. Some (all_changed (changes_at p (placed_changes 0 t)) old)) e

without-changed : (c : AttrChange) (item : PlainItem) → without_attrs (item_changed c item) ≡ without_attrs item
without-changed c (Char ch marks) = refl
without-changed c (Opening kind head marks pre origin generated) = refl
without-changed c (Closing kind pre) = refl

pub attributes_alone_change : AttributesAloneChange
attributes_alone_change [] item = refl
attributes_alone_change (c ∷ changes) item = attributes_alone_change changes (item_changed c item) ∙ without-changed c item
