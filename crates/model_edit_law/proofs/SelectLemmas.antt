-- Offsets and selections after a transaction.
use Rattle.std.proofs.Common.{◌≡◌, ◌⊎◌, inl, inr, ℕ, suc, ◌+◌, ◌-◌, ◌<◌, ◌≤◌, min, max, Bool, true, false, ◌&&◌, ◌==◌, if◌then◌else◌, nat_le, nat_lt, List, [], ◌∷◌, length, Option, Some, None, option_map, refl, sym, ap, ◌∙◌, subst, arith}
use Rattle.std.proofs.lemmas.Bool.{le-leb, leb-true, leb-false, lt-ltb, ltb-true, ltb-false, le-ltb, lt-leb, eqb-true, eqb-false, cases_lt}
use Rattle.model_items.specs.declared.plain_item.PlainItem.{PlainItem}
use Rattle.model_change.specs.Transaction.{Retain, Replace, Attribute, Transaction, old_length, new_length}
use Rattle.model_change.specs.Join.{without_end, reach, start_of, end_of}
use Rattle.model_change.specs.Touch.{new_place}
use Rattle.model_change.proofs.Fits.{gives_new_length}
use Rattle.model_edit.specs.declared.selection.Bias.{Bias}
use Rattle.model_edit.specs.declared.selection.Bias.TheVariants.{Left, Right}
use Rattle.model_edit.specs.declared.selection.Selection.{Selection}
use Rattle.model_items.specs.Offsets.{is_inside_leaf}
use Rattle.model_edit.specs.Translate.{is_before, items_before, translate, translate_range, between, past_leaf}
use Rattle.model_edit_law.specs.SelectLaws.{OffsetsStayWithin, OffsetsKeepOrder, OffsetsKeepNeighbours, OffsetsOutsideStay, selects, SelectionKeepsItems, KeepsDirection, SelectionKeepsDirection}

-- within the new list

counted_within : (b : Bool) (n : ℕ) → (if b then n else 0) ≤ n
counted_within true n = omega arith
counted_within false n = omega arith

within_new : (bias : Bias) (offset at : ℕ) (ops : Transaction) → items_before bias offset at ops ≤ new_length ops
within_new bias offset at [] = omega arith
within_new bias offset at (Retain count ∷ ops) = let rest = within_new bias offset (at + count) ops in omega arith
within_new bias offset at (Replace removed inserted ∷ ops) =
    let rest = within_new bias offset (at + length removed) ops in
    let here = counted_within (is_before bias at offset) (length inserted) in
    omega arith
within_new bias offset at (Attribute change ∷ ops) = within_new bias offset at ops

pub offsets_stay_within : OffsetsStayWithin
offsets_stay_within t items offset bias applies = subst (λ n. translate t offset bias ≤ n) (sym (gives_new_length t items applies)) (within_new bias offset 0 t)

-- in order

-- what counts as before the first counts as before the second
abbrev Earlier : Bias → ℕ → Bias → ℕ → Type 0
Earlier bias low bias' high = (place : ℕ) → is_before bias place low ≡ true → is_before bias' place high ≡ true

rises : (bias bias' : Bias) (low high at : ℕ) (ops : Transaction) → low ≤ high → Earlier bias low bias' high →
    items_before bias low at ops ≤ items_before bias' high at ops
rises bias bias' low high at [] h e = omega arith
rises bias bias' low high at (Retain count ∷ ops) h e = let rest = rises bias bias' low high (at + count) ops h e in omega arith
rises bias bias' low high at (Replace removed inserted ∷ ops) h e =
    let rest = rises bias bias' low high (at + length removed) ops h e in
    let here = both (is_before bias at low) (is_before bias' at high) (e at) in
    omega arith
  where
    both : (b d : Bool) → (b ≡ true → d ≡ true) → (if b then length inserted else 0) ≤ (if d then length inserted else 0)
    both true true f = omega arith
    both true false f = let e = f refl in cc
    both false true f = omega arith
    both false false f = omega arith
rises bias bias' low high at (Attribute change ∷ ops) h e = rises bias bias' low high at ops h e

alike_earlier : (bias : Bias) (low high : ℕ) → low ≤ high → Earlier bias low bias high
alike_earlier Left low high h place e = let l = ltb-true place low e in lt-ltb place high (omega arith)
alike_earlier Right low high h place e = let l = leb-true place low e in le-leb place high (omega arith)

pub offsets_keep_order : OffsetsKeepOrder
offsets_keep_order t low high = record {
  sides = rises Left Right low low 0 t (omega arith) (λ place e. let l = ltb-true place low e in le-leb place low (omega arith));
  apart = λ h. rises Right Left low high 0 t (omega arith) (λ place e. let l = leb-true place low e in lt-ltb place high (omega arith));
  alike = λ bias h. rises bias bias low high 0 t h (alike_earlier bias low high h);
}

-- neighbours

-- at a position past the offset no more items come before it
none_left : (offset at : ℕ) (ops : Transaction) → offset ≤ at → items_before Left offset at ops ≡ 0
none_left offset at [] h = refl
none_left offset at (Retain count ∷ ops) h = let rest = none_left offset (at + count) ops (omega arith) in omega arith
none_left offset at (Replace removed inserted ∷ ops) h =
    let rest = none_left offset (at + length removed) ops (omega arith) in
    let here : nat_lt at offset ≡ false = le-ltb at offset h in
    ap (λ b. (if b then length inserted else 0) + items_before Left offset (at + length removed) ops) here ∙ omega arith
none_left offset at (Attribute change ∷ ops) h = none_left offset at ops h

none_right : (offset at : ℕ) (ops : Transaction) → offset < at → items_before Right offset at ops ≡ 0
none_right offset at [] h = refl
none_right offset at (Retain count ∷ ops) h = let rest = none_right offset (at + count) ops (omega arith) in omega arith
none_right offset at (Replace removed inserted ∷ ops) h =
    let rest = none_right offset (at + length removed) ops (omega arith) in
    let here : nat_le at offset ≡ false = lt-leb at offset h in
    ap (λ b. (if b then length inserted else 0) + items_before Right offset (at + length removed) ops) here ∙ omega arith
none_right offset at (Attribute change ∷ ops) h = none_right offset at ops h

-- a position that comes of a choice
place_by : (b : Bool) (at to : ℕ) (o : Option ℕ) (n : ℕ) → (if b then Some at else option_map (λ p. n + p) o) ≡ Some to →
    ((b ≡ true) × (at ≡ to)) ⊎ ((b ≡ false) × ((p : ℕ) × (o ≡ Some p) × (n + p ≡ to)))
place_by true at to o n h = let e : at ≡ to = cc in inl (refl, e)
place_by false at to None n h = cc
place_by false at to (Some p) n h = let e : n + p ≡ to = cc in inr (refl, (p, refl, e))

place_after : (b : Bool) (to : ℕ) (o : Option ℕ) (n : ℕ) → (if b then None else option_map (λ p. n + p) o) ≡ Some to →
    (b ≡ false) × ((p : ℕ) × (o ≡ Some p) × (n + p ≡ to))
place_after true to o n h = cc
place_after false to None n h = cc
place_after false to (Some p) n h = let e : n + p ≡ to = cc in (refl, (p, refl, e))

-- the operations begin at old position `start`
to_its_right : (ops : Transaction) (start at to : ℕ) → new_place ops at ≡ Some to → items_before Right (start + at) start ops ≡ to
to_its_right [] start at to h = cc
to_its_right (Retain count ∷ ops) start at to h =
    elim (place_by (nat_lt at count) at to (new_place ops (at - count)) count h) [
      | inl here ↦
          let low = ltb-true at count here.0 in
          let none = none_right (start + at) (start + count) ops (omega arith) in
          let same = here.1 in
          omega arith
      | inr later ↦
          let past = ltb-false at count later.0 in
          let rest = to_its_right ops (start + count) (at - count) later.1.0 later.1.1 in
          let e : (start + count) + (at - count) ≡ start + at = omega arith in
          let rest' : items_before Right (start + at) (start + count) ops ≡ later.1.0 = subst (λ n. items_before Right n (start + count) ops ≡ later.1.0) e rest in
          let sum = later.1.2 in
          omega arith
    ]
to_its_right (Replace removed inserted ∷ ops) start at to h =
    let later = place_after (nat_lt at (length removed)) to (new_place ops (at - length removed)) (length inserted) h in
    let past = ltb-false at (length removed) later.0 in
    let rest = to_its_right ops (start + length removed) (at - length removed) later.1.0 later.1.1 in
    let e : (start + length removed) + (at - length removed) ≡ start + at = omega arith in
    let counted : nat_le start (start + at) ≡ true = le-leb start (start + at) (omega arith) in
    ap (λ b. (if b then length inserted else 0) + items_before Right (start + at) (start + length removed) ops) counted
    ∙ ap (λ n. length inserted + n) (subst (λ n. items_before Right n (start + length removed) ops ≡ later.1.0) e rest) ∙ later.1.2
to_its_right (Attribute change ∷ ops) start at to h = to_its_right ops start at to h

to_its_left : (ops : Transaction) (start at to : ℕ) → new_place ops at ≡ Some to → items_before Left (start + suc at) start ops ≡ suc to
to_its_left [] start at to h = cc
to_its_left (Retain count ∷ ops) start at to h =
    elim (place_by (nat_lt at count) at to (new_place ops (at - count)) count h) [
      | inl here ↦
          let low = ltb-true at count here.0 in
          let none = none_left (start + suc at) (start + count) ops (omega arith) in
          let same = here.1 in
          omega arith
      | inr later ↦
          let past = ltb-false at count later.0 in
          let rest = to_its_left ops (start + count) (at - count) later.1.0 later.1.1 in
          let e : (start + count) + suc (at - count) ≡ start + suc at = omega arith in
          let rest' : items_before Left (start + suc at) (start + count) ops ≡ suc later.1.0 = subst (λ n. items_before Left n (start + count) ops ≡ suc later.1.0) e rest in
          let sum = later.1.2 in
          omega arith
    ]
to_its_left (Replace removed inserted ∷ ops) start at to h =
    let later = place_after (nat_lt at (length removed)) to (new_place ops (at - length removed)) (length inserted) h in
    let past = ltb-false at (length removed) later.0 in
    let rest = to_its_left ops (start + length removed) (at - length removed) later.1.0 later.1.1 in
    let e : (start + length removed) + suc (at - length removed) ≡ start + suc at = omega arith in
    let counted : nat_lt start (start + suc at) ≡ true = lt-ltb start (start + suc at) (omega arith) in
    let sum = later.1.2 in
    ap (λ b. (if b then length inserted else 0) + items_before Left (start + suc at) (start + length removed) ops) counted
    ∙ ap (λ n. length inserted + n) (subst (λ n. items_before Left n (start + length removed) ops ≡ suc later.1.0) e rest) ∙ omega arith
to_its_left (Attribute change ∷ ops) start at to h = to_its_left ops start at to h

pub offsets_keep_neighbours : OffsetsKeepNeighbours
offsets_keep_neighbours t at to h =
    let e : 0 + at ≡ at = omega arith in
    let f : 0 + suc at ≡ suc at = omega arith in
    (ap (λ n. items_before Right n 0 t) (sym e) ∙ to_its_right t 0 at to h, ap (λ n. items_before Left n 0 t) (sym f) ∙ to_its_left t 0 at to h)

-- outside the active range

-- the offset lies after what the operations change, and is not passed
module _ (bias : Bias) (offset : ℕ) where
  -- an insertion at the end counts where it is to the left
  abbrev Following : ℕ → Type 0
  Following at = (place : ℕ) → place ≤ at → is_before bias place offset ≡ true

  after_all : (ops : Transaction) (at : ℕ) → Following (at + reach (without_end ops)) → at + reach (without_end ops) ≤ offset → offset ≤ at + old_length ops →
      items_before bias offset at ops + (at + old_length ops) ≡ offset + new_length ops
  after_all [] at b low high = omega arith
  after_all (Retain count ∷ []) at b low high = omega arith
  after_all (Retain count ∷ (op ∷ ops)) at b low high =
      let e : (at + count) + reach (without_end (op ∷ ops)) ≡ at + (count + reach (without_end (op ∷ ops))) = omega arith in
      let rest = after_all (op ∷ ops) (at + count) (subst Following (sym e) b) (omega arith) (omega arith) in
      omega arith
  after_all (Replace removed inserted ∷ ops) at b low high =
      let e : (at + length removed) + reach (without_end ops) ≡ at + (length removed + reach (without_end ops)) = omega arith in
      let rest = after_all ops (at + length removed) (subst Following (sym e) b) (omega arith) (omega arith) in
      let here : is_before bias at offset ≡ true = b at (omega arith) in
      ap (λ d. ((if d then length inserted else 0) + items_before bias offset (at + length removed) ops) + (at + (length removed + old_length ops))) here ∙ omega arith
  after_all (Attribute change ∷ ops) at b low high =
      after_all ops at (λ place h. b place (omega arith)) (omega arith) high

  after_by : (t : Transaction) → Following (end_of t) → end_of t ≤ offset → offset ≤ old_length t → translate t offset bias + old_length t ≡ offset + new_length t
  after_by [] b low high = omega arith
  after_by (Retain count ∷ ops) b low high =
      let e : 0 + count ≡ count = omega arith in
      let rest = after_all ops count b low high in
      let rest' : items_before bias offset (0 + count) ops + (count + old_length ops) ≡ offset + new_length ops = subst (λ n. items_before bias offset n ops + (count + old_length ops) ≡ offset + new_length ops) (sym e) rest in
      omega arith
  after_by (Replace removed inserted ∷ ops) b low high =
      let all = after_all (Replace removed inserted ∷ ops) 0 b low (omega arith) in omega arith
  after_by (Attribute change ∷ ops) b low high =
      let all = after_all (Attribute change ∷ ops) 0 b low (omega arith) in omega arith

before_by : (bias : Bias) (t : Transaction) (offset : ℕ) → offset ≤ start_of t → ((ops : Transaction) → items_before bias offset (start_of t) ops ≡ 0) → translate t offset bias ≡ offset
before_by bias [] offset h none = omega arith
before_by bias (Retain count ∷ ops) offset h none =
    let e : 0 + count ≡ count = omega arith in
    let rest : items_before bias offset (0 + count) ops ≡ 0 = subst (λ n. items_before bias offset n ops ≡ 0) (sym e) (none ops) in
    omega arith
before_by bias (Replace removed inserted ∷ ops) offset h none = let z = none (Replace removed inserted ∷ ops) in z ∙ omega arith
before_by bias (Attribute change ∷ ops) offset h none = let z = none (Attribute change ∷ ops) in z ∙ omega arith

pub offsets_outside_stay : OffsetsOutsideStay
offsets_outside_stay t offset = record {
  before = before;
  past = λ h inside bias. after_by bias offset t (λ place p. counted bias place (omega arith)) (omega arith) inside;
  at_start = λ h. before_by Left t offset (omega arith) (λ ops. none_left offset (start_of t) ops (omega arith));
  at_end = λ h inside. after_by Right offset t (λ place p. le-leb place offset (omega arith)) (omega arith) inside;
}
  where
    before : offset < start_of t → (bias : Bias) → translate t offset bias ≡ offset
    before h Left = before_by Left t offset (omega arith) (λ ops. none_left offset (start_of t) ops (omega arith))
    before h Right = before_by Right t offset (omega arith) (λ ops. none_right offset (start_of t) ops h)

    counted : (bias : Bias) (place : ℕ) → place < offset → is_before bias place offset ≡ true
    counted Left place h = lt-ltb place offset h
    counted Right place h = le-leb place offset (omega arith)

-- selections

-- an item between two offsets
between_them : (t : Transaction) (low high at to : ℕ) → low ≤ high → new_place t at ≡ Some to →
    (nat_le (translate t low Right) to && nat_lt to (translate t high Left)) ≡ (nat_le low at && nat_lt at high)
between_them t low high at to h placed = by_tests (nat_le low at) (nat_lt at high) refl refl
  where
    near : (translate t at Right ≡ to) × (translate t (suc at) Left ≡ suc to)
    near = offsets_keep_neighbours t at to placed

    by_tests : (b d : Bool) → nat_le low at ≡ b → nat_lt at high ≡ d → (nat_le (translate t low Right) to && nat_lt to (translate t high Left)) ≡ (b && d)
    by_tests false d e f =
        let below = leb-false low at e in
        let n = near.1 in
        let a = (offsets_keep_order t (suc at) low).alike Left (omega arith) in
        let b = (offsets_keep_order t low low).sides in
        ap (λ v. v && nat_lt to (translate t high Left)) (lt-leb (translate t low Right) to (omega arith))
    by_tests true true e f =
        let lower = leb-true low at e in
        let higher = ltb-true at high f in
        let n = near.0 in
        let m = near.1 in
        let a = (offsets_keep_order t low at).alike Right (omega arith) in
        let b = (offsets_keep_order t (suc at) high).alike Left (omega arith) in
        ap (λ v. v && nat_lt to (translate t high Left)) (le-leb (translate t low Right) to (omega arith)) ∙ lt-ltb to (translate t high Left) (omega arith)
    by_tests true false e f =
        let lower = leb-true low at e in
        let higher = ltb-false at high f in
        let n = near.0 in
        let a = (offsets_keep_order t low at).alike Right (omega arith) in
        let b = (offsets_keep_order t high high).sides in
        let c = (offsets_keep_order t high at).alike Right (omega arith) in
        ap (λ v. v && nat_lt to (translate t high Left)) (le-leb (translate t low Right) to (omega arith)) ∙ le-ltb to (translate t high Left) (omega arith)

-- by the ends in order
selects_by : (s : Selection) (low high at : ℕ) → min s.anchor s.focus ≡ low → max s.anchor s.focus ≡ high → selects s at ≡ (nat_le low at && nat_lt at high)
selects_by s low high at e f = λ i. nat_le (e i) at && nat_lt at (f i)

none_selected : (s : Selection) (at : ℕ) → s.anchor ≡ s.focus → selects s at ≡ false
none_selected s at e = by_test (nat_le (min s.anchor s.focus) at) refl
  where
    by_test : (b : Bool) → nat_le (min s.anchor s.focus) at ≡ b → selects s at ≡ false
    by_test false f = ap (λ v. v && nat_lt at (max s.anchor s.focus)) f
    by_test true f =
        let low = leb-true (min s.anchor s.focus) at f in
        ap (λ v. v && nat_lt at (max s.anchor s.focus)) f ∙ le-ltb at (max s.anchor s.focus) (omega arith)

abbrev moved_by : Transaction → Selection → Bool → Bool → Selection
moved_by t s same below =
    if same then between (translate t s.anchor Left) (translate t s.focus Left)
    else (if below then between (translate t s.anchor Right) (translate t s.focus Left)
    else between (translate t s.anchor Left) (translate t s.focus Right))

pub selection_keeps_items : SelectionKeepsItems
selection_keeps_items t s at to placed = by_ends (s.anchor == s.focus) (nat_lt s.anchor s.focus) refl refl
  where
    by_ends : (same below : Bool) → (s.anchor == s.focus) ≡ same → nat_lt s.anchor s.focus ≡ below → selects (moved_by t s same below) to ≡ selects s at
    by_ends true below e f =
        let equal = eqb-true s.anchor s.focus e in
        none_selected (between (translate t s.anchor Left) (translate t s.focus Left)) to (ap (λ n. translate t n Left) equal)
        ∙ sym (none_selected s at equal)
    by_ends false true e f =
        let low = ltb-true s.anchor s.focus f in
        let order = (offsets_keep_order t s.anchor s.focus).apart low in
        selects_by (between (translate t s.anchor Right) (translate t s.focus Left)) (translate t s.anchor Right) (translate t s.focus Left) to (omega arith) (omega arith)
        ∙ between_them t s.anchor s.focus at to (omega arith) placed
        ∙ sym (selects_by s s.anchor s.focus at (omega arith) (omega arith))
    by_ends false false e f =
        let high = ltb-false s.anchor s.focus f in
        let other = eqb-false s.anchor s.focus e in
        let order = (offsets_keep_order t s.focus s.anchor).apart (omega arith) in
        selects_by (between (translate t s.anchor Left) (translate t s.focus Right)) (translate t s.focus Right) (translate t s.anchor Left) to (omega arith) (omega arith)
        ∙ between_them t s.focus s.anchor at to high placed
        ∙ sym (selects_by s s.focus s.anchor at (omega arith) (omega arith))

range_keeps_direction : (t : Transaction) (s : Selection) → KeepsDirection s (translate_range t s)
range_keeps_direction t s = by_ends (s.anchor == s.focus) (nat_lt s.anchor s.focus) refl refl
  where
    by_ends : (same below : Bool) → (s.anchor == s.focus) ≡ same → nat_lt s.anchor s.focus ≡ below → KeepsDirection s (moved_by t s same below)
    by_ends true below e f =
        let equal : translate t s.anchor Left ≡ translate t s.focus Left = ap (λ n. translate t n Left) (eqb-true s.anchor s.focus e) in
        record { forward = λ h. omega arith; backward = λ h. omega arith }
    by_ends false true e f =
        let low = ltb-true s.anchor s.focus f in
        let order = (offsets_keep_order t s.anchor s.focus).apart low in
        record { forward = λ h. order; backward = λ h. absurd (omega arith) }
    by_ends false false e f =
        let high = ltb-false s.anchor s.focus f in
        let other = eqb-false s.anchor s.focus e in
        let order = (offsets_keep_order t s.focus s.anchor).apart (omega arith) in
        record { forward = λ h. absurd (other (omega arith)); backward = λ h. order }

-- leaving leaves keeps the order
past_leaf_order : (new : List PlainItem) (low high : ℕ) → low ≤ high → past_leaf new low ≤ past_leaf new high
past_leaf_order new low high h =
    elim (cases_lt low high) [
      | inl less ↦
          let a = at_most_one (is_inside_leaf new low) low in
          let b = at_least (is_inside_leaf new high) high in
          omega arith
      | inr not_less ↦ let e : low ≡ high = omega arith in subst (λ n. past_leaf new low ≤ past_leaf new n) e (omega arith)
    ]
  where
    at_most_one : (b : Bool) (n : ℕ) → (if b then suc n else n) ≤ suc n
    at_most_one true n = omega arith
    at_most_one false n = omega arith

    at_least : (b : Bool) (n : ℕ) → n ≤ (if b then suc n else n)
    at_least true n = omega arith
    at_least false n = omega arith

pub selection_keeps_direction : SelectionKeepsDirection
selection_keeps_direction t new s =
    let r = range_keeps_direction t s in (
      r,
      record {
        forward = λ h. past_leaf_order new (translate_range t s).anchor (translate_range t s).focus (r.forward h);
        backward = λ h. past_leaf_order new (translate_range t s).focus (translate_range t s).anchor (r.backward h);
      },
    )
