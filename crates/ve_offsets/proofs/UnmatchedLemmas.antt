-- How many brackets of a range are unmatched: what is left when openings and closings of the range
-- are paired, read from its end.
use Rattle.std.specs.Prelude.{count_by, filter, slice_get}
use Rattle.std.specs.List.{range_with_len}
use Rattle.std.proofs.Common.{◌≡◌, ◌≤◌, ◌<◌, ◌+◌, ◌-◌, ◌⊎◌, inl, inr, ℕ, zero, suc, Bool, true, false, cond, not, ◌&&◌, nat_le, nat_lt, List, [], ◌∷◌, ◌++◌, length, take, drop, Some, refl, sym, ap, ◌∙◌, subst, arith, append-nil, zero-add, length-drop}
use Rattle.std.proofs.lemmas.Bool.{cases_Bool, and_from, le-leb, lt-ltb, leb-true, ltb-true}
use Rattle.std.proofs.lemmas.List.{take-append-drop, length-map, length-take-le}
use Rattle.std.proofs.lemmas.List.Sums.{sum_by-cons}
use Rattle.model_items.specs.declared.plain_item.PlainItem.{PlainItem}
use Rattle.model_items.specs.declared.plain_item.PlainItem.TheVariants.{Char, Opening, Closing}
use Rattle.model_items.specs.Law.{start, finish, step, after, Lawful}
use Rattle.model_items.specs.Tree.{Open, opens_with, opens_after, length_to_close}
use Rattle.model_items.specs.Offsets.{is_opening, is_closing, passes, opens_at, first_from, partner, partner_of, is_unmatched, unmatched_counts}
use Rattle.model_items.proofs.LawLemmas.{joined-ok, closed_before, after_parts, after_from_Lawful}
use Rattle.model_items.proofs.NodeAtLemmas.{open_is_stack}

-- the closings of some items that no opening among them is left for
abbrev pub closings_left : List PlainItem → ℕ
closings_left [] = 0
closings_left (Char c marks ∷ items) = closings_left items
closings_left (Opening kind head marks pre origin generated ∷ items) = closings_left items - 1
closings_left (Closing kind pre ∷ items) = suc (closings_left items)

-- the openings of some items that no closing among them is left for
abbrev pub openings_left : List PlainItem → ℕ
openings_left [] = 0
openings_left (Char c marks ∷ items) = openings_left items
openings_left (Opening kind head marks pre origin generated ∷ items) = (1 - closings_left items) + openings_left items
openings_left (Closing kind pre ∷ items) = openings_left items

-- an open node that one of the closings is for ends among the items
close_in : (xs ys : List PlainItem) (d : ℕ) → d < closings_left xs → length_to_close d (xs ++ ys) ≤ length xs
close_in [] ys d h = absurd (omega (arith, h))
close_in (Char c marks ∷ xs) ys d h = let r = close_in xs ys d h in omega (arith, r)
close_in (Opening kind head marks pre origin generated ∷ xs) ys d h = let r = close_in xs ys (suc d) (omega (arith, h)) in omega (arith, r)
close_in (Closing kind pre ∷ xs) ys zero h = omega arith
close_in (Closing kind pre ∷ xs) ys (suc d) h = let r = close_in xs ys d (omega (arith, h)) in omega (arith, r)

close_some : (ys : List PlainItem) (d : ℕ) → 0 < length ys → 0 < length_to_close d ys
close_some [] d some = some
close_some (Char c marks ∷ ys) d some = omega arith
close_some (Opening kind head marks pre origin generated ∷ ys) d some = omega arith
close_some (Closing kind pre ∷ ys) zero some = omega arith
close_some (Closing kind pre ∷ ys) (suc d) some = omega arith

-- any other ends past them
close_past : (xs ys : List PlainItem) (d : ℕ) → closings_left xs ≤ d → 0 < length ys → length xs < length_to_close d (xs ++ ys)
close_past [] ys d h some = close_some ys d some
close_past (Char c marks ∷ xs) ys d h some = let r = close_past xs ys d h some in omega (arith, r)
close_past (Opening kind head marks pre origin generated ∷ xs) ys d h some = let r = close_past xs ys (suc d) (omega (arith, h)) some in omega (arith, r)
close_past (Closing kind pre ∷ xs) ys zero h some = absurd (omega (arith, h))
close_past (Closing kind pre ∷ xs) ys (suc d) h some = let r = close_past xs ys d (omega (arith, h)) some in omega (arith, r)

-- so many nodes are open after the items
open_count : (xs : List PlainItem) (opens : List Open) (at : ℕ) → length (opens_after opens at xs) ≡ (length opens - closings_left xs) + openings_left xs
open_count [] opens at = omega arith
open_count (Char c marks ∷ xs) opens at = open_count xs opens (suc at)
open_count (Opening kind head marks pre origin generated ∷ xs) opens at =
    let r = open_count xs (record { kind = kind; from = at } ∷ opens) (suc at) in omega (arith, r)
open_count (Closing kind pre ∷ xs) [] at = let r = open_count xs [] (suc at) in omega (arith, r)
open_count (Closing kind pre ∷ xs) (o ∷ opens) at = let r = open_count xs opens (suc at) in omega (arith, r)

pub opens_append : (opens : List Open) (at : ℕ) (xs ys : List PlainItem) → opens_after opens at (xs ++ ys) ≡ opens_after (opens_after opens at xs) (at + length xs) ys
opens_append opens at [] ys = let n : at ≡ at + 0 = omega arith in ap (λ n. opens_after opens n ys) n
opens_append opens at (x ∷ xs) ys =
    let n : suc at + length xs ≡ at + suc (length xs) = omega arith in
    opens_append (opens_with x at opens) (suc at) xs ys
    ∙ ap (λ n. opens_after (opens_after (opens_with x at opens) (suc at) xs) n ys) n

-- what the rest of a list from a position on tells of the position
pub place_rest : (whole : List PlainItem) (at : ℕ) (x : PlainItem) (rest : List PlainItem) → drop at whole ≡ x ∷ rest →
    (slice_get whole at ≡ Some x) × (drop (suc at) whole ≡ rest) × (take (suc at) whole ≡ take at whole ++ x ∷ [])
place_rest [] zero x rest h = absurd (cc)
place_rest [] (suc at) x rest h = absurd (cc)
place_rest (y ∷ whole) zero x rest h =
    let same : y ≡ x = cc in
    let later : whole ≡ rest = cc in
    (ap (λ v. Some v) same, later, ap (λ v. v ∷ []) same)
place_rest (y ∷ whole) (suc at) x rest h = let p = place_rest whole at x rest h in (p.0, p.1, ap (λ l. y ∷ l) p.2)

-- one item more
opens_next : (whole : List PlainItem) (at : ℕ) (x : PlainItem) (rest : List PlainItem) → drop at whole ≡ x ∷ rest → opens_at whole (suc at) ≡ opens_with x at (opens_at whole at)
opens_next whole at x rest h =
    let long : length (drop at whole) ≡ suc (length rest) = ap (λ l. length l) h in
    let n : 0 + length (take at whole) ≡ at = omega (arith, length-take-le at whole (omega (arith, long, length-drop at whole))) in
    ap (opens_after [] 0) (place_rest whole at x rest h).2 ∙ opens_append [] 0 (take at whole) (x ∷ []) ∙ ap (λ n. opens_with x n (opens_at whole at)) n

-- in a lawful list a node is open where a closing stands
closing_open : (whole : List PlainItem) (at : ℕ) (kind : _) (pre : List ℕ) (rest : List PlainItem) → Lawful whole → drop at whole ≡ Closing kind pre ∷ rest → 0 < length (opens_at whole at)
closing_open whole at kind pre rest lawful h =
    let halves = after_parts (take at whole) (drop at whole) start finish (ap (after start) (take-append-drop at whole) ∙ after_from_Lawful whole lawful) in
    let p = joined-ok 1 (step halves.0 (Closing kind pre)) (λ next. after next rest) finish (ap (after halves.0) (sym h) ∙ halves.2) in
    let shorter : length halves.0.stack ≡ suc (length p.0.stack) = ap (λ l. length l) (closed_before halves.0.stack halves.0.seen kind p.0 p.1).0 in
    let deep : length (opens_at whole at) ≡ length halves.0.stack =
    sym (length-map (opens_at whole at) (λ (o : Open). o.kind)) ∙ ap (λ l. length l) (open_is_stack (take at whole) halves.0 halves.1) in
    omega (arith, shorter, deep)

-- numbers that pass a test, and those of them that pass another
count_other : (q p : ℕ → Bool) (at : ℕ) (ns : List ℕ) → p at ≡ false → count_by q (filter p (at ∷ ns)) ≡ count_by q (filter p ns)
count_other q p at ns no_ = ap (λ b. count_by q (cond b (at ∷ filter p ns) (filter p ns))) no_

count_no : (q p : ℕ → Bool) (at : ℕ) (ns : List ℕ) → q at ≡ false → count_by q (filter p (at ∷ ns)) ≡ count_by q (filter p ns)
count_no q p at ns no_ =
    elim (cases_Bool (p at)) [
      | inl yes_ ↦
          ap (λ b. count_by q (cond b (at ∷ filter p ns) (filter p ns))) yes_
          ∙ sum_by-cons (λ n. cond (q n) 1 0) at (filter p ns)
          ∙ ap (λ b. cond b 1 0 + count_by q (filter p ns)) no_
          ∙ zero-add (count_by q (filter p ns))
      | inr other ↦ count_other q p at ns other
    ]

count_yes : (q p : ℕ → Bool) (at : ℕ) (ns : List ℕ) → p at ≡ true → q at ≡ true → count_by q (filter p (at ∷ ns)) ≡ 1 + count_by q (filter p ns)
count_yes q p at ns yes_ also =
    ap (λ b. count_by q (cond b (at ∷ filter p ns) (filter p ns))) yes_
    ∙ sum_by-cons (λ n. cond (q n) 1 0) at (filter p ns)
    ∙ ap (λ b. cond b 1 0 + count_by q (filter p ns)) also

-- a position is in a range, before it or past it
in_range : (from to other : ℕ) → from ≤ other → other < to → not (nat_le from other && nat_lt other to) ≡ false
in_range from to other low high = ap not (and_from _ _ (le-leb from other low) (lt-ltb other to high))

before_range : (from to other : ℕ) → other < from → not (nat_le from other && nat_lt other to) ≡ true
before_range from to other low =
    elim (cases_Bool (nat_le from other)) [
      | inl yes_ ↦ absurd (omega (arith, low, leb-true from other yes_))
      | inr no_ ↦ ap (λ b. not (b && nat_lt other to)) no_
    ]

past_range : (from to other : ℕ) → to ≤ other → not (nat_le from other && nat_lt other to) ≡ true
past_range from to other high =
    elim (cases_Bool (nat_lt other to)) [
      | inl yes_ ↦ absurd (omega (arith, high, ltb-true other to yes_))
      | inr no_ ↦ ap (λ b. not (nat_le from other && b)) no_ ∙ none (nat_le from other)
    ]
  where
    none : (b : Bool) → not (b && false) ≡ true
    none true = refl
    none false = refl

-- nodes that open in a range, before a position
abbrev Begun : ℕ → ℕ → List Open → Type 0
Begun from at [] = Unit {0}
Begun from at (o ∷ opens) = (from ≤ o.from) × (o.from < at) × Begun from at opens

begun_later : (from at : ℕ) (opens : List Open) → Begun from at opens → Begun from (suc at) opens
begun_later from at [] all = tt
begun_later from at (o ∷ opens) all = (all.0, omega (arith, all.1), begun_later from at opens all.2)

-- nodes that open before a position
abbrev AllBefore : ℕ → List Open → Type 0
AllBefore at [] = Unit {0}
AllBefore at (o ∷ opens) = (o.from < at) × AllBefore at opens

before_later : (at later : ℕ) (opens : List Open) → at ≤ later → AllBefore at opens → AllBefore later opens
before_later at later [] le all = tt
before_later at later (o ∷ opens) le all = (omega (arith, le, all.0), before_later at later opens le all.1)

before_fewer : (at : ℕ) (opens : List Open) → AllBefore at opens → AllBefore at (drop 1 opens)
before_fewer at [] all = tt
before_fewer at (o ∷ opens) all = all.1

before_after : (items : List PlainItem) (opens : List Open) (at : ℕ) → AllBefore at opens → AllBefore (at + length items) (opens_after opens at items)
before_after [] opens at all = before_later at (at + 0) opens (omega arith) all
before_after (x ∷ items) opens at all =
    let n : suc at + length items ≡ at + suc (length items) = omega arith in
    subst (λ n. AllBefore n (opens_after (opens_with x at opens) (suc at) items)) n (before_after items (opens_with x at opens) (suc at) (with_one x))
  where
    with_one : (x : PlainItem) → AllBefore (suc at) (opens_with x at opens)
    with_one (Char c marks) = before_later at (suc at) opens (omega arith) all
    with_one (Opening kind head marks pre origin generated) = (omega arith, before_later at (suc at) opens (omega arith) all)
    with_one (Closing kind pre) = before_fewer (suc at) opens (before_later at (suc at) opens (omega arith) all)

-- the positions so many from one on, as those after it
later_places : (q p : ℕ → Bool) (at count : ℕ) → count_by q (filter p (range_with_len (at + 1) count)) ≡ count_by q (filter p (range_with_len (suc at) count))
later_places q p at count = let e : at + 1 ≡ suc at = omega arith in ap (λ n. count_by q (filter p (range_with_len n count))) e

-- what is left to be closed comes to an end in the range, or something follows it
abbrev Ends : List PlainItem → List PlainItem → Type 0
Ends xs suffix = (openings_left xs ≡ 0) ⊎ (0 < length suffix)

ends_fewer : (xs : List PlainItem) (more : ℕ) (suffix : List PlainItem) → (more + openings_left xs ≡ 0) ⊎ (0 < length suffix) → Ends xs suffix
ends_fewer xs more suffix h =
    elim h [
      | inl none ↦ inl (omega (arith, none))
      | inr some ↦ inr some
    ]

module _ (whole : List PlainItem) (from to : ℕ) where
  opening_counted : (kind : _) (head : _) (marks : _) (pre : _) (origin : _) (generated : _) (xs suffix : List PlainItem) (at : ℕ) →
      drop at whole ≡ Opening kind head marks pre origin generated ∷ (xs ++ suffix) → at + suc (length xs) ≡ to → from ≤ at →
      ((1 - closings_left xs) + openings_left xs ≡ 0) ⊎ (0 < length suffix) → (ns : List ℕ) →
      count_by (λ n. passes is_opening (slice_get whole n)) (filter (is_unmatched whole from to) ns) ≡ openings_left xs →
      count_by (λ n. passes is_opening (slice_get whole n)) (filter (is_unmatched whole from to) (at ∷ ns)) ≡ (1 - closings_left xs) + openings_left xs
  opening_counted kind head marks pre origin generated xs suffix at h end low some ns later = by (closings_left xs) refl
    where
      here : slice_get whole at ≡ Some (Opening kind head marks pre origin generated)
      here = (place_rest whole at (Opening kind head marks pre origin generated) (xs ++ suffix) h).0

      partner_is : partner whole at ≡ at + length_to_close 0 (xs ++ suffix)
      partner_is =
          ap (λ o. partner_of o whole at) here
          ∙ ap (λ l. at + length_to_close 0 l) (place_rest whole at (Opening kind head marks pre origin generated) (xs ++ suffix) h).1

      follows : closings_left xs ≡ 0 → 0 < length suffix
      follows none =
          elim some [
            | inl zero_ ↦ absurd (omega (arith, zero_, none))
            | inr it ↦ it
          ]

      by : (k : ℕ) → closings_left xs ≡ k →
          count_by (λ n. passes is_opening (slice_get whole n)) (filter (is_unmatched whole from to) (at ∷ ns)) ≡ (1 - closings_left xs) + openings_left xs
      by zero e =
          let past = close_past xs suffix 0 (omega (arith, e)) (follows e) in
          let counted = count_yes (λ n. passes is_opening (slice_get whole n)) (is_unmatched whole from to) at ns
          (past_range from to (partner whole at) (omega (arith, partner_is, past, end))) (ap (passes is_opening) here) in
          omega (arith, counted, later, e)
      by (suc k) e =
          let inside = close_in xs suffix 0 (omega (arith, e)) in
          let counted = count_other (λ n. passes is_opening (slice_get whole n)) (is_unmatched whole from to) at ns
          (in_range from to (partner whole at) (omega (arith, partner_is, low)) (omega (arith, partner_is, inside, end))) in
          omega (arith, counted, later, e)

  -- the unmatched openings of the range from a position on
  openings_counted : (xs suffix : List PlainItem) (at : ℕ) → drop at whole ≡ xs ++ suffix → at + length xs ≡ to → from ≤ at → Ends xs suffix →
      count_by (λ n. passes is_opening (slice_get whole n)) (filter (is_unmatched whole from to) (range_with_len at (length xs))) ≡ openings_left xs
  openings_counted [] suffix at h end low some = refl
  openings_counted (Char c marks ∷ xs) suffix at h end low some =
      let p = place_rest whole at (Char c marks) (xs ++ suffix) h in
      let q : ℕ → Bool = λ n. passes is_opening (slice_get whole n) in
      count_no q (is_unmatched whole from to) at (range_with_len (at + 1) (length xs)) (ap (passes is_opening) p.0)
      ∙ later_places q (is_unmatched whole from to) at (length xs)
      ∙ openings_counted xs suffix (suc at) p.1 (omega (arith, end)) (omega (arith, low)) some
  openings_counted (Closing kind pre ∷ xs) suffix at h end low some =
      let p = place_rest whole at (Closing kind pre) (xs ++ suffix) h in
      let q : ℕ → Bool = λ n. passes is_opening (slice_get whole n) in
      count_no q (is_unmatched whole from to) at (range_with_len (at + 1) (length xs)) (ap (passes is_opening) p.0)
      ∙ later_places q (is_unmatched whole from to) at (length xs)
      ∙ openings_counted xs suffix (suc at) p.1 (omega (arith, end)) (omega (arith, low)) some
  openings_counted (Opening kind head marks pre origin generated ∷ xs) suffix at h end low some =
      let p = place_rest whole at (Opening kind head marks pre origin generated) (xs ++ suffix) h in
      let q : ℕ → Bool = λ n. passes is_opening (slice_get whole n) in
      opening_counted kind head marks pre origin generated xs suffix at h end low some (range_with_len (at + 1) (length xs))
      (later_places q (is_unmatched whole from to) at (length xs)
      ∙ openings_counted xs suffix (suc at) p.1 (omega (arith, end)) (omega (arith, low)) (ends_fewer xs (1 - closings_left xs) suffix some))

  -- where nothing that opened in the range is open, the partner of a closing stands before the
  -- range
  outer_begins : (opens : List Open) → AllBefore from opens → 0 < length opens → first_from opens < from
  outer_begins [] all some = absurd (omega (arith, some))
  outer_begins (o ∷ opens) all some = all.0

  -- the unmatched closings of the range from a position on, where some nodes that opened in the
  -- range are open
  closings_counted : (xs suffix : List PlainItem) (at : ℕ) (begun outer : List Open) → Lawful whole → drop at whole ≡ xs ++ suffix → at + length xs ≡ to → from ≤ at →
      opens_at whole at ≡ begun ++ outer → Begun from at begun → AllBefore from outer →
      count_by (λ n. passes is_closing (slice_get whole n)) (filter (is_unmatched whole from to) (range_with_len at (length xs))) ≡ closings_left xs - length begun
  closings_counted [] suffix at begun outer lawful h end low opens all before = let z : 0 ≡ 0 - length begun = omega arith in z
  closings_counted (Char c marks ∷ xs) suffix at begun outer lawful h end low opens all before =
      let p = place_rest whole at (Char c marks) (xs ++ suffix) h in
      let q : ℕ → Bool = λ n. passes is_closing (slice_get whole n) in
      count_no q (is_unmatched whole from to) at (range_with_len (at + 1) (length xs)) (ap (passes is_closing) p.0)
      ∙ later_places q (is_unmatched whole from to) at (length xs)
      ∙ closings_counted xs suffix (suc at) begun outer lawful p.1 (omega (arith, end)) (omega (arith, low))
      (opens_next whole at (Char c marks) (xs ++ suffix) h ∙ opens) (begun_later from at begun all) before
  closings_counted (Opening kind head marks pre origin generated ∷ xs) suffix at begun outer lawful h end low opens all before =
      let x = Opening kind head marks pre origin generated in
      let node : Open = record { kind = kind; from = at } in
      let p = place_rest whole at x (xs ++ suffix) h in
      let q : ℕ → Bool = λ n. passes is_closing (slice_get whole n) in
      let later = closings_counted xs suffix (suc at) (node ∷ begun) outer lawful p.1 (omega (arith, end)) (omega (arith, low))
      (opens_next whole at x (xs ++ suffix) h ∙ ap (λ l. node ∷ l) opens) (low, omega arith, begun_later from at begun all) before in
      let counted = count_no q (is_unmatched whole from to) at (range_with_len (at + 1) (length xs)) (ap (passes is_closing) p.0)
      ∙ later_places q (is_unmatched whole from to) at (length xs) in
      omega (arith, counted, later)
  closings_counted (Closing kind pre ∷ xs) suffix at [] outer lawful h end low opens all before =
      let x = Closing kind pre in
      let p = place_rest whole at x (xs ++ suffix) h in
      let q : ℕ → Bool = λ n. passes is_closing (slice_get whole n) in
      let some : 0 < length outer = omega (arith, closing_open whole at kind pre (xs ++ suffix) lawful h, ap (λ l. length l) opens) in
      let partner_is : partner whole at ≡ first_from outer = ap (λ o. partner_of o whole at) p.0 ∙ ap first_from opens in
      let out = before_range from to (partner whole at) (omega (arith, partner_is, outer_begins outer before some)) in
      let later = closings_counted xs suffix (suc at) [] (drop 1 outer) lawful p.1 (omega (arith, end)) (omega (arith, low))
      (opens_next whole at x (xs ++ suffix) h ∙ ap (drop 1) opens) tt (before_fewer from outer before) in
      let counted = count_yes q (is_unmatched whole from to) at (range_with_len (at + 1) (length xs)) out (ap (passes is_closing) p.0) in
      omega (arith, counted, later_places q (is_unmatched whole from to) at (length xs), later)
  closings_counted (Closing kind pre ∷ xs) suffix at (b ∷ begun) outer lawful h end low opens all before =
      let x = Closing kind pre in
      let p = place_rest whole at x (xs ++ suffix) h in
      let q : ℕ → Bool = λ n. passes is_closing (slice_get whole n) in
      let partner_is : partner whole at ≡ b.from = ap (λ o. partner_of o whole at) p.0 ∙ ap first_from opens in
      let inside = in_range from to (partner whole at) (omega (arith, partner_is, all.0)) (omega (arith, partner_is, all.1, end)) in
      let later = closings_counted xs suffix (suc at) begun outer lawful p.1 (omega (arith, end)) (omega (arith, low))
      (opens_next whole at x (xs ++ suffix) h ∙ ap (drop 1) opens) (begun_later from at begun all.2) before in
      let counted = count_other q (is_unmatched whole from to) at (range_with_len (at + 1) (length xs)) inside in
      omega (arith, counted, later_places q (is_unmatched whole from to) at (length xs), later)

-- The unmatched brackets of a range are those that are left.
pub unmatched_is_left : (items : List PlainItem) (from to : ℕ) → Lawful items → from ≤ to → to ≤ length items →
    unmatched_counts items from to ≡ (closings_left (take (to - from) (drop from items)), openings_left (take (to - from) (drop from items)))
unmatched_is_left items from to lawful order within =
    λ i. (
      (ap (λ n. count_by (λ at. passes is_closing (slice_get items at)) (filter (is_unmatched items from to) (range_with_len from n))) (sym long) ∙ closings) i,
      (ap (λ n. count_by (λ at. passes is_opening (slice_get items at)) (filter (is_unmatched items from to) (range_with_len from n))) (sym long) ∙ openings) i,
    )
  where
    part : List PlainItem
    part = take (to - from) (drop from items)

    suffix : List PlainItem
    suffix = drop (to - from) (drop from items)

    rest : drop from items ≡ part ++ suffix
    rest = sym (take-append-drop (to - from) (drop from items))

    long : length part ≡ to - from
    long = length-take-le (to - from) (drop from items) (omega (arith, length-drop from items, within))

    start_long : 0 + length (take from items) ≡ from
    start_long = omega (arith, length-take-le from items (omega (arith, order, within)))

    before : AllBefore from (opens_at items from)
    before = subst (λ n. AllBefore n (opens_at items from)) start_long (before_after (take from items) [] 0 tt)

    closings : count_by (λ at. passes is_closing (slice_get items at)) (filter (is_unmatched items from to) (range_with_len from (length part))) ≡ closings_left part
    closings =
        let counted = closings_counted items from to part suffix from [] (opens_at items from) lawful rest (omega (arith, long, order)) (omega arith) refl tt before in
        let none : closings_left part - 0 ≡ closings_left part = omega arith in
        counted ∙ none

    none_open : suffix ≡ [] → openings_left part ≡ 0
    none_open none =
        let all : items ≡ take from items ++ part =
        sym (take-append-drop from items) ∙ ap (λ l. take from items ++ l) (rest ∙ ap (λ l. part ++ l) none ∙ append-nil part) in
        let opens = opens_after [] 0 items in
        let closed : length opens ≡ 0 = sym (length-map opens (λ (o : Open). o.kind)) ∙ ap (λ l. length l) (open_is_stack items finish (after_from_Lawful items lawful)) in
        let parts : opens ≡ opens_after (opens_at items from) (0 + length (take from items)) part =
        ap (opens_after [] 0) all ∙ opens_append [] 0 (take from items) part in
        omega (arith, closed, ap (λ l. length l) parts, open_count part (opens_at items from) (0 + length (take from items)))

    ends_by : (l : List PlainItem) → suffix ≡ l → Ends part suffix
    ends_by [] e = inl (none_open e)
    ends_by (x ∷ l) e = let n = ap (λ l. length l) e in inr (omega (arith, n))

    openings : count_by (λ at. passes is_opening (slice_get items at)) (filter (is_unmatched items from to) (range_with_len from (length part))) ≡ openings_left part
    openings = openings_counted items from to part suffix from rest (omega (arith, long, order)) (omega arith) (ends_by suffix refl)
