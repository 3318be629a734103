-- How the calls on marks answer, by what they test in turn.
use Rattle.std.proofs.Common.{◌≡◌, ◌≤◌, ◌<◌, ℕ, suc, ◌+◌, ◌-◌, Bool, true, false, cond, if◌then◌else◌, List, ◌∷◌, arith, find, slice_get, Option, Some, None, Result, Ok, Err, ap, ◌∙◌}
use Rattle.std.specs.List.{range_with_len}
use Rattle.ve_base.specs.declared.marks.Mark.{Mark}
use Rattle.model_items.specs.declared.plain_item.PlainItem.{PlainItem}
use Rattle.model_items.specs.Marks.{with_mark, without_mark}
use Rattle.model_items.specs.Offsets.{is_bad_span, places_in, passes}
use Rattle.model_change.specs.Transaction.{Transaction}
use Rattle.model_edit.specs.Causes.{BuildCause, BadRange, BadMark, TooManyMarks}
use Rattle.model_edit.specs.Marking.{is_bad_mark, is_full_for, marked_unless, remark, marking, unmarking}

-- the first position of a range that passes a test
places_first : (at to : ℕ) → at < to → places_in at to ≡ at ∷ places_in (at + 1) to
places_first at to less = let n : to - at ≡ suc (to - (at + 1)) = omega arith in ap (range_with_len at) n

pub find_here : (test : ℕ → Bool) (at to : ℕ) → at < to → test at ≡ true → find test (places_in at to) ≡ Some at
find_here test at to less h = ap (find test) (places_first at to less) ∙ ap (λ b. cond b (Some at) (find test (places_in (at + 1) to))) h

pub find_on : (test : ℕ → Bool) (at to : ℕ) → at < to → test at ≡ false → find test (places_in at to) ≡ find test (places_in (at + 1) to)
find_on test at to less h = ap (find test) (places_first at to less) ∙ ap (λ b. cond b (Some at) (find test (places_in (at + 1) to))) h

pub find_none : (test : ℕ → Bool) (at to : ℕ) → to ≤ at → find test (places_in at to) ≡ None
find_none test at to past = let n : to - at ≡ 0 = omega arith in ap (λ k. find test (range_with_len at k)) n

-- the first full item of a range
abbrev pub full_in : List PlainItem → ℕ → ℕ → Mark → Option ℕ
full_in items from to m = find (λ at. passes (is_full_for m) (slice_get items at)) (places_in from to)

module _ (items : List PlainItem) (from to : ℕ) (m : Mark) where
  bad_first : (r : Result Transaction BuildCause) → is_bad_span items from to ≡ true → (if is_bad_span items from to then Err (BadRange from to) else r) ≡ Err (BadRange from to)
  bad_first r h = ap (λ b. if b then Err (BadRange from to) else r) h

  bad_second : (r : Result Transaction BuildCause) → is_bad_span items from to ≡ false → is_bad_mark m ≡ true →
      (if is_bad_span items from to then Err (BadRange from to) else (if is_bad_mark m then Err BadMark else r)) ≡ Err BadMark
  bad_second r h g = ap (λ b. if b then Err (BadRange from to) else (if is_bad_mark m then Err BadMark else r)) h ∙ ap (λ b. if b then Err BadMark else r) g

  neither : (r : Result Transaction BuildCause) → is_bad_span items from to ≡ false → is_bad_mark m ≡ false →
      (if is_bad_span items from to then Err (BadRange from to) else (if is_bad_mark m then Err BadMark else r)) ≡ r
  neither r h g = ap (λ b. if b then Err (BadRange from to) else (if is_bad_mark m then Err BadMark else r)) h ∙ ap (λ b. if b then Err BadMark else r) g

  pub marking-BadRange : is_bad_span items from to ≡ true → marking items from to m ≡ Err (BadRange from to)
  marking-BadRange h = bad_first (if is_bad_mark m then Err BadMark else marked_unless (full_in items from to m) (remark (with_mark m) items from to)) h

  pub marking-BadMark : is_bad_span items from to ≡ false → is_bad_mark m ≡ true → marking items from to m ≡ Err BadMark
  marking-BadMark h g = bad_second (marked_unless (full_in items from to m) (remark (with_mark m) items from to)) h g

  pub marking-full : (at : ℕ) → is_bad_span items from to ≡ false → is_bad_mark m ≡ false → full_in items from to m ≡ Some at → marking items from to m ≡ Err (TooManyMarks at)
  marking-full at h g full =
      neither (marked_unless (full_in items from to m) (remark (with_mark m) items from to)) h g ∙ ap (λ o. marked_unless o (remark (with_mark m) items from to)) full

  pub marking-given : is_bad_span items from to ≡ false → is_bad_mark m ≡ false → full_in items from to m ≡ None → marking items from to m ≡ Ok (remark (with_mark m) items from to)
  marking-given h g full =
      neither (marked_unless (full_in items from to m) (remark (with_mark m) items from to)) h g ∙ ap (λ o. marked_unless o (remark (with_mark m) items from to)) full

  pub unmarking-BadRange : is_bad_span items from to ≡ true → unmarking items from to m ≡ Err (BadRange from to)
  unmarking-BadRange h = bad_first (if is_bad_mark m then Err BadMark else Ok (remark (without_mark m) items from to)) h

  pub unmarking-BadMark : is_bad_span items from to ≡ false → is_bad_mark m ≡ true → unmarking items from to m ≡ Err BadMark
  unmarking-BadMark h g = bad_second (Ok (remark (without_mark m) items from to)) h g

  pub unmarking-given : is_bad_span items from to ≡ false → is_bad_mark m ≡ false → unmarking items from to m ≡ Ok (remark (without_mark m) items from to)
  unmarking-given h g = neither (Ok (remark (without_mark m) items from to)) h g
