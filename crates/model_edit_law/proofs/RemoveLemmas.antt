-- The transaction of a removal is in normal form, and applies.
use Rattle.std.specs.Prelude.{filter, slice_get}
use Rattle.std.specs.List.{range_with_len}
use Rattle.std.proofs.Common.{◌≡◌, ℕ, zero, suc, ◌+◌, ◌-◌, ◌<◌, ◌≤◌, Bool, true, false, cond, not, ◌&&◌, if◌then◌else◌, nat_lt, nat_le, List, [], ◌∷◌, length, Option, Some, None, Result, Ok, Err, refl, sym, ap, ◌∙◌, subst, arith, inl, inr}
use Rattle.std.proofs.lemmas.Bool.{or_parts, leb-false, ltb-false, le-leb, not-true, cases_Bool}
use Rattle.ve_base.specs.declared.head.Head.{Head}
use Rattle.ve_base.specs.declared.marks.Mark.{Mark}
use Rattle.model_items.specs.declared.plain_item.PlainItem.{PlainItem}
use Rattle.model_items.specs.declared.plain_item.PlainItem.TheVariants.{Char, Opening, Closing}
use Rattle.ve_kinds.specs.Table.{kind_same, is_content_branch}
use Rattle.model_items.specs.Law.{Lawful}
use Rattle.model_items.proofs.LawLemmas.{Ok-same}
use Rattle.model_change.specs.Transaction.{Transaction}
use Rattle.model_edit.specs.Causes.{BuildCause}
use Rattle.model_edit.specs.Brackets.{closing_of}
use Rattle.model_items.specs.Offsets.{is_bad_span, partner, is_unmatched, unmatched_places}
use Rattle.model_edit_law.specs.Fine.{Fine}
use Rattle.model_edit.specs.Edits.{Change, transaction_of}
use Rattle.model_edit_law.proofs.OrderLemmas.{Rising, Fine-Rising, Rising-within, Rising-filter}
use Rattle.model_edit_law.proofs.BracketLemmas.{node_parts}
use Rattle.model_edit.specs.Remove.{is_bad_removal, Join, join_by, join_at, removal_edits, removal}

pub if_ok_else : {A E : Type 0} (b : Bool) (e : E) (r : Result A E) (t : A) → (if b then Err e else r) ≡ Ok t → (b ≡ false) × (r ≡ Ok t)
if_ok_else true e r t h = cc
if_ok_else false e r t h = (refl, h)

-- each number passes the test and is in the range
abbrev AllIn : (ℕ → Bool) → (from end : ℕ) → List ℕ → Type 0
AllIn p from end [] = Unit {0}
AllIn p from end (n ∷ ns) = (p n ≡ true) × (from ≤ n) × (n < end) × AllIn p from end ns

AllIn-wider : (p : ℕ → Bool) (from from' end end' : ℕ) (ns : List ℕ) → from' ≤ from → end ≤ end' → AllIn p from end ns → AllIn p from' end' ns
AllIn-wider p from from' end end' [] low high h = tt
AllIn-wider p from from' end end' (n ∷ ns) low high h = let a = h.1 in let b = h.2 in (h.0, omega arith, omega arith, AllIn-wider p from from' end end' ns low high h.3)

AllIn-filter : (p : ℕ → Bool) (from count : ℕ) → AllIn p from (from + count) (filter p (range_with_len from count))
AllIn-filter p from zero = tt
AllIn-filter p from (suc count) =
    let rest = filter p (range_with_len (from + 1) count) in
    let later : AllIn p from (from + suc count) rest =
    AllIn-wider p (from + 1) from ((from + 1) + count) (from + suc count) rest (omega arith) (omega arith) (AllIn-filter p (from + 1) count) in
    elim (cases_Bool (p from)) [
      | inl yes_ ↦ subst (λ b. AllIn p from (from + suc count) (cond b (from ∷ rest) rest)) (sym yes_) (yes_, omega arith, omega arith, later)
      | inr no_ ↦ subst (λ b. AllIn p from (from + suc count) (cond b (from ∷ rest) rest)) (sym no_) later
    ]

-- what a join tells: its second branch begins where it says
record Joined (first second : Option PlainItem) (closing : ℕ) (j : Join) : Type 0 where
  pub head : Head
  pub marks : List Mark
  pub pre : List ℕ
  pub origin : Option ℕ
  pub generated : Bool
  pub begins : second ≡ Some (Opening j.second head marks pre origin generated)
  pub ends : j.second_closing ≡ closing

join_by_shape : (first second : Option PlainItem) (closing : ℕ) (j : Join) → join_by first second closing ≡ Some j → Joined first second closing j
join_by_shape (Some (Closing k pre)) (Some (Opening l head marks pre' origin generated)) closing j h = chosen (is_content_branch k && is_content_branch l) h
  where
    chosen : (b : Bool) → (if b then Some (record { first = k; second = l; second_closing = closing }) else None) ≡ Some j →
        Joined (Some (Closing k pre)) (Some (Opening l head marks pre' origin generated)) closing j
    chosen true h =
        let e = some_same h in
        record {
          head = head;
          marks = marks;
          pre = pre';
          origin = origin;
          generated = generated;
          begins = ap (λ (v : Join). Some (Opening v.second head marks pre' origin generated)) e;
          ends = ap (λ (v : Join). v.second_closing) (sym e);
        }
      where
        some_same : {x y : Join} → ◌≡◌ {A = Option Join} (Some x) (Some y) → x ≡ y
        some_same h = cc
    chosen false h = cc
join_by_shape None second closing j h = cc
join_by_shape (Some (Char c marks)) second closing j h = cc
join_by_shape (Some (Opening k head marks pre origin generated)) second closing j h = cc
join_by_shape (Some (Closing k pre)) None closing j h = cc
join_by_shape (Some (Closing k pre)) (Some (Char c marks)) closing j h = cc
join_by_shape (Some (Closing k pre)) (Some (Closing l pre')) closing j h = cc

-- the second branch ends past the range, and in the list
join_fits : (items : List PlainItem) (from to : ℕ) → Lawful items → (ns : List ℕ) (j : Join) → AllIn (is_unmatched items from to) from to ns →
    join_at items ns ≡ Some j → (to ≤ j.second_closing) × (suc j.second_closing ≤ length items)
join_fits items from to lawful [] j all h = cc
join_fits items from to lawful (p ∷ []) j all h = cc
join_fits items from to lawful (p ∷ q ∷ []) j all h =
    let r = join_by_shape (slice_get items p) (slice_get items q) (partner items q) j h in
    let n = node_parts items q j.second r.head r.marks r.pre r.origin r.generated lawful r.begins in
    let e = r.ends in
    let far = n.its_partner in
    let within = n.within in
    let low = all.3.1 in
    let past : to ≤ partner items q = outside all.3.0 (omega arith) in
    (omega arith, omega arith)
  where
    outside : is_unmatched items from to q ≡ true → from ≤ partner items q → to ≤ partner items q
    outside u h =
        let v : (nat_le from (partner items q) && nat_lt (partner items q) to) ≡ false = not-true _ u in
        ltb-false (partner items q) to (ap (λ b. b && nat_lt (partner items q) to) (sym (le-leb from (partner items q) h)) ∙ v)
join_fits items from to lawful (p ∷ q ∷ r ∷ ns) j all h = cc

edits_rise : (items : List PlainItem) (from to : ℕ) (o : Option Join) → from ≤ to → to ≤ length items →
    ((j : Join) → o ≡ Some j → (to ≤ j.second_closing) × (suc j.second_closing ≤ length items)) → Rising 0 (length items) (removal_edits items from to o)
edits_rise items from to None low high h =
    Rising-within from 0 (from + (to - from)) (length items) _ (omega arith) (omega arith)
    (Rising-filter (λ at. not (is_unmatched items from to at)) from (to - from))
edits_rise items from to (Some j) low high h =
    let f = h j refl in
    let past = f.0 in
    let within = f.1 in
    (omega arith, alike (kind_same j.first j.second) past within)
  where
    alike : (b : Bool) → to ≤ j.second_closing → suc j.second_closing ≤ length items →
        Rising (from + (to - from)) (length items) (if b then [] else Change j.second_closing 1 (closing_of j.first ∷ []) ∷ [])
    alike true past within = omega arith
    alike false past within = (omega arith, omega arith)

pub removal_rises : (items : List PlainItem) (from to : ℕ) → Lawful items → is_bad_removal items from to ≡ false →
    Rising 0 (length items) (removal_edits items from to (join_at items (unmatched_places items from to)))
removal_rises items from to lawful h =
    let span = (or_parts (is_bad_span items from to) _ h).0 in
    let a = or_parts (nat_le to from) _ span in
    let b = or_parts (nat_lt (length items) to) _ a.1 in
    let low = leb-false to from a.0 in
    let high = ltb-false (length items) to b.0 in
    let ns = unmatched_places items from to in
    let all : AllIn (is_unmatched items from to) from to ns =
    subst (λ e. AllIn (is_unmatched items from to) from e ns) (omega arith) (AllIn-filter (is_unmatched items from to) from (to - from)) in
    edits_rise items from to (join_at items ns) (omega arith) high (λ j g. join_fits items from to lawful ns j all g)

pub removal_fine : (items : List PlainItem) (from to : ℕ) (t : Transaction) → Lawful items → removal items from to ≡ Ok t → Fine items t
removal_fine items from to t lawful h =
    let p = if_ok_else (is_bad_removal items from to) _ _ t h in
    let edits = removal_edits items from to (join_at items (unmatched_places items from to)) in
    subst (Fine items) (Ok-same {E = BuildCause} (transaction_of items edits) t p.1) (Fine-Rising items edits (removal_rises items from to lawful p.0))
