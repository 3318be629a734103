-- Where the splices of a change lie as they are made, and how many items they bring.
use Rattle.std.proofs.Common.{◌≡◌, ◌≤◌, ◌<◌, ℕ, ◌+◌, min, max, Bool, true, false, if◌then◌else◌, List, [], ◌∷◌, ◌++◌, length, Option, Some, None, refl, sym, ap, ◌∙◌, subst, arith}
use Rattle.model_items.specs.declared.item.Item.{Item}
use Rattle.model_items.specs.declared.plain_item.PlainItem.{PlainItem}
use Rattle.model_change.specs.Attributes.{AttrChange}
use Rattle.model_change.specs.Join.{active_range}
use Rattle.model_change.specs.Transaction.{Retain, Replace, Attribute, Transaction, is_reduced}
use Rattle.ve_tx.specs.declared.splice.Splice.{Splice}
use Rattle.ve_tx.specs.Changed.{IsOver, brought_count}
use Rattle.ve_tx.specs.Range.{widened}
use Rattle.ve_tx.specs.Spliced.{LieBetween, come_count}
use Rattle.ve_tx.proofs.RangeLemmas.{pass, pass-none}
use Rattle.ve_tx.proofs.SplicedLemmas.{lie-wider, lie-push, come-push}

-- With the range so far, and a changed head at the position or none: the splices lie within the
-- range, before the position.
abbrev pub AreWithin : Option (ℕ × ℕ) → ℕ → Bool → List Splice → Type 0
AreWithin None at changed splices = (splices ≡ []) × (changed ≡ false)
AreWithin (Some (start, end)) at changed splices = LieBetween start (min at end) splices × (changed ≡ true → at < end)

abbrev pending : Bool → ℕ
pending changed = if changed then 1 else 0

-- before the operations `ops` of a transaction, which stand at a position of the old list
pub record HasSplices (t : Transaction) (splices : List Splice) (at : ℕ) (changed : Bool) (ops : Transaction) : Type 0 where
  pub range : Option (ℕ × ℕ)
  pub rest : pass at range ops ≡ active_range t
  pub within : AreWithin range at changed splices
  pub count : come_count splices + (pending changed + brought_count ops) ≤ brought_count t

pub has-none : (t : Transaction) → is_reduced t ≡ true → HasSplices t [] 0 false t
has-none t reduced = record { range = None; rest = pass-none t reduced; within = (refl, refl); count = omega arith }

within-between : (range : Option (ℕ × ℕ)) (at : ℕ) (changed : Bool) (splices : List Splice) → AreWithin range at changed splices → LieBetween 0 at splices
within-between None at changed splices h = subst (LieBetween 0 at) (sym h.0) (omega arith)
within-between (Some range) at changed splices h = lie-wider range.0 (min at range.1) 0 at splices (omega arith) (omega arith) h.0

within-past : (range : Option (ℕ × ℕ)) (at next : ℕ) (splices : List Splice) → at ≤ next → AreWithin range at false splices → AreWithin range next false splices
within-past None at next splices k h = h
within-past (Some range) at next splices k h = (lie-wider range.0 (min at range.1) range.0 (min next range.1) splices (omega arith) (omega arith) h.0, λ f. cc)

within-settled : (range : Option (ℕ × ℕ)) (at next : ℕ) (splices : List Splice) (splice : Splice) → splice.at ≡ at → splice.removed ≡ 1 → at < next →
    AreWithin range at true splices → AreWithin range next false (splices ++ splice ∷ [])
within-settled None at next splices splice e f k h = let wrong = h.1 in cc
within-settled (Some range) at next splices splice e f k h =
    let below : at < range.1 = h.1 refl in
    (lie-push range.0 (min at range.1) (min next range.1) splices splice h.0 (omega arith) (omega arith), λ g. cc)

within-replaced : (range : Option (ℕ × ℕ)) (at next : ℕ) (splices : List Splice) (splice : Splice) → splice.at ≡ at → at + splice.removed ≡ next →
    AreWithin range at false splices → AreWithin (widened range at next) next false (splices ++ splice ∷ [])
within-replaced None at next splices splice e f h =
    (subst (λ l. LieBetween at (min next next) (l ++ splice ∷ [])) (sym h.0) (omega arith, omega arith), λ g. cc)
within-replaced (Some range) at next splices splice e f h =
    (lie-push range.0 (min at range.1) (min next (max range.1 next)) splices splice h.0 (omega arith) (omega arith), λ g. cc)

within-headed : (range : Option (ℕ × ℕ)) (at : ℕ) (changed : Bool) (splices : List Splice) → AreWithin range at changed splices → AreWithin (widened range at (at + 1)) at true splices
within-headed None at changed splices h = (subst (LieBetween at (min at (at + 1))) (sym h.0) (omega arith), λ f. omega arith)
within-headed (Some range) at changed splices h =
    (lie-wider range.0 (min at range.1) range.0 (min at (max range.1 (at + 1))) splices (omega arith) (omega arith) h.0, λ f. omega arith)

within-over : (range : Option (ℕ × ℕ)) (at : ℕ) (splices : List Splice) → AreWithin range at false splices → IsOver range splices
within-over None at splices h = h.0
within-over (Some range) at splices h = lie-wider range.0 (min at range.1) range.0 range.1 splices (omega arith) (omega arith) h.0

module _ (t : Transaction) (splices : List Splice) (at : ℕ) where
  pub has-between : (changed : Bool) (ops : Transaction) → HasSplices t splices at changed ops → LieBetween 0 at splices
  has-between changed ops h = within-between h.range at changed splices h.within

  -- items that stay
  pub has-past : (count : ℕ) (ops : Transaction) → HasSplices t splices at false (Retain count ∷ ops) → HasSplices t splices (at + count) false ops
  has-past count ops h = record { range = h.range; rest = h.rest; within = within-past h.range at (at + count) splices (omega arith) h.within; count = h.count }

  -- the same after an opening with its changed head
  pub has-settled : (count : ℕ) (ops : Transaction) (items : List Item) → 0 < count → length items ≡ 1 → HasSplices t splices at true (Retain count ∷ ops) →
      HasSplices t (splices ++ record { at = at; removed = 1; items = items } ∷ []) (at + count) false ops
  has-settled count ops items some one h =
      let splice : Splice = record { at = at; removed = 1; items = items } in
      let come = come-push splices splice in
      record {
        range = h.range;
        rest = h.rest;
        within = within-settled h.range at (at + count) splices splice refl refl (omega arith) h.within;
        count = omega (arith, h.count);
      }

  pub has-replaced : (removed inserted : List PlainItem) (ops : Transaction) (items : List Item) (count next : ℕ) → length items ≡ length inserted → count ≡ length removed → next ≡ at + length removed →
      HasSplices t splices at false (Replace removed inserted ∷ ops) → HasSplices t (splices ++ record { at = at; removed = count; items = items } ∷ []) next false ops
  has-replaced removed inserted ops items count next e f g h =
      let splice : Splice = record { at = at; removed = count; items = items } in
      let come = come-push splices splice in
      record {
        range = widened h.range at next;
        rest = ap (λ n. pass n (widened h.range at n) ops) g ∙ h.rest;
        within = within-replaced h.range at next splices splice refl (omega arith) h.within;
        count = omega (arith, h.count);
      }

  pub has-headed : (changed : Bool) (change : AttrChange) (ops : Transaction) → HasSplices t splices at changed (Attribute change ∷ ops) → HasSplices t splices at true ops
  has-headed changed change ops h = record {
    range = widened h.range at (at + 1);
    rest = h.rest;
    within = within-headed h.range at changed splices h.within;
    count = fewer changed h.count;
  }
    where
      fewer : (changed : Bool) → come_count splices + (pending changed + (1 + brought_count ops)) ≤ brought_count t → come_count splices + (1 + brought_count ops) ≤ brought_count t
      fewer true k = omega arith
      fewer false k = omega arith

  pub has-over : HasSplices t splices at false [] → IsOver (active_range t) splices
  has-over h = subst (λ r. IsOver r splices) h.rest (within-over h.range at splices h.within)

  pub has-count : HasSplices t splices at false [] → come_count splices ≤ brought_count t
  has-count h = omega (arith, h.count)
