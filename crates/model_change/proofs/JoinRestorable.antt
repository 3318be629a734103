-- Joined transactions can be undone.
use Rattle.std.proofs.Common.{◌≡◌, ℕ, zero, suc, ◌+◌, ◌-◌, ◌≤◌, false, List, [], ◌∷◌, ◌++◌, length, take, drop, refl, sym, ap, ◌∙◌, subst, arith, true≢false}
use Rattle.std.proofs.lemmas.Bool.{or_parts}
use Rattle.std.proofs.lemmas.List.{length-append, length-drop, length-take-le}
use Rattle.model_items.specs.declared.plain_item.PlainItem.{PlainItem}
use Rattle.model_change.specs.Attributes.{AttrChange, item_changed, PutsBack}
use Rattle.model_change.specs.Transaction.{Retain, Replace, Attribute, Transaction, old_length, new_length, on_first, edited, InsertedApart}
use Rattle.model_change.specs.Fault.{Applies, placed_changes}
use Rattle.model_change.specs.Inverse.{FirstPutsBack, IsRestorable}
use Rattle.model_change.specs.Join.{has_replace, meets, meets_one, some_meet, retained, join, Agree, first, without_first, without_end, last, core, with_ends, JoinsRestorable, JoinsApart}
use Rattle.model_change.proofs.Fits.{parts_of_Applies, length-on_first}
use Rattle.model_change.proofs.AttributeJoin.{item_changed-comm, PutsBack-item_changed}
use Rattle.model_change.proofs.PlacedLemmas.{changed_at, changed_at-comm, changed_at-append, all_placed, regrouped, edited_placed, apart_at}
use Rattle.model_change.proofs.JoinLemmas.{HasParts, parts_of, left_beside}
use Rattle.model_change.proofs.JoinLaw.{JoinedAs, Unmet, FirstIdle, SecondIdle, FirstLeft, SecondLeft, joined_as, inactive_keeps, joins_agree, some_meet_swap}

abbrev PutsBackAt : AttrChange → ℕ → List PlainItem → Type 0
PutsBackAt c at [] = Unit {0}
PutsBackAt c zero (item ∷ items) = PutsBack c item
PutsBackAt c (suc at) (item ∷ items) = PutsBackAt c at items

abbrev AllPutBack : List (ℕ × AttrChange) → List PlainItem → Type 0
AllPutBack [] items = Unit {0}
AllPutBack (c ∷ changes) items = PutsBackAt c.1 c.0 items × AllPutBack changes (changed_at (item_changed c.1) c.0 items)

PutsBackAt-append : (c : AttrChange) (pre items : List PlainItem) → PutsBackAt c (length pre) (pre ++ items) ≡ FirstPutsBack c items
PutsBackAt-append c [] [] = refl
PutsBackAt-append c [] (item ∷ items) = refl
PutsBackAt-append c (x ∷ pre) items = PutsBackAt-append c pre items

PutsBackAt-changed_at : (f : PlainItem → PlainItem) (d : AttrChange) (p q : ℕ) (items : List PlainItem) →
    (p ≡ q → (item : PlainItem) → PutsBack d item → PutsBack d (f item)) → PutsBackAt d q items → PutsBackAt d q (changed_at f p items)
PutsBackAt-changed_at f d p q [] h k = tt
PutsBackAt-changed_at f d zero zero (item ∷ items) h k = h refl item k
PutsBackAt-changed_at f d zero (suc q) (item ∷ items) h k = k
PutsBackAt-changed_at f d (suc p) zero (item ∷ items) h k = k
PutsBackAt-changed_at f d (suc p) (suc q) (item ∷ items) h k = PutsBackAt-changed_at f d p q items (λ e. h (ap suc e)) k

-- of a transaction of attribute operations alone it says the same
AllPutBack-is : (ops : Transaction) (at : ℕ) (pre items : List PlainItem) → at ≡ length pre → has_replace ops ≡ false → old_length ops ≤ length items →
    AllPutBack (placed_changes at ops) (pre ++ items) ≡ IsRestorable ops items
AllPutBack-is [] at pre items e none le = refl
AllPutBack-is (Retain n ∷ ops) at pre items e none le =
    let cut : length (drop n items) ≡ length items - n = length-drop n items in
    let prefix : length (take n items) ≡ n = length-take-le n items (omega arith) in
    let longer : at + n ≡ length (pre ++ take n items) = rw (length-append pre (take n items)) (omega arith) in
    ap (AllPutBack (placed_changes (at + n) ops)) (sym (regrouped pre items n))
    ∙ AllPutBack-is ops (at + n) (pre ++ take n items) (drop n items) longer none (omega arith)
AllPutBack-is (Replace removed inserted ∷ ops) at pre items e none le = absurd (true≢false none)
AllPutBack-is (Attribute c ∷ ops) at pre items e none le =
    let same = length-on_first (item_changed c) items in
    let changed : changed_at (item_changed c) at (pre ++ items) ≡ pre ++ on_first (item_changed c) items =
    ap (λ n. changed_at (item_changed c) n (pre ++ items)) e ∙ changed_at-append (item_changed c) pre items in
    let here = ap (λ n. PutsBackAt c n (pre ++ items)) e ∙ PutsBackAt-append c pre items in
    let rest = ap (AllPutBack (placed_changes at ops)) changed ∙ AllPutBack-is ops at pre (on_first (item_changed c) items) e none (omega arith) in
    λ i. here i × rest i

AllPutBack-change : (c : ℕ × AttrChange) (ds : List (ℕ × AttrChange)) (items : List PlainItem) → meets_one c ds ≡ false →
    AllPutBack ds items → AllPutBack ds (changed_at (item_changed c.1) c.0 items)
AllPutBack-change c [] items h full = tt
AllPutBack-change c (d ∷ ds) items h full =
    let p = or_parts (meets c d) (meets_one c ds) h in (
      PutsBackAt-changed_at (item_changed c.1) d.1 c.0 d.0 items (λ e item. PutsBack-item_changed c.1 d.1 item (apart_at c d p.0 e)) full.0,
      subst (AllPutBack ds)
          (sym (changed_at-comm (item_changed c.1) (item_changed d.1) c.0 d.0 items (λ e item. item_changed-comm c.1 d.1 item (apart_at c d p.0 e))))
          (AllPutBack-change c ds (changed_at (item_changed d.1) d.0 items) p.1 full.1),
    )

AllPutBack-all_placed : (cs ds : List (ℕ × AttrChange)) (items : List PlainItem) → some_meet cs ds ≡ false → AllPutBack ds items → AllPutBack ds (all_placed cs items)
AllPutBack-all_placed [] ds items h full = full
AllPutBack-all_placed (c ∷ cs) ds items h full =
    let p = or_parts (meets_one c ds) (some_meet cs ds) h in
    AllPutBack-all_placed cs ds (changed_at (item_changed c.1) c.0 items) p.1 (AllPutBack-change c ds items p.0 full)

-- an attribute transaction can still be undone over another that it doesn't meet
unmet_restorable : (a b : Transaction) (items : List PlainItem) → has_replace a ≡ false → has_replace b ≡ false → some_meet (placed_changes 0 a) (placed_changes 0 b) ≡ false →
    Applies a items → Applies b items → Applies b (edited a items) → IsRestorable b items → IsRestorable b (edited a items)
unmet_restorable a b items none none_too apart applies applies_too again full =
    let p = parts_of_Applies a items applies in
    let q = parts_of_Applies b items applies_too in
    let r = parts_of_Applies b (edited a items) again in
    let before = AllPutBack-is b 0 [] items refl none_too (omega arith) in
    let after = AllPutBack-is b 0 [] (edited a items) refl none_too (omega arith) in
    subst (λ T. T) after
    (subst (AllPutBack (placed_changes 0 b)) (edited_placed a 0 [] items refl none (omega arith))
    (AllPutBack-all_placed (placed_changes 0 a) (placed_changes 0 b) items apart (subst (λ T. T) (sym before) full)))

IsRestorable-retained : (n : ℕ) (items : List PlainItem) → IsRestorable (retained n) items
IsRestorable-retained zero items = tt
IsRestorable-retained (suc n) items = tt

module _ (a b : Transaction) (items : List PlainItem) (pa : HasParts a items) (pb : HasParts b items) (applies : Applies a items) (applies_too : Applies b items)
    (full : IsRestorable a items) (full_too : IsRestorable b items) where
  restorable_by : (r : Transaction × Transaction) → JoinedAs a b r → Agree a b r.0 r.1 items → IsRestorable r.1 (edited a items) × IsRestorable r.0 (edited b items)
  restorable_by r (Unmet none none_too apart) agree = (
    unmet_restorable a b items none none_too apart applies applies_too agree.first_then full_too,
    unmet_restorable b a items none_too none (some_meet_swap (placed_changes 0 b) (placed_changes 0 a) ∙ apart) applies_too applies agree.second_then full,
  )
  restorable_by r (FirstIdle idle) agree =
      (subst (IsRestorable b) (sym (inactive_keeps a items pa idle)) full_too, IsRestorable-retained (new_length b) (edited b items))
  restorable_by r (SecondIdle idle) agree =
      (IsRestorable-retained (new_length a) (edited a items), subst (IsRestorable a) (sym (inactive_keeps b items pb idle)) full)
  restorable_by r (FirstLeft active active_too near) agree =
      let s = left_beside a b items pa pb near in (s.second_full full_too, s.first_full full)
  restorable_by r (SecondLeft active active_too near) agree =
      let s = left_beside b a items pb pa near in (s.first_full full_too, s.second_full full)

pub joins_restorable : JoinsRestorable
joins_restorable a b items may full full_too =
    restorable_by a b items (parts_of a items may.reduced may.applies) (parts_of b items may.reduced_too may.applies_too) may.applies may.applies_too full full_too
    (join a b) (joined_as a b may.apart) (joins_agree a b items may)

-- what is inserted stays what it was

InsertedApart-append : (s t : Transaction) → InsertedApart s → InsertedApart t → InsertedApart (s ++ t)
InsertedApart-append [] t p q = q
InsertedApart-append (Retain count ∷ s) t p q = InsertedApart-append s t p q
InsertedApart-append (Replace removed inserted ∷ s) t p q = (p.0, InsertedApart-append s t p.1 q)
InsertedApart-append (Attribute c ∷ s) t p q = InsertedApart-append s t p q

InsertedApart-retained : (n : ℕ) → InsertedApart (retained n)
InsertedApart-retained zero = tt
InsertedApart-retained (suc n) = tt

InsertedApart-without_end : (ops : Transaction) → InsertedApart ops → InsertedApart (without_end ops)
InsertedApart-without_end [] p = tt
InsertedApart-without_end (Retain count ∷ []) p = tt
InsertedApart-without_end (Retain count ∷ (op ∷ ops)) p = InsertedApart-without_end (op ∷ ops) p
InsertedApart-without_end (Replace removed inserted ∷ ops) p = (p.0, InsertedApart-without_end ops p.1)
InsertedApart-without_end (Attribute c ∷ ops) p = InsertedApart-without_end ops p

InsertedApart-without_first : (t : Transaction) → InsertedApart t → InsertedApart (without_first t)
InsertedApart-without_first [] p = tt
InsertedApart-without_first (Retain count ∷ ops) p = p
InsertedApart-without_first (Replace removed inserted ∷ ops) p = p
InsertedApart-without_first (Attribute c ∷ ops) p = p

InsertedApart-reshaped : (before : ℕ) (t : Transaction) (suffix : ℕ) → InsertedApart t → InsertedApart (with_ends before (core t) suffix)
InsertedApart-reshaped before t suffix p =
    InsertedApart-append (retained before) (core t ++ retained suffix) (InsertedApart-retained before)
    (InsertedApart-append (core t) (retained suffix) (InsertedApart-without_end (without_first t) (InsertedApart-without_first t p)) (InsertedApart-retained suffix))

module _ (a b : Transaction) (given : InsertedApart a) (given_too : InsertedApart b) where
  apart_by : (r : Transaction × Transaction) → JoinedAs a b r → InsertedApart r.0 × InsertedApart r.1
  apart_by r (Unmet none none_too apart) = (given, given_too)
  apart_by r (FirstIdle idle) = (InsertedApart-retained (new_length b), given_too)
  apart_by r (SecondIdle idle) = (given, InsertedApart-retained (new_length a))
  apart_by r (FirstLeft active active_too near) =
      (InsertedApart-reshaped (first a) a ((last a + new_length b) - old_length b) given, InsertedApart-reshaped ((first b + new_length a) - old_length a) b (last b) given_too)
  apart_by r (SecondLeft active active_too near) =
      (InsertedApart-reshaped ((first a + new_length b) - old_length b) a (last a) given, InsertedApart-reshaped (first b) b ((last b + new_length a) - old_length a) given_too)

pub joins_apart : JoinsApart
joins_apart a b free given given_too = apart_by a b given given_too (join a b) (joined_as a b free)
