-- A transaction of attribute operations alone is a list of changes at positions; two that don't
-- meet may be applied in either order.
use Rattle.std.proofs.Common.{◌≡◌, ℕ, zero, suc, ◌+◌, ◌-◌, ◌≤◌, Bool, true, false, ◌&&◌, ◌==◌, eq-eqb, List, [], ◌∷◌, ◌++◌, length, take, drop, refl, sym, ap, ◌∙◌, subst, arith, append_assoc, take-append-drop}
use Rattle.std.proofs.lemmas.Bool.{or_parts, or_from}
use Rattle.std.proofs.lemmas.List.{length-append, length-drop, length-take-le}
use Rattle.model_items.specs.declared.plain_item.PlainItem.{PlainItem}
use Rattle.model_items.specs.Same.{text_same}
use Rattle.model_change.specs.Attributes.{AttrChange, item_changed, allows, adds_or_removes, clash}
use Rattle.model_change.specs.Transaction.{Retain, Replace, Attribute, Transaction, old_length, new_length, on_first, edited}
use Rattle.model_change.specs.Fault.{first_allows, Applies, placed_changes}
use Rattle.model_change.specs.Join.{has_replace, meets, meets_one, some_meet, Agree}
use Rattle.model_change.proofs.Fits.{Fits, parts_of_Applies, Applies_from, length-edited, length-on_first}
use Rattle.model_change.proofs.AttributeLemmas.{text_other}
use Rattle.model_change.proofs.AttributeJoin.{item_changed-comm, allows-item_changed}

abbrev pub changed_at : (PlainItem → PlainItem) → ℕ → List PlainItem → List PlainItem
changed_at f at [] = []
changed_at f zero (item ∷ items) = f item ∷ items
changed_at f (suc at) (item ∷ items) = item ∷ changed_at f at items

abbrev passes_at : (PlainItem → Bool) → ℕ → List PlainItem → Bool
passes_at test at [] = false
passes_at test zero (item ∷ items) = test item
passes_at test (suc at) (item ∷ items) = passes_at test at items

pub changed_at-comm : (f g : PlainItem → PlainItem) (p q : ℕ) (items : List PlainItem) → (p ≡ q → (item : PlainItem) → g (f item) ≡ f (g item)) →
    changed_at g q (changed_at f p items) ≡ changed_at f p (changed_at g q items)
changed_at-comm f g p q [] h = refl
changed_at-comm f g zero zero (item ∷ items) h = ap (λ x. x ∷ items) (h refl item)
changed_at-comm f g zero (suc q) (item ∷ items) h = refl
changed_at-comm f g (suc p) zero (item ∷ items) h = refl
changed_at-comm f g (suc p) (suc q) (item ∷ items) h = ap (λ l. item ∷ l) (changed_at-comm f g p q items (λ e. h (ap suc e)))

passes_at-changed_at : (f : PlainItem → PlainItem) (test : PlainItem → Bool) (p q : ℕ) (items : List PlainItem) →
    (p ≡ q → (item : PlainItem) → test (f item) ≡ test item) → passes_at test q (changed_at f p items) ≡ passes_at test q items
passes_at-changed_at f test p q [] h = refl
passes_at-changed_at f test zero zero (item ∷ items) h = h refl item
passes_at-changed_at f test zero (suc q) (item ∷ items) h = refl
passes_at-changed_at f test (suc p) zero (item ∷ items) h = refl
passes_at-changed_at f test (suc p) (suc q) (item ∷ items) h = passes_at-changed_at f test p q items (λ e. h (ap suc e))

pub changed_at-append : (f : PlainItem → PlainItem) (pre items : List PlainItem) → changed_at f (length pre) (pre ++ items) ≡ pre ++ on_first f items
changed_at-append f [] [] = refl
changed_at-append f [] (item ∷ items) = refl
changed_at-append f (x ∷ pre) items = ap (λ l. x ∷ l) (changed_at-append f pre items)

passes_at-append : (c : AttrChange) (pre items : List PlainItem) → passes_at (allows c) (length pre) (pre ++ items) ≡ first_allows c items
passes_at-append c [] [] = refl
passes_at-append c [] (item ∷ items) = refl
passes_at-append c (x ∷ pre) items = passes_at-append c pre items

-- the changes one after the other, and that each may be made
abbrev pub all_placed : List (ℕ × AttrChange) → List PlainItem → List PlainItem
all_placed [] items = items
all_placed (c ∷ changes) items = all_placed changes (changed_at (item_changed c.1) c.0 items)

abbrev AllFit : List (ℕ × AttrChange) → List PlainItem → Type 0
AllFit [] items = Unit {0}
AllFit (c ∷ changes) items = (passes_at (allows c.1) c.0 items ≡ true) × AllFit changes (changed_at (item_changed c.1) c.0 items)

module _ (pre items : List PlainItem) (n : ℕ) where
  pub regrouped : (pre ++ take n items) ++ drop n items ≡ pre ++ items
  regrouped = append_assoc pre (take n items) (drop n items) ∙ ap (λ l. pre ++ l) (take-append-drop n items)

pub edited_placed : (ops : Transaction) (at : ℕ) (pre items : List PlainItem) → at ≡ length pre → has_replace ops ≡ false → old_length ops ≤ length items →
    all_placed (placed_changes at ops) (pre ++ items) ≡ pre ++ edited ops items
edited_placed [] at pre items e none le = refl
edited_placed (Retain n ∷ ops) at pre items e none le =
    let cut : length (drop n items) ≡ length items - n = length-drop n items in
    let prefix : length (take n items) ≡ n = length-take-le n items (omega arith) in
    let longer : at + n ≡ length (pre ++ take n items) = rw (length-append pre (take n items)) (omega arith) in
    ap (all_placed (placed_changes (at + n) ops)) (sym (regrouped pre items n))
    ∙ edited_placed ops (at + n) (pre ++ take n items) (drop n items) longer none (omega arith)
    ∙ append_assoc pre (take n items) (edited ops (drop n items))
edited_placed (Replace removed inserted ∷ ops) at pre items e none le = cc
edited_placed (Attribute c ∷ ops) at pre items e none le =
    let same = length-on_first (item_changed c) items in
    ap (λ n. all_placed (placed_changes at ops) (changed_at (item_changed c) n (pre ++ items))) e
    ∙ ap (all_placed (placed_changes at ops)) (changed_at-append (item_changed c) pre items)
    ∙ edited_placed ops at pre (on_first (item_changed c) items) e none (omega arith)

AllFit_from : (ops : Transaction) (at : ℕ) (pre items : List PlainItem) → at ≡ length pre → has_replace ops ≡ false → old_length ops ≤ length items →
    Fits ops items → AllFit (placed_changes at ops) (pre ++ items)
AllFit_from [] at pre items e none le fits = tt
AllFit_from (Retain n ∷ ops) at pre items e none le fits =
    let cut : length (drop n items) ≡ length items - n = length-drop n items in
    let prefix : length (take n items) ≡ n = length-take-le n items (omega arith) in
    let longer : at + n ≡ length (pre ++ take n items) = rw (length-append pre (take n items)) (omega arith) in
    subst (AllFit (placed_changes (at + n) ops)) (regrouped pre items n)
    (AllFit_from ops (at + n) (pre ++ take n items) (drop n items) longer none (omega arith) fits)
AllFit_from (Replace removed inserted ∷ ops) at pre items e none le fits = cc
AllFit_from (Attribute c ∷ ops) at pre items e none le fits =
    let same = length-on_first (item_changed c) items in
    let changed : changed_at (item_changed c) at (pre ++ items) ≡ pre ++ on_first (item_changed c) items =
    ap (λ n. changed_at (item_changed c) n (pre ++ items)) e ∙ changed_at-append (item_changed c) pre items in (
      ap (λ n. passes_at (allows c) n (pre ++ items)) e ∙ passes_at-append c pre items ∙ fits.0,
      subst (AllFit (placed_changes at ops)) (sym changed) (AllFit_from ops at pre (on_first (item_changed c) items) e none (omega arith) fits.1),
    )

Fits_from_AllFit : (ops : Transaction) (at : ℕ) (pre items : List PlainItem) → at ≡ length pre → has_replace ops ≡ false → old_length ops ≤ length items →
    AllFit (placed_changes at ops) (pre ++ items) → Fits ops items
Fits_from_AllFit [] at pre items e none le fit = tt
Fits_from_AllFit (Retain n ∷ ops) at pre items e none le fit =
    let cut : length (drop n items) ≡ length items - n = length-drop n items in
    let prefix : length (take n items) ≡ n = length-take-le n items (omega arith) in
    let longer : at + n ≡ length (pre ++ take n items) = rw (length-append pre (take n items)) (omega arith) in
    Fits_from_AllFit ops (at + n) (pre ++ take n items) (drop n items) longer none (omega arith)
    (subst (AllFit (placed_changes (at + n) ops)) (sym (regrouped pre items n)) fit)
Fits_from_AllFit (Replace removed inserted ∷ ops) at pre items e none le fit = cc
Fits_from_AllFit (Attribute c ∷ ops) at pre items e none le fit =
    let same = length-on_first (item_changed c) items in
    let changed : changed_at (item_changed c) at (pre ++ items) ≡ pre ++ on_first (item_changed c) items =
    ap (λ n. changed_at (item_changed c) n (pre ++ items)) e ∙ changed_at-append (item_changed c) pre items in (
      sym (passes_at-append c pre items) ∙ ap (λ n. passes_at (allows c) n (pre ++ items)) (sym e) ∙ fit.0,
      Fits_from_AllFit ops at pre (on_first (item_changed c) items) e none (omega arith) (subst (AllFit (placed_changes at ops)) changed fit.1),
    )

and_swap : (x y : Bool) → (x && y) ≡ false → (y && x) ≡ false
and_swap true true h = h
and_swap true false h = refl
and_swap false true h = refl
and_swap false false h = refl

clash_swap : (c d : AttrChange) → clash c d ≡ false → clash d c ≡ false
clash_swap c d h =
    let p = or_parts (text_same c.name d.name) (adds_or_removes c && adds_or_removes d) h in
    or_from (text_same d.name c.name) (adds_or_removes d && adds_or_removes c) (text_other c.name d.name p.0) (and_swap (adds_or_removes c) (adds_or_removes d) p.1)

-- at one position they don't clash
pub apart_at : (c d : ℕ × AttrChange) → meets c d ≡ false → c.0 ≡ d.0 → clash c.1 d.1 ≡ false
apart_at c d h e = let same : (c.0 == d.0) ≡ true = eq-eqb c.0 d.0 e in rw same at h

-- one change past a list of changes
module _ (c : ℕ × AttrChange) where
  change_one : List PlainItem → List PlainItem
  change_one = changed_at (item_changed c.1) c.0

  all_placed-change : (ds : List (ℕ × AttrChange)) (items : List PlainItem) → meets_one c ds ≡ false →
      all_placed ds (changed_at (item_changed c.1) c.0 items) ≡ changed_at (item_changed c.1) c.0 (all_placed ds items)
  all_placed-change [] items h = refl
  all_placed-change (d ∷ ds) items h =
      let p = or_parts (meets c d) (meets_one c ds) h in
      ap (all_placed ds) (changed_at-comm (item_changed c.1) (item_changed d.1) c.0 d.0 items (λ e item. item_changed-comm c.1 d.1 item (apart_at c d p.0 e)))
      ∙ all_placed-change ds (changed_at (item_changed d.1) d.0 items) p.1

  AllFit-change : (ds : List (ℕ × AttrChange)) (items : List PlainItem) → meets_one c ds ≡ false →
      AllFit ds items → AllFit ds (changed_at (item_changed c.1) c.0 items)
  AllFit-change [] items h fit = tt
  AllFit-change (d ∷ ds) items h fit =
      let p = or_parts (meets c d) (meets_one c ds) h in (
        passes_at-changed_at (item_changed c.1) (allows d.1) c.0 d.0 items (λ e item. allows-item_changed c.1 d.1 item (apart_at c d p.0 e)) ∙ fit.0,
        subst (AllFit ds)
            (sym (changed_at-comm (item_changed c.1) (item_changed d.1) c.0 d.0 items (λ e item. item_changed-comm c.1 d.1 item (apart_at c d p.0 e))))
            (AllFit-change ds (changed_at (item_changed d.1) d.0 items) p.1 fit.1),
      )

  passes_at-all_placed : (ds : List (ℕ × AttrChange)) (items : List PlainItem) → meets_one c ds ≡ false →
      passes_at (allows c.1) c.0 (all_placed ds items) ≡ passes_at (allows c.1) c.0 items
  passes_at-all_placed [] items h = refl
  passes_at-all_placed (d ∷ ds) items h =
      let p = or_parts (meets c d) (meets_one c ds) h in
      passes_at-all_placed ds (changed_at (item_changed d.1) d.0 items) p.1
      ∙ passes_at-changed_at (item_changed d.1) (allows c.1) d.0 c.0 items (λ e item. allows-item_changed d.1 c.1 item (clash_swap c.1 d.1 (apart_at c d p.0 (sym e))))

-- a list of changes past another
record BothOrders (cs ds : List (ℕ × AttrChange)) (items : List PlainItem) : Type 0 where
  first_then : AllFit ds (all_placed cs items)
  second_then : AllFit cs (all_placed ds items)
  one_list : all_placed ds (all_placed cs items) ≡ all_placed cs (all_placed ds items)

both_orders : (cs ds : List (ℕ × AttrChange)) (items : List PlainItem) → some_meet cs ds ≡ false → AllFit cs items → AllFit ds items → BothOrders cs ds items
both_orders [] ds items h fit fit_too = record { first_then = fit_too; second_then = tt; one_list = refl }
both_orders (c ∷ cs) ds items h fit fit_too =
    let p = or_parts (meets_one c ds) (some_meet cs ds) h in
    let rest = both_orders cs ds (changed_at (item_changed c.1) c.0 items) p.1 fit.1 (AllFit-change c ds items p.0 fit_too) in
    let moved = all_placed-change c ds items p.0 in
    record {
      first_then = rest.first_then;
      second_then = (passes_at-all_placed c ds items p.0 ∙ fit.0, subst (AllFit cs) moved rest.second_then);
      one_list = rest.one_list ∙ ap (all_placed cs) moved;
    }

new_length-attributes : (ops : Transaction) → has_replace ops ≡ false → new_length ops ≡ old_length ops
new_length-attributes [] none = refl
new_length-attributes (Retain n ∷ ops) none = ap (λ k. n + k) (new_length-attributes ops none)
new_length-attributes (Replace removed inserted ∷ ops) none = cc
new_length-attributes (Attribute c ∷ ops) none = new_length-attributes ops none

-- two transactions of attributes alone that don't meet may be applied in either order
pub attributes_agree : (a b : Transaction) (items : List PlainItem) → has_replace a ≡ false → has_replace b ≡ false →
    some_meet (placed_changes 0 a) (placed_changes 0 b) ≡ false → Applies a items → Applies b items → Agree a b a b items
attributes_agree a b items none none_too apart applies applies_too =
    let p = parts_of_Applies a items applies in
    let q = parts_of_Applies b items applies_too in
    let room_a : old_length a ≤ length items = omega arith in
    let room_b : old_length b ≤ length items = omega arith in
    let a_is = edited_placed a 0 [] items refl none room_a in
    let b_is = edited_placed b 0 [] items refl none_too room_b in
    let both = both_orders (placed_changes 0 a) (placed_changes 0 b) items apart
    (AllFit_from a 0 [] items refl none room_a p.1) (AllFit_from b 0 [] items refl none_too room_b q.1) in
    let length_a = length-edited a items p.1 room_a in
    let length_b = length-edited b items q.1 room_b in
    let same_a = new_length-attributes a none in
    let same_b = new_length-attributes b none_too in
    let after_a : old_length b ≡ length (edited a items) = omega arith in
    let after_b : old_length a ≡ length (edited b items) = omega arith in
    record {
      first_then = Applies_from b (edited a items) after_a
          (Fits_from_AllFit b 0 [] (edited a items) refl none_too (omega arith) (subst (AllFit (placed_changes 0 b)) a_is both.first_then));
      second_then = Applies_from a (edited b items) after_b
          (Fits_from_AllFit a 0 [] (edited b items) refl none (omega arith) (subst (AllFit (placed_changes 0 a)) b_is both.second_then));
      one_list =
          sym (edited_placed b 0 [] (edited a items) refl none_too (omega arith)) ∙ ap (all_placed (placed_changes 0 b)) (sym a_is)
          ∙ both.one_list ∙ ap (all_placed (placed_changes 0 a)) b_is ∙ edited_placed a 0 [] (edited b items) refl none (omega arith);
    }
