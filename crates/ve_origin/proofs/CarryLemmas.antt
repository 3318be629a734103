-- The references of two nodes that have the same items, by their rows and by their positions.
use Rattle.std.proofs.Common.{◌≡◌, ℕ, zero, suc, ◌+◌, ◌-◌, ◌<◌, ◌≤◌, ◌==◌, ◌↔◌, Bool, true, false, List, [], ◌∷◌, length, take, drop, refl, sym, ap, ◌∙◌, arith, subst, eqb-true}
use Rattle.std.specs.Prelude.{slice_get, find, Some, None, option_map}
use Rattle.std.specs.List.{list_any, slice_range}
use Rattle.std.proofs.lemmas.List.{length-take-le}
use Rattle.std.proofs.Common.{length-drop}
use Rattle.std.proofs.lemmas.Option.{slice_get_within}
use Rattle.ve_base.specs.declared.value.Value.{Value}
use Rattle.model_items.specs.declared.item.Item.{Item}
use Rattle.model_items.specs.declared.plain_item.PlainItem.{PlainItem}
use Rattle.model_items.specs.declared.plain_item.PlainItem.TheVariants as plain
use Rattle.model_items.specs.Plain.{plain_list, AreDistinct}
use Rattle.model_items.specs.Same.{option_same}
use Rattle.model_page.specs.declared.ref_table.RefRow.{RefRow}
use Rattle.model_page.specs.References.{refs_of, place_of_body, table, ref_row}
use Rattle.model_page_write.specs.Nodes.{body_carried}
use Rattle.model_page_write.specs.PageText.{item_without_pre, body_same}
use Rattle.ve_origin.specs.Bodies.{AreSameBodies}
use Rattle.ve_origin.specs.Kept.{opens_notes}
use Rattle.ve_origin.specs.Rows.{carried_place, carried_at}
use Rattle.ve_origin.specs.Without.{first_plain}
use Rattle.ve_origin.proofs.NodeLemmas.{AreCiting, range_get}
use Rattle.ve_origin.proofs.PlaceLemmas.{none_up_to, place_for, inside_for, none_either, ref_there}
use Rattle.ve_origin.proofs.ReferLemmas.{ref_in, RefThere, NoRef, IsRef, find_row, table_rises}
use Rattle.ve_origin.proofs.RowLemmas.{found_row}
use Rattle.ve_origin.proofs.SplitLemmas.{body_for, AllSame}
use Rattle.ve_origin.proofs.ValueLemmas.{bodies_decide}

-- the positions of a node in each of two lists of items, up to which the internal list doesn't
-- open, where both have the same items
pub record AreAlike (xs ys : List PlainItem) (from a n : ℕ) : Type 0 where
  pub here : from + n ≤ length xs
  pub there : a + n ≤ length ys
  pub same : first_plain (slice_range xs from (from + n)) ≡ first_plain (slice_range ys a (a + n))
  pub outside : list_any opens_notes (take (from + n) xs) ≡ false
  pub outside_first : list_any opens_notes (take (a + n) ys) ≡ false

-- ---- the item at one position of both

pub record ItemOf (xs : List PlainItem) (from i : ℕ) (y : PlainItem) : Type 0 where
  pub item : PlainItem
  pub found : slice_get xs (from + i) ≡ Some item
  pub same : item_without_pre item ≡ item_without_pre y

without_twice : (x : PlainItem) → item_without_pre (item_without_pre x) ≡ item_without_pre x
without_twice (plain.Char c marks) = refl
without_twice (plain.Closing kind pre) = refl
without_twice (plain.Opening kind head marks pre origin generated) = refl

first_get : (l : List PlainItem) (i : ℕ) (y : PlainItem) → slice_get (first_plain l) i ≡ Some y → (x : PlainItem) × (slice_get l i ≡ Some x) × (item_without_pre x ≡ item_without_pre y)
first_get [] i y e = cc
first_get (x ∷ l) zero y e = let same : item_without_pre x ≡ y = cc in (x, refl, sym (without_twice x) ∙ ap item_without_pre same)
first_get (x ∷ l) (suc i) y e = (y, e, refl)

pub item_of : (xs : List PlainItem) (from n i : ℕ) (y : PlainItem) → from + n ≤ length xs → i < n → slice_get (first_plain (slice_range xs from (from + n))) i ≡ Some y → ItemOf xs from i y
item_of xs from n i y within less e =
    let p = first_get (slice_range xs from (from + n)) i y e in
    record { item = p.0; found = range_get xs from n i less within ∙ p.1; same = p.2 }

-- one exists at each position
some_at : (l : List PlainItem) (i : ℕ) → i < length l → (y : PlainItem) × (slice_get (first_plain l) i ≡ Some y)
some_at [] i h = absurd (omega (arith, h))
some_at (x ∷ l) zero h = (item_without_pre x, refl)
some_at (x ∷ l) (suc i) h = rest l i (omega (arith, h))
  where
    rest : (l : List PlainItem) (i : ℕ) → i < length l → (y : PlainItem) × (slice_get l i ≡ Some y)
    rest [] i h = absurd (omega (arith, h))
    rest (x ∷ l) zero h = (x, refl)
    rest (x ∷ l) (suc i) h = rest l i (omega (arith, h))

-- where a row is found, it stands
index_of : (p : ℕ) (rows : List RefRow) (r : RefRow) → find (λ (s : RefRow). s.at == p) rows ≡ Some r → (k : ℕ) × (slice_get rows k ≡ Some r) × (r.at ≡ p)
index_of p [] r e = cc
index_of p (x ∷ rows) r e = cases (x.at == p) refl (index_of p rows r)
  where
    cases : (b : Bool) → (x.at == p) ≡ b → (find (λ (s : RefRow). s.at == p) rows ≡ Some r → (k : ℕ) × (slice_get rows k ≡ Some r) × (r.at ≡ p)) → (k : ℕ) × (slice_get (x ∷ rows) k ≡ Some r) × (r.at ≡ p)
    cases true h more =
        let here : find (λ (s : RefRow). s.at == p) (x ∷ rows) ≡ Some x = rw h refl in
        let some : Some x ≡ Some r = sym here ∙ e in
        let same : x ≡ r = cc in
        (0, some, ap (λ (s : RefRow). s.at) (sym same) ∙ eqb-true x.at p h)
    cases false h more =
        let later : find (λ (s : RefRow). s.at == p) (x ∷ rows) ≡ find (λ (s : RefRow). s.at == p) rows = rw h refl in
        let m = more (sym later ∙ e) in
        (suc m.0, m.1, m.2)

-- ---- by positions

-- each position carries the same in both
abbrev pub AllPlaces : List Item → List Item → List PlainItem → List PlainItem → ℕ → ℕ → ℕ → Type 0
AllPlaces now first xs ys from a n = (i : ℕ) → i < n → AreSameBodies now first (carried_at (table xs) (from + i)) (carried_at (table ys) (a + i))

pub range_long : (xs : List PlainItem) (from n : ℕ) → from + n ≤ length xs → length (slice_range xs from (from + n)) ≡ n
range_long xs from n h =
    let many : from + n - from ≡ n = omega arith in
    length-take-le (from + n - from) (drop from xs) (let d = length-drop from xs in omega (arith, d, h)) ∙ many

module _ (values : List Value) (now first : List Item) (from a n : ℕ) (distinct : AreDistinct values) (cites : AreCiting values now) (cites_first : AreCiting values first) where
  abbrev pub xs : List PlainItem
  xs = plain_list values now

  abbrev pub ys : List PlainItem
  ys = plain_list values first

  decide : AreAlike xs ys from a n → (i : ℕ) (y : PlainItem) → i < n → slice_get (first_plain (slice_range xs from (from + n))) i ≡ Some y →
      AreSameBodies now first (carried_at (table xs) (from + i)) (carried_at (table ys) (a + i)) ↔ (option_same body_same (body_for (body_carried xs (from + i)) y) (body_for (body_carried ys (a + i)) y) ≡ true)
  decide alike i y less e =
      let x = item_of xs from n i y alike.here less e in
      let z = item_of ys a n i y alike.there less (sym (ap (λ l. slice_get l i) alike.same) ∙ e) in
      let p = place_for xs (from + i) x.item y x.found x.same (none_up_to xs (from + n) (from + i) (omega (arith, less)) alike.outside) in
      let q = place_for ys (a + i) z.item y z.found z.same (none_up_to ys (a + n) (a + i) (omega (arith, less)) alike.outside_first) in
      let o = body_for (body_carried xs (from + i)) y in
      let r = body_for (body_carried ys (a + i)) y in
      let d = bodies_decide values now first o r distinct cites cites_first (inside_for xs (from + i) y) (inside_for ys (a + i) y) in (
        λ h. d.0 (subst (λ k. AreSameBodies now first (place_of_body o) k) (sym q) (subst (λ k. AreSameBodies now first k (carried_at (table ys) (a + i))) (sym p) h)),
        λ h. subst (λ k. AreSameBodies now first (carried_at (table xs) (from + i)) k) q (subst (λ k. AreSameBodies now first k (place_of_body r)) p (d.1 h)),
      )

  -- so all are the same by value where they are by their positions
  pub same_by_places : AreAlike xs ys from a n → AllPlaces now first xs ys from a n → AllSame (body_carried xs) (body_carried ys) from a (first_plain (slice_range xs from (from + n)))
  same_by_places alike all i y e =
      let less : i < n = first_less i y e in
      (decide alike i y less e).0 (all i less)
    where
      first_less : (i : ℕ) (y : PlainItem) → slice_get (first_plain (slice_range xs from (from + n))) i ≡ Some y → i < n
      first_less i y e =
          let p = first_get (slice_range xs from (from + n)) i y e in
          let w = slice_get_within (slice_range xs from (from + n)) i p.0 p.1 in
          let long = range_long xs from n alike.here in
          omega (arith, w, long)

  pub places_by_same : AreAlike xs ys from a n → AllSame (body_carried xs) (body_carried ys) from a (first_plain (slice_range xs from (from + n))) → AllPlaces now first xs ys from a n
  places_by_same alike all i less =
      let long = range_long xs from n alike.here in
      let y = some_at (slice_range xs from (from + n)) i (omega (arith, less, long)) in
      (decide alike i y.0 less y.1).1 (all i y.0 y.1)

  -- ---- by rows

  -- each row of the node carries the same in both
  abbrev pub AllRows : Type 0
  AllRows = (k : ℕ) (r : RefRow) → slice_get (table xs) k ≡ Some r → from ≤ r.at → r.at < from + n → AreSameBodies now first (carried_place (Some r)) (carried_at (table ys) (a + (r.at - from)))

  pub rows_by_places : AllPlaces now first xs ys from a n → AllRows
  rows_by_places all k r e low high =
      let there : from + (r.at - from) ≡ r.at = omega (arith, low) in
      let found : find (λ (s : RefRow). s.at == r.at) (table xs) ≡ Some r = found_row (table xs) r.at k r e refl (λ j s f less. table_rises xs j k s r f e less) in
      let is : carried_at (table xs) (from + (r.at - from)) ≡ carried_place (Some r) = ap (carried_at (table xs)) there ∙ ap carried_place found in
      subst (λ o. AreSameBodies now first o (carried_at (table ys) (a + (r.at - from)))) is (all (r.at - from) (omega (arith, low, high)))

  pub places_by_rows : AreAlike xs ys from a n → AllRows → AllPlaces now first xs ys from a n
  places_by_rows alike all i less = cases (ref_there xs (from + i) x.item x.found outside)
    where
      long : length (slice_range xs from (from + n)) ≡ n
      long = range_long xs from n alike.here

      y : (y : PlainItem) × (slice_get (first_plain (slice_range xs from (from + n))) i ≡ Some y)
      y = some_at (slice_range xs from (from + n)) i (omega (arith, less, long))

      x : ItemOf xs from i y.0
      x = item_of xs from n i y.0 alike.here less y.1

      z : ItemOf ys a i y.0
      z = item_of ys a n i y.0 alike.there less (sym (ap (λ l. slice_get l i) alike.same) ∙ y.1)

      outside : list_any opens_notes (take (from + i) xs) ≡ false
      outside = none_up_to xs (from + n) (from + i) (omega (arith, less)) alike.outside

      outside_first : list_any opens_notes (take (a + i) ys) ≡ false
      outside_first = none_up_to ys (a + n) (a + i) (omega (arith, less)) alike.outside_first

      cases : RefThere (ref_in (from + i) (refs_of xs)) → AreSameBodies now first (carried_at (table xs) (from + i)) (carried_at (table ys) (a + i))
      cases (NoRef none) =
          let none_first = none_either xs ys (from + i) (a + i) x.item z.item x.found z.found (x.same ∙ sym z.same) outside outside_first none in
          let p : None ≡ carried_at (table xs) (from + i) = sym (ap carried_place (find_row xs (from + i) (refs_of xs) ∙ ap (option_map (ref_row xs)) none)) in
          let q : None ≡ carried_at (table ys) (a + i) = sym (ap carried_place (find_row ys (a + i) (refs_of ys) ∙ ap (option_map (ref_row ys)) none_first)) in
          subst (λ o. AreSameBodies now first o (carried_at (table ys) (a + i))) p (subst (λ o. AreSameBodies now first None o) q tt)
      cases (IsRef r some inside) =
          let found : find (λ (s : RefRow). s.at == from + i) (table xs) ≡ Some (ref_row xs r) = find_row xs (from + i) (refs_of xs) ∙ ap (option_map (ref_row xs)) some in
          let k = index_of (from + i) (table xs) (ref_row xs r) found in
          let at : r.at ≡ from + i = k.2 in
          let there : a + (r.at - from) ≡ a + i = omega (arith, at) in
          let h = all k.0 (ref_row xs r) k.1 (omega (arith, at)) (omega (arith, at, less)) in
          subst (λ o. AreSameBodies now first o (carried_at (table ys) (a + i))) (sym (ap carried_place found)) (subst (λ m. AreSameBodies now first (carried_place (Some (ref_row xs r))) (carried_at (table ys) m)) there h)
