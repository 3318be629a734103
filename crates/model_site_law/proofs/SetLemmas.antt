-- A joined transaction sets the very attributes that it set before, and so does one with its
-- positions filled in.
use Rattle.std.proofs.Common.{◌≡◌, ℕ, zero, suc, ◌+◌, ◌-◌, Bool, true, false, if◌then◌else◌, List, [], ◌∷◌, ◌++◌, map, Result, Ok, Err, refl, sym, ap, ◌∙◌, append_assoc}
use Rattle.ve_base.specs.declared.attrs.Attr.{Attr}
use Rattle.model_items.specs.declared.plain_item.PlainItem.{PlainItem}
use Rattle.model_change.specs.Transaction.{Retain, Replace, Attribute, Transaction, old_length, new_length}
use Rattle.model_change.specs.Inverse.{filled}
use Rattle.model_change.specs.Join.{first, last, core, without_end, has_some, is_active, retained, with_ends, conflict, join, RangeConflict, range_conflict, row_with, list_with, join_row, after_row, join_list}
use Rattle.model_change.proofs.JoinLaw.{JoinedAs, Unmet, FirstIdle, SecondIdle, FirstLeft, SecondLeft, joined_as}
use Rattle.model_site_law.specs.ItemLaws.{all_set, attr_of}

set-append : (s t : Transaction) → all_set (s ++ t) ≡ all_set s ++ all_set t
set-append [] t = refl
set-append (Retain count ∷ s) t = set-append s t
set-append (Replace removed inserted ∷ s) t = set-append s t
set-append (Attribute c ∷ s) t =
    ap (λ attrs. attr_of c.name c.to ++ attrs) (set-append s t) ∙ sym (append_assoc (attr_of c.name c.to) (all_set s) (all_set t))

set-retained : (n : ℕ) → all_set (retained n) ≡ []
set-retained zero = refl
set-retained (suc n) = refl

set-without_end : (ops : Transaction) → all_set (without_end ops) ≡ all_set ops
set-without_end [] = refl
set-without_end (Retain count ∷ []) = refl
set-without_end (Retain count ∷ (op ∷ ops)) = set-without_end (op ∷ ops)
set-without_end (Replace removed inserted ∷ ops) = set-without_end ops
set-without_end (Attribute c ∷ ops) = ap (λ attrs. attr_of c.name c.to ++ attrs) (set-without_end ops)

set-core : (t : Transaction) → all_set (core t) ≡ all_set t
set-core [] = refl
set-core (Retain count ∷ ops) = set-without_end ops
set-core (Replace removed inserted ∷ ops) = set-without_end (Replace removed inserted ∷ ops)
set-core (Attribute c ∷ ops) = set-without_end (Attribute c ∷ ops)

append-none : (attrs : List Attr) → attrs ++ [] ≡ attrs
append-none [] = refl
append-none (a ∷ attrs) = ap (λ rest. a ∷ rest) (append-none attrs)

set-with_ends : (m : ℕ) (t : Transaction) (n : ℕ) → all_set (with_ends m (core t) n) ≡ all_set t
set-with_ends m t n =
    set-append (retained m) (core t ++ retained n)
    ∙ ap (λ attrs. attrs ++ all_set (core t ++ retained n)) (set-retained m)
    ∙ set-append (core t) (retained n)
    ∙ ap (λ attrs. all_set (core t) ++ attrs) (set-retained n)
    ∙ append-none (all_set (core t))
    ∙ set-core t

-- without an operation but retains it sets nothing
idle_sets : (t : Transaction) → is_active t ≡ false → all_set t ≡ []
idle_sets t idle = sym (set-core t) ∙ by_core (core t) idle
  where
    by_core : (ops : Transaction) → has_some ops ≡ false → all_set ops ≡ []
    by_core [] h = refl
    by_core (op ∷ ops) h = cc

module _ (a b : Transaction) where
  set_by : (r : Transaction × Transaction) → JoinedAs a b r → (all_set r.0 ≡ all_set a) × (all_set r.1 ≡ all_set b)
  set_by r (Unmet none none_too apart) = (refl, refl)
  set_by r (FirstIdle idle) = (set-retained (new_length b) ∙ sym (idle_sets a idle), refl)
  set_by r (SecondIdle idle) = (refl, set-retained (new_length a) ∙ sym (idle_sets b idle))
  set_by r (FirstLeft active active_too near) =
      (set-with_ends (first a) a ((last a + new_length b) - old_length b), set-with_ends ((first b + new_length a) - old_length a) b (last b))
  set_by r (SecondLeft active active_too near) =
      (set-with_ends ((first a + new_length b) - old_length b) a (last a), set-with_ends (first b) b ((last b + new_length a) - old_length a))

joins_set_the_same : (a b : Transaction) → conflict a b ≡ false → (all_set (join a b).0 ≡ all_set a) × (all_set (join a b).1 ≡ all_set b)
joins_set_the_same a b apart = set_by a b (join a b) (joined_as a b apart)

-- what a joined row and a joined list are made of
row_parts : (one : Transaction) (clash : Bool) (why : RangeConflict) (r : Result (List Transaction × Transaction) RangeConflict)
    (row : List Transaction × Transaction) → (if clash then Err why else row_with one r) ≡ Ok row →
    (clash ≡ false) × ((rest : List Transaction × Transaction) × (r ≡ Ok rest) × ((one ∷ rest.0, rest.1) ≡ row))
row_parts one true why r row h = cc
row_parts one false why (Err other) row h = cc
row_parts one false why (Ok rest) row h =
    let e : ◌≡◌ {A = List Transaction × Transaction} (one ∷ rest.0, rest.1) row = cc in (refl, (rest, refl, e))

record ListParts (r : Result (List Transaction × Transaction) RangeConflict)
    (f : List Transaction → Result (List Transaction × List Transaction) RangeConflict) (joined : List Transaction × List Transaction) : Type 0 where
  row : List Transaction × Transaction
  row_is : r ≡ Ok row
  rest : List Transaction × List Transaction
  rest_is : f row.0 ≡ Ok rest
  whole : (rest.0, row.1 ∷ rest.1) ≡ joined

list_parts : (r : Result (List Transaction × Transaction) RangeConflict) (f : List Transaction → Result (List Transaction × List Transaction) RangeConflict)
    (joined : List Transaction × List Transaction) → after_row r f ≡ Ok joined → ListParts r f joined
list_parts (Err clash) f joined h = cc
list_parts (Ok row) f joined h = by_rest (f row.0) refl h
  where
    by_rest : (s : Result (List Transaction × List Transaction) RangeConflict) → f row.0 ≡ s → list_with row.1 s ≡ Ok joined → ListParts (Ok row) f joined
    by_rest (Err clash) same k = cc
    by_rest (Ok rest) same k =
        let e : ◌≡◌ {A = List Transaction × List Transaction} (rest.0, row.1 ∷ rest.1) joined = cc in
        record { row = row; row_is = refl; rest = rest; rest_is = same; whole = e }

-- one transaction over committed ones
row_sets : (committed : List Transaction) (mine : Transaction) (row : List Transaction × Transaction) → join_row committed mine ≡ Ok row →
    (map all_set row.0 ≡ map all_set committed) × (all_set row.1 ≡ all_set mine)
row_sets [] mine row h =
    let e : ◌≡◌ {A = List Transaction × Transaction} ([], mine) row = cc in
    (λ i. map all_set (sym e i).0, λ i. all_set (sym e i).1)
row_sets (one ∷ committed) mine row h =
    let p = row_parts (join one mine).0 (conflict one mine) (range_conflict one mine) (join_row committed (join one mine).1) row h in
    let same = joins_set_the_same one mine p.0 in
    let rest = row_sets committed (join one mine).1 p.1.0 p.1.1 in (
      (λ i. map all_set (sym p.1.2 i).0) ∙ (λ i. same.0 i ∷ rest.0 i),
      (λ i. all_set (sym p.1.2 i).1) ∙ rest.1 ∙ same.1,
    )

pub join_lists_set_the_same : (committed mine : List Transaction) (joined : List Transaction × List Transaction) → join_list committed mine ≡ Ok joined →
    (map all_set joined.0 ≡ map all_set committed) × (map all_set joined.1 ≡ map all_set mine)
join_lists_set_the_same committed [] joined h =
    let e : ◌≡◌ {A = List Transaction × List Transaction} (committed, []) joined = cc in
    (λ i. map all_set (sym e i).0, λ i. map all_set (sym e i).1)
join_lists_set_the_same committed (one ∷ mine) joined h =
    let p = list_parts (join_row committed one) (λ over. join_list over mine) joined h in
    let row = row_sets committed one p.row p.row_is in
    let rest = join_lists_set_the_same p.row.0 mine p.rest p.rest_is in (
      (λ i. map all_set (sym p.whole i).0) ∙ rest.0 ∙ row.0,
      (λ i. map all_set (sym p.whole i).1) ∙ (λ i. row.1 i ∷ rest.1 i),
    )

pub set-filled : (t : Transaction) (items : List PlainItem) → all_set (filled t items) ≡ all_set t
set-filled [] items = refl
set-filled (Retain count ∷ ops) items = set-filled ops _
set-filled (Replace gone new ∷ ops) items = set-filled ops _
set-filled (Attribute c ∷ ops) [] = ap (λ attrs. attr_of c.name c.to ++ attrs) (set-filled ops _)
set-filled (Attribute c ∷ ops) (item ∷ items) = ap (λ attrs. attr_of c.name c.to ++ attrs) (set-filled ops _)
