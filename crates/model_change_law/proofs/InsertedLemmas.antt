-- A joined transaction inserts the very items that it inserted before.
use Rattle.std.proofs.Common.{◌≡◌, ℕ, zero, suc, ◌+◌, ◌-◌, Bool, true, false, if◌then◌else◌, List, [], ◌∷◌, ◌++◌, map, Result, Ok, Err, refl, sym, ap, ◌∙◌, append_assoc}
use Rattle.model_items.specs.declared.plain_item.PlainItem.{PlainItem}
use Rattle.model_change.specs.Transaction.{Retain, Replace, Attribute, Transaction, old_length, new_length, all_inserted}
use Rattle.model_change.specs.Join.{first, last, core, without_end, has_some, is_active, retained, with_ends, conflict, join, RangeConflict, range_conflict, row_with, list_with, join_row, after_row, join_list}
use Rattle.model_change.proofs.JoinLaw.{JoinedAs, Unmet, FirstIdle, SecondIdle, FirstLeft, SecondLeft, joined_as}
use Rattle.model_change_law.specs.Inserted.{JoinsInsertTheSame, JoinListsInsertTheSame}

inserted-append : (s t : Transaction) → all_inserted (s ++ t) ≡ all_inserted s ++ all_inserted t
inserted-append [] t = refl
inserted-append (Retain count ∷ s) t = inserted-append s t
inserted-append (Replace removed inserted ∷ s) t =
    ap (λ items. inserted ++ items) (inserted-append s t) ∙ sym (append_assoc inserted (all_inserted s) (all_inserted t))
inserted-append (Attribute c ∷ s) t = inserted-append s t

inserted-retained : (n : ℕ) → all_inserted (retained n) ≡ []
inserted-retained zero = refl
inserted-retained (suc n) = refl

inserted-without_end : (ops : Transaction) → all_inserted (without_end ops) ≡ all_inserted ops
inserted-without_end [] = refl
inserted-without_end (Retain count ∷ []) = refl
inserted-without_end (Retain count ∷ (op ∷ ops)) = inserted-without_end (op ∷ ops)
inserted-without_end (Replace removed inserted ∷ ops) = ap (λ items. inserted ++ items) (inserted-without_end ops)
inserted-without_end (Attribute c ∷ ops) = inserted-without_end ops

inserted-core : (t : Transaction) → all_inserted (core t) ≡ all_inserted t
inserted-core [] = refl
inserted-core (Retain count ∷ ops) = inserted-without_end ops
inserted-core (Replace removed inserted ∷ ops) = inserted-without_end (Replace removed inserted ∷ ops)
inserted-core (Attribute c ∷ ops) = inserted-without_end (Attribute c ∷ ops)

append-none : (items : List PlainItem) → items ++ [] ≡ items
append-none [] = refl
append-none (item ∷ items) = ap (λ rest. item ∷ rest) (append-none items)

inserted-with_ends : (m : ℕ) (t : Transaction) (n : ℕ) → all_inserted (with_ends m (core t) n) ≡ all_inserted t
inserted-with_ends m t n =
    inserted-append (retained m) (core t ++ retained n)
    ∙ ap (λ items. items ++ all_inserted (core t ++ retained n)) (inserted-retained m)
    ∙ inserted-append (core t) (retained n)
    ∙ ap (λ items. all_inserted (core t) ++ items) (inserted-retained n)
    ∙ append-none (all_inserted (core t))
    ∙ inserted-core t

-- without an operation but retains it inserts nothing
idle_inserts : (t : Transaction) → is_active t ≡ false → all_inserted t ≡ []
idle_inserts t idle = sym (inserted-core t) ∙ by_core (core t) idle
  where
    by_core : (ops : Transaction) → has_some ops ≡ false → all_inserted ops ≡ []
    by_core [] h = refl
    by_core (op ∷ ops) h = cc

module _ (a b : Transaction) where
  inserted_by : (r : Transaction × Transaction) → JoinedAs a b r → (all_inserted r.0 ≡ all_inserted a) × (all_inserted r.1 ≡ all_inserted b)
  inserted_by r (Unmet none none_too apart) = (refl, refl)
  inserted_by r (FirstIdle idle) = (inserted-retained (new_length b) ∙ sym (idle_inserts a idle), refl)
  inserted_by r (SecondIdle idle) = (refl, inserted-retained (new_length a) ∙ sym (idle_inserts b idle))
  inserted_by r (FirstLeft active active_too near) =
      (inserted-with_ends (first a) a ((last a + new_length b) - old_length b), inserted-with_ends ((first b + new_length a) - old_length a) b (last b))
  inserted_by r (SecondLeft active active_too near) =
      (inserted-with_ends ((first a + new_length b) - old_length b) a (last a), inserted-with_ends (first b) b ((last b + new_length a) - old_length a))

pub joins_insert_the_same : JoinsInsertTheSame
joins_insert_the_same a b apart = inserted_by a b (join a b) (joined_as a b apart)

-- what a joined row and a joined list are made of
row_parts : (one : Transaction) (clash : Bool) (why : RangeConflict) (r : Result (List Transaction × Transaction) RangeConflict)
    (row : List Transaction × Transaction) → (if clash then Err why else row_with one r) ≡ Ok row →
    (clash ≡ false) × ((rest : List Transaction × Transaction) × (r ≡ Ok rest) × ((one ∷ rest.0, rest.1) ≡ row))
row_parts one true why r row h = cc
row_parts one false why (Err other) row h = cc
row_parts one false why (Ok rest) row h =
    let e : ◌≡◌ {A = List Transaction × Transaction} (one ∷ rest.0, rest.1) row = cc in (refl, (rest, refl, e))

record ListParts (r : Result (List Transaction × Transaction) RangeConflict)
    (f : List Transaction → Result (List Transaction × List Transaction) RangeConflict) (joined : List Transaction × List Transaction) : Type 0 where
  row : List Transaction × Transaction
  row_is : r ≡ Ok row
  rest : List Transaction × List Transaction
  rest_is : f row.0 ≡ Ok rest
  whole : (rest.0, row.1 ∷ rest.1) ≡ joined

list_parts : (r : Result (List Transaction × Transaction) RangeConflict) (f : List Transaction → Result (List Transaction × List Transaction) RangeConflict)
    (joined : List Transaction × List Transaction) → after_row r f ≡ Ok joined → ListParts r f joined
list_parts (Err clash) f joined h = cc
list_parts (Ok row) f joined h = by_rest (f row.0) refl h
  where
    by_rest : (s : Result (List Transaction × List Transaction) RangeConflict) → f row.0 ≡ s → list_with row.1 s ≡ Ok joined → ListParts (Ok row) f joined
    by_rest (Err clash) same k = cc
    by_rest (Ok rest) same k =
        let e : ◌≡◌ {A = List Transaction × List Transaction} (rest.0, row.1 ∷ rest.1) joined = cc in
        record { row = row; row_is = refl; rest = rest; rest_is = same; whole = e }

-- one transaction over committed ones
row_inserts : (committed : List Transaction) (mine : Transaction) (row : List Transaction × Transaction) → join_row committed mine ≡ Ok row →
    (map all_inserted row.0 ≡ map all_inserted committed) × (all_inserted row.1 ≡ all_inserted mine)
row_inserts [] mine row h =
    let e : ◌≡◌ {A = List Transaction × Transaction} ([], mine) row = cc in
    (λ i. map all_inserted (sym e i).0, λ i. all_inserted (sym e i).1)
row_inserts (one ∷ committed) mine row h =
    let p = row_parts (join one mine).0 (conflict one mine) (range_conflict one mine) (join_row committed (join one mine).1) row h in
    let same = joins_insert_the_same one mine p.0 in
    let rest = row_inserts committed (join one mine).1 p.1.0 p.1.1 in (
      (λ i. map all_inserted (sym p.1.2 i).0) ∙ (λ i. same.0 i ∷ rest.0 i),
      (λ i. all_inserted (sym p.1.2 i).1) ∙ rest.1 ∙ same.1,
    )

pub join_lists_insert_the_same : JoinListsInsertTheSame
join_lists_insert_the_same committed [] joined h =
    let e : ◌≡◌ {A = List Transaction × List Transaction} (committed, []) joined = cc in
    (λ i. map all_inserted (sym e i).0, λ i. map all_inserted (sym e i).1)
join_lists_insert_the_same committed (one ∷ mine) joined h =
    let p = list_parts (join_row committed one) (λ over. join_list over mine) joined h in
    let row = row_inserts committed one p.row p.row_is in
    let rest = join_lists_insert_the_same p.row.0 mine p.rest p.rest_is in (
      (λ i. map all_inserted (sym p.whole i).0) ∙ rest.0 ∙ row.0,
      (λ i. map all_inserted (sym p.whole i).1) ∙ (λ i. row.1 i ∷ rest.1 i),
    )
