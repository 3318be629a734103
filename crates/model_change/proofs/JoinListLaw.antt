-- Lists of transactions, joined.
use Rattle.std.proofs.Common.{◌≡◌, ℕ, ◌+◌, ◌≤◌, Bool, true, false, if◌then◌else◌, List, [], ◌∷◌, length, Result, Ok, Err, refl, sym, ap, ◌∙◌, subst, arith}
use Rattle.model_items.specs.declared.plain_item.PlainItem.{PlainItem}
use Rattle.model_items.specs.Law.{Lawful}
use Rattle.model_change.specs.Transaction.{Transaction, all_inserted, edited}
use Rattle.model_change.specs.Join.{conflict, MayJoin, join, RangeConflict, range_conflict, row_with, list_with, join_row, after_row, join_list}
use Rattle.model_change.specs.Replay.{replay, Runs, AllRun, ListsAgree, JoinListsAgree, inserted_by, AllWithin, JoinListsWithin}
use Rattle.model_change.proofs.Fits.{gives_new_length}
use Rattle.model_change.proofs.JoinLaw.{joins_agree}
use Rattle.model_change.proofs.JoinLawful.{joins_lawful}
use Rattle.model_change.proofs.JoinNormal.{joins_reduced}
use Rattle.model_change.proofs.JoinLengths.{joins_insert, new_length_within, total_within}
use Rattle.model_change.proofs.JoinRestorable.{joins_restorable, joins_apart}

row_with-ok : (one : Transaction) (r : Result (List Transaction × Transaction) RangeConflict) (row : List Transaction × Transaction) → row_with one r ≡ Ok row →
    (rest : List Transaction × Transaction) × (r ≡ Ok rest) × ((one ∷ rest.0, rest.1) ≡ row)
row_with-ok one (Err clash) row h = cc
row_with-ok one (Ok rest) row h = let e : ◌≡◌ {A = List Transaction × Transaction} (one ∷ rest.0, rest.1) row = cc in (rest, refl, e)

list_with-ok : (one : Transaction) (r : Result (List Transaction × List Transaction) RangeConflict) (joined : List Transaction × List Transaction) → list_with one r ≡ Ok joined →
    (rest : List Transaction × List Transaction) × (r ≡ Ok rest) × ((rest.0, one ∷ rest.1) ≡ joined)
list_with-ok one (Err clash) joined h = cc
list_with-ok one (Ok rest) joined h = let e : ◌≡◌ {A = List Transaction × List Transaction} (rest.0, one ∷ rest.1) joined = cc in (rest, refl, e)

after_row-ok : (r : Result (List Transaction × Transaction) RangeConflict) (f : List Transaction → Result (List Transaction × List Transaction) RangeConflict)
    (joined : List Transaction × List Transaction) → after_row r f ≡ Ok joined →
    (row : List Transaction × Transaction) × (r ≡ Ok row) × (list_with row.1 (f row.0) ≡ Ok joined)
after_row-ok (Err clash) f joined h = cc
after_row-ok (Ok row) f joined h = (row, refl, h)

if_ok : {A E : Type 0} (b : Bool) (e : E) (r : Result A E) (y : A) → (if b then Err e else r) ≡ Ok y → (b ≡ false) × (r ≡ Ok y)
if_ok true e r y h = cc
if_ok false e r y h = (refl, h)

may_join : (one mine : Transaction) (items : List PlainItem) → Runs one items → Runs mine items → conflict one mine ≡ false → MayJoin one mine items
may_join one mine items run run_too apart =
    record { reduced = run.reduced; reduced_too = run_too.reduced; applies = run.applies; applies_too = run_too.applies; apart = apart }

-- one transaction over a list of committed ones
record RowAgrees (committed : List Transaction) (mine : Transaction) (row : List Transaction × Transaction) (items : List PlainItem) : Type 0 where
  mine_after : Runs row.1 (replay committed items)
  committed_after : AllRun row.0 (edited mine items)
  one_list : edited row.1 (replay committed items) ≡ replay row.0 (edited mine items)
  -- what is inserted stays so much
  mine_inserts : length (all_inserted row.1) ≡ length (all_inserted mine)
  committed_insert : inserted_by row.0 ≡ inserted_by committed

row_agrees : (committed : List Transaction) (mine : Transaction) (row : List Transaction × Transaction) (items : List PlainItem) →
    Lawful items → AllRun committed items → Runs mine items → join_row committed mine ≡ Ok row → RowAgrees committed mine row items
row_agrees [] mine row items lawful runs run h =
    let e : ◌≡◌ {A = List Transaction × Transaction} ([], mine) row = cc in
    subst (λ r. RowAgrees [] mine r items) e (record { mine_after = run; committed_after = tt; one_list = refl; mine_inserts = refl; committed_insert = refl })
row_agrees (one ∷ committed) mine row items lawful runs run h =
    let p = if_ok (conflict one mine) (range_conflict one mine) _ row h in
    let a2 = (join one mine).0 in
    let b2 = (join one mine).1 in
    let q = row_with-ok a2 (join_row committed b2) row p.1 in
    let may = may_join one mine items runs.0 run p.0 in
    let agree = joins_agree one mine items may in
    let reduced = joins_reduced one mine items may in
    let both = joins_lawful one mine items may lawful runs.0.lawful run.lawful in
    let full = joins_restorable one mine items may runs.0.restorable run.restorable in
    let given = joins_apart one mine p.0 runs.0.apart run.apart in
    let same = joins_insert one mine p.0 in
    let rest = row_agrees committed b2 q.0 (edited one items) runs.0.lawful runs.1
    (record { reduced = reduced.1; applies = agree.first_then; lawful = both; restorable = full.0; apart = given.1 }) q.1 in
    subst (λ r. RowAgrees (one ∷ committed) mine r items) q.2 (record {
      mine_after = rest.mine_after;
      committed_after = (
        record { reduced = reduced.0; applies = agree.second_then; lawful = subst Lawful agree.one_list both; restorable = full.1; apart = given.0 },
        subst (AllRun q.0.0) agree.one_list rest.committed_after,
      );
      one_list = rest.one_list ∙ ap (replay q.0.0) agree.one_list;
      mine_inserts = rest.mine_inserts ∙ same.1;
      committed_insert = λ i. same.0 i + rest.committed_insert i;
    })

pub lists_agree : JoinListsAgree
lists_agree committed [] joined items lawful runs runs_too h =
    let e : ◌≡◌ {A = List Transaction × List Transaction} (committed, []) joined = cc in
    subst (λ r. ListsAgree committed [] r items) e (record { mine_after = tt; committed_after = runs; one_list = refl })
lists_agree committed (one ∷ mine) joined items lawful runs runs_too h =
    let p = after_row-ok (join_row committed one) (λ over. join_list over mine) joined h in
    let q = list_with-ok p.0.1 (join_list p.0.0 mine) joined p.2 in
    let row = row_agrees committed one p.0 items lawful runs runs_too.0 p.1 in
    let rest = lists_agree p.0.0 mine q.0 (edited one items) runs_too.0.lawful row.committed_after runs_too.1 q.1 in
    subst (λ r. ListsAgree committed (one ∷ mine) r items) q.2 (record {
      mine_after = (row.mine_after, subst (AllRun q.0.1) (sym row.one_list) rest.mine_after);
      committed_after = rest.committed_after;
      one_list = ap (replay q.0.1) row.one_list ∙ rest.one_list;
    })

-- how long what is joined may be

joined_inserts : (committed mine : List Transaction) (joined : List Transaction × List Transaction) (items : List PlainItem) →
    Lawful items → AllRun committed items → AllRun mine items → join_list committed mine ≡ Ok joined →
    (inserted_by joined.0 ≡ inserted_by committed) × (inserted_by joined.1 ≡ inserted_by mine)
joined_inserts committed [] joined items lawful runs runs_too h =
    let e : ◌≡◌ {A = List Transaction × List Transaction} (committed, []) joined = cc in
    (λ i. inserted_by (sym e i).0, λ i. inserted_by (sym e i).1)
joined_inserts committed (one ∷ mine) joined items lawful runs runs_too h =
    let p = after_row-ok (join_row committed one) (λ over. join_list over mine) joined h in
    let q = list_with-ok p.0.1 (join_list p.0.0 mine) joined p.2 in
    let row = row_agrees committed one p.0 items lawful runs runs_too.0 p.1 in
    let rest = joined_inserts p.0.0 mine q.0 (edited one items) runs_too.0.lawful row.committed_after runs_too.1 q.1 in (
      (λ i. inserted_by (sym q.2 i).0) ∙ rest.0 ∙ row.committed_insert,
      (λ i. inserted_by (sym q.2 i).1) ∙ (λ i. row.mine_inserts i + rest.1 i),
    )

pub AllWithin-more : (n m : ℕ) (ts : List Transaction) → n ≤ m → AllWithin n ts → AllWithin m ts
AllWithin-more n m [] le h = tt
AllWithin-more n m (t ∷ ts) le h = let first = h.0 in (omega arith, AllWithin-more n m ts le h.1)

-- transactions that run from a list
runs_within : (ts : List Transaction) (items : List PlainItem) → AllRun ts items → AllWithin (length items + inserted_by ts) ts
runs_within [] items runs = tt
runs_within (t ∷ ts) items runs =
    let one = total_within t items runs.0.applies in
    let long = gives_new_length t items runs.0.applies in
    let grown = new_length_within t items runs.0.applies in
    let rest = runs_within ts (edited t items) runs.1 in
    (omega arith, AllWithin-more (length (edited t items) + inserted_by ts) (length items + inserted_by (t ∷ ts)) ts (omega arith) rest)

pub replay_within : (ts : List Transaction) (items : List PlainItem) → AllRun ts items → length (replay ts items) ≤ length items + inserted_by ts
replay_within [] items runs = omega arith
replay_within (t ∷ ts) items runs =
    let long = gives_new_length t items runs.0.applies in
    let grown = new_length_within t items runs.0.applies in
    let rest = replay_within ts (edited t items) runs.1 in
    omega arith

pub lists_within : JoinListsWithin
lists_within committed mine joined items lawful runs runs_too h =
    let agree = lists_agree committed mine joined items lawful runs runs_too h in
    let same = joined_inserts committed mine joined items lawful runs runs_too h in
    let n = length items + (inserted_by committed + inserted_by mine) in
    let far = replay_within mine items runs_too in
    let far_too = replay_within committed items runs in
    let one = same.0 in
    let two = same.1 in (
      AllWithin-more (length (replay mine items) + inserted_by joined.0) n joined.0 (omega arith) (runs_within joined.0 (replay mine items) agree.committed_after),
      AllWithin-more (length (replay committed items) + inserted_by joined.1) n joined.1 (omega arith) (runs_within joined.1 (replay committed items) agree.mine_after),
    )
