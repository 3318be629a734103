-- Entries that are joined one after the other are the first of those that join as one list.
use Rattle.std.proofs.Common.{◌≡◌, suc, List, [], ◌∷◌, ◌++◌, length, take, drop, Option, Some, None, Result, Ok, Err, refl, sym, ap, ◌∙◌, subst, append-nil, arith}
use Rattle.std.proofs.lemmas.List.{take-append-drop}
use Rattle.model_change.specs.Transaction.{Transaction}
use Rattle.model_change.specs.Join.{RangeConflict, list_with, join_row, after_row, join_list}
use Rattle.model_change.specs.Replay.{AllRun, flattened}
use Rattle.model_change.proofs.JoinListLaw.{lists_within}
use Rattle.model_site.specs.Joined.{joined_first, join_entries}
use Rattle.model_site_law.specs.Laws.{IsNextInConflict, AreFirst, EntriesWithin, JoinedUntilConflict}
use Rattle.model_site_law.proofs.ReplayLemmas.{AllRun-parts, flattened-append}
use Rattle.model_site_law.proofs.NeedLemmas.{list_with-ok, after_row-ok}

abbrev Lists : Type 0
Lists = List Transaction × List Transaction

-- ---- mine in two parts

abbrev with_prefix : List Transaction → Result Lists RangeConflict → Result Lists RangeConflict
with_prefix prefix (Ok r) = Ok (r.0, prefix ++ r.1)
with_prefix prefix (Err clash) = Err clash

abbrev and_then : Result Lists RangeConflict → (List Transaction → Result Lists RangeConflict) → Result Lists RangeConflict
and_then (Ok r) rest = with_prefix r.1 (rest r.0)
and_then (Err clash) rest = Err clash

join_list-parts : (committed prefix rest : List Transaction) → join_list committed (prefix ++ rest) ≡ and_then (join_list committed prefix) (λ over. join_list over rest)
join_list-parts committed [] rest = by_rest (join_list committed rest)
  where
    by_rest : (r : Result Lists RangeConflict) → r ≡ with_prefix [] r
    by_rest (Ok r) = refl
    by_rest (Err clash) = refl
join_list-parts committed (t ∷ prefix) rest = by_row (λ c. join_list-parts c prefix rest) (join_row committed t)
  where
    by_row : ((c : List Transaction) → join_list c (prefix ++ rest) ≡ and_then (join_list c prefix) (λ over. join_list over rest)) → (r : Result (List Transaction × Transaction) RangeConflict) →
        after_row r (λ over. join_list over (prefix ++ rest)) ≡ and_then (after_row r (λ over. join_list over prefix)) (λ over. join_list over rest)
    by_row ih (Err clash) = refl
    by_row ih (Ok row) = ap (list_with row.1) (ih row.0) ∙ by_prefix (join_list row.0 prefix)
      where
        by_prefix : (r : Result Lists RangeConflict) → list_with row.1 (and_then r (λ over. join_list over rest)) ≡ and_then (list_with row.1 r) (λ over. join_list over rest)
        by_prefix (Err clash) = refl
        by_prefix (Ok r) = by_rest (join_list r.0 rest)
          where
            by_rest : (q : Result Lists RangeConflict) → list_with row.1 (with_prefix r.1 q) ≡ with_prefix (row.1 ∷ r.1) q
            by_rest (Ok q) = refl
            by_rest (Err clash) = refl

-- as many of mine as before
length-joined : (committed mine : List Transaction) (r : Lists) → join_list committed mine ≡ Ok r → length r.1 ≡ length mine
length-joined committed [] r h = let e : ◌≡◌ {A = Lists} (committed, []) r = cc in ap (λ (q : Lists). length q.1) (sym e)
length-joined committed (t ∷ mine) r h =
    let p = after_row-ok (join_row committed t) (λ over. join_list over mine) r h in
    let q = list_with-ok p.0.1 (join_list p.0.0 mine) r p.2 in
    ap (λ (u : Lists). length u.1) (sym q.2) ∙ ap (λ n. suc n) (length-joined p.0.0 mine q.0 q.1)

-- ---- entry by entry

pub joined_until_conflict : JoinedUntilConflict
joined_until_conflict committed [] = record { one_list = refl; sizes = refl; next = refl }
joined_until_conflict committed (e ∷ es) = by_first (λ c. joined_until_conflict c es) (join_list committed e) refl
  where
    by_first : ((c : List Transaction) → AreFirst c es (join_entries c es)) → (r : Result Lists RangeConflict) → join_list committed e ≡ r →
        AreFirst committed (e ∷ es) (joined_first committed r (λ over. join_entries over es))
    by_first ih (Err clash) h = record { one_list = refl; sizes = refl; next = (omega arith, ap (join_list committed) (append-nil e) ∙ h) }
    by_first ih (Ok r) h =
        let j = join_entries r.0 es in
        let rest = ih r.0 in
        record {
          one_list = both (flattened (take (length j.kept) es)) ∙ ap (with_prefix r.1) rest.one_list;
          sizes = λ i. length-joined committed e r h i ∷ rest.sizes i;
          next = by_clash j.clash rest.next;
        }
      where
        both : (mine : List Transaction) → join_list committed (e ++ mine) ≡ with_prefix r.1 (join_list r.0 mine)
        both mine = join_list-parts committed e mine ∙ ap (λ x. and_then x (λ over. join_list over mine)) h

        by_clash : (o : Option RangeConflict) → IsNextInConflict r.0 es (length (join_entries r.0 es).kept) o → IsNextInConflict committed (e ∷ es) (suc (length (join_entries r.0 es).kept)) o
        by_clash None n = ap (λ k. suc k) n
        by_clash (Some clash) n = let below = n.0 in (omega arith, both (flattened (take (suc (length (join_entries r.0 es).kept)) es)) ∙ ap (with_prefix r.1) n.1)

pub entries_within : EntriesWithin
entries_within foreign entries items sound run runs =
    let j = join_entries foreign entries in
    let n = length j.kept in
    let split : flattened entries ≡ flattened (take n entries) ++ flattened (drop n entries) = ap flattened (sym (take-append-drop n entries)) ∙ flattened-append (take n entries) (drop n entries) in
    let parts = AllRun-parts (flattened (take n entries)) (flattened (drop n entries)) items (subst (λ us. AllRun us items) split runs) in
    lists_within foreign (flattened (take n entries)) (j.committed, flattened j.kept) items sound.lawful run parts.0 (joined_until_conflict foreign entries).one_list
