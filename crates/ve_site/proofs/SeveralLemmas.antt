-- An entry of another site for which a pending one is dropped makes two transactions at least: one
-- that takes back, and one of its own.
use Rattle.std.proofs.Common.{◌≡◌, ◌≤◌, ◌<◌, ◌+◌, List, [], ◌∷◌, length, take, drop, Result, Ok, Err, refl, sym, ap, ◌∙◌, arith}
use Rattle.std.proofs.lemmas.List.{append-nil, length-append, length-map}
use Rattle.model_items.specs.declared.plain_item.PlainItem.{PlainItem}
use Rattle.model_change.specs.Inverse.{inverse}
use Rattle.model_change.specs.Join.{RangeConflict, join_list, list_with}
use Rattle.model_change.specs.Replay.{flattened, reversal}
use Rattle.model_change.specs.Transaction.{Transaction, all_inserted}
use Rattle.model_change_law.proofs.InsertedLemmas.{join_lists_insert_the_same}
use Rattle.model_site.specs.Entries.{Entry, Parcel, parcels}
use Rattle.model_site.specs.Joined.{Joined, join_entries, joined_first}
use Rattle.model_site.specs.Site.{Site, pending}
use Rattle.model_site_law.proofs.ReplayLemmas.{parcels-drop}
use Rattle.model_site_law.proofs.UntilConflictLemmas.{joined_until_conflict}
use Rattle.model_change.specs.Cost.{cost_of_transactions}
use Rattle.ve_editor.specs.Counted.{steps_besides, steps_of_blank}
use Rattle.model_site.specs.Made.{taking_one}
use Rattle.ve_site.specs.Underway.{TakesOnTrial}

-- over no transaction nothing is in conflict
over_none : (mine : List Transaction) → join_list [] mine ≡ Ok ([], mine)
over_none [] = refl
over_none (t ∷ mine) = ap (list_with t) (over_none mine)

some_are : {A : Type 0} (xs : List A) → (xs ≡ [] → ⊥) → 1 ≤ length xs
some_are [] some = absurd (some refl)
some_are (x ∷ xs) some = omega arith

no_conflict : {A : Type 0} (r : A) (clash : RangeConflict) → Ok r ≡ Err clash → ⊥
no_conflict r clash e = cc

-- both sides of a conflict have a transaction
record BothHaveSome (committed : List Transaction) (entries : List Parcel) : Type 0 where
  committed_has : 1 ≤ length (join_entries committed entries).committed
  dropped_has : 1 ≤ length (flattened (drop (length (join_entries committed entries).kept) entries))

both_have_some : (committed : List Transaction) (entries : List Parcel) → length (join_entries committed entries).kept < length entries → BothHaveSome committed entries
both_have_some committed [] fewer = absurd (omega (arith, fewer))
both_have_some committed (e ∷ es) fewer =
    let both = by_first (join_list committed e) refl (λ c. both_have_some c es) fewer in
    record { committed_has = both.0; dropped_has = both.1 }
  where
    by_first : (r : Result (List Transaction × List Transaction) RangeConflict) → join_list committed e ≡ r →
        ((c : List Transaction) → length (join_entries c es).kept < length es → BothHaveSome c es) →
        length (joined_first committed r (λ over. join_entries over es)).kept < length (e ∷ es) →
        (1 ≤ length (joined_first committed r (λ over. join_entries over es)).committed)
        × (1 ≤ length (flattened (drop (length (joined_first committed r (λ over. join_entries over es)).kept) (e ∷ es))))
    by_first (Err clash) is later fewer = (
      some_are committed (λ none. no_conflict ([], e) clash (sym (over_none e) ∙ (ap (λ c. join_list c e) (sym none) ∙ is))),
      let some = some_are e (λ none. no_conflict (committed, []) clash (ap (join_list committed) (sym none) ∙ is)) in
          let all = length-append e (flattened es) in
          omega (arith, some, all),
    )
    by_first (Ok joined) is later fewer = let both = later joined.0 (omega (arith, fewer)) in (both.committed_has, both.dropped_has)

reversed_long : (ts : List Transaction) → length (reversal ts) ≡ length ts
reversed_long [] = refl
reversed_long (t ∷ ts) = let more = length-append (reversal ts) (inverse t ∷ []) in let rest = reversed_long ts in omega (arith, more, rest)

module _ (foreign : Parcel) (s : Site) where
  abbrev j : Joined
  j = join_entries foreign (parcels (pending s))

  made_length : length (taking_one foreign s) ≡ length (flattened (drop (length j.kept) (parcels (pending s)))) + length j.committed
  made_length =
      let gone = flattened (parcels (drop (length j.kept) (pending s))) in
      let both = length-append (reversal gone) j.committed in
      let back = reversed_long gone in
      let dropped = ap (λ ps. length (flattened ps)) (parcels-drop (length j.kept) (pending s)) in
      omega (arith, both, back, dropped)

  pub two_where_dropped : length j.kept < length (pending s) → 2 ≤ length (taking_one foreign s)
  two_where_dropped fewer =
      let own = length-map (pending s) (λ (e : Entry). e.txs) in
      let both = both_have_some foreign (parcels (pending s)) (omega (arith, fewer, own)) in
      let all = made_length in
      omega (arith, all, both.committed_has, both.dropped_has)

  as_many : length j.committed ≡ length foreign
  as_many =
      let kept = flattened (take (length j.kept) (parcels (pending s))) in
      let alike = (join_lists_insert_the_same foreign kept (j.committed, flattened j.kept) (joined_until_conflict foreign (parcels (pending s))).one_list).0 in
      sym (length-map j.committed all_inserted) ∙ (ap (λ (l : List (List PlainItem)). length l) alike ∙ length-map foreign all_inserted)

  pub two_where_several : 2 ≤ length foreign → 2 ≤ length (taking_one foreign s)
  two_where_several two = let all = made_length in let same = as_many in omega (arith, two, all, same)

-- ---- what is made on a trial

besides : (ts : List Transaction) → 2 ≤ length ts → steps_besides ts ≡ steps_of_blank
besides [] two = absurd (omega (arith, two))
besides (t ∷ []) two = absurd (omega (arith, two))
besides (t ∷ u ∷ ts) two = refl

pub one_takes_trial : (foreign : Parcel) (s : Site) → 2 ≤ length (taking_one foreign s) → TakesOnTrial (foreign ∷ []) s
one_takes_trial foreign s two =
    ap (λ n. n + cost_of_transactions (taking_one foreign s) s.replica.items) (besides (taking_one foreign s) two)
    ∙ ap (λ ts. steps_of_blank + cost_of_transactions ts s.replica.items) (sym (append-nil (taking_one foreign s)))

pub several_take_trial : (entries : List Parcel) (s : Site) → 2 ≤ length entries → TakesOnTrial entries s
several_take_trial [] s two = absurd (omega (arith, two))
several_take_trial (entry ∷ []) s two = absurd (omega (arith, two))
several_take_trial (entry ∷ other ∷ entries) s two = refl
