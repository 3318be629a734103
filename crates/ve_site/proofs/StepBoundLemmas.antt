-- How many steps a take counts, and how long its lists are: no transaction counts more than eight for
-- each item of the longest list, and sixteen more.
use Rattle.std.proofs.Common.{◌≡◌, ◌≤◌, ℕ, suc, ◌+◌, ◌*◌, List, [], ◌∷◌, ◌++◌, length, map, take, drop, refl, sym, ap, ◌∙◌, subst, arith, add-mul, suc-mul}
use Rattle.std.proofs.lemmas.List.{append-nil, length-append, length-map, take-append-drop}
use Rattle.model_items.specs.declared.plain_item.PlainItem.{PlainItem}
use Rattle.model_items.specs.Law.{Lawful}
use Rattle.model_change.specs.Inverse.{inverse}
use Rattle.model_change.specs.Replay.{AllRun, Runs, flattened, inserted_by, replay, reversal}
use Rattle.model_change.specs.Transaction.{Transaction, Retain, Replace, Attribute, all_inserted, all_removed, edited, new_length, old_length}
use Rattle.model_change.proofs.Fits.{gives_new_length, parts_of_Applies}
use Rattle.model_change.proofs.InverseNormal.{inverse_inserts}
use Rattle.model_change.proofs.JoinListLaw.{replay_within}
use Rattle.model_change.proofs.ReversalLaw.{reversal_undoes}
use Rattle.model_change_law.proofs.InsertedLemmas.{join_lists_insert_the_same}
use Rattle.model_site.specs.Entries.{Entry, Parcel, all_reverted, parcels}
use Rattle.model_site.specs.Joined.{Joined, join_entries}
use Rattle.model_site.specs.Site.{Site, pending}
use Rattle.model_site.specs.Take.{take_entry}
use Rattle.model_site_law.specs.Sound.{Sound}
use Rattle.model_site_law.proofs.ReplayLemmas.{AllRun-parts, flattened-append, parcels-drop, replay-append, sound_after}
use Rattle.model_site_law.proofs.RevertLemmas.{items_all_reverted}
use Rattle.model_site_law.proofs.UntilConflictLemmas.{joined_until_conflict}
use Rattle.model_change.specs.Cost.{cost_of_transaction, cost_of_transactions}
use Rattle.ve_editor.specs.Counted.{steps_besides, steps_of_blank}
use Rattle.ve_site.specs.Ground.{Stands, ground_of}
use Rattle.model_site.specs.Made.{taking_all, taking_one}
use Rattle.ve_site.specs.Taking.{steps_of_feed}
use Rattle.ve_site.specs.Laws.{TakeIsBounded, longest_of}
use Rattle.ve_site.proofs.FrontLemmas.{pending_after}
use Rattle.ve_site.proofs.MakingLemmas.{one_replayed, steps_of_both}
use Rattle.ve_site.proofs.TouchLemmas.{touch_within}
use Rattle.ve_site.proofs.TakenLemmas.{committed_runs, has_taken, may_take_next}

-- ---- one transaction

-- those of one transaction, where no list is longer than n
abbrev each : ℕ → ℕ
each n = 8 * (n + 2)

-- where the list with all that it inserts isn't longer
one_within : (t : Transaction) (items : List PlainItem) (n : ℕ) → Lawful items → Runs t items → length items + length (all_inserted t) ≤ n → cost_of_transaction t items ≤ each n
one_within t items n lawful run small = let few = touch_within t items lawful run.applies run.lawful in omega (arith, few, small)

-- what a transaction leaves, with all that it removes, is as long as what it is given with all that
-- it inserts
lengths_are_kept : (t : Transaction) → new_length t + length (all_removed t) ≡ old_length t + length (all_inserted t)
lengths_are_kept [] = refl
lengths_are_kept (Retain count ∷ ops) = let rest = lengths_are_kept ops in omega (arith, rest)
lengths_are_kept (Replace removed inserted ∷ ops) =
    let rest = lengths_are_kept ops in
    omega (arith, rest, length-append removed (all_removed ops), length-append inserted (all_inserted ops))
lengths_are_kept (Attribute change ∷ ops) = lengths_are_kept ops

one_back_within : (t : Transaction) (items : List PlainItem) (n : ℕ) → Sound items → Runs t items → length items + length (all_inserted t) ≤ n → cost_of_transaction (inverse t) (edited t items) ≤ each n
one_back_within t items n sound run small =
    let undone = reversal_undoes (t ∷ []) items sound.lawful sound.apart (run, tt) in
    let was = (parts_of_Applies t items run.applies).0 in
    let is = gives_new_length t items run.applies in
    let removed : length (all_inserted (inverse t)) ≡ length (all_removed t) = ap (λ (l : List PlainItem). length l) (inverse_inserts t) in
    one_within (inverse t) (edited t items) n run.lawful undone.runs.0 (omega (arith, small, was, is, removed, lengths_are_kept t))

-- ---- products

one_more : (k m : ℕ) → suc k * m ≡ m + k * m
one_more k m = let e = suc-mul k m in omega (arith, e)

parts_of : (a b m : ℕ) → (a + b) * m ≡ a * m + b * m
parts_of a b m = add-mul a b m

-- ---- transactions performed

insert-append : (ts us : List Transaction) → inserted_by (ts ++ us) ≡ inserted_by ts + inserted_by us
insert-append [] us = omega arith
insert-append (t ∷ ts) us = let rest = insert-append ts us in omega arith

made_within : (ts : List Transaction) (items : List PlainItem) (n : ℕ) → Lawful items → AllRun ts items → length items + inserted_by ts ≤ n → cost_of_transactions ts items ≤ length ts * each n
made_within [] items n lawful run small = omega arith
made_within (t ∷ ts) items n lawful run small =
    let next = replay_within (t ∷ []) items (run.0, tt) in
    let first = one_within t items n lawful run.0 (omega (arith, small)) in
    let rest = made_within ts (edited t items) n run.0.lawful run.1 (omega (arith, next, small)) in
    let all = one_more (length ts) (each n) in
    omega (arith, first, rest, all)

-- ---- transactions taken back

back_within : (ts : List Transaction) (items : List PlainItem) (n : ℕ) → Sound items → AllRun ts items → length items + inserted_by ts ≤ n →
    cost_of_transactions (reversal ts) (replay ts items) ≤ length ts * each n
back_within [] items n sound run small = omega arith
back_within (t ∷ ts) items n sound run small =
    let new = edited t items in
    let next = replay_within (t ∷ []) items (run.0, tt) in
    let rest = back_within ts new n (sound_after (t ∷ []) items sound (run.0, tt)) run.1 (omega (arith, next, small)) in
    let parts = steps_of_both (reversal ts) (inverse t ∷ []) (replay ts new) in
    let sound_next = sound_after (t ∷ []) items sound (run.0, tt) in
    let there : replay (reversal ts) (replay ts new) ≡ new = (reversal_undoes ts new sound_next.lawful sound_next.apart run.1).back in
    let last : cost_of_transactions (inverse t ∷ []) (replay (reversal ts) (replay ts new)) ≤ each n =
    subst (λ l. cost_of_transaction (inverse t) l + 0 ≤ each n) (sym there) (let s = one_back_within t items n sound run.0 (omega (arith, small)) in omega (arith, s)) in
    let all = one_more (length ts) (each n) in
    omega (arith, rest, parts, last, all)

-- ---- what is joined inserts as much, and has as many transactions

inserted_alike : (ts us : List Transaction) → map all_inserted ts ≡ map all_inserted us → (inserted_by ts ≡ inserted_by us) × (length ts ≡ length us)
inserted_alike ts us e = (by_items ts ∙ ap sum_of e ∙ sym (by_items us), sym (length-map ts all_inserted) ∙ ap (λ (l : List (List PlainItem)). length l) e ∙ length-map us all_inserted)
  where
    sum_of : List (List PlainItem) → ℕ
    sum_of [] = 0
    sum_of (l ∷ ls) = length l + sum_of ls

    by_items : (vs : List Transaction) → inserted_by vs ≡ sum_of (map all_inserted vs)
    by_items [] = refl
    by_items (v ∷ vs) = ap (λ m. length (all_inserted v) + m) (by_items vs)

-- ---- one entry taken

module _ (foreign : Parcel) (s : Site) (stands : Stands s) (run : AllRun foreign (ground_of s)) where
  abbrev floor : List PlainItem
  floor = ground_of s

  abbrev own : List Parcel
  own = parcels (pending s)

  abbrev j : Joined
  j = join_entries foreign own

  abbrev kept : List Parcel
  kept = take (length j.kept) own

  abbrev dropped : List Entry
  dropped = drop (length j.kept) (pending s)

  -- the transactions of the entries that are dropped
  abbrev gone : List Transaction
  gone = flattened (parcels dropped)

  split : flattened own ≡ flattened kept ++ gone
  split =
      ap flattened (sym (take-append-drop (length j.kept) own))
      ∙ (flattened-append kept (drop (length j.kept) own) ∙ ap (λ r. flattened kept ++ flattened r) (sym (parcels-drop (length j.kept) (pending s))))

  inserts : inserted_by (flattened own) ≡ inserted_by (flattened kept) + inserted_by gone
  inserts = ap inserted_by split ∙ insert-append (flattened kept) gone

  counts : length (flattened own) ≡ length (flattened kept) + length gone
  counts = ap (λ (l : List Transaction). length l) split ∙ length-append (flattened kept) gone

  same_inserted : (map all_inserted j.committed ≡ map all_inserted foreign) × (map all_inserted (flattened j.kept) ≡ map all_inserted (flattened kept))
  same_inserted = join_lists_insert_the_same foreign (flattened kept) (j.committed, flattened j.kept) (joined_until_conflict foreign own).one_list

  -- ---- the list that is left once the dropped entries are taken back

  runs : AllRun (flattened kept) floor × AllRun gone (replay (flattened kept) floor)
  runs = AllRun-parts (flattened kept) gone floor (subst (λ us. AllRun us floor) split stands.holds.runs)

  abbrev stay : List PlainItem
  stay = replay (flattened kept) floor

  sound_there : Sound stay
  sound_there = sound_after (flattened kept) floor stands.sound runs.0

  there : s.replica.items ≡ replay gone stay
  there = stands.holds.list ∙ (ap (λ us. replay us floor) split ∙ replay-append (flattened kept) gone floor)

  left : (all_reverted dropped s.replica).items ≡ stay
  left = items_all_reverted dropped s.replica stay sound_there runs.1 there

  back : replay (reversal gone) s.replica.items ≡ stay
  back = ap (replay (reversal gone)) there ∙ (reversal_undoes gone stay sound_there.lawful sound_there.apart runs.1).back

  committed_run : AllRun j.committed stay
  committed_run = subst (AllRun j.committed) left (committed_runs foreign s stands run)

  taken_within : (n : ℕ) → length floor + (inserted_by foreign + inserted_by (flattened own)) ≤ n →
      cost_of_transactions (taking_one foreign s) s.replica.items ≤ (length gone + length foreign) * each n
  taken_within n small =
      let grown = replay_within (flattened kept) floor runs.0 in
      let all = inserts in
      let first = back_within gone stay n sound_there runs.1 (omega (arith, small, all, grown)) in
      let first_here : cost_of_transactions (reversal gone) s.replica.items ≤ length gone * each n =
      subst (λ l. cost_of_transactions (reversal gone) l ≤ length gone * each n) (sym there) first in
      let alike = inserted_alike j.committed foreign same_inserted.0 in
      let inserted_same = alike.0 in
      let second = made_within j.committed stay n sound_there.lawful committed_run (omega (arith, small, all, grown, inserted_same)) in
      let second_here : cost_of_transactions j.committed (replay (reversal gone) s.replica.items) ≤ length foreign * each n =
      subst (λ l. cost_of_transactions j.committed l ≤ length foreign * each n) (sym back) (subst (λ k. cost_of_transactions j.committed stay ≤ k * each n) alike.1 second) in
      let parts = steps_of_both (reversal gone) j.committed s.replica.items in
      let both = parts_of (length gone) (length foreign) (each n) in
      omega (arith, first_here, second_here, parts, both)

  counts_after : length (flattened (parcels (pending (take_entry foreign s)))) ≡ length (flattened kept)
  counts_after = ap (λ ps. length (flattened ps)) (pending_after foreign s) ∙ (inserted_alike (flattened j.kept) (flattened kept) same_inserted.1).1

  longest_after : (entries : List Parcel) → longest_of entries (take_entry foreign s) ≤ longest_of (foreign ∷ entries) s
  longest_after entries =
      let ground_next : length (ground_of (take_entry foreign s)) ≡ length (replay foreign floor) = ap (λ (l : List PlainItem). length l) (has_taken foreign s stands run).ground in
      let grown = replay_within foreign floor run in
      let fewer : inserted_by (flattened (parcels (pending (take_entry foreign s)))) ≡ inserted_by (flattened kept) =
      ap (λ ps. inserted_by (flattened ps)) (pending_after foreign s) ∙ (inserted_alike (flattened j.kept) (flattened kept) same_inserted.1).0 in
      let all = inserts in
      let both = insert-append foreign (flattened entries) in
      omega (arith, ground_next, grown, fewer, all, both)

-- ---- entries taken one after the other

-- how many transactions are taken, and are pending
abbrev changes_of : List Parcel → Site → ℕ
changes_of entries s = length (flattened entries) + length (flattened (parcels (pending s)))

all_within : (entries : List Parcel) (s : Site) (n : ℕ) → Stands s → AllRun (flattened entries) (ground_of s) → longest_of entries s ≤ n →
    cost_of_transactions (taking_all entries s) s.replica.items ≤ changes_of entries s * each n
all_within [] s n stands run small = omega arith
all_within (entry ∷ entries) s n stands run small =
    let may = may_take_next entry entries s stands run in
    let next = take_entry entry s in
    let inserted = insert-append entry (flattened entries) in
    let first = taken_within entry s stands may.run n (omega (arith, small, inserted)) in
    let longer = longest_after entry s stands may.run entries in
    let rest = all_within entries next n (has_taken entry s stands may.run).stands may.others_run (omega (arith, small, longer)) in
    let rest_here : cost_of_transactions (taking_all entries next) (replay (taking_one entry s) s.replica.items) ≤ changes_of entries next * each n =
    subst (λ l. cost_of_transactions (taking_all entries next) l ≤ changes_of entries next * each n) (one_replayed entry s) rest in
    let parts = steps_of_both (taking_one entry s) (taking_all entries next) s.replica.items in
    let out = length (gone entry s stands may.run) in
    let stays = counts_after entry s stands may.run in
    let all = counts entry s stands may.run in
    let taken = length-append entry (flattened entries) in
    let sum = parts_of (out + length entry) (changes_of entries next) (each n) in
    let same : (out + length entry) + changes_of entries next ≡ changes_of (entry ∷ entries) s = omega (arith, stays, all, taken) in
    let total = ap (λ k. k * each n) same in
    omega (arith, first, rest_here, parts, sum, total)

few_besides : (ts : List Transaction) → steps_besides ts ≤ steps_of_blank
few_besides [] = omega arith
few_besides (t ∷ []) = omega arith
few_besides (t ∷ u ∷ ts) = omega arith

-- with what stands in the page's place meanwhile
feed_within : (entries : List Parcel) (s : Site) (n : ℕ) → Stands s → AllRun (flattened entries) (ground_of s) → longest_of entries s ≤ n →
    steps_of_feed entries s ≤ steps_of_blank + changes_of entries s * each n
feed_within [] s n stands run small = omega arith
feed_within (entry ∷ []) s n stands run small =
    let few = few_besides (taking_one entry s) in
    let all = all_within (entry ∷ []) s n stands run small in
    let made = subst (λ ts. cost_of_transactions ts s.replica.items ≤ changes_of (entry ∷ []) s * each n) (append-nil (taking_one entry s)) all in
    omega (arith, few, made)
feed_within (entry ∷ other ∷ entries) s n stands run small =
    let all = all_within (entry ∷ other ∷ entries) s n stands run small in
    omega (arith, all)

pub take_is_bounded : TakeIsBounded
take_is_bounded entries s stands run = feed_within entries s (longest_of entries s) stands run (omega arith)
