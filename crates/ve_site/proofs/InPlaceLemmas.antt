-- An entry of another site taken without a trial, where no pending one is dropped for it, and a feed
-- that is taken so, or on a trial.
use Rattle.std.proofs.Common.{◌≡◌, ◌≤◌, ◌+◌, ◌==◌, false, true, ℕ, zero, suc, List, [], ◌∷◌, ◌++◌, length, map, drop, get_or, Option, Some, None, sym, ap, ◌∙◌, subst, arith}
use Rattle.std.proofs.lemmas.List.{drop_all}
use Rattle.model_change.specs.Replay.{AllRun, flattened}
use Rattle.model_change.specs.Transaction.{Transaction}
use Rattle.model_site.specs.Entries.{Entry as ModelEntry}
use Rattle.model_site.specs.Entries.{Parcel as ModelParcel, all_reverted}
use Rattle.model_site.specs.Replica.{Replica, all_performed}
use Rattle.model_site.specs.Site.{Site}
use Rattle.model_site.specs.Take.{take_foreign}
use Rattle.model_site.specs.Untold.{Untold, passed}
use Rattle.ve_tx.specs.declared.entry.Entry.{Entry}
use Rattle.ve_tx.specs.declared.parcel.Parcel.{Parcel}
use Rattle.ve_tx.specs.ByValue.{parcel_by_value}
use Rattle.model_change.specs.Cost.{cost_of_transactions}
use Rattle.ve_editor.specs.Counted.{steps_of_blank, steps_over}
use Rattle.ve_editor.specs.Edited.{AllStand, entry_by_value}
use Rattle.ve_site.specs.Dropped.{IsAdmitted, IsStack, back_over}
use Rattle.ve_site.specs.Ground.{ground_of}
use Rattle.ve_site.specs.Numbered.{Numbered, with_site}
use Rattle.model_site.specs.Made.{taking_all, taking_one}
use Rattle.ve_site.specs.Taking.{steps_of_feed}
use Rattle.ve_site.specs.Underway.{AreTakenInPlace, IsTakenInPlace, TakesOnTrial, with_none_undone}
use Rattle.ve_site.proofs.DropLemmas.{none_taken_back}
use Rattle.ve_site.proofs.MakingLemmas.{making_anyway}
use Rattle.ve_site.proofs.SeveralLemmas.{one_takes_trial}
use Rattle.ve_site.proofs.TakenLemmas.{taken_anyway}

-- ---- where none is dropped

module _ (editor : Replica) (all : List Entry) (left : ℕ) (ts : ModelParcel) (whole : length all ≤ left) where
  none_gone : map (entry_by_value editor.store) (drop left all) ≡ []
  none_gone = ap (map (entry_by_value editor.store)) (drop_all left all whole)

  pub stands_in_place : AllStand ts (all_reverted (map (entry_by_value editor.store) (drop left all)) editor).items → AllStand ts editor.items
  stands_in_place h = subst (λ (es : List ModelEntry). AllStand ts (all_reverted es editor).items) none_gone h

  no_reversal : back_over editor.store (drop left all) ++ ts ≡ ts
  no_reversal = ap (λ es. back_over editor.store es ++ ts) (drop_all left all whole)

  pub noted_in_place : (old new : Untold) → new ≡ passed ts old → new ≡ passed (back_over editor.store (drop left all) ++ ts) old
  noted_in_place old new h = h ∙ ap (λ us. passed us old) (sym no_reversal)

  pub counts_in_place : (before after : ℕ) → after ≤ before + cost_of_transactions ts editor.items → after ≤ before + cost_of_transactions (back_over editor.store (drop left all) ++ ts) editor.items
  counts_in_place before after h = subst (λ us. after ≤ before + cost_of_transactions us editor.items) (sym no_reversal) h

pub admitted_in_place : (old new : Replica) (all : List Entry) (left : ℕ) (ts : ModelParcel) → IsStack old all → left ≡ length all → new ≡ all_performed ts old → IsAdmitted old all left ts new
admitted_in_place old new all left ts stack whole page = record { middle = old; dropped = none_taken_back old all left stack whole; page = page }

-- one transaction at most is made without a trial
pub one_in_place : (ts : List Transaction) (r : Replica) (before after : ℕ) → length ts ≤ 1 → after ≤ before + steps_over ts r.items → after ≤ before + cost_of_transactions ts r.items
one_in_place [] r before after one h = h
one_in_place (t ∷ []) r before after one h = omega (arith, h)
one_in_place (t ∷ u ∷ ts) r before after one h = absurd (omega (arith, one))

-- ---- a feed of one entry

only_one : {A : Type 0} (xs : List A) (x : A) → length xs ≡ 1 → x ≡ get_or xs 0 x → xs ≡ x ∷ []
only_one [] x n is = absurd (omega (arith, n))
only_one (y ∷ []) x n is = ap (λ z. z ∷ []) (sym is)
only_one (y ∷ z ∷ xs) x n is = absurd (omega (arith, n))

pub just_one : (n : ℕ) → n ≤ 1 → false ≡ (n == 0) → n ≡ 1
just_one zero le some = let never : false ≡ true = some in cc
just_one (suc n) le some = omega (arith, le)

module _ (parcels : List Parcel) (one : Parcel) (n : length parcels ≡ 1) (is : one ≡ get_or parcels 0 one) where
  alone : map parcel_by_value parcels ≡ parcel_by_value one ∷ []
  alone = ap (map parcel_by_value) (only_one parcels one n is)

  pub one_taken : (old new : Numbered) (taken : Option ℕ) → IsTakenInPlace (parcel_by_value one) old taken new → AreTakenInPlace (map parcel_by_value parcels) old taken new
  one_taken old new (Some left) h = (h.0 ∙ ap (λ ps. with_site (take_foreign ps old.site) old) (sym alone), h.1)
  one_taken old new None h = (h.0, subst (λ ps. TakesOnTrial ps old.site) (sym alone) (one_takes_trial (parcel_by_value one) old.site h.1))

  pub one_counts : (s : Site) (before after : ℕ) → after ≤ before + cost_of_transactions (taking_one (parcel_by_value one) s) s.replica.items →
      after ≤ before + steps_of_feed (map parcel_by_value parcels) s
  one_counts s before after h = subst (λ ps. after ≤ before + steps_of_feed ps s) (sym alone) (omega (arith, h))

-- ---- on a trial

module _ (entries : List ModelParcel) (s begun : Site) (is : begun ≡ with_none_undone s) where
  pub begun_runs : AllRun (flattened entries) (ground_of s) → AllRun (flattened entries) (ground_of begun)
  begun_runs run = subst (λ t. AllRun (flattened entries) (ground_of t)) (sym is) run

  pub begun_takes : take_foreign entries begun ≡ take_foreign entries s
  begun_takes = ap (take_foreign entries) is ∙ taken_anyway entries s

  pub begun_counts : (before between after : ℕ) → between ≤ before + steps_of_blank → after ≤ between + cost_of_transactions (taking_all entries begun) begun.replica.items →
      after ≤ before + (steps_of_blank + cost_of_transactions (taking_all entries s) s.replica.items)
  begun_counts before between after h k =
      let same = ap (λ (t : Site). cost_of_transactions (taking_all entries t) t.replica.items) is ∙ ap (λ ts. cost_of_transactions ts s.replica.items) (sym (making_anyway entries s)) in
      omega (arith, h, k, same)
