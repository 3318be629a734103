-- The last undone entry performed again.
use Rattle.std.proofs.Common.{◌≡◌, ◌≤◌, ◌+◌, ℕ, List, [], ◌∷◌, ◌++◌, map, drop, slice_get, All, Option, Some, None, Ok, Err, IsOk, is_ok, refl, sym, ap, ◌∙◌, subst}
use Rattle.std.proofs.lemmas.List.Elements.{All-head, All-tail}
use Rattle.model_change.specs.Replay.{AllRun, flattened}
use Rattle.model_site.specs.Causes.{NothingToRedo}
use Rattle.model_site.specs.Entries.{entry_against}
use Rattle.model_site.specs.Replica.{Replica, all_performed}
use Rattle.model_site.specs.Site.{Site, redo, redo_first}
use Rattle.model_site.specs.Untold.{Untold, passed}
use Rattle.model_site_law.proofs.ReplayLemmas.{AllRun-parts}
use Rattle.ve_tx.specs.declared.entry.Entry.{Entry}
use Rattle.ve_tx.specs.declared.parcel.Parcel.{Parcel}
use Rattle.ve_tx.specs.ByValue.{parcel_by_value, ParcelCites}
use Rattle.ve_tx.specs.Operation.{by_value}
use Rattle.ve_editor.specs.Edited.{AllStand, entry_by_value, EntryCites}
use Rattle.ve_editor.specs.Counted.{steps_over}
use Rattle.ve_history.specs.Stacks.{Stacks}
use Rattle.model_site.specs.Made.{redoing}
use Rattle.ve_site.specs.Numbered.{hint_of, site_of, IsSite}
use Rattle.ve_site.proofs.StandsLemmas.{all_stand, redone_stands}
use Rattle.ve_site.proofs.StepLemmas.{pushed_same, pushed_is}

begins_with : {A : Type 0} (xs : List A) (x : A) → slice_get xs 0 ≡ Some x → xs ≡ x ∷ drop 1 xs
begins_with [] x e = cc
begins_with (y ∷ xs) x e = let same : y ≡ x = cc in ap (λ z. z ∷ xs) same

module _ (editor : Replica) (untold : Untold) (seen : ℕ) (sent : List Entry) (old : Stacks) (shared : ℕ) (flight : Option ℕ) (is : IsSite editor seen sent old shared flight)
    (first : Parcel) (begins : slice_get old.undone 0 ≡ Some first) where
  abbrev site : Site
  site = site_of editor untold seen sent old shared flight

  abbrev rest : List Parcel
  rest = drop 1 old.undone

  split : old.undone ≡ first ∷ rest
  split = begins_with old.undone first begins

  cited : All ParcelCites (first ∷ rest)
  cited = subst (All ParcelCites) split is.undone_cite

  pub first_cites : ParcelCites first
  first_cites = All-head ParcelCites first rest cited

  pub may_come : AllStand (parcel_by_value first) editor.items
  may_come =
      let runs = subst (λ ps. AllRun (flattened (map parcel_by_value ps)) editor.items) split (is.stands untold).holds.undone in
      all_stand (parcel_by_value first) editor.items (AllRun-parts (parcel_by_value first) (flattened (map parcel_by_value rest)) editor.items runs).0

  pub redo_counts : (now after : ℕ) → after ≤ now + steps_over (parcel_by_value first) editor.items → after ≤ now + steps_over (redoing site.undone) site.replica.items
  redo_counts now after h = subst (λ ps. after ≤ now + steps_over (redoing (map parcel_by_value ps)) editor.items) (sym split) h

  module _ (new : Replica) (e : Entry) (now : Stacks) (later : Untold) (page : new ≡ all_performed (parcel_by_value first) editor)
      (entry : entry_by_value new.store e ≡ entry_against (hint_of first) (parcel_by_value first) editor) (cites : EntryCites new.store e) (done : now.done ≡ old.done ++ e ∷ [])
      (noted : later ≡ passed (map (by_value new.store) e.txs) untold) (undone : now.undone ≡ rest) where
    pub redo_is : redo site ≡ Ok (site_of new later seen sent now shared flight)
    redo_is =
        ap (λ ps. redo_first (map parcel_by_value ps) (record site { undone_hints = map hint_of ps })) split
        ∙ ap (λ s. Ok s) (sym (pushed_same editor untold seen sent old shared flight is (hint_of first) (parcel_by_value first) new e now later page entry cites done noted rest undone))

    pub redone_is : IsSite new seen sent now shared flight
    redone_is =
        pushed_is editor untold seen sent old shared flight is (hint_of first) (parcel_by_value first) new e now later page entry cites done noted
        (redone_stands site (site_of new later seen sent now shared flight) (is.stands untold) redo_is)
        (subst (All ParcelCites) (sym undone) (All-tail ParcelCites first rest cited))

-- ---- nothing to perform again

none_first : {A : Type 0} (xs : List A) → slice_get xs 0 ≡ None → xs ≡ []
none_first [] e = refl
none_first (x ∷ xs) e = cc

pub nothing_redone : (s : Site) (old : List Parcel) → s.undone ≡ map parcel_by_value old → slice_get old 0 ≡ None → redo s ≡ Err NothingToRedo
nothing_redone s old u e = ap (λ ps. redo_first ps s) (u ∙ ap (map parcel_by_value) (none_first old e))

-- ---- something to perform again

pub redoes : (s : Site) (old : List Parcel) → s.undone ≡ map parcel_by_value old → (old ≡ [] → ⊥) → IsOk (redo s)
redoes s [] u some = absurd (some refl)
redoes s (p ∷ ps) u some = ap (λ us. is_ok (redo_first us s)) u

pub first_is : (old : List Parcel) (first : Parcel) → slice_get old 0 ≡ Some first → old ≡ [] → ⊥
first_is [] first is none = cc
first_is (p ∷ ps) first is none = cc
