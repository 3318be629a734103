-- The meaning of a site's fields once it took entries of other sites that are in conflict with no
-- pending one, and that they are a site's again.
use Rattle.std.proofs.Common.{◌≡◌, ◌<◌, ◌+◌, ℕ, List, [], ◌∷◌, ◌++◌, length, map, take, drop, All, Option, refl, sym, ap, ◌∙◌, subst}
use Rattle.std.proofs.lemmas.List.{length-map, length-take-le, map-append, take-append-drop}
use Rattle.model_change.specs.Replay.{AllRun, flattened}
use Rattle.model_site.specs.Entries.{Parcel as ModelParcel, hints, parcels}
use Rattle.model_site.specs.Replica.{Replica, all_performed}
use Rattle.model_site.specs.Site.{Site, pending}
use Rattle.model_site.specs.Take.{take_foreign}
use Rattle.model_site.specs.Untold.{Untold, passed}
use Rattle.model_site_law.proofs.PerformLemmas.{all_performed_grows}
use Rattle.ve_tx.specs.declared.entry.Entry.{Entry}
use Rattle.ve_tx.specs.declared.parcel.Parcel.{Parcel}
use Rattle.ve_tx.specs.ByValue.{parcel_by_value}
use Rattle.ve_tx.specs.Making.{Extends}
use Rattle.ve_tx.proofs.ValuesLemmas.{extends_itself}
use Rattle.ve_editor.specs.Edited.{AllStand, entry_by_value, EntryCites}
use Rattle.ve_history.specs.Stacks.{Stacks}
use Rattle.ve_rebase.specs.declared.all_under.EntriesUnderAll.{EntriesUnderAll}
use Rattle.ve_rebase.specs.Entries.{parcels_by_value}
use Rattle.ve_rebase.specs.Under.{AreAllJoined, AreAllUnder, all_over}
use Rattle.ve_site.specs.Dropped.{numbered_alike}
use Rattle.ve_site.specs.Ground.{Stands, ground_of}
use Rattle.ve_site.specs.Numbered.{site_of, IsSite}
use Rattle.model_site.specs.Made.{taking_all}
use Rattle.ve_site.proofs.FrontLemmas.{front_is, front_makes, front_runs, with_pending}
use Rattle.ve_site.proofs.MakingLemmas.{has_taken_all, may_take_both}
use Rattle.ve_site.proofs.OverLemmas.{over_cites}
use Rattle.ve_site.proofs.PendingLemmas.{cites_from, cites_to, hints_over, outlined_hints, over_same, pending_are, written_is, written_same}
use Rattle.ve_site.proofs.StandsLemmas.{all_stand}

-- ---- entries by value

pub all_by_value : (ps : List Parcel) → parcels_by_value ps ≡ flattened (map parcel_by_value ps)
all_by_value [] = refl
all_by_value (p ∷ ps) = ap (λ ts. parcel_by_value p ++ ts) (all_by_value ps)

pub parted_by_value : (n : ℕ) (ps : List Parcel) → map parcel_by_value ps ≡ map parcel_by_value (take n ps) ++ map parcel_by_value (drop n ps)
parted_by_value n ps = ap (map parcel_by_value) (sym (take-append-drop n ps)) ∙ map-append parcel_by_value (take n ps) (drop n ps)

-- ---- once the entries are joined

module _ (editor : Replica) (untold : Untold) (seen : ℕ) (sent : List Entry) (old : Stacks) (shared : ℕ) (flight : Option ℕ) (is : IsSite editor seen sent old shared flight)
    (foreign : List Parcel) (run : AllRun (flattened (map parcel_by_value foreign)) (ground_of (site_of editor untold seen sent old shared flight))) (made : EntriesUnderAll)
    (under : AreAllUnder foreign (sent ++ old.done) made) where
  abbrev site : Site
  site = site_of editor untold seen sent old shared flight

  abbrev all : List Entry
  all = sent ++ old.done

  -- the entries of the front, these as they are over the pending ones, and the pending ones over
  -- these
  abbrev fs : List ModelParcel
  fs = map parcel_by_value (take (length made.committed) foreign)

  abbrev cs : List ModelParcel
  cs = map parcel_by_value made.committed

  abbrev ks : List ModelParcel
  ks = parcels (map (entry_by_value editor.store) made.kept)

  joined : AreAllJoined fs (parcels (pending site)) cs ks
  joined =
      let mine : map parcel_by_value (all_over editor.store all) ≡ parcels (pending site) =
      over_same editor.store all ∙ ap parcels (pending_are editor untold seen sent old shared flight is) in
      subst (AreAllJoined fs (parcels (pending site)) cs) (over_same editor.store made.kept)
      (subst (λ ps. AreAllJoined fs ps cs (map parcel_by_value (all_over editor.store made.kept))) mine (under.joined editor.store))

  pub fs_run : AllRun (flattened fs) (ground_of site)
  fs_run =
      (may_take_both fs (map parcel_by_value (drop (length made.committed) foreign)) site (is.stands untold)
      (subst (λ ps. AllRun (flattened ps) (ground_of site)) (parted_by_value (length made.committed) foreign) run)).first_run

  pub front_stand : AllStand (flattened cs) editor.items
  front_stand = all_stand (flattened cs) editor.items (front_runs fs site cs ks (is.stands untold) fs_run joined)

  pub makes_front : taking_all fs site ≡ flattened cs
  makes_front = front_makes fs site cs ks joined

  -- these take the same back
  same_hints : hints (map (entry_by_value editor.store) made.kept) ≡ hints (pending site)
  same_hints =
      outlined_hints editor.store made.kept (all_over editor.store all) (under.outlines editor.store)
      ∙ (hints_over editor.store all ∙ ap hints (pending_are editor untold seen sent old shared flight is))

  fs_count : length fs ≡ length made.committed
  fs_count = length-map (take (length made.committed) foreign) parcel_by_value ∙ length-take-le (length made.committed) foreign under.within

  -- ---- once they are performed

  module _ (new : Replica) (page : new ≡ all_performed (flattened cs) editor) where
    new_extends : Extends editor.store new.store
    new_extends = let g = all_performed_grows (flattened cs) editor in (g.more, ap (λ (r : Replica). r.store) page ∙ g.same)

    kept_cite : All (EntryCites editor.store) made.kept
    kept_cite = cites_from editor.store made.kept (under.cite editor.store (cites_to editor.store all (over_cites editor.store 0 all is.over)))

    module _ (stored next : ℕ) (first : List Entry) (now : Stacks) (later : Untold) (some : 0 < length made.committed) (is_stored : stored ≡ length new.store)
        (is_next : next ≡ seen + length made.committed) (first_is : first ≡ map (numbered_alike stored) (take (length sent) made.kept))
        (done_is : now.done ≡ map (numbered_alike stored) (drop (length sent) made.kept)) (none : now.undone ≡ []) (noted : later ≡ passed (flattened cs) untold) where
      sent_count : length sent ≡ length site.sent
      sent_count = sym (length-map sent (entry_by_value editor.store))

      pub front_same : site_of new later next first now shared flight ≡ take_foreign fs site
      front_same =
          written_same editor.store editor new made.kept (extends_itself editor.store) new_extends kept_cite stored (length sent) first now is_stored first_is done_is later next site sent_count none
          ∙ (ap (λ hs. with_pending new later next (length site.sent) hs ks site) same_hints
          ∙ (ap (λ n. with_pending new later n (length site.sent) (hints (pending site)) ks site) (is_next ∙ ap (λ n. seen + n) (sym fs_count))
          ∙ (ap (λ u. with_pending new u (seen + length fs) (length site.sent) (hints (pending site)) ks site) noted
          ∙ (ap (λ r. with_pending r (passed (flattened cs) untold) (seen + length fs) (length site.sent) (hints (pending site)) ks site) page
          ∙ sym (front_is fs site cs ks (subst (λ n. 0 < n) (sym fs_count) some) joined)))))

      pub front_is_site : IsSite new next first now shared flight
      front_is_site =
          written_is editor.store editor new made.kept (extends_itself editor.store) new_extends kept_cite stored (length sent) first now is_stored first_is done_is later next site sent_count none
          (subst Stands (sym front_same) (has_taken_all fs site (is.stands untold) fs_run).stands)
