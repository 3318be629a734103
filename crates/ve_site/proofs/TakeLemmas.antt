-- The meaning of a site's fields once it took an entry of another site, and that they are a site's
-- again.
use Rattle.std.proofs.Common.{◌≡◌, ◌≤◌, ◌<◌, ◌+◌, ℕ, suc, List, [], ◌++◌, length, map, take, drop, All, Option, None, refl, sym, ap, ◌∙◌, subst, arith}
use Rattle.std.proofs.lemmas.List.{length-append, length-map, length-take, drop-map, take-map}
use Rattle.std.proofs.lemmas.List.Elements.{All-nil}
use Rattle.ve_base.specs.declared.value.Value.{Value}
use Rattle.model_change.specs.Replay.{AllRun, flattened, reversal}
use Rattle.model_change.specs.Transaction.{Transaction}
use Rattle.model_site.specs.Entries.{Hints, Parcel as ModelParcel, all_reverted, hints, parcels}
use Rattle.model_site.specs.Entries.{Entry as ModelEntry}
use Rattle.model_site.specs.Joined.{Joined, join_entries}
use Rattle.model_site.specs.Replica.{Replica, all_performed}
use Rattle.model_site.specs.Site.{Site, pending}
use Rattle.model_site.specs.Take.{parcel_entries, take_ack, take_entry}
use Rattle.model_site.specs.Untold.{Untold, passed}
use Rattle.model_site_law.proofs.PerformLemmas.{all_performed_grows}
use Rattle.ve_tx.specs.declared.entry.Entry.{Entry}
use Rattle.ve_tx.specs.declared.parcel.Parcel.{Parcel}
use Rattle.ve_tx.specs.ByValue.{parcel_by_value, ParcelCites}
use Rattle.ve_tx.specs.Making.{Extends}
use Rattle.ve_tx.specs.Operation.{by_value}
use Rattle.ve_tx.proofs.ValuesLemmas.{extends_on}
use Rattle.model_change.specs.Cost.{cost_of_transactions}
use Rattle.ve_editor.specs.Edited.{AllStand, entry_by_value, EntryCites}
use Rattle.ve_history.specs.Stacks.{Stacks}
use Rattle.ve_rebase.specs.declared.under.EntriesUnder.{EntriesUnder}
use Rattle.ve_rebase.specs.Entries.{outline}
use Rattle.ve_rebase.specs.Under.{AreUnder, all_over, joined_under, over_values}
use Rattle.ve_site.specs.Dropped.{IsAdmitted, IsStack, back_over, numbered_alike}
use Rattle.ve_site.specs.Ground.{AreOver, Stands, ground_of}
use Rattle.ve_site.specs.Numbered.{hint_of, site_of, IsSite}
use Rattle.ve_site.specs.Underway.{with_none_undone}
use Rattle.model_site.specs.Made.{taking_one}
use Rattle.ve_site.proofs.DropLemmas.{stack_is}
use Rattle.ve_site.proofs.FrontLemmas.{with_pending}
use Rattle.ve_site.proofs.OverLemmas.{over_cites}
use Rattle.ve_site.proofs.PatchLemmas.{passed_both}
use Rattle.ve_site.proofs.PendingLemmas.{cites_from, cites_to, hints_cut, hints_over, outlined_hints, over_rest, over_same, pending_are, pending_count, written_count, written_is, written_same}
use Rattle.ve_site.proofs.SeveralLemmas.{two_where_dropped}
use Rattle.ve_site.proofs.StandsLemmas.{all_stand, untold_stands}
use Rattle.ve_site.proofs.TakenLemmas.{acked_stands, committed_runs, has_taken, restacked_stands}

-- ---- once the entry is joined

module _ (editor : Replica) (untold : Untold) (seen : ℕ) (sent : List Entry) (old : Stacks) (shared : ℕ) (flight : Option ℕ) (is : IsSite editor seen sent old shared flight)
    (foreign : Parcel) (run : AllRun (parcel_by_value foreign) (ground_of (site_of editor untold seen sent old shared flight))) (made : EntriesUnder)
    (under : AreUnder foreign (sent ++ old.done) made) where
  abbrev site : Site
  site = site_of editor untold seen sent old shared flight

  abbrev all : List Entry
  all = sent ++ old.done

  abbrev ts : ModelParcel
  ts = parcel_by_value foreign

  together : map (entry_by_value editor.store) all ≡ pending site
  together = pending_are editor untold seen sent old shared flight is

  abbrev j : Joined
  j = join_entries ts (parcels (pending site))

  joined : joined_under editor.store foreign all ≡ j
  joined = ap (join_entries ts) (over_same editor.store all ∙ ap parcels together)

  abbrev ks : List ModelParcel
  ks = parcels (map (entry_by_value editor.store) made.kept)

  kept : ks ≡ j.kept
  kept = sym (over_same editor.store made.kept) ∙ (under.kept editor.store ∙ ap (λ (x : Joined). x.kept) joined)

  pub as_many : length made.kept ≡ length j.kept
  as_many =
      sym (length-map made.kept (entry_by_value editor.store)) ∙ (sym (length-map (map (entry_by_value editor.store) made.kept) (λ (e : ModelEntry). e.txs)) ∙ ap length kept)

  abbrev kept_hints : Hints
  kept_hints = hints (map (entry_by_value editor.store) made.kept)

  -- they take back what they took back
  first_hints : kept_hints ≡ take (length j.kept) (hints (pending site))
  first_hints =
      outlined_hints editor.store made.kept (take (length made.kept) (all_over editor.store all)) (under.outlines editor.store)
      ∙ (sym (take-map hint_of (length made.kept) (all_over editor.store all))
      ∙ (ap (take (length made.kept)) (hints_over editor.store all ∙ ap hints together) ∙ ap (λ n. take n (hints (pending site))) as_many))

  kept_are : (n : ℕ) → parcel_entries n kept_hints ks ≡ parcel_entries n (hints (pending site)) j.kept
  kept_are n =
      ap (λ ps. parcel_entries n kept_hints ps) kept ∙ (ap (λ hs. parcel_entries n hs j.kept) first_hints ∙ hints_cut n (hints (pending site)) j.kept)

  gone : map (entry_by_value editor.store) (drop (length made.kept) all) ≡ drop (length j.kept) (pending site)
  gone = sym (drop-map (entry_by_value editor.store) (length made.kept) all) ∙ (ap (drop (length made.kept)) together ∙ ap (λ n. drop n (pending site)) as_many)

  committed : parcel_by_value made.committed ≡ j.committed
  committed = under.committed editor.store ∙ ap (λ (x : Joined). x.committed) joined

  pub left_within : length made.kept ≤ length all
  left_within =
      let same = ap length (under.outlines editor.store) in
      let first = length-map (all_over editor.store made.kept) outline in
      let over = length-map made.kept (over_values editor.store) in
      let second = length-map (take (length made.kept) (all_over editor.store all)) outline in
      let cut = length-take (length made.kept) (all_over editor.store all) in
      let whole = length-map all (over_values editor.store) in
      omega (arith, same, first, over, second, cut, whole)

  pub may_perform : AllStand (parcel_by_value made.committed) (all_reverted (map (entry_by_value editor.store) (drop (length made.kept) all)) editor).items
  may_perform =
      subst (λ es. AllStand (parcel_by_value made.committed) (all_reverted es editor).items) (sym gone)
      (subst (λ us. AllStand us (all_reverted (drop (length j.kept) (pending site)) editor).items) (sym committed)
      (all_stand j.committed (all_reverted (drop (length j.kept) (pending site)) editor).items (committed_runs ts site (is.stands untold) run)))

  pub makes_one : back_over editor.store (drop (length made.kept) all) ++ parcel_by_value made.committed ≡ taking_one ts site
  makes_one =
      ap (λ us. back_over editor.store (drop (length made.kept) all) ++ us) committed ∙ ap (λ es. reversal (flattened (parcels es)) ++ j.committed) gone

  -- ---- once it is performed

  module _ (new : Replica) (admitted : IsAdmitted editor all (length made.kept) (parcel_by_value made.committed) new) where
    abbrev base : List Value
    base = admitted.dropped.base

    new_extends : Extends base new.store
    new_extends =
        let g = all_performed_grows (parcel_by_value made.committed) admitted.middle in
        extends_on base admitted.middle.store new.store admitted.dropped.now_extends (g.more, ap (λ (r : Replica). r.store) admitted.page ∙ g.same)

    kept_cite : All (EntryCites base) made.kept
    kept_cite =
        cites_from base made.kept
        (under.cite base (cites_to base (take (length made.kept) all) (over_cites base 0 (take (length made.kept) all) admitted.dropped.over)))

    abbrev after : Replica
    after = all_performed j.committed (all_reverted (drop (length j.kept) (pending site)) editor)

    page : new ≡ after
    page =
        admitted.page
        ∙ (ap (λ us. all_performed us admitted.middle) committed
        ∙ ap (all_performed j.committed) (admitted.dropped.page ∙ ap (λ es. all_reverted es editor) gone))

    module _ (stored next : ℕ) (first : List Entry) (now : Stacks) (later : Untold) (is_stored : stored ≡ length new.store) (is_next : next ≡ seen + 1)
        (first_is : first ≡ map (numbered_alike stored) (take (length sent) made.kept)) (done_is : now.done ≡ map (numbered_alike stored) (drop (length sent) made.kept)) (none : now.undone ≡ [])
        (noted : later ≡ passed (back_over editor.store (drop (length made.kept) all) ++ parcel_by_value made.committed) untold) where
      sent_count : length sent ≡ length site.sent
      sent_count = sym (length-map sent (entry_by_value editor.store))

      pub taken_same : site_of new later next first now shared flight ≡ take_entry ts site
      taken_same =
          written_same base editor new made.kept admitted.dropped.old_extends new_extends kept_cite stored (length sent) first now is_stored first_is done_is later next site sent_count none
          ∙ (ap (λ n. with_pending new later n (length site.sent) kept_hints ks site) (let e : next ≡ suc seen = omega (arith, is_next) in e)
          ∙ (ap (λ u. with_pending new u (suc seen) (length site.sent) kept_hints ks site) (noted ∙ ap (λ us. passed us untold) makes_one)
          ∙ (ap (λ r. with_pending r (passed (taking_one ts site) untold) (suc seen) (length site.sent) kept_hints ks site) page
          ∙ ap (λ (es : List ModelEntry). record (take_entry ts site) { sent = take (length site.sent) es; unsent = drop (length site.sent) es }) (kept_are (length after.store)))))

      pub taken_is : IsSite new next first now shared flight
      taken_is =
          written_is base editor new made.kept admitted.dropped.old_extends new_extends kept_cite stored (length sent) first now is_stored first_is done_is later next site sent_count none
          (subst Stands (sym taken_same) (has_taken ts site (is.stands untold) run).stands)

      pub left_pending : length made.kept ≡ length (pending (site_of new later next first now shared flight))
      left_pending =
          written_count base editor new made.kept admitted.dropped.old_extends new_extends kept_cite stored (length sent) first now is_stored first_is done_is
          ∙ sym (pending_count new later next first now shared flight)

-- ---- the answer to what it sent

module _ (editor : Replica) (untold : Untold) (seen : ℕ) (sent : List Entry) (old : Stacks) (shared : ℕ) (flight : Option ℕ) (is : IsSite editor seen sent old shared flight)
    (next : ℕ) (none_sent : List Entry) (now : Stacks) (is_next : next ≡ seen + length sent) (none : none_sent ≡ []) (done : now.done ≡ old.done) (undone : now.undone ≡ []) where
  pub acked_same : site_of editor untold next none_sent now shared None ≡ take_ack (site_of editor untold seen sent old shared flight)
  acked_same =
      let left = site_of editor untold next none_sent now shared None in
      ap (λ n. record left { seen = n }) (is_next ∙ ap (λ n. seen + n) (sym (length-map sent (entry_by_value editor.store))))
      ∙ (ap (λ es. record left { seen = seen + length (map (entry_by_value editor.store) sent); sent = map (entry_by_value editor.store) es }) none
      ∙ (ap (λ es. record left { seen = seen + length (map (entry_by_value editor.store) sent); sent = []; unsent = map (entry_by_value editor.store) es }) done
      ∙ ap (λ ps. record left { seen = seen + length (map (entry_by_value editor.store) sent); sent = []; unsent = map (entry_by_value editor.store) old.done; undone = map parcel_by_value ps; undone_hints = map hint_of ps }) undone))

  pub acked_is : IsSite editor next none_sent now shared None
  acked_is =
      let left : none_sent ++ now.done ≡ old.done = ap (λ l. l ++ now.done) none ∙ done in
      record {
        stands = untold_stands (site_of editor untold next none_sent now shared None) (subst Stands (sym acked_same) (acked_stands (site_of editor untold seen sent old shared flight) (is.stands untold)));
        over = subst (AreOver editor.store 0) (sym left) (over_rest editor.store 0 sent old.done is.over);
        undone_cite = subst (All ParcelCites) (sym undone) (All-nil ParcelCites);
      }

-- ---- with nothing undone

module _ (editor : Replica) (untold : Untold) (seen : ℕ) (sent : List Entry) (old : Stacks) (shared : ℕ) (flight : Option ℕ) (is : IsSite editor seen sent old shared flight)
    (copy : Replica) (copied : List Entry) (now : Stacks) (page : copy ≡ editor) (same_sent : copied ≡ sent) (done : now.done ≡ old.done) (undone : now.undone ≡ []) where
  abbrev cleared : Site
  cleared = with_none_undone (site_of editor untold seen sent old shared flight)

  pub copied_same : site_of copy untold seen copied now shared flight ≡ cleared
  copied_same =
      ap (λ r. site_of r untold seen copied now shared flight) page
      ∙ (ap (λ es. record (site_of editor untold seen copied now shared flight) { sent = map (entry_by_value editor.store) es }) same_sent
      ∙ (ap (λ es. record cleared { unsent = map (entry_by_value editor.store) es; undone = map parcel_by_value now.undone; undone_hints = map hint_of now.undone }) done
      ∙ ap (λ ps. record cleared { undone = map parcel_by_value ps; undone_hints = map hint_of ps }) undone))

  pub copied_is : IsSite copy seen copied now shared flight
  copied_is = record {
    stands = untold_stands (site_of copy untold seen copied now shared flight) (subst Stands (sym copied_same) (restacked_stands (site_of editor untold seen sent old shared flight) cleared (is.stands untold) refl refl refl));
    over = subst (λ (r : Replica). AreOver r.store 0 (copied ++ now.done)) (sym page)
        (subst (λ es. AreOver editor.store 0 (es ++ now.done)) (sym same_sent) (subst (λ es. AreOver editor.store 0 (sent ++ es)) (sym done) is.over));
    undone_cite = subst (All ParcelCites) (sym undone) (All-nil ParcelCites);
  }

-- ---- an entry taken, as the call lends the pending entries

-- first what is taken back is noted, and then what is performed
pub both_noted : (back committed : List Transaction) (old dropped later : Untold) → dropped ≡ passed back old → later ≡ passed committed dropped → later ≡ passed (back ++ committed) old
both_noted back committed old dropped later first then = then ∙ (ap (passed committed) first ∙ passed_both back committed old)

module _ (editor : Replica) (untold : Untold) (seen : ℕ) (sent : List Entry) (old : Stacks) (shared : ℕ) (flight : Option ℕ) (is : IsSite editor seen sent old shared flight)
    (foreign : Parcel) (run : AllRun (parcel_by_value foreign) (ground_of (site_of editor untold seen sent old shared flight))) (lent behind : List Entry) (lent_is : lent ≡ sent)
    (behind_is : behind ≡ old.done) (made : EntriesUnder) (made_is : AreUnder foreign (lent ++ behind) made) (left : List Entry) (left_is : left ≡ made.kept) where
  both : lent ++ behind ≡ sent ++ old.done
  both = ap (λ l. l ++ behind) lent_is ∙ ap (λ l. sent ++ l) behind_is

  under : AreUnder foreign (sent ++ old.done) made
  under = subst (λ es. AreUnder foreign es made) both made_is

  same_left : length left ≡ length made.kept
  same_left = ap length left_is

  pub lent_stack : IsStack editor (lent ++ behind)
  lent_stack = subst (IsStack editor) (sym both) (stack_is editor seen sent old shared flight is)

  pub lent_within : length left ≤ length (lent ++ behind)
  lent_within =
      subst (λ es. length left ≤ length es) (sym both) (subst (λ n. n ≤ length (sent ++ old.done)) (sym same_left) (left_within editor untold seen sent old shared flight is foreign run made under))

  -- how many are left is compared with how many are pending
  module _ (count : ℕ) (count_is : count ≡ length (pending (site_of editor untold seen sent old shared flight))) where
    pub lent_whole : count ≤ length left → length left ≡ length (lent ++ behind)
    lent_whole all_left =
        let within = lent_within in
        let here = ap length both ∙ length-append sent old.done in
        let there = pending_count editor untold seen sent old shared flight in
        omega (arith, within, here, there, count_is, all_left)

    pub lent_dropped : length left < count → 2 ≤ length (taking_one (parcel_by_value foreign) (site_of editor untold seen sent old shared flight))
    lent_dropped fewer =
        let kept = as_many editor untold seen sent old shared flight is foreign run made under in
        two_where_dropped (parcel_by_value foreign) (site_of editor untold seen sent old shared flight) (omega (arith, same_left, kept, count_is, fewer))

  -- joined, the entry has as many transactions as before
  pub lent_few : length foreign.entry.txs ≤ 1 → length (parcel_by_value made.committed) ≤ 1
  lent_few few =
      let same : length made.committed.entry.txs ≡ length foreign.entry.txs = ap (λ (o : ℕ × Parcel). o.0) made_is.committed_outline in
      let all = length-map made.committed.entry.txs (by_value made.committed.values) in
      omega (arith, few, same, all)

  pub lent_stands : AllStand (parcel_by_value made.committed) (all_reverted (map (entry_by_value editor.store) (drop (length left) (lent ++ behind))) editor).items
  lent_stands =
      subst (λ es. AllStand (parcel_by_value made.committed) (all_reverted (map (entry_by_value editor.store) (drop (length left) es)) editor).items) (sym both)
      (subst (λ n. AllStand (parcel_by_value made.committed) (all_reverted (map (entry_by_value editor.store) (drop n (sent ++ old.done))) editor).items) (sym same_left)
      (may_perform editor untold seen sent old shared flight is foreign run made under))

  pub lent_makes : back_over editor.store (drop (length left) (lent ++ behind)) ++ parcel_by_value made.committed
      ≡ taking_one (parcel_by_value foreign) (site_of editor untold seen sent old shared flight)
  lent_makes =
      ap (λ es. back_over editor.store (drop (length left) es) ++ parcel_by_value made.committed) both
      ∙ (ap (λ n. back_over editor.store (drop n (sent ++ old.done)) ++ parcel_by_value made.committed) same_left
      ∙ makes_one editor untold seen sent old shared flight is foreign run made under)

  pub lent_counts : (before after : ℕ) → after ≤ before + cost_of_transactions (back_over editor.store (drop (length left) (lent ++ behind)) ++ parcel_by_value made.committed) editor.items →
      after ≤ before + cost_of_transactions (taking_one (parcel_by_value foreign) (site_of editor untold seen sent old shared flight)) editor.items
  lent_counts before after h = subst (λ us. after ≤ before + cost_of_transactions us editor.items) lent_makes h

  module _ (new : Replica) (lent_admitted : IsAdmitted editor (lent ++ behind) (length left) (parcel_by_value made.committed) new) (stored next : ℕ) (first : List Entry) (now : Stacks)
      (later : Untold) (is_stored : stored ≡ length new.store) (is_next : next ≡ seen + 1) (first_lent : first ≡ map (numbered_alike stored) (take (length lent) made.kept))
      (done_lent : now.done ≡ map (numbered_alike stored) (drop (length lent) made.kept)) (none : now.undone ≡ [])
      (noted : later ≡ passed (back_over editor.store (drop (length left) (lent ++ behind)) ++ parcel_by_value made.committed) untold) where
    admitted : IsAdmitted editor (sent ++ old.done) (length made.kept) (parcel_by_value made.committed) new
    admitted =
        subst (λ n. IsAdmitted editor (sent ++ old.done) n (parcel_by_value made.committed) new) same_left
        (subst (λ es. IsAdmitted editor es (length left) (parcel_by_value made.committed) new) both lent_admitted)

    first_is : first ≡ map (numbered_alike stored) (take (length sent) made.kept)
    first_is = first_lent ∙ ap (λ l. map (numbered_alike stored) (take (length l) made.kept)) lent_is

    done_is : now.done ≡ map (numbered_alike stored) (drop (length sent) made.kept)
    done_is = done_lent ∙ ap (λ l. map (numbered_alike stored) (drop (length l) made.kept)) lent_is

    all_noted : later ≡ passed (back_over editor.store (drop (length made.kept) (sent ++ old.done)) ++ parcel_by_value made.committed) untold
    all_noted =
        noted
        ∙ (ap (λ es. passed (back_over editor.store (drop (length left) es) ++ parcel_by_value made.committed) untold) both
        ∙ ap (λ n. passed (back_over editor.store (drop n (sent ++ old.done)) ++ parcel_by_value made.committed) untold) same_left)

    pub lent_same : site_of new later next first now shared flight ≡ take_entry (parcel_by_value foreign) (site_of editor untold seen sent old shared flight)
    lent_same = taken_same editor untold seen sent old shared flight is foreign run made under new admitted stored next first now later is_stored is_next first_is done_is none all_noted

    pub lent_is_site : IsSite new next first now shared flight
    lent_is_site = taken_is editor untold seen sent old shared flight is foreign run made under new admitted stored next first now later is_stored is_next first_is done_is none all_noted

    pub lent_pending : length left ≡ length (pending (site_of new later next first now shared flight))
    lent_pending = same_left ∙ left_pending editor untold seen sent old shared flight is foreign run made under new admitted stored next first now later is_stored is_next first_is done_is none all_noted
