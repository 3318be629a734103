-- The last unsent entry taken back.
use Rattle.std.proofs.Common.{◌≡◌, ◌≤◌, ◌<◌, ◌+◌, ◌-◌, ℕ, suc, Bool, true, false, ◌&&◌, ◌==◌, nat_lt, if◌then◌else◌, List, [], ◌∷◌, ◌++◌, length, map, take, slice_get, All, Contains, Option, Some, None, Ok, Err, IsOk, is_ok, refl, sym, ap, ◌∙◌, subst, arith}
use Rattle.std.proofs.lemmas.List.{map-append, append_assoc}
use Rattle.std.proofs.lemmas.List.Elements.{All-cons, All-head}
use Rattle.model_items.specs.declared.plain_item.PlainItem.{PlainItem}
use Rattle.model_change.specs.Replay.{AllRun, flattened, replay, reversal}
use Rattle.model_change.specs.Store.{cited}
use Rattle.model_change.proofs.ReversalLaw.{reversal_undoes}
use Rattle.model_site.specs.declared.site_fault.UndoFault.{UndoFault}
use Rattle.model_site.specs.declared.site_fault.UndoFault.TheVariants as fault
use Rattle.model_site.specs.Causes.{NothingToUndo, AlreadyShared}
use Rattle.model_site.specs.Entries.{parcels, reverted}
use Rattle.model_site.specs.Entries.{Entry as ModelEntry}
use Rattle.model_site.specs.Replica.{Replica, all_put_back}
use Rattle.model_site.specs.Site.{Site, init_and_last, with_undone, pending, undo, undo_last}
use Rattle.model_site.specs.Untold.{Untold, passed}
use Rattle.model_site_law.specs.Chain.{Chain}
use Rattle.model_site_law.specs.Sound.{AllIn}
use Rattle.model_site_law.proofs.ChainLemmas.{chain_rest}
use Rattle.model_site_law.proofs.PerformLemmas.{put_back_grows}
use Rattle.model_site_law.proofs.ReplayLemmas.{AllRun-parts, replay-append, sound_after}
use Rattle.model_site_law.proofs.RevertLemmas.{items_put_back}
use Rattle.model_site_law.proofs.SiteLemmas.{pending_more}
use Rattle.ve_tx.specs.declared.entry.Entry.{Entry}
use Rattle.ve_tx.specs.declared.parcel.Parcel.{Parcel}
use Rattle.ve_tx.specs.ByValue.{parcel_by_value, ParcelCites}
use Rattle.ve_tx.specs.Making.{Extends}
use Rattle.ve_tx.proofs.ValuesLemmas.{extends_itself, extends_on}
use Rattle.ve_editor.specs.Edited.{CanBeReverted, CutsUncited, entry_by_value, EntryCites}
use Rattle.ve_editor.specs.Counted.{steps_over}
use Rattle.ve_history.specs.Stacks.{Stacks, without_last}
use Rattle.model_site.specs.Made.{undoing}
use Rattle.ve_site.specs.Ground.{AreOver, Stands, ground_of}
use Rattle.ve_site.specs.Numbered.{hint_of, site_of, IsSite}
use Rattle.ve_site.specs.Refusal.{IsUndoRefusal}
use Rattle.ve_site.proofs.OverLemmas.{IsLast, over_last, over_grown, over_cites, cite_parts, entries_extended, prefix_extends, prefix_stays}
use Rattle.ve_site.proofs.StandsLemmas.{all_stand, undone_stands, untold_stands}

-- ---- the last of a list

pub ends_with : {A : Type 0} (xs : List A) (x : A) → slice_get xs (length xs - 1) ≡ Some x → xs ≡ take (length xs - 1) xs ++ x ∷ []
ends_with [] x e = cc
ends_with (y ∷ []) x e = let same : y ≡ x = cc in ap (λ z. z ∷ []) same
ends_with (y ∷ z ∷ xs) x e =
    let n : suc (suc (length xs)) - 1 ≡ suc (suc (length xs) - 1) = omega arith in
    let rest = ends_with (z ∷ xs) x (subst (λ k. slice_get (y ∷ z ∷ xs) k ≡ Some x) n e) in
    ap (λ more. y ∷ more) rest ∙ ap (λ k. take k (y ∷ z ∷ xs) ++ x ∷ []) (sym n)

parted_end : (y : ModelEntry) (ys : List ModelEntry) (x : ModelEntry) → init_and_last y (ys ++ x ∷ []) ≡ (y ∷ ys, x)
parted_end y [] x = refl
parted_end y (z ∷ ys) x = ap (λ (r : List ModelEntry × ModelEntry). (y ∷ r.0, r.1)) (parted_end z ys x)

undoing_end : (xs : List ModelEntry) (x : ModelEntry) → undoing (xs ++ x ∷ []) ≡ reversal x.txs
undoing_end [] x = refl
undoing_end (y ∷ ys) x = ap (λ (p : List ModelEntry × ModelEntry). reversal p.1.txs) (parted_end y ys x)

undone_end : (xs : List ModelEntry) (x : ModelEntry) (s : Site) →
    undo_last (xs ++ x ∷ []) s ≡ Ok (with_undone x xs s)
undone_end [] x s = refl
undone_end (y ∷ ys) x s = ap (λ (p : List ModelEntry × ModelEntry). Ok (with_undone p.1 p.0 s)) (parted_end y ys x)

-- ---- what may be taken back

-- the last unsent entry of a site
record CanGo (s : Site) (x : ModelEntry) : Type 0 where
  before : List PlainItem
  runs : AllRun (reversal x.txs) s.replica.items
  back : replay (reversal x.txs) s.replica.items ≡ before
  held : x.store_before < x.store_after → AllIn (take x.store_before s.replica.store) (cited before)

can_go : (s : Site) (xs : List ModelEntry) (x : ModelEntry) → Stands s → s.unsent ≡ xs ++ x ∷ [] → CanGo s x
can_go s xs x h part =
    let floor = ground_of s in
    let old = flattened (parcels (s.sent ++ xs)) in
    let split : flattened (parcels (pending s)) ≡ old ++ x.txs = ap (λ us. flattened (parcels (s.sent ++ us))) part ∙ pending_more s.sent xs x in
    let runs = AllRun-parts old x.txs floor (subst (λ us. AllRun us floor) split h.holds.runs) in
    let list : s.replica.items ≡ replay x.txs (replay old floor) = h.holds.list ∙ (ap (λ us. replay us floor) split ∙ replay-append old x.txs floor) in
    let sound = sound_after old floor h.sound runs.0 in
    let back = reversal_undoes x.txs (replay old floor) sound.lawful sound.apart runs.1 in
    let chained : Chain s.replica.store 0 floor ((s.sent ++ xs) ++ x ∷ []) =
    subst (Chain s.replica.store 0 floor) (ap (λ us. s.sent ++ us) part ∙ sym (append_assoc s.sent xs (x ∷ []))) h.holds.chain in
    record {
      before = replay old floor;
      runs = subst (AllRun (reversal x.txs)) (sym list) back.runs;
      back = ap (replay (reversal x.txs)) list ∙ back.back;
      held = (chain_rest s.replica.store 0 floor (s.sent ++ xs) (x ∷ []) chained).2;
    }

module _ (editor : Replica) (untold : Untold) (seen : ℕ) (sent : List Entry) (old : Stacks) (shared : ℕ) (flight : Option ℕ) (is : IsSite editor seen sent old shared flight)
    (last : Entry) (ends : slice_get old.done (length old.done - 1) ≡ Some last) where
  abbrev site : Site
  site = site_of editor untold seen sent old shared flight

  abbrev others : List Entry
  others = without_last old.done

  abbrev x : ModelEntry
  x = entry_by_value editor.store last

  split : old.done ≡ others ++ last ∷ []
  split = ends_with old.done last ends

  unsent_is : site.unsent ≡ map (entry_by_value editor.store) others ++ x ∷ []
  unsent_is = ap (map (entry_by_value editor.store)) split ∙ map-append (entry_by_value editor.store) others (last ∷ [])

  gone : CanGo site x
  gone = can_go site (map (entry_by_value editor.store) others) x (is.stands untold) unsent_is

  over : IsLast editor.store 0 (sent ++ others) last
  over = over_last editor.store 0 (sent ++ others) last (subst (AreOver editor.store 0) (ap (λ es. sent ++ es) split ∙ sym (append_assoc sent others (last ∷ []))) is.over)

  pub last_cites : EntryCites editor.store last
  last_cites =
      let all = over_cites editor.store 0 (sent ++ old.done) is.over in
      let unsent = subst (All (EntryCites editor.store)) split (cite_parts editor.store sent old.done all).1 in
      All-head (EntryCites editor.store) last [] (cite_parts editor.store others (last ∷ []) unsent).1

  pub may_go : CanBeReverted x editor
  may_go = all_stand (reversal x.txs) editor.items gone.runs

  pub undo_counts : (now after : ℕ) → after ≤ now + steps_over (reversal x.txs) editor.items → after ≤ now + steps_over (undoing site.unsent) site.replica.items
  undo_counts now after h =
      let same : undoing site.unsent ≡ reversal x.txs = ap undoing unsent_is ∙ undoing_end (map (entry_by_value editor.store) others) x in
      subst (λ ts. after ≤ now + steps_over ts editor.items) (sym same) h

  abbrev back : Replica
  back = all_put_back (reversal x.txs) editor

  back_extends : Extends editor.store back.store
  back_extends = let g = put_back_grows (reversal x.txs) editor in (g.more, g.same)

  pub cuts_uncited : CutsUncited x editor
  cuts_uncited was lower v within =
      subst (λ vs. Contains vs v) (sym (prefix_stays editor.store back.store last.store_before back_extends over.within))
      (gone.held lower v (subst (λ items. Contains (cited items) v) (items_put_back (reversal x.txs) editor ∙ gone.back) within))

  -- what is left of the store goes on from where the last entry began
  module _ (new : Replica) (page : new ≡ reverted x editor) where
    pub left_extends : Extends (take last.store_before editor.store) new.store
    left_extends = subst (λ (r : Replica). Extends (take last.store_before editor.store) r.store) (sym page) (by_cut ((length editor.store == x.store_after) && nat_lt x.store_before x.store_after))
      where
        by_cut : (b : Bool) → Extends (take last.store_before editor.store) (if b then take last.store_before back.store else back.store)
        by_cut true =
            subst (Extends (take last.store_before editor.store)) (sym (prefix_stays editor.store back.store last.store_before back_extends over.within))
            (extends_itself (take last.store_before editor.store))
        by_cut false = extends_on (take last.store_before editor.store) editor.store back.store (prefix_extends last.store_before editor.store) back_extends

    same_by_value : (es : List Entry) → All (EntryCites (take last.store_before editor.store)) es → map (entry_by_value new.store) es ≡ map (entry_by_value editor.store) es
    same_by_value es h =
        entries_extended (take last.store_before editor.store) new.store es left_extends h
        ∙ sym (entries_extended (take last.store_before editor.store) editor.store es (prefix_extends last.store_before editor.store) h)

    module _ (parcel : Parcel) (now : Stacks) (later : Untold) (by_values : parcel_by_value parcel ≡ x.txs) (hint : hint_of parcel ≡ last.takes_back) (done : now.done ≡ others) (undone : now.undone ≡ parcel ∷ old.undone)
        (noted : later ≡ passed (reversal x.txs) untold) where
      undone_same : site_of new later seen sent now shared flight ≡ with_undone x (map (entry_by_value editor.store) others) site
      undone_same =
          let parts = cite_parts (take last.store_before editor.store) sent others (over_cites (take last.store_before editor.store) 0 (sent ++ others) over.before) in
          let left = site_of new (passed (reversal x.txs) untold) seen sent now shared flight in
          let there : Site = with_undone x (map (entry_by_value editor.store) others) site in
          ap (λ n. site_of new n seen sent now shared flight) noted
          ∙ (ap (λ r. record left { replica = r }) page
          ∙ (ap (λ es. record left { replica = reverted x editor; sent = es }) (same_by_value sent parts.0)
          ∙ (ap (λ es. record left { replica = reverted x editor; sent = site.sent; unsent = es }) (ap (map (entry_by_value new.store)) done ∙ same_by_value others parts.1)
          ∙ (ap (λ ps. record there { undone = map parcel_by_value ps; undone_hints = map hint_of ps }) undone
          ∙ (ap (λ ts. record there { undone = ts ∷ site.undone; undone_hints = hint_of parcel ∷ site.undone_hints }) by_values
          ∙ ap (λ h. record there { undone_hints = h ∷ site.undone_hints }) hint)))))

      pub undo_is : undo site ≡ Ok (site_of new later seen sent now shared flight)
      undo_is = ap (λ es. undo_last es site) unsent_is ∙ (undone_end (map (entry_by_value editor.store) others) x site ∙ ap (λ s. Ok s) (sym undone_same))

      pub undone_is : ParcelCites parcel → IsSite new seen sent now shared flight
      undone_is cites = record {
        stands = untold_stands (site_of new later seen sent now shared flight) (undone_stands site (site_of new later seen sent now shared flight) (is.stands untold) undo_is);
        over = subst (λ es. AreOver new.store 0 (sent ++ es)) (sym done) (over_grown (take last.store_before editor.store) new.store 0 (sent ++ others) left_extends over.before);
        undone_cite = subst (All ParcelCites) (sym undone) (All-cons ParcelCites parcel old.undone cites is.undone_cite);
      }

-- ---- nothing to take back

last_is_some : {A : Type 0} (x : A) (xs : List A) → slice_get (x ∷ xs) (length xs) ≡ None → ⊥
last_is_some x [] e = cc
last_is_some x (y ∷ ys) e = last_is_some y ys e

none_left : {A : Type 0} (xs : List A) → slice_get xs (length xs - 1) ≡ None → xs ≡ []
none_left [] e = refl
none_left (x ∷ xs) e = let n : suc (length xs) - 1 ≡ length xs = omega arith in absurd (last_is_some x xs (subst (λ k. slice_get (x ∷ xs) k ≡ None) n e))

pub nothing_undone : (s : Site) (old : List Entry) (why : UndoFault) → s.unsent ≡ map (entry_by_value s.replica.store) old → slice_get old (length old - 1) ≡ None →
    why ≡ (if s.shared == 0 then fault.NothingToUndo else fault.AlreadyShared s.shared) → IsUndoRefusal (undo s) why
nothing_undone s old why u last w =
    let none : s.unsent ≡ [] = u ∙ ap (map (entry_by_value s.replica.store)) (none_left old last) in
    let told = by_count (s.shared == 0) in
    subst (λ es. IsUndoRefusal (undo_last es s) why) (sym none) (subst (IsUndoRefusal (undo_last [] s)) (sym w) told)
  where
    by_count : (b : Bool) → IsUndoRefusal {A = Site} (Err (if b then NothingToUndo else AlreadyShared s.shared)) (if b then fault.NothingToUndo else fault.AlreadyShared s.shared)
    by_count true = refl
    by_count false = refl

pub not_memory : (sent : ℕ) (why : UndoFault) → why ≡ (if sent == 0 then fault.NothingToUndo else fault.AlreadyShared sent) → why ≡ fault.Memory → ⊥
not_memory sent why w want = by_count (sent == 0) (sym w ∙ want)
  where
    by_count : (b : Bool) → (if b then fault.NothingToUndo else fault.AlreadyShared sent) ≡ fault.Memory → ⊥
    by_count true e = cc
    by_count false e = cc

-- ---- something to take back

pub undoes : (s : Site) (old : List Entry) → s.unsent ≡ map (entry_by_value s.replica.store) old → (old ≡ [] → ⊥) → IsOk (undo s)
undoes s [] u some = absurd (some refl)
undoes s (e ∷ es) u some = ap (λ us. is_ok (undo_last us s)) u

pub last_is : (old : List Entry) (last : Entry) → slice_get old (length old - 1) ≡ Some last → old ≡ [] → ⊥
last_is [] last is none = cc
last_is (e ∷ es) last is none = cc
