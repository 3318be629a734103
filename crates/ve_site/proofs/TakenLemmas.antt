-- The invariant of a site is kept by each thing that it takes.
use Rattle.std.proofs.Common.{◌≡◌, List, [], ◌∷◌, ◌++◌, length, take, drop, refl, sym, ap, ◌∙◌, subst}
use Rattle.std.proofs.lemmas.List.{append-nil, take-append-drop}
use Rattle.model_items.specs.declared.plain_item.PlainItem.{PlainItem}
use Rattle.model_change.specs.Replay.{AllRun, flattened, replay}
use Rattle.model_change.specs.Store.{cited}
use Rattle.model_site.specs.Entries.{Parcel, all_reverted, parcels}
use Rattle.model_site.specs.Joined.{join_entries}
use Rattle.model_site.specs.Replica.{Replica}
use Rattle.model_site.specs.Site.{Site, pending}
use Rattle.model_site.specs.Take.{take_ack, take_entry, take_foreign}
use Rattle.model_site_law.specs.Chain.{Chain}
use Rattle.model_site_law.specs.Holds.{Holds, ground}
use Rattle.model_site_law.specs.Sound.{AllIn}
use Rattle.model_site_law.proofs.ChainLemmas.{chain_rest}
use Rattle.model_site_law.proofs.JoinedLemmas.{entries_join}
use Rattle.model_site_law.proofs.ReplayLemmas.{AllRun-parts, flattened-append, parcels-append, parcels-drop, replay-append, sound_after}
use Rattle.model_site_law.proofs.ReplicaLemmas.{take_foreign_keep}
use Rattle.model_site_law.proofs.RevertLemmas.{items_all_reverted}
use Rattle.model_site_law.proofs.SiteLemmas.{foreign_holds}
use Rattle.ve_site.specs.Underway.{with_none_undone}
use Rattle.ve_site.specs.Ground.{Stands, ground_of, as_opened}
use Rattle.ve_site.proofs.StandsLemmas.{Selects, ground_is, selects_kept, stands_on}

-- ---- the same pending entries

-- nothing may be undone then, and the pending entries may be parted elsewhere
pub restacked_stands : (s t : Site) → Stands s → t.replica ≡ s.replica → pending t ≡ pending s → t.undone ≡ [] → Stands t
restacked_stands s t h same entries none =
    let floor = ground_of s in
    stands_on floor t h.sound
    (record {
      seen = refl;
      list = ap (λ (r : Replica). r.items) same ∙ (h.holds.list ∙ ap (λ es. replay (flattened (parcels es)) floor) (sym entries));
      runs = subst (λ es. AllRun (flattened (parcels es)) floor) (sym entries) h.holds.runs;
      undone = subst (λ us. AllRun (flattened us) t.replica.items) (sym none) tt;
      chain = subst (Chain t.replica.store 0 floor) (sym entries) (subst (λ (r : Replica). Chain r.store 0 floor (pending s)) (sym same) h.holds.chain);
      held = subst (λ (r : Replica). AllIn r.store (cited r.items)) (sym same) h.holds.held;
    })
    (subst Selects (sym same) h.selection)

-- ---- the answer to what it sent

pub acked_stands : (s : Site) → Stands s → Stands (take_ack s)
acked_stands s h =
    let floor = ground_of s in
    let sent = flattened (parcels s.sent) in
    let unsent = flattened (parcels s.unsent) in
    let split : flattened (parcels (pending s)) ≡ sent ++ unsent = ap flattened (parcels-append s.sent s.unsent) ∙ flattened-append (parcels s.sent) (parcels s.unsent) in
    let parts = AllRun-parts sent unsent floor (subst (λ us. AllRun us floor) split h.holds.runs) in
    stands_on (replay sent floor) (take_ack s) (sound_after sent floor h.sound parts.0)
    (record {
      seen = refl;
      list = h.holds.list ∙ (ap (λ us. replay us floor) split ∙ replay-append sent unsent floor);
      runs = parts.1;
      undone = tt;
      chain = chain_rest s.replica.store 0 floor s.sent s.unsent h.holds.chain;
      held = h.holds.held;
    })
    h.selection

-- ---- an entry of another site

after_one : (foreign : Parcel) (floor : List PlainItem) → ground floor (foreign ∷ []) ≡ replay foreign floor
after_one foreign floor = ap (λ us. replay us floor) (append-nil foreign)

holds_opened : (base : List PlainItem) (before : List Parcel) (s : Site) → Holds base before s → Holds (ground base before) [] (as_opened s)
holds_opened base before s h = record { seen = refl; list = h.list; runs = h.runs; undone = h.undone; chain = h.chain; held = h.held }

-- it stands on the confirmed list that the entry gives
pub record HasTaken (foreign : Parcel) (s : Site) : Type 0 where
  pub stands : Stands (take_entry foreign s)
  pub ground : ground_of (take_entry foreign s) ≡ replay foreign (ground_of s)

pub has_taken : (foreign : Parcel) (s : Site) → Stands s → AllRun foreign (ground_of s) → HasTaken foreign s
has_taken foreign s h run =
    let floor = ground_of s in
    let holds : Holds floor (foreign ∷ []) (take_entry foreign (as_opened s)) = foreign_holds floor [] foreign (as_opened s) h.sound h.holds run in
    let on : Holds (replay foreign floor) [] (as_opened (take_entry foreign s)) =
    subst (λ g. Holds g [] (as_opened (take_entry foreign s))) (after_one foreign floor) (holds_opened floor (foreign ∷ []) (take_entry foreign (as_opened s)) holds) in
    let sound = sound_after foreign floor h.sound run in
    let selects =
    take_foreign_keep Selects selects_kept floor [] (foreign ∷ []) (as_opened s) h.sound (subst (λ us. AllRun us floor) (sym (append-nil foreign)) run) h.holds h.selection in
    record {
      stands = stands_on (replay foreign floor) (take_entry foreign s) sound on selects;
      ground = ground_is (replay foreign floor) (take_entry foreign s) sound on;
    }

-- joined over the entries that are kept, it runs once the others are taken back
pub committed_runs : (foreign : Parcel) (s : Site) → Stands s → AllRun foreign (ground_of s) →
    AllRun (join_entries foreign (parcels (pending s))).committed (all_reverted (drop (length (join_entries foreign (parcels (pending s))).kept) (pending s)) s.replica).items
committed_runs foreign s h run =
    let floor = ground_of s in
    let ps = parcels (pending s) in
    let j = join_entries foreign ps in
    let n = length j.kept in
    let gone = drop n (pending s) in
    let stay = flattened (take n ps) in
    let split : flattened ps ≡ stay ++ flattened (parcels gone) =
    ap flattened (sym (take-append-drop n ps)) ∙ (flattened-append (take n ps) (drop n ps) ∙ ap (λ r. stay ++ flattened r) (sym (parcels-drop n (pending s)))) in
    let runs = AllRun-parts stay (flattened (parcels gone)) floor (subst (λ us. AllRun us floor) split h.holds.runs) in
    let back = items_all_reverted gone s.replica (replay stay floor) (sound_after stay floor h.sound runs.0) runs.1
    (h.holds.list ∙ (ap (λ us. replay us floor) split ∙ replay-append stay (flattened (parcels gone)) floor)) in
    subst (AllRun j.committed) (sym back) (entries_join foreign ps floor h.sound run h.holds.runs).committed_run

-- ---- entries of other sites, one after the other

-- the first one may be taken, and the others then
pub record MayTakeNext (foreign : Parcel) (others : List Parcel) (s : Site) : Type 0 where
  pub run : AllRun foreign (ground_of s)
  pub others_run : AllRun (flattened others) (ground_of (take_entry foreign s))

pub may_take_next : (foreign : Parcel) (others : List Parcel) (s : Site) → Stands s → AllRun (flattened (foreign ∷ others)) (ground_of s) → MayTakeNext foreign others s
may_take_next foreign others s h run =
    let parts = AllRun-parts foreign (flattened others) (ground_of s) run in
    record { run = parts.0; others_run = subst (AllRun (flattened others)) (sym (has_taken foreign s h parts.0).ground) parts.1 }

-- what was undone doesn't matter
pub taken_anyway : (entries : List Parcel) (s : Site) → take_foreign entries (with_none_undone s) ≡ take_foreign entries s
taken_anyway [] s = refl
taken_anyway (entry ∷ entries) s = refl
