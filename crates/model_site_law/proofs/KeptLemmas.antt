-- Of every site, whatever happened: its store's values are distinct, and its selection stands in
-- its list.
use Rattle.std.proofs.Common.{◌≡◌, ℕ, zero, suc, List, [], ◌∷◌, take, slice_get, Some, refl, arith}
use Rattle.ve_base.specs.declared.value.Value.{Value}
use Rattle.model_items.specs.Plain.{AreDistinct}
use Rattle.model_change.specs.Store.{cited}
use Rattle.model_change.proofs.StoreLemmas.{fill_appends}
use Rattle.model_site.specs.Events.{Event, Perform, Redo, Revoke, Select, Send, Serve, Take, Tell, Undo, happens}
use Rattle.model_site.specs.Replica.{Replica}
use Rattle.model_site.specs.Session.{Session, started}
use Rattle.model_site_law.specs.Laws.{FirstStoreIsDistinct, StoreIsDistinct}
use Rattle.model_site_law.specs.SelectionLaws.{AllSelectWithin, FirstSelectionStands, SelectionStands, SelectsWithin, StandsIn}
use Rattle.model_site_law.proofs.ReplicaLemmas.{AllSelectKeep, IsKept, SelectKeeps}
use Rattle.model_site_law.proofs.ReplicaSessionLemmas.{always_kept}
use Rattle.model_site_law.proofs.SelectionLemmas.{moved_stands}

get_take : (n : ℕ) (vs : List Value) (i : ℕ) (v : Value) → slice_get (take n vs) i ≡ Some v → slice_get vs i ≡ Some v
get_take zero vs i v h = cc
get_take (suc n) [] i v h = h
get_take (suc n) (w ∷ vs) zero v h = h
get_take (suc n) (w ∷ vs) (suc i) v h = get_take n vs i v h

abbrev HasDistinct : Replica → Type 0
HasDistinct r = AreDistinct r.store

distinct_is_kept : IsKept HasDistinct
distinct_is_kept = record {
  changes = λ t vs r applies lawful p. (fill_appends r.store vs).distinct p;
  cuts = λ n r p i j v h g. p i j v (get_take n r.store i v h) (get_take n r.store j v g);
}

selecting_keeps_distinct : (w : Session) (e : Event) → SelectKeeps HasDistinct w e
selecting_keeps_distinct w (Select k s) = λ m e p. p
selecting_keeps_distinct w (Perform k ts) = tt
selecting_keeps_distinct w (Tell k) = tt
selecting_keeps_distinct w (Undo k) = tt
selecting_keeps_distinct w (Redo k) = tt
selecting_keeps_distinct w (Revoke k i live) = tt
selecting_keeps_distinct w (Send k) = tt
selecting_keeps_distinct w (Serve k) = tt
selecting_keeps_distinct w (Take k) = tt

all_keep_distinct : (es : List Event) (w : Session) → AllSelectKeep HasDistinct w es
all_keep_distinct [] w = tt
all_keep_distinct (e ∷ es) w = (selecting_keeps_distinct w e, all_keep_distinct es (happens w e))

pub store_is_distinct : StoreIsDistinct
store_is_distinct base sites events k m opens distinct may e =
    always_kept HasDistinct distinct_is_kept base sites events k m opens distinct may (all_keep_distinct events (started base sites)) e

abbrev HasSelection : Replica → Type 0
HasSelection r = StandsIn r.items r.selection

selection_is_kept : IsKept HasSelection
selection_is_kept = record {
  changes = λ t vs r applies lawful p. moved_stands t r.items r.selection applies lawful;
  cuts = λ n r p. p;
}

selecting_within_keeps : (w : Session) (e : Event) → SelectsWithin w e → SelectKeeps HasSelection w e
selecting_within_keeps w (Select k s) within = λ m e p. within m e
selecting_within_keeps w (Perform k ts) within = tt
selecting_within_keeps w (Tell k) within = tt
selecting_within_keeps w (Undo k) within = tt
selecting_within_keeps w (Redo k) within = tt
selecting_within_keeps w (Revoke k i live) within = tt
selecting_within_keeps w (Send k) within = tt
selecting_within_keeps w (Serve k) within = tt
selecting_within_keeps w (Take k) within = tt

all_within_keep : (es : List Event) (w : Session) → AllSelectWithin w es → AllSelectKeep HasSelection w es
all_within_keep [] w within = tt
all_within_keep (e ∷ es) w within = (selecting_within_keeps w e within.0, all_within_keep es (happens w e) within.1)

pub selection_stands : SelectionStands
selection_stands base sites events k m opens stands may within e =
    always_kept HasSelection selection_is_kept base sites events k m opens stands may (all_within_keep events (started base sites) within) e

pub first_store_is_distinct : FirstStoreIsDistinct
first_store_is_distinct items = (fill_appends [] (cited items)).distinct (λ i j v h g. absurd (let none : ⊥ = cc in none))

pub first_selection_stands : FirstSelectionStands
first_selection_stands items = record { anchor = (omega arith, refl); focus = (omega arith, refl) }
