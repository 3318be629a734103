-- A site while it takes entries of other sites on a trial of its page. For private functions.
use Rattle.std.specs.Prelude.{◌≡◌, ◌≤◌, ℕ, ◌+◌, List, [], length, map, take, Option, Some, None}
use Rattle.model_site.specs.Entries.{Parcel as ModelParcel}
use Rattle.model_site.specs.Replica.{Replica}
use Rattle.model_site.specs.Site.{Site, pending}
use Rattle.model_site.specs.Take.{take_entry, take_foreign}
use Rattle.model_change.specs.Cost.{cost_of_transactions}
use Rattle.ve_tx.specs.declared.parcel.Parcel.{Parcel}
use Rattle.ve_tx.specs.ByValue.{parcel_by_value}
use Rattle.ve_editor.specs.Counted.{steps_of_blank}
use Rattle.ve_editor.specs.Page.{replica_of}
use Rattle.ve_site.specs.declared.taking.Rest.{Rest}
use Rattle.ve_site.specs.declared.taking.Taking.{Taking}
use Rattle.ve_site.specs.Dropped.{only_done}
use Rattle.ve_site.specs.Numbered.{Numbered, site_of, with_site, IsSite}
use Rattle.model_site.specs.Made.{taking_all, taking_one}
use Rattle.ve_site.specs.Taking.{steps_of_feed}

-- a site of a page, and of what it has besides
abbrev pub rest_site : Replica → Rest → Site
rest_site page r = site_of page r.untold r.seen r.sent.items (only_done r.unsent) r.shared r.in_flight

-- these keep the invariant of a site
abbrev pub IsRest : Replica → Rest → Type 0
IsRest page r = IsSite page r.seen r.sent.items (only_done r.unsent) r.shared r.in_flight

-- the site on a trial
abbrev pub taking_site : Taking → Site
taking_site t = rest_site (replica_of t.trial.page) t.rest

-- it keeps the invariant
abbrev pub IsTaking : Taking → Type 0
IsTaking t = IsRest (replica_of t.trial.page) t.rest

-- the first so many of these entries are taken
pub record HaveTaken (parcels : List Parcel) (old : Taking) (count : ℕ) (new : Taking) : Type 0 where
  pub within : count ≤ length parcels
  pub site : taking_site new ≡ take_foreign (map parcel_by_value (take count parcels)) (taking_site old)
  pub is : IsTaking new

-- nothing may be redone then
abbrev pub with_none_undone : Site → Site
with_none_undone s = record s { undone = []; undone_hints = [] }

-- these entries are taken on a trial, and a page without text stands in the page's place meanwhile
abbrev pub TakesOnTrial : List ModelParcel → Site → Type 0
TakesOnTrial entries s = steps_of_feed entries s ≡ steps_of_blank + cost_of_transactions (taking_all entries s) s.replica.items

-- An entry is taken without a trial, and so many are pending then. Or nothing changes: it makes two
-- transactions at least.
abbrev pub IsTakenInPlace : ModelParcel → Numbered → Option ℕ → Numbered → Type 0
IsTakenInPlace foreign old (Some left) new = (new ≡ with_site (take_entry foreign old.site) old) × (left ≡ length (pending new.site))
IsTakenInPlace foreign old None new = (new ≡ old) × (2 ≤ length (taking_one foreign old.site))

-- Entries are taken without a trial, and so many are pending then. Or nothing changes, since they
-- have to be taken on one.
abbrev pub AreTakenInPlace : List ModelParcel → Numbered → Option ℕ → Numbered → Type 0
AreTakenInPlace entries old (Some left) new = (new ≡ with_site (take_foreign entries old.site) old) × (left ≡ length (pending new.site))
AreTakenInPlace entries old None new = (new ≡ old) × TakesOnTrial entries old.site
