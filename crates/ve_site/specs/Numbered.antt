-- A site with its number, and the meaning of its fields.
use Rattle.std.specs.Prelude.{ℕ, List, All, map, ◌++◌, Option}
use Rattle.model_site.specs.Replica.{Replica}
use Rattle.model_site.specs.Site.{Site}
use Rattle.model_site.specs.Untold.{Untold}
use Rattle.ve_tx.specs.declared.entry.Entry.{Entry}
use Rattle.ve_tx.specs.declared.parcel.Parcel.{Parcel}
use Rattle.ve_tx.specs.ByValue.{parcel_by_value, ParcelCites}
use Rattle.ve_editor.specs.Edited.{entry_by_value}
use Rattle.ve_history.specs.Stacks.{Stacks}
use Rattle.ve_site.specs.Ground.{Stands, AreOver}

pub record Numbered : Type 0 where
  pub number : ℕ
  pub site : Site

-- what a parcel takes back
abbrev pub hint_of : Parcel → Option ℕ
hint_of p = p.entry.takes_back

-- with another site under its number
abbrev pub with_site : Site → Numbered → Numbered
with_site site s = record { number = s.number; site = site }

-- The entries over the editor's store; those that are not sent are done in the history.
abbrev pub site_of : Replica → Untold → (seen : ℕ) → (sent : List Entry) → Stacks → (shared : ℕ) → (in_flight : Option ℕ) → Site
site_of editor untold seen sent history shared in_flight = record {
  replica = editor;
  untold = untold;
  seen = seen;
  sent = map (entry_by_value editor.store) sent;
  unsent = map (entry_by_value editor.store) history.done;
  undone = map parcel_by_value history.undone;
  undone_hints = map hint_of history.undone;
  shared = shared;
  in_flight = in_flight;
}

-- the invariant of a site's fields, whatever it has not told
pub record IsSite (editor : Replica) (seen : ℕ) (sent : List Entry) (history : Stacks) (shared : ℕ) (in_flight : Option ℕ) : Type 0 where
  pub stands : (untold : Untold) → Stands (site_of editor untold seen sent history shared in_flight)
  pub over : AreOver editor.store 0 (sent ++ history.done)
  pub undone_cite : All ParcelCites history.undone
