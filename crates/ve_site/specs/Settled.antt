-- A changed copy of a site's editor that takes its place.
use Rattle.std.specs.Prelude.{◌≡◌, List, [], ◌∷◌, ◌++◌}
use Rattle.model_change.specs.Transaction.{Transaction}
use Rattle.model_site.specs.Entries.{entry_of}
use Rattle.model_site.specs.Replica.{Replica, all_performed}
use Rattle.model_site.specs.Site.{Site, with_entry}
use Rattle.model_site.specs.Untold.{passed}
use Rattle.model_site_law.specs.Sound.{AllMayRun}
use Rattle.ve_tx.specs.declared.entry.Entry.{Entry}
use Rattle.ve_editor.specs.Edited.{entry_by_value, EntryCites}

-- Some transactions, performed one after the other on the site's page, give this copy and this
-- entry.
pub record Settles (old new : Replica) (e : Entry) : Type 0 where
  pub ts : List Transaction
  pub may : AllMayRun ts old.items
  pub page : new ≡ all_performed ts old
  pub entry : entry_by_value new.store e ≡ entry_of ts old
  pub cites : EntryCites new.store e

-- the copy in the place of the site's own, and the entry after those that aren't sent; nothing can
-- be redone then
abbrev pub with_new_entry : Replica → Entry → Site → Site
with_new_entry new e site = record site {
  replica = new;
  untold = passed (entry_by_value new.store e).txs site.untold;
  unsent = site.unsent ++ entry_by_value new.store e ∷ [];
  undone = [];
  undone_hints = [];
}

-- So it is the site with these transactions as a new entry.
abbrev pub SettledIsPerformed : Type 0
SettledIsPerformed = (new : Replica) (e : Entry) (site : Site) (by : Settles site.replica new e) → with_new_entry new e site ≡ with_entry by.ts site
