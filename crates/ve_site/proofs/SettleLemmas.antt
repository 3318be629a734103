-- A site that takes a changed copy has the changes as a new entry.
use Rattle.std.proofs.Common.{◌≡◌, [], ◌∷◌, ◌++◌, ap, ◌∙◌}
use Rattle.model_site.specs.Entries.{Entry as ModelEntry}
use Rattle.model_site.specs.Replica.{Replica}
use Rattle.model_site.specs.Site.{Site, with_entry}
use Rattle.model_site.specs.Untold.{Untold, passed}
use Rattle.ve_tx.specs.declared.entry.Entry.{Entry}
use Rattle.ve_site.specs.Settled.{with_new_entry, SettledIsPerformed, Settles}
use Rattle.ve_site.proofs.PatchLemmas.{passed_filled}

pub settled_is : (new : Replica) (e : Entry) (site : Site) (by : Settles site.replica new e) → with_new_entry new e site ≡ with_entry by.ts site
settled_is new e site by =
    ap (λ (x : ModelEntry). record site { replica = new; untold = passed x.txs site.untold; unsent = site.unsent ++ x ∷ []; undone = []; undone_hints = [] }) by.entry
    ∙ (ap (λ (n : Untold). record (with_entry by.ts site) { replica = new; untold = n }) (passed_filled by.ts site.replica.items site.untold)
    ∙ ap (λ (r : Replica). record (with_entry by.ts site) { replica = r }) by.page)

pub settled_is_performed : SettledIsPerformed
settled_is_performed = settled_is
