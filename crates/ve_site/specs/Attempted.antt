-- Changes that a site made together.
use Rattle.std.specs.Prelude.{◌≡◌, List}
use Rattle.model_change.specs.Transaction.{Transaction}
use Rattle.model_site.specs.Site.{Site, with_entry}
use Rattle.model_site_law.specs.Sound.{AllMayRun}

-- The site has transactions that are asked for as one new entry, and each of them may run.
pub record IsAttempted (Asked : List Transaction → Type 0) (old new : Site) : Type 0 where
  pub ts : List Transaction
  pub asked : Asked ts
  pub may : AllMayRun ts old.replica.items
  pub site : new ≡ with_entry ts old
