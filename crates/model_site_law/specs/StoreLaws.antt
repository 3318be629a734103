-- The values that the store of every site begins with.
use Rattle.std.specs.Prelude.{◌≡◌, ◌≤◌, List, ◌++◌, length, All}
use Rattle.ve_base.specs.declared.value.Value.{Value}
use Rattle.model_site.specs.Entries.{Entry}
use Rattle.model_site.specs.Site.{Site, pending}
use Rattle.model_site_law.specs.Laws.{Always}

-- The site's store begins with these values, and each pending entry was made on a store with as
-- many or more. So they are there whatever is undone.
pub record BeginsWith (first : List Value) (s : Site) : Type 0 where
  pub more : List Value
  pub begins : s.replica.store ≡ first ++ more
  pub since : All (λ (e : Entry). length first ≤ e.store_before) (pending s)

-- Every site's store begins with the store that was opened, whatever happened.
abbrev pub StoreBegins : Type 0
StoreBegins = Always (λ base w m. BeginsWith base.store m.site)
