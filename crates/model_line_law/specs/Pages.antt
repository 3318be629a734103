-- The page of a world that lines lead to.
use Rattle.std.specs.Prelude.{◌≡◌, ℕ, List, Some, slice_get, IsUtf8}
use Rattle.model_page.specs.PageItems.{Opened}
use Rattle.model_page_write.specs.PageText.{write}
use Rattle.model_site.specs.Session.{Member, Session}
use Rattle.model_world.specs.World.{Closed, Open, world_after}
use Rattle.model_world_law.specs.Standing.{may_stand}
use Rattle.model_site_law.specs.ItemLaws.{AllPass}
use Rattle.model_site_law.specs.Sound.{Sound}

abbrev pub OpenedIsUtf8 : Type 0
OpenedIsUtf8 = (lines : List (List ℕ)) (page : Opened) (w : Session) → world_after Closed lines ≡ Open page w → IsUtf8 page.page

-- its items are a sound list, and each of them may stand
abbrev pub OpenedItemsStand : Type 0
OpenedItemsStand = (lines : List (List ℕ)) (page : Opened) (w : Session) → world_after Closed lines ≡ Open page w → Sound page.items × AllPass may_stand page.items

-- each item of each site's list may stand
abbrev pub ItemsStandAfterLines : Type 0
ItemsStandAfterLines = (lines : List (List ℕ)) (page : Opened) (w : Session) (k : ℕ) (m : Member) → world_after Closed lines ≡ Open page w →
    slice_get w.members k ≡ Some m → AllPass may_stand m.site.replica.items

-- a site that has the page's items writes the page as it was opened
abbrev pub UneditedPageIsWrittenBack : Type 0
UneditedPageIsWrittenBack = (lines : List (List ℕ)) (page : Opened) (w : Session) (k : ℕ) (m : Member) → world_after Closed lines ≡ Open page w →
    slice_get w.members k ≡ Some m → m.site.replica.items ≡ page.items → write page m.site.replica.items ≡ page.page
