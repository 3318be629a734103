-- A page under edit by several sites, with the list that it was opened with.
use Rattle.std.specs.Prelude.{ℕ, List, length, slice_index_or}
use Rattle.model_items.specs.declared.item.Item.{Item}
use Rattle.model_site.specs.Site.{Site}
use Rattle.model_site.specs.Session.{Member, Session, joining, with_member}

-- A session, and the list that it was opened with, over the values of its base.
pub record Shared : Type 0 where
  pub first : List Item
  pub session : Session

-- how many sites there are
abbrev pub sites : Shared → ℕ
sites s = length s.session.members

-- the site at k with its queues; past the last one that begins
abbrev pub member_at : Shared → ℕ → Member
member_at s k = slice_index_or s.session.members k (joining s.session.base)

abbrev pub site_at : Shared → ℕ → Site
site_at s k = (member_at s k).site

-- another site with its queues in the place of the one at k; nothing else changes
abbrev pub with_member_at : ℕ → Member → Shared → Shared
with_member_at k m s = record s { session = with_member k m s.session }

-- another site in the place of the one at k; nothing else changes
abbrev pub with_site_at : ℕ → Site → Shared → Shared
with_site_at k site s = with_member_at k (record (member_at s k) { site = site }) s
