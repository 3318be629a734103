-- A page that is open, with the sites that edit it.
use Rattle.std.specs.Prelude.{◌≡◌, ℕ, List, length, slice_get, Option, Some, None, option_map, Ok, encode_utf8_all, IsUtf8}
use Rattle.model_items.specs.declared.item.Item.{Item}
use Rattle.model_page.specs.declared.ref_table.RefRow.{RefRow}
use Rattle.model_page.specs.PageItems.{Opened}
use Rattle.model_site.specs.Replica.{Replica}
use Rattle.model_site.specs.Session.{Member, Session}
use Rattle.model_world.specs.Opening.{open_page, session_of}
use Rattle.model_world.specs.World.{World, Closed, Open, world_after}
use Rattle.ve_write.specs.Originals.{opened_over, IsFirst}
use Rattle.ve_html_scan.specs.declared.token.Span.{Span}
use Rattle.ve_origin.specs.Origins.{first_read, AreRows, FirstRead, IsCut}
use Rattle.ve_origin.specs.declared.origin.OriginRow.{OriginRow}

-- the page as it was first read, and the session on it
pub record OnPage : Type 0 where
  pub page : Opened
  pub session : Session

abbrev pub world_on : OnPage → World
world_on p = Open p.page p.session

abbrev pub world_of : Option OnPage → World
world_of None = Closed
world_of (Some p) = world_on p

-- the replica of a site, if there is one
abbrev pub replica_in : World → ℕ → Option Replica
replica_in Closed k = None
replica_in (Open page session) k = option_map (λ (m : Member). m.site.replica) (slice_get session.members k)

-- the text of the page, where one is open, is UTF-8
abbrev pub HasUtf8Page : World → Type 0
HasUtf8Page Closed = Unit {0}
HasUtf8Page (Open page session) = IsUtf8 page.page

-- Some lines lead to this world.
pub record IsLed (w : World) : Type 0 where
  pub lines : List (List ℕ)
  pub leads : world_after Closed lines ≡ w

-- Where a page of these characters opens, some lines lead to a session of so many sites on it.
pub record MayOpen (text : List ℕ) (sites : ℕ) : Type 0 where
  pub lines : List (List ℕ)
  pub leads : (page : Opened) → open_page text ≡ Ok page → world_after Closed lines ≡ Open page (session_of page sites)

-- The borrowed page that was first read, whose text has these characters.
abbrev pub lent_of : (text : List ℕ) (body : Span) (rows : List OriginRow) (first : List Item) (refs : List RefRow) → FirstRead
lent_of text body rows first refs = first_read (encode_utf8_all text) body rows first refs

-- the page, over the values of the session's base
abbrev pub page_on : FirstRead → Session → OnPage
page_on o w = record { page = opened_over w.base.store o; session = w }

-- The invariant of an open page: lines lead to it, and its origins' rows stand over the values of
-- the base.
pub record IsOpen (o : FirstRead) (w : Session) : Type 0 where
  pub led : IsLed (world_on (page_on o w))
  pub cut : IsCut o.page o.body
  pub rows : AreRows o.page (length o.items) o.rows
  pub first : IsFirst w.base.store o
