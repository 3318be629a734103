-- A page opened for its sites, or why it is not.
use Rattle.std.specs.Prelude.{ℕ, List, encode_utf8_all, Result}
use Rattle.model_page.specs.PageItems.{Opened}
use Rattle.model_page.specs.OpenPage.{read_page}
use Rattle.model_site.specs.Replica as replica
use Rattle.model_site.specs.Session.{Session, started}
use Rattle.model_world.specs.declared.refusal.Refusal.{Refusal}
use Rattle.model_world.specs.Refusals.{refused_as, open_refusal}

-- the characters of a page as it is first read
abbrev pub open_page : List ℕ → Result Opened Refusal
open_page page = refused_as open_refusal (read_page (encode_utf8_all page))

-- so many sites begin with its items
abbrev pub session_of : Opened → ℕ → Session
session_of page sites = started (replica.opened_with page.items) sites
