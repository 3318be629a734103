-- The meaning of a session's fields.
use Rattle.std.specs.Prelude.{◌≡◌, ℕ, zero, suc, List, [], ◌∷◌, ◌++◌, map, length, Ok}
use Rattle.ve_base.specs.declared.value.Value.{Value}
use Rattle.model_items.specs.declared.item.Item.{Item}
use Rattle.model_edit.specs.Translate.{between}
use Rattle.model_site.specs.Site.{Site, Submission, send}
use Rattle.model_site.specs.Session.{Member, Session, SiteFeed}
use Rattle.ve_editor.specs.Page.{page_of}
use Rattle.ve_server.specs.Fed.{submission_of}
use Rattle.ve_server.specs.Serving.{Serving}
use Rattle.ve_server.specs.declared.feed.Submit.{Submit}
use Rattle.ve_site.specs.Numbered.{Numbered}
use Rattle.ve_sites.specs.Shared.{Shared}

-- a site under its number, and the submissions that it sent and the server has not served, the next
-- one first
pub record Sender : Type 0 where
  pub number : ℕ
  pub site : Site
  pub submissions : List Submission

abbrev pub sender_of : Numbered → List Submit → Sender
sender_of s submits = record { number = s.number; site = s.site; submissions = map submission_of submits }

-- the submission is of the site with this number
abbrev pub IsFrom : (number : ℕ) → Submit → Type 0
IsFrom number s = s.site ≡ number

-- so many that begin, numbered from one on
abbrev pub first_senders : (from count : ℕ) → Site → List Sender
first_senders from zero site = []
first_senders from (suc count) site = record { number = from; site = site; submissions = [] } ∷ first_senders (suc from) count site

-- another site with the same number, and the same submissions
abbrev pub at_site : Site → Sender → Sender
at_site site s = record s { site = site }

-- So many entries were sent as one submission, which waits behind the others.
pub record HasGone (count : ℕ) (old new : Sender) : Type 0 where
  pub submission : Submission
  pub sent : send old.site ≡ Ok (new.site, submission)
  pub counted : count ≡ length submission.entries
  pub same : new ≡ record { number = old.number; site = new.site; submissions = old.submissions ++ submission ∷ [] }

-- with its queue from the server
abbrev pub member_of : Sender → List SiteFeed → Member
member_of s feeds = record { site = s.site; submissions = s.submissions; feeds = feeds }

-- each with its own
abbrev pub members_of : List Sender → List (List SiteFeed) → List Member
members_of [] queues = []
members_of (s ∷ senders) [] = []
members_of (s ∷ senders) (feeds ∷ queues) = member_of s feeds ∷ members_of senders queues

-- The base is the first list over these values, with nothing selected.
abbrev pub session_of : List Value → List Item → Serving → List Sender → Session
session_of values first server senders = record {
  base = page_of values first (between 0 0);
  committed = server.committed;
  hints = server.hints;
  members = members_of senders server.queues;
}

abbrev pub shared_of : List Value → List Item → Serving → List Sender → Shared
shared_of values first server senders = record { first = first; session = session_of values first server senders }
