-- A server of three sites.
use Rattle.std.proofs.Common.{◌≡◌, ◌+◌, ℕ, List, [], ◌∷◌, length, Some, None, refl}
use Rattle.model_items.specs.declared.plain_item.PlainItem.{PlainItem}
use Rattle.model_items.specs.declared.plain_item.PlainItem.TheVariants.{Char}
use Rattle.model_change.specs.Transaction.{Retain, Replace}
use Rattle.model_site.specs.Entries.{Parcel}
use Rattle.model_site.specs.Site.{Site, Submission}
use Rattle.model_site.specs.Session.{Foreign, Ack, accepted_of, served_as}
use Rattle.ve_server.specs.Laws.{site_with}
use Rattle.ve_server.specs.Serving.{Serving, all_queued, after_serving, first_of, first_feed}
use Rattle.ve_server.specs.Waiting.{Waiting, feeds_in, released, all_staged}

-- entries on lists of letters: one letter put in, or letters taken out, between so many
abbrev inserts : (at letter after : ℕ) → Parcel
inserts at letter after = (Retain at ∷ Replace [] (Char letter [] ∷ []) ∷ Retain after ∷ []) ∷ []

abbrev removes : (at : ℕ) → List PlainItem → (after : ℕ) → Parcel
removes at items after = (Retain at ∷ Replace items [] ∷ Retain after ∷ []) ∷ []

abbrev first : Parcel
first = inserts 2 65 3

-- site 0 put a letter after two of five, which site 2 has not taken
abbrev begun : Serving
begun = record { committed = first ∷ []; hints = None ∷ []; queues = [] ∷ [] ∷ (Foreign (first ∷ []) ∷ []) ∷ [] }

-- On the five letters site 1 puts one after the fourth, takes the second and the third out, and
-- puts one at the end.
abbrev three : Submission
three = record { base = 0; entries = inserts 4 66 1 ∷ removes 1 (Char 98 [] ∷ Char 99 [] ∷ []) 3 ∷ inserts 4 67 0 ∷ []; hints = Some 0 ∷ None ∷ None ∷ [] }

-- The first goes after the committed letter. The second takes out what stands round that, so it and
-- the third are refused.
one_of_three : after_serving 1 three begun ≡ record {
  committed = first ∷ inserts 5 66 1 ∷ [];
  hints = None ∷ Some 0 ∷ [];
  queues = (Foreign (inserts 5 66 1 ∷ []) ∷ []) ∷ (Ack 1 ∷ []) ∷ (Foreign (first ∷ []) ∷ Foreign (inserts 5 66 1 ∷ []) ∷ []) ∷ [];
}
one_of_three = refl

told : served_as (accepted_of begun.committed three) three ≡ record { accepted = 1; total = 3; clash = Some (record { committed = (2, 2); submitted = (1, 3) }) }
told = refl

-- made on the list with the committed letter, it conflicts with nothing
later : after_serving 1 (record { base = 1; entries = removes 1 (Char 98 [] ∷ Char 65 [] ∷ []) 3 ∷ []; hints = None ∷ [] }) begun
    ≡ record {
      committed = first ∷ removes 1 (Char 98 [] ∷ Char 65 [] ∷ []) 3 ∷ [];
      hints = None ∷ None ∷ [];
      queues = (Foreign (removes 1 (Char 98 [] ∷ Char 65 [] ∷ []) 3 ∷ []) ∷ [])
          ∷ (Ack 1 ∷ [])
          ∷ (Foreign (first ∷ []) ∷ Foreign (removes 1 (Char 98 [] ∷ Char 65 [] ∷ []) 3 ∷ []) ∷ [])
          ∷ [];
    }
later = refl

-- where none is accepted, only the sender is told
none_accepted : after_serving 2 (record { base = 0; entries = removes 1 (Char 98 [] ∷ Char 99 [] ∷ []) 2 ∷ []; hints = None ∷ [] }) begun
    ≡ record { committed = first ∷ []; hints = None ∷ []; queues = [] ∷ [] ∷ (Foreign (first ∷ []) ∷ Ack 0 ∷ []) ∷ [] }
none_accepted = refl

sender_is_told : all_queued 0 0 (first ∷ []) ([] ∷ (Ack 3 ∷ []) ∷ []) ≡ (Ack 1 ∷ []) ∷ (Ack 3 ∷ Foreign (first ∷ []) ∷ []) ∷ []
sender_is_told = refl

-- ---- feeding

first_in_first_out : first_of (Ack 1 ∷ Ack 2 ∷ []) ≡ (Some (Ack 1), Ack 2 ∷ [])
first_in_first_out = refl

fed_once : first_feed 2 begun ≡ (Some (Foreign (first ∷ [])), record { committed = first ∷ []; hints = None ∷ []; queues = [] ∷ [] ∷ [] ∷ [] })
fed_once = refl

nothing_to_feed : first_feed 0 begun ≡ (None, begun)
nothing_to_feed = refl

-- a site by the feed that is handed out: as it was, where there is none, and with what it sent
-- committed, where that was answered
no_feed : (s : Site) → site_with (first_feed 0 begun).0 s ≡ s
no_feed s = refl

answered : (s : Site) → site_with (Some (Ack 1)) s ≡ record s { seen = s.seen + length s.sent; sent = []; undone = []; undone_hints = []; in_flight = None }
answered s = refl

-- ---- staging

abbrev two_queues : List Waiting
two_queues = record { feeds = Ack 1 ∷ []; staged = Ack 7 ∷ [] } ∷ record { feeds = []; staged = [] } ∷ []

-- what was staged before is gone
staged_anew : all_staged 1 0 (first ∷ []) two_queues ≡ record { feeds = Ack 1 ∷ []; staged = Foreign (first ∷ []) ∷ [] } ∷ record { feeds = []; staged = Ack 1 ∷ [] } ∷ []
staged_anew = refl

nothing_for_the_other : all_staged 1 0 [] two_queues ≡ record { feeds = Ack 1 ∷ []; staged = [] } ∷ record { feeds = []; staged = Ack 0 ∷ [] } ∷ []
nothing_for_the_other = refl

staged_is_not_fed : feeds_in two_queues ≡ (Ack 1 ∷ []) ∷ [] ∷ []
staged_is_not_fed = refl

released_comes_last : released (record { feeds = Ack 1 ∷ []; staged = Ack 7 ∷ [] }) ≡ record { feeds = Ack 1 ∷ Ack 7 ∷ []; staged = [] }
released_comes_last = refl
