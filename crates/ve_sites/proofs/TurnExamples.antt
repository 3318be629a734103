-- Two sites over a list of letters.
use Rattle.std.proofs.Common.{◌≡◌, ℕ, List, [], ◌∷◌, map, None, Some, true, false, codes, refl}
use Rattle.ve_base.specs.declared.value.Value.TheVariants.{White}
use Rattle.model_items.specs.declared.item.Item.{Item}
use Rattle.model_items.specs.declared.item.Item.TheVariants as item
use Rattle.model_items.specs.declared.plain_item.PlainItem.{PlainItem}
use Rattle.model_items.specs.declared.plain_item.PlainItem.TheVariants.{Char}
use Rattle.model_change.specs.Transaction.{Retain, Replace, Transaction}
use Rattle.model_edit.specs.Translate.{between}
use Rattle.model_site.specs.Entries.{Parcel}
use Rattle.model_site.specs.Replica.{Replica}
use Rattle.model_site.specs.Session.{Ack, Foreign, joining}
use Rattle.model_site.specs.Site.{Site, Submission, starting}
use Rattle.ve_server.specs.Serving.{Serving}
use Rattle.ve_sites.specs.IsShared.{AreNumbered}
use Rattle.ve_sites.specs.Senders.{HasGone, Sender, at_site, first_senders, members_of, session_of, shared_of}
use Rattle.ve_sites.specs.Shared.{Shared, member_at, site_at, sites, with_member_at, with_site_at}
use Rattle.model_site.specs.Made.{revoking}
use Rattle.ve_sites.specs.Turns.{HasSent, steps_of_turn}

abbrev letters : List ℕ → List PlainItem
letters = map (λ c. Char c [])

abbrev listed : List ℕ → List Item
listed = map (λ c. item.Char c None)

abbrev page : List ℕ → Replica
page text = record { items = letters text; store = []; selection = between 0 0 }

abbrev puts : (at letter after : ℕ) → Transaction
puts at letter after = Retain at ∷ Replace [] (letters (letter ∷ [])) ∷ Retain after ∷ []

-- it put b after a, and has not sent it
abbrev unsent_b : Site
unsent_b = record (starting (page (codes "abd"))) { unsent = record { txs = puts 1 98 1 ∷ []; store_before = 0; store_after = 0; takes_back = None } ∷ [] }

-- it put c before d and sent that
abbrev sent_c : Site
sent_c = record (starting (page (codes "acd"))) {
  sent = record { txs = puts 1 99 1 ∷ []; store_before = 0; store_after = 0; takes_back = None } ∷ [];
  shared = 1;
  in_flight = Some 1;
}

abbrev submitted_c : Submission
submitted_c = record { base = 0; entries = (puts 1 99 1 ∷ []) ∷ []; hints = None ∷ [] }

abbrev senders : List Sender
senders = record { number = 0; site = unsent_b; submissions = [] } ∷ record { number = 1; site = sent_c; submissions = submitted_c ∷ [] } ∷ []

abbrev committed_x : Serving
committed_x = record {
  committed = (puts 2 120 0 ∷ []) ∷ [];
  hints = Some 3 ∷ [];
  queues = (Foreign ((puts 2 120 0 ∷ []) ∷ []) ∷ []) ∷ (Ack 1 ∷ Ack 0 ∷ []) ∷ [];
}

abbrev shared : Shared
shared = shared_of [] (listed (codes "ad")) committed_x senders

-- ---- what the fields mean

by_fields : session_of [] (listed (codes "ad")) committed_x senders ≡ record {
  base = page (codes "ad");
  committed = committed_x.committed;
  hints = Some 3 ∷ [];
  members = record { site = unsent_b; submissions = []; feeds = Foreign ((puts 2 120 0 ∷ []) ∷ []) ∷ [] }
      ∷ record { site = sent_c; submissions = submitted_c ∷ []; feeds = Ack 1 ∷ Ack 0 ∷ [] }
      ∷ [];
}
by_fields = refl

values_are_the_bases : (session_of (White (codes " ") ∷ []) [] committed_x senders).base.store ≡ White (codes " ") ∷ []
values_are_the_bases = refl

each_has_a_queue : members_of senders (committed_x.queues) ≡ shared.session.members
each_has_a_queue = refl

numbers_are_places : AreNumbered 0 senders
numbers_are_places = (refl, (refl, tt))

not_from_one : AreNumbered 1 senders → ⊥
not_from_one h = let e = h.0 in cc

two_begin : first_senders 3 2 unsent_b ≡ record { number = 3; site = unsent_b; submissions = [] } ∷ record { number = 4; site = unsent_b; submissions = [] } ∷ []
two_begin = refl

-- ---- positions

two_sites : sites shared ≡ 2
two_sites = refl

the_second : member_at shared 1 ≡ record { site = sent_c; submissions = submitted_c ∷ []; feeds = Ack 1 ∷ Ack 0 ∷ [] }
the_second = refl

past_the_last : member_at shared 2 ≡ joining (page (codes "ad"))
past_the_last = refl

its_site : site_at shared 0 ≡ unsent_b
its_site = refl

-- its queues stay, and so does the other one
only_the_site : with_site_at 1 unsent_b shared ≡ shared_of [] (listed (codes "ad")) committed_x
    (record { number = 0; site = unsent_b; submissions = [] } ∷ record { number = 1; site = unsent_b; submissions = submitted_c ∷ [] } ∷ [])
only_the_site = refl

with_its_queues : (with_member_at 0 (member_at shared 1) shared).session.members ≡ member_at shared 1 ∷ member_at shared 1 ∷ []
with_its_queues = refl

number_stays : at_site unsent_b (record { number = 1; site = sent_c; submissions = submitted_c ∷ [] }) ≡ record { number = 1; site = unsent_b; submissions = submitted_c ∷ [] }
number_stays = refl

-- ---- sending

abbrev sent_b : Site
sent_b = record (starting (page (codes "abd"))) { sent = unsent_b.unsent; shared = 1; in_flight = Some 1 }

abbrev submitted_b : Submission
submitted_b = record { base = 0; entries = (puts 1 98 1 ∷ []) ∷ []; hints = None ∷ [] }

one_is_sent : HasSent 0 1 shared (with_member_at 0 (record { site = sent_b; submissions = submitted_b ∷ []; feeds = (member_at shared 0).feeds }) shared)
one_is_sent = record { submission = submitted_b; sent = refl; counted = refl; same = refl }

one_has_gone : HasGone 1 (record { number = 7; site = unsent_b; submissions = submitted_c ∷ [] }) (record { number = 7; site = sent_b; submissions = submitted_c ∷ submitted_b ∷ [] })
one_has_gone = record { submission = submitted_b; sent = refl; counted = refl; same = refl }

-- ---- steps

an_answer_takes_none : steps_of_turn (member_at shared 1) ≡ 0
an_answer_takes_none = refl

no_feed_takes_none : steps_of_turn (joining (page (codes "ad"))) ≡ 0
no_feed_takes_none = refl

-- x stood last, and comes back out behind the letter that was put in since
takes_x_back : revoking ((puts 2 120 0 ∷ []) ∷ []) (None ∷ []) false 0
    (record (starting (page (codes "abdx"))) { seen = 1; unsent = record { txs = puts 1 98 2 ∷ []; store_before = 0; store_after = 0; takes_back = None } ∷ [] })
    ≡ (Retain 3 ∷ Replace (letters (codes "x")) [] ∷ []) ∷ []
takes_x_back = refl

-- a letter was put beside it
in_conflict_takes_nothing : revoking ((puts 2 120 0 ∷ []) ∷ []) (None ∷ []) false 0
    (record (starting (page (codes "ad"))) { seen = 1; unsent = record { txs = (Retain 2 ∷ Replace (letters (codes "x")) [] ∷ []) ∷ []; store_before = 0; store_after = 0; takes_back = None } ∷ [] })
    ≡ []
in_conflict_takes_nothing = refl

-- someone took x out, and then that was taken back: x still comes out, unless all of it counts
abbrev puts_x : Transaction
puts_x = Retain 2 ∷ Replace [] (letters (codes "x")) ∷ []

abbrev takes_x : Transaction
takes_x = Retain 2 ∷ Replace (letters (codes "x")) [] ∷ []

abbrev took_x_and_back : List Parcel
took_x_and_back = (puts_x ∷ []) ∷ (takes_x ∷ []) ∷ (puts_x ∷ []) ∷ []

abbrev seen_all : Site
seen_all = record (starting (page (codes "adx"))) { seen = 3 }

what_took_each_other_back_leaves_nothing : revoking took_x_and_back (None ∷ None ∷ Some 1 ∷ []) true 0 seen_all ≡ takes_x ∷ []
what_took_each_other_back_leaves_nothing = refl

all_of_it_counts : revoking took_x_and_back (None ∷ None ∷ Some 1 ∷ []) false 0 seen_all ≡ []
all_of_it_counts = refl

-- the hint is of another entry
no_hint_leaves_it : revoking took_x_and_back (None ∷ None ∷ Some 0 ∷ []) true 0 seen_all ≡ []
no_hint_leaves_it = refl
