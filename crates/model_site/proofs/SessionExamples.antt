-- Two sites and the server.
use Rattle.std.proofs.Common.{◌≡◌, ℕ, true, false, List, [], ◌∷◌, length, map, slice_get, Option, Some, None, option_map, Result, Ok, Err, codes, refl}
use Rattle.ve_base.specs.declared.value.Value.{Value}
use Rattle.ve_base.specs.declared.value.Value.TheVariants as value
use Rattle.model_items.specs.declared.plain_item.PlainItem.{PlainItem}
use Rattle.model_site.specs.declared.served.Served.{Served}
use Rattle.model_site.specs.declared.taken.Taken.{Taken}
use Rattle.model_site.specs.declared.taken.Taken.TheVariants as taken
use Rattle.model_site.specs.Causes.{SendCause, InFlight}
use Rattle.model_site.specs.Site.{Site, send, Submission}
use Rattle.model_site.specs.Session.{Member, Session, started, serve_next, take_next}
use Rattle.model_site.specs.Events.{Perform, Undo, Revoke, Send, Serve, Take, run}
use Rattle.model_site.proofs.ExampleItems.{bold, italic, marked, chars_, page, page_of, opened, inserts, removes}

abbrev lists : Session → List (List PlainItem)
lists w = map (λ (m : Member). m.site.replica.items) w.members

abbrev result_of : {A : Type 0} → Option (Session × A) → Option A
result_of None = None
result_of (Some r) = Some r.1

abbrev served_at : ℕ → Session → Option Member → Option Served
served_at k w None = None
served_at k w (Some m) = result_of (serve_next k m w)

abbrev taken_at : ℕ → Session → Option Member → Option Taken
taken_at k w None = None
taken_at k w (Some m) = result_of (take_next k m w)

abbrev serves : Session → ℕ → Option Served
serves w k = served_at k w (slice_get w.members k)

abbrev takes : Session → ℕ → Option Taken
takes w k = taken_at k w (slice_get w.members k)

-- at one position: what is committed first stands first
abbrev both_insert : Session
both_insert = run (started (opened []) 2)
    (Perform 0 (inserts 1 (chars_ (codes "A")) 4 ∷ []) ∷ Perform 1 (inserts 1 (chars_ (codes "B")) 4 ∷ []) ∷ Send 0 ∷ Send 1 ∷ [])

both_served : serves (run both_insert (Serve 0 ∷ [])) 1 ≡ Some (record { accepted = 1; total = 1; clash = None })
both_served = refl

queue_is_empty : serves (run both_insert (Serve 0 ∷ Serve 1 ∷ [])) 1 ≡ None
queue_is_empty = refl

order_of_feeds : takes (run both_insert (Serve 0 ∷ Serve 1 ∷ [])) 1 ≡ Some (taken.Foreign 1 0)
order_of_feeds = refl

order_of_acks : takes (run both_insert (Serve 0 ∷ Serve 1 ∷ [])) 0 ≡ Some (taken.Acked 1)
order_of_acks = refl

one_list : lists (run both_insert (Serve 0 ∷ Serve 1 ∷ Take 0 ∷ Take 0 ∷ Take 1 ∷ Take 1 ∷ [])) ≡ page (codes "AB") ∷ page (codes "AB") ∷ []
one_list = refl

-- Of <p>abcd</p> site 0 removes b and c. Site 1 inserts X after them, Y between them, and Z, sends
-- these, and inserts W.
abbrev in_conflict : Session
in_conflict = run (started (opened (codes "abcd")) 2)
    (Perform 0 (removes 2 (chars_ (codes "bc")) 8 ∷ [])
    ∷ Send 0
    ∷ Serve 0
    ∷ Perform 1 (inserts 5 (chars_ (codes "X")) 8 ∷ [])
    ∷ Perform 1 (inserts 3 (chars_ (codes "Y")) 9 ∷ [])
    ∷ Perform 1 (inserts 7 (chars_ (codes "Z")) 10 ∷ [])
    ∷ Send 1
    ∷ Perform 1 (inserts 1 (chars_ (codes "W")) 11 ∷ [])
    ∷ [])

-- Y is in conflict, so Z is refused with it
one_of_three : serves in_conflict 1 ≡ Some (record { accepted = 1; total = 3; clash = Some (record { committed = (2, 4); submitted = (3, 3) }) })
one_of_three = refl

one_is_committed : length (run in_conflict (Serve 1 ∷ [])).committed ≡ 2
one_is_committed = refl

-- and at the site Y, Z and W, which was not sent, are dropped
three_dropped : takes (run in_conflict (Serve 1 ∷ [])) 1 ≡ Some (taken.Foreign 1 3)
three_dropped = refl

one_left : takes (run in_conflict (Serve 1 ∷ Take 1 ∷ [])) 1 ≡ Some (taken.Acked 1)
one_left = refl

again_one_list : lists (run in_conflict (Serve 1 ∷ Take 1 ∷ Take 1 ∷ Take 0 ∷ Take 0 ∷ [])) ≡ page (codes "adX") ∷ page (codes "adX") ∷ []
again_one_list = refl

-- site 0 takes its committed entry back under site 1's
revoked : lists (run both_insert (Serve 0 ∷ Serve 1 ∷ Take 0 ∷ Take 0 ∷ Revoke 0 0 false ∷ [])) ≡ page (codes "B") ∷ page (codes "B") ∷ []
revoked = refl

-- what a send answers: the base and the number of entries, or why not
abbrev sent_as : Result (Site × Submission) SendCause → Result (ℕ × ℕ) SendCause
sent_as (Ok r) = Ok (r.1.base, length r.1.entries)
sent_as (Err fault) = Err fault

abbrev sends : Session → ℕ → Option (Result (ℕ × ℕ) SendCause)
sends w k = option_map (λ (m : Member). sent_as (send m.site)) (slice_get w.members k)

-- the number submitted, though two of the three were dropped; and nothing is unsent
still_on_its_way : sends (run in_conflict (Serve 1 ∷ Take 1 ∷ [])) 1 ≡ Some (Err (InFlight 3))
still_on_its_way = refl

-- the next submission is made on what was committed since
next_base : sends (run in_conflict (Serve 1 ∷ Take 1 ∷ Take 1 ∷ Perform 1 (inserts 1 (chars_ (codes "V")) 7 ∷ []) ∷ [])) 1 ≡ Some (Ok (2, 1))
next_base = refl

abbrev stores : Session → List (List Value)
stores w = map (λ (m : Member). m.site.replica.store) w.members

-- site 0 inserts an italic A, and site 1 a bold B
abbrev two_marks : Session
two_marks = run (started (opened []) 2)
    (Perform 0 (inserts 1 (marked italic (codes "A")) 4 ∷ []) ∷ Send 0 ∷ Serve 0 ∷ Perform 1 (inserts 1 (marked bold (codes "B")) 4 ∷ []) ∷ Take 1 ∷ [])

both_values : stores two_marks ≡ (value.Marks italic ∷ []) ∷ (value.Marks bold ∷ value.Marks italic ∷ []) ∷ []
both_values = refl

-- after the take the store is not cut, since A cites its last value
undone_after : lists (run two_marks (Undo 1 ∷ [])) ≡ page_of (marked italic (codes "A")) ∷ page_of (marked italic (codes "A")) ∷ []
undone_after = refl

values_stay : stores (run two_marks (Undo 1 ∷ [])) ≡ (value.Marks italic ∷ []) ∷ (value.Marks bold ∷ value.Marks italic ∷ []) ∷ []
values_stay = refl

-- Site 0 inserts A and then B behind it, shares both, and takes back B and then A. B and what takes it
-- back don't stand in the way of A, where what counts is asked.
abbrev two_shared : Session
two_shared = run (started (opened []) 2)
    (Perform 0 (inserts 1 (chars_ (codes "A")) 4 ∷ [])
    ∷ Perform 0 (inserts 2 (chars_ (codes "B")) 5 ∷ [])
    ∷ Send 0
    ∷ Serve 0
    ∷ Take 0
    ∷ Revoke 0 1 true
    ∷ Revoke 0 0 true
    ∷ [])

both_taken_back : lists two_shared ≡ page [] ∷ page [] ∷ []
both_taken_back = refl
