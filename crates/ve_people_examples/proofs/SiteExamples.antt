-- Worked turns of sites and of their server, beside those of model_site: each tells a call from one
-- that is wrong in the way that is said above it.
use Rattle.std.proofs.Common.{◌≡◌, ℕ, ◌-◌, List, [], ◌∷◌, ◌++◌, length, map, slice_get, Option, Some, None, option_map, true, false, Result, Ok, Err, codes, refl}
use Rattle.ve_kinds.specs.declared.kind.Kind.TheVariants.{P}
use Rattle.model_items.specs.declared.plain_item.PlainItem.{PlainItem}
use Rattle.model_items.proofs.ExampleItems.{text, node, internal}
use Rattle.model_change.specs.Transaction.{Retain, Replace, Transaction}
use Rattle.model_edit.specs.Translate.{between}
use Rattle.model_edit.specs.declared.selection.Selection.{Selection}
use Rattle.model_site.specs.Causes.{SendCause}
use Rattle.model_site.specs.Site.{Site, send, Submission}
use Rattle.model_site.specs.Session.{Member, Session, started, feed_for}
use Rattle.model_site.specs.Events.{Perform, Select, Revoke, Send, Serve, Take, run}
use Rattle.model_site.specs.Replica.{Replica, opened_with}

-- a page of one paragraph
abbrev page : List ℕ → List PlainItem
page cs = node P (text cs) ++ internal

abbrev opened : List ℕ → Replica
opened cs = opened_with (page cs)

-- characters put in at a position of a list of so many items
abbrev inserts : ℕ → List ℕ → ℕ → Transaction
inserts at cs long = Retain at ∷ Replace [] (text cs) ∷ Retain (long - at) ∷ []

abbrev lists : Session → List (List PlainItem)
lists w = map (λ (m : Member). m.site.replica.items) w.members

abbrev pending_counts : Session → List (ℕ × ℕ)
pending_counts w = map (λ (m : Member). (length m.site.sent, length m.site.unsent)) w.members

abbrev selections : Session → List Selection
selections w = map (λ (m : Member). m.site.replica.selection) w.members

abbrev entries_sent : Result (Site × Submission) SendCause → Option ℕ
entries_sent (Ok r) = Some (length r.1.entries)
entries_sent (Err fault) = None

abbrev sends : Session → ℕ → Option (Option ℕ)
sends w k = option_map (λ (m : Member). entries_sent (send m.site)) (slice_get w.members k)

-- ---- takes

-- a take after which all entries that are kept count as sent
kept_entries_stay_unsent :
    pending_counts (run (started (opened []) 2)
    (Perform 1 (inserts 1 (codes "B") 4 ∷ []) ∷ Send 1 ∷ Perform 1 (inserts 2 (codes "C") 5 ∷ [])
    ∷ Perform 0 (inserts 1 (codes "A") 4 ∷ []) ∷ Send 0 ∷ Serve 0 ∷ Take 1 ∷ []))
    ≡ (1, 0) ∷ (1, 1) ∷ []
kept_entries_stay_unsent = refl

-- a site that counts as untouched while one entry is pending
one_entry_is_pending : pending_counts (run (started (opened []) 1) (Perform 0 (inserts 1 (codes "A") 4 ∷ []) ∷ [])) ≡ (0, 1) ∷ []
one_entry_is_pending = refl

-- ---- sends

-- a send that answers how many submissions wait
a_send_counts_entries :
    sends (run (started (opened []) 1) (Perform 0 (inserts 1 (codes "A") 4 ∷ []) ∷ Perform 0 (inserts 2 (codes "B") 5 ∷ []) ∷ [])) 0
    ≡ Some (Some 2)
a_send_counts_entries = refl

-- ---- revokes

-- a reversal of the last entry, or of one before that which is asked for
the_entry_that_is_named_is_taken_back :
    lists (run (started (opened []) 1)
    (Perform 0 (inserts 1 (codes "A") 4 ∷ []) ∷ Perform 0 (inserts 2 (codes "B") 5 ∷ []) ∷ Perform 0 (inserts 3 (codes "C") 6 ∷ [])
    ∷ Send 0 ∷ Serve 0 ∷ Take 0 ∷ Revoke 0 1 false ∷ []))
    ≡ page (codes "AC") ∷ []
the_entry_that_is_named_is_taken_back = refl

-- a reversal that isn't joined over what is pending
pending_entries_are_later_ones :
    lists (run (started (opened []) 2)
    (Perform 0 (inserts 1 (codes "A") 4 ∷ []) ∷ Send 0 ∷ Serve 0 ∷ Take 1 ∷ Perform 1 (inserts 1 (codes "C") 5 ∷ []) ∷ Revoke 1 0 false ∷ []))
    ≡ page (codes "A") ∷ page (codes "C") ∷ []
pending_entries_are_later_ones = refl

-- a revoke whose entry names nothing: where that is taken back, its own could be taken back again
a_revoke_names_its_entry :
    lists (run (started (opened []) 1)
    (Perform 0 (inserts 1 (codes "A") 4 ∷ []) ∷ Perform 0 (inserts 2 (codes "B") 5 ∷ []) ∷ Send 0 ∷ Serve 0 ∷ Take 0
    ∷ Revoke 0 1 false ∷ Send 0 ∷ Serve 0 ∷ Take 0 ∷ Revoke 0 2 true ∷ Revoke 0 1 true ∷ []))
    ≡ page (codes "AB") ∷ []
a_revoke_names_its_entry = refl

-- ---- selections and edits of the site that is named

selections_are_kept : selections (run (started (opened (codes "ab")) 2) (Select 1 (between 1 2) ∷ [])) ≡ between 0 0 ∷ between 1 2 ∷ []
selections_are_kept = refl

edits_are_of_one_site : lists (run (started (opened []) 2) (Perform 1 (inserts 1 (codes "B") 4 ∷ []) ∷ [])) ≡ page [] ∷ page (codes "B") ∷ []
edits_are_of_one_site = refl

-- ---- feeds

-- a feed without entries
nothing_is_fed_where_nothing_is_accepted : feed_for 0 1 [] ≡ []
nothing_is_fed_where_nothing_is_accepted = refl
