-- Undo, redo and sending at one site.
use Rattle.std.proofs.Common.{◌≡◌, List, [], ◌∷◌, Option, Some, None, Result, Ok, Err, codes, refl}
use Rattle.model_change.specs.Transaction.{Transaction}
use Rattle.model_site.specs.Causes.{NothingToUndo, AlreadyShared, NothingToRedo, InFlight, NothingToSend}
use Rattle.model_site.specs.Site.{Site, starting, with_entry, undo, redo, send, Submission}
use Rattle.model_site.specs.Take.{take_ack}
use Rattle.model_site.proofs.ExampleItems.{chars_, page, opened, inserts}

abbrev at_first : Site
at_first = starting (opened [])

abbrev insert_a : List Transaction
insert_a = inserts 1 (chars_ (codes "a")) 4 ∷ []

abbrev insert_b : List Transaction
insert_b = inserts 2 (chars_ (codes "b")) 5 ∷ []

abbrev with_ab : Site
with_ab = with_entry insert_b (with_entry insert_a at_first)

-- the site where the step was made, or as it was
abbrev or_same : {F : Type 0} → Site → Result Site F → Site
or_same s (Ok t) = t
or_same s (Err f) = s

abbrev pub undone : Site → Site
undone s = or_same s (undo s)

abbrev redone : Site → Site
redone s = or_same s (redo s)

nothing_yet : undo at_first ≡ Err NothingToUndo
nothing_yet = refl

last_goes : (undone with_ab).replica.items ≡ page (codes "a")
last_goes = refl

both_go : (undone (undone with_ab)).replica ≡ opened []
both_go = refl

-- what was undone last comes back first
first_comes : (redone (undone (undone with_ab))).replica.items ≡ page (codes "a")
first_comes = refl

as_before : record (redone (redone (undone (undone with_ab)))) { untold = with_ab.untold } ≡ with_ab
as_before = refl

nothing_undone : redo with_ab ≡ Err NothingToRedo
nothing_undone = refl

-- an edit forgets what was undone
forgotten : redo (with_entry insert_a (undone (undone with_ab))) ≡ Err NothingToRedo
forgotten = refl

abbrev sent_of : {F : Type 0} → Site → Result (Site × Submission) F → Site
sent_of s (Ok r) = r.0
sent_of s (Err f) = s

abbrev submission_of : {F : Type 0} → Result (Site × Submission) F → Option Submission
submission_of (Ok r) = Some r.1
submission_of (Err f) = None

abbrev sent : Site → Site
sent s = sent_of s (send s)

-- what is undone is not sent
submitted : submission_of (send (undone with_ab)) ≡ Some (record { base = 0; entries = insert_a ∷ []; hints = None ∷ [] })
submitted = refl

still_undone : (redone (sent (undone with_ab))).replica.items ≡ page (codes "ab")
still_undone = refl

shared : undo (sent with_ab) ≡ Err (AlreadyShared 2)
shared = refl

on_its_way : send (sent with_ab) ≡ Err (InFlight 2)
on_its_way = refl

nothing_unsent : send (take_ack (sent with_ab)) ≡ Err NothingToSend
nothing_unsent = refl

-- also after the answer it stays shared
shared_then : undo (take_ack (sent with_ab)) ≡ Err (AlreadyShared 2)
shared_then = refl
