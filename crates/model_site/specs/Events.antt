-- Events of a session, of one site or of the server, one after the other. A refused event changes
-- nothing.
use Rattle.std.specs.Prelude.{ℕ, Bool, List, [], ◌∷◌, ◌++◌, slice_get, Option, Some, None, Result, Ok, Err}
use Rattle.model_change.specs.Transaction.{Transaction}
use Rattle.model_edit.specs.declared.selection.Selection.{Selection}
use Rattle.model_site.specs.Site.{Site, with_entry, with_selection, with_told, undo, redo, send, revoke_entry, Submission}
use Rattle.model_site.specs.Session.{Member, Session, with_member, serve_next, take_next}

pub data Event : Type 0 where
  -- transactions performed as one entry: a change, a batch or typing
  Perform : (k : ℕ) (ts : List Transaction) → Event
  Select : (k : ℕ) (selection : Selection) → Event
  -- what changed is told
  Tell : (k : ℕ) → Event
  Undo : (k : ℕ) → Event
  Redo : (k : ℕ) → Event
  -- an entry of those that the site knows, taken back; where `live`, what took each other back does
  -- not stand in the way
  Revoke : (k i : ℕ) (live : Bool) → Event
  Send : (k : ℕ) → Event
  -- the server's turn at the submissions of the site at k
  Serve : (k : ℕ) → Event
  Take : (k : ℕ) → Event

abbrev pub with_site : ℕ → Member → Site → Session → Session
with_site k m site w = with_member k (record m { site = site }) w

-- where it is not refused
abbrev pub with_site_of : {F : Type 0} → ℕ → Member → Result Site F → Session → Session
with_site_of k m (Ok site) w = with_site k m site w
with_site_of k m (Err fault) w = w

abbrev pub with_sent : {F : Type 0} → ℕ → Member → Result (Site × Submission) F → Session → Session
with_sent k m (Ok r) w = with_member k (record { site = r.0; submissions = m.submissions ++ r.1 ∷ []; feeds = m.feeds }) w
with_sent k m (Err fault) w = w

-- the session after a turn, where there was one
abbrev pub after_turn : {A : Type 0} → Session → Option (Session × A) → Session
after_turn w None = w
after_turn w (Some r) = r.0

-- where there is such a site
abbrev pub at_member : Session → Option Member → (Member → Session) → Session
at_member w None f = w
at_member w (Some m) f = f m

abbrev pub happens : Session → Event → Session
happens w (Perform k ts) = at_member w (slice_get w.members k) (λ m. with_site k m (with_entry ts m.site) w)
happens w (Select k selection) = at_member w (slice_get w.members k) (λ m. with_site k m (with_selection selection m.site) w)
happens w (Tell k) = at_member w (slice_get w.members k) (λ m. with_site k m (with_told m.site) w)
happens w (Undo k) = at_member w (slice_get w.members k) (λ m. with_site_of k m (undo m.site) w)
happens w (Redo k) = at_member w (slice_get w.members k) (λ m. with_site_of k m (redo m.site) w)
happens w (Revoke k i live) = at_member w (slice_get w.members k) (λ m. with_site_of k m (revoke_entry w.committed w.hints live i m.site) w)
happens w (Send k) = at_member w (slice_get w.members k) (λ m. with_sent k m (send m.site) w)
happens w (Serve k) = at_member w (slice_get w.members k) (λ m. after_turn w (serve_next k m w))
happens w (Take k) = at_member w (slice_get w.members k) (λ m. after_turn w (take_next k m w))

-- the session after all of these
abbrev pub run : Session → List Event → Session
run w [] = w
run w (e ∷ es) = run (happens w e) es
