-- A fault of the crates below is the refusal of the request.
use Rattle.std.proofs.Common.{◌≡◌, ℕ, Bool, true, false, Ok, Err, IfErr, refl, sym, ap, subst, ◌∙◌}
use Rattle.std.specs.Prelude.{Result, nat_lt}
use Rattle.model_page.specs.PageItems.{Opened}
use Rattle.model_page.specs.OpenPage.{OpenFault}
use Rattle.model_site.specs.Live.{revocation}
use Rattle.model_site.specs.Site.{hinted_entries, redo, revoke_by, revoke_entry, send, undo}
use Rattle.model_site.specs.declared.site_fault.UndoFault.{UndoFault}
use Rattle.model_site.specs.declared.site_fault.UndoFault.TheVariants as undone
use Rattle.model_site.specs.declared.site_fault.RedoFault.{RedoFault}
use Rattle.model_site.specs.declared.site_fault.RedoFault.TheVariants as redone
use Rattle.model_site.specs.declared.site_fault.SendFault.{SendFault}
use Rattle.model_site.specs.declared.site_fault.SendFault.TheVariants as sent
use Rattle.model_world.specs.declared.command.Request.{Request}
use Rattle.model_world.specs.declared.command.Request.TheVariants as request
use Rattle.model_world.specs.declared.refusal.Refusal.TheVariants.{BadEntry}
use Rattle.model_world.specs.Answers.{Asked, Outcome, changed_or_no, refusal_outcome, sent_or_no, site_of}
use Rattle.model_world.specs.Refusals.{open_refusal, redo_refusal, refused_as, revoke_refusal, send_refusal, undo_refusal}
use Rattle.ve_changes.specs.declared.faults.ChangeStop.{ChangeStop}
use Rattle.ve_changes.specs.declared.faults.ChangeStop.TheVariants as stop
use Rattle.ve_changes.specs.Stops.{IsRefused}
use Rattle.ve_html_tree.specs.declared.fault.HtmlFault.{HtmlFault}
use Rattle.ve_html_tree.specs.declared.fault.HtmlFault.TheVariants as html
use Rattle.ve_peer_undo.specs.declared.fault.LiveFault.{LiveFault}
use Rattle.ve_peer_undo.specs.declared.fault.LiveFault.TheVariants as revoked
use Rattle.ve_peer_undo.specs.Refusal.{IsLiveRefusal}
use Rattle.ve_read.specs.Pages.{IsBad, IsRefusal, spelled_fault}
use Rattle.ve_read.specs.declared.fault.ReadFault.{ReadFault}
use Rattle.ve_read.specs.declared.fault.ReadFault.TheVariants as page
use Rattle.ve_site.specs.Refusal.{IsRedoRefusal, IsSendRefusal, IsUndoRefusal}
use Rattle.ve_changes.specs.HtmlStops.{html_stop}
use Rattle.ve_session.specs.Asked.{asker, outcome_completed, IsStopped, MayWant}
use Rattle.ve_session.specs.Stopped.{page_stop, redo_stop, revoke_stop, send_stop, undo_stop}
use Rattle.ve_sites.specs.Shared.{Shared, site_at}

-- ---- pages

html_stops : (fault : HtmlFault) (read : Result Opened OpenFault) → IsBad (spelled_fault fault) read → IsRefused (html_stop fault) (refused_as open_refusal read)
html_stops (html.Scan f) read e = ap (refused_as open_refusal) e
html_stops (html.Mismatched at) read e = ap (refused_as open_refusal) e
html_stops (html.Unclosed at) read e = ap (refused_as open_refusal) e
html_stops (html.Stray at) read e = ap (refused_as open_refusal) e
html_stops (html.TooDeep at) read e = ap (refused_as open_refusal) e
html_stops html.Memory read e = absurd e

pub page_stops : (fault : ReadFault) (read : Result Opened OpenFault) → IsRefusal fault read → IsRefused (page_stop fault) (refused_as open_refusal read)
page_stops (page.PageTooLong bytes) read e = ap (refused_as open_refusal) e
page_stops (page.Html f) read e = html_stops f read e
page_stops (page.TooDeep at) read e = ap (refused_as open_refusal) e
page_stops (page.TooManyMarks at) read e = ap (refused_as open_refusal) e
page_stops (page.TooManyItems count) read e = ap (refused_as open_refusal) e
page_stops page.StoreFull read e = ap (refused_as open_refusal) e
page_stops page.Memory read e = tt

-- ---- what a site takes back, makes again and sends

pub undo_stops : (why : UndoFault) (k : ℕ) (old : Shared) → IsUndoRefusal (undo (site_at old k)) why → IsStopped request.Undo k old (undo_stop why)
undo_stops undone.NothingToUndo k old e = λ page. ap (λ r. changed_or_no (asker page old k) (refused_as undo_refusal r)) e
undo_stops (undone.AlreadyShared count) k old e = λ page. ap (λ r. changed_or_no (asker page old k) (refused_as undo_refusal r)) e
undo_stops undone.Memory k old e = tt

pub redo_stops : (why : RedoFault) (k : ℕ) (old : Shared) → IsRedoRefusal (redo (site_at old k)) why → IsStopped request.Redo k old (redo_stop why)
redo_stops redone.NothingToRedo k old e = λ page. ap (λ r. changed_or_no (asker page old k) (refused_as redo_refusal r)) e
redo_stops redone.Memory k old e = tt

pub send_stops : (why : SendFault) (k : ℕ) (old : Shared) → IsSendRefusal (send (site_at old k)) why → IsStopped request.Send k old (send_stop why)
send_stops (sent.InFlight entries) k old e = λ page. ap (λ r. sent_or_no (asker page old k) (refused_as send_refusal r)) e
send_stops sent.NothingToSend k old e = λ page. ap (λ r. sent_or_no (asker page old k) (refused_as send_refusal r)) e
send_stops sent.Memory k old e = tt

-- ---- a committed entry that is taken back

revoked_by : Asked → ℕ → (live : Bool) → Bool → Outcome
revoked_by a i live seen = elim seen [
  | false ↦ refusal_outcome (BadEntry i (site_of a).seen)
  | true ↦ changed_or_no a (refused_as (revoke_refusal i) (revoke_entry a.session.committed a.session.hints live i (site_of a)))
]

pub revokes : (a : Asked) (i : ℕ) (live : Bool) → nat_lt i (site_of a).seen ≡ true →
    outcome_completed a (request.Revoke i live) ≡ changed_or_no a (refused_as (revoke_refusal i) (revoke_entry a.session.committed a.session.hints live i (site_of a)))
unfolding revoked_by
revokes a i live seen = ap (revoked_by a i live) seen

pub no_entry : (a : Asked) (i : ℕ) (live : Bool) → nat_lt i (site_of a).seen ≡ false → outcome_completed a (request.Revoke i live) ≡ refusal_outcome (BadEntry i (site_of a).seen)
unfolding revoked_by
no_entry a i live unseen = ap (revoked_by a i live) unseen

pub revoke_stops : (why : LiveFault) (k i : ℕ) (live : Bool) (old : Shared) → nat_lt i (site_at old k).seen ≡ true →
    IsLiveRefusal (revocation live (hinted_entries old.session.committed old.session.hints (site_at old k)) i) why → IsStopped (request.Revoke i live) k old (revoke_stop i why)
revoke_stops (revoked.TakenBack by) k i live old seen e = λ page.
    revokes (asker page old k) i live seen
    ∙ ap (λ r. changed_or_no (asker page old k) (refused_as (revoke_refusal i) (revoke_by i r (site_at old k)))) e
revoke_stops (revoked.Conflict later reversal) k i live old seen e = λ page.
    revokes (asker page old k) i live seen
    ∙ ap (λ r. changed_or_no (asker page old k) (refused_as (revoke_refusal i) (revoke_by i r (site_at old k)))) e
revoke_stops revoked.Memory k i live old seen e = tt

-- ---- want of memory: it is told of as itself alone

pub undo_memory : (X : Type 0) (why : UndoFault) → (why ≡ undone.Memory → X) → undo_stop why ≡ stop.Memory → X
undo_memory X undone.NothingToUndo h e = absurd (cc)
undo_memory X (undone.AlreadyShared count) h e = absurd (cc)
undo_memory X undone.Memory h e = h refl

pub redo_memory : (X : Type 0) (why : RedoFault) → (why ≡ redone.Memory → X) → redo_stop why ≡ stop.Memory → X
redo_memory X redone.NothingToRedo h e = absurd (cc)
redo_memory X redone.Memory h e = h refl

pub send_memory : (X : Type 0) (why : SendFault) → (why ≡ sent.Memory → X) → send_stop why ≡ stop.Memory → X
send_memory X (sent.InFlight entries) h e = absurd (cc)
send_memory X sent.NothingToSend h e = absurd (cc)
send_memory X sent.Memory h e = h refl

-- It may be wanting only if X holds.
abbrev WantsIf : {A : Type 0} → Result A ChangeStop → Type 0 → Type 0
WantsIf r X = IfErr r (λ why. why ≡ stop.Memory → X)

-- it holds
pub may_want : {A : Type 0} (r : Result A ChangeStop) (X : Type 0) → X → WantsIf r X
may_want (Ok x) X h = tt
may_want (Err why) X h = λ _. h

-- for the request that is asked
pub request_wants : {A : Type 0} (r : Result A ChangeStop) (k : ℕ) (s : Shared) (asked is : Request) → asked ≡ is → WantsIf r (MayWant is s k) → WantsIf r (MayWant asked s k)
request_wants r k s asked is e h = subst (λ (q : Request). WantsIf r (MayWant q s k)) (sym e) h

pub never : {A : Type 0} → false ≡ true → A
never e = absurd (let no : ⊥ = cc in no)
