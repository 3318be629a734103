-- Each turn of a session is the model's event of its name.
use Rattle.std.specs.Prelude.{◌≡◌, ◌<◌, ℕ, Bool, List, [], ◌∷◌, Some, Ok}
use Rattle.model_change.specs.Transaction.{Transaction}
use Rattle.model_edit.specs.declared.selection.Selection.{Selection}
use Rattle.model_site.specs.Events.{happens, Perform, Redo, Revoke, Select, Send, Serve, Take, Tell, Undo}
use Rattle.model_site.specs.Session.{Session, serve_next, take_next}
use Rattle.model_site.specs.Site.{Site, edit, redo, revoke_entry, undo, with_entry, with_selection, with_told}
use Rattle.model_site.specs.declared.served.Served.{Served}
use Rattle.model_site.specs.declared.taken.Taken.{Taken}
use Rattle.ve_sites.specs.Shared.{Shared, member_at, site_at, sites, with_site_at}
use Rattle.ve_sites.specs.Turns.{HasSent}

-- a site after a transaction, and after several that were made together
abbrev pub EditHappens : Type 0
EditHappens = (s : Shared) (k : ℕ) (t : Transaction) (site : Site) → k < sites s → edit t (site_at s k) ≡ Ok site →
    happens s.session (Perform k (t ∷ [])) ≡ (with_site_at k site s).session

abbrev pub AttemptHappens : Type 0
AttemptHappens = (s : Shared) (k : ℕ) (ts : List Transaction) (site : Site) → k < sites s → site ≡ with_entry ts (site_at s k) →
    happens s.session (Perform k ts) ≡ (with_site_at k site s).session

abbrev pub SelectHappens : Type 0
SelectHappens = (s : Shared) (k : ℕ) (selection : Selection) → k < sites s →
    happens s.session (Select k selection) ≡ (with_site_at k (with_selection selection (site_at s k)) s).session

-- what changed is told
abbrev pub TellHappens : Type 0
TellHappens = (s : Shared) (k : ℕ) → k < sites s →
    happens s.session (Tell k) ≡ (with_site_at k (with_told (site_at s k)) s).session

-- undo, redo and revoke
abbrev pub UndoHappens : Type 0
UndoHappens = (s : Shared) (k : ℕ) (site : Site) → k < sites s → undo (site_at s k) ≡ Ok site →
    happens s.session (Undo k) ≡ (with_site_at k site s).session

abbrev pub RedoHappens : Type 0
RedoHappens = (s : Shared) (k : ℕ) (site : Site) → k < sites s → redo (site_at s k) ≡ Ok site →
    happens s.session (Redo k) ≡ (with_site_at k site s).session

abbrev pub RevokeHappens : Type 0
RevokeHappens = (s : Shared) (k i : ℕ) (live : Bool) (site : Site) → k < sites s → revoke_entry s.session.committed s.session.hints live i (site_at s k) ≡ Ok site →
    happens s.session (Revoke k i live) ≡ (with_site_at k site s).session

-- messages between it and the server
abbrev pub SendHappens : Type 0
SendHappens = (old new : Shared) (k count : ℕ) → k < sites old → HasSent k count old new → happens old.session (Send k) ≡ new.session

-- the session after a turn, or as it was where nothing waits
abbrev pub ServeHappens : Type 0
ServeHappens = (s : Shared) (k : ℕ) (new : Session) (answer : Served) → k < sites s →
    serve_next k (member_at s k) s.session ≡ Some (new, answer) → happens s.session (Serve k) ≡ new

abbrev pub TakeHappens : Type 0
TakeHappens = (s : Shared) (k : ℕ) (new : Session) (answer : Taken) → k < sites s →
    take_next k (member_at s k) s.session ≡ Some (new, answer) → happens s.session (Take k) ≡ new
