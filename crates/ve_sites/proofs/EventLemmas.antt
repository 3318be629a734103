-- Turns are events.
use Rattle.std.proofs.Common.{◌≡◌, ◌<◌, ℕ, [], ◌∷◌, Option, Some, None, Ok, sym, ap, ◌∙◌, slice_get}
use Rattle.std.proofs.lemmas.Option.{slice_get-get_or}
use Rattle.model_change.specs.Transaction.{Transaction}
use Rattle.model_site.specs.Causes.{EditCause}
use Rattle.model_site.specs.Events.{at_member, with_site, with_site_of, with_sent, after_turn}
use Rattle.model_site.specs.Refused.{edit_cause}
use Rattle.model_site.specs.Session.{Member, Session, joining}
use Rattle.model_site.specs.Site.{Site, edit_unless, with_entry}
use Rattle.ve_sites.specs.Laws.{AttemptHappens, EditHappens, RedoHappens, RevokeHappens, SelectHappens, SendHappens, ServeHappens, TakeHappens, TellHappens, UndoHappens}
use Rattle.ve_sites.specs.Shared.{Shared, member_at, site_at, sites}

-- there is a site at k, so what is said of it holds
at_the_site : (s : Shared) (k : ℕ) (f : Member → Session) → k < sites s → at_member s.session (slice_get s.session.members k) f ≡ f (member_at s k)
at_the_site s k f among = ap (λ o. at_member s.session o f) (slice_get-get_or s.session.members k (joining s.session.base) among)

-- an edit that isn't refused performs it
edit_performs : (cause : Option EditCause) (t : Transaction) (old new : Site) → edit_unless cause t old ≡ Ok new → with_entry (t ∷ []) old ≡ new
edit_performs None t old new h = cc
edit_performs (Some fault) t old new h = cc

pub edit_happens : EditHappens
edit_happens s k t site among h =
    at_the_site s k _ among ∙ ap (λ v. with_site k (member_at s k) v s.session) (edit_performs (edit_cause t (site_at s k).replica) t (site_at s k) site h)

pub attempt_happens : AttemptHappens
attempt_happens s k ts site among is = at_the_site s k _ among ∙ ap (λ v. with_site k (member_at s k) v s.session) (sym is)

pub select_happens : SelectHappens
select_happens s k selection among = at_the_site s k _ among

pub tell_happens : TellHappens
tell_happens s k among = at_the_site s k _ among

pub undo_happens : UndoHappens
undo_happens s k site among h = at_the_site s k _ among ∙ ap (λ r. with_site_of k (member_at s k) r s.session) h

pub redo_happens : RedoHappens
redo_happens s k site among h = at_the_site s k _ among ∙ ap (λ r. with_site_of k (member_at s k) r s.session) h

pub revoke_happens : RevokeHappens
revoke_happens s k i live site among h = at_the_site s k _ among ∙ ap (λ r. with_site_of k (member_at s k) r s.session) h

pub send_happens : SendHappens
send_happens old new k count among gone =
    at_the_site old k _ among ∙ ap (λ r. with_sent k (member_at old k) r old.session) gone.sent ∙ ap (λ v. v.session) (sym gone.same)

pub serve_happens : ServeHappens
serve_happens s k new answer among h = at_the_site s k _ among ∙ ap (λ r. after_turn s.session r) h

pub take_happens : TakeHappens
take_happens s k new answer among h = at_the_site s k _ among ∙ ap (λ r. after_turn s.session r) h
