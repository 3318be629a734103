use Rattle.std.proofs.Common.{◌≡◌, Some, None, refl, sym, ◌∙◌, subst}
use Rattle.model_site.specs.Site.{send}
use Rattle.model_site.specs.declared.site_fault.SendFault.TheVariants as fault
use Rattle.ve_editor.specs.Page.{replica_of}
use Rattle.ve_site.specs.Numbered.{Numbered, site_of}
use Rattle.ve_site.specs.Refusal.{send_refusal}
use Rattle.ve_site.proofs.SendLemmas.{flight_refused, nothing_refused, none_refused}
use Rattle.ve_site.proofs.site.Site.send_refusal.Goals as goal

pub returns-in-Some : goal.returns-in-Some
returns-in-Some c =
    let s = c.self.inside in
    subst (λ (v : Numbered). Some (fault.InFlight c.in-Some.entries) ≡ send_refusal (send v.site)) c.self.view_is
    (flight_refused (site_of (replica_of s.editor) s.untold s.seen s.sent.items s.history s.shared s.in_flight) c.in-Some.entries c.in-Some.is)

pub returns-then-is_empty : goal.returns-then-is_empty
returns-then-is_empty c =
    let s = c.self.inside in
    subst (λ (v : Numbered). Some fault.NothingToSend ≡ send_refusal (send v.site)) c.self.view_is
    (nothing_refused (site_of (replica_of s.editor) s.untold s.seen s.sent.items s.history s.shared s.in_flight) s.history.done c.done.result.now refl c.done.ensures c.in_default.is
    (sym c.is_empty.ensures ∙ c.if-is_empty.true))

pub returns : goal.returns
returns c =
    let s = c.self.inside in
    subst (λ (v : Numbered). None ≡ send_refusal (send v.site)) c.self.view_is
    (none_refused (site_of (replica_of s.editor) s.untold s.seen s.sent.items s.history s.shared s.in_flight) s.history.done c.done.result.now refl c.done.ensures c.in_default.is
    (sym c.is_empty.ensures ∙ c.if-is_empty.false))
