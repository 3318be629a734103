use Rattle.std.proofs.Common.{refl, sym, ap, ◌∙◌, subst}
use Rattle.model_site.specs.Untold.{Untold}
use Rattle.ve_editor.specs.Page.{replica_of}
use Rattle.ve_site.specs.Dropped.{only_done}
use Rattle.ve_site.specs.Numbered.{Numbered, site_of, IsSite}
use Rattle.ve_site.specs.Underway.{with_none_undone}
use Rattle.ve_site.proofs.TakeLemmas.{copied_is, copied_same}
use Rattle.ve_site.proofs.taking.Rest.of.Goals as goal

pub returns-clause-site : goal.returns-clause-site
returns-clause-site c =
    let s = c.site.inside in
    sym (ap (λ (v : Numbered). site_of v.site.replica c.in_ok-untold.untold s.seen c.into_vec.result.items (only_done c.in_ok-unsent.unsent) s.shared s.in_flight) c.site.view_is)
    ∙ ap (λ (u : Untold). site_of (replica_of s.editor) u s.seen c.into_vec.result.items (only_done c.in_ok-unsent.unsent) s.shared s.in_flight) c.in_ok-untold.ensures
    ∙ copied_same (replica_of s.editor) s.untold s.seen s.sent.items s.history s.shared s.in_flight c.site.invariant (replica_of s.editor) c.into_vec.result.items (only_done c.in_ok-unsent.unsent)
    refl (c.into_vec.ensures ∙ (c.in_ok-sent.ensures ∙ c.as_slice.ensures.value)) (c.in_ok-unsent.ensures ∙ c.done.ensures) refl
    ∙ ap (λ (v : Numbered). with_none_undone v.site) c.site.view_is

pub returns-clause-is : goal.returns-clause-is
returns-clause-is c =
    let s = c.site.inside in
    subst (λ (v : Numbered). IsSite v.site.replica s.seen c.into_vec.result.items (only_done c.in_ok-unsent.unsent) s.shared s.in_flight) c.site.view_is
    (copied_is (replica_of s.editor) s.untold s.seen s.sent.items s.history s.shared s.in_flight c.site.invariant (replica_of s.editor) c.into_vec.result.items (only_done c.in_ok-unsent.unsent)
    refl (c.into_vec.ensures ∙ (c.in_ok-sent.ensures ∙ c.as_slice.ensures.value)) (c.in_ok-unsent.ensures ∙ c.done.ensures) refl)
