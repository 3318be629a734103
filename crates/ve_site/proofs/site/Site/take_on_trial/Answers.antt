use Rattle.std.proofs.Common.{◌≡◌, ℕ, length, map, refl, sym, ap, ◌∙◌, subst}
use Rattle.std.proofs.lemmas.Result.{IfErr-at_err, IfOk-at_ok}
use Rattle.model_site.specs.Replica.{Replica}
use Rattle.model_site.specs.Site.{Site, pending}
use Rattle.model_site.specs.Take.{take_foreign}
use Rattle.ve_tx.specs.ByValue.{parcel_by_value}
use Rattle.ve_editor.specs.Page.{LinkedPage, replica_of}
use Rattle.ve_site.specs.declared.taking.Rest.{Rest}
use Rattle.ve_site.specs.Dropped.{only_done}
use Rattle.ve_site.specs.Numbered.{Numbered, with_site, IsSite}
use Rattle.ve_site.specs.Underway.{IsRest, rest_site, with_none_undone}
use Rattle.ve_site.proofs.InPlaceLemmas.{begun_counts, begun_runs, begun_takes}
use Rattle.ve_site.proofs.TakeLemmas.{copied_is, copied_same}
use Rattle.ve_site.proofs.site.Site.take_on_trial.Goals as goal

pub taken_on_trial-editor-requires-clause-is : goal.taken_on_trial-editor-requires-clause-is
taken_on_trial-editor-requires-clause-is g c =
    let page : replica_of c.replace-editor.result ≡ c.args.self.now.site.replica = ap replica_of c.replace-editor.ensures.value ∙ ap (λ (v : Numbered). v.site.replica) c.self.view_is in
    subst (λ (r : Replica). IsRest r c.in_ok-own.own) (sym page) c.in_ok-own.ensures.is

pub taken_on_trial-editor-requires-clause-run : goal.taken_on_trial-editor-requires-clause-run
taken_on_trial-editor-requires-clause-run g c =
    let page : replica_of c.replace-editor.result ≡ c.args.self.now.site.replica = ap replica_of c.replace-editor.ensures.value ∙ ap (λ (v : Numbered). v.site.replica) c.self.view_is in
    let begun = ap (λ (r : Replica). rest_site r c.in_ok-own.own) page ∙ c.in_ok-own.ensures.site in
    begun_runs (map parcel_by_value c.args.parcels.now) c.args.self.now.site (rest_site (replica_of c.replace-editor.result) c.in_ok-own.own) begun c.requires.run

pub invariant_of-self-2 : goal.invariant_of-self-2
invariant_of-self-2 g c =
    let page = c.taken_on_trial-editor.result.0 in
    let t = c.in_ok-rest.rest in
    let is = IfOk-at_ok (λ (taken : Rest × ℕ). IsRest (replica_of page) taken.0) c.in_ok-rest.was c.taken_on_trial-editor.ensures.is in
    copied_is (replica_of page) t.untold t.seen t.sent.items (only_done t.unsent) t.shared t.in_flight is (replica_of page) t.sent.items c.clear_undone.new.self refl refl
    (c.clear_undone.ensures.done ∙ c.replace_done-gone.ensures.done) c.clear_undone.ensures.undone

pub returns-clause-site : goal.returns-clause-site
returns-clause-site g c =
    let s = c.self.inside in
    let entries = map parcel_by_value c.args.parcels.now in
    let page : replica_of c.replace-editor.result ≡ c.args.self.now.site.replica = ap replica_of c.replace-editor.ensures.value ∙ ap (λ (v : Numbered). v.site.replica) c.self.view_is in
    let first : Site = rest_site (replica_of c.replace-editor.result) c.in_ok-own.own in
    let begun : first ≡ with_none_undone c.args.self.now.site = ap (λ (r : Replica). rest_site r c.in_ok-own.own) page ∙ c.in_ok-own.ensures.site in
    let then = c.taken_on_trial-editor.result.0 in
    let t = c.in_ok-rest.rest in
    let is = IfOk-at_ok (λ (taken : Rest × ℕ). IsRest (replica_of then) taken.0) c.in_ok-rest.was c.taken_on_trial-editor.ensures.is in
    let took = IfOk-at_ok (λ (taken : Rest × ℕ). rest_site (replica_of then) taken.0 ≡ take_foreign entries first) c.in_ok-rest.was c.taken_on_trial-editor.ensures.site in
    ap (λ x. record { number = s.number; site = x })
    (copied_same (replica_of then) t.untold t.seen t.sent.items (only_done t.unsent) t.shared t.in_flight is (replica_of then) t.sent.items c.clear_undone.new.self refl refl
    (c.clear_undone.ensures.done ∙ c.replace_done-gone.ensures.done) c.clear_undone.ensures.undone
    ∙ took ∙ begun_takes entries c.args.self.now.site first begun)
    ∙ ap (λ (v : Numbered). with_site (take_foreign entries c.args.self.now.site) v) c.self.view_is

pub returns-clause-left : goal.returns-clause-left
returns-clause-left g c =
    let then = c.taken_on_trial-editor.result.0 in
    let t = c.in_ok-rest.rest in
    let is = IfOk-at_ok (λ (taken : Rest × ℕ). IsRest (replica_of then) taken.0) c.in_ok-rest.was c.taken_on_trial-editor.ensures.is in
    IfOk-at_ok (λ (taken : Rest × ℕ). taken.1 ≡ length (pending (rest_site (replica_of then) taken.0))) c.in_ok-rest.was c.taken_on_trial-editor.ensures.left
    ∙ ap (λ (x : Site). length (pending x))
    (sym (copied_same (replica_of then) t.untold t.seen t.sent.items (only_done t.unsent) t.shared t.in_flight is (replica_of then) t.sent.items c.clear_undone.new.self refl refl
    (c.clear_undone.ensures.done ∙ c.replace_done-gone.ensures.done) c.clear_undone.ensures.undone))

pub returns-clause-steps : goal.returns-clause-steps
returns-clause-steps g c =
    let page : replica_of c.replace-editor.result ≡ c.args.self.now.site.replica = ap replica_of c.replace-editor.ensures.value ∙ ap (λ (v : Numbered). v.site.replica) c.self.view_is in
    let begun = ap (λ (r : Replica). rest_site r c.in_ok-own.own) page ∙ c.in_ok-own.ensures.site in
    begun_counts (map parcel_by_value c.args.parcels.now) c.args.self.now.site (rest_site (replica_of c.replace-editor.result) c.in_ok-own.own) begun c.args.steps.now c.blank.new.steps c.taken_on_trial-editor.new.steps
    c.blank.ensures.steps c.taken_on_trial-editor.ensures.steps

pub returns-in_err-rest-clause-steps : goal.returns-in_err-rest-clause-steps
returns-in_err-rest-clause-steps g c =
    let page : replica_of c.replace-editor.result ≡ c.args.self.now.site.replica = ap replica_of c.replace-editor.ensures.value ∙ ap (λ (v : Numbered). v.site.replica) c.self.view_is in
    let begun = ap (λ (r : Replica). rest_site r c.in_ok-own.own) page ∙ c.in_ok-own.ensures.site in
    begun_counts (map parcel_by_value c.args.parcels.now) c.args.self.now.site (rest_site (replica_of c.replace-editor.result) c.in_ok-own.own) begun c.args.steps.now c.blank.new.steps c.taken_on_trial-editor.new.steps
    c.blank.ensures.steps c.taken_on_trial-editor.ensures.steps

pub invariant_of-self : goal.invariant_of-self
invariant_of-self g c =
    let s = c.self.inside in
    let kept = IfErr-at_err (λ _. c.taken_on_trial-editor.result.0 ≡ c.replace-editor.result) c.in_err-rest.was c.taken_on_trial-editor.ensures.kept in
    subst (λ (p : LinkedPage). IsSite (replica_of p) s.seen s.sent.items s.history s.shared s.in_flight) (sym (kept ∙ c.replace-editor.ensures.value)) c.self.invariant
