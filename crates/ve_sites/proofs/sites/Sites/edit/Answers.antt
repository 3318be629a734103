use Rattle.std.specs.Prelude.{vec_len}
use Rattle.std.proofs.Common.{rules, arith, length, ◌≡◌, ◌≤◌, ◌+◌, ◌∷◌, [], Ok, OnOk, IfErr, true}
use Rattle.model_change.specs.Transaction.{InsertedApart, is_reduced}
use Rattle.model_site.specs.Refused.{edit_cause}
use Rattle.model_site.specs.Site.{Site, edit}
use Rattle.model_change.specs.Cost.{cost_of_transactions}
use Rattle.ve_editor.specs.Edited.{IsDraftOf, drafted, drafted_values}
use Rattle.ve_editor.specs.Refusal.{IsEditRefusal}
use Rattle.ve_tx.proofs.ChangeLemmas.{normal-reduced}
use Rattle.ve_sites.proofs.PlacedLemmas.{Placed, asked, edited_stays, either, kept_stays, on_ok, room, told, told_both, with_its_site}
use Rattle.ve_sites.proofs.sites.Sites.edit.Goals as goal

pub index_mut-requires : goal.index_mut-requires
index_mut-requires g c =
    let s = c.self.inside in
    let long : vec_len s.members ≡ length s.members.items = search rules in
    let below = room c.args.self.now s.values s.first.items s.server s.members.items c.args.k c.self.invariant c.self.view_is c.requires.site in
    omega (arith, long, below)

pub edit-requires-clause-draft : goal.edit-requires-clause-draft
edit-requires-clause-draft g c =
    let s = c.self.inside in
    let p : Placed c.args.self.now s.values s.first.items s.server s.members.items c.args.k c.index_mut.result.now =
    record { holds = c.self.invariant; view = c.self.view_is; inside = c.requires.site; is = c.index_mut.ensures.value } in
    asked p (λ (x : Site). IsDraftOf x.replica.store c.args.draft.now) c.requires.draft

pub edit-requires-clause-apart : goal.edit-requires-clause-apart
edit-requires-clause-apart g c =
    let s = c.self.inside in
    let p : Placed c.args.self.now s.values s.first.items s.server s.members.items c.args.k c.index_mut.result.now =
    record { holds = c.self.invariant; view = c.self.view_is; inside = c.requires.site; is = c.index_mut.ensures.value } in
    asked p (λ (x : Site). InsertedApart (drafted x.replica.store c.args.draft.now)) c.requires.apart

pub invariant_of-self : goal.invariant_of-self
invariant_of-self g c =
    let s = c.self.inside in
    let p : Placed c.args.self.now s.values s.first.items s.server s.members.items c.args.k c.index_mut.result.now =
    record { holds = c.self.invariant; view = c.self.view_is; inside = c.requires.site; is = c.index_mut.ensures.value } in
    let m = c.index_mut.result.now in
    let t = c.edit.new.self in
    let u = drafted m.site.replica.store c.args.draft.now in
    let reduced : is_reduced u ≡ true = normal-reduced u (c.ops-ops.ensures.normal (drafted_values m.site.replica.store c.args.draft.now)) in
    let apart = asked p (λ (x : Site). InsertedApart (drafted x.replica.store c.args.draft.now)) c.requires.apart in
    either c.edit.result (edit u m.site ≡ Ok t.site) (t ≡ m) _ c.edit.ensures.site c.edit.ensures.kept (λ done. edited_stays p t u reduced apart done c.edit.ensures.same) (kept_stays p t)

pub returns-clause-site : goal.returns-clause-site
returns-clause-site g c =
    let s = c.self.inside in
    let p : Placed c.args.self.now s.values s.first.items s.server s.members.items c.args.k c.index_mut.result.now =
    record { holds = c.self.invariant; view = c.self.view_is; inside = c.requires.site; is = c.index_mut.ensures.value } in
    told_both p (λ (x y : Site). OnOk c.edit.result (edit (drafted x.replica.store c.args.draft.now) x ≡ Ok y)) c.edit.new.self c.edit.ensures.site

pub returns-clause-same : goal.returns-clause-same
returns-clause-same g c =
    let s = c.self.inside in
    let p : Placed c.args.self.now s.values s.first.items s.server s.members.items c.args.k c.index_mut.result.now =
    record { holds = c.self.invariant; view = c.self.view_is; inside = c.requires.site; is = c.index_mut.ensures.value } in
    let t = c.edit.new.self in
    on_ok c.edit.result (edit (drafted c.index_mut.result.now.site.replica.store c.args.draft.now) c.index_mut.result.now.site ≡ Ok t.site) _ (λ done. with_its_site p t c.edit.ensures.same) c.edit.ensures.site

pub returns-clause-refused : goal.returns-clause-refused
returns-clause-refused g c =
    let s = c.self.inside in
    let p : Placed c.args.self.now s.values s.first.items s.server s.members.items c.args.k c.index_mut.result.now =
    record { holds = c.self.invariant; view = c.self.view_is; inside = c.requires.site; is = c.index_mut.ensures.value } in
    told p (λ (x : Site). IfErr c.edit.result (IsEditRefusal (edit_cause (drafted x.replica.store c.args.draft.now) x.replica))) c.edit.ensures.refused

pub returns-clause-steps : goal.returns-clause-steps
returns-clause-steps g c =
    let s = c.self.inside in
    let p : Placed c.args.self.now s.values s.first.items s.server s.members.items c.args.k c.index_mut.result.now =
    record { holds = c.self.invariant; view = c.self.view_is; inside = c.requires.site; is = c.index_mut.ensures.value } in
    told p (λ (x : Site). c.edit.new.steps ≤ c.args.steps.now + cost_of_transactions (drafted x.replica.store c.args.draft.now ∷ []) x.replica.items) c.edit.ensures.steps
