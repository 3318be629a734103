use Rattle.std.specs.Prelude.{vec_len}
use Rattle.std.proofs.Common.{rules, arith, length, ◌≡◌, ◌≤◌, ◌+◌, Ok, OnOk, IfErr, IsOk}
use Rattle.model_site.specs.Site.{Site, undo}
use Rattle.model_site.specs.declared.site_fault.UndoFault.TheVariants as fault
use Rattle.ve_editor.specs.Counted.{steps_over}
use Rattle.model_site.specs.Made.{undoing}
use Rattle.ve_site.specs.Refusal.{IsUndoRefusal}
use Rattle.ve_sites.proofs.PlacedLemmas.{Placed, either, kept_stays, on_ok, room, told, told_both, undone_stays, with_its_site}
use Rattle.ve_sites.proofs.sites.Sites.undo.Goals as goal

pub index_mut-requires : goal.index_mut-requires
index_mut-requires g c =
    let s = c.self.inside in
    let long : vec_len s.members ≡ length s.members.items = search rules in
    let below = room c.args.self.now s.values s.first.items s.server s.members.items c.args.k c.self.invariant c.self.view_is c.requires.site in
    omega (arith, long, below)

pub invariant_of-self : goal.invariant_of-self
invariant_of-self g c =
    let s = c.self.inside in
    let p : Placed c.args.self.now s.values s.first.items s.server s.members.items c.args.k c.index_mut.result.now =
    record { holds = c.self.invariant; view = c.self.view_is; inside = c.requires.site; is = c.index_mut.ensures.value } in
    let m = c.index_mut.result.now in
    let t = c.undo.new.self in
    either c.undo.result (undo m.site ≡ Ok t.site) (t ≡ m) _ c.undo.ensures.site c.undo.ensures.kept (λ done. undone_stays p t done c.undo.ensures.same) (kept_stays p t)

pub returns-clause-site : goal.returns-clause-site
returns-clause-site g c =
    let s = c.self.inside in
    let p : Placed c.args.self.now s.values s.first.items s.server s.members.items c.args.k c.index_mut.result.now =
    record { holds = c.self.invariant; view = c.self.view_is; inside = c.requires.site; is = c.index_mut.ensures.value } in
    told_both p (λ (x y : Site). OnOk c.undo.result (undo x ≡ Ok y)) c.undo.new.self c.undo.ensures.site

pub returns-clause-same : goal.returns-clause-same
returns-clause-same g c =
    let s = c.self.inside in
    let p : Placed c.args.self.now s.values s.first.items s.server s.members.items c.args.k c.index_mut.result.now =
    record { holds = c.self.invariant; view = c.self.view_is; inside = c.requires.site; is = c.index_mut.ensures.value } in
    let t = c.undo.new.self in
    on_ok c.undo.result (undo c.index_mut.result.now.site ≡ Ok t.site) _ (λ done. with_its_site p t c.undo.ensures.same) c.undo.ensures.site

pub returns-clause-refused : goal.returns-clause-refused
returns-clause-refused g c =
    let s = c.self.inside in
    let p : Placed c.args.self.now s.values s.first.items s.server s.members.items c.args.k c.index_mut.result.now =
    record { holds = c.self.invariant; view = c.self.view_is; inside = c.requires.site; is = c.index_mut.ensures.value } in
    told p (λ (x : Site). IfErr c.undo.result (IsUndoRefusal (undo x))) c.undo.ensures.refused

pub returns-clause-steps : goal.returns-clause-steps
returns-clause-steps g c =
    let s = c.self.inside in
    let p : Placed c.args.self.now s.values s.first.items s.server s.members.items c.args.k c.index_mut.result.now =
    record { holds = c.self.invariant; view = c.self.view_is; inside = c.requires.site; is = c.index_mut.ensures.value } in
    told p (λ (x : Site). c.undo.new.steps ≤ c.args.steps.now + steps_over (undoing x.unsent) x.replica.items) c.undo.ensures.steps

pub returns-clause-memory : goal.returns-clause-memory
returns-clause-memory g c =
    let s = c.self.inside in
    let p : Placed c.args.self.now s.values s.first.items s.server s.members.items c.args.k c.index_mut.result.now =
    record { holds = c.self.invariant; view = c.self.view_is; inside = c.requires.site; is = c.index_mut.ensures.value } in
    told p (λ (x : Site). IfErr c.undo.result (λ why. why ≡ fault.Memory → IsOk (undo x))) c.undo.ensures.memory
