use Rattle.std.specs.Prelude.{vec_len}
use Rattle.std.proofs.Common.{rules, arith, length, ◌≡◌, ◌≤◌, ◌+◌, Ok, OnOk, IfErr, IsOk}
use Rattle.model_site.specs.Site.{Site, redo}
use Rattle.model_site.specs.declared.site_fault.RedoFault.TheVariants as fault
use Rattle.ve_editor.specs.Counted.{steps_over}
use Rattle.model_site.specs.Made.{redoing}
use Rattle.ve_site.specs.Refusal.{IsRedoRefusal}
use Rattle.ve_sites.proofs.PlacedLemmas.{Placed, either, kept_stays, on_ok, room, told, told_both, redone_stays, with_its_site}
use Rattle.ve_sites.proofs.sites.Sites.redo.Goals as goal

pub index_mut-requires : goal.index_mut-requires
index_mut-requires g c =
    let s = c.self.inside in
    let long : vec_len s.members ≡ length s.members.items = search rules in
    let below = room c.args.self.now s.values s.first.items s.server s.members.items c.args.k c.self.invariant c.self.view_is c.requires.site in
    omega (arith, long, below)

pub invariant_of-self : goal.invariant_of-self
invariant_of-self g c =
    let s = c.self.inside in
    let p : Placed c.args.self.now s.values s.first.items s.server s.members.items c.args.k c.index_mut.result.now =
    record { holds = c.self.invariant; view = c.self.view_is; inside = c.requires.site; is = c.index_mut.ensures.value } in
    let m = c.index_mut.result.now in
    let t = c.redo.new.self in
    either c.redo.result (redo m.site ≡ Ok t.site) (t ≡ m) _ c.redo.ensures.site c.redo.ensures.kept (λ done. redone_stays p t done c.redo.ensures.same) (kept_stays p t)

pub returns-clause-site : goal.returns-clause-site
returns-clause-site g c =
    let s = c.self.inside in
    let p : Placed c.args.self.now s.values s.first.items s.server s.members.items c.args.k c.index_mut.result.now =
    record { holds = c.self.invariant; view = c.self.view_is; inside = c.requires.site; is = c.index_mut.ensures.value } in
    told_both p (λ (x y : Site). OnOk c.redo.result (redo x ≡ Ok y)) c.redo.new.self c.redo.ensures.site

pub returns-clause-same : goal.returns-clause-same
returns-clause-same g c =
    let s = c.self.inside in
    let p : Placed c.args.self.now s.values s.first.items s.server s.members.items c.args.k c.index_mut.result.now =
    record { holds = c.self.invariant; view = c.self.view_is; inside = c.requires.site; is = c.index_mut.ensures.value } in
    let t = c.redo.new.self in
    on_ok c.redo.result (redo c.index_mut.result.now.site ≡ Ok t.site) _ (λ done. with_its_site p t c.redo.ensures.same) c.redo.ensures.site

pub returns-clause-refused : goal.returns-clause-refused
returns-clause-refused g c =
    let s = c.self.inside in
    let p : Placed c.args.self.now s.values s.first.items s.server s.members.items c.args.k c.index_mut.result.now =
    record { holds = c.self.invariant; view = c.self.view_is; inside = c.requires.site; is = c.index_mut.ensures.value } in
    told p (λ (x : Site). IfErr c.redo.result (IsRedoRefusal (redo x))) c.redo.ensures.refused

pub returns-clause-steps : goal.returns-clause-steps
returns-clause-steps g c =
    let s = c.self.inside in
    let p : Placed c.args.self.now s.values s.first.items s.server s.members.items c.args.k c.index_mut.result.now =
    record { holds = c.self.invariant; view = c.self.view_is; inside = c.requires.site; is = c.index_mut.ensures.value } in
    told p (λ (x : Site). c.redo.new.steps ≤ c.args.steps.now + steps_over (redoing x.undone) x.replica.items) c.redo.ensures.steps

pub returns-clause-memory : goal.returns-clause-memory
returns-clause-memory g c =
    let s = c.self.inside in
    let p : Placed c.args.self.now s.values s.first.items s.server s.members.items c.args.k c.index_mut.result.now =
    record { holds = c.self.invariant; view = c.self.view_is; inside = c.requires.site; is = c.index_mut.ensures.value } in
    told p (λ (x : Site). IfErr c.redo.result (λ why. why ≡ fault.Memory → IsOk (redo x))) c.redo.ensures.memory
