use Rattle.std.specs.Prelude.{vec_len}
use Rattle.std.proofs.Common.{rules, arith, length, ◌≡◌, ◌≤◌, ◌+◌, IfOk, IfErr}
use Rattle.model_site.specs.Site.{Site}
use Rattle.ve_editor.specs.Counted.{steps_of_blank}
use Rattle.ve_site.specs.Attempted.{IsAttempted}
use Rattle.ve_sites.proofs.PlacedLemmas.{Placed, asked, attempted_stays, either_if, if_so, kept_stays, room, told, told_both, with_its_site}
use Rattle.ve_sites.proofs.sites.Sites.attempt.Goals as goal

pub index_mut-requires : goal.index_mut-requires
index_mut-requires g c =
    let s = c.self.inside in
    let long : vec_len s.members ≡ length s.members.items = search rules in
    let below = room c.args.self.now s.values s.first.items s.server s.members.items c.args.k c.self.invariant c.self.view_is c.requires.site in
    omega (arith, long, below)

pub attempt-requires : goal.attempt-requires
attempt-requires g c =
    let s = c.self.inside in
    let p : Placed c.args.self.now s.values s.first.items s.server s.members.items c.args.k c.index_mut.result.now =
    record { holds = c.self.invariant; view = c.self.view_is; inside = c.requires.site; is = c.index_mut.ensures.value } in
    record { can = asked p (λ (x : Site). g.A.Attempt.can_run c.args.attempt.now x.replica) c.requires.can }

pub invariant_of-self : goal.invariant_of-self
invariant_of-self g c =
    let s = c.self.inside in
    let p : Placed c.args.self.now s.values s.first.items s.server s.members.items c.args.k c.index_mut.result.now =
    record { holds = c.self.invariant; view = c.self.view_is; inside = c.requires.site; is = c.index_mut.ensures.value } in
    let m = c.index_mut.result.now in
    let t = c.attempt.new.self in
    either_if c.attempt.result (λ told. IsAttempted (λ ts. g.A.Attempt.makes c.args.attempt.now m.site.replica ts told) m.site t.site) (t ≡ m) _ c.attempt.ensures.made c.attempt.ensures.kept
    (λ told by. attempted_stays p t by c.attempt.ensures.same) (kept_stays p t)

pub returns-clause-same : goal.returns-clause-same
returns-clause-same g c =
    let s = c.self.inside in
    let p : Placed c.args.self.now s.values s.first.items s.server s.members.items c.args.k c.index_mut.result.now =
    record { holds = c.self.invariant; view = c.self.view_is; inside = c.requires.site; is = c.index_mut.ensures.value } in
    if_so c.attempt.result _ (with_its_site p c.attempt.new.self c.attempt.ensures.same)

pub returns-clause-made : goal.returns-clause-made
returns-clause-made g c =
    let s = c.self.inside in
    let p : Placed c.args.self.now s.values s.first.items s.server s.members.items c.args.k c.index_mut.result.now =
    record { holds = c.self.invariant; view = c.self.view_is; inside = c.requires.site; is = c.index_mut.ensures.value } in
    told_both p (λ (x y : Site). IfOk c.attempt.result (λ told. IsAttempted (λ ts. g.A.Attempt.makes c.args.attempt.now x.replica ts told) x y)) c.attempt.new.self c.attempt.ensures.made

pub returns-clause-stopped : goal.returns-clause-stopped
returns-clause-stopped g c =
    let s = c.self.inside in
    let p : Placed c.args.self.now s.values s.first.items s.server s.members.items c.args.k c.index_mut.result.now =
    record { holds = c.self.invariant; view = c.self.view_is; inside = c.requires.site; is = c.index_mut.ensures.value } in
    told p (λ (x : Site). IfErr c.attempt.result (g.A.Attempt.stops c.args.attempt.now x.replica)) c.attempt.ensures.stopped

pub returns-clause-steps : goal.returns-clause-steps
returns-clause-steps g c =
    let s = c.self.inside in
    let p : Placed c.args.self.now s.values s.first.items s.server s.members.items c.args.k c.index_mut.result.now =
    record { holds = c.self.invariant; view = c.self.view_is; inside = c.requires.site; is = c.index_mut.ensures.value } in
    told p (λ (x : Site). IfErr c.attempt.result g.A.Attempt.is_refusal → c.attempt.new.steps ≤ c.args.steps.now + steps_of_blank + g.A.Attempt.cost c.args.attempt.now x.replica) c.attempt.ensures.steps
