use Rattle.std.specs.Prelude.{vec_len}
use Rattle.std.proofs.Common.{rules, arith, length, ◌≡◌, IfErr, IsOk}
use Rattle.model_site.specs.Site.{Site, send}
use Rattle.model_site.specs.declared.site_fault.SendFault.TheVariants as fault
use Rattle.ve_site.specs.Refusal.{IsSendRefusal}
use Rattle.ve_sites.specs.Senders.{HasGone}
use Rattle.ve_sites.specs.Turns.{HasSent}
use Rattle.ve_sites.proofs.PlacedLemmas.{Placed, either_if, gone_stays, has_sent, if_ok, kept_stays, room, told, with_sender}
use Rattle.ve_sites.proofs.sites.Sites.send.Goals as goal

pub index_mut-requires : goal.index_mut-requires
index_mut-requires c =
    let s = c.self.inside in
    let long : vec_len s.members ≡ length s.members.items = search rules in
    let below = room c.args.self.now s.values s.first.items s.server s.members.items c.args.k c.self.invariant c.self.view_is c.requires.site in
    omega (arith, long, below)

pub invariant_of-self : goal.invariant_of-self
invariant_of-self c =
    let s = c.self.inside in
    let p : Placed c.args.self.now s.values s.first.items s.server s.members.items c.args.k c.index_mut.result.now =
    record { holds = c.self.invariant; view = c.self.view_is; inside = c.requires.site; is = c.index_mut.ensures.value } in
    let m = c.index_mut.result.now in
    let t = c.send.new.self in
    either_if c.send.result (λ count. HasGone count m t) (t ≡ m) _ c.send.ensures.sent c.send.ensures.kept (λ count gone. gone_stays p t count gone) (kept_stays p t)

pub returns-clause-sent : goal.returns-clause-sent
returns-clause-sent c =
    let s = c.self.inside in
    let p : Placed c.args.self.now s.values s.first.items s.server s.members.items c.args.k c.index_mut.result.now =
    record { holds = c.self.invariant; view = c.self.view_is; inside = c.requires.site; is = c.index_mut.ensures.value } in
    let m = c.index_mut.result.now in
    let t = c.send.new.self in
    if_ok c.send.result (λ count. HasGone count m t) (λ count. HasSent c.args.k count c.args.self.now (with_sender p t)) (λ count gone. has_sent p t count gone) c.send.ensures.sent

pub returns-clause-refused : goal.returns-clause-refused
returns-clause-refused c =
    let s = c.self.inside in
    let p : Placed c.args.self.now s.values s.first.items s.server s.members.items c.args.k c.index_mut.result.now =
    record { holds = c.self.invariant; view = c.self.view_is; inside = c.requires.site; is = c.index_mut.ensures.value } in
    told p (λ (x : Site). IfErr c.send.result (IsSendRefusal (send x))) c.send.ensures.refused

pub returns-clause-memory : goal.returns-clause-memory
returns-clause-memory c =
    let s = c.self.inside in
    let p : Placed c.args.self.now s.values s.first.items s.server s.members.items c.args.k c.index_mut.result.now =
    record { holds = c.self.invariant; view = c.self.view_is; inside = c.requires.site; is = c.index_mut.ensures.value } in
    told p (λ (x : Site). IfErr c.send.result (λ why. why ≡ fault.Memory → IsOk (send x))) c.send.ensures.memory
