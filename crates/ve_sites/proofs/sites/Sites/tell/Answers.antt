use Rattle.std.specs.Prelude.{vec_len}
use Rattle.std.proofs.Common.{rules, arith, length, ◌≡◌}
use Rattle.model_site.specs.Site.{Site, with_told}
use Rattle.ve_sites.specs.Shared.{with_site_at}
use Rattle.ve_sites.proofs.PlacedLemmas.{Placed, room, told, told_stays, with_sender, with_site_is}
use Rattle.ve_sites.proofs.sites.Sites.tell.Goals as goal

pub index_mut-requires : goal.index_mut-requires
index_mut-requires c =
    let s = c.self.inside in
    let long : vec_len s.members ≡ length s.members.items = search rules in
    let below = room c.args.self.now s.values s.first.items s.server s.members.items c.args.k c.self.invariant c.self.view_is c.requires.site in
    omega (arith, long, below)

pub invariant_of-self : goal.invariant_of-self
invariant_of-self c =
    let s = c.self.inside in
    let p : Placed c.args.self.now s.values s.first.items s.server s.members.items c.args.k c.index_mut.result.now =
    record { holds = c.self.invariant; view = c.self.view_is; inside = c.requires.site; is = c.index_mut.ensures.value } in
    told_stays p c.tell.new.self c.tell.ensures

pub returns : goal.returns
returns c =
    let s = c.self.inside in
    let p : Placed c.args.self.now s.values s.first.items s.server s.members.items c.args.k c.index_mut.result.now =
    record { holds = c.self.invariant; view = c.self.view_is; inside = c.requires.site; is = c.index_mut.ensures.value } in
    let t = c.tell.new.self in
    told p (λ (x : Site). with_sender p t ≡ with_site_at c.args.k (with_told x) c.args.self.now)
    (with_site_is p t (with_told c.index_mut.result.now.site) c.tell.ensures)
