use Rattle.std.specs.Prelude.{vec_len}
use Rattle.std.proofs.Common.{rules, arith, length, ◌≡◌}
use Rattle.model_site.specs.Site.{Site, with_selection}
use Rattle.model_site_law.specs.SelectionLaws.{StandsIn}
use Rattle.ve_sites.specs.Shared.{with_site_at}
use Rattle.ve_sites.proofs.PlacedLemmas.{Placed, asked, room, selected_stays, told, with_sender, with_site_is}
use Rattle.ve_sites.proofs.sites.Sites.select.Goals as goal

pub index_mut-requires : goal.index_mut-requires
index_mut-requires c =
    let s = c.self.inside in
    let long : vec_len s.members ≡ length s.members.items = search rules in
    let below = room c.args.self.now s.values s.first.items s.server s.members.items c.args.k c.self.invariant c.self.view_is c.requires.site in
    omega (arith, long, below)

pub select-requires : goal.select-requires
select-requires c =
    let s = c.self.inside in
    let p : Placed c.args.self.now s.values s.first.items s.server s.members.items c.args.k c.index_mut.result.now =
    record { holds = c.self.invariant; view = c.self.view_is; inside = c.requires.site; is = c.index_mut.ensures.value } in
    asked p (λ (x : Site). StandsIn x.replica.items c.args.selection) c.requires.stands

pub invariant_of-self : goal.invariant_of-self
invariant_of-self c =
    let s = c.self.inside in
    let p : Placed c.args.self.now s.values s.first.items s.server s.members.items c.args.k c.index_mut.result.now =
    record { holds = c.self.invariant; view = c.self.view_is; inside = c.requires.site; is = c.index_mut.ensures.value } in
    selected_stays p c.select.new.self c.args.selection c.select.ensures

pub returns : goal.returns
returns c =
    let s = c.self.inside in
    let p : Placed c.args.self.now s.values s.first.items s.server s.members.items c.args.k c.index_mut.result.now =
    record { holds = c.self.invariant; view = c.self.view_is; inside = c.requires.site; is = c.index_mut.ensures.value } in
    let t = c.select.new.self in
    told p (λ (x : Site). with_sender p t ≡ with_site_at c.args.k (with_selection c.args.selection x) c.args.self.now)
    (with_site_is p t (with_selection c.args.selection c.index_mut.result.now.site) c.select.ensures)
