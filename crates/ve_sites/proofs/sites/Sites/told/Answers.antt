use Rattle.std.specs.Prelude.{vec_len}
use Rattle.std.proofs.Common.{rules, arith, length, sym, ◌∙◌, ◌≡◌, IfOk, subst}
use Rattle.model_site.specs.Site as model
use Rattle.model_site.specs.Site.{Site}
use Rattle.ve_sites.proofs.PlacedLemmas.{Placed, room, site_now}
use Rattle.ve_sites.proofs.sites.Sites.told.Goals as goal

pub index-requires : goal.index-requires
index-requires c =
    let s = c.self.inside in
    let long : vec_len s.members ≡ length s.members.items = search rules in
    let below = room c.args.self.now s.values s.first.items s.server s.members.items c.args.k c.self.invariant c.self.view_is c.requires.site in
    omega (arith, long, below)

pub returns : goal.returns
returns c =
    let s = c.self.inside in
    let p : Placed c.args.self.now s.values s.first.items s.server s.members.items c.args.k c.index.result.now =
    record { holds = c.self.invariant; view = c.self.view_is; inside = c.requires.site; is = c.index.ensures } in
    subst (λ (x : Site). IfOk c.told.result (λ patches. patches.items ≡ model.told x)) (c.site.ensures.site ∙ sym (site_now p)) c.told.ensures
