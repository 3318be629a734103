use Rattle.std.specs.Prelude.{vec_len}
use Rattle.std.proofs.Common.{rules, arith, length, List, ap, ◌∙◌, ◌≡◌, subst}
use Rattle.model_change.specs.Replay.{flattened}
use Rattle.model_site.specs.Entries.{Parcel}
use Rattle.model_site.specs.Site.{Site, entries_of}
use Rattle.ve_site.specs.Ends.{LeaveEnds, least_ends, whole_list}
use Rattle.ve_sites.specs.Shared.{Shared}
use Rattle.ve_sites.proofs.PlacedLemmas.{Placed, room, told}
use Rattle.ve_sites.proofs.RevokeLemmas.{seen_within}
use Rattle.ve_sites.proofs.sites.Sites.ends.Goals as goal

pub index-requires : goal.index-requires
index-requires c =
    let s = c.self.inside in
    let long : vec_len s.members ≡ length s.members.items = search rules in
    let below = room c.args.self.now s.values s.first.items s.server s.members.items c.args.k c.self.invariant c.self.view_is c.requires.site in
    omega (arith, long, below)

pub ends_of-requires : goal.ends_of-requires
ends_of-requires c =
    let s = c.self.inside in
    let m = c.index.result.now in
    let inside = room c.args.self.now s.values s.first.items s.server s.members.items c.args.k c.self.invariant c.self.view_is c.requires.site in
    let within = seen_within s.values s.first.items s.server s.members.items c.self.invariant c.args.k m inside c.index.ensures in
    let e = ap (λ (x : Site). x.seen) c.site.ensures.site in
    let n = ap (λ (ps : List Parcel). length ps) c.committed.ensures.entries in
    omega (arith, within, e, n)

pub returns : goal.returns
returns c =
    let s = c.self.inside in
    let m = c.index.result.now in
    let e = c.ends_of.result in
    let p : Placed c.args.self.now s.values s.first.items s.server s.members.items c.args.k m =
    record { holds = c.self.invariant; view = c.self.view_is; inside = c.requires.site; is = c.index.ensures } in
    let long : c.len-count.result ≡ length c.args.self.now.first = c.len-count.ensures ∙ ap (λ (x : Shared). length x.first) c.self.view_is in
    let committed = c.committed.ensures.entries ∙ ap (λ (x : Shared). x.session.committed) c.self.view_is in
    let within = c.ends_of.ensures.within in
    record {
      least = told p (λ (x : Site). e ≡ least_ends (whole_list (length c.args.self.now.first)) (flattened (entries_of c.args.self.now.session.committed x)))
          (subst (λ n. e ≡ least_ends (whole_list n) (flattened (entries_of c.args.self.now.session.committed m.site))) long
          (subst (λ ps. e ≡ least_ends (whole_list c.len-count.result) (flattened (entries_of ps m.site))) committed
          (subst (λ (x : Site). e ≡ least_ends (whole_list c.len-count.result) (flattened (entries_of c.committed.result.now.entries x))) c.site.ensures.site c.ends_of.ensures.least)));
      within = (omega (arith, within.0, long), omega (arith, within.1, long));
      left = told p (λ (x : Site). LeaveEnds e (flattened (entries_of c.args.self.now.session.committed x)))
          (subst (λ ps. LeaveEnds e (flattened (entries_of ps m.site))) committed
          (subst (λ (x : Site). LeaveEnds e (flattened (entries_of c.committed.result.now.entries x))) c.site.ensures.site c.ends_of.ensures.left));
    }
