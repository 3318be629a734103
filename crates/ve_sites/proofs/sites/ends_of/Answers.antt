use Rattle.std.proofs.Common.{ap}
use Rattle.ve_site.proofs.EndLemmas.{at_most_both}
use Rattle.ve_server.specs.Travelling.{Travelling}
use Rattle.ve_sites.proofs.EndLemmas.{known_least, known_leave}
use Rattle.ve_sites.proofs.sites.ends_of.Goals as goal

pub returns : goal.returns
returns c =
    let e = c.ends.result in
    let f = c.ends_under.result in
    let within = c.ends.ensures.within in
    let lent = ap (λ (t : Travelling). t.entries) c.as_slice.ensures.values in
    record {
      least = known_least c.as_slice.result.now c.args.committed.now.entries c.seen.result c.args.site.now.site c.args.most e f lent c.seen.ensures
          c.ends_under.ensures.least c.ends.ensures.least;
      within = at_most_both e f c.args.most within c.ends_under.ensures.within;
      left = known_leave c.as_slice.result.now c.args.committed.now.entries c.seen.result c.args.site.now.site e f lent c.seen.ensures within
          c.ends_under.ensures.left c.ends.ensures.left;
    }
