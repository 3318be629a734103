use Rattle.std.proofs.Common.{◌≡◌, subst}
use Rattle.model_change.specs.Replay.{flattened}
use Rattle.model_site.specs.Entries.{parcels}
use Rattle.model_site.specs.Site.{pending}
use Rattle.ve_site.specs.Ends.{LeaveEnds, least_ends}
use Rattle.ve_site.specs.Numbered.{Numbered}
use Rattle.ve_site.proofs.EndLemmas.{at_most_both, pending_leave}
use Rattle.ve_site.proofs.LeastLemmas.{pending_least}
use Rattle.ve_site.proofs.site.Site.ends.Goals as goal

pub returns : goal.returns
returns c =
    let s = c.self.inside in
    let store = s.editor.store in
    let e = c.under_entries.result in
    let f = c.under_entries-sent.result in
    let within = c.under_entries.ensures.within in
    record {
      least = subst (λ (v : Numbered). e ≡ least_ends c.args.most (flattened (parcels (pending v.site)))) c.self.view_is
          (pending_least store s.sent.items s.history.done c.as_slice.result.now c.done.result.now c.args.most e f c.as_slice.ensures.value c.done.ensures
          (c.under_entries-sent.ensures.least store) (c.under_entries.ensures.least store));
      within = at_most_both e f c.args.most within c.under_entries-sent.ensures.within;
      left = subst (λ (v : Numbered). LeaveEnds e (flattened (parcels (pending v.site)))) c.self.view_is
          (pending_leave store s.sent.items s.history.done c.as_slice.result.now c.done.result.now e f c.as_slice.ensures.value c.done.ensures within
          (c.under_entries-sent.ensures.left store) (c.under_entries.ensures.left store));
    }
