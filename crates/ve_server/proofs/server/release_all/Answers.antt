use Rattle.std.proofs.Common.{slice_set, sym, ap, ◌∙◌}
use Rattle.std.proofs.lemmas.List.Edits.{map_over_more}
use Rattle.ve_server.specs.Waiting.{released}
use Rattle.ve_server.proofs.server.release_all.Goals as goal

pub loop-site-preserved : goal.loop-site-preserved
loop-site-preserved c =
    let one = c.index-queues-site.result in
    ap (λ q. slice_set c.loop-site.queues c.loop-site.site q) (c.release.ensures ∙ ap released (sym c.index-queues-site.is))
    ∙ map_over_more released c.args.queues.now c.loop-site.queues c.loop-site.site one c.loop-site-test.true c.loop-site.invariant c.index-queues-site.is
