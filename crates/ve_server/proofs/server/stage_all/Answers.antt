use Rattle.std.proofs.Common.{◌∙◌, ap}
use Rattle.ve_server.specs.Waiting.{feeds_in}
use Rattle.ve_server.proofs.ServerLemmas.{staged_next, feeds_stay, feeds_put}
use Rattle.ve_server.proofs.server.stage_all.Goals as goal

pub returns-in_err-feed-clause-feeds : goal.returns-in_err-feed-clause-feeds
returns-in_err-feed-clause-feeds c = ap feeds_in c.loop-site.invariant ∙ feeds_stay c.args.sender c.loop-site.site c.args.entries.now.entries c.args.queues.now

pub returns-in_err-stage-clause-feeds : goal.returns-in_err-stage-clause-feeds
returns-in_err-stage-clause-feeds c =
    feeds_put c.loop-site.site c.loop-site.queues c.index-queues-site.result c.stage.new.self c.in_err-stage.ensures.feeds
    ∙ (ap feeds_in c.loop-site.invariant ∙ feeds_stay c.args.sender c.loop-site.site c.args.entries.now.entries c.args.queues.now)

pub loop-site-preserved : goal.loop-site-preserved
loop-site-preserved c =
    staged_next c.args.sender c.loop-site.site c.args.entries.now.entries c.args.queues.now c.loop-site.queues c.index-queues-site.result c.stage.new.self c.loop-site.invariant
    c.loop-site-test.true c.in_ok-stage.ensures.feeds (c.in_ok-stage.ensures.staged ∙ c.in_ok-feed.ensures)

pub returns-clause-feeds : goal.returns-clause-feeds
returns-clause-feeds c = ap feeds_in c.loop-site.invariant ∙ feeds_stay c.args.sender c.loop-site.site c.args.entries.now.entries c.args.queues.now
