use Rattle.std.proofs.Common.{◌<◌, arith, ap, ◌∙◌}
use Rattle.ve_server.proofs.ServerLemmas.{first_lent}
use Rattle.ve_server.specs.Serving.{first_of}
use Rattle.ve_server.specs.Waiting.{Waiting}
use Rattle.ve_server.proofs.queue.Queue.first.Goals as goal

pub returns : goal.returns
returns c =
    let feeds = c.self.inside.feeds in
    let some : 0 < c.self.inside.ready = omega arith in
    first_lent c.front.result c.self.inside.ready feeds.len feeds.items some c.self.invariant feeds.ok.0 c.front.ensures.variant c.front.ensures.lookup
    ∙ ap (λ (w : Waiting). (first_of w.feeds).0) c.self.view_is
