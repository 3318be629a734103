use Rattle.std.proofs.Common.{◌<◌, length, option_map, sym, ap, subst, ◌∙◌}
use Rattle.std.specs.Option.{option_copied}
use Rattle.std.proofs.lemmas.List.{length-map}
use Rattle.ve_server.specs.Fed.{feed_of}
use Rattle.ve_server.specs.Serving.{first_feed}
use Rattle.ve_server.specs.Waiting.{Waiting}
use Rattle.ve_server.proofs.ServerLemmas.{is_next}
use Rattle.ve_server.proofs.server.Server.next_feed.Goals as goal

pub returns : goal.returns
returns c =
    let queues = c.self.inside.queues.items in
    let count = ap (λ v. length v.queues) (sym c.self.view_is) ∙ length-map queues (λ (q : Waiting). q.feeds) in
    let within = subst (λ n. c.args.site < n) count c.requires in
    is_next c.args.site c.self.inside.committed.entries c.self.inside.committed.hints queues c.index.result.now (option_map feed_of (option_copied c.first.result)) within c.index.ensures c.first.ensures
    ∙ ap (λ v. (first_feed c.args.site v).0) c.self.view_is
