use Rattle.std.proofs.Common.{◌≡◌, map, ap, ◌∙◌, rules}
use Rattle.std.proofs.lemmas.List.{with_items_is, places}
use Rattle.std.specs.Vec.{with_items}
use Rattle.ve_server.specs.Fed.{submission_of}
use Rattle.ve_server.specs.Serving.{after_serving}
use Rattle.ve_server.specs.Waiting.{all_staged, released, feeds_in}
use Rattle.ve_server.proofs.ServerLemmas.{is_served}
use Rattle.ve_server.proofs.server.Server.serve.Goals as goal

pub returns-clause-server : goal.returns-clause-server
returns-clause-server c =
    let sender = c.args.submit.now.site in
    let submission = submission_of c.args.submit.now in
    let queues = c.self.inside.queues in
    let staged = c.in_ok-stage_all.ensures.staged ∙ ap (all_staged sender 0 c.in_ok-kept.kept.entries) c.as_mut_slice.ensures.value in
    let first : (with_items queues c.stage_all.new.queues).items ≡ c.stage_all.new.queues = with_items_is queues c.stage_all.new.queues (search (rules, places)) in
    let second : (with_items (with_items queues c.stage_all.new.queues) c.release_all.new.queues).items ≡ c.release_all.new.queues =
    with_items_is (with_items queues c.stage_all.new.queues) c.release_all.new.queues (search (rules, places)) in
    ap (λ qs. record { committed = c.append.new.self.entries; hints = c.append.new.self.hints; queues = feeds_in qs }) second
    ∙ (is_served sender submission c.self.inside.committed c.in_ok-kept.kept c.append.new.self queues.items c.stage_all.new.queues c.release_all.new.queues
    c.in_ok-kept.ensures.kept c.in_ok-kept.ensures.hints c.in_ok-append.ensures.ok staged (c.release_all.ensures ∙ ap (map released) (c.as_mut_slice-2.ensures.value ∙ first)) ∙ ap (after_serving sender submission) c.self.view_is)
