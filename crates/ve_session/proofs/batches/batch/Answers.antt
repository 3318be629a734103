use Rattle.std.proofs.Common.{ap, ◌∙◌}
use Rattle.model_world.specs.declared.command.Request.TheVariants as request
use Rattle.model_world.specs.Answers.{batch_or_no}
use Rattle.ve_sites.specs.Shared.{site_at}
use Rattle.ve_session.specs.Asked.{asker}
use Rattle.ve_session.proofs.BatchLemmas.{attempted, batch_meant, still_there}
use Rattle.ve_session.proofs.CaretLemmas.{is_batched}
use Rattle.ve_session.proofs.batches.batch.Goals as goal

pub len_at-requires : goal.len_at-requires
len_at-requires g c =
    record { site = still_there c.args.k (site_at c.attempt.new.self c.args.k) c.args.session.now c.attempt.new.self c.in-Ok.ensures.same c.requires.site }

pub returns-in-Ok-clause-answer : goal.returns-in-Ok-clause-answer
returns-in-Ok-clause-answer g c =
    let old = c.args.session.now in
    let k = c.args.k in
    let by = c.in-Ok.ensures.made in
    let means = batch_meant (site_at old k).replica c.new-batch.result.changes.now c.args.changes.now by.ts (c.new-batch.ensures ∙ c.as_slice.ensures) by.asked in
    is_batched k old c.attempt.new.self by.ts c.requires.site (request.Batch c.args.changes.now) c.len_at.result (λ page. ap (batch_or_no (asker page old k)) means) (attempted k old c.attempt.new.self by c.in-Ok.ensures.same)
    c.len_at.ensures
