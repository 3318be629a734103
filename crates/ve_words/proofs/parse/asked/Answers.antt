use Rattle.std.proofs.Common.{◌∙◌, ap, map}
use Rattle.clap.specs.Words.{app_of}
use Rattle.ve_words.specs.Words.{unasked_by}
use Rattle.ve_words.proofs.ParseLemmas.{answers_ok, answers_usage, refused, refused_help, refused_usage, taken}
use Rattle.ve_words.proofs.parse.asked.Goals as goal

pub returns-in-Ok-clause-ok : goal.returns-in-Ok-clause-ok
returns-in-Ok-clause-ok c =
    let spelled = ap (map (λ text. text.now)) c.as_slice.ensures.value ∙ c.in_ok-texts.ensures in
    let means = taken c.args.words.now (map (λ text. text.now) c.as_slice.result.now) (app_of c.in_ok-command.field-0) c.in-Ok.matches c.asked_by.result c.in_ok-command.ensures spelled
    c.in-Ok.ensures.matches c.in-Ok.ensures.kinds c.asked_by.ensures in
    answers_ok c.args.words.now c.asked_by.result c.ok_or.result c.ok_or.ensures.value means

pub returns-in-Ok-clause-usage : goal.returns-in-Ok-clause-usage
returns-in-Ok-clause-usage c =
    let spelled = ap (map (λ text. text.now)) c.as_slice.ensures.value ∙ c.in_ok-texts.ensures in
    let means = taken c.args.words.now (map (λ text. text.now) c.as_slice.result.now) (app_of c.in_ok-command.field-0) c.in-Ok.matches c.asked_by.result c.in_ok-command.ensures spelled
    c.in-Ok.ensures.matches c.in-Ok.ensures.kinds c.asked_by.ensures in
    answers_usage c.args.words.now c.asked_by.result c.ok_or.result c.ok_or.ensures.value means

pub returns-clause-help : goal.returns-clause-help
returns-clause-help c =
    let spelled = ap (map (λ text. text.now)) c.as_slice.ensures.value ∙ c.in_ok-texts.ensures in
    refused_help c.args.words.now c.by.result (refused c.args.words.now (map (λ text. text.now) c.as_slice.result.now) (app_of c.in_ok-command.field-0) c.in-Err.error c.by.result
    c.in_ok-command.ensures spelled c.in-Err.ensures.kinds (c.by.ensures ∙ ap unasked_by c.kind.ensures))

pub returns-clause-usage : goal.returns-clause-usage
returns-clause-usage c =
    let spelled = ap (map (λ text. text.now)) c.as_slice.ensures.value ∙ c.in_ok-texts.ensures in
    refused_usage c.args.words.now c.by.result (refused c.args.words.now (map (λ text. text.now) c.as_slice.result.now) (app_of c.in_ok-command.field-0) c.in-Err.error c.by.result
    c.in_ok-command.ensures spelled c.in-Err.ensures.kinds (c.by.ensures ∙ ap unasked_by c.kind.ensures))
