-- A page that was not edited is told as it was.
use Rattle.std.proofs.Common.{ap, ◌∙◌}
use Rattle.std.specs.Prelude.{chars}
use Rattle.model_world.specs.declared.command.Request.TheVariants as request
use Rattle.model_world.specs.declared.reply.Reply.TheVariants as reply
use Rattle.model_world.specs.World.{asked_of, reply_and_next}
use Rattle.model_line_law.specs.Pages.{UneditedPageIsWrittenBack}
use Rattle.ve_session.specs.Laws.{UneditedIsTold}
use Rattle.ve_session.specs.Opened.{world_on}

pub unedited_is_told : UneditedPageIsWrittenBack → UneditedIsTold
unedited_is_told written p k m led there same =
    ap (λ found. reply_and_next (world_on p) (asked_of p.page p.session request.Html k found)) there
    ∙ ap (λ text. (reply.Page (chars text), world_on p)) (written led.lines p.page p.session k m led.leads there same)
