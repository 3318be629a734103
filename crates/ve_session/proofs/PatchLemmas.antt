-- What changed in a list is told as the model tells it.
use Rattle.std.proofs.Common.{◌≡◌, ℕ, List, ap, sym, ◌∙◌, length}
use Rattle.model_site.specs.Site.{told, with_told}
use Rattle.model_site.specs.declared.patch.Patch.{Patch}
use Rattle.model_world.specs.declared.command.Request.TheVariants as request
use Rattle.model_world.specs.declared.reply.Reply.TheVariants as reply
use Rattle.ve_json.specs.declared.answer.Answer.TheVariants as answer
use Rattle.model_world.specs.World.{asked_of, reply_and_next}
use Rattle.model_world_law.specs.ViewLines.{LinesShow}
use Rattle.ve_session.specs.Asked.{IsAnswered}
use Rattle.ve_session.specs.Laws.{ChangesLead}
use Rattle.ve_session.specs.Opened.{world_on}
use Rattle.ve_sites.specs.Shared.{Shared, site_at, with_site_at}

pub is_told : (k count : ℕ) (old new : Shared) (patches : List Patch) → patches ≡ told (site_at old k) → count ≡ length (site_at old k).replica.items →
    new ≡ with_site_at k (with_told (site_at old k)) old → IsAnswered request.Tell k old (answer.Told count patches) new
is_told k count old new patches is counted same = record {
  replies = λ page.
      ap (λ n. (reply.Told n (told (site_at old k)), (with_site_at k (with_told (site_at old k)) old).session)) (sym counted)
      ∙ ap (λ ps. (reply.Told count ps, (with_site_at k (with_told (site_at old k)) old).session)) (sym is)
      ∙ ap (λ (s : Shared). (reply.Told count patches, s.session)) (sym same);
  first = ap (λ (s : Shared). s.first) same;
  base = ap (λ (s : Shared). s.session.base) same;
  cites = tt;
}

pub changes_lead : LinesShow → ChangesLead
changes_lead shows p lines k m leads there = record {
  reply = ap (λ o. (reply_and_next (world_on p) (asked_of p.page p.session request.Tell k o)).0) there;
  shows = shows lines p.page p.session k m leads there;
}
