-- What a site would tell leads from the list that it told last, line by line.
use Rattle.std.proofs.Common.{◌≡◌, ℕ, nat_lt, Bool, true, false, List, [], ◌∷◌, ◌++◌, length, slice_get, Option, Some, None, Result, Ok, Err, refl, sym, subst}
use Rattle.model_items.specs.declared.plain_item.PlainItem.{PlainItem}
use Rattle.model_page.specs.PageItems.{Opened}
use Rattle.model_site.specs.Replica.{opened_with}
use Rattle.model_site.specs.Session.{Member, Session}
use Rattle.model_site.specs.Site.{told}
use Rattle.model_site_law.specs.Protocol.{SessionHolds}
use Rattle.model_site_law.specs.ViewLaws.{patched, told_last, whole}
use Rattle.model_site_law.proofs.LawLemmas.{holds_in_end}
use Rattle.model_site_law.proofs.ShownLemmas.{view_from_shows}
use Rattle.model_site_law.proofs.ToldLemmas.{Of, run_leads, starts_of, told_shows}
use Rattle.ve_base.specs.Limits.{max_line}
use Rattle.model_world.specs.declared.command.Request.{Request}
use Rattle.model_world.specs.declared.command.Command.{Command}
use Rattle.model_world.specs.declared.command.Command.TheVariants.{OpenPage, Ask}
use Rattle.model_world.specs.declared.refusal.Refusal.{Refusal}
use Rattle.model_world.specs.declared.refusal.Refusal.TheVariants.{LineTooLong}
use Rattle.model_world.specs.declared.reply.Reply.TheVariants.{No}
use Rattle.model_world.specs.Commands.{command}
use Rattle.model_world.specs.Opening.{open_page}
use Rattle.model_world.specs.Answers.{Asked, Outcome, request_outcome}
use Rattle.model_world.specs.World.{Answer, World, Closed, Open, answer, answer_of, answered_if, asked_of, on_page, opened_or_no, reply, reply_and_next, world_after}
use Rattle.model_world_law.specs.Fit.{LayersFit, RequestRead}
use Rattle.model_world_law.specs.Reached.{IsReached, WorldReached, told_if}
use Rattle.model_world_law.specs.ViewLines.{LinesShow, teller, told_at_line, told_if_accepted, told_if_read, told_last_line}
use Rattle.model_world_law.specs.Writable.{RequestIsWritable}
use Rattle.model_world_law.proofs.WritableLines.{lines_are_writable}
use Rattle.model_world_law.proofs.LinkLemmas.{LeadsBy, asked_leads}
use Rattle.model_world_law.proofs.ReachLemmas.{layers_fit, reply_reached, site_stands}

module _ (k : ℕ) where
  -- what the site at k would tell leads from this list
  abbrev WorldLeads : World → List PlainItem → Type 0
  WorldLeads Closed last = Unit {0}
  WorldLeads (Open page session) last = Of k last session.members

  abbrev AnswerLeads : Answer → List PlainItem → Type 0
  AnswerLeads (Ok r) last = WorldLeads r.1 last
  AnswerLeads (Err r) last = Unit {0}

  session_holds : (past : List (List ℕ)) (o : Opened) (w : Session) → IsReached past o w → SessionHolds w
  session_holds past o w r = subst SessionHolds (sym r.same) (holds_in_end (opened_with o.items) r.sites r.events r.opens r.may)

  outcome_leads : (past : List (List ℕ)) (o : Opened) (a : Asked) (t : Option ℕ) (last : List PlainItem) → IsReached past o a.session → Of k last a.session.members →
      (r : Outcome) → LeadsBy t a r → AnswerLeads (on_page o r) (told_if t k a.session last)
  outcome_leads past o a t last reached all (Err r) b = tt
  outcome_leads past o a t last reached all (Ok r) b =
      subst (λ l. Of k l r.1.members) (b.told k last)
      (subst (λ (v : Session). Of k (told_last k a.session b.events last) v.members) (sym b.same)
      (run_leads k b.events a.session last (session_holds past o a.session reached) all b.may))

  member_leads : LayersFit → (past : List (List ℕ)) (o : Opened) (w : Session) (last : List PlainItem) → IsReached past o w → Of k last w.members → (r : Request) (j : ℕ) → RequestRead r → RequestIsWritable r →
      (x : Option Member) → slice_get w.members j ≡ x → AnswerLeads (asked_of o w r j x) (told_if (teller r j) k w last)
  member_leads fit past o w last reached all r j written says None e = tt
  member_leads fit past o w last reached all r j written says (Some m) e =
      let a : Asked = record { page = o; session = w; k = j; member = m } in
      outcome_leads past o a (teller r j) last reached all (request_outcome a r) (asked_leads fit a (site_stands past o w j m reached e) r written says)

  ask_leads : LayersFit → (past : List (List ℕ)) (w : World) (last : List PlainItem) → WorldReached past w → WorldLeads w last → (r : Request) (j : ℕ) → RequestRead r → RequestIsWritable r →
      AnswerLeads (answer_of w (Ask r j)) (told_if_read k w (Ok (Ask r j)) last)
  ask_leads fit past Closed last reached all r j written says = tt
  ask_leads fit past (Open o w) last reached all r j written says = member_leads fit past o w last reached all r j written says (slice_get w.members j) refl

  open_leads : (sites : ℕ) (x : Result Opened Refusal) → AnswerLeads (opened_or_no sites x) []
  open_leads sites (Err r) = tt
  open_leads sites (Ok o) = starts_of k sites (opened_with o.items)

  command_leads : LayersFit → (past : List (List ℕ)) (w : World) (last : List PlainItem) → WorldReached past w → WorldLeads w last → (line : List ℕ) (x : Result Command Refusal) → command line ≡ x →
      AnswerLeads (answered_if w x) (told_if_read k w x last)
  command_leads fit past w last reached all line (Err r) e = tt
  command_leads fit past w last reached all line (Ok (OpenPage page sites)) e = open_leads sites (open_page page)
  command_leads fit past w last reached all line (Ok (Ask r j)) e = ask_leads fit past w last reached all r j (fit.lines line r j e) (lines_are_writable line r j e)

  line_leads : LayersFit → (past : List (List ℕ)) (w : World) (last : List PlainItem) → WorldReached past w → WorldLeads w last → (line : List ℕ) →
      AnswerLeads (answer w line) (told_if_read k w (command line) last)
  line_leads fit past w last reached all line = by_length (nat_lt max_line (length line))
    where
      by_length : (b : Bool) → AnswerLeads (elim b as (λ _. Answer) [
        | true ↦ Err (No (LineTooLong (length line)))
        | false ↦ answered_if w (command line)
      ]) (told_if_read k w (command line) last)
      by_length true = tt
      by_length false = command_leads fit past w last reached all line (command line) refl

  reply_leads : (past : List (List ℕ)) (w : World) (last : List PlainItem) → WorldReached past w → WorldLeads w last → (line : List ℕ) →
      WorldLeads (reply w line).1 (told_at_line k w line last)
  reply_leads past w last reached all line = by_answer (answer w line) (line_leads layers_fit past w last reached all line)
    where
      by_answer : (a : Answer) → AnswerLeads a (told_if_read k w (command line) last) →
          WorldLeads (reply_and_next w a).1 (told_if_accepted a last (told_if_read k w (command line) last))
      by_answer (Ok r) p = p
      by_answer (Err r) p = all

  lines_lead : (lines past : List (List ℕ)) (w : World) (last : List PlainItem) → WorldReached past w → WorldLeads w last →
      WorldLeads (world_after w lines) (told_last_line k w lines last)
  lines_lead [] past w last reached all = all
  lines_lead (line ∷ lines) past w last reached all =
      lines_lead lines (past ++ line ∷ []) (reply w line).1 (told_at_line k w line last) (reply_reached layers_fit past w reached line)
      (reply_leads past w last reached all line)

pub lines_show : LinesShow
lines_show lines page w k m h e =
    let last = told_last_line k Closed lines [] in
    let leads = subst (λ v. WorldLeads k v last) h (lines_lead k lines [] Closed [] tt tt) in
    view_from_shows (patched (told m.site) (whole last)) m.site.replica.items
    (told_shows last m.site.replica.items m.site.untold (leads m e))
