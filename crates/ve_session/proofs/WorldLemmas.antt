-- The outcome of a request in a world, and the invariant of the site that is asked.
use Rattle.std.proofs.Common.{◌≡◌, ◌≤◌, ◌<◌, ℕ, Bool, true, false, List, [], ◌∷◌, ◌++◌, length, if◌then◌else◌, refl, ap, sym, ◌∙◌, Some, None, leb-true}
use Rattle.std.proofs.lemmas.Option.{slice_get-get_or, slice_get_past}
use Rattle.std.specs.Prelude.{nat_le, nat_lt, Result, Ok, Err, slice_get}
use Rattle.ve_base.specs.Limits.{max_line}
use Rattle.model_page.specs.PageItems.{Opened}
use Rattle.model_script.specs.Output.{state_after}
use Rattle.model_site.specs.Session.{Session, joining}
use Rattle.model_world.specs.declared.command.Command.{Command}
use Rattle.model_world.specs.declared.command.Command.TheVariants.{Ask, OpenPage}
use Rattle.model_world.specs.declared.command.Request.{Request}
use Rattle.model_world.specs.declared.refusal.Refusal.{Refusal}
use Rattle.model_world.specs.declared.refusal.Refusal.TheVariants.{BadSite, LineTooLong, NotOpen}
use Rattle.model_world.specs.declared.reply.Reply.{Reply}
use Rattle.model_world.specs.declared.reply.Reply.TheVariants.{Length, No}
use Rattle.model_world.specs.Answers.{Outcome, request_outcome}
use Rattle.model_world.specs.Commands.{command}
use Rattle.model_world.specs.Opening.{open_page, session_of}
use Rattle.model_world.specs.World.{World, Closed, Open, Answer as WorldAnswer, answered_if, asked_of, meaning, on_page, opened_or_no, reply, reply_and_next, world_after}
use Rattle.model_world.specs.Cost.{cost_at, cost_of_command, cost_of_opening}
use Rattle.ve_json.specs.declared.answer.Answer.{Answer}
use Rattle.ve_json.specs.Answers.{reply_of}
use Rattle.ve_session.specs.Asked.{asker, barred, completed_request, cost_completed, kept_or_new, reply_and_world, IsAnswered, IsAsked}
use Rattle.ve_session.specs.Opened.{IsLed, MayOpen, OnPage, world_on}
use Rattle.ve_session.proofs.CompletedLemmas.{costs_are_completed, outcomes_are}
use Rattle.ve_sites.specs.Shared.{Shared, member_at, sites}

-- ---- one line more

state_on : (w : World) (lines more : List (List ℕ)) → state_after meaning w (lines ++ more) ≡ state_after meaning (state_after meaning w lines) more
state_on w [] more = refl
state_on w (line ∷ lines) more = state_on (reply w line).1 lines more

-- the answer to a line of this length, which reads so
answer_by : World → List ℕ → Bool → Result Command Refusal → WorldAnswer
answer_by w line long read = elim long [
  | true ↦ Err (No (LineTooLong (length line)))
  | false ↦ answered_if w read
]

pub reply_is : (w : World) (line : List ℕ) (c : Command) → nat_lt max_line (length line) ≡ false → command line ≡ Ok c → reply w line ≡ reply_and_world w c
unfolding answer_by
reply_is w line c within asks =
    ap (λ long. reply_and_next w (answer_by w line long (command line))) within
    ∙ ap (λ read. reply_and_next w (answer_by w line false read)) asks

pub reply_refused : (w : World) (line : List ℕ) (why : Refusal) → nat_lt max_line (length line) ≡ false → command line ≡ Err why → reply w line ≡ (No why, w)
unfolding answer_by
reply_refused w line why within asks =
    ap (λ long. reply_and_next w (answer_by w line long (command line))) within
    ∙ ap (λ read. reply_and_next w (answer_by w line false read)) asks

pub reply_long : (w : World) (line : List ℕ) → nat_lt max_line (length line) ≡ true → reply w line ≡ (No (LineTooLong (length line)), w)
unfolding answer_by
reply_long w line long = ap (λ l. reply_and_next w (answer_by w line l (command line))) long

leads_on : (w : World) (lines : List (List ℕ)) (line : List ℕ) (c : Command) → world_after Closed lines ≡ w → nat_lt max_line (length line) ≡ false → command line ≡ Ok c →
    world_after Closed (lines ++ line ∷ []) ≡ (reply_and_world w c).1
leads_on w lines line c led within asks =
    state_on Closed lines (line ∷ [])
    ∙ ap (λ v. (reply v line).1) led
    ∙ ap (λ r. r.1) (reply_is w line c within asks)

-- ---- so lines lead to what a command that is asked leads to

pub led_after : (w : World) (c : Command) → IsLed w → IsAsked c → IsLed (reply_and_world w c).1
led_after w c led asked = record {
  lines = led.lines ++ asked.line ∷ [];
  leads = leads_on w led.lines asked.line c led.leads asked.within asked.asks;
}

pub may_open : (w : World) (text : List ℕ) (sites : ℕ) → IsLed w → IsAsked (OpenPage text sites) → MayOpen text sites
may_open w text sites led asked = record {
  lines = led.lines ++ asked.line ∷ [];
  leads = λ page opens.
      leads_on w led.lines asked.line (OpenPage text sites) led.leads asked.within asked.asks
      ∙ ap (λ r. (reply_and_next w (opened_or_no sites r)).1) opens;
}

pub closed_is_led : IsLed Closed
closed_is_led = record { lines = []; leads = refl }

-- ---- a page that opens

pub opened_is : (w : World) (text : List ℕ) (sites : ℕ) (p : OnPage) → open_page text ≡ Ok p.page → p.session ≡ session_of p.page sites →
    reply_and_world w (OpenPage text sites) ≡ (Length (length p.page.items), world_on p)
opened_is w text sites p opens session =
    ap (λ r. reply_and_next w (opened_or_no sites r)) opens ∙ ap (λ (s : Session). (Length (length p.page.items), Open p.page s)) (sym session)

pub unopened_is : (w : World) (text : List ℕ) (sites : ℕ) (why : Refusal) → open_page text ≡ Err why → reply_and_world w (OpenPage text sites) ≡ (No why, w)
unopened_is w text sites why e = ap (λ r. reply_and_next w (opened_or_no sites r)) e

pub opening_costs : (w : World) (text : List ℕ) (sites : ℕ) → cost_of_command w (Ok (OpenPage text sites)) ≡ cost_of_opening sites (open_page text)
opening_costs Closed text sites = refl
opening_costs (Open page session) text sites = refl

-- ---- a site that is asked

settles : (page : Opened) (w : Session) (o : Outcome) → reply_and_next (Open page w) (on_page page o) ≡ ((kept_or_new w o).0, Open page (kept_or_new w o).1)
settles page w (Ok both) = refl
settles page w (Err refused) = refl

module _ (page : Opened) (old : Shared) (k : ℕ) (r : Request) (within : k < sites old) where
  pub there : slice_get old.session.members k ≡ Some (member_at old k)
  there = slice_get-get_or old.session.members k (joining old.session.base) within

  pub obeyed_is : reply_and_world (Open page old.session) (Ask r k)
      ≡ ((kept_or_new old.session (request_outcome (asker page old k) r)).0, Open page (kept_or_new old.session (request_outcome (asker page old k) r)).1)
  obeyed_is =
      ap (λ m. reply_and_next (Open page old.session) (asked_of page old.session r k m)) there
      ∙ settles page old.session (request_outcome (asker page old k) r)

  pub obeyed_so : (new : Shared) (answer : Answer) → IsAnswered (completed_request page.items r) k old answer new →
      reply_and_world (Open page old.session) (Ask r k) ≡ (reply_of answer, Open page new.session)
  obeyed_so new answer is =
      obeyed_is
      ∙ ap (λ o. ((kept_or_new old.session o).0, Open page (kept_or_new old.session o).1)) (outcomes_are (asker page old k) r)
      ∙ ap (λ (x : Reply × Session). (x.0, Open page x.1)) (is.replies page)

  pub costs_are : cost_of_command (Open page old.session) (Ok (Ask r k)) ≡ cost_completed old.session (member_at old k) (completed_request page.items r)
  costs_are = ap (cost_at page.items old.session r) there ∙ costs_are_completed page.items old.session (member_at old k) r

-- there is no such site
pub bad_site : (p : OnPage) (k : ℕ) (r : Request) → length p.session.members ≤ k →
    reply_and_world (world_on p) (Ask r k) ≡ (No (BadSite (length p.session.members)), world_on p)
bad_site p k r past = ap (λ m. reply_and_next (world_on p) (asked_of p.page p.session r k m)) (slice_get_past p.session.members k past)

-- ---- no site is asked

pub site_barred : (w : World) (k : ℕ) (r : Request) (why : Refusal) → Some why ≡ barred w k → reply_and_world w (Ask r k) ≡ (No why, w)
site_barred Closed k r why e = let same : NotOpen ≡ why = cc in ap (λ x. (No x, Closed)) same
site_barred (Open page session) k r why e = by (nat_le (length session.members) k) refl e
  where
    by : (b : Bool) → nat_le (length session.members) k ≡ b → Some why ≡ (if b then Some (BadSite (length session.members)) else None) →
        reply_and_world (Open page session) (Ask r k) ≡ (No why, Open page session)
    by true past e =
        let same : BadSite (length session.members) ≡ why = cc in
        bad_site (record { page = page; session = session }) k r (leb-true (length session.members) k past) ∙ ap (λ x. (No x, Open page session)) same
    by false there e = cc
