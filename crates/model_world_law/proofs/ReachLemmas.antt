-- Every world is reached by events.
use Rattle.std.proofs.Common.{◌≡◌, ℕ, suc, nat_lt, Bool, true, false, List, [], ◌∷◌, ◌++◌, length, slice_get, Option, Some, None, Result, Ok, Err, refl, sym, ap, ◌∙◌, subst}
use Rattle.std.proofs.lemmas.List.{append_assoc, append-nil}
use Rattle.std.specs.Prelude.{IsUtf8, encode_utf8_all, unwrap_or}
use Rattle.model_spelling.specs.declared.scan_fault.ScanFault.{ScanFault}
use Rattle.model_spelling.specs.Forest.{Forest}
use Rattle.model_spelling.specs.Parsed.{forest_of}
use Rattle.model_spelling.specs.Page.{body_at}
use Rattle.model_page.specs.Pieces.{SourceSpan}
use Rattle.model_page.specs.PageItems.{Opened, slice, page_made, page_opened as opened_with_page, opened_forest, opened_body, opened_page}
use Rattle.model_page.specs.OpenPage.{read_page}
use Rattle.model_page_write.specs.PageText.{write}
use Rattle.model_page_law.proofs.OpenPageLemmas.{read_is_within}
use Rattle.model_page_law.proofs.KeptLemmas.{opened_is_written_back}
use Rattle.model_site.specs.Replica.{Replica, opened_with}
use Rattle.model_site.specs.Site.{pending}
use Rattle.model_site.specs.Session.{Session, Member, started}
use Rattle.model_site.specs.Events.{Event, happens, run}
use Rattle.model_site_law.specs.MayHappen.{AllMayHappen}
use Rattle.model_site_law.specs.SelectionLaws.{AllSelectWithin}
use Rattle.model_site_law.proofs.BeginLemmas.{store_begins}
use Rattle.model_site_law.proofs.LawLemmas.{list_is_replay, all_entries_run, list_is_sound, acks_count, run_base, sites_meet, store_holds, first_replica_opens, live_revoke_gives_back, live_revoke_is_without, revoke_leaves_out}
use Rattle.model_site_law.proofs.CountLemmas.{seen_is_committed, sites_stay}
use Rattle.model_site_law.proofs.FreshSessionLemmas.{undone_at_once, undone_is_first}
use Rattle.model_site_law.proofs.QuietLemmas.{quiet_sites_meet}
use Rattle.model_site_law.proofs.KeptLemmas.{first_selection_stands, first_store_is_distinct, selection_stands, store_is_distinct}
use Rattle.model_world.specs.declared.command.Request.{Request}
use Rattle.model_world.specs.declared.command.Command.{Command}
use Rattle.model_world.specs.declared.command.Command.TheVariants.{OpenPage, Ask}
use Rattle.model_world.specs.declared.refusal.Refusal.{Refusal}
use Rattle.model_world.specs.declared.refusal.Refusal.TheVariants.{LineTooLong}
use Rattle.model_world.specs.declared.reply.Reply.TheVariants.{No}
use Rattle.model_world.specs.Commands.{command}
use Rattle.model_world.specs.Refusals.{open_refusal}
use Rattle.model_world.specs.Opening.{open_page}
use Rattle.model_world.specs.Answers.{Outcome, Asked, request_outcome}
use Rattle.ve_base.specs.Limits.{max_line}
use Rattle.model_world.specs.World.{World, Closed, Open, Answer, opened_or_no, on_page, asked_of, answer_of, answered_if, answer, reply_and_next, reply, world_after}
use Rattle.model_world_law.specs.Fit.{RequestRead, LayersFit}
use Rattle.model_world_law.specs.Reached.{Becomes, IsReached, WorldReached, EveryItemStands, EveryWorldIsReached, SiteHolds, EverySiteHolds, SitesMeet, QuietSitesMeet, UneditedIsWrittenBack}
use Rattle.std.specs.List.{AllByRecursion}
use Rattle.model_site_law.specs.ItemLaws.{AllPass, Inserts, any_attr}
use Rattle.model_site_law.specs.Protocol.{Every}
use Rattle.model_site_law.proofs.HintLemmas.{hints_stand_beside}
use Rattle.model_site_law.proofs.ItemLemmas.{items_keep}
use Rattle.model_world_law.specs.Standing.{may_stand}
use Rattle.model_world_law.specs.PutBack.{OriginsStay, has_first}
use Rattle.model_world_law.specs.ViewLines.{teller}
use Rattle.ve_base.specs.declared.attrs.Attr.{Attr}
use Rattle.model_items.specs.declared.plain_item.PlainItem.{PlainItem}
use Rattle.model_world_law.proofs.FirstOrigins.{page_first}
use Rattle.model_world_law.proofs.OriginChanges.{setting_stays}
use Rattle.model_world_law.proofs.ChangeStand.{changes_stand, moves_stand, pages_stand}
use Rattle.model_world_law.proofs.StandLemmas.{setting_keeps}
use Rattle.model_world_law.proofs.LinkLemmas.{Stands, LeadsBy, asked_leads}
use Rattle.model_world_law.proofs.WrittenLemmas.{lines_are_written}
use Rattle.model_world_law.specs.Writable.{EveryItemIsWritable, RequestIsWritable, is_attr, is_writable}
use Rattle.model_world_law.proofs.WritableLemmas.{setting_writes}
use Rattle.model_world_law.proofs.WritableLines.{lines_are_writable}
use Rattle.model_world_law.proofs.WritablePages.{pages_writable}
use Rattle.model_world_law.proofs.ChangeLemmas.{given, changes_fit, pages_are_sound}
use Rattle.model_world_law.proofs.BuilderLemmas.{moves_fit}
use Rattle.model_world_law.proofs.CompletedLemmas.{completed_fit}

pub run-append : (es fs : List Event) (w : Session) → run w (es ++ fs) ≡ run (run w es) fs
run-append [] fs w = refl
run-append (e ∷ es) fs w = run-append es fs (happens w e)

may-append : (es fs : List Event) (w : Session) → AllMayHappen w es → AllMayHappen (run w es) fs → AllMayHappen w (es ++ fs)
may-append [] fs w p q = q
may-append (e ∷ es) fs w p q = (p.0, may-append es fs (happens w e) p.1 q)

within-append : (es fs : List Event) (w : Session) → AllSelectWithin w es → AllSelectWithin (run w es) fs → AllSelectWithin w (es ++ fs)
within-append [] fs w p q = q
within-append (e ∷ es) fs w p q = (p.0, within-append es fs (happens w e) p.1 q)

inserts-append : (test : PlainItem → Bool) (sets : Attr → Bool) (es fs : List Event) → AllByRecursion (Inserts test sets) es → AllByRecursion (Inserts test sets) fs → AllByRecursion (Inserts test sets) (es ++ fs)
inserts-append test sets [] fs p q = q
inserts-append test sets (e ∷ es) fs p q = (p.0, inserts-append test sets es fs p.1 q)

every_from : (P : Member → Type 0) (ms : List Member) → ((k : ℕ) (m : Member) → slice_get ms k ≡ Some m → P m) → Every P ms
every_from P [] h = tt
every_from P (m ∷ ms) h = (h 0 m refl, every_from P ms (λ k n e. h (suc k) n e))

-- the items of each site may stand
reached_stand : (lines : List (List ℕ)) (o : Opened) (w : Session) (k : ℕ) (m : Member) → IsReached lines o w → slice_get w.members k ≡ Some m → IsUtf8 o.page → AllPass may_stand m.site.replica.items
reached_stand lines o w k m r e u =
    items_keep may_stand any_attr (opened_with o.items) r.sites r.events k m setting_keeps r.opens r.may (pages_stand r.text o u r.opened) (r.inserts u)
    (ap (λ (v : Session). slice_get v.members k) (sym r.same) ∙ e)

-- each opening with an origin is the page's
reached_first : (lines : List (List ℕ)) (o : Opened) (w : Session) (k : ℕ) (m : Member) → IsReached lines o w → slice_get w.members k ≡ Some m → AllPass (has_first o.items) m.site.replica.items
reached_first lines o w k m r e =
    items_keep (has_first o.items) any_attr (opened_with o.items) r.sites r.events k m (setting_stays o.items) r.opens r.may (page_first r.text o r.opened) r.origins
    (ap (λ (v : Session). slice_get v.members k) (sym r.same) ∙ e)

-- a line can write the items of each site
reached_writes : (lines : List (List ℕ)) (o : Opened) (w : Session) (k : ℕ) (m : Member) → IsReached lines o w → slice_get w.members k ≡ Some m → IsUtf8 o.page → AllPass is_writable m.site.replica.items
reached_writes lines o w k m r e u =
    items_keep is_writable is_attr (opened_with o.items) r.sites r.events k m setting_writes r.opens r.may (pages_writable r.text o u r.opened) (r.writes u)
    (ap (λ (v : Session). slice_get v.members k) (sym r.same) ∙ e)

-- the base has the page's items, which may stand
base_items : (lines : List (List ℕ)) (o : Opened) (w : Session) → IsReached lines o w → w.base.items ≡ o.items
base_items lines o w r = ap (λ (v : Session). v.base.items) r.same ∙ ap (λ (b : Replica). b.items) (run_base r.events (started (opened_with o.items) r.sites))

base_stands : (lines : List (List ℕ)) (o : Opened) (w : Session) → IsReached lines o w → IsUtf8 o.page → AllPass may_stand w.base.items
base_stands lines o w r u = subst (AllPass may_stand) (sym (base_items lines o w r)) (pages_stand r.text o u r.opened)

-- events lead on from a session that is reached, at one more line
further : {t : Option ℕ} (past : List (List ℕ)) (line : List ℕ) (o : Opened) (w next : Session) → IsReached past o w → Becomes t w next → IsReached (past ++ line ∷ []) o next
further past line o w next r b =
    let base = opened_with o.items in
    let start = started base r.sites in
    let same : next ≡ run start (r.events ++ b.events) = b.same ∙ ap (λ v. run v b.events) r.same ∙ sym (run-append r.events b.events start) in
    record {
      before = r.before;
      line = r.line;
      after = r.after ++ line ∷ [];
      split = sym (append_assoc r.before (r.line ∷ r.after) (line ∷ [])) ∙ ap (λ ls. ls ++ line ∷ []) r.split;
      text = r.text;
      sites = r.sites;
      asked = r.asked;
      opened = r.opened;
      members = ap (λ (v : Session). length v.members) same ∙ sites_stay base r.sites (r.events ++ b.events);
      events = r.events ++ b.events;
      opens = r.opens;
      may = may-append r.events b.events start r.may (subst (λ v. AllMayHappen v b.events) r.same b.may);
      within = within-append r.events b.events start r.within (subst (λ v. AllSelectWithin v b.events) r.same b.within);
      inserts = λ u. inserts-append may_stand any_attr r.events b.events (r.inserts u) (b.inserts (base_stands past o w r u) (every_from (λ m. AllPass may_stand m.site.replica.items) w.members (λ k m e. reached_stand past o w k m r e u)));
      origins = inserts-append (has_first o.items) any_attr r.events b.events r.origins
          (subst (λ items. Every (λ m. AllPass (has_first items) m.site.replica.items) w.members → AllByRecursion (Inserts (has_first items) any_attr) b.events) (base_items past o w r) b.origins
          (every_from (λ m. AllPass (has_first o.items) m.site.replica.items) w.members (λ k m e. reached_first past o w k m r e)));
      writes = λ u. inserts-append is_writable is_attr r.events b.events (r.writes u) (b.writes (every_from (λ m. AllPass is_writable m.site.replica.items) w.members (λ k m e. reached_writes past o w k m r e u)));
      same = same;
    }

-- a line that changes nothing
unchanged : (past : List (List ℕ)) (line : List ℕ) (w : World) → WorldReached past w → WorldReached (past ++ line ∷ []) w
unchanged past line Closed reached = tt
unchanged past line (Open o w) reached = further {t = None} past line o w w reached (record { events = []; may = tt; within = tt; inserts = λ base every. tt; origins = λ every. tt; writes = λ every. tt; told = λ k before. refl; same = refl })

-- the site that is asked stands
pub site_stands : (past : List (List ℕ)) (o : Opened) (w : Session) (k : ℕ) (m : Member) → IsReached past o w → slice_get w.members k ≡ Some m →
    Stands (record { page = o; session = w; k = k; member = m })
site_stands past o w k m r e =
    let base = opened_with o.items in
    let there = ap (λ (v : Session). slice_get v.members k) (sym r.same) ∙ e in
    record {
      there = e;
      sound = list_is_sound base r.sites r.events k m r.opens r.may there;
      selection = selection_stands base r.sites r.events k m r.opens (first_selection_stands o.items) r.may r.within there;
      opened = pages_are_sound r.text o r.opened;
      base = base_items past o w r;
    }

-- ---- answers

abbrev AnswerReached : List (List ℕ) → Answer → Type 0
AnswerReached lines (Ok r) = WorldReached lines r.1
AnswerReached lines (Err r) = Unit {0}

page_reached : (t : Option ℕ) (past : List (List ℕ)) (line : List ℕ) (o : Opened) (w : Session) → IsReached past o w → (a : Asked) → a.session ≡ w → (r : Outcome) → LeadsBy t a r →
    AnswerReached (past ++ line ∷ []) (on_page o r)
page_reached t past line o w reached a e (Ok r) b = further past line o w r.1 reached (subst (λ v. Becomes t v r.1) e b)
page_reached t past line o w reached a e (Err r) b = tt

member_reached : LayersFit → (past : List (List ℕ)) (line : List ℕ) (o : Opened) (w : Session) → IsReached past o w → (r : Request) (k : ℕ) → RequestRead r → RequestIsWritable r →
    (x : Option Member) → slice_get w.members k ≡ x → AnswerReached (past ++ line ∷ []) (asked_of o w r k x)
member_reached fit past line o w reached r k written says None e = tt
member_reached fit past line o w reached r k written says (Some m) e =
    let a : Asked = record { page = o; session = w; k = k; member = m } in
    page_reached (teller r k) past line o w reached a refl (request_outcome a r) (asked_leads fit a (site_stands past o w k m reached e) r written says)

ask_reached : LayersFit → (past : List (List ℕ)) (line : List ℕ) (w : World) → WorldReached past w → (r : Request) (k : ℕ) → RequestRead r → RequestIsWritable r →
    AnswerReached (past ++ line ∷ []) (answer_of w (Ask r k))
ask_reached fit past line Closed reached r k written says = tt
ask_reached fit past line (Open o w) reached r k written says = member_reached fit past line o w reached r k written says (slice_get w.members k) refl

open_reached : LayersFit → (past : List (List ℕ)) (line page : List ℕ) (sites : ℕ) → command line ≡ Ok (OpenPage page sites) → (x : Result Opened Refusal) → open_page page ≡ x →
    AnswerReached (past ++ line ∷ []) (opened_or_no sites x)
open_reached fit past line page sites c (Err r) e = tt
open_reached fit past line page sites c (Ok o) e = record {
  before = past;
  line = line;
  after = [];
  split = refl;
  text = page;
  sites = sites;
  asked = c;
  opened = e;
  members = sites_stay (opened_with o.items) sites [];
  events = [];
  opens = first_replica_opens o.items (fit.pages page o e);
  may = tt;
  within = tt;
  inserts = λ u. tt;
  origins = tt;
  writes = λ u. tt;
  same = refl;
}

command_reached : LayersFit → (past : List (List ℕ)) (w : World) → WorldReached past w → (line : List ℕ) (x : Result Command Refusal) → command line ≡ x →
    AnswerReached (past ++ line ∷ []) (answered_if w x)
command_reached fit past w reached line (Err r) e = tt
command_reached fit past w reached line (Ok (OpenPage page sites)) e = open_reached fit past line page sites e (open_page page) refl
command_reached fit past w reached line (Ok (Ask r k)) e = ask_reached fit past line w reached r k (fit.lines line r k e) (lines_are_writable line r k e)

line_reached : LayersFit → (past : List (List ℕ)) (w : World) → WorldReached past w → (line : List ℕ) → AnswerReached (past ++ line ∷ []) (answer w line)
line_reached fit past w reached line = by_length (nat_lt max_line (length line))
  where
    by_length : (b : Bool) → AnswerReached (past ++ line ∷ []) (elim b as (λ _. Answer) [
      | true ↦ Err (No (LineTooLong (length line)))
      | false ↦ answered_if w (command line)
    ])
    by_length true = tt
    by_length false = command_reached fit past w reached line (command line) refl

pub reply_reached : LayersFit → (past : List (List ℕ)) (w : World) → WorldReached past w → (line : List ℕ) → WorldReached (past ++ line ∷ []) (reply w line).1
reply_reached fit past w reached line = by_answer (answer w line) (line_reached fit past w reached line)
  where
    by_answer : (a : Answer) → AnswerReached (past ++ line ∷ []) a → WorldReached (past ++ line ∷ []) (reply_and_next w a).1
    by_answer (Ok r) p = p
    by_answer (Err r) p = unchanged past line w reached

lines_reached : LayersFit → (lines past : List (List ℕ)) (w : World) → WorldReached past w → WorldReached (past ++ lines) (world_after w lines)
lines_reached fit [] past w reached = subst (λ ls. WorldReached ls w) (sym (append-nil past)) reached
lines_reached fit (line ∷ lines) past w reached =
    subst (λ ls. WorldReached ls (world_after (reply w line).1 lines)) (append_assoc past (line ∷ []) lines)
    (lines_reached fit lines (past ++ line ∷ []) (reply w line).1 (reply_reached fit past w reached line))

pub layers_fit : LayersFit
layers_fit = record {
  lines = lines_are_written;
  completed = completed_fit;
  changes = changes_fit;
  moves = moves_fit;
  pages = pages_are_sound;
  changes_stand = changes_stand;
  moves_stand = moves_stand;
  pages_stand = pages_stand;
}

pub every_world_is_reached : EveryWorldIsReached
every_world_is_reached lines = lines_reached layers_fit lines [] Closed tt

-- ---- each site

pub site_holds : (lines : List (List ℕ)) (o : Opened) (w : Session) (k : ℕ) (m : Member) → IsReached lines o w → slice_get w.members k ≡ Some m → SiteHolds (opened_with o.items) w m
site_holds lines o w k m r e =
    let base = opened_with o.items in
    let there = ap (λ (v : Session). slice_get v.members k) (sym r.same) ∙ e in
    subst (λ v. SiteHolds base v m) (sym r.same) (record {
      base_stays = run_base r.events (started base r.sites);
      sound = list_is_sound base r.sites r.events k m r.opens r.may there;
      list = list_is_replay base r.sites r.events k m r.opens r.may there;
      runs = all_entries_run base r.sites r.events k m r.opens r.may there;
      seen = seen_is_committed base r.sites r.events k m r.opens r.may there;
      beside = hints_stand_beside base r.sites r.events k m r.opens r.may there;
      stored = store_holds base r.sites r.events k m r.opens r.may there;
      distinct = store_is_distinct base r.sites r.events k m r.opens (first_store_is_distinct o.items) r.may there;
      begins = store_begins base r.sites r.events k m r.opens r.may there;
      selection = selection_stands base r.sites r.events k m r.opens (first_selection_stands o.items) r.may r.within there;
      acknowledged = acks_count base r.sites r.events k m r.opens r.may there;
      revoked = λ i next below e. revoke_leaves_out base r.sites r.events k m r.opens r.may there i next below e;
      revoked_live = λ i next below e. live_revoke_is_without base r.sites r.events k m r.opens r.may there i next below e;
      given_back = λ i below none. live_revoke_gives_back base r.sites r.events k m r.opens r.may there i below none;
      undone_at_once = λ ts next may e. undone_at_once base r.sites r.events k m r.opens r.may there ts next may e;
      undone = undone_is_first base r.sites r.events k m r.opens r.may there;
    })

pub every_item_stands : EveryItemStands
every_item_stands lines page w k m h e u = reached_stand lines page w k m (subst (WorldReached lines) h (every_world_is_reached lines)) e u

pub every_item_is_writable : EveryItemIsWritable
every_item_is_writable lines page w k m h e u = reached_writes lines page w k m (subst (WorldReached lines) h (every_world_is_reached lines)) e u

pub origins_stay : OriginsStay
origins_stay lines page w k m h e = reached_first lines page w k m (subst (WorldReached lines) h (every_world_is_reached lines)) e

pub every_site_holds : EverySiteHolds
every_site_holds lines page w k m h e = site_holds lines page w k m (subst (WorldReached lines) h (every_world_is_reached lines)) e

meet : (lines : List (List ℕ)) (o : Opened) (w : Session) (k l : ℕ) (m n : Member) → IsReached lines o w → slice_get w.members k ≡ Some m → slice_get w.members l ≡ Some n →
    m.site.seen ≡ n.site.seen → pending m.site ≡ [] → pending n.site ≡ [] → m.site.replica.items ≡ n.site.replica.items
meet lines o w k l m n r d e seen none none' =
    sites_meet (opened_with o.items) r.sites r.events k l m n r.opens r.may
    (ap (λ (v : Session). slice_get v.members k) (sym r.same) ∙ d) (ap (λ (v : Session). slice_get v.members l) (sym r.same) ∙ e) seen none none'

pub all_sites_meet : SitesMeet
all_sites_meet lines page w k l m n h = meet lines page w k l m n (subst (WorldReached lines) h (every_world_is_reached lines))

quiet : (lines : List (List ℕ)) (o : Opened) (w : Session) (k l : ℕ) (m n : Member) → IsReached lines o w → slice_get w.members k ≡ Some m → slice_get w.members l ≡ Some n →
    m.feeds ≡ [] → n.feeds ≡ [] → pending m.site ≡ [] → pending n.site ≡ [] → m.site.replica.items ≡ n.site.replica.items
quiet lines o w k l m n r d e =
    quiet_sites_meet (opened_with o.items) r.sites r.events k l m n r.opens r.may
    (ap (λ (v : Session). slice_get v.members k) (sym r.same) ∙ d) (ap (λ (v : Session). slice_get v.members l) (sym r.same) ∙ e)

pub quiet_sites_meet_after_lines : QuietSitesMeet
quiet_sites_meet_after_lines lines page w k l m n h d e none none' pending pending' =
    let same = quiet lines page w k l m n (subst (WorldReached lines) h (every_world_is_reached lines)) d e none none' pending pending' in
    (same, ap (write page) same)

-- ---- a page that was not edited

of_forest : (page : List ℕ) (body : SourceSpan) (f : Option Forest) (o : Opened) → opened_forest page body f ≡ Some o → o.page ≡ page
of_forest page body None o h = cc
of_forest page body (Some f) o h =
    let first : Opened = opened_with_page page body (page_made body.from f) in
    let is : first ≡ o = let p : ◌≡◌ {A = Option Opened} (Some first) (Some o) = h in ap (λ x. unwrap_or x first) p in
    ap (λ x. x.page) (sym is)

of_body : (page : List ℕ) (body : Result (ℕ × ℕ) ScanFault) (o : Opened) → opened_body page body ≡ Some o → o.page ≡ page
of_body page (Err f) o h = cc
of_body page (Ok body) o h = of_forest page (record { from = body.0; to = body.1 }) (forest_of (slice page body.0 body.1)) o h

written_back : (o : Opened) (text : List ℕ) → open_page text ≡ Ok o → IsUtf8 o.page → write o o.items ≡ o.page
written_back o text h u =
    let bytes = encode_utf8_all text in
    let opens : opened_page bytes ≡ Some o = (read_is_within bytes o (given open_refusal (read_page bytes) o h)).opens in
    let same : o.page ≡ bytes = of_body bytes (body_at bytes) o opens in
    opened_is_written_back o.page o u (ap opened_page same ∙ opens)

unedited : (lines : List (List ℕ)) (o : Opened) (w : Session) (m : Member) → IsReached lines o w → IsUtf8 o.page → m.site.replica.items ≡ o.items → write o m.site.replica.items ≡ o.page
unedited lines o w m r u e = ap (write o) e ∙ written_back o r.text r.opened u

pub unedited_is_written_back : UneditedIsWrittenBack
unedited_is_written_back lines page w k m h e u same = unedited lines page w m (subst (WorldReached lines) h (every_world_is_reached lines)) u same
