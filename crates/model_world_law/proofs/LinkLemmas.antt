-- Each accepted request is some events of the session.
use Rattle.std.proofs.Common.{◌≡◌, ◌<◌, ℕ, zero, suc, nat_lt, Bool, true, false, List, [], ◌∷◌, length, map, slice_get, slice_range, ◌||◌, Option, Some, None, Result, Ok, Err, if◌then◌else◌, unwrap_or, refl, sym, ap, ◌∙◌, subst}
use Rattle.std.specs.List.{AllByRecursion}
use Rattle.std.proofs.lemmas.Bool.{or_parts, ltb-true, ltb-false}
use Rattle.model_items.specs.declared.plain_item.PlainItem.{PlainItem}
use Rattle.model_items.specs.Law.{Lawful}
use Rattle.model_items.proofs.LawLemmas.{Ok-same}
use Rattle.model_change.specs.Transaction.{Transaction, all_inserted}
use Rattle.model_edit.specs.declared.selection.Selection.{Selection}
use Rattle.model_edit.specs.Causes.{TableCause, ListCause}
use Rattle.model_edit.specs.declared.selection.Dir.{Dir}
use Rattle.model_edit.specs.declared.selection.By.{By}
use Rattle.model_items.specs.Offsets.{kind_at, is_content, is_inside_leaf}
use Rattle.model_edit.specs.Insert.{marks_before, text_insertion}
use Rattle.model_edit.specs.Next.{next}
use Rattle.model_edit.specs.Translate.{between}
use Rattle.model_edit_law.proofs.NextLemmas.{caret_stays_in_branch}
use Rattle.model_edit.specs.Grid.{Grid, grid}
use Rattle.model_edit.specs.Tables.{row_in, row_out, col_in, col_out}
use Rattle.model_edit.specs.Lists.{indent, outdent}
use Rattle.model_site.specs.Causes.{UndoCause, RedoCause, SendCause}
use Rattle.model_site.specs.declared.served.Served.{Served}
use Rattle.model_site.specs.declared.taken.Taken.{Taken}
use Rattle.model_site.specs.Replica.{Replica, performed, all_performed}
use Rattle.model_site.specs.Live.{RevokeCause}
use Rattle.model_site.specs.Site.{Site, Submission, with_entry, with_selection, with_told, undo, redo, send, revoke_entry}
use Rattle.model_site.specs.Session.{Session, Member, put_member, with_member, serve_next, take_next}
use Rattle.model_site.specs.Events.{Event, Perform, Select, Undo, Redo, Revoke, Send, Serve, Take, Tell, at_member, with_site_of, with_sent, after_turn, happens}
use Rattle.model_site.specs.Events as events
use Rattle.model_site_law.specs.Sound.{Sound, MayRun, AllMayRun}
use Rattle.model_site_law.specs.MayHappen.{MayHappen}
use Rattle.model_site_law.specs.SelectionLaws.{StandsIn, SelectsWithin}
use Rattle.model_site_law.specs.SelectionLaws as selection
use Rattle.model_world.specs.declared.edit_command.TextMarks.TheVariants.{Left}
use Rattle.model_world.specs.declared.edit_command.EditCommand.{EditCommand}
use Rattle.model_world.specs.declared.edit_command.EditCommand.TheVariants as change
use Rattle.model_world.specs.declared.command.Request.{Request}
use Rattle.model_world.specs.declared.command.Request.TheVariants as request
use Rattle.model_world.specs.declared.refusal.Refusal.{Refusal}
use Rattle.model_world.specs.declared.refusal.Refusal.TheVariants.{BadRange, BadOffset, BadEntry, NotContent}
use Rattle.model_world.specs.declared.reply.Reply.TheVariants as reply
use Rattle.model_world.specs.Refusals.{refused_as, build_refusal, undo_refusal, redo_refusal, send_refusal, revoke_refusal, table_refusal, list_refusal}
use Rattle.model_world.specs.Completed.{completed}
use Rattle.model_world.specs.Edits.{BatchRefusal, checked_transaction, change_of, change_on, batch_on}
use Rattle.model_world.specs.Answers.{Outcome, Asked, request_outcome, with_site, site_of, replica_of, site_items, unchanged_outcome, refusal_outcome, changed_or_no, performed_or_no, batch_or_no, selection_outcome, is_no_end, select_between, next_place, moved_or_no, lower, higher, is_collapsed, to_erase, erased_or_no, typing, after_text, typed_or_no, items_shown_or_no, node_told, node_or_no, content_near, offset_told, near_or_no, grid_or_no, table_changed, list_changed, sent_or_no, served_or_no, taken_or_no, revoked_or_no, edge_or, told_outcome}
use Rattle.model_site_law.specs.ItemLaws.{AllPass, AllPutIn, Inserts, any_attr}
use Rattle.model_site_law.specs.Protocol.{Every}
use Rattle.model_site_law.proofs.ItemLemmas.{puts_any}
use Rattle.model_site_law.proofs.SessionLemmas.{every_get}
use Rattle.model_world_law.specs.Standing.{may_stand}
use Rattle.model_world_law.proofs.StandLemmas.{setting_keeps}
use Rattle.model_world_law.specs.Fit.{Fit, InsertsStanding, IsRead, RequestRead, LayersFit}
use Rattle.model_world.specs.Laws.{MadeInTurn}
use Rattle.model_world.proofs.BatchLemmas.{batch_is_whole}
use Rattle.model_site_law.specs.ViewLaws.{told_at}
use Rattle.model_world_law.specs.Reached.{Becomes, told_if}
use Rattle.model_world_law.specs.ViewLines.{teller}
use Rattle.model_world_law.proofs.ChangeLemmas.{formed_fits, given}
use Rattle.model_world_law.proofs.ChangeStand.{standing_stands}
use Rattle.model_world_law.proofs.CompletedLemmas.{AllFormed, AllInsertWell, IsFormed, InsertsWell, all_completed_formed, all_completed_insert_well, completed_inserts_well, completed_is_formed}
use Rattle.model_world_law.specs.PutBack.{has_first}
use Rattle.model_world_law.proofs.OriginChanges.{ChangeFirst, all_completed_first, change_first, completed_first, setting_stays}
use Rattle.model_world_law.proofs.OriginEdits as edit
use Rattle.model_world_law.specs.Writable.{ChangeIsWritable, RequestIsWritable, is_attr, is_writable}
use Rattle.model_world_law.proofs.WritableChanges.{all_completed_write, change_writes, completed_writes}
use Rattle.model_world_law.proofs.WritableEdits.{InsertsWritten}
use Rattle.model_world_law.proofs.WritableLemmas.{setting_writes}
use Rattle.model_world_law.proofs.WritableTables as table
use Rattle.model_world_law.proofs.TypedLemmas.{content_no_leaf, typed_stands}
use Rattle.model_world_law.proofs.PerformedLemmas.{allowed_is, batch_inserts, batch_may, may_run, typing_each, typing_formed, typing_inserts_well, typing_writable}

-- ---- members put in their places

some_same : (m n : Member) → Some m ≡ Some n → m ≡ n
some_same m n e = cc

get_put : (k : ℕ) (m n : Member) (ms : List Member) → slice_get ms k ≡ Some n → slice_get (put_member k m ms) k ≡ Some m
get_put k m n [] h = cc
get_put zero m n (x ∷ ms) h = refl
get_put (suc k) m n (x ∷ ms) h = get_put k m n ms h

put_put : (k : ℕ) (m n : Member) (ms : List Member) → put_member k m (put_member k n ms) ≡ put_member k m ms
put_put k m n [] = refl
put_put zero m n (x ∷ ms) = refl
put_put (suc k) m n (x ∷ ms) = ap (λ r. x ∷ r) (put_put k m n ms)

-- ---- requests

-- the site is there, and its list is sound, as the page's is
pub record Stands (a : Asked) : Type 0 where
  pub there : slice_get a.session.members a.k ≡ Some a.member
  pub sound : Sound (site_items a)
  pub selection : StandsIn (site_items a) (replica_of a).selection
  -- the page, as it was first read
  pub opened : Sound a.page.items
  pub base : a.session.base.items ≡ a.page.items

-- the site of this number tells, or none
abbrev pub LeadsBy : (teller : Option ℕ) → Asked → Outcome → Type 0
LeadsBy t a (Ok r) = Becomes t a.session r.1
LeadsBy t a (Err r) = Unit {0}

abbrev pub Leads : Asked → Outcome → Type 0
Leads = LeadsBy None

stays : (a : Asked) → Becomes None a.session a.session
stays a = record { events = []; may = tt; within = tt; inserts = λ base every. tt; origins = λ every. tt; writes = λ every. tt; told = λ k before. refl; same = refl }

-- the items of the page and of the site that is asked may stand, where those of every site may
abbrev Items : Asked → Type 0
Items a = AllPass may_stand a.page.items × AllPass may_stand (site_items a)

asked_items : (a : Asked) → Stands a → AllPass may_stand a.session.base.items → Every (λ m. AllPass may_stand m.site.replica.items) a.session.members → Items a
asked_items a s base every = (
  subst (AllPass may_stand) s.base base,
  every_get (λ m. AllPass may_stand m.site.replica.items) a.session.members a.k a.member every s.there,
)

-- its openings with origins are the page's
abbrev Comes : Asked → Type 0
Comes a = AllPass (has_first a.page.items) (site_items a)

asked_comes : (a : Asked) → Stands a → Every (λ m. AllPass (has_first a.session.base.items) m.site.replica.items) a.session.members → Comes a
asked_comes a s every =
    subst (λ items. AllPass (has_first items) (site_items a)) s.base (every_get (λ m. AllPass (has_first a.session.base.items) m.site.replica.items) a.session.members a.k a.member every s.there)

-- a line can write them
abbrev Says : Asked → Type 0
Says a = AllPass is_writable (site_items a)

asked_says : (a : Asked) → Stands a → Every (λ m. AllPass is_writable m.site.replica.items) a.session.members → Says a
asked_says a s every = every_get (λ m. AllPass is_writable m.site.replica.items) a.session.members a.k a.member every s.there

-- what is inserted may stand, comes from the page, and can be written
abbrev Puts : Asked → Event → Type 0
Puts a e = (Items a → Inserts may_stand any_attr e) × (Comes a → Inserts (has_first a.page.items) any_attr e) × (Says a → Inserts is_writable is_attr e)

abbrev PutsOne : Asked → Transaction → Type 0
PutsOne a t = (Items a → InsertsStanding t) × (Comes a → AllPass (has_first a.page.items) (all_inserted t)) × (Says a → InsertsWritten t)

abbrev PutsAll : Asked → List Transaction → Type 0
PutsAll a ts = (Items a → AllPutIn may_stand any_attr ts) × (Comes a → AllPutIn (has_first a.page.items) any_attr ts) × (Says a → AllPutIn is_writable is_attr ts)

one_event : {t : Option ℕ} (a : Asked) → Stands a → (e : Event) (next : Session) → ((k : ℕ) (before : List PlainItem) → told_at k a.session e before ≡ told_if t k a.session before) →
    MayHappen a.session e → SelectsWithin a.session e → Puts a e → next ≡ happens a.session e → Becomes t a.session next
one_event a s e next told may within puts same = record {
  events = e ∷ [];
  may = (may, tt);
  within = (within, tt);
  inserts = λ base every. (puts.0 (asked_items a s base every), tt);
  origins = λ every. (subst (λ items. Inserts (has_first items) any_attr e) (sym s.base) (puts.1 (asked_comes a s every)), tt);
  writes = λ every. (puts.2 (asked_says a s every), tt);
  told = told;
  same = same;
}

same_member : (a : Asked) → Stands a → (m : Member) → slice_get a.session.members a.k ≡ Some m → a.member ≡ m
same_member a s m e = let f : Some a.member ≡ Some m = sym s.there ∙ e in cc

-- an event of the site that is asked
of_member : (a : Asked) → Stands a → (f : Member → Session) → f a.member ≡ at_member a.session (slice_get a.session.members a.k) f
of_member a s f = ap (λ o. at_member a.session o f) (sym s.there)

perform_same : (a : Asked) → Stands a → (ts : List Transaction) → with_site a (with_entry ts (site_of a)) ≡ happens a.session (Perform a.k ts)
perform_same a s ts = of_member a s (λ m. events.with_site a.k m (with_entry ts m.site) a.session)

performs : (a : Asked) → Stands a → (ts : List Transaction) → AllMayRun ts (site_items a) → PutsAll a ts → Becomes None a.session (with_site a (with_entry ts (site_of a)))
performs a s ts may inserts =
    one_event a s (Perform a.k ts) _ (λ k before. refl) (λ m e. subst (λ n. AllMayRun ts n.site.replica.items) (same_member a s m e) may) tt inserts (perform_same a s ts)

performed_leads : (a : Asked) → Stands a → (r : Result Transaction Refusal) → ((t : Transaction) → r ≡ Ok t → MayRun t (site_items a)) → ((t : Transaction) → r ≡ Ok t → PutsOne a t) →
    Leads a (performed_or_no a r)
performed_leads a s (Err refusal) may inserts = tt
performed_leads a s (Ok t) may inserts = performs a s (t ∷ []) (may t refl, tt) ((λ p. (puts_any may_stand t ((inserts t refl).0 p), tt)), (λ p. (puts_any (has_first a.page.items) t ((inserts t refl).1 p), tt)), (λ p. ((inserts t refl).2 p, tt)))

allowed_leads : (a : Asked) → Stands a → (r : Result Transaction Refusal) → ((u : Transaction) → r ≡ Ok u → Fit u) → ((u : Transaction) → r ≡ Ok u → PutsOne a u) →
    Leads a (performed_or_no a (checked_transaction (replica_of a) r))
allowed_leads a s r fit inserts =
    performed_leads a s (checked_transaction (replica_of a) r) (λ t e. may_run (replica_of a) r t fit e) (λ t e. inserts t (allowed_is (replica_of a) r t e).given)

batch_leads : (a : Asked) → Stands a → (r : Result (List Transaction) BatchRefusal) → ((ts : List Transaction) → r ≡ Ok ts → AllMayRun ts (site_items a)) → ((ts : List Transaction) → r ≡ Ok ts → PutsAll a ts) →
    Leads a (batch_or_no a r)
batch_leads a s (Err f) may inserts = tt
batch_leads a s (Ok ts) may inserts = performs a s ts (may ts refl) (inserts ts refl)

selects : (a : Asked) → Stands a → (sel : Selection) → StandsIn (site_items a) sel → Leads a (selection_outcome a sel)
selects a s sel within =
    one_event a s (Select a.k sel) _ (λ k before. refl) tt (λ m e. subst (λ n. StandsIn n.site.replica.items sel) (same_member a s m e) within) ((λ p. tt), (λ p. tt), (λ p. tt))
    (of_member a s (λ m. events.with_site a.k m (with_selection sel m.site) a.session))

typed_leads : (a : Asked) → Stands a → (r : Result (List Transaction) BatchRefusal) → ((ts : List Transaction) → r ≡ Ok ts → AllMayRun ts (site_items a)) →
    ((ts : List Transaction) → r ≡ Ok ts → selection.EndStands (all_performed ts (replica_of a)).items (after_text ts)) → ((ts : List Transaction) → r ≡ Ok ts → PutsAll a ts) →
    Leads a (typed_or_no a r)
typed_leads a s (Err f) may stands inserts = tt
typed_leads a s (Ok ts) may stands inserts =
    let sel = between (after_text ts) (after_text ts) in
    let middle : Member = record a.member { site = with_entry ts (site_of a) } in
    let last : Member = record a.member { site = with_selection sel (with_entry ts (site_of a)) } in
    let w = with_member a.k middle a.session in
    let there : slice_get w.members a.k ≡ Some middle = get_put a.k middle a.member a.session.members s.there in
    let here : StandsIn middle.site.replica.items sel = record { anchor = stands ts refl; focus = stands ts refl } in
    let of_middle : (m : Member) → slice_get w.members a.k ≡ Some m → StandsIn m.site.replica.items sel =
    λ m e. subst (λ n. StandsIn n.site.replica.items sel) (let f : Some middle ≡ Some m = sym there ∙ e in some_same middle m f) here in
    record {
      events = Perform a.k ts ∷ Select a.k sel ∷ [];
      may = ((λ m e. subst (λ n. AllMayRun ts n.site.replica.items) (same_member a s m e) (may ts refl)), (tt, tt));
      within = (tt, (subst (λ (v : Session). (m : Member) → slice_get v.members a.k ≡ Some m → StandsIn m.site.replica.items sel) (perform_same a s ts) of_middle, tt));
      inserts = λ base every. ((inserts ts refl).0 (asked_items a s base every), (tt, tt));
      origins = λ every. (subst (λ items. AllPutIn (has_first items) any_attr ts) (sym s.base) ((inserts ts refl).1 (asked_comes a s every)), (tt, tt));
      writes = λ every. ((inserts ts refl).2 (asked_says a s every), (tt, tt));
      told = λ k before. refl;
      same = ap (λ ms. record a.session { members = ms }) (sym (put_put a.k last middle a.session.members))
          ∙ ap (λ o. at_member w o (λ m. events.with_site a.k m (with_selection sel m.site) w)) (sym there)
          ∙ ap (λ v. happens v (Select a.k sel)) (perform_same a s ts);
    }

-- what typing gives, by its last transaction
text_after : (r : Replica) (at : ℕ) (text : List ℕ) (ts : List Transaction) → 0 < length text → MadeInTurn (change.Text at text Left ∷ []) ts r → AllMayRun ts r.items →
    selection.EndStands (all_performed ts r).items (after_text ts)
text_after r at text [] some m may = absurd m
text_after r at text (t ∷ []) some m may =
    let made = allowed_is r (change_of r.items (change.Text at text Left)) t m.0 in
    typed_stands r.items at (marks_before r.items at) text t some (given build_refusal (text_insertion r.items at text) t made.given) (may.0).lawful
text_after r at text (t ∷ u ∷ ts) some m may = absurd m.1

typing_after : (r : Replica) (sel : Selection) (text : List ℕ) (ts : List Transaction) → 0 < length text → batch_on r (typing sel text) ≡ Ok ts → AllMayRun ts r.items →
    selection.EndStands (all_performed ts r).items (after_text ts)
typing_after r sel text ts some h may = by (is_collapsed sel) ts (batch_is_whole r (typing sel text) ts h) may
  where
    by : (b : Bool) (us : List Transaction) →
        MadeInTurn (if b then change.Text (lower sel) text Left ∷ [] else change.Remove (lower sel) (higher sel) ∷ change.Text (lower sel) text Left ∷ []) us r →
        AllMayRun us r.items → selection.EndStands (all_performed us r).items (after_text us)
    by true us m may = text_after r (lower sel) text us some m may
    by false [] m may = absurd m
    by false (t ∷ []) m may = absurd m.1
    by false (t ∷ u ∷ us) m may = text_after (performed t r) (lower sel) text (u ∷ us) some m.1 may.1

moved_leads : (a : Asked) → Stands a → (keep : Bool) (r : Result ℕ Refusal) → ((at : ℕ) → r ≡ Ok at → selection.EndStands (site_items a) at) → Leads a (moved_or_no a keep r)
moved_leads a s keep (Err refusal) stands = tt
moved_leads a s keep (Ok at) stands = selects a s (between (if keep then (replica_of a).selection.anchor else at) at) (record { anchor = by keep; focus = stands at refl })
  where
    by : (b : Bool) → selection.EndStands (site_items a) (if b then (replica_of a).selection.anchor else at)
    by true = s.selection.anchor
    by false = stands at refl

-- a caret's next position is one of its content branch
place_stands : (items : List PlainItem) (at : ℕ) (dir : Dir) (by : By) (to : ℕ) → Lawful items → next_place items at dir by ≡ Ok to → selection.EndStands items to
place_stands items at dir by to lawful h = in_content (is_content items at) refl h
  where
    at_edge : is_content items at ≡ true → (o : Option ℕ) → next items at dir by ≡ o → edge_or at o ≡ Ok to → selection.EndStands items to
    at_edge c None e h = cc
    at_edge c (Some place) e h =
        let same : place ≡ to = Ok-same {E = Refusal} place to h in
        let goes = caret_stays_in_branch items at place dir by lawful c e in
        subst (selection.EndStands items) same (goes.within, content_no_leaf (kind_at items place) goes.content)

    in_content : (b : Bool) → is_content items at ≡ b → (elim b as (λ _. Result ℕ Refusal) [
      | false ↦ Err (NotContent at)
      | true ↦ edge_or at (next items at dir by)
    ]) ≡ Ok to → selection.EndStands items to
    in_content false c h = cc
    in_content true c h = at_edge c (next items at dir by) refl h

either : (a : Asked) (b : Bool) (x y : Outcome) → Leads a x → Leads a y → Leads a (if b then x else y)
either a true x y p q = p
either a false x y p q = q

grid_leads : (a : Asked) (r : Result Grid TableCause) → Leads a (grid_or_no a r)
grid_leads a (Ok g) = stays a
grid_leads a (Err f) = tt

undo_leads : (a : Asked) → Stands a → (r : Result Site UndoCause) → undo (site_of a) ≡ r → Leads a (changed_or_no a (refused_as undo_refusal r))
undo_leads a s (Err f) e = tt
undo_leads a s (Ok site) e = one_event a s (Undo a.k) _ (λ k before. refl) tt tt ((λ p. tt), (λ p. tt), (λ p. tt))
    (ap (λ r. with_site_of a.k a.member r a.session) (sym e) ∙ of_member a s (λ m. with_site_of a.k m (undo m.site) a.session))

redo_leads : (a : Asked) → Stands a → (r : Result Site RedoCause) → redo (site_of a) ≡ r → Leads a (changed_or_no a (refused_as redo_refusal r))
redo_leads a s (Err f) e = tt
redo_leads a s (Ok site) e = one_event a s (Redo a.k) _ (λ k before. refl) tt tt ((λ p. tt), (λ p. tt), (λ p. tt))
    (ap (λ r. with_site_of a.k a.member r a.session) (sym e) ∙ of_member a s (λ m. with_site_of a.k m (redo m.site) a.session))

revoke_leads : (a : Asked) → Stands a → (i : ℕ) (live : Bool) → i < (site_of a).seen → (r : Result Site RevokeCause) → revoke_entry a.session.committed a.session.hints live i (site_of a) ≡ r →
    Leads a (changed_or_no a (refused_as (revoke_refusal i) r))
revoke_leads a s i live seen (Err f) e = tt
revoke_leads a s i live seen (Ok site) e = one_event a s (Revoke a.k i live) _ (λ k before. refl)
    (λ m there. subst (λ n. i < n.site.seen) (same_member a s m there) seen) tt ((λ p. tt), (λ p. tt), (λ p. tt))
    (ap (λ r. with_site_of a.k a.member r a.session) (sym e) ∙ of_member a s (λ m. with_site_of a.k m (revoke_entry a.session.committed a.session.hints live i m.site) a.session))

revoked_leads : (a : Asked) → Stands a → (i : ℕ) (live : Bool) → Leads a (revoked_or_no a i live)
revoked_leads a s i live = by_seen (nat_lt i (site_of a).seen) refl
  where
    by_seen : (b : Bool) → nat_lt i (site_of a).seen ≡ b → Leads a (elim b as (λ _. Outcome) [
      | false ↦ refusal_outcome (BadEntry i (site_of a).seen)
      | true ↦ changed_or_no a (refused_as (revoke_refusal i) (revoke_entry a.session.committed a.session.hints live i (site_of a)))
    ])
    by_seen false e = tt
    by_seen true e = revoke_leads a s i live (ltb-true i (site_of a).seen e) (revoke_entry a.session.committed a.session.hints live i (site_of a)) refl

send_leads : (a : Asked) → Stands a → (r : Result (Site × Submission) SendCause) → send (site_of a) ≡ r → Leads a (sent_or_no a (refused_as send_refusal r))
send_leads a s (Err f) e = tt
send_leads a s (Ok r) e = one_event a s (Send a.k) _ (λ k before. refl) tt tt ((λ p. tt), (λ p. tt), (λ p. tt))
    (ap (λ x. with_sent a.k a.member x a.session) (sym e) ∙ of_member a s (λ m. with_sent a.k m (send m.site) a.session))

serve_leads : (a : Asked) → Stands a → (o : Option (Session × Served)) → serve_next a.k a.member a.session ≡ o → Leads a (served_or_no o)
serve_leads a s None e = tt
serve_leads a s (Some r) e = one_event a s (Serve a.k) _ (λ k before. refl) tt tt ((λ p. tt), (λ p. tt), (λ p. tt))
    (ap (after_turn a.session) (sym e) ∙ of_member a s (λ m. after_turn a.session (serve_next a.k m a.session)))

take_leads : (a : Asked) → Stands a → (o : Option (Session × Taken)) → take_next a.k a.member a.session ≡ o → Leads a (taken_or_no o)
take_leads a s None e = tt
take_leads a s (Some r) e = one_event a s (Take a.k) _ (λ k before. refl) tt tt ((λ p. tt), (λ p. tt), (λ p. tt))
    (ap (after_turn a.session) (sym e) ∙ of_member a s (λ m. after_turn a.session (take_next a.k m a.session)))

abbrev MovesWell : Asked → Transaction → Type 0
MovesWell a t = InsertsStanding t × AllPass (has_first a.page.items) (all_inserted t) × (Says a → InsertsWritten t)

table_leads : (a : Asked) → Stands a → (r : Result Transaction TableCause) → ((t : Transaction) → r ≡ Ok t → Fit t) → ((t : Transaction) → r ≡ Ok t → MovesWell a t) → Leads a (table_changed a r)
table_leads a s r fit inserts =
    allowed_leads a s (refused_as table_refusal r) (λ u e. fit u (given table_refusal r u e)) (λ u e. let q = inserts u (given table_refusal r u e) in ((λ p. q.0), (λ p. q.1), q.2))

list_leads : (a : Asked) → Stands a → (r : Result Transaction ListCause) → ((t : Transaction) → r ≡ Ok t → Fit t) → ((t : Transaction) → r ≡ Ok t → MovesWell a t) → Leads a (list_changed a r)
list_leads a s r fit inserts =
    allowed_leads a s (refused_as list_refusal r) (λ u e. fit u (given list_refusal r u e)) (λ u e. let q = inserts u (given list_refusal r u e) in ((λ p. q.0), (λ p. q.1), q.2))

change_leads : (a : Asked) → Stands a → (c : EditCommand) → IsFormed c → (AllPass may_stand a.page.items → InsertsWell c) → ChangeFirst a.page.items c → ChangeIsWritable c → Leads a (performed_or_no a (change_on (replica_of a) c))
change_leads a s c formed well first says =
    allowed_leads a s (change_of (site_items a) c) (λ u e. formed_fits (site_items a) c u formed s.sound e)
    (λ u e. ((λ p. standing_stands (site_items a) c u (well p.0) s.sound p.1 e), (λ p. change_first a.page.items (site_items a) c u first p e), (λ p. change_writes (site_items a) c u says p e)))

edit_leads : (a : Asked) → Stands a → (c : EditCommand) → IsRead c → ChangeIsWritable c → Leads a (performed_or_no a (change_on (replica_of a) (completed a.page.items c)))
edit_leads a s c read says =
    change_leads a s (completed a.page.items c) (completed_is_formed a.page.items s.opened.apart c read) (λ p. completed_inserts_well a.page.items p c read)
    (completed_first a.page.items c) (completed_writes a.page.items c says)

erased_leads : (a : Asked) → Stands a → (r : Result Selection Refusal) → Leads a (erased_or_no a r)
erased_leads a s (Err refusal) = tt
erased_leads a s (Ok sel) = change_leads a s (change.Remove (lower sel) (higher sel)) tt (λ p. tt) tt tt

-- the changes of a batch, on the list of the site that is asked
batch_puts : (a : Asked) → Stands a → (cs : List EditCommand) (ts : List Transaction) → AllFormed cs → (AllPass may_stand a.page.items → AllInsertWell cs) → AllByRecursion (ChangeFirst a.page.items) cs → AllByRecursion ChangeIsWritable cs →
    batch_on (replica_of a) cs ≡ Ok ts → PutsAll a ts
batch_puts a s cs ts formed well first says e = (
  (λ p. batch_inserts may_stand any_attr InsertsWell setting_keeps (λ items c t w sound q h. puts_any may_stand t (standing_stands items c t w sound q h)) 0 cs (replica_of a) ts formed (well p.0) s.sound p.1 e),
  (λ p. batch_inserts (has_first a.page.items) any_attr (ChangeFirst a.page.items) (setting_stays a.page.items) (λ items c t w sound q h. puts_any (has_first a.page.items) t (change_first a.page.items items c t w q h)) 0 cs (replica_of a) ts formed first s.sound p e),
  (λ p. batch_inserts is_writable is_attr ChangeIsWritable setting_writes (λ items c t w sound q h. change_writes items c t w q h) 0 cs (replica_of a) ts formed says s.sound p e),
)

show_leads : (a : Asked) (from to : ℕ) → Leads a (items_shown_or_no a from to)
show_leads a from to =
    either a (nat_lt to from || nat_lt (length (site_items a)) to) (refusal_outcome (BadRange from to)) (unchanged_outcome a (reply.Items (slice_range (site_items a) from to))) tt (stays a)

node_leads : (a : Asked) (at : ℕ) → Leads a (node_or_no a at)
node_leads a at = either a (nat_lt (length (site_items a)) at) (refusal_outcome (BadOffset at)) (node_told a at) tt (stays a)

offset_leads : (a : Asked) (r : Result ℕ Refusal) → Leads a (offset_told a r)
offset_leads a (Err refusal) = tt
offset_leads a (Ok at) = stays a

near_leads : (a : Asked) (at : ℕ) (dir : Dir) → Leads a (near_or_no a at dir)
near_leads a at dir =
    let found = edge_or at (content_near (site_items a) at dir) in
    either a (nat_lt (length (site_items a)) at) (refusal_outcome (BadOffset at)) (offset_told a found) tt (offset_leads a found)

stands_from : (items : List PlainItem) (at : ℕ) → is_no_end items at ≡ false → selection.EndStands items at
stands_from items at h = let p = or_parts (nat_lt (length items) at) (is_inside_leaf items at) h in (ltb-false (length items) at p.0, p.1)

select_leads : (a : Asked) → Stands a → (anchor focus : ℕ) → Leads a (select_between a anchor focus)
select_leads a s anchor focus = by (is_no_end (site_items a) anchor) (is_no_end (site_items a) focus) refl refl
  where
    by : (b c : Bool) → is_no_end (site_items a) anchor ≡ b → is_no_end (site_items a) focus ≡ c →
        Leads a (if b then refusal_outcome (BadOffset anchor) else (if c then refusal_outcome (BadOffset focus) else selection_outcome a (between anchor focus)))
    by true true d e = tt
    by true false d e = tt
    by false true d e = tt
    by false false d e = selects a s (between anchor focus) (record { anchor = stands_from (site_items a) anchor d; focus = stands_from (site_items a) focus e })

tell_leads : (a : Asked) → Stands a → LeadsBy (Some a.k) a (told_outcome a)
tell_leads a s = one_event a s (Tell a.k) _ (λ k before. refl) tt tt ((λ p. tt), (λ p. tt), (λ p. tt))
    (of_member a s (λ m. events.with_site a.k m (with_told m.site) a.session))

pub asked_leads : LayersFit → (a : Asked) → Stands a → (r : Request) → RequestRead r → RequestIsWritable r → LeadsBy (teller r a.k) a (request_outcome a r)
asked_leads fit a s request.Html o w = stays a
asked_leads fit a s request.Tree o w = stays a
asked_leads fit a s request.Refs o w = stays a
asked_leads fit a s request.Caret o w = stays a
asked_leads fit a s request.Undo o w = undo_leads a s (undo (site_of a)) refl
asked_leads fit a s request.Redo o w = redo_leads a s (redo (site_of a)) refl
asked_leads fit a s request.Send o w = send_leads a s (send (site_of a)) refl
asked_leads fit a s request.Serve o w = serve_leads a s (serve_next a.k a.member a.session) refl
asked_leads fit a s request.Take o w = take_leads a s (take_next a.k a.member a.session) refl
asked_leads fit a s request.Tell o w = tell_leads a s
asked_leads fit a s (request.ShowItems from to) o w = show_leads a from (unwrap_or to (length (site_items a)))
asked_leads fit a s (request.At at) o w = node_leads a at
asked_leads fit a s (request.Near at dir) o w = near_leads a at dir
asked_leads fit a s (request.Edit c) o w = edit_leads a s c o w
asked_leads fit a s (request.Batch cmds) o w =
    let done = map (completed a.page.items) cmds in
    let formed = all_completed_formed a.page.items s.opened.apart cmds o in
    batch_leads a s (batch_on (replica_of a) done) (λ ts e. batch_may 0 done (replica_of a) ts formed s.sound e)
    (λ ts e. batch_puts a s done ts formed (λ p. all_completed_insert_well a.page.items p cmds o) (all_completed_first a.page.items cmds) (all_completed_write a.page.items cmds w) e)
asked_leads fit a s (request.Select anchor focus) o w = select_leads a s anchor focus
asked_leads fit a s (request.Move dir by keep) o w =
    moved_leads a s keep (next_place (site_items a) (replica_of a).selection.focus dir by) (λ at e. place_stands (site_items a) (replica_of a).selection.focus dir by at s.sound.lawful e)
asked_leads fit a s (request.TypeText text) o w =
    let sel = (replica_of a).selection in
    let may : (ts : List Transaction) → batch_on (replica_of a) (typing sel text) ≡ Ok ts → AllMayRun ts (site_items a) =
    λ ts e. batch_may 0 (typing sel text) (replica_of a) ts (typing_formed sel text) s.sound e in
    typed_leads a s (batch_on (replica_of a) (typing sel text)) may (λ ts e. typing_after (replica_of a) sel text ts o e (may ts e))
    (λ ts e. batch_puts a s (typing sel text) ts (typing_formed sel text) (λ p. typing_inserts_well sel text) (typing_each (ChangeFirst a.page.items) (λ at text. tt) (λ from to. tt) sel text) (typing_writable sel text w) e)
asked_leads fit a s (request.Erase dir by) o w = erased_leads a s (to_erase (replica_of a) dir by)
asked_leads fit a s (request.Grid at) o w = grid_leads a (grid (site_items a) at)
asked_leads fit a s (request.RowIn at row) o w = table_leads a s (row_in (site_items a) at row) (λ t e. fit.moves.row_in (site_items a) at row t s.sound e) (λ t e. (fit.moves_stand.row_in (site_items a) at row t s.sound e, edit.row_in_first a.page.items (site_items a) at row t e, (λ p. table.row_in_writes (site_items a) at row t e)))
asked_leads fit a s (request.RowOut at row) o w = table_leads a s (row_out (site_items a) at row) (λ t e. fit.moves.row_out (site_items a) at row t s.sound e) (λ t e. (fit.moves_stand.row_out (site_items a) at row t s.sound e, edit.row_out_first a.page.items (site_items a) at row t e, (λ p. table.row_out_writes (site_items a) at row t e)))
asked_leads fit a s (request.ColIn at column) o w = table_leads a s (col_in (site_items a) at column) (λ t e. fit.moves.col_in (site_items a) at column t s.sound e) (λ t e. (fit.moves_stand.col_in (site_items a) at column t s.sound e, edit.col_in_first a.page.items (site_items a) at column t e, (λ p. table.col_in_writes (site_items a) at column t e)))
asked_leads fit a s (request.ColOut at column) o w = table_leads a s (col_out (site_items a) at column) (λ t e. fit.moves.col_out (site_items a) at column t s.sound e) (λ t e. (fit.moves_stand.col_out (site_items a) at column t s.sound e, edit.col_out_first a.page.items (site_items a) at column t e, (λ p. table.col_out_writes (site_items a) at column t e)))
asked_leads fit a s (request.Indent at) o w = list_leads a s (indent (site_items a) at) (λ t e. fit.moves.indent (site_items a) at t s.sound e) (λ t e. (fit.moves_stand.indent (site_items a) at t s.sound e, edit.indent_first a.page.items (site_items a) at t e, (λ p. table.indent_writes (site_items a) at t e)))
asked_leads fit a s (request.Outdent at) o w = list_leads a s (outdent (site_items a) at) (λ t e. fit.moves.outdent (site_items a) at t s.sound e) (λ t e. (fit.moves_stand.outdent (site_items a) at t s.sound e, edit.outdent_first a.page.items (site_items a) at t e, (λ p. table.outdent_writes (site_items a) at t p e)))
asked_leads fit a s (request.Revoke entry live) o w = revoked_leads a s entry live
