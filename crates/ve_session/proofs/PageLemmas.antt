-- A page that is open: as it was read, and after a request.
use Rattle.std.proofs.Common.{◌≡◌, ◌≤◌, ◌<◌, ◌+◌, ◌++◌, ℕ, zero, suc, Bool, true, false, List, [], ◌∷◌, length, refl, ap, ◌∙◌, sym, subst, arith, IsUtf8, Some}
use Rattle.std.specs.Prelude.{◌&&◌, ◌*◌, if◌then◌else◌, OnOk, Result, Ok, Err, encode_utf8_all, slice_get}
use Rattle.std.specs.List.{list_all}
use Rattle.model_edit.specs.declared.selection.By.{By}
use Rattle.model_edit.specs.declared.selection.Dir.{Dir}
use Rattle.model_edit.specs.Translate.{between}
use Rattle.model_items.specs.declared.item.Item.{Item}
use Rattle.model_items.specs.declared.plain_item.PlainItem.{PlainItem}
use Rattle.model_items.specs.Plain.{plain_list}
use Rattle.model_page.specs.declared.ref_table.RefRow.{RefRow}
use Rattle.model_page.specs.Editable.{all_refer, item_refers}
use Rattle.model_page.specs.PageItems.{Opened}
use Rattle.model_page.specs.References.{table}
use Rattle.model_site.specs.Replica.{Replica, opened_with}
use Rattle.model_site.specs.Session.{Member, put_member}
use Rattle.model_site.specs.Site.{Site, with_entry, with_selection}
use Rattle.model_site_law.specs.ItemLaws.{AllPass}
use Rattle.model_site_law.specs.SelectionLaws.{StandsIn}
use Rattle.model_world.specs.declared.command.Command.TheVariants.{Ask}
use Rattle.model_world.specs.declared.command.Request.{Request}
use Rattle.model_world.specs.declared.command.Request.TheVariants as request
use Rattle.model_world.specs.declared.reply.Reply.{Reply}
use Rattle.model_world.specs.Answers.{after_text}
use Rattle.model_world.specs.Opening.{open_page, session_of}
use Rattle.model_world.specs.Refusals.{open_refusal, refused_as}
use Rattle.model_world.specs.World.{World, Open}
use Rattle.model_world.specs.Cost.{cost_of_command, cost_of_opening}
use Rattle.model_world_law.specs.Fit.{CompletedFit, LinesAreWritten, PagesStand}
use Rattle.model_world_law.specs.Reached.{EveryItemStands, EverySiteHolds, EveryWorldIsReached, SiteHolds, WorldReached}
use Rattle.model_world_law.specs.Standing.{has_few_marks, may_stand}
use Rattle.ve_write.specs.Originals.{opened_over, IsFirst}
use Rattle.ve_html_scan.specs.declared.token.Span.{Span}
use Rattle.ve_origin.specs.declared.origin.OriginRow.{OriginRow}
use Rattle.ve_origin.specs.Origins.{FirstRead}
use Rattle.ve_read.specs.declared.pages.PageRead.{PageRead}
use Rattle.ve_read.specs.Pages.{opened_by, IsReadPage}
use Rattle.ve_read.specs.RowsStand.{RowsStand}
use Rattle.ve_json.specs.declared.answer.Answer.{Answer}
use Rattle.ve_json.specs.declared.answer.Answer.TheVariants as answer
use Rattle.ve_json.specs.Answers.{reply_of}
use Rattle.model_items.specs.Cost.{cost_of_tree}
use Rattle.ve_tx.specs.Making.{Extends}
use Rattle.ve_session.specs.Asked.{completed_request, cost_completed, is_shown, reply_and_world, IsAnswered, IsAsked}
use Rattle.ve_session.specs.Opened.{lent_of, page_on, world_on, IsLed, IsOpen, MayOpen, OnPage}
use Rattle.ve_session.specs.Turning.{CaretStands, MayTurn}
use Rattle.ve_session.proofs.CompletedLemmas.{shown_same, written_completed}
use Rattle.ve_session.proofs.CaretLemmas.{is_selected, is_typed, moves, site_put_again}
use Rattle.ve_session.proofs.CostLemmas.{opening_within}
use Rattle.ve_session.proofs.NumberedLemmas.{origins_below}
use Rattle.ve_session.proofs.TurnLemmas.{site_put}
use Rattle.ve_session.proofs.WorldLemmas.{costs_are, led_after, obeyed_so, there}
use Rattle.ve_sites.specs.Shared.{Shared, member_at, site_at, sites, with_site_at}

-- ---- a page that was read

module _ (text : List ℕ) (read : PageRead) (count : ℕ) (is : IsReadPage (encode_utf8_all text) read) (may : MayOpen text count) where
  abbrev pub page : Opened
  page = opened_by (encode_utf8_all text) read

  pub opens : open_page text ≡ Ok page
  opens = ap (refused_as open_refusal) is.opens

  abbrev pub begun : Shared
  begun = record { first = read.list.items; session = session_of page count }

  -- the first page over the values of the base
  same_page : (refs : List RefRow) → opened_over begun.session.base.store (lent_of text read.body read.rows read.list.items refs) ≡ page
  same_page refs = ap (λ store. opened_over store (lent_of text read.body read.rows read.list.items refs)) (sym is.values)

  pub is_open : (refs : List RefRow) → refs ≡ table (plain_list read.values read.list.items) → RowsStand (encode_utf8_all text) read →
      IsOpen (lent_of text read.body read.rows read.list.items refs) (session_of page count)
  is_open refs refs_are rows = record {
    led = record { lines = may.lines; leads = may.leads page opens ∙ ap (λ p. Open p (session_of page count)) (sym (same_page refs)) };
    cut = rows.cut;
    rows = rows.are_rows;
    first = subst (λ store. IsFirst store (lent_of text read.body read.rows read.list.items refs)) is.values (record {
      cites = is.cites;
      ranges = rows.ranges;
      refs = refs_are;
      numbered = λ at k e. origins_below (plain_list read.values read.list.items) (length read.rows) at k rows.numbered e;
    });
  }

  pub begun_ok : (refs : List RefRow) (s : Shared) → s ≡ begun →
      let p = page_on (lent_of text read.body read.rows s.first refs) s.session in (open_page text ≡ Ok p.page) × (p.session ≡ session_of p.page count)
  begun_ok refs s e =
      subst (λ (x : Shared). let p = page_on (lent_of text read.body read.rows x.first refs) x.session in (open_page text ≡ Ok p.page) × (p.session ≡ session_of p.page count)) (sym e)
      (opens ∙ ap (λ p. Ok p) (sym (same_page refs)), ap (λ p. session_of p count) (sym (same_page refs)))

  pub within : (old new : ℕ) → new ≤ old + count * cost_of_tree page.items → new ≤ old + cost_of_opening count (open_page text)
  within old new h = opening_within count (open_page text) page old new opens h

-- ---- a page that is open

both_true : (a b : Bool) → a ≡ true → b ≡ true → (a && b) ≡ true
both_true a b p q = ap (λ x. x && b) p ∙ q

first_true : (a b : Bool) → (a && b) ≡ true → a ≡ true
first_true true b e = refl
first_true false b e = e

all_refer_of : (items : List PlainItem) → AllPass may_stand items → all_refer items ≡ true
all_refer_of [] all = refl
all_refer_of (item ∷ items) all = both_true (item_refers item) (list_all item_refers items) (first_true (item_refers item) (has_few_marks item) all.0) (all_refer_of items all.1)

put_slice : (ms : List Member) (k : ℕ) (m : Member) → k < length ms → slice_get (put_member k m ms) k ≡ Some m
put_slice [] k m within = absurd (let none : ⊥ = omega (arith, within) in none)
put_slice (n ∷ ms) zero m within = refl
put_slice (n ∷ ms) (suc k) m within = put_slice ms k m (omega (arith, within))

module _ (o : FirstRead) (old : Shared) (k : ℕ) (within : k < sites old) (is : IsOpen o old.session) where
  abbrev pub page_of_it : Opened
  page_of_it = opened_over old.session.base.store o

  pub holds : EverySiteHolds → SiteHolds (opened_with page_of_it.items) old.session (member_at old k)
  holds every = every is.led.lines page_of_it old.session k (member_at old k) is.led.leads (there page_of_it old k (request.Html) within)

  pub refers : EveryItemStands → IsUtf8 o.page → all_refer (site_at old k).replica.items ≡ true
  refers every utf8 =
      all_refer_of (site_at old k).replica.items (every is.led.lines page_of_it old.session k (member_at old k) is.led.leads (there page_of_it old k (request.Html) within) utf8)

  -- the site's store begins with the first one
  pub extends : EverySiteHolds → Extends old.session.base.store (site_at old k).replica.store
  extends every = let h = holds every in
      (h.begins.more, h.begins.begins ∙ ap (λ (r : Replica). r.store ++ h.begins.more) (sym h.base_stays))

  module _ (r : Request) (asked : IsAsked (Ask r k)) where
    pub led_on : (new : Shared) (answer : Answer) → IsAnswered (completed_request page_of_it.items r) k old answer new → IsLed (Open page_of_it new.session)
    led_on new answer by =
        subst IsLed (ap (λ (x : Reply × World). x.1) (obeyed_so page_of_it old k r within new answer by)) (led_after (Open page_of_it old.session) (Ask r k) is.led asked)

    pub stays_open : (new : Shared) (answer : Answer) → IsAnswered (completed_request page_of_it.items r) k old answer new → IsOpen o new.session
    stays_open new answer by = record {
      led = subst (λ (b : Replica). IsLed (Open (opened_over b.store o) new.session)) (sym by.base) (led_on new answer by);
      cut = is.cut;
      rows = is.rows;
      first = subst (λ (b : Replica). IsFirst b.store o) (sym by.base) is.first;
    }

    pub world_is : (new : Shared) (answer : Answer) → IsAnswered (completed_request page_of_it.items r) k old answer new → world_on (page_on o new.session) ≡ (reply_and_world (world_on (page_on o old.session)) (Ask r k)).1
    world_is new answer by =
        ap (λ (b : Replica). Open (opened_over b.store o) new.session) by.base
        ∙ sym (ap (λ (x : Reply × World). x.1) (obeyed_so page_of_it old k r within new answer by))

    -- ---- what is so of the site as it is asked

    -- lines lead to the session with this selection at the site, so it stands in the site's list
    selection_led : EverySiteHolds → (site : Site) → IsLed (Open page_of_it (with_site_at k site old).session) → StandsIn site.replica.items site.replica.selection
    selection_led every site led =
        let new = with_site_at k site old in
        let there_too : slice_get new.session.members k ≡ Some (record (member_at old k) { site = site }) = put_slice old.session.members k (record (member_at old k) { site = site }) within in
        (every led.lines page_of_it new.session k (record (member_at old k) { site = site }) led.leads there_too).selection

  -- ---- the caret, where the request moves it

  module _ (every : EverySiteHolds) where
    caret_moved : (dir : Dir) (by : By) (keep : Bool) → IsAsked (Ask (request.Move dir by keep) k) → CaretStands (request.Move dir by keep) (site_at old k).replica
    caret_moved dir by keep asked at e =
        let r = request.Move dir by keep in
        let s = between (if keep then (site_at old k).replica.selection.anchor else at) at in
        let site = with_selection s (site_at old k) in
        let is_so = is_selected r k old (with_site_at k site old) s (moves k old dir by keep at e) refl in
        selection_led r asked every site (led_on r asked (with_site_at k site old) (answer.Caret s.anchor s.focus) is_so)

    caret_typed : (text : List ℕ) → IsAsked (Ask (request.TypeText text) k) → CaretStands (request.TypeText text) (site_at old k).replica
    caret_typed text asked ts e =
        let r = request.TypeText text in
        let entry = with_entry ts (site_at old k) in
        let s = between (after_text ts) (after_text ts) in
        let site = with_selection s entry in
        let middle = with_site_at k entry old in
        let new = with_site_at k site old in
        let same : new ≡ with_site_at k (with_selection s (site_at middle k)) middle =
        sym (ap (λ (x : Site). with_site_at k (with_selection s x) middle) (site_put old k entry within) ∙ site_put_again k entry site old within) in
        let is_so = is_typed k old new ts within text middle (length (site_at new k).replica.items) e refl same refl in
        selection_led r asked every site (led_on r asked new (answer.Length (length (site_at new k).replica.items)) is_so)

    caret_stands : (r : Request) → IsAsked (Ask r k) → CaretStands (completed_request page_of_it.items r) (site_at old k).replica
    caret_stands (request.Move dir by keep) asked = caret_moved dir by keep asked
    caret_stands (request.TypeText text) asked = caret_typed text asked
    caret_stands request.Html asked = tt
    caret_stands request.Tree asked = tt
    caret_stands request.Refs asked = tt
    caret_stands request.Caret asked = tt
    caret_stands request.Undo asked = tt
    caret_stands request.Redo asked = tt
    caret_stands request.Send asked = tt
    caret_stands request.Serve asked = tt
    caret_stands request.Take asked = tt
    caret_stands request.Tell asked = tt
    caret_stands (request.ShowItems from to) asked = tt
    caret_stands (request.At at) asked = tt
    caret_stands (request.Near at dir) asked = tt
    caret_stands (request.Edit change) asked = tt
    caret_stands (request.Batch cmds) asked = tt
    caret_stands (request.Select anchor focus) asked = tt
    caret_stands (request.Erase dir by) asked = tt
    caret_stands (request.Grid at) asked = tt
    caret_stands (request.RowIn at row) asked = tt
    caret_stands (request.RowOut at row) asked = tt
    caret_stands (request.ColIn at column) asked = tt
    caret_stands (request.ColOut at column) asked = tt
    caret_stands (request.Indent at) asked = tt
    caret_stands (request.Outdent at) asked = tt
    caret_stands (request.Revoke entry live) asked = tt

    pub may_turn : LinesAreWritten → CompletedFit → PagesStand → EveryWorldIsReached → IsUtf8 o.page → (r : Request) → IsAsked (Ask r k) → MayTurn (completed_request page_of_it.items r) (site_at old k).replica
    may_turn lines completes stand reached utf8 r asked =
        let h = holds every in
        let from = subst (WorldReached is.led.lines) is.led.leads (reached is.led.lines) in
        record {
          written = written_completed completes page_of_it.items from.opens.sound (stand from.text page_of_it utf8 from.opened) r (lines asked.line r k asked.asks);
          sound = h.sound;
          selection = h.selection;
          caret = caret_stands r asked;
        }

-- ---- a page that is open, after a request

abbrev pub fields_on : (text : List ℕ) (body : Span) (rows : List OriginRow) (refs : List RefRow) → Shared → OnPage
fields_on text body rows refs s = page_on (lent_of text body rows s.first refs) s.session

module _ (text : List ℕ) (body : Span) (rows : List OriginRow) (refs : List RefRow) (old : Shared) (k : ℕ) (within : k < sites old)
    (is : IsOpen (lent_of text body rows old.first refs) old.session) (r : Request) where
  pub replied : (new : Shared) (answer : Answer) → IsAnswered (completed_request (fields_on text body rows refs old).page.items r) k old answer new →
      (reply_and_world (world_on (fields_on text body rows refs old)) (Ask r k)).0 ≡ reply_of answer
  replied new answer by = ap (λ (x : Reply × World). x.0) (obeyed_so (fields_on text body rows refs old).page old k r within new answer by)

  pub cost_within : (before after : ℕ) → after ≤ before + cost_completed old.session (member_at old k) (completed_request (fields_on text body rows refs old).page.items r) →
      after ≤ before + cost_of_command (world_on (fields_on text body rows refs old)) (Ok (Ask r k))
  cost_within before after h = subst (λ n. after ≤ before + n) (sym (costs_are (fields_on text body rows refs old).page old k r within)) h

  pub after_open : IsAsked (Ask r k) → (new : Shared) (answer : Answer) → IsAnswered (completed_request (fields_on text body rows refs old).page.items r) k old answer new → IsOpen (lent_of text body rows new.first refs) new.session
  after_open asked new answer by =
      subst (λ (first : List Item). IsOpen (lent_of text body rows first refs) new.session) (sym by.first)
      (stays_open (lent_of text body rows old.first refs) old k within is r asked new answer by)

  pub after_world : IsAsked (Ask r k) → (new : Shared) (answer : Answer) → IsAnswered (completed_request (fields_on text body rows refs old).page.items r) k old answer new →
      world_on (fields_on text body rows refs new) ≡ (reply_and_world (world_on (fields_on text body rows refs old)) (Ask r k)).1
  after_world asked new answer by =
      ap (λ (first : List Item). world_on (page_on (lent_of text body rows first refs) new.session)) by.first
      ∙ world_is (lent_of text body rows old.first refs) old k within is r asked new answer by

  -- a reply that changes nothing
  pub shown_world : (answer : Answer) → IsAnswered (completed_request (fields_on text body rows refs old).page.items r) k old answer old →
      (reply_and_world (world_on (fields_on text body rows refs old)) (Ask r k)).1 ≡ world_on (fields_on text body rows refs old)
  shown_world answer by = ap (λ (x : Reply × World). x.1) (obeyed_so (fields_on text body rows refs old).page old k r within old answer by)

-- what changes nothing is asked as it is
pub of_shown : (opened : List PlainItem) (r : Request) (k : ℕ) (s : Shared) (answer : Answer) → is_shown r ≡ true → IsAnswered r k s answer s → IsAnswered (completed_request opened r) k s answer s
of_shown opened r k s answer shown is = subst (λ (x : Request). IsAnswered x k s answer s) (sym (shown_same opened r shown)) is

-- what is so in any case is so where it went well
pub always : {A E : Type 0} (P : Type 0) (r : Result A E) → P → OnOk r P
always P (Ok x) p = p
always P (Err e) p = tt
