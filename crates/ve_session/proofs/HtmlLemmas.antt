-- The page that a site's list gives is what `html` answers.
use Rattle.std.proofs.Common.{◌≡◌, ◌≤◌, ◌<◌, ℕ, List, [], All, ap, sym, subst, ◌∙◌}
use Rattle.std.specs.Prelude.{IfSome, Option, Some, None, chars, length, option_map, slice_get, slice_index_or}
use Rattle.std.proofs.lemmas.List.{length-map}
use Rattle.std.proofs.lemmas.Option.{slice_get-get_or}
use Rattle.ve_base.specs.declared.value.Value.{Value}
use Rattle.model_items.specs.declared.item.Item.{Item}
use Rattle.model_items.specs.declared.plain_item.PlainItem.{PlainItem}
use Rattle.model_items.specs.Plain.{plain, plain_list, AreDistinct, CitesWell, PlainTellsApart}
use Rattle.model_change.specs.Join.{OnlyActiveChanges}
use Rattle.model_change.specs.Replay.{flattened, replay}
use Rattle.model_page.specs.PageItems.{Opened}
use Rattle.model_site.specs.Session.{Member, Session, joining}
use Rattle.model_site.specs.Site.{Site, entries_of, pending}
use Rattle.model_world.specs.declared.command.Command.TheVariants.{Ask}
use Rattle.model_world.specs.declared.command.Request.TheVariants as request
use Rattle.model_world.specs.declared.reply.Reply.{Reply}
use Rattle.model_world.specs.declared.reply.Reply.TheVariants as reply
use Rattle.model_world.specs.World.{World, Open}
use Rattle.model_world_law.specs.Reached.{EverySiteHolds}
use Rattle.ve_answers.specs.Asked.{HtmlIsAsked}
use Rattle.ve_answers.specs.Replies.{html_reply}
use Rattle.ve_write.specs.Originals.{opened_over, IsFirst}
use Rattle.ve_origin.specs.Origins.{FirstRead}
use Rattle.ve_site.specs.Ends.{LeaveEnds}
use Rattle.ve_site.specs.declared.ends.Ends.{Ends}
use Rattle.ve_session.specs.Asked.{asker, kept_or_new, reply_and_world}
use Rattle.ve_session.specs.Ends.{AgreeAtEnds}
use Rattle.ve_session.specs.Laws.{UneditedIsTold}
use Rattle.ve_session.specs.Opened.{page_on, world_on, IsLed, IsOpen, OnPage}
use Rattle.ve_session.proofs.EndLemmas.{agree_cited, all_leave}
use Rattle.ve_session.proofs.FirstLemmas.{first_grown, first_same, page_same}
use Rattle.ve_session.proofs.PageLemmas.{extends}
use Rattle.ve_session.proofs.ShownLemmas.{stays}
use Rattle.ve_session.proofs.WorldLemmas.{obeyed_is}
use Rattle.ve_sites.specs.Shared.{Shared, site_at, sites}

pub html_told : HtmlIsAsked → (page : Opened) (s : Shared) (k : ℕ) → k < sites s →
    reply_and_world (Open page s.session) (Ask request.Html k) ≡ (html_reply page (site_at s k).replica.items, Open page s.session)
html_told law page s k within =
    obeyed_is page s k request.Html within
    ∙ ap (λ (x : Reply × Session). (x.0, Open page x.1))
    (ap (kept_or_new s.session) (law (asker page s k)) ∙ stays s.session (html_reply page (site_at s k).replica.items))

module _ (o : FirstRead) (s : Shared) (k : ℕ) (within : k < sites s) (is : IsOpen o s.session) (every : EverySiteHolds)
    (store : List Value) (origins : FirstRead) (same : store ≡ (site_at s k).replica.store) (lent : origins ≡ o) where
  pub first_there : IsFirst store origins
  first_there =
      subst (λ (x : FirstRead). IsFirst store x) (sym lent)
      (subst (λ (v : List Value). IsFirst v o) (sym same) (first_grown s.session.base.store (site_at s k).replica.store o (extends o s k within is every) is.first))

  pub html_is : HtmlIsAsked → (items : List PlainItem) (told : Reply) → items ≡ (site_at s k).replica.items → told ≡ html_reply (opened_over store origins) items →
      told ≡ (reply_and_world (world_on (page_on o s.session)) (Ask request.Html k)).0
  html_is law items told as_items e =
      e
      ∙ ap (λ (x : FirstRead). html_reply (opened_over store x) items) lent
      ∙ ap (λ (v : List Value). html_reply (opened_over v o) items) same
      ∙ ap (λ (p : Opened). html_reply p items) (page_same s.session.base.store (site_at s k).replica.store o (extends o s k within is every) is.first)
      ∙ ap (λ (l : List PlainItem). html_reply (page_on o s.session).page l) as_items
      ∙ sym (ap (λ (x : Reply × World). x.0) (html_told law (page_on o s.session).page s k within))

  -- where the list is the one that was first read, the items are the page's
  pub first_again : (list : List Item) (items : List PlainItem) → list ≡ o.items → items ≡ plain_list store list → items ≡ (site_at s k).replica.items →
      (site_at s k).replica.items ≡ (page_on o s.session).page.items
  first_again list items first over as_items =
      sym as_items ∙ over ∙ ap (plain_list store) first ∙ ap (λ (v : List Value). plain_list v o.items) same
      ∙ first_same s.session.base.store (site_at s k).replica.store o (extends o s k within is every) is.first

  -- where the site's history leaves so many items at either end, both lists have the same there
  these_agree : OnlyActiveChanges → PlainTellsApart → (e : Ends) (list : List Item) → All (CitesWell store) list → plain_list store list ≡ (site_at s k).replica.items →
      e.prefix ≤ length o.items → e.suffix ≤ length o.items → LeaveEnds e (flattened (entries_of s.session.committed (site_at s k))) → AgreeAtEnds e o.items list
  these_agree active apart e list cites over p q leaves =
      let base = s.session.base.store in
      let m = slice_index_or s.session.members k (joining s.session.base) in
      let there = slice_get-get_or s.session.members k (joining s.session.base) within in
      let holds = every is.led.lines (page_on o s.session).page s.session k m is.led.leads there in
      let ts = flattened (entries_of s.session.committed m.site) in
      let n : length (plain_list base o.items) ≡ length o.items = length-map o.items (plain base) in
      let by_value : AgreeAtEnds e (plain_list base o.items) (replay ts (plain_list base o.items)) =
      all_leave active e ts (plain_list base o.items) (subst (λ x. e.prefix ≤ x) (sym n) p) (subst (λ x. e.suffix ≤ x) (sym n) q) holds.runs leaves in
      let first : plain_list base o.items ≡ plain_list store o.items =
      sym (ap (λ (v : List Value). plain_list v o.items) same ∙ first_same base (site_at s k).replica.store o (extends o s k within is every) is.first) in
      let now : replay ts (plain_list base o.items) ≡ plain_list store list = sym (over ∙ holds.list) in
      let grown = first_grown base (site_at s k).replica.store o (extends o s k within is every) is.first in
      agree_cited apart store e o.items list (subst AreDistinct (sym same) holds.distinct)
      (subst (λ (v : List Value). All (CitesWell v) o.items) (sym same) grown.cites) cites
      (subst (λ (x : List PlainItem). AgreeAtEnds e (plain_list store o.items) x) now
      (subst (λ (x : List PlainItem). AgreeAtEnds e x (replay ts (plain_list base o.items))) first by_value))

  pub ends_agree : OnlyActiveChanges → PlainTellsApart → (found : Option Ends) (list : List Item) → All (CitesWell store) list → plain_list store list ≡ (site_at s k).replica.items →
      IfSome found (λ e. (e.prefix ≤ length o.items) × (e.suffix ≤ length o.items)) → IfSome found (λ e. LeaveEnds e (flattened (entries_of s.session.committed (site_at s k)))) →
      IfSome found (λ e. AgreeAtEnds e o.items list)
  ends_agree active apart None list cites over h leaves = tt
  ends_agree active apart (Some e) list cites over h leaves = these_agree active apart e list cites over h.0 h.1 leaves

-- the items of the site at k, where they are the page's
pub items_at : (s : Shared) (k : ℕ) (items : List PlainItem) → k < sites s → (site_at s k).replica.items ≡ items →
    option_map (λ (m : Member). m.site.replica.items) (slice_get s.session.members k) ≡ Some items
items_at s k items within e =
    ap (option_map (λ (m : Member). m.site.replica.items)) (slice_get-get_or s.session.members k (joining s.session.base) within) ∙ ap Some e

-- so the page is told as it was opened
pub opened_told : UneditedIsTold → (p : OnPage) (k : ℕ) (text : List ℕ) → k < length p.session.members → IsLed (world_on p) →
    option_map (λ (m : Member). m.site.replica.items) (slice_get p.session.members k) ≡ Some p.page.items → text ≡ p.page.page →
    reply.Page (chars text) ≡ (reply_and_world (world_on p) (Ask request.Html k)).0
opened_told law p k text within led unedited whole =
    let m = slice_index_or p.session.members k (joining p.session.base) in
    let there = slice_get-get_or p.session.members k (joining p.session.base) within in
    let items : Some m.site.replica.items ≡ Some p.page.items = ap (option_map (λ (m : Member). m.site.replica.items)) (sym there) ∙ unedited in
    let same : m.site.replica.items ≡ p.page.items = cc in
    ap (λ (t : List ℕ). reply.Page (chars t)) whole ∙ sym (ap (λ (x : Reply × World). x.0) (law p k m led there same))

-- so are those of a site that took nothing and has nothing pending
pub untouched_at : EverySiteHolds → (p : OnPage) (k : ℕ) → k < length p.session.members → IsLed (world_on p) → (site : Site) →
    site ≡ (slice_index_or p.session.members k (joining p.session.base)).site → (site.seen ≡ 0) × (pending site ≡ []) →
    option_map (λ (m : Member). m.site.replica.items) (slice_get p.session.members k) ≡ Some p.page.items
untouched_at law p k within led site same untouched =
    let m = slice_index_or p.session.members k (joining p.session.base) in
    let there = slice_get-get_or p.session.members k (joining p.session.base) within in
    let holds = law led.lines p.page p.session k m led.leads there in
    let first = holds.undone (ap (λ (s : Site). s.seen) (sym same) ∙ untouched.0) (ap pending (sym same) ∙ untouched.1) in
    ap (option_map (λ (m : Member). m.site.replica.items)) there ∙ ap Some first.0
