use Rattle.std.proofs.Common.{◌≡◌, ◌<◌, ◌++◌, ◌∷◌, [], List, length, refl, ap, sym, subst, ◌∙◌}
use Rattle.std.specs.Prelude.{IfSome, IsUtf8, OnOk, Some, option_map, slice_get}
use Rattle.model_site.specs.Session.{Member}
use Rattle.model_items.specs.declared.item.Item.{Item}
use Rattle.model_page.specs.Editable.{all_refer}
use Rattle.model_world.specs.declared.command.Command.TheVariants.{Ask}
use Rattle.model_world.specs.declared.command.Request.TheVariants as request
use Rattle.model_world.specs.declared.reply.Reply.{Reply}
use Rattle.model_world.specs.Spelled.{reply_text}
use Rattle.ve_offsets.specs.Docs.{page_items}
use Rattle.ve_origin.specs.Origins.{first_read, AreRows, FirstRead}
use Rattle.ve_session.specs.Asked.{reply_and_world}
use Rattle.ve_session.specs.Opened.{lent_of, page_on, world_on, OnPage}
use Rattle.ve_origin.specs.Known.{AreKnown}
use Rattle.ve_session.specs.Ends.{AgreeAtEnds}
use Rattle.ve_site.specs.declared.ends.Ends.{Ends}
use Rattle.ve_session.proofs.HtmlLemmas.{ends_agree, first_there, first_again, html_is, items_at, untouched_at}
use Rattle.ve_session.proofs.PageLemmas.{refers}
use Rattle.ve_session.proofs.page.OpenPage.show_html.Goals as goal

pub new-origins-requires-clause-rows : goal.new-origins-requires-clause-rows
new-origins-requires-clause-rows c =
    subst (λ (items : List Item). AreRows c.as_str.result.now (length items) c.self.inside.rows) (sym c.first.ensures.same)
    (subst (λ text. AreRows text (length c.self.inside.session.first) c.self.inside.rows) (sym c.as_str.ensures.bytes) c.self.invariant.rows)

pub html-requires-clause-refers : goal.html-requires-clause-refers
html-requires-clause-refers c =
    let i = c.self.inside in
    let o = lent_of i.text i.body i.rows i.session.first i.first_refs in
    let within = subst (λ (q : OnPage). c.args.k < length q.session.members) (sym c.self.view_is) c.requires.site in
    ap all_refer c.doc_at-doc.ensures.items
    ∙ refers o i.session c.args.k within c.self.invariant c.every_item_stands.ensures (subst IsUtf8 c.as_str.ensures.bytes c.as_str.utf8)

pub html-requires-clause-first : goal.html-requires-clause-first
html-requires-clause-first c =
    let i = c.self.inside in
    let o = lent_of i.text i.body i.rows i.session.first i.first_refs in
    let within = subst (λ (q : OnPage). c.args.k < length q.session.members) (sym c.self.view_is) c.requires.site in
    let lent : c.new-origins.result ≡ o =
    c.new-origins.ensures ∙ ap (λ text. first_read text i.body i.rows c.first.result.now.items i.first_refs) c.as_str.ensures.bytes
    ∙ ap (λ (items : List Item). lent_of i.text i.body i.rows items i.first_refs) c.first.ensures.same in
    first_there o i.session c.args.k within c.self.invariant c.every_site_holds.ensures c.doc_at-doc.result.store.now c.new-origins.result c.doc_at-doc.ensures.store lent

pub show_opened-requires-clause-unedited : goal.show_opened-requires-clause-unedited
show_opened-requires-clause-unedited c =
    let i = c.self.inside in
    let o = lent_of i.text i.body i.rows i.session.first i.first_refs in
    let within = subst (λ (q : OnPage). c.args.k < length q.session.members) (sym c.self.view_is) c.requires.site in
    subst (λ (q : OnPage). option_map (λ (m : Member). m.site.replica.items) (slice_get q.session.members c.args.k) ≡ Some q.page.items) c.self.view_is
    (untouched_at c.every_site_holds.ensures (page_on o i.session.session) c.args.k within c.self.invariant.led c.site.result.now.site c.site.ensures (c.is_untouched.ensures.0 c.if-is_untouched.true))

pub show_opened-requires-then-is_first_after-clause-unedited : goal.show_opened-requires-then-is_first_after-clause-unedited
show_opened-requires-then-is_first_after-clause-unedited c =
    let i = c.self.inside in
    let o = lent_of i.text i.body i.rows i.session.first i.first_refs in
    let within = subst (λ (q : OnPage). c.args.k < length q.session.members) (sym c.self.view_is) c.requires.site in
    let lent : c.new-origins.result ≡ o =
    c.new-origins.ensures ∙ ap (λ text. first_read text i.body i.rows c.first.result.now.items i.first_refs) c.as_str.ensures.bytes
    ∙ ap (λ (items : List Item). lent_of i.text i.body i.rows items i.first_refs) c.first.ensures.same in
    let again = first_again o i.session c.args.k within c.self.invariant c.every_site_holds.ensures c.doc_at-doc.result.store.now c.new-origins.result c.doc_at-doc.ensures.store lent
    c.doc_at-doc.result.list.now.items (page_items c.doc_at-doc.result) (c.is_first_after.ensures.0 c.if-is_first_after.true ∙ ap (λ (x : FirstRead). x.items) lent) refl c.doc_at-doc.ensures.items in
    subst (λ (q : OnPage). option_map (λ (m : Member). m.site.replica.items) (slice_get q.session.members c.args.k) ≡ Some q.page.items) c.self.view_is
    (items_at i.session c.args.k (page_on o i.session.session).page.items within again)

pub returns-clause-reply : goal.returns-clause-reply
returns-clause-reply c =
    let i = c.self.inside in
    let o = lent_of i.text i.body i.rows i.session.first i.first_refs in
    let within = subst (λ (q : OnPage). c.args.k < length q.session.members) (sym c.self.view_is) c.requires.site in
    let lent : c.new-origins.result ≡ o =
    c.new-origins.ensures ∙ ap (λ text. first_read text i.body i.rows c.first.result.now.items i.first_refs) c.as_str.ensures.bytes
    ∙ ap (λ (items : List Item). lent_of i.text i.body i.rows items i.first_refs) c.first.ensures.same in
    let told = html_is o i.session c.args.k within c.self.invariant c.every_site_holds.ensures c.doc_at-doc.result.store.now c.new-origins.result c.doc_at-doc.ensures.store lent
    c.replies_are_as_asked.ensures.html (page_items c.doc_at-doc.result) _ c.doc_at-doc.ensures.items c.in_ok-answer.ensures.reply in
    subst (λ (r : Reply). OnOk c.reply_text.result (c.reply_text.new.out ≡ c.args.out.now ++ (reply_text r ++ 10 ∷ [])))
    (told ∙ ap (λ (q : OnPage). (reply_and_world (world_on q) (Ask request.Html c.args.k)).0) c.self.view_is) c.reply_text.ensures.ok

pub known_at-known-requires : goal.known_at-known-requires
known_at-known-requires c =
    let i = c.self.inside in
    let o = lent_of i.text i.body i.rows i.session.first i.first_refs in
    let within = subst (λ (q : OnPage). c.args.k < length q.session.members) (sym c.self.view_is) c.requires.site in
    let lent : c.new-origins.result ≡ o =
    c.new-origins.ensures ∙ ap (λ text. first_read text i.body i.rows c.first.result.now.items i.first_refs) c.as_str.ensures.bytes
    ∙ ap (λ (items : List Item). lent_of i.text i.body i.rows items i.first_refs) c.first.ensures.same in
    subst (λ (items : List Item). IfSome c.ends_within-ends.result (λ (e : Ends). AgreeAtEnds e items c.doc_at-doc.result.list.now.items)) (sym c.first-2.ensures.same)
    (ends_agree o i.session c.args.k within c.self.invariant c.every_site_holds.ensures c.doc_at-doc.result.store.now c.new-origins.result c.doc_at-doc.ensures.store lent
    c.transactions_give.ensures.active c.plain_tells_apart.ensures c.ends_within-ends.result c.doc_at-doc.result.list.now.items c.doc_at-doc.ensures.page.cites c.doc_at-doc.ensures.items
    c.ends_within-ends.ensures.within c.ends_within-ends.ensures.left)

pub html-requires-clause-known : goal.html-requires-clause-known
html-requires-clause-known c =
    let i = c.self.inside in
    let o = lent_of i.text i.body i.rows i.session.first i.first_refs in
    let lent : c.new-origins.result ≡ o =
    c.new-origins.ensures ∙ ap (λ text. first_read text i.body i.rows c.first.result.now.items i.first_refs) c.as_str.ensures.bytes
    ∙ ap (λ (items : List Item). lent_of i.text i.body i.rows items i.first_refs) c.first.ensures.same in
    subst (λ (items : List Item). AreKnown c.doc_at-doc.result.list.now.items items c.known_at-known.result)
    (c.first-2.ensures.same ∙ sym (ap (λ (x : FirstRead). x.items) lent)) c.known_at-known.ensures

pub is_first_after-requires : goal.is_first_after-requires
is_first_after-requires c =
    let i = c.self.inside in
    let o = lent_of i.text i.body i.rows i.session.first i.first_refs in
    let lent : c.new-origins.result ≡ o =
    c.new-origins.ensures ∙ ap (λ text. first_read text i.body i.rows c.first.result.now.items i.first_refs) c.as_str.ensures.bytes
    ∙ ap (λ (items : List Item). lent_of i.text i.body i.rows items i.first_refs) c.first.ensures.same in
    record {
      known = subst (λ (items : List Item). AreKnown c.doc_at-doc.result.list.now.items items c.known_at-known.result)
          (c.first-2.ensures.same ∙ sym (ap (λ (x : FirstRead). x.items) lent)) c.known_at-known.ensures;
    }
