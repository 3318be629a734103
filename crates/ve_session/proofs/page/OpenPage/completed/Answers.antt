use Rattle.std.proofs.Common.{◌≡◌, ◌<◌, length, List, ap, sym, subst, ◌∙◌}
use Rattle.ve_base.specs.declared.value.Value.{Value}
use Rattle.model_items.specs.declared.item.Item.{Item}
use Rattle.model_items.specs.declared.plain_item.PlainItem.{PlainItem}
use Rattle.model_items.specs.Plain.{plain_list}
use Rattle.ve_changes.specs.Completions.{FindsFirst}
use Rattle.ve_session.specs.Asked.{completed_request}
use Rattle.ve_session.specs.Opened.{lent_of, OnPage}
use Rattle.ve_session.proofs.DraftLemmas.{ok_as}
use Rattle.ve_session.proofs.FirstLemmas.{first_grown, first_same}
use Rattle.ve_session.proofs.OpeningLemmas.{finds_first}
use Rattle.ve_session.proofs.PageLemmas.{extends}
use Rattle.ve_sites.specs.Shared.{site_at}
use Rattle.ve_session.proofs.page.OpenPage.completed.Goals as goal

pub completed_request-requires : goal.completed_request-requires
completed_request-requires c =
    let i = c.self.inside in
    let o = lent_of i.text i.body i.rows i.session.first i.first_refs in
    let base = i.session.session.base.store in
    let store = (site_at i.session c.args.k).replica.store in
    let within = subst (λ (q : OnPage). c.args.k < length q.session.members) (sym c.self.view_is) c.requires.site in
    let more = extends o i.session c.args.k within c.self.invariant c.every_site_holds.ensures in
    record {
      first = subst (λ (items : List Item). FindsFirst c.doc_at.result.store.now items i.rows) (sym c.first.ensures.same)
          (subst (λ (v : List Value). FindsFirst v i.session.first i.rows) (sym c.doc_at.ensures.store) (finds_first o.page store o c.self.invariant.rows (first_grown base store o more c.self.invariant.first)));
    }

pub returns : goal.returns
returns c =
    let i = c.self.inside in
    let o = lent_of i.text i.body i.rows i.session.first i.first_refs in
    let base = i.session.session.base.store in
    let store = (site_at i.session c.args.k).replica.store in
    let within = subst (λ (q : OnPage). c.args.k < length q.session.members) (sym c.self.view_is) c.requires.site in
    let more = extends o i.session c.args.k within c.self.invariant c.every_site_holds.ensures in
    let same : plain_list c.doc_at.result.store.now c.first.result.now.items ≡ c.args.self.now.page.items =
    ap (λ (items : List Item). plain_list c.doc_at.result.store.now items) c.first.ensures.same
    ∙ (ap (λ (v : List Value). plain_list v i.session.first) c.doc_at.ensures.store
    ∙ (first_same base store o more c.self.invariant.first ∙ ap (λ (q : OnPage). q.page.items) c.self.view_is)) in
    ok_as (λ done. done ≡ completed_request (plain_list c.doc_at.result.store.now c.first.result.now.items) c.args.request) (λ done. done ≡ completed_request c.args.self.now.page.items c.args.request)
    c.completed_request.result (λ done is. is ∙ ap (λ (l : List PlainItem). completed_request l c.args.request) same) c.completed_request.ensures
