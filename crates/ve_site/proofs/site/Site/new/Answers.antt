use Rattle.std.proofs.Common.{◌∙◌, ap, subst}
use Rattle.model_change.specs.Store.{cited}
use Rattle.model_site.specs.Site.{Site}
use Rattle.model_site.specs.Untold.{all_untold}
use Rattle.model_site_law.specs.Sound.{AllIn}
use Rattle.ve_editor.proofs.OtherLemmas.{cited_there}
use Rattle.ve_editor.specs.Page.{replica_of}
use Rattle.ve_site.proofs.StepLemmas.{begun_is, begun_same, list_count}
use Rattle.ve_site.proofs.site.Site.new.Goals as goal

pub invariant_of-result : goal.invariant_of-result
invariant_of-result c =
    let page = c.doc.ensures.page in
    let stored = subst (λ items. AllIn c.args.editor.store (cited items)) c.doc.ensures.items (cited_there c.args.editor.store c.doc.result.list.now.items page.cites) in
    begun_is (replica_of c.args.editor) c.new-2.result.items c.new-3.result c.new-2.ensures.items c.new-3.ensures.done c.new-3.ensures.undone (record { sound = c.requires.sound; stored = stored }) c.requires.selection

pub returns : goal.returns
returns c =
    let count = c.len.ensures ∙ list_count c.args.editor.store c.doc.result.list.now.items c.args.editor.items c.doc.ensures.items in
    ap (λ (x : Site). record { number = c.args.number; site = x })
    (begun_same (replica_of c.args.editor) c.in_ok-untold.untold c.new-2.result.items c.new-3.result (c.in_ok-untold.ensures ∙ ap all_untold count) c.new-2.ensures.items c.new-3.ensures.done c.new-3.ensures.undone)
