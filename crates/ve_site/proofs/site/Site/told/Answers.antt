use Rattle.std.proofs.Common.{◌≡◌, ◌∙◌, IfOk, subst}
use Rattle.model_site.specs.Site as model
use Rattle.model_site.specs.Untold as untold
use Rattle.ve_site.specs.Numbered.{Numbered}
use Rattle.ve_site.proofs.StepLemmas.{list_count}
use Rattle.ve_site.proofs.site.Site.told.Goals as goal

pub returns : goal.returns
returns c =
    let s = c.self.inside in
    let count = c.len.ensures ∙ list_count s.editor.store c.doc.result.list.now.items s.editor.items c.doc.ensures.items in
    subst (λ (v : Numbered). IfOk c.told.result (λ patches. patches.items ≡ model.told v.site)) c.self.view_is
    (subst (λ n. IfOk c.told.result (λ patches. patches.items ≡ untold.told n s.untold)) count c.told.ensures)
