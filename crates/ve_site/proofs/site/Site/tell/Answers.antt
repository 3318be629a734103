use Rattle.std.proofs.Common.{◌∙◌, ap}
use Rattle.model_site.specs.Site.{with_told}
use Rattle.model_site.specs.Untold.{Untold, none_untold}
use Rattle.ve_editor.specs.Page.{replica_of}
use Rattle.ve_site.specs.Numbered.{Numbered, site_of, with_site}
use Rattle.ve_site.proofs.StepLemmas.{list_count}
use Rattle.ve_site.proofs.site.Site.tell.Goals as goal

pub returns : goal.returns
returns c =
    let s = c.self.inside in
    let count = c.len-count.ensures ∙ list_count s.editor.store c.doc.result.list.now.items s.editor.items c.doc.ensures.items in
    ap (λ (u : Untold). record { number = s.number; site = site_of (replica_of s.editor) u s.seen s.sent.items s.history s.shared s.in_flight }) (c.clear.ensures ∙ ap none_untold count)
    ∙ ap (λ (v : Numbered). with_site (with_told v.site) v) c.self.view_is
