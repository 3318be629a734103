use Rattle.std.proofs.Common.{sym, ap, subst}
use Rattle.model_site_law.specs.SelectionLaws.{StandsIn}
use Rattle.ve_editor.specs.Page.{replica_of}
use Rattle.ve_site.specs.Numbered.{Numbered}
use Rattle.ve_site.proofs.StepLemmas.{selected_is}
use Rattle.ve_site.proofs.site.Site.select.Goals as goal

pub invariant_of-self : goal.invariant_of-self
invariant_of-self c =
    let s = c.self.inside in
    let items = ap (λ (v : Numbered). v.site.replica.items) (sym c.self.view_is) in
    selected_is (replica_of s.editor) (replica_of c.select.new.self) s.seen s.sent.items s.history s.shared s.in_flight c.args.selection c.self.invariant
    (subst (λ i. StandsIn i c.args.selection) items c.requires) (ap replica_of c.select.ensures)
