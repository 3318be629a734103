use Rattle.std.proofs.Common.{◌+◌, List, length, ap, ◌∙◌}
use Rattle.ve_tx.specs.declared.entry.Entry.{Entry}
use Rattle.ve_editor.specs.Page.{replica_of}
use Rattle.ve_site.proofs.TakeLemmas.{acked_is, acked_same}
use Rattle.ve_site.specs.Numbered.{Numbered, with_site}
use Rattle.model_site.specs.Take.{take_ack}
use Rattle.ve_site.proofs.site.Site.acknowledge.Goals as goal

pub invariant_of-self : goal.invariant_of-self
invariant_of-self c =
    let s = c.self.inside in
    acked_is (replica_of s.editor) s.untold s.seen s.sent.items s.history s.shared s.in_flight c.self.invariant c.in-Some.seen c.clear.new.self.items c.clear_undone.new.self
    (c.in-Some.ensures.1 ∙ ap (λ (es : List Entry). s.seen + length es) c.as_slice.ensures.value) c.clear.ensures.items c.clear_undone.ensures.done c.clear_undone.ensures.undone

pub returns-clause-site : goal.returns-clause-site
returns-clause-site c =
    let s = c.self.inside in
    ap (λ x. record { number = s.number; site = x })
    (acked_same (replica_of s.editor) s.untold s.seen s.sent.items s.history s.shared s.in_flight c.self.invariant c.in-Some.seen c.clear.new.self.items c.clear_undone.new.self
    (c.in-Some.ensures.1 ∙ ap (λ (es : List Entry). s.seen + length es) c.as_slice.ensures.value) c.clear.ensures.items c.clear_undone.ensures.done c.clear_undone.ensures.undone)
    ∙ ap (λ (v : Numbered). with_site (take_ack v.site) v) c.self.view_is
