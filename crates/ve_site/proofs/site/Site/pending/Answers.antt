use Rattle.std.proofs.Common.{All, map, sym, ap, ◌∙◌, subst}
use Rattle.model_site.specs.Entries.{hints, parcels}
use Rattle.model_site.specs.Site.{pending}
use Rattle.ve_editor.specs.Edited.{entry_by_value, EntryCites}
use Rattle.ve_editor.specs.Page.{replica_of}
use Rattle.ve_server.specs.Travelling.{Travelling}
use Rattle.ve_site.specs.Numbered.{Numbered}
use Rattle.ve_site.proofs.SendLemmas.{sent_cite, unsent_cite, pending_hints, pending_parcels}
use Rattle.ve_site.proofs.site.Site.pending.Goals as goal

pub parcels_of-requires : goal.parcels_of-requires
parcels_of-requires c =
    let s = c.self.inside in
    subst (λ store. All (EntryCites store) c.as_slice.result.now) (sym c.doc.ensures.store)
    (subst (All (EntryCites s.editor.store)) (sym c.as_slice.ensures.value) (sent_cite (replica_of s.editor) s.untold s.seen s.sent.items s.history s.shared s.in_flight c.self.invariant))

pub parcels_of-requires-2 : goal.parcels_of-requires-2
parcels_of-requires-2 c =
    let s = c.self.inside in
    subst (λ store. All (EntryCites store) c.done.result.now) (sym c.doc.ensures.store)
    (subst (All (EntryCites s.editor.store)) (sym c.done.ensures) (unsent_cite (replica_of s.editor) s.untold s.seen s.sent.items s.history s.shared s.in_flight c.self.invariant))

pub returns-clause-entries : goal.returns-clause-entries
returns-clause-entries c =
    let s = c.self.inside in
    let first = c.in_ok-entries.ensures.entries ∙ ap (λ store. parcels (map (entry_by_value store) c.as_slice.result.now)) c.doc.ensures.store
    ∙ ap (λ es. parcels (map (entry_by_value s.editor.store) es)) c.as_slice.ensures.value in
    let second = c.in_ok-parcels_of.ensures.entries ∙ ap (λ store. parcels (map (entry_by_value store) c.done.result.now)) c.doc.ensures.store
    ∙ ap (λ es. parcels (map (entry_by_value s.editor.store) es)) c.done.ensures in
    ap (λ (t : Travelling). t.entries) c.in_ok-append.ensures.ok
    ∙ pending_parcels (replica_of s.editor) s.untold s.seen s.sent.items s.history s.shared s.in_flight c.self.invariant c.in_ok-entries.entries.entries c.in_ok-parcels_of.field-0.entries first second
    ∙ ap (λ (v : Numbered). parcels (pending v.site)) c.self.view_is

pub returns-clause-hints : goal.returns-clause-hints
returns-clause-hints c =
    let s = c.self.inside in
    let first = c.in_ok-entries.ensures.hints ∙ ap (λ store. hints (map (entry_by_value store) c.as_slice.result.now)) c.doc.ensures.store
    ∙ ap (λ es. hints (map (entry_by_value s.editor.store) es)) c.as_slice.ensures.value in
    let second = c.in_ok-parcels_of.ensures.hints ∙ ap (λ store. hints (map (entry_by_value store) c.done.result.now)) c.doc.ensures.store
    ∙ ap (λ es. hints (map (entry_by_value s.editor.store) es)) c.done.ensures in
    ap (λ (t : Travelling). t.hints) c.in_ok-append.ensures.ok
    ∙ pending_hints (replica_of s.editor) s.untold s.seen s.sent.items s.history s.shared s.in_flight c.self.invariant c.in_ok-entries.entries.hints c.in_ok-parcels_of.field-0.hints first second
    ∙ ap (λ (v : Numbered). hints (pending v.site)) c.self.view_is
