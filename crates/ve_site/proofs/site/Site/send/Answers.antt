use Rattle.std.proofs.Common.{◌≡◌, ◌++◌, All, length, map, Some, Ok, IsOk, if◌then◌else◌, sym, ap, ◌∙◌, subst}
use Rattle.model_site.specs.Entries.{hints, parcels}
use Rattle.model_site.specs.Site.{send}
use Rattle.ve_editor.specs.Edited.{entry_by_value, EntryCites}
use Rattle.ve_editor.specs.Page.{replica_of}
use Rattle.ve_site.specs.Numbered.{Numbered, site_of}
use Rattle.ve_site.proofs.RefusalLemmas.{refusal_is, not_memory, may_send}
use Rattle.ve_site.proofs.SendLemmas.{unsent_cite, send_is, sent_is}
use Rattle.ve_site.proofs.site.Site.send.Goals as goal

pub returns-in-Some-clause-refused : goal.returns-in-Some-clause-refused
returns-in-Some-clause-refused c = refusal_is (send c.args.self.now.site) c.in-Some.fault (sym c.send_refusal.ensures ∙ c.in-Some.is)

pub returns-in-Some-clause-memory : goal.returns-in-Some-clause-memory
returns-in-Some-clause-memory c = not_memory (send c.args.self.now.site) c.in-Some.fault (sym c.send_refusal.ensures ∙ c.in-Some.is)

pub returns-in_default-checked_add-clause-memory : goal.returns-in_default-checked_add-clause-memory
returns-in_default-checked_add-clause-memory c = λ _. may_send (send c.args.self.now.site) c.send_refusal.result c.send_refusal.ensures c.in_default.not-Some

pub returns-in_default-parcels_of-clause-memory : goal.returns-in_default-parcels_of-clause-memory
returns-in_default-parcels_of-clause-memory c = λ _. may_send (send c.args.self.now.site) c.send_refusal.result c.send_refusal.ensures c.in_default.not-Some

pub returns-then-is_err-clause-memory : goal.returns-then-is_err-clause-memory
returns-then-is_err-clause-memory c = λ _. may_send (send c.args.self.now.site) c.send_refusal.result c.send_refusal.ensures c.in_default.not-Some

pub parcels_of-requires : goal.parcels_of-requires
parcels_of-requires c =
    let s = c.self.inside in
    let cite = unsent_cite (replica_of s.editor) s.untold s.seen s.sent.items s.history s.shared s.in_flight c.self.invariant in
    subst (λ store. All (EntryCites store) c.done-unsent.result.now) (sym c.doc.ensures.store) (subst (All (EntryCites s.editor.store)) (sym c.done-unsent.ensures) cite)

pub invariant_of-self-2 : goal.invariant_of-self-2
invariant_of-self-2 c =
    let s = c.self.inside in
    let all = c.append.ensures.items
    ∙ (ap (λ b. if b then c.reserve.new.self.items ++ c.into_vec-moved.result.items else c.reserve.new.self.items) (sym c.if-prove.ensures.value)
    ∙ (ap (λ es. es ++ c.into_vec-moved.result.items) c.reserve.ensures.items ∙ ap (λ es. s.sent.items ++ es) (c.into_vec-moved.ensures ∙ c.replace_done.ensures.handed))) in
    sent_is (replica_of s.editor) s.untold s.seen s.sent.items s.history s.shared s.in_flight c.self.invariant c.replace_done.new.self c.append.new.self.items (length c.done-unsent.result.now) c.in-Some-checked_add.shared
    all (c.replace_done.ensures.done ∙ c.new-none.ensures) c.replace_done.ensures.undone (ap length c.done-unsent.ensures) c.in-Some-checked_add.ensures.1

pub returns-clause-sent : goal.returns-clause-sent
returns-clause-sent c =
    let s = c.self.inside in
    let all = c.append.ensures.items
    ∙ (ap (λ b. if b then c.reserve.new.self.items ++ c.into_vec-moved.result.items else c.reserve.new.self.items) (sym c.if-prove.ensures.value)
    ∙ (ap (λ es. es ++ c.into_vec-moved.result.items) c.reserve.ensures.items ∙ ap (λ es. s.sent.items ++ es) (c.into_vec-moved.ensures ∙ c.replace_done.ensures.handed))) in
    let count = length c.done-unsent.result.now in
    let may = may_send (send c.args.self.now.site) c.send_refusal.result c.send_refusal.ensures c.in_default.not-Some in
    let lent = ap (λ store. map (entry_by_value store) c.done-unsent.result.now) c.doc.ensures.store ∙ ap (map (entry_by_value s.editor.store)) c.done-unsent.ensures in
    let unsent = map (entry_by_value s.editor.store) s.history.done in
    let values : c.in-Ok.parcels.entries ≡ parcels unsent = c.in-Ok.ensures.entries ∙ ap parcels lent in
    let taken : c.in-Ok.parcels.hints ≡ hints unsent = c.in-Ok.ensures.hints ∙ ap hints lent in
    let next = site_of (replica_of s.editor) s.untold s.seen c.append.new.self.items c.replace_done.new.self c.in-Some-checked_add.shared (Some count) in
    ap send (ap (λ (v : Numbered). v.site) (sym c.self.view_is))
    ∙ (send_is (replica_of s.editor) s.untold s.seen s.sent.items s.history s.shared s.in_flight c.self.invariant c.replace_done.new.self c.append.new.self.items count c.in-Some-checked_add.shared
    all (c.replace_done.ensures.done ∙ c.new-none.ensures) c.replace_done.ensures.undone (ap length c.done-unsent.ensures) c.in-Some-checked_add.ensures.1 (subst (λ (v : Numbered). IsOk (send v.site)) (sym c.self.view_is) may)
    ∙ (ap (λ es. Ok (next, record { base = s.seen; entries = es; hints = hints unsent })) (sym values)
    ∙ ap (λ hs. Ok (next, record { base = s.seen; entries = c.in-Ok.parcels.entries; hints = hs })) (sym taken)))
