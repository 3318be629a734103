use Rattle.std.proofs.Common.{◌≡◌, None, [], ◌∷◌, ◌++◌, true, is_ok, sym, ap, ◌∙◌, subst, List, map}
use Rattle.model_site.specs.Untold.{passed}
use Rattle.ve_tx.specs.Operation.{Operation, by_value}
use Rattle.model_site.specs.Entries.{entry_of}
use Rattle.model_site.specs.Replica.{all_performed}
use Rattle.model_site.specs.Site.{Site, with_entry}
use Rattle.model_site_law.specs.Sound.{AllMayRun}
use Rattle.ve_tx.proofs.ChangeLemmas.{ok-holds}
use Rattle.ve_editor.specs.Edited.{entry_by_value}
use Rattle.ve_editor.specs.Page.{replica_of}
use Rattle.ve_site.specs.Numbered.{Numbered, site_of, with_site}
use Rattle.ve_site.specs.Settled.{with_new_entry}
use Rattle.ve_site.proofs.SettleLemmas.{settled_is}
use Rattle.ve_site.proofs.StepLemmas.{roomy_same, roomy_is, with_entry_same, with_entry_is}
use Rattle.ve_site.proofs.site.Site.settle.Goals as goal

pub invariant_of-self-2 : goal.invariant_of-self-2
invariant_of-self-2 c =
    let s = c.self.inside in
    let h = c.requires.settles in
    let room = c.reserve.new.self in
    let e = c.args.entry in
    let now = c.push.new.self in
    let is = roomy_is (replica_of s.editor) s.untold s.seen s.sent.items s.history s.shared s.in_flight c.self.invariant room c.reserve.ensures.done c.reserve.ensures.undone in
    let ok : is_ok c.push.result ≡ true = sym c.is_ok-pushed.ensures.value ∙ c.if-prove.false in
    let done = ok-holds (now.done ≡ room.done ++ e ∷ []) c.push.result ok c.push.ensures.done in
    let undone = ok-holds (now.undone ≡ []) c.push.result ok c.push.ensures.undone in
    let noted : c.note.new.self ≡ passed (map (by_value c.args.editor.store) e.txs) s.untold =
    c.note.ensures c.args.editor.store ∙ ap (λ (txs : List (List Operation)). passed (map (by_value c.args.editor.store) txs) s.untold) c.as_slice.ensures in
    let site = ap (λ (v : Numbered). v.site) (sym c.self.view_is) in
    let may = subst (λ (x : Site). AllMayRun h.ts x.replica.items) site h.may in
    let page = subst (λ (x : Site). replica_of c.args.editor ≡ all_performed h.ts x.replica) site h.page in
    let entry = subst (λ (x : Site). entry_by_value c.args.editor.store e ≡ entry_of h.ts x.replica) site h.entry in
    with_entry_is (replica_of s.editor) s.untold s.seen s.sent.items room s.shared s.in_flight is None h.ts (replica_of c.args.editor) e now c.note.new.self page entry h.cites done noted undone may

pub returns-clause-site : goal.returns-clause-site
returns-clause-site c =
    let s = c.self.inside in
    let h = c.requires.settles in
    let room = c.reserve.new.self in
    let e = c.args.entry in
    let now = c.push.new.self in
    let is = roomy_is (replica_of s.editor) s.untold s.seen s.sent.items s.history s.shared s.in_flight c.self.invariant room c.reserve.ensures.done c.reserve.ensures.undone in
    let ok : is_ok c.push.result ≡ true = sym c.is_ok-pushed.ensures.value ∙ c.if-prove.false in
    let done = ok-holds (now.done ≡ room.done ++ e ∷ []) c.push.result ok c.push.ensures.done in
    let undone = ok-holds (now.undone ≡ []) c.push.result ok c.push.ensures.undone in
    let noted : c.note.new.self ≡ passed (map (by_value c.args.editor.store) e.txs) s.untold =
    c.note.ensures c.args.editor.store ∙ ap (λ (txs : List (List Operation)). passed (map (by_value c.args.editor.store) txs) s.untold) c.as_slice.ensures in
    let site = ap (λ (v : Numbered). v.site) (sym c.self.view_is) in
    let may = subst (λ (x : Site). AllMayRun h.ts x.replica.items) site h.may in
    let page = subst (λ (x : Site). replica_of c.args.editor ≡ all_performed h.ts x.replica) site h.page in
    let entry = subst (λ (x : Site). entry_by_value c.args.editor.store e ≡ entry_of h.ts x.replica) site h.entry in
    let same = roomy_same (replica_of s.editor) s.untold s.seen s.sent.items s.history s.shared s.in_flight c.self.invariant room c.reserve.ensures.done c.reserve.ensures.undone in
    ap (λ (x : Site). record { number = s.number; site = x })
    (with_entry_same (replica_of s.editor) s.untold s.seen s.sent.items room s.shared s.in_flight is None h.ts (replica_of c.args.editor) e now c.note.new.self page entry h.cites done noted undone ∙ ap (with_entry h.ts) same ∙ sym (settled_is (replica_of c.args.editor) e (site_of (replica_of s.editor) s.untold s.seen s.sent.items s.history s.shared s.in_flight) (record { ts = h.ts; may = may; page = page; entry = entry; cites = h.cites })))
    ∙ ap (λ (v : Numbered). with_site (with_new_entry (replica_of c.args.editor) e v.site) v) c.self.view_is
