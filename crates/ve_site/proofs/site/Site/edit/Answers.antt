use Rattle.std.proofs.Common.{◌≡◌, ◌≤◌, ◌+◌, ℕ, arith, [], ◌∷◌, ◌++◌, true, is_ok, sym, ap, ◌∙◌, subst, List, map}
use Rattle.model_site.specs.Untold.{passed}
use Rattle.ve_tx.specs.Operation.{Operation, by_value}
use Rattle.std.proofs.lemmas.Result.{err_from_is_err_and}
use Rattle.model_change.specs.Transaction.{InsertedApart, is_reduced}
use Rattle.model_site.specs.Refused.{edit_cause}
use Rattle.model_site.specs.Site.{Site, edit}
use Rattle.ve_tx.proofs.ChangeLemmas.{normal-reduced, ok-holds}
use Rattle.ve_editor.specs.Edited.{drafted, drafted_values}
use Rattle.ve_editor.specs.Refusal.{IsEditRefusal}
use Rattle.ve_editor.specs.Page.{replica_of}
use Rattle.ve_site.specs.Numbered.{Numbered, IsSite}
use Rattle.ve_site.proofs.StepLemmas.{roomy_same, roomy_is, edit_is, edited_is}
use Rattle.model_change.specs.Cost.{cost_of_transactions}
use Rattle.ve_site.proofs.site.Site.edit.Goals as goal

pub returns-in_err-entry-clause-refused : goal.returns-in_err-entry-clause-refused
returns-in_err-entry-clause-refused g c =
    let site = ap (λ (v : Numbered). v.site) c.self.view_is in
    let p = err_from_is_err_and c.from_residual.result c.from_residual.ensures.1 in
    rw (p.1, p.2)
    (subst (λ (s : Site). IsEditRefusal (edit_cause (drafted s.replica.store c.args.draft.now) s.replica) c.in_err-entry.field-0.0) site c.in_err-entry.ensures.refused)

pub invariant_of-self-2 : goal.invariant_of-self-2
invariant_of-self-2 g c =
    let s = c.self.inside in
    let room = c.reserve.new.self in
    let t = drafted s.editor.store c.args.draft.now in
    let e = c.in_ok-entry.entry in
    let now = c.push.new.self in
    let is = roomy_is (replica_of s.editor) s.untold s.seen s.sent.items s.history s.shared s.in_flight c.self.invariant room c.reserve.ensures.done c.reserve.ensures.undone in
    let ok : is_ok c.push.result ≡ true = sym c.is_ok-pushed.ensures.value ∙ c.if-prove.false in
    let done = ok-holds (now.done ≡ room.done ++ e ∷ []) c.push.result ok c.push.ensures.done in
    let undone = ok-holds (now.undone ≡ []) c.push.result ok c.push.ensures.undone in
    let noted : c.note.new.self ≡ passed (map (by_value c.perform.new.self.store) e.txs) s.untold =
    c.note.ensures c.perform.new.self.store ∙ ap (λ (txs : List (List Operation)). passed (map (by_value c.perform.new.self.store) txs) s.untold) c.as_slice.ensures in
    let reduced : is_reduced t ≡ true = normal-reduced t (c.ops-ops.ensures.normal (drafted_values s.editor.store c.args.draft.now)) in
    let site = ap (λ (v : Numbered). v.site) (sym c.self.view_is) in
    let apart = subst (λ (x : Site). InsertedApart (drafted x.replica.store c.args.draft.now)) site c.requires.apart in
    let f = c.in_ok-entry.ensures in
    edited_is (replica_of s.editor) s.untold s.seen s.sent.items room s.shared s.in_flight is t (replica_of c.perform.new.self) e now c.note.new.self f.allowed f.page f.entry f.cites done noted undone reduced apart

pub returns-clause-site : goal.returns-clause-site
returns-clause-site g c =
    let s = c.self.inside in
    let room = c.reserve.new.self in
    let t = drafted s.editor.store c.args.draft.now in
    let e = c.in_ok-entry.entry in
    let now = c.push.new.self in
    let is = roomy_is (replica_of s.editor) s.untold s.seen s.sent.items s.history s.shared s.in_flight c.self.invariant room c.reserve.ensures.done c.reserve.ensures.undone in
    let ok : is_ok c.push.result ≡ true = sym c.is_ok-pushed.ensures.value ∙ c.if-prove.false in
    let done = ok-holds (now.done ≡ room.done ++ e ∷ []) c.push.result ok c.push.ensures.done in
    let undone = ok-holds (now.undone ≡ []) c.push.result ok c.push.ensures.undone in
    let noted : c.note.new.self ≡ passed (map (by_value c.perform.new.self.store) e.txs) s.untold =
    c.note.ensures c.perform.new.self.store ∙ ap (λ (txs : List (List Operation)). passed (map (by_value c.perform.new.self.store) txs) s.untold) c.as_slice.ensures in
    let f = c.in_ok-entry.ensures in
    let same = roomy_same (replica_of s.editor) s.untold s.seen s.sent.items s.history s.shared s.in_flight c.self.invariant room c.reserve.ensures.done c.reserve.ensures.undone in
    ap (λ (x : Site). edit (drafted x.replica.store c.args.draft.now) x) (sym (same ∙ ap (λ (v : Numbered). v.site) c.self.view_is))
    ∙ edit_is (replica_of s.editor) s.untold s.seen s.sent.items room s.shared s.in_flight is t (replica_of c.perform.new.self) e now c.note.new.self f.allowed f.page f.entry f.cites done noted undone

one_more : (now after a : ℕ) → after ≤ now + a → after ≤ now + (a + 0)
one_more now after a h = omega arith

pub returns-in_err-entry-clause-steps : goal.returns-in_err-entry-clause-steps
returns-in_err-entry-clause-steps g c =
    subst (λ (x : Site). c.perform.new.steps ≤ c.args.steps.now + cost_of_transactions (drafted x.replica.store c.args.draft.now ∷ []) x.replica.items) (ap (λ (v : Numbered). v.site) c.self.view_is)
    (one_more c.args.steps.now c.perform.new.steps _ c.perform.ensures.steps)

pub returns-clause-steps : goal.returns-clause-steps
returns-clause-steps g c =
    subst (λ (x : Site). c.perform.new.steps ≤ c.args.steps.now + cost_of_transactions (drafted x.replica.store c.args.draft.now ∷ []) x.replica.items) (ap (λ (v : Numbered). v.site) c.self.view_is)
    (one_more c.args.steps.now c.perform.new.steps _ c.perform.ensures.steps)

pub invariant_of-self-in_err-entry : goal.invariant_of-self-in_err-entry
invariant_of-self-in_err-entry g c =
    let s = c.self.inside in
    let room = c.reserve.new.self in
    subst (λ r. IsSite r s.seen s.sent.items room s.shared s.in_flight) (sym c.in_err-entry.ensures.kept.page)
    (roomy_is (replica_of s.editor) s.untold s.seen s.sent.items s.history s.shared s.in_flight c.self.invariant room c.reserve.ensures.done c.reserve.ensures.undone)
