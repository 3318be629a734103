use Rattle.std.proofs.Common.{◌≡◌, None, [], ◌∷◌, ◌++◌, true, is_ok, sym, ap, ◌∙◌, subst, List, map}
use Rattle.model_site.specs.Site.{with_entry}
use Rattle.model_site.specs.Untold.{passed}
use Rattle.ve_tx.specs.Operation.{Operation, by_value}
use Rattle.ve_tx.proofs.ChangeLemmas.{ok-holds}
use Rattle.ve_editor.specs.Page.{LinkedPage, replica_of}
use Rattle.ve_site.specs.Attempted.{IsAttempted}
use Rattle.ve_site.specs.Numbered.{Numbered, IsSite, site_of}
use Rattle.ve_site.proofs.StepLemmas.{roomy_same, roomy_is, with_entry_same, with_entry_is}
use Rattle.ve_site.proofs.site.Site.attempt.Goals as goal

pub invariant_of-self-in_err-entry : goal.invariant_of-self-in_err-entry
invariant_of-self-in_err-entry g c =
    let s = c.self.inside in
    let room = c.reserve.new.self in
    subst (λ (p : LinkedPage). IsSite (replica_of p) s.seen s.sent.items room s.shared s.in_flight) (sym c.in_err-entry.ensures.kept)
    (roomy_is (replica_of s.editor) s.untold s.seen s.sent.items s.history s.shared s.in_flight c.self.invariant room c.reserve.ensures.done c.reserve.ensures.undone)

pub invariant_of-self-2 : goal.invariant_of-self-2
invariant_of-self-2 g c =
    let s = c.self.inside in
    let room = c.reserve.new.self in
    let e = c.in_ok-entry.entry in
    let new = replica_of c.attempt.new.self in
    let now = c.push.new.self in
    let is = roomy_is (replica_of s.editor) s.untold s.seen s.sent.items s.history s.shared s.in_flight c.self.invariant room c.reserve.ensures.done c.reserve.ensures.undone in
    let ok : is_ok c.push.result ≡ true = sym c.is_ok-pushed.ensures.value ∙ c.if-prove.false in
    let done = ok-holds (now.done ≡ room.done ++ e ∷ []) c.push.result ok c.push.ensures.done in
    let undone = ok-holds (now.undone ≡ []) c.push.result ok c.push.ensures.undone in
    let noted : c.note.new.self ≡ passed (map (by_value new.store) e.txs) s.untold =
    c.note.ensures new.store ∙ ap (λ (txs : List (List Operation)). passed (map (by_value new.store) txs) s.untold) c.as_slice.ensures in
    let made = c.in_ok-entry.ensures.made in
    with_entry_is (replica_of s.editor) s.untold s.seen s.sent.items room s.shared s.in_flight is None made.ts new e now c.note.new.self made.page made.entry made.cites done noted undone made.may

pub returns-clause-made : goal.returns-clause-made
returns-clause-made g c =
    let s = c.self.inside in
    let room = c.reserve.new.self in
    let e = c.in_ok-entry.entry in
    let new = replica_of c.attempt.new.self in
    let now = c.push.new.self in
    let is = roomy_is (replica_of s.editor) s.untold s.seen s.sent.items s.history s.shared s.in_flight c.self.invariant room c.reserve.ensures.done c.reserve.ensures.undone in
    let same = roomy_same (replica_of s.editor) s.untold s.seen s.sent.items s.history s.shared s.in_flight c.self.invariant room c.reserve.ensures.done c.reserve.ensures.undone in
    let ok : is_ok c.push.result ≡ true = sym c.is_ok-pushed.ensures.value ∙ c.if-prove.false in
    let done = ok-holds (now.done ≡ room.done ++ e ∷ []) c.push.result ok c.push.ensures.done in
    let undone = ok-holds (now.undone ≡ []) c.push.result ok c.push.ensures.undone in
    let noted : c.note.new.self ≡ passed (map (by_value new.store) e.txs) s.untold =
    c.note.ensures new.store ∙ ap (λ (txs : List (List Operation)). passed (map (by_value new.store) txs) s.untold) c.as_slice.ensures in
    let made = c.in_ok-entry.ensures.made in
    subst (λ (v : Numbered). IsAttempted (λ ts. g.A.Attempt.makes c.args.attempt.now v.site.replica ts c.in_ok-entry.told) v.site (site_of new c.note.new.self s.seen s.sent.items now s.shared s.in_flight)) c.self.view_is
    (record {
      ts = made.ts;
      asked = made.asked;
      may = made.may;
      site = with_entry_same (replica_of s.editor) s.untold s.seen s.sent.items room s.shared s.in_flight is None made.ts new e now c.note.new.self made.page made.entry made.cites done noted undone ∙ ap (with_entry made.ts) same;
    })
