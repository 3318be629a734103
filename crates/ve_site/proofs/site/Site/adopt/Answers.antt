use Rattle.std.proofs.Common.{◌≡◌, ◌≤◌, ◌+◌, [], ◌∷◌, ◌++◌, true, is_ok, sym, ap, ◌∙◌, subst, List, map}
use Rattle.model_site.specs.Untold.{passed}
use Rattle.ve_tx.specs.Operation.{Operation, by_value}
use Rattle.model_change.specs.Replay.{AllRun}
use Rattle.model_site.specs.Site.{Site, with_entry_against}
use Rattle.model_site_law.proofs.ReplayLemmas.{AllMayRun_from_runs}
use Rattle.ve_tx.specs.ByValue.{parcel_by_value}
use Rattle.ve_tx.proofs.ChangeLemmas.{ok-holds}
use Rattle.ve_editor.specs.Counted.{steps_over}
use Rattle.ve_editor.specs.Edited.{AllStand}
use Rattle.ve_editor.specs.Page.{replica_of}
use Rattle.ve_site.specs.Numbered.{Numbered, with_site, IsSite}
use Rattle.ve_site.proofs.StandsLemmas.{all_stand}
use Rattle.ve_site.proofs.StepLemmas.{roomy_same, roomy_is, with_entry_same, with_entry_is}
use Rattle.ve_site.proofs.site.Site.adopt.Goals as goal

pub admit-requires-clause-stands : goal.admit-requires-clause-stands
admit-requires-clause-stands g c =
    let ts = parcel_by_value c.args.back.now in
    subst (λ (x : Site). AllStand ts x.replica.items) (ap (λ (v : Numbered). v.site) (sym c.self.view_is)) (all_stand ts c.args.self.now.site.replica.items c.requires.run)

pub invariant_of-self-2 : goal.invariant_of-self-2
invariant_of-self-2 g c =
    let s = c.self.inside in
    let ts = parcel_by_value c.args.back.now in
    let taken = c.args.back.now.entry.takes_back in
    let room = c.reserve.new.self in
    let now = c.push.new.self in
    let e = c.in_ok-entry.entry in
    let f = c.in_ok-entry.ensures in
    let is = roomy_is (replica_of s.editor) s.untold s.seen s.sent.items s.history s.shared s.in_flight c.self.invariant room c.reserve.ensures.done c.reserve.ensures.undone in
    let ok : is_ok c.push.result ≡ true = sym c.is_ok-adopted.ensures.value ∙ c.if-prove.false in
    let done = ok-holds (now.done ≡ room.done ++ e ∷ []) c.push.result ok c.push.ensures.done in
    let undone = ok-holds (now.undone ≡ []) c.push.result ok c.push.ensures.undone in
    let noted : c.note.new.self ≡ passed (map (by_value c.admit.new.self.store) e.txs) s.untold =
    c.note.ensures c.admit.new.self.store ∙ ap (λ (txs : List (List Operation)). passed (map (by_value c.admit.new.self.store) txs) s.untold) c.as_slice.ensures in
    let run = subst (λ (x : Site). AllRun ts x.replica.items) (ap (λ (v : Numbered). v.site) (sym c.self.view_is)) c.requires.run in
    with_entry_is (replica_of s.editor) s.untold s.seen s.sent.items room s.shared s.in_flight is taken ts (replica_of c.admit.new.self) e now c.note.new.self f.page f.entry f.cites done noted undone (AllMayRun_from_runs ts s.editor.items run)

pub returns-clause-site : goal.returns-clause-site
returns-clause-site g c =
    let s = c.self.inside in
    let ts = parcel_by_value c.args.back.now in
    let taken = c.args.back.now.entry.takes_back in
    let room = c.reserve.new.self in
    let now = c.push.new.self in
    let e = c.in_ok-entry.entry in
    let f = c.in_ok-entry.ensures in
    let is = roomy_is (replica_of s.editor) s.untold s.seen s.sent.items s.history s.shared s.in_flight c.self.invariant room c.reserve.ensures.done c.reserve.ensures.undone in
    let ok : is_ok c.push.result ≡ true = sym c.is_ok-adopted.ensures.value ∙ c.if-prove.false in
    let done = ok-holds (now.done ≡ room.done ++ e ∷ []) c.push.result ok c.push.ensures.done in
    let undone = ok-holds (now.undone ≡ []) c.push.result ok c.push.ensures.undone in
    let noted : c.note.new.self ≡ passed (map (by_value c.admit.new.self.store) e.txs) s.untold =
    c.note.ensures c.admit.new.self.store ∙ ap (λ (txs : List (List Operation)). passed (map (by_value c.admit.new.self.store) txs) s.untold) c.as_slice.ensures in
    let same = roomy_same (replica_of s.editor) s.untold s.seen s.sent.items s.history s.shared s.in_flight c.self.invariant room c.reserve.ensures.done c.reserve.ensures.undone in
    ap (λ (x : Site). record { number = s.number; site = x })
    (with_entry_same (replica_of s.editor) s.untold s.seen s.sent.items room s.shared s.in_flight is taken ts (replica_of c.admit.new.self) e now c.note.new.self f.page f.entry f.cites done noted undone ∙ ap (with_entry_against taken ts) same)
    ∙ ap (λ (v : Numbered). with_site (with_entry_against taken ts v.site) v) c.self.view_is

pub returns-in_err-entry-clause-steps : goal.returns-in_err-entry-clause-steps
returns-in_err-entry-clause-steps g c =
    subst (λ (x : Site). c.admit.new.steps ≤ c.args.steps.now + steps_over (parcel_by_value c.args.back.now) x.replica.items) (ap (λ (v : Numbered). v.site) c.self.view_is) c.admit.ensures.steps

pub returns-clause-steps : goal.returns-clause-steps
returns-clause-steps g c =
    subst (λ (x : Site). c.admit.new.steps ≤ c.args.steps.now + steps_over (parcel_by_value c.args.back.now) x.replica.items) (ap (λ (v : Numbered). v.site) c.self.view_is) c.admit.ensures.steps

pub invariant_of-self-in_err-entry : goal.invariant_of-self-in_err-entry
invariant_of-self-in_err-entry g c =
    let s = c.self.inside in
    let room = c.reserve.new.self in
    subst (λ r. IsSite r s.seen s.sent.items room s.shared s.in_flight) (sym c.in_err-entry.ensures.kept.page)
    (roomy_is (replica_of s.editor) s.untold s.seen s.sent.items s.history s.shared s.in_flight c.self.invariant room c.reserve.ensures.done c.reserve.ensures.undone)
