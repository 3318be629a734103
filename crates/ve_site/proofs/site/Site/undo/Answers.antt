use Rattle.std.proofs.Common.{◌≡◌, ◌≤◌, ◌+◌, ◌-◌, ◌∷◌, true, is_ok, IsOk, List, length, map, slice_get, All, None, Some, [], refl, sym, ap, ◌∙◌, subst}
use Rattle.model_change.specs.Replay.{reversal}
use Rattle.model_site.specs.Untold.{passed}
use Rattle.model_site.specs.Entries.{reverted}
use Rattle.model_site.specs.Site.{Site, undo}
use Rattle.ve_tx.specs.declared.entry.Entry.{Entry}
use Rattle.ve_tx.specs.Cites.{TxCites}
use Rattle.ve_tx.specs.Operation.{by_value, Operation}
use Rattle.ve_tx.proofs.ChangeLemmas.{ok-holds}
use Rattle.ve_editor.specs.Edited.{entry_by_value}
use Rattle.ve_history.specs.Stacks.{without_last}
use Rattle.ve_site.specs.Numbered.{Numbered, site_of, IsSite}
use Rattle.ve_site.specs.Refusal.{IsUndoRefusal}
use Rattle.ve_site.proofs.StepLemmas.{roomy_same, roomy_is, not_err, is_err_then, fails_where}
use Rattle.ve_site.proofs.UndoLemmas.{last_cites, undo_counts, may_go, cuts_uncited, undo_is, undone_is, nothing_undone, not_memory, last_is, undoes}
use Rattle.ve_editor.specs.Counted.{steps_over}
use Rattle.ve_editor.specs.Page.{replica_of}
use Rattle.ve_editor.specs.Stays.{IsUnchanged}
use Rattle.model_site.specs.Made.{undoing}
use Rattle.ve_site.proofs.site.Site.undo.Goals as goal

pub returns-then-is_err-clause-memory : goal.returns-then-is_err-clause-memory
returns-then-is_err-clause-memory g c = λ _.
    let s = c.self.inside in
    subst (λ (x : Site). IsOk (undo x)) (ap (λ (v : Numbered). v.site) c.self.view_is)
    (undoes (site_of (replica_of s.editor) s.untold s.seen s.sent.items s.history s.shared s.in_flight) s.history.done refl
    (fails_where (s.history.done ≡ []) c.reserve_undo.result (sym c.if-is_err.ensures.value) c.reserve_undo.ensures.none))

pub returns-in_default-clause-refused : goal.returns-in_default-clause-refused
returns-in_default-clause-refused g c =
    let s = c.self.inside in
    let none = subst (λ (es : List Entry). slice_get es (length es - 1) ≡ None) c.reserve_undo.ensures.done (sym c.in_default.ensures) in
    subst (λ (x : Site). IsUndoRefusal (undo x) c.nothing_to_undo.result) (ap (λ (v : Numbered). v.site) c.self.view_is)
    (nothing_undone (site_of (replica_of s.editor) s.untold s.seen s.sent.items s.history s.shared s.in_flight) s.history.done c.nothing_to_undo.result refl none c.nothing_to_undo.ensures)

pub returns-in_default-clause-memory : goal.returns-in_default-clause-memory
returns-in_default-clause-memory g c = λ want. absurd (not_memory c.self.inside.shared c.nothing_to_undo.result c.nothing_to_undo.ensures want)

pub invariant_of-self-in_default : goal.invariant_of-self-in_default
invariant_of-self-in_default g c =
    let s = c.self.inside in
    roomy_is (replica_of s.editor) s.untold s.seen s.sent.items s.history s.shared s.in_flight c.self.invariant c.reserve_undo.new.self c.reserve_undo.ensures.done c.reserve_undo.ensures.undone

pub returns-in_default-of-clause-memory : goal.returns-in_default-of-clause-memory
returns-in_default-of-clause-memory g c = λ _.
    let s = c.self.inside in
    let last = subst (λ (es : List Entry). slice_get es (length es - 1) ≡ Some c.in-Some.last.now) c.reserve_undo.ensures.done (sym c.in-Some.ensures) in
    subst (λ (x : Site). IsOk (undo x)) (ap (λ (v : Numbered). v.site) c.self.view_is)
    (undoes (site_of (replica_of s.editor) s.untold s.seen s.sent.items s.history s.shared s.in_flight) s.history.done refl (last_is s.history.done c.in-Some.last.now last))

pub returns-then-is_err-2-clause-memory : goal.returns-then-is_err-2-clause-memory
returns-then-is_err-2-clause-memory g c = λ _.
    let s = c.self.inside in
    let last = subst (λ (es : List Entry). slice_get es (length es - 1) ≡ Some c.in-Some.last.now) c.reserve_undo.ensures.done (sym c.in-Some.ensures) in
    subst (λ (x : Site). IsOk (undo x)) (ap (λ (v : Numbered). v.site) c.self.view_is)
    (undoes (site_of (replica_of s.editor) s.untold s.seen s.sent.items s.history s.shared s.in_flight) s.history.done refl (last_is s.history.done c.in-Some.last.now last))

pub of-requires : goal.of-requires
of-requires g c =
    let s = c.self.inside in
    let room = c.reserve_undo.new.self in
    let is = roomy_is (replica_of s.editor) s.untold s.seen s.sent.items s.history s.shared s.in_flight c.self.invariant room c.reserve_undo.ensures.done c.reserve_undo.ensures.undone in
    subst (λ store. All (TxCites store) c.in-Some.last.now.txs) (sym c.doc.ensures.store)
    (last_cites (replica_of s.editor) s.untold s.seen s.sent.items room s.shared s.in_flight is c.in-Some.last.now (sym c.in-Some.ensures))

pub revert-requires-clause-cites : goal.revert-requires-clause-cites
revert-requires-clause-cites g c =
    let s = c.self.inside in
    let room = c.reserve_undo.new.self in
    let is = roomy_is (replica_of s.editor) s.untold s.seen s.sent.items s.history s.shared s.in_flight c.self.invariant room c.reserve_undo.ensures.done c.reserve_undo.ensures.undone in
    last_cites (replica_of s.editor) s.untold s.seen s.sent.items room s.shared s.in_flight is c.in-Some.last.now (sym c.in-Some.ensures)

pub revert-requires-clause-stands : goal.revert-requires-clause-stands
revert-requires-clause-stands g c =
    let s = c.self.inside in
    let room = c.reserve_undo.new.self in
    let is = roomy_is (replica_of s.editor) s.untold s.seen s.sent.items s.history s.shared s.in_flight c.self.invariant room c.reserve_undo.ensures.done c.reserve_undo.ensures.undone in
    may_go (replica_of s.editor) s.untold s.seen s.sent.items room s.shared s.in_flight is c.in-Some.last.now (sym c.in-Some.ensures)

pub revert-requires-clause-uncited : goal.revert-requires-clause-uncited
revert-requires-clause-uncited g c =
    let s = c.self.inside in
    let room = c.reserve_undo.new.self in
    let is = roomy_is (replica_of s.editor) s.untold s.seen s.sent.items s.history s.shared s.in_flight c.self.invariant room c.reserve_undo.ensures.done c.reserve_undo.ensures.undone in
    cuts_uncited (replica_of s.editor) s.untold s.seen s.sent.items room s.shared s.in_flight is c.in-Some.last.now (sym c.in-Some.ensures)

pub invariant_of-self-2 : goal.invariant_of-self-2
invariant_of-self-2 g c =
    let s = c.self.inside in
    let room = c.reserve_undo.new.self in
    let now = c.move_down.new.self in
    let last = c.in-Some.last.now in
    let parcel = c.in-Ok.parcel in
    let is = roomy_is (replica_of s.editor) s.untold s.seen s.sent.items s.history s.shared s.in_flight c.self.invariant room c.reserve_undo.ensures.done c.reserve_undo.ensures.undone in
    let page = not_err (replica_of c.revert.new.self ≡ reverted (entry_by_value s.editor.store last) (replica_of s.editor)) c.revert.result (sym c.if-is_err-2.ensures.value) c.revert.ensures.page in
    let ok : is_ok c.move_down.result ≡ true = sym c.is_ok-moved.ensures.value ∙ c.if-prove.false in
    let done = ok-holds (now.done ≡ without_last room.done) c.move_down.result ok c.move_down.ensures.done in
    let undone = ok-holds (now.undone ≡ parcel ∷ room.undone) c.move_down.result ok c.move_down.ensures.undone in
    let noted : c.note_back.new.self ≡ passed (reversal (map (by_value s.editor.store) last.txs)) s.untold =
    c.note_back.ensures s.editor.store ∙ ap (λ (txs : List (List Operation)). passed (reversal (map (by_value s.editor.store) txs)) s.untold) c.as_slice.ensures in
    let values = c.in-Ok.ensures.txs ∙ ap (λ store. map (by_value store) last.txs) c.doc.ensures.store in
    undone_is (replica_of s.editor) s.untold s.seen s.sent.items room s.shared s.in_flight is last (sym c.in-Some.ensures) (replica_of c.revert.new.self) page parcel now c.note_back.new.self values c.in-Ok.ensures.takes_back done undone noted c.in-Ok.ensures.cites

pub returns-clause-site : goal.returns-clause-site
returns-clause-site g c =
    let s = c.self.inside in
    let room = c.reserve_undo.new.self in
    let now = c.move_down.new.self in
    let last = c.in-Some.last.now in
    let parcel = c.in-Ok.parcel in
    let is = roomy_is (replica_of s.editor) s.untold s.seen s.sent.items s.history s.shared s.in_flight c.self.invariant room c.reserve_undo.ensures.done c.reserve_undo.ensures.undone in
    let page = not_err (replica_of c.revert.new.self ≡ reverted (entry_by_value s.editor.store last) (replica_of s.editor)) c.revert.result (sym c.if-is_err-2.ensures.value) c.revert.ensures.page in
    let ok : is_ok c.move_down.result ≡ true = sym c.is_ok-moved.ensures.value ∙ c.if-prove.false in
    let done = ok-holds (now.done ≡ without_last room.done) c.move_down.result ok c.move_down.ensures.done in
    let undone = ok-holds (now.undone ≡ parcel ∷ room.undone) c.move_down.result ok c.move_down.ensures.undone in
    let noted : c.note_back.new.self ≡ passed (reversal (map (by_value s.editor.store) last.txs)) s.untold =
    c.note_back.ensures s.editor.store ∙ ap (λ (txs : List (List Operation)). passed (reversal (map (by_value s.editor.store) txs)) s.untold) c.as_slice.ensures in
    let values = c.in-Ok.ensures.txs ∙ ap (λ store. map (by_value store) last.txs) c.doc.ensures.store in
    let same = roomy_same (replica_of s.editor) s.untold s.seen s.sent.items s.history s.shared s.in_flight c.self.invariant room c.reserve_undo.ensures.done c.reserve_undo.ensures.undone in
    ap undo (sym (same ∙ ap (λ (v : Numbered). v.site) c.self.view_is))
    ∙ undo_is (replica_of s.editor) s.untold s.seen s.sent.items room s.shared s.in_flight is last (sym c.in-Some.ensures) (replica_of c.revert.new.self) page parcel now c.note_back.new.self values c.in-Ok.ensures.takes_back done undone noted

pub returns-then-is_err-2-clause-steps : goal.returns-then-is_err-2-clause-steps
returns-then-is_err-2-clause-steps g c =
    let s = c.self.inside in
    let room = c.reserve_undo.new.self in
    let is = roomy_is (replica_of s.editor) s.untold s.seen s.sent.items s.history s.shared s.in_flight c.self.invariant room c.reserve_undo.ensures.done c.reserve_undo.ensures.undone in
    let same = roomy_same (replica_of s.editor) s.untold s.seen s.sent.items s.history s.shared s.in_flight c.self.invariant room c.reserve_undo.ensures.done c.reserve_undo.ensures.undone in
    subst (λ (x : Site). c.revert.new.steps ≤ c.args.steps.now + steps_over (undoing x.unsent) x.replica.items) (same ∙ ap (λ (v : Numbered). v.site) c.self.view_is)
    (undo_counts (replica_of s.editor) s.untold s.seen s.sent.items room s.shared s.in_flight is c.in-Some.last.now (sym c.in-Some.ensures) c.args.steps.now c.revert.new.steps c.revert.ensures.steps)

pub returns-clause-steps : goal.returns-clause-steps
returns-clause-steps g c =
    let s = c.self.inside in
    let room = c.reserve_undo.new.self in
    let is = roomy_is (replica_of s.editor) s.untold s.seen s.sent.items s.history s.shared s.in_flight c.self.invariant room c.reserve_undo.ensures.done c.reserve_undo.ensures.undone in
    let same = roomy_same (replica_of s.editor) s.untold s.seen s.sent.items s.history s.shared s.in_flight c.self.invariant room c.reserve_undo.ensures.done c.reserve_undo.ensures.undone in
    subst (λ (x : Site). c.revert.new.steps ≤ c.args.steps.now + steps_over (undoing x.unsent) x.replica.items) (same ∙ ap (λ (v : Numbered). v.site) c.self.view_is)
    (undo_counts (replica_of s.editor) s.untold s.seen s.sent.items room s.shared s.in_flight is c.in-Some.last.now (sym c.in-Some.ensures) c.args.steps.now c.revert.new.steps c.revert.ensures.steps)

pub invariant_of-self-in_default-of : goal.invariant_of-self-in_default-of
invariant_of-self-in_default-of g c =
    let s = c.self.inside in
    let room = c.reserve_undo.new.self in
    roomy_is (replica_of s.editor) s.untold s.seen s.sent.items s.history s.shared s.in_flight c.self.invariant room c.reserve_undo.ensures.done c.reserve_undo.ensures.undone

pub invariant_of-self-then-is_err-2 : goal.invariant_of-self-then-is_err-2
invariant_of-self-then-is_err-2 g c =
    let s = c.self.inside in
    let room = c.reserve_undo.new.self in
    subst (λ r. IsSite r s.seen s.sent.items room s.shared s.in_flight) (sym (is_err_then (IsUnchanged s.editor c.revert.new.self) c.revert.result (sym c.if-is_err-2.ensures.value) c.revert.ensures.kept).page)
    (roomy_is (replica_of s.editor) s.untold s.seen s.sent.items s.history s.shared s.in_flight c.self.invariant room c.reserve_undo.ensures.done c.reserve_undo.ensures.undone)
