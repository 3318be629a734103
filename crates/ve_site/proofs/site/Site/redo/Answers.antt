use Rattle.std.proofs.Common.{◌≡◌, ◌≤◌, ◌+◌, [], ◌∷◌, ◌++◌, true, is_ok, IsOk, rules, drop, sym, ap, ◌∙◌, subst, List, map, slice_get, None, Some, refl}
use Rattle.ve_tx.specs.declared.parcel.Parcel.{Parcel}
use Rattle.ve_site.specs.Refusal.{IsRedoRefusal}
use Rattle.model_site.specs.Untold.{passed}
use Rattle.ve_tx.specs.Operation.{Operation, by_value}
use Rattle.ve_tx.proofs.ChangeLemmas.{ok-holds}
use Rattle.ve_site.specs.Numbered.{Numbered, IsSite, site_of}
use Rattle.ve_site.proofs.StepLemmas.{roomy_same, roomy_is, fails_where}
use Rattle.ve_site.proofs.RedoLemmas.{may_come, redo_counts, redo_is, redone_is, first_cites, first_is, nothing_redone, redoes}
use Rattle.model_site.specs.Site.{Site, redo}
use Rattle.ve_editor.specs.Counted.{steps_over}
use Rattle.ve_editor.specs.Page.{replica_of}
use Rattle.model_site.specs.Made.{redoing}
use Rattle.model_site.specs.declared.site_fault.RedoFault.TheVariants as fault
use Rattle.ve_site.proofs.site.Site.redo.Goals as goal

pub admit-requires-clause-stands : goal.admit-requires-clause-stands
admit-requires-clause-stands g c =
    let s = c.self.inside in
    let room = c.reserve_redo.new.self in
    let is = roomy_is (replica_of s.editor) s.untold s.seen s.sent.items s.history s.shared s.in_flight c.self.invariant room c.reserve_redo.ensures.done c.reserve_redo.ensures.undone in
    may_come (replica_of s.editor) s.untold s.seen s.sent.items room s.shared s.in_flight is c.in-Some.undone.now (sym c.in-Some.ensures)

pub invariant_of-self-2 : goal.invariant_of-self-2
invariant_of-self-2 g c =
    let s = c.self.inside in
    let room = c.reserve_redo.new.self in
    let now = c.move_up.new.self in
    let e = c.in-Ok.entry in
    let f = c.in-Ok.ensures in
    let is = roomy_is (replica_of s.editor) s.untold s.seen s.sent.items s.history s.shared s.in_flight c.self.invariant room c.reserve_redo.ensures.done c.reserve_redo.ensures.undone in
    let ok : is_ok c.move_up.result ≡ true = sym c.is_ok-moved.ensures.value ∙ c.if-prove.false in
    let done = ok-holds (now.done ≡ room.done ++ e ∷ []) c.move_up.result ok c.move_up.ensures.done in
    let undone = ok-holds (now.undone ≡ drop 1 room.undone) c.move_up.result ok c.move_up.ensures.undone in
    let noted : c.note.new.self ≡ passed (map (by_value c.admit.new.self.store) e.txs) s.untold =
    c.note.ensures c.admit.new.self.store ∙ ap (λ (txs : List (List Operation)). passed (map (by_value c.admit.new.self.store) txs) s.untold) c.as_slice.ensures in
    redone_is (replica_of s.editor) s.untold s.seen s.sent.items room s.shared s.in_flight is c.in-Some.undone.now (sym c.in-Some.ensures) (replica_of c.admit.new.self) e now c.note.new.self f.page f.entry f.cites done noted undone

pub returns-clause-site : goal.returns-clause-site
returns-clause-site g c =
    let s = c.self.inside in
    let room = c.reserve_redo.new.self in
    let now = c.move_up.new.self in
    let e = c.in-Ok.entry in
    let f = c.in-Ok.ensures in
    let is = roomy_is (replica_of s.editor) s.untold s.seen s.sent.items s.history s.shared s.in_flight c.self.invariant room c.reserve_redo.ensures.done c.reserve_redo.ensures.undone in
    let ok : is_ok c.move_up.result ≡ true = sym c.is_ok-moved.ensures.value ∙ c.if-prove.false in
    let done = ok-holds (now.done ≡ room.done ++ e ∷ []) c.move_up.result ok c.move_up.ensures.done in
    let undone = ok-holds (now.undone ≡ drop 1 room.undone) c.move_up.result ok c.move_up.ensures.undone in
    let noted : c.note.new.self ≡ passed (map (by_value c.admit.new.self.store) e.txs) s.untold =
    c.note.ensures c.admit.new.self.store ∙ ap (λ (txs : List (List Operation)). passed (map (by_value c.admit.new.self.store) txs) s.untold) c.as_slice.ensures in
    let same = roomy_same (replica_of s.editor) s.untold s.seen s.sent.items s.history s.shared s.in_flight c.self.invariant room c.reserve_redo.ensures.done c.reserve_redo.ensures.undone in
    ap redo (sym (same ∙ ap (λ (v : Numbered). v.site) c.self.view_is))
    ∙ redo_is (replica_of s.editor) s.untold s.seen s.sent.items room s.shared s.in_flight is c.in-Some.undone.now (sym c.in-Some.ensures) (replica_of c.admit.new.self) e now c.note.new.self f.page f.entry f.cites done noted undone

pub returns-in_default-admit-clause-steps : goal.returns-in_default-admit-clause-steps
returns-in_default-admit-clause-steps g c =
    let s = c.self.inside in
    let room = c.reserve_redo.new.self in
    let is = roomy_is (replica_of s.editor) s.untold s.seen s.sent.items s.history s.shared s.in_flight c.self.invariant room c.reserve_redo.ensures.done c.reserve_redo.ensures.undone in
    let same = roomy_same (replica_of s.editor) s.untold s.seen s.sent.items s.history s.shared s.in_flight c.self.invariant room c.reserve_redo.ensures.done c.reserve_redo.ensures.undone in
    subst (λ (x : Site). c.admit.new.steps ≤ c.args.steps.now + steps_over (redoing x.undone) x.replica.items) (same ∙ ap (λ (v : Numbered). v.site) c.self.view_is)
    (redo_counts (replica_of s.editor) s.untold s.seen s.sent.items room s.shared s.in_flight is c.in-Some.undone.now (sym c.in-Some.ensures) c.args.steps.now c.admit.new.steps c.admit.ensures.steps)

pub returns-clause-steps : goal.returns-clause-steps
returns-clause-steps g c =
    let s = c.self.inside in
    let room = c.reserve_redo.new.self in
    let is = roomy_is (replica_of s.editor) s.untold s.seen s.sent.items s.history s.shared s.in_flight c.self.invariant room c.reserve_redo.ensures.done c.reserve_redo.ensures.undone in
    let same = roomy_same (replica_of s.editor) s.untold s.seen s.sent.items s.history s.shared s.in_flight c.self.invariant room c.reserve_redo.ensures.done c.reserve_redo.ensures.undone in
    subst (λ (x : Site). c.admit.new.steps ≤ c.args.steps.now + steps_over (redoing x.undone) x.replica.items) (same ∙ ap (λ (v : Numbered). v.site) c.self.view_is)
    (redo_counts (replica_of s.editor) s.untold s.seen s.sent.items room s.shared s.in_flight is c.in-Some.undone.now (sym c.in-Some.ensures) c.args.steps.now c.admit.new.steps c.admit.ensures.steps)

pub invariant_of-self-in_default-admit : goal.invariant_of-self-in_default-admit
invariant_of-self-in_default-admit g c =
    let s = c.self.inside in
    let room = c.reserve_redo.new.self in
    subst (λ r. IsSite r s.seen s.sent.items room s.shared s.in_flight) (sym c.in_default-admit.ensures.kept.page)
    (roomy_is (replica_of s.editor) s.untold s.seen s.sent.items s.history s.shared s.in_flight c.self.invariant room c.reserve_redo.ensures.done c.reserve_redo.ensures.undone)

pub returns-in_default-clause-refused : goal.returns-in_default-clause-refused
returns-in_default-clause-refused g c =
    let s = c.self.inside in
    let none = subst (λ (ps : List Parcel). slice_get ps 0 ≡ None) c.reserve_redo.ensures.undone (sym c.in_default.ensures) in
    let refused : IsRedoRefusal (redo c.args.self.now.site) fault.NothingToRedo =
    subst (λ (x : Site). IsRedoRefusal (redo x) fault.NothingToRedo) (ap (λ (v : Numbered). v.site) c.self.view_is)
    (nothing_redone (site_of (replica_of s.editor) s.untold s.seen s.sent.items s.history s.shared s.in_flight) s.history.undone refl none) in
    -- found and not given, so that only the next goal refuses the answer `Memory` here
    search (rules, refused)

not_memory : fault.NothingToRedo ≡ fault.Memory → ⊥
not_memory e = cc

pub returns-in_default-clause-memory : goal.returns-in_default-clause-memory
returns-in_default-clause-memory g c = λ want. absurd (not_memory want)

pub invariant_of-self-in_default : goal.invariant_of-self-in_default
invariant_of-self-in_default g c =
    let s = c.self.inside in
    roomy_is (replica_of s.editor) s.untold s.seen s.sent.items s.history s.shared s.in_flight c.self.invariant c.reserve_redo.new.self c.reserve_redo.ensures.done c.reserve_redo.ensures.undone

pub returns-then-is_err-clause-memory : goal.returns-then-is_err-clause-memory
returns-then-is_err-clause-memory g c = λ _.
    let s = c.self.inside in
    subst (λ (x : Site). IsOk (redo x)) (ap (λ (v : Numbered). v.site) c.self.view_is)
    (redoes (site_of (replica_of s.editor) s.untold s.seen s.sent.items s.history s.shared s.in_flight) s.history.undone refl
    (fails_where (s.history.undone ≡ []) c.reserve_redo.result (sym c.if-is_err.ensures.value) c.reserve_redo.ensures.none))

pub returns-in_default-admit-clause-memory : goal.returns-in_default-admit-clause-memory
returns-in_default-admit-clause-memory g c = λ _.
    let s = c.self.inside in
    let first = subst (λ (ps : List Parcel). slice_get ps 0 ≡ Some c.in-Some.undone.now) c.reserve_redo.ensures.undone (sym c.in-Some.ensures) in
    subst (λ (x : Site). IsOk (redo x)) (ap (λ (v : Numbered). v.site) c.self.view_is)
    (redoes (site_of (replica_of s.editor) s.untold s.seen s.sent.items s.history s.shared s.in_flight) s.history.undone refl (first_is s.history.undone c.in-Some.undone.now first))

pub admit-requires-clause-cites : goal.admit-requires-clause-cites
admit-requires-clause-cites g c =
    let s = c.self.inside in
    let room = c.reserve_redo.new.self in
    let is = roomy_is (replica_of s.editor) s.untold s.seen s.sent.items s.history s.shared s.in_flight c.self.invariant room c.reserve_redo.ensures.done c.reserve_redo.ensures.undone in
    first_cites (replica_of s.editor) s.untold s.seen s.sent.items room s.shared s.in_flight is c.in-Some.undone.now (sym c.in-Some.ensures)
