use Rattle.std.proofs.Common.{◌≡◌, ◌≤◌, ◌+◌, ◌++◌, length, map, refl, sym, ap, ◌∙◌, subst, List, arith}
use Rattle.std.proofs.lemmas.List.{length-map}
use Rattle.model_change.specs.Replay.{AllRun}
use Rattle.model_site.specs.Entries.{Entry as ModelEntry}
use Rattle.model_site.specs.Replica.{Replica}
use Rattle.model_site.specs.Site.{Site, pending}
use Rattle.model_site.specs.Take.{take_entry}
use Rattle.model_site.specs.Untold.{passed}
use Rattle.model_change.specs.Cost.{cost_of_transactions}
use Rattle.ve_rebase.specs.Entries.{parcels_by_value}
use Rattle.ve_rebase.specs.Lists.{RunFromOneLength}
use Rattle.ve_rebase.specs.Under.{all_over}
use Rattle.ve_tx.specs.ByValue.{parcel_by_value}
use Rattle.ve_tx.specs.Operation.{Operation, by_value}
use Rattle.ve_tx.specs.declared.entry.Entry.{Entry}
use Rattle.ve_editor.specs.Page.{replica_of}
use Rattle.ve_site.specs.Dropped.{numbered_alike}
use Rattle.ve_site.specs.Ground.{ground_of}
use Rattle.ve_site.specs.Numbered.{Numbered, with_site, IsSite}
use Rattle.model_site.specs.Made.{taking_one}
use Rattle.ve_site.proofs.InPlaceLemmas.{admitted_in_place, counts_in_place, noted_in_place, one_in_place, stands_in_place}
use Rattle.ve_site.proofs.PendingLemmas.{may_join}
use Rattle.ve_site.proofs.SeveralLemmas.{two_where_several}
use Rattle.ve_site.proofs.TakeLemmas.{lent_counts, lent_dropped, lent_few, lent_is_site, lent_pending, lent_same, lent_stack, lent_stands, lent_whole}
use Rattle.ve_site.proofs.site.Site.take_single.Goals as goal

pub entries_under-requires : goal.entries_under-requires
entries_under-requires g c =
    let s = c.self.inside in
    let run = subst (λ (x : Site). AllRun (parcel_by_value c.args.foreign.now) (ground_of x)) (ap (λ (v : Numbered). v.site) (sym c.self.view_is)) c.requires.run in
    let both = ap (λ l. l ++ c.done.result.now) c.as_slice-own_sent.ensures.value ∙ ap (λ l. s.sent.items ++ l) c.done.ensures in
    λ values.
    subst (λ es. RunFromOneLength (parcel_by_value c.args.foreign.now) (parcels_by_value (all_over values es))) (sym both)
    (may_join (replica_of s.editor) s.untold s.seen s.sent.items s.history s.shared s.in_flight c.self.invariant (parcel_by_value c.args.foreign.now) run values)

pub returns-then-as_slice-gt1-clause-taken : goal.returns-then-as_slice-gt1-clause-taken
returns-then-as_slice-gt1-clause-taken g c =
    let txs = ap length c.as_slice.ensures in
    let all = length-map c.args.foreign.now.entry.txs (by_value c.args.foreign.now.values) in
    (refl, two_where_several (parcel_by_value c.args.foreign.now) c.args.self.now.site (omega (arith, txs, all, c.if-as_slice-gt1.true)))

pub returns-then-left-count-clause-taken : goal.returns-then-left-count-clause-taken
returns-then-left-count-clause-taken g c =
    let s = c.self.inside in
    let run = subst (λ (x : Site). AllRun (parcel_by_value c.args.foreign.now) (ground_of x)) (ap (λ (v : Numbered). v.site) (sym c.self.view_is)) c.requires.run in
    let count = subst (λ (v : Numbered). c.in_ok-count.count ≡ length (pending v.site)) (sym c.self.view_is) c.in_ok-count.ensures in
    let two = lent_dropped (replica_of s.editor) s.untold s.seen s.sent.items s.history s.shared s.in_flight c.self.invariant c.args.foreign.now run c.as_slice-own_sent.result.now c.done.result.now
    c.as_slice-own_sent.ensures.value c.done.ensures c.in_ok-committed.field-0 c.in_ok-committed.ensures c.as_slice-left.result.now c.as_slice-left.ensures
    c.in_ok-count.count count (omega (arith, c.if-left-count.true)) in
    (refl, subst (λ (v : Numbered). 2 ≤ length (taking_one (parcel_by_value c.args.foreign.now) v.site)) c.self.view_is two)

pub admit-requires-clause-stands : goal.admit-requires-clause-stands
admit-requires-clause-stands g c =
    let s = c.self.inside in
    let run = subst (λ (x : Site). AllRun (parcel_by_value c.args.foreign.now) (ground_of x)) (ap (λ (v : Numbered). v.site) (sym c.self.view_is)) c.requires.run in
    let count = subst (λ (v : Numbered). c.in_ok-count.count ≡ length (pending v.site)) (sym c.self.view_is) c.in_ok-count.ensures in
    let all : List Entry = c.as_slice-own_sent.result.now ++ c.done.result.now in
    let left = length c.as_slice-left.result.now in
    let whole : left ≡ length all =
    lent_whole (replica_of s.editor) s.untold s.seen s.sent.items s.history s.shared s.in_flight c.self.invariant c.args.foreign.now run c.as_slice-own_sent.result.now c.done.result.now
    c.as_slice-own_sent.ensures.value c.done.ensures c.in_ok-committed.field-0 c.in_ok-committed.ensures c.as_slice-left.result.now c.as_slice-left.ensures
    c.in_ok-count.count count (omega (arith, c.if-left-count.false)) in
    let within : length all ≤ left = omega (arith, whole) in
    let committed = c.in_ok-committed.field-0.committed in
    let ts = parcel_by_value committed in
    stands_in_place (replica_of s.editor) all left ts within
    (lent_stands (replica_of s.editor) s.untold s.seen s.sent.items s.history s.shared s.in_flight c.self.invariant c.args.foreign.now run c.as_slice-own_sent.result.now c.done.result.now
    c.as_slice-own_sent.ensures.value c.done.ensures c.in_ok-committed.field-0 c.in_ok-committed.ensures c.as_slice-left.result.now c.as_slice-left.ensures)

pub invariant_of-self : goal.invariant_of-self
invariant_of-self g c =
    let s = c.self.inside in subst (λ r. IsSite r s.seen s.sent.items s.history s.shared s.in_flight) (sym c.in_err-stored.ensures.kept.page) c.self.invariant

pub invariant_of-self-2 : goal.invariant_of-self-2
invariant_of-self-2 g c =
    let s = c.self.inside in
    let run = subst (λ (x : Site). AllRun (parcel_by_value c.args.foreign.now) (ground_of x)) (ap (λ (v : Numbered). v.site) (sym c.self.view_is)) c.requires.run in
    let count = subst (λ (v : Numbered). c.in_ok-count.count ≡ length (pending v.site)) (sym c.self.view_is) c.in_ok-count.ensures in
    let all : List Entry = c.as_slice-own_sent.result.now ++ c.done.result.now in
    let left = length c.as_slice-left.result.now in
    let whole : left ≡ length all =
    lent_whole (replica_of s.editor) s.untold s.seen s.sent.items s.history s.shared s.in_flight c.self.invariant c.args.foreign.now run c.as_slice-own_sent.result.now c.done.result.now
    c.as_slice-own_sent.ensures.value c.done.ensures c.in_ok-committed.field-0 c.in_ok-committed.ensures c.as_slice-left.result.now c.as_slice-left.ensures
    c.in_ok-count.count count (omega (arith, c.if-left-count.false)) in
    let within : length all ≤ left = omega (arith, whole) in
    let committed = c.in_ok-committed.field-0.committed in
    let ts = parcel_by_value committed in
    let stack = lent_stack (replica_of s.editor) s.untold s.seen s.sent.items s.history s.shared s.in_flight c.self.invariant c.args.foreign.now run c.as_slice-own_sent.result.now c.done.result.now
    c.as_slice-own_sent.ensures.value c.done.ensures c.in_ok-committed.field-0 c.in_ok-committed.ensures c.as_slice-left.result.now c.as_slice-left.ensures in
    let admitted = admitted_in_place (replica_of s.editor) (replica_of c.admit.new.self) all left ts stack whole c.in_ok-stored.ensures.page in
    let noted = noted_in_place (replica_of s.editor) all left ts within s.untold c.note.new.self
    (c.note.ensures committed.values ∙ ap (λ (txs : List (List Operation)). passed (map (by_value committed.values) txs) s.untold) c.as_slice-2.ensures) in
    let stored = c.in_ok-stored.field-0.store_after in
    let is_stored = ap (λ (e : ModelEntry). e.store_after) c.in_ok-stored.ensures.entry ∙ ap (λ (r : Replica). length r.store) (sym c.in_ok-stored.ensures.page) in
    let first = c.renumbered.ensures ∙ ap (map (numbered_alike stored)) c.in_ok-sent.ensures.first in
    let done = c.clear_undone.ensures.done ∙ (c.replace_done-gone.ensures.done ∙ (c.from_vec-done.ensures ∙ (c.renumbered-2.ensures ∙ ap (map (numbered_alike stored)) c.in_ok-sent.ensures.second))) in
    lent_is_site (replica_of s.editor) s.untold s.seen s.sent.items s.history s.shared s.in_flight c.self.invariant c.args.foreign.now run c.as_slice-own_sent.result.now c.done.result.now
    c.as_slice-own_sent.ensures.value c.done.ensures c.in_ok-committed.field-0 c.in_ok-committed.ensures c.as_slice-left.result.now c.as_slice-left.ensures
    (replica_of c.admit.new.self) admitted stored c.in-Some.seen c.renumbered.result.items c.clear_undone.new.self c.note.new.self is_stored c.in-Some.ensures.1 first done c.clear_undone.ensures.undone
    noted

pub returns-clause-taken : goal.returns-clause-taken
returns-clause-taken g c =
    let s = c.self.inside in
    let run = subst (λ (x : Site). AllRun (parcel_by_value c.args.foreign.now) (ground_of x)) (ap (λ (v : Numbered). v.site) (sym c.self.view_is)) c.requires.run in
    let count = subst (λ (v : Numbered). c.in_ok-count.count ≡ length (pending v.site)) (sym c.self.view_is) c.in_ok-count.ensures in
    let all : List Entry = c.as_slice-own_sent.result.now ++ c.done.result.now in
    let left = length c.as_slice-left.result.now in
    let whole : left ≡ length all =
    lent_whole (replica_of s.editor) s.untold s.seen s.sent.items s.history s.shared s.in_flight c.self.invariant c.args.foreign.now run c.as_slice-own_sent.result.now c.done.result.now
    c.as_slice-own_sent.ensures.value c.done.ensures c.in_ok-committed.field-0 c.in_ok-committed.ensures c.as_slice-left.result.now c.as_slice-left.ensures
    c.in_ok-count.count count (omega (arith, c.if-left-count.false)) in
    let within : length all ≤ left = omega (arith, whole) in
    let committed = c.in_ok-committed.field-0.committed in
    let ts = parcel_by_value committed in
    let stack = lent_stack (replica_of s.editor) s.untold s.seen s.sent.items s.history s.shared s.in_flight c.self.invariant c.args.foreign.now run c.as_slice-own_sent.result.now c.done.result.now
    c.as_slice-own_sent.ensures.value c.done.ensures c.in_ok-committed.field-0 c.in_ok-committed.ensures c.as_slice-left.result.now c.as_slice-left.ensures in
    let admitted = admitted_in_place (replica_of s.editor) (replica_of c.admit.new.self) all left ts stack whole c.in_ok-stored.ensures.page in
    let noted = noted_in_place (replica_of s.editor) all left ts within s.untold c.note.new.self
    (c.note.ensures committed.values ∙ ap (λ (txs : List (List Operation)). passed (map (by_value committed.values) txs) s.untold) c.as_slice-2.ensures) in
    let stored = c.in_ok-stored.field-0.store_after in
    let is_stored = ap (λ (e : ModelEntry). e.store_after) c.in_ok-stored.ensures.entry ∙ ap (λ (r : Replica). length r.store) (sym c.in_ok-stored.ensures.page) in
    let first = c.renumbered.ensures ∙ ap (map (numbered_alike stored)) c.in_ok-sent.ensures.first in
    let done = c.clear_undone.ensures.done ∙ (c.replace_done-gone.ensures.done ∙ (c.from_vec-done.ensures ∙ (c.renumbered-2.ensures ∙ ap (map (numbered_alike stored)) c.in_ok-sent.ensures.second))) in
    let same =
    ap (λ x. record { number = s.number; site = x })
    (lent_same (replica_of s.editor) s.untold s.seen s.sent.items s.history s.shared s.in_flight c.self.invariant c.args.foreign.now run c.as_slice-own_sent.result.now c.done.result.now
    c.as_slice-own_sent.ensures.value c.done.ensures c.in_ok-committed.field-0 c.in_ok-committed.ensures c.as_slice-left.result.now c.as_slice-left.ensures
    (replica_of c.admit.new.self) admitted stored c.in-Some.seen c.renumbered.result.items c.clear_undone.new.self c.note.new.self is_stored c.in-Some.ensures.1 first done c.clear_undone.ensures.undone
    noted)
    ∙ ap (λ (v : Numbered). with_site (take_entry (parcel_by_value c.args.foreign.now) v.site) v) c.self.view_is in
    let pending_then =
    lent_pending (replica_of s.editor) s.untold s.seen s.sent.items s.history s.shared s.in_flight c.self.invariant c.args.foreign.now run c.as_slice-own_sent.result.now c.done.result.now
    c.as_slice-own_sent.ensures.value c.done.ensures c.in_ok-committed.field-0 c.in_ok-committed.ensures c.as_slice-left.result.now c.as_slice-left.ensures
    (replica_of c.admit.new.self) admitted stored c.in-Some.seen c.renumbered.result.items c.clear_undone.new.self c.note.new.self is_stored c.in-Some.ensures.1 first done c.clear_undone.ensures.undone
    noted in
    (same, pending_then)

pub returns-clause-steps : goal.returns-clause-steps
returns-clause-steps g c =
    let s = c.self.inside in
    let run = subst (λ (x : Site). AllRun (parcel_by_value c.args.foreign.now) (ground_of x)) (ap (λ (v : Numbered). v.site) (sym c.self.view_is)) c.requires.run in
    let count = subst (λ (v : Numbered). c.in_ok-count.count ≡ length (pending v.site)) (sym c.self.view_is) c.in_ok-count.ensures in
    let all : List Entry = c.as_slice-own_sent.result.now ++ c.done.result.now in
    let left = length c.as_slice-left.result.now in
    let whole : left ≡ length all =
    lent_whole (replica_of s.editor) s.untold s.seen s.sent.items s.history s.shared s.in_flight c.self.invariant c.args.foreign.now run c.as_slice-own_sent.result.now c.done.result.now
    c.as_slice-own_sent.ensures.value c.done.ensures c.in_ok-committed.field-0 c.in_ok-committed.ensures c.as_slice-left.result.now c.as_slice-left.ensures
    c.in_ok-count.count count (omega (arith, c.if-left-count.false)) in
    let within : length all ≤ left = omega (arith, whole) in
    let committed = c.in_ok-committed.field-0.committed in
    let ts = parcel_by_value committed in
    let txs = ap length c.as_slice.ensures in
    let few = lent_few (replica_of s.editor) s.untold s.seen s.sent.items s.history s.shared s.in_flight c.self.invariant c.args.foreign.now run c.as_slice-own_sent.result.now c.done.result.now
    c.as_slice-own_sent.ensures.value c.done.ensures c.in_ok-committed.field-0 c.in_ok-committed.ensures c.as_slice-left.result.now c.as_slice-left.ensures
    (omega (arith, txs, c.if-as_slice-gt1.false)) in
    subst (λ (v : Numbered). c.admit.new.steps ≤ c.args.steps.now + cost_of_transactions (taking_one (parcel_by_value c.args.foreign.now) v.site) v.site.replica.items) c.self.view_is
    (lent_counts (replica_of s.editor) s.untold s.seen s.sent.items s.history s.shared s.in_flight c.self.invariant c.args.foreign.now run c.as_slice-own_sent.result.now c.done.result.now
    c.as_slice-own_sent.ensures.value c.done.ensures c.in_ok-committed.field-0 c.in_ok-committed.ensures c.as_slice-left.result.now c.as_slice-left.ensures
    c.args.steps.now c.admit.new.steps
    (counts_in_place (replica_of s.editor) all left ts within c.args.steps.now c.admit.new.steps (one_in_place ts (replica_of s.editor) c.args.steps.now c.admit.new.steps few c.admit.ensures.steps)))

pub returns-in_err-stored-clause-steps : goal.returns-in_err-stored-clause-steps
returns-in_err-stored-clause-steps g c =
    let s = c.self.inside in
    let run = subst (λ (x : Site). AllRun (parcel_by_value c.args.foreign.now) (ground_of x)) (ap (λ (v : Numbered). v.site) (sym c.self.view_is)) c.requires.run in
    let count = subst (λ (v : Numbered). c.in_ok-count.count ≡ length (pending v.site)) (sym c.self.view_is) c.in_ok-count.ensures in
    let all : List Entry = c.as_slice-own_sent.result.now ++ c.done.result.now in
    let left = length c.as_slice-left.result.now in
    let whole : left ≡ length all =
    lent_whole (replica_of s.editor) s.untold s.seen s.sent.items s.history s.shared s.in_flight c.self.invariant c.args.foreign.now run c.as_slice-own_sent.result.now c.done.result.now
    c.as_slice-own_sent.ensures.value c.done.ensures c.in_ok-committed.field-0 c.in_ok-committed.ensures c.as_slice-left.result.now c.as_slice-left.ensures
    c.in_ok-count.count count (omega (arith, c.if-left-count.false)) in
    let within : length all ≤ left = omega (arith, whole) in
    let committed = c.in_ok-committed.field-0.committed in
    let ts = parcel_by_value committed in
    let txs = ap length c.as_slice.ensures in
    let few = lent_few (replica_of s.editor) s.untold s.seen s.sent.items s.history s.shared s.in_flight c.self.invariant c.args.foreign.now run c.as_slice-own_sent.result.now c.done.result.now
    c.as_slice-own_sent.ensures.value c.done.ensures c.in_ok-committed.field-0 c.in_ok-committed.ensures c.as_slice-left.result.now c.as_slice-left.ensures
    (omega (arith, txs, c.if-as_slice-gt1.false)) in
    subst (λ (v : Numbered). c.admit.new.steps ≤ c.args.steps.now + cost_of_transactions (taking_one (parcel_by_value c.args.foreign.now) v.site) v.site.replica.items) c.self.view_is
    (lent_counts (replica_of s.editor) s.untold s.seen s.sent.items s.history s.shared s.in_flight c.self.invariant c.args.foreign.now run c.as_slice-own_sent.result.now c.done.result.now
    c.as_slice-own_sent.ensures.value c.done.ensures c.in_ok-committed.field-0 c.in_ok-committed.ensures c.as_slice-left.result.now c.as_slice-left.ensures
    c.args.steps.now c.admit.new.steps
    (counts_in_place (replica_of s.editor) all left ts within c.args.steps.now c.admit.new.steps (one_in_place ts (replica_of s.editor) c.args.steps.now c.admit.new.steps few c.admit.ensures.steps)))
