use Rattle.std.proofs.Common.{◌++◌, length, map, drop, refl, sym, ap, ◌∙◌, subst, List}
use Rattle.model_site.specs.Untold.{passed}
use Rattle.ve_rebase.specs.Entries.{parcels_by_value}
use Rattle.ve_rebase.specs.Lists.{RunFromOneLength}
use Rattle.ve_rebase.specs.Under.{all_over}
use Rattle.ve_tx.specs.ByValue.{parcel_by_value}
use Rattle.ve_tx.specs.Operation.{Operation, by_value}
use Rattle.ve_editor.specs.Page.{replica_of}
use Rattle.ve_site.specs.Dropped.{back_over, numbered_alike, only_done}
use Rattle.ve_site.proofs.PendingLemmas.{may_join}
use Rattle.ve_site.proofs.TakeLemmas.{both_noted, lent_counts, lent_is_site, lent_same, lent_stack, lent_stands, lent_within}
use Rattle.ve_site.proofs.taking.Taking.take_next.Goals as goal

pub entries_under-requires : goal.entries_under-requires
entries_under-requires g c =
    let t = c.args.self.now in
    let both = ap (λ l. l ++ c.as_slice-own_unsent.result.now) c.as_slice-own_sent.ensures.value ∙ ap (λ l. t.rest.sent.items ++ l) c.as_slice-own_unsent.ensures in
    λ values.
    subst (λ es. RunFromOneLength (parcel_by_value c.args.foreign.now) (parcels_by_value (all_over values es))) (sym both)
    (may_join (replica_of t.trial.page) t.rest.untold t.rest.seen t.rest.sent.items (only_done t.rest.unsent) t.rest.shared t.rest.in_flight c.requires.is (parcel_by_value c.args.foreign.now) c.requires.run values)

pub admit_under-requires-clause-stack : goal.admit_under-requires-clause-stack
admit_under-requires-clause-stack g c =
    let t = c.args.self.now in
    lent_stack (replica_of t.trial.page) t.rest.untold t.rest.seen t.rest.sent.items (only_done t.rest.unsent) t.rest.shared t.rest.in_flight c.requires.is c.args.foreign.now c.requires.run
    c.as_slice-own_sent.result.now c.as_slice-own_unsent.result.now c.as_slice-own_sent.ensures.value c.as_slice-own_unsent.ensures
    c.in_ok-committed.field-0 c.in_ok-committed.ensures c.as_slice-left.result.now c.as_slice-left.ensures

pub admit_under-requires-clause-left : goal.admit_under-requires-clause-left
admit_under-requires-clause-left g c =
    let t = c.args.self.now in
    lent_within (replica_of t.trial.page) t.rest.untold t.rest.seen t.rest.sent.items (only_done t.rest.unsent) t.rest.shared t.rest.in_flight c.requires.is c.args.foreign.now c.requires.run
    c.as_slice-own_sent.result.now c.as_slice-own_unsent.result.now c.as_slice-own_sent.ensures.value c.as_slice-own_unsent.ensures
    c.in_ok-committed.field-0 c.in_ok-committed.ensures c.as_slice-left.result.now c.as_slice-left.ensures

pub admit_under-requires-clause-stands : goal.admit_under-requires-clause-stands
admit_under-requires-clause-stands g c =
    let t = c.args.self.now in
    lent_stands (replica_of t.trial.page) t.rest.untold t.rest.seen t.rest.sent.items (only_done t.rest.unsent) t.rest.shared t.rest.in_flight c.requires.is c.args.foreign.now c.requires.run
    c.as_slice-own_sent.result.now c.as_slice-own_unsent.result.now c.as_slice-own_sent.ensures.value c.as_slice-own_unsent.ensures
    c.in_ok-committed.field-0 c.in_ok-committed.ensures c.as_slice-left.result.now c.as_slice-left.ensures

pub note_dropped-requires : goal.note_dropped-requires
note_dropped-requires g c =
    let t = c.args.self.now in
    lent_within (replica_of t.trial.page) t.rest.untold t.rest.seen t.rest.sent.items (only_done t.rest.unsent) t.rest.shared t.rest.in_flight c.requires.is c.args.foreign.now c.requires.run
    c.as_slice-own_sent.result.now c.as_slice-own_unsent.result.now c.as_slice-own_sent.ensures.value c.as_slice-own_unsent.ensures
    c.in_ok-committed.field-0 c.in_ok-committed.ensures c.as_slice-left.result.now c.as_slice-left.ensures

pub returns-clause-site : goal.returns-clause-site
returns-clause-site g c =
    let t = c.args.self.now in
    let committed = c.in_ok-committed.field-0.committed in
    let noted = both_noted (back_over t.trial.page.store (drop (length c.as_slice-left.result.now) (c.as_slice-own_sent.result.now ++ c.as_slice-own_unsent.result.now))) (parcel_by_value committed) t.rest.untold c.note_dropped.new.untold c.note.new.self (c.note_dropped.ensures t.trial.page.store)
    (c.note.ensures committed.values ∙ ap (λ (txs : List (List Operation)). passed (map (by_value committed.values) txs) c.note_dropped.new.untold) c.as_slice.ensures) in
    let stored = c.in_ok-stored.stored in
    let first = c.renumbered.ensures ∙ ap (map (numbered_alike stored)) c.in_ok-sent.ensures.first in
    let done = c.from_vec.ensures ∙ (c.renumbered-2.ensures ∙ ap (map (numbered_alike stored)) c.in_ok-sent.ensures.second) in
    lent_same (replica_of t.trial.page) t.rest.untold t.rest.seen t.rest.sent.items (only_done t.rest.unsent) t.rest.shared t.rest.in_flight c.requires.is c.args.foreign.now c.requires.run
    c.as_slice-own_sent.result.now c.as_slice-own_unsent.result.now c.as_slice-own_sent.ensures.value c.as_slice-own_unsent.ensures
    c.in_ok-committed.field-0 c.in_ok-committed.ensures c.as_slice-left.result.now c.as_slice-left.ensures
    (replica_of c.admit_under.new.trial.page) c.in_ok-stored.ensures.admitted stored c.in-Some.seen c.renumbered.result.items (only_done c.from_vec.result)
    c.note.new.self c.in_ok-stored.ensures.stored c.in-Some.ensures.1 first done refl noted

pub returns-clause-is : goal.returns-clause-is
returns-clause-is g c =
    let t = c.args.self.now in
    let committed = c.in_ok-committed.field-0.committed in
    let noted = both_noted (back_over t.trial.page.store (drop (length c.as_slice-left.result.now) (c.as_slice-own_sent.result.now ++ c.as_slice-own_unsent.result.now))) (parcel_by_value committed) t.rest.untold c.note_dropped.new.untold c.note.new.self (c.note_dropped.ensures t.trial.page.store)
    (c.note.ensures committed.values ∙ ap (λ (txs : List (List Operation)). passed (map (by_value committed.values) txs) c.note_dropped.new.untold) c.as_slice.ensures) in
    let stored = c.in_ok-stored.stored in
    let first = c.renumbered.ensures ∙ ap (map (numbered_alike stored)) c.in_ok-sent.ensures.first in
    let done = c.from_vec.ensures ∙ (c.renumbered-2.ensures ∙ ap (map (numbered_alike stored)) c.in_ok-sent.ensures.second) in
    lent_is_site (replica_of t.trial.page) t.rest.untold t.rest.seen t.rest.sent.items (only_done t.rest.unsent) t.rest.shared t.rest.in_flight c.requires.is c.args.foreign.now c.requires.run
    c.as_slice-own_sent.result.now c.as_slice-own_unsent.result.now c.as_slice-own_sent.ensures.value c.as_slice-own_unsent.ensures
    c.in_ok-committed.field-0 c.in_ok-committed.ensures c.as_slice-left.result.now c.as_slice-left.ensures
    (replica_of c.admit_under.new.trial.page) c.in_ok-stored.ensures.admitted stored c.in-Some.seen c.renumbered.result.items (only_done c.from_vec.result)
    c.note.new.self c.in_ok-stored.ensures.stored c.in-Some.ensures.1 first done refl noted

pub returns-clause-steps : goal.returns-clause-steps
returns-clause-steps g c =
    let t = c.args.self.now in
    lent_counts (replica_of t.trial.page) t.rest.untold t.rest.seen t.rest.sent.items (only_done t.rest.unsent) t.rest.shared t.rest.in_flight c.requires.is c.args.foreign.now c.requires.run
    c.as_slice-own_sent.result.now c.as_slice-own_unsent.result.now c.as_slice-own_sent.ensures.value c.as_slice-own_unsent.ensures
    c.in_ok-committed.field-0 c.in_ok-committed.ensures c.as_slice-left.result.now c.as_slice-left.ensures
    c.args.steps.now c.admit_under.new.steps c.admit_under.ensures.steps

pub returns-in_err-stored-clause-steps : goal.returns-in_err-stored-clause-steps
returns-in_err-stored-clause-steps g c =
    let t = c.args.self.now in
    lent_counts (replica_of t.trial.page) t.rest.untold t.rest.seen t.rest.sent.items (only_done t.rest.unsent) t.rest.shared t.rest.in_flight c.requires.is c.args.foreign.now c.requires.run
    c.as_slice-own_sent.result.now c.as_slice-own_unsent.result.now c.as_slice-own_sent.ensures.value c.as_slice-own_unsent.ensures
    c.in_ok-committed.field-0 c.in_ok-committed.ensures c.as_slice-left.result.now c.as_slice-left.ensures
    c.args.steps.now c.admit_under.new.steps c.admit_under.ensures.steps
