use Rattle.std.proofs.Common.{◌≡◌, ◌≤◌, ◌+◌, ◌<◌, ◌++◌, length, map, take, drop, All, refl, sym, ap, ◌∙◌, subst, arith}
use Rattle.model_change.specs.Replay.{AllRun, flattened}
use Rattle.model_site.specs.Replica.{all_performed}
use Rattle.model_site.specs.Take.{take_foreign}
use Rattle.model_site.specs.Untold.{passed}
use Rattle.model_change.specs.Cost.{cost_of_transactions}
use Rattle.ve_editor.specs.Edited.{AllStand}
use Rattle.ve_editor.specs.Page.{replica_of}
use Rattle.ve_rebase.specs.Entries.{parcels_by_value}
use Rattle.ve_rebase.specs.Lists.{RunFromOneLength}
use Rattle.ve_rebase.specs.Under.{AreAllUnder, all_over}
use Rattle.ve_tx.specs.ByValue.{parcel_by_value, ParcelCites}
use Rattle.ve_site.specs.Dropped.{numbered_alike, only_done}
use Rattle.ve_site.specs.Ground.{ground_of}
use Rattle.model_site.specs.Made.{taking_all}
use Rattle.ve_site.specs.Underway.{taking_site}
use Rattle.ve_site.proofs.FeedLemmas.{first_within}
use Rattle.ve_site.proofs.FrontSiteLemmas.{all_by_value, front_is_site, front_same, front_stand, makes_front}
use Rattle.ve_site.proofs.PendingLemmas.{may_join}
use Rattle.ve_site.proofs.taking.Taking.take_front.Goals as goal

pub entries_under_all-requires : goal.entries_under_all-requires
entries_under_all-requires g c =
    let t = c.args.self.now in
    let both = ap (λ l. l ++ c.as_slice-own_unsent.result.now) c.as_slice-own_sent.ensures.value ∙ ap (λ l. t.rest.sent.items ++ l) c.as_slice-own_unsent.ensures in
    let run = subst (λ ts. AllRun ts (ground_of (taking_site t))) (sym (all_by_value c.args.parcels.now)) c.requires.run in
    λ values.
    subst (λ es. RunFromOneLength (parcels_by_value c.args.parcels.now) (parcels_by_value (all_over values es))) (sym both)
    (may_join (replica_of t.trial.page) t.rest.untold t.rest.seen t.rest.sent.items (only_done t.rest.unsent) t.rest.shared t.rest.in_flight c.requires.is (parcels_by_value c.args.parcels.now) run values)

pub admit_each-requires-clause-stand : goal.admit_each-requires-clause-stand
admit_each-requires-clause-stand g c =
    let t = c.args.self.now in
    let both = ap (λ l. l ++ c.as_slice-own_unsent.result.now) c.as_slice-own_sent.ensures.value ∙ ap (λ l. t.rest.sent.items ++ l) c.as_slice-own_unsent.ensures in
    let made = c.in_ok-committed.field-0 in
    let under = subst (λ es. AreAllUnder c.args.parcels.now es made) both c.in_ok-committed.ensures in
    subst (λ ps. AllStand (flattened (map parcel_by_value ps)) t.trial.page.items) (sym c.as_slice.ensures)
    (front_stand (replica_of t.trial.page) t.rest.untold t.rest.seen t.rest.sent.items (only_done t.rest.unsent) t.rest.shared t.rest.in_flight c.requires.is c.args.parcels.now c.requires.run made under)

pub admit_each-requires-clause-cite : goal.admit_each-requires-clause-cite
admit_each-requires-clause-cite g c = subst (All ParcelCites) (sym c.as_slice.ensures) (c.in_ok-committed.ensures.committed_cite c.requires.cite)

pub returns-clause-taken : goal.returns-clause-taken
returns-clause-taken g c =
    let t = c.args.self.now in
    let both = ap (λ l. l ++ c.as_slice-own_unsent.result.now) c.as_slice-own_sent.ensures.value ∙ ap (λ l. t.rest.sent.items ++ l) c.as_slice-own_unsent.ensures in
    let made = c.in_ok-committed.field-0 in
    let under = subst (λ es. AreAllUnder c.args.parcels.now es made) both c.in_ok-committed.ensures in
    let count : length c.as_slice-count.result.now ≡ length made.committed = ap length c.as_slice-count.ensures in
    let stored = c.len-stored.result in
    let page = c.in_ok-admit_each.ensures.page ∙ ap (λ ps. all_performed (flattened (map parcel_by_value ps)) (replica_of t.trial.page)) c.as_slice.ensures in
    let some : 0 < length made.committed = omega (arith, count, c.if-count-eq0.false) in
    let is_stored = c.len-stored.ensures.count ∙ ap length c.doc.ensures.store in
    let is_next = c.in-Some.ensures.1 ∙ ap (λ n. t.rest.seen + n) count in
    let cut = ap (λ n. map (numbered_alike stored) (take n made.kept)) (ap length c.as_slice-own_sent.ensures.value) in
    let rest = ap (λ n. map (numbered_alike stored) (drop n made.kept)) (ap length c.as_slice-own_sent.ensures.value) in
    let first = c.renumbered.ensures ∙ (ap (map (numbered_alike stored)) c.in_ok-sent.ensures.first ∙ cut) in
    let done = c.from_vec.ensures ∙ (c.renumbered-2.ensures ∙ (ap (map (numbered_alike stored)) c.in_ok-sent.ensures.second ∙ rest)) in
    let noted = c.note_parcels.ensures ∙ ap (λ ps. passed (flattened (map parcel_by_value ps)) t.rest.untold) c.as_slice-2.ensures in
    record {
      within = subst (λ n. n ≤ length c.args.parcels.now) (sym count) under.within;
      site = front_same (replica_of t.trial.page) t.rest.untold t.rest.seen t.rest.sent.items (only_done t.rest.unsent) t.rest.shared t.rest.in_flight c.requires.is c.args.parcels.now c.requires.run made under
          (replica_of c.admit_each.new.trial.page) page stored c.in-Some.seen c.renumbered.result.items (only_done c.from_vec.result) c.note_parcels.new.self some is_stored is_next first done refl noted
          ∙ ap (λ n. take_foreign (map parcel_by_value (take n c.args.parcels.now)) (taking_site t)) (sym count);
      is = front_is_site (replica_of t.trial.page) t.rest.untold t.rest.seen t.rest.sent.items (only_done t.rest.unsent) t.rest.shared t.rest.in_flight c.requires.is c.args.parcels.now c.requires.run made under
          (replica_of c.admit_each.new.trial.page) page stored c.in-Some.seen c.renumbered.result.items (only_done c.from_vec.result) c.note_parcels.new.self some is_stored is_next first done refl noted;
    }

pub returns-clause-steps : goal.returns-clause-steps
returns-clause-steps g c =
    let t = c.args.self.now in
    let both = ap (λ l. l ++ c.as_slice-own_unsent.result.now) c.as_slice-own_sent.ensures.value ∙ ap (λ l. t.rest.sent.items ++ l) c.as_slice-own_unsent.ensures in
    let made = c.in_ok-committed.field-0 in
    let under = subst (λ es. AreAllUnder c.args.parcels.now es made) both c.in_ok-committed.ensures in
    let steps : c.admit_each.new.steps ≤ c.args.steps.now + cost_of_transactions (taking_all (map parcel_by_value (take (length made.committed) c.args.parcels.now)) (taking_site t)) t.trial.page.items =
    subst (λ ts. c.admit_each.new.steps ≤ c.args.steps.now + cost_of_transactions ts t.trial.page.items)
    (ap (λ ps. flattened (map parcel_by_value ps)) c.as_slice.ensures
    ∙ sym (makes_front (replica_of t.trial.page) t.rest.untold t.rest.seen t.rest.sent.items (only_done t.rest.unsent) t.rest.shared t.rest.in_flight c.requires.is c.args.parcels.now c.requires.run made under)) c.admit_each.ensures.steps in
    subst (λ n. c.admit_each.new.steps ≤ c.args.steps.now + cost_of_transactions (taking_all (map parcel_by_value (take n c.args.parcels.now)) (taking_site t)) t.trial.page.items)
    (sym (ap length c.as_slice-count.ensures)) steps

pub returns-clause-within : goal.returns-clause-within
returns-clause-within g c =
    let t = c.args.self.now in
    let both = ap (λ l. l ++ c.as_slice-own_unsent.result.now) c.as_slice-own_sent.ensures.value ∙ ap (λ l. t.rest.sent.items ++ l) c.as_slice-own_unsent.ensures in
    let made = c.in_ok-committed.field-0 in
    let under = subst (λ es. AreAllUnder c.args.parcels.now es made) both c.in_ok-committed.ensures in
    let steps : c.admit_each.new.steps ≤ c.args.steps.now + cost_of_transactions (taking_all (map parcel_by_value (take (length made.committed) c.args.parcels.now)) (taking_site t)) t.trial.page.items =
    subst (λ ts. c.admit_each.new.steps ≤ c.args.steps.now + cost_of_transactions ts t.trial.page.items)
    (ap (λ ps. flattened (map parcel_by_value ps)) c.as_slice.ensures
    ∙ sym (makes_front (replica_of t.trial.page) t.rest.untold t.rest.seen t.rest.sent.items (only_done t.rest.unsent) t.rest.shared t.rest.in_flight c.requires.is c.args.parcels.now c.requires.run made under)) c.admit_each.ensures.steps in
    first_within (length made.committed) c.args.parcels.now (taking_site t) c.args.steps.now c.admit_each.new.steps steps

pub returns-in_err-admit_each-clause-within : goal.returns-in_err-admit_each-clause-within
returns-in_err-admit_each-clause-within g c =
    let t = c.args.self.now in
    let both = ap (λ l. l ++ c.as_slice-own_unsent.result.now) c.as_slice-own_sent.ensures.value ∙ ap (λ l. t.rest.sent.items ++ l) c.as_slice-own_unsent.ensures in
    let made = c.in_ok-committed.field-0 in
    let under = subst (λ es. AreAllUnder c.args.parcels.now es made) both c.in_ok-committed.ensures in
    let steps : c.admit_each.new.steps ≤ c.args.steps.now + cost_of_transactions (taking_all (map parcel_by_value (take (length made.committed) c.args.parcels.now)) (taking_site t)) t.trial.page.items =
    subst (λ ts. c.admit_each.new.steps ≤ c.args.steps.now + cost_of_transactions ts t.trial.page.items)
    (ap (λ ps. flattened (map parcel_by_value ps)) c.as_slice.ensures
    ∙ sym (makes_front (replica_of t.trial.page) t.rest.untold t.rest.seen t.rest.sent.items (only_done t.rest.unsent) t.rest.shared t.rest.in_flight c.requires.is c.args.parcels.now c.requires.run made under)) c.admit_each.ensures.steps in
    first_within (length made.committed) c.args.parcels.now (taking_site t) c.args.steps.now c.admit_each.new.steps steps
