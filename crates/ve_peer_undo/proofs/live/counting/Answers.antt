use Rattle.std.proofs.Common.{[], sym, ap, ◌∙◌, subst}
use Rattle.model_change.specs.Replay.{reversal}
use Rattle.model_site.specs.Live.{all_standing, is_back}
use Rattle.ve_tx.specs.ByValue.{parcel_by_value}
use Rattle.ve_rebase.specs.Lists.{RunFromOneLength}
use Rattle.ve_peer_undo.specs.Counted.{counted}
use Rattle.ve_peer_undo.specs.Counting.{hinted_parcel}
use Rattle.ve_peer_undo.proofs.WalkLemmas.{WalkedSoFar, all_may_leave, first_may_leave, goes_on, own_is, stops, walk_begun, walk_ends}
use Rattle.ve_peer_undo.proofs.live.counting.Goals as goal

pub loop-k-init : goal.loop-k-init
loop-k-init c =
    subst (λ ns. WalkedSoFar c.args.number c.args.entries.now 1 ns c.new-parcels.result) (sym c.new-numbers.ensures.items)
    (subst (WalkedSoFar c.args.number c.args.entries.now 1 []) (sym c.new-parcels.ensures) (walk_begun c.args.number c.args.entries.now c.requires.some c.requires.run))

pub takes_first-requires-clause-run : goal.takes_first-requires-clause-run
takes_first-requires-clause-run c =
    subst (λ ns. RunFromOneLength (all_standing (counted ns c.loop-k.parcels)) (reversal (parcel_by_value c.index-entries-0.result))) (sym c.as_slice.ensures.value)
    (subst (λ ts. RunFromOneLength (all_standing (counted c.loop-k.numbers.items c.loop-k.parcels)) (reversal ts)) (sym (own_is c.args.entries.now c.index-entries-0.result c.requires.some c.index-entries-0.is))
    (first_may_leave c.args.number c.args.entries.now c.loop-k.k c.loop-k.numbers.items c.loop-k.parcels c.loop-k.invariant))

pub returns-then-branch-clause-refused : goal.returns-then-branch-clause-refused
returns-then-branch-clause-refused c =
    let own = own_is c.args.entries.now c.index-entries-0.result c.requires.some c.index-entries-0.is in
    let told = c.in_ok-takes_first.ensures ∙ ap (λ ns. is_back c.args.number (parcel_by_value c.index-entries-0.result) (hinted_parcel c.index-entries-k.result) (counted ns c.loop-k.parcels)) c.as_slice.ensures.value in
    let own_told = ap (λ ts. is_back c.args.number ts (hinted_parcel c.index-entries-k.result) (counted c.loop-k.numbers.items c.loop-k.parcels)) own in
    stops c.args.number c.args.entries.now c.loop-k.k c.loop-k.numbers.items c.loop-k.parcels c.loop-k.invariant c.index-entries-k.result c.loop-k-test.true c.index-entries-k.is c.in-Some.next
    c.in-Some.ensures.1 (sym own_told ∙ (sym told ∙ c.if-branch.true))

pub pass-requires-clause-run : goal.pass-requires-clause-run
pass-requires-clause-run c = all_may_leave c.args.number c.args.entries.now c.loop-k.k c.loop-k.numbers.items c.loop-k.parcels c.loop-k.invariant

pub loop-k-preserved : goal.loop-k-preserved
loop-k-preserved c =
    let own = own_is c.args.entries.now c.index-entries-0.result c.requires.some c.index-entries-0.is in
    let told = c.in_ok-takes_first.ensures ∙ ap (λ ns. is_back c.args.number (parcel_by_value c.index-entries-0.result) (hinted_parcel c.index-entries-k.result) (counted ns c.loop-k.parcels)) c.as_slice.ensures.value in
    let own_told = ap (λ ts. is_back c.args.number ts (hinted_parcel c.index-entries-k.result) (counted c.loop-k.numbers.items c.loop-k.parcels)) own in
    goes_on c.args.number c.args.entries.now c.loop-k.k c.loop-k.numbers.items c.loop-k.parcels c.loop-k.invariant c.index-entries-k.result c.loop-k-test.true c.index-entries-k.is c.in-Some.next
    c.pass.new.numbers.items c.pass.new.parcels c.in-Some.ensures.1 (sym own_told ∙ (sym told ∙ c.if-branch.false)) c.in_ok-pass.ensures.kept c.in_ok-pass.ensures.passed

pub returns-clause-ok : goal.returns-clause-ok
returns-clause-ok c = walk_ends c.args.number c.args.entries.now c.loop-k.k c.loop-k.numbers.items c.loop-k.parcels c.loop-k.invariant c.loop-k-test.false
