use Rattle.std.proofs.Common.{◌<◌, ◌≤◌, ◌+◌, ◌++◌, List, [], length, map, sym, subst, ◌∙◌, arith}
use Rattle.std.proofs.lemmas.List.{length-append}
use Rattle.ve_base.specs.declared.value.Value.{Value}
use Rattle.model_change.specs.Join.{join_list}
use Rattle.ve_tx.specs.Operation.{by_value}
use Rattle.ve_rebase.specs.Lists.{IsRefusedAs}
use Rattle.ve_rebase.specs.Shifted.{AreWritten, all_by_value}
use Rattle.ve_rebase.specs.Under.{WereJoined}
use Rattle.ve_rebase.proofs.UnderLemmas.{found, UnderSoFar, under_begun, under_meets, under_next, under_clash, under_done}
use Rattle.ve_rebase.proofs.under.joined_all.Goals as goal

pub loop-i-init : goal.loop-i-init
loop-i-init c =
    subst (λ kept. UnderSoFar c.args.foreign.now (c.args.sent.now ++ c.args.unsent.now) c.in_ok-over.over.items kept 0) (sym c.new-kept.ensures)
    (under_begun c.args.foreign.now (c.args.sent.now ++ c.args.unsent.now) c.in_ok-over.over.items
    (subst (λ l. AreWritten l c.in_ok-over.over.items) c.as_slice.ensures c.in_ok-over.ensures.written) c.in_ok-over.ensures.shifted (c.in_ok-over.ensures.kept ∙ c.as_slice.ensures) c.requires)

pub joined_under-requires-clause-shifted : goal.joined_under-requires-clause-shifted
joined_under-requires-clause-shifted c = (c.loop-i.invariant.so_far []).shifted

pub joined_under-requires-clause-meet : goal.joined_under-requires-clause-meet
joined_under-requires-clause-meet c =
    let both = c.args.sent.now ++ c.args.unsent.now in
    let size = length-append c.args.sent.now c.args.unsent.now in
    let within : c.loop-i.i < length both = omega (arith, size, c.in-Some.ensures.1, c.loop-i-test.true) in
    under_meets c.args.foreign.now both c.loop-i.over.items c.loop-i.kept c.loop-i.i c.entry_in.result.now c.loop-i.invariant within (found both c.loop-i.i c.entry_in.result.now c.entry_in.ensures)

pub returns-in-Err-Conflict : goal.returns-in-Err-Conflict
returns-in-Err-Conflict c =
    let both = c.args.sent.now ++ c.args.unsent.now in
    let size = length-append c.args.sent.now c.args.unsent.now in
    let within : c.loop-i.i < length both = omega (arith, size, c.in-Some.ensures.1, c.loop-i-test.true) in
    let one = c.entry_in.result.now in
    let refused = subst (λ why. (values : List (List Value)) (others : List Value) → IsRefusedAs (join_list (all_by_value values c.loop-i.over.items) (map (by_value others) one.txs)) why)
    c.in-Err-Conflict.field-0-is c.in-Err-Conflict.ensures.refused in
    subst (λ over. WereJoined c.args.foreign.now both over c.loop-i.kept) (sym c.in-Err-Conflict.ensures.kept)
    (under_clash c.args.foreign.now both c.loop-i.over.items c.loop-i.kept c.loop-i.i one c.loop-i.invariant within (found both c.loop-i.i c.entry_in.result.now c.entry_in.ensures)
    (record { committed = c.in-Err-Conflict.field-0-0; mine = c.in-Err-Conflict.field-0-1 }) refused)

pub loop-i-preserved : goal.loop-i-preserved
loop-i-preserved c =
    let both = c.args.sent.now ++ c.args.unsent.now in
    let size = length-append c.args.sent.now c.args.unsent.now in
    let within : c.loop-i.i < length both = omega (arith, size, c.in-Some.ensures.1, c.loop-i-test.true) in
    subst (λ kept. UnderSoFar c.args.foreign.now both c.joined_under.new.over.items kept (c.loop-i.i + 1)) (sym c.in_ok-push-in-Ok.ensures.ok)
    (under_next c.args.foreign.now both c.loop-i.over.items c.loop-i.kept c.loop-i.i c.entry_in.result.now c.loop-i.invariant within (found both c.loop-i.i c.entry_in.result.now c.entry_in.ensures)
    c.joined_under.new.over.items c.in-Ok.made c.in-Ok.ensures.joined)

pub returns : goal.returns
returns c =
    let both = c.args.sent.now ++ c.args.unsent.now in
    let size = length-append c.args.sent.now c.args.unsent.now in
    let end : length both ≤ c.loop-i.i = omega (arith, size, c.in-Some.ensures.1, c.loop-i-test.false) in
    under_done c.args.foreign.now both c.loop-i.over.items c.loop-i.kept c.loop-i.i c.loop-i.invariant end
