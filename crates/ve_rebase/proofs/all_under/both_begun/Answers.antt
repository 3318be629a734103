use Rattle.std.proofs.Common.{◌<◌, ◌≤◌, ◌++◌, [], length, refl, sym, subst, arith}
use Rattle.std.proofs.lemmas.List.{length-append}
use Rattle.std.proofs.lemmas.List.Elements.{All-nil}
use Rattle.ve_rebase.specs.Shifted.{IsShifted}
use Rattle.ve_rebase.proofs.EntryLemmas.{GatheredSoFar}
use Rattle.ve_rebase.proofs.MovedLemmas.{begun_next, begun_all}
use Rattle.ve_rebase.proofs.UnderLemmas.{found}
use Rattle.ve_rebase.proofs.all_under.both_begun.Goals as goal

pub loop-i-init : goal.loop-i-init
loop-i-init c = subst (GatheredSoFar []) (sym c.new-all.ensures.items) (record { shifted = All-nil IsShifted; written = tt; kept = refl })

pub loop-i-preserved : goal.loop-i-preserved
loop-i-preserved c =
    let both = c.args.sent.now ++ c.args.unsent.now in
    let size = length-append c.args.sent.now c.args.unsent.now in
    let within : c.loop-i.i < length both = omega (arith, size, c.in-Some.ensures.1, c.loop-i-test.true) in
    begun_next both c.loop-i.i c.entry_in-entry.result.now c.loop-i.all.items c.in_ok-some.some.items c.append.new.self.items c.as_slice.result.now
    within (found both c.loop-i.i c.entry_in-entry.result.now c.entry_in-entry.ensures) c.in_ok-append.ensures.items c.as_slice.ensures
    (record { shifted = c.in_ok-some.ensures.shifted; written = c.in_ok-some.ensures.written; kept = c.in_ok-some.ensures.kept }) c.loop-i.invariant

pub returns : goal.returns
returns c =
    let both = c.args.sent.now ++ c.args.unsent.now in
    let size = length-append c.args.sent.now c.args.unsent.now in
    let end : length both ≤ c.loop-i.i = omega (arith, size, c.in-Some.ensures.1, c.loop-i-test.false) in
    begun_all both c.loop-i.i c.loop-i.all.items end c.loop-i.invariant
