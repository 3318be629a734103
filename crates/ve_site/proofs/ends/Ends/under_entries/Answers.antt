use Rattle.std.proofs.Common.{refl, ap, ◌∙◌, map}
use Rattle.std.proofs.lemmas.List.Elements.{All-nil}
use Rattle.ve_site.proofs.EndLemmas.{EntryLeaves, all_entries_leave, at_most_both, at_most_itself, entry_further}
use Rattle.ve_tx.specs.Operation.{by_value}
use Rattle.ve_site.specs.Ends.{least_ends}
use Rattle.ve_site.proofs.LeastLemmas.{entries_least, entry_step, folds_all, folds_on}
use Rattle.ve_site.proofs.ends.Ends.under_entries.Goals as goal

pub loop-entry-init : goal.loop-entry-init
loop-entry-init c = record { least = λ values. refl; within = at_most_itself c.args.self; left = λ values. All-nil (EntryLeaves values c.args.self) }

pub loop-entry-preserved : goal.loop-entry-preserved
loop-entry-preserved c =
    let e = c.under-ends.result in
    let within = c.under-ends.ensures.within in
    record {
      least = λ values. folds_on (entry_step values) c.args.self c.args.entries.now c.loop-entry.entry-index c.entry-item.result e c.loop-entry.ends
          c.loop-entry-test.true c.entry-item.is (c.loop-entry.invariant.least values)
          (c.under-ends.ensures.least values ∙ ap (λ txs. least_ends c.loop-entry.ends (map (by_value values) txs)) c.as_slice.ensures);
      within = at_most_both e c.loop-entry.ends c.args.self within c.loop-entry.invariant.within;
      left = λ values. entry_further values c.args.entries.now c.loop-entry.entry-index c.entry-item.result c.as_slice.result.now e c.loop-entry.ends
          c.loop-entry-test.true c.entry-item.is c.as_slice.ensures within (c.loop-entry.invariant.left values) (c.under-ends.ensures.left values);
    }

pub returns : goal.returns
returns c = record {
  least = λ values. folds_all (entry_step values) c.args.self c.args.entries.now c.loop-entry.entry-index c.loop-entry.ends c.loop-entry-test.false
      (c.loop-entry.invariant.least values) ∙ entries_least values c.args.self c.args.entries.now;
  within = c.loop-entry.invariant.within;
  left = λ values. all_entries_leave values c.args.entries.now c.loop-entry.entry-index c.loop-entry.ends c.loop-entry-test.false (c.loop-entry.invariant.left values);
}
