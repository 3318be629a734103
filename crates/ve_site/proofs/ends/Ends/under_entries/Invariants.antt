use Rattle.std.proofs.Common.{◌≡◌, List, All, take}
use Rattle.ve_base.specs.declared.value.Value.{Value}
use Rattle.std.specs.Prelude.{fold}
use Rattle.ve_site.proofs.EndLemmas.{AtMost, EntryLeaves}
use Rattle.ve_site.proofs.LeastLemmas.{entry_step}
use Rattle.ve_site.proofs.ends.Ends.under_entries.Given as goal

abbrev pub invariant-loop-entry : goal.invariant-loop-entry
invariant-loop-entry l = record {
  least : (values : List Value) → l.ends ≡ fold (entry_step values) l.fn.self (take l.entry-index l.entries);
  within : AtMost l.ends l.fn.self;
  left : (values : List Value) → All (EntryLeaves values l.ends) (take l.entry-index l.entries);
}
