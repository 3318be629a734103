use Rattle.std.proofs.Common.{◌≡◌}
use Rattle.ve_editor.specs.Page.{replica_of}
use Rattle.ve_site.proofs.EachLemmas.{ArePerformed}
use Rattle.ve_site.proofs.pending.admit_each.Given as goal

abbrev pub invariant-loop-parcel : goal.invariant-loop-parcel
invariant-loop-parcel g l = record {
  performed : ArePerformed (replica_of l.fn.trial.page) l.parcels l.parcel-index (replica_of l.trial.page) l.fn.steps l.steps;
  first : l.trial.first ≡ l.fn.trial.first;
}
