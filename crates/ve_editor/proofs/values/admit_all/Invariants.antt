use Rattle.std.proofs.Common.{◌≡◌}
use Rattle.model_change.specs.Store.{fill}
use Rattle.ve_tx.specs.Making.{Extends}
use Rattle.ve_editor.proofs.values.admit_all.Given as goal

abbrev pub invariant-loop-value : goal.invariant-loop-value
invariant-loop-value l = record {
  rest : fill l.store l.value-iterator.rest.items ≡ fill l.fn.store l.fn.values.items;
  extends : Extends l.fn.store l.store;
}
