use Rattle.model_items.specs.Plain.{plain, CitesWell}
use Rattle.model_change.specs.Store.{cited_by}
use Rattle.ve_tx.specs.Making.{Extends}
use Rattle.ve_tx.specs.Taken.{AreTaken}
use Rattle.ve_tx.proofs.AlikeLemmas.{Going}
use Rattle.ve_tx.proofs.taken.CitedValues.items.Given as goal

abbrev pub invariant-loop-item : goal.invariant-loop-item
invariant-loop-item l =
    AreTaken l.values l.store l.self.places.keys l.self.ids.items × Going plain CitesWell cited_by l.values l.fn.store l.store l.items l.item-index l.made × Extends l.fn.store l.store
