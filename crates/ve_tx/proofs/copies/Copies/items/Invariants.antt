use Rattle.model_items.specs.Plain.{plain, CitesWell}
use Rattle.model_change.specs.Store.{cited_by}
use Rattle.ve_tx.specs.Copied.{AreCopied}
use Rattle.ve_tx.proofs.AlikeLemmas.{Going}
use Rattle.ve_tx.proofs.copies.Copies.items.Given as goal

abbrev pub invariant-loop-item : goal.invariant-loop-item
invariant-loop-item l =
    AreCopied l.store l.self.places.keys l.self.values × Going plain CitesWell cited_by l.store l.fn.self.values l.self.values l.items l.item-index l.made
