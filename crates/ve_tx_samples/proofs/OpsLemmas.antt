-- Operations without values, one after the other.
use Rattle.std.proofs.Common.{List, [], ◌∷◌, ◌++◌, map, None}
use Rattle.std.proofs.lemmas.List.{map-append}
use Rattle.std.proofs.lemmas.List.Elements.{All-nil, All-push}
use Rattle.ve_tx.specs.Operation.{with_position, unkept}
use Rattle.ve_tx.specs.Cites.{OperationCites}
use Rattle.ve_tx.specs.declared.op.Op.{Op}
use Rattle.ve_tx_samples.specs.NoValues.{OpCitesNothing, OpsCiteNothing}

pub none_cite_nothing : OpsCiteNothing []
none_cite_nothing values = All-nil (OperationCites values)

pub one_more : (ops : List Op) (op : Op) → OpsCiteNothing ops → OpCitesNothing op → OpsCiteNothing (ops ++ op ∷ [])
one_more ops op before here values =
    rw (map-append (λ o. with_position o None) ops (op ∷ []))
    (All-push (OperationCites values) (unkept ops) (with_position op None) (before values) (here values))
