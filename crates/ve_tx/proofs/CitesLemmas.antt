-- The inverse cites the values that the transaction cites.
use Rattle.std.proofs.Common.{◌≡◌, List, [], ◌∷◌, sym, subst}
use Rattle.std.proofs.lemmas.List.Elements.{All-nil, All-cons, All-head, All-tail, All-append}
use Rattle.ve_base.specs.declared.value.Value.{Value}
use Rattle.model_change.specs.Attributes.{change_back}
use Rattle.ve_tx.specs.Cites.{OperationCites, TxCites}
use Rattle.ve_tx.specs.Operation.{Operation, Retain, Replace, Attribute}
use Rattle.ve_tx.specs.Turned.{turned_after, turned}

module _ (values : List Value) where
  turned_after-cites : (changes tx : List Operation) → TxCites values changes → TxCites values tx → TxCites values (turned_after changes tx)
  turned_after-cites changes [] a b = a
  turned_after-cites changes (Retain count ∷ tx) a b =
      All-append (OperationCites values) changes (Retain count ∷ turned_after [] tx) a
      (All-cons (OperationCites values) (Retain count) (turned_after [] tx) tt
      (turned_after-cites [] tx (All-nil (OperationCites values)) (All-tail (OperationCites values) (Retain count) tx b)))
  turned_after-cites changes (Replace removed inserted ∷ tx) a b =
      let here = All-head (OperationCites values) (Replace removed inserted) tx b in
      All-append (OperationCites values) changes (Replace inserted removed ∷ turned_after [] tx) a
      (All-cons (OperationCites values) (Replace inserted removed) (turned_after [] tx) (here.1, here.0)
      (turned_after-cites [] tx (All-nil (OperationCites values)) (All-tail (OperationCites values) (Replace removed inserted) tx b)))
  turned_after-cites changes (Attribute change ∷ tx) a b =
      turned_after-cites (Attribute (change_back change) ∷ changes) tx (All-cons (OperationCites values) (Attribute (change_back change)) changes tt a)
      (All-tail (OperationCites values) (Attribute change) tx b)

  pub turned-cites : (tx back : List Operation) → back ≡ turned tx → TxCites values tx → TxCites values back
  turned-cites tx back is a = subst (TxCites values) (sym is) (turned_after-cites [] tx (All-nil (OperationCites values)) a)
