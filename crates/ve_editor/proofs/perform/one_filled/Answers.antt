use Rattle.std.proofs.Common.{All, List, [], ◌∷◌, ◌++◌, sym, ap, ◌∙◌, subst}
use Rattle.ve_tx.specs.Cites.{TxCites}
use Rattle.ve_tx.specs.Operation.{Operation}
use Rattle.ve_editor.proofs.ReadyLemmas.{one_cites}
use Rattle.ve_editor.proofs.perform.one_filled.Goals as goal

pub returns-clause-cites : goal.returns-clause-cites
returns-clause-cites c =
    let P : List (List Operation) → Type 0 = All (TxCites c.args.store.now) in
    subst P (sym (c.in_ok-push.ensures.ok ∙ ap (λ l. l ++ c.in_ok-filled.filled ∷ []) c.new-txs.ensures)) (one_cites c.args.store.now c.in_ok-filled.filled (c.in_ok-filled.ensures.cites c.args.store.now c.requires.cites))
