use Rattle.std.proofs.lemmas.Result.{err_from_is_err_and}
use Rattle.ve_changes.proofs.StopLemmas.{build_memory}
use Rattle.ve_changes.proofs.built.plain_text.Goals as goal

pub returns-in_err-tx-clause-memory : goal.returns-in_err-tx-clause-memory
returns-in_err-tx-clause-memory c =
    let p = err_from_is_err_and c.from_residual.result c.from_residual.ensures.1 in
    rw (p.1, p.2) (build_memory _ c.in_err-tx.field-0.0 c.in_err-tx.ensures.memory)
