use Rattle.std.proofs.Common.{refl}
use Rattle.std.proofs.lemmas.Result.{err_from_is_err_and}
use Rattle.ve_rebase.proofs.join_lists.over.Goals as goal

pub returns-in_err-first-clause-refused : goal.returns-in_err-first-clause-refused
returns-in_err-first-clause-refused c =
    let p = err_from_is_err_and c.from_residual.result c.from_residual.ensures.1 in
    rw (p.1, p.2) c.in_err-first.ensures.refused

pub returns-clause-over : goal.returns-clause-over
returns-clause-over c = record { same = refl; paired = c.in_ok-first.ensures.paired }
