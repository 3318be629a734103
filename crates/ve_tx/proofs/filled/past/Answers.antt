use Rattle.std.proofs.Common.{◌<◌, arith}
use Rattle.ve_tx.proofs.FilledLemmas.{past_standing}
use Rattle.ve_tx.proofs.filled.past.Goals as goal

pub returns-clause-standing : goal.returns-clause-standing
returns-clause-standing c items =
    let some : 0 < c.args.count = omega (arith, c.if-count-eq0.false) in
    past_standing items c.args.cursor.at c.args.count c.args.cursor.head some
