use Rattle.ve_read.proofs.StandLemmas.{rows_stand}
use Rattle.ve_read.proofs.rows_law.rows_stand.Goals as goal

pub returns : goal.returns
returns c = rows_stand
