use Rattle.ve_reader.proofs.JoinLemmas.{depths_join}
use Rattle.ve_reader.proofs.laws.depths_join.Goals as goal

pub returns-clause-pieces : goal.returns-clause-pieces
returns-clause-pieces c = depths_join
