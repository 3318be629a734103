use Rattle.model_change.proofs.laws.faults_are_first.Goals as goal
use Rattle.model_change.proofs.FaultLemmas.{fault_is_first, fault_is_only}

pub returns-clause-first : goal.returns-clause-first
returns-clause-first c = fault_is_first

pub returns-clause-only : goal.returns-clause-only
returns-clause-only c = fault_is_only
