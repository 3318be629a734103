use Rattle.model_change.proofs.laws.joins_agree.Goals as goal
use Rattle.model_change.proofs.JoinLaw as law
use Rattle.model_change.proofs.JoinLawful.{joins_lawful}
use Rattle.model_change.proofs.JoinNormal.{joins_reduced}
use Rattle.model_change.proofs.JoinLengths.{joins_lengths, joins_normal}
use Rattle.model_change.proofs.JoinRestorable.{joins_restorable, joins_apart}

pub returns-clause-symmetric : goal.returns-clause-symmetric
returns-clause-symmetric c = law.conflict_swap

pub returns-clause-agree : goal.returns-clause-agree
returns-clause-agree c = law.joins_agree

pub returns-clause-lawful : goal.returns-clause-lawful
returns-clause-lawful c = joins_lawful

pub returns-clause-reduced : goal.returns-clause-reduced
returns-clause-reduced c = joins_reduced

pub returns-clause-lengths : goal.returns-clause-lengths
returns-clause-lengths c = joins_lengths

pub returns-clause-normal : goal.returns-clause-normal
returns-clause-normal c = joins_normal

pub returns-clause-restorable : goal.returns-clause-restorable
returns-clause-restorable c = joins_restorable

pub returns-clause-apart : goal.returns-clause-apart
returns-clause-apart c = joins_apart
