use Rattle.model_items.proofs.laws.values_are_not_read.Goals as goal
use Rattle.model_items.proofs.VerdictLemmas.{law_reads_no_values, verdict_reads_no_values}
use Rattle.model_items.proofs.OnlyLemmas.{tree_reads_no_values}

pub returns-clause-law : goal.returns-clause-law
returns-clause-law c = law_reads_no_values

pub returns-clause-verdict : goal.returns-clause-verdict
returns-clause-verdict c = verdict_reads_no_values

pub returns-clause-tree : goal.returns-clause-tree
returns-clause-tree c = tree_reads_no_values
