use Rattle.std.proofs.Common.{[]}
use Rattle.model_items.proofs.VerdictLemmas.{law_reads_no_values, verdict_reads_no_values}
use Rattle.ve_lawful.proofs.laws.values_are_not_read.Goals as goal

pub returns-clause-after : goal.returns-clause-after
returns-clause-after c = λ values s items. law_reads_no_values values [] items s

pub returns-clause-verdict : goal.returns-clause-verdict
returns-clause-verdict c = λ values items. verdict_reads_no_values values [] items
