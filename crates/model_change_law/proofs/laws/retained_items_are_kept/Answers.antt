use Rattle.model_change_law.proofs.laws.retained_items_are_kept.Goals as goal
use Rattle.model_change_law.proofs.RetainedLemmas as law

pub returns-clause-changed : goal.returns-clause-changed
returns-clause-changed c = law.retained_is_changed

pub returns-clause-alone : goal.returns-clause-alone
returns-clause-alone c = law.attributes_alone_change
