use Rattle.model_edit_law.proofs.FineLemmas.{edits_are_fine, edits_substitute, fine_is_normal}
use Rattle.model_edit_law.proofs.laws.edits_are_one_transaction.Goals as goal

pub returns-clause-fine : goal.returns-clause-fine
returns-clause-fine c = edits_are_fine

pub returns-clause-gives : goal.returns-clause-gives
returns-clause-gives c = edits_substitute

pub returns-clause-normal : goal.returns-clause-normal
returns-clause-normal c = fine_is_normal
