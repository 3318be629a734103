use Rattle.model_edit_law.proofs.InsertLemmas.{insertion_fine, split_fine}
use Rattle.model_edit_law.proofs.laws.insertions_are_fine.Goals as goal

pub returns-clause-insertion : goal.returns-clause-insertion
returns-clause-insertion c = insertion_fine

pub returns-clause-split : goal.returns-clause-split
returns-clause-split c = split_fine
