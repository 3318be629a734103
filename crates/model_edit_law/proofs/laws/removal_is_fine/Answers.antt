use Rattle.model_edit_law.proofs.RemoveLemmas.{removal_fine}
use Rattle.model_edit_law.proofs.laws.removal_is_fine.Goals as goal

pub returns : goal.returns
returns c = removal_fine
