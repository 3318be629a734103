use Rattle.model_edit_law.proofs.IndentLemmas.{indent_fine}
use Rattle.model_edit_law.proofs.OutdentLemmas.{outdent_fine}
use Rattle.model_edit_law.proofs.laws.moves_are_fine.Goals as goal

pub returns-clause-indent : goal.returns-clause-indent
returns-clause-indent c = indent_fine

pub returns-clause-outdent : goal.returns-clause-outdent
returns-clause-outdent c = outdent_fine
