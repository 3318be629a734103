use Rattle.model_edit_law.proofs.ShapeLemmas.{marking_fine, unmarking_fine, convert_fine, attribute_fine}
use Rattle.model_edit_law.proofs.WrapLemmas.{wrap_fine}
use Rattle.model_edit_law.proofs.laws.shapes_are_fine.Goals as goal

pub returns-clause-marking : goal.returns-clause-marking
returns-clause-marking c = marking_fine

pub returns-clause-unmarking : goal.returns-clause-unmarking
returns-clause-unmarking c = unmarking_fine

pub returns-clause-convert : goal.returns-clause-convert
returns-clause-convert c = convert_fine

pub returns-clause-attribute : goal.returns-clause-attribute
returns-clause-attribute c = attribute_fine

pub returns-clause-wrap : goal.returns-clause-wrap
returns-clause-wrap c = wrap_fine
