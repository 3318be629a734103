use Rattle.model_edit_law.proofs.MarkedLemmas.{marking_lawful, unmarking_lawful, attribute_lawful}
use Rattle.model_edit_law.proofs.laws.marks_stay_lawful.Goals as goal

pub returns-clause-marking : goal.returns-clause-marking
returns-clause-marking c = marking_lawful

pub returns-clause-unmarking : goal.returns-clause-unmarking
returns-clause-unmarking c = unmarking_lawful

pub returns-clause-attribute : goal.returns-clause-attribute
returns-clause-attribute c = attribute_lawful
