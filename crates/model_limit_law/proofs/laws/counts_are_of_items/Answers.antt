use Rattle.model_limit_law.proofs.CountLemmas.{marks_have_places}
use Rattle.model_limit_law.proofs.WithinLemmas.{openings_are_counted}
use Rattle.model_limit_law.proofs.laws.counts_are_of_items.Goals as goal

pub returns-clause-openings : goal.returns-clause-openings
returns-clause-openings c = openings_are_counted

pub returns-clause-marks : goal.returns-clause-marks
returns-clause-marks c = marks_have_places
