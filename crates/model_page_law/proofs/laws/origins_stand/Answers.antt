use Rattle.model_page_law.proofs.OriginPlaces.{origins_stand}
use Rattle.model_page_law.proofs.RangeLemmas.{ranges_are_compared}
use Rattle.model_page_law.proofs.laws.origins_stand.Goals as goal

pub returns-clause-stands : goal.returns-clause-stands
returns-clause-stands c = origins_stand

pub returns-clause-compared : goal.returns-clause-compared
returns-clause-compared c = ranges_are_compared
