use Rattle.model_items.proofs.laws.nearest_content_is_nearest.Goals as goal
use Rattle.model_items.proofs.NearestLemmas as law

pub returns-clause-found : goal.returns-clause-found
returns-clause-found c = law.nearest_is_found

pub returns-clause-only : goal.returns-clause-only
returns-clause-only c = law.nearest_is_only

pub returns-clause-none : goal.returns-clause-none
returns-clause-none c = law.none_is_found

pub returns-clause-no_other : goal.returns-clause-no_other
returns-clause-no_other c = law.none_is_only
