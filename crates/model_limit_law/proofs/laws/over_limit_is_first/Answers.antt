use Rattle.model_limit_law.proofs.PageLemmas.{first_is_refused, fragments_at_first, opening_tells_limits, refused_is_first}
use Rattle.model_limit_law.proofs.laws.over_limit_is_first.Goals as goal

pub returns-clause-first : goal.returns-clause-first
returns-clause-first c = refused_is_first

pub returns-clause-refused : goal.returns-clause-refused
returns-clause-refused c = first_is_refused

pub returns-clause-fragments : goal.returns-clause-fragments
returns-clause-fragments c = fragments_at_first

pub returns-clause-told : goal.returns-clause-told
returns-clause-told c = opening_tells_limits
