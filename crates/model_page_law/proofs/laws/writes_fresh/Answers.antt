use Rattle.model_page_law.proofs.FreshLemmas.{writes_fresh}
use Rattle.model_page_law.proofs.laws.writes_fresh.Goals as goal

-- src/lib.rt:32:1
pub returns : goal.returns
returns c = writes_fresh
