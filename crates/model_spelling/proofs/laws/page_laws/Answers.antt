use Rattle.model_spelling.proofs.Proved.{law_body_is_only}
use Rattle.model_spelling.proofs.laws.page_laws.Goals as goal

pub returns-clause-only : goal.returns-clause-only
returns-clause-only c = λ page from to whole b. law_body_is_only page from to whole b
