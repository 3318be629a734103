use Rattle.model_spelling.proofs.Proved.{law_raw_found}
use Rattle.model_spelling.proofs.laws.token_laws.Goals as goal

pub returns-clause-raw_found : goal.returns-clause-raw_found
returns-clause-raw_found c = λ at name text t to n e. law_raw_found at name text t to n e
