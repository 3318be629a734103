use Rattle.model_spelling.proofs.Proved.{law_writes_right}
use Rattle.model_spelling.proofs.laws.canonical_laws.Goals as goal

pub returns-clause-writes : goal.returns-clause-writes
returns-clause-writes c = λ room d le e. law_writes_right room d le e
