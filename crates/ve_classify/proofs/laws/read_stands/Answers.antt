use Rattle.ve_classify.proofs.StandLemmas.{stands_rest, stands_children}
use Rattle.ve_classify.proofs.laws.read_stands.Goals as goal

pub returns-clause-rest : goal.returns-clause-rest
returns-clause-rest c = λ nodes n at f more s. (_, stands_rest nodes n at f more s)

pub returns-clause-children : goal.returns-clause-children
returns-clause-children c = λ nodes n at name attrs children rest more s. (_, _, stands_children nodes n at name attrs children rest more s)
