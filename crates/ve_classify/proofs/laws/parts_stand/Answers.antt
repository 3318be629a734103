use Rattle.ve_classify.proofs.TextLemmas.{children_stand, children_reach}
use Rattle.ve_classify.proofs.laws.parts_stand.Goals as goal

pub returns-clause-children : goal.returns-clause-children
returns-clause-children c = children_stand

pub returns-clause-reach : goal.returns-clause-reach
returns-clause-reach c = children_reach
