use Rattle.ve_tree.proofs.ClimbLemmas.{parent_under}
use Rattle.ve_tree.proofs.tree.Tree.parent_of.Goals as goal

pub returns : goal.returns
returns c = λ items tree place listed number. parent_under tree place c.args.n c.node.result.now listed number c.node.ensures
