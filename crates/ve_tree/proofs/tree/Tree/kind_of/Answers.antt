use Rattle.std.proofs.Common.{◌∙◌}
use Rattle.ve_tree.proofs.ClimbLemmas.{sort_under}
use Rattle.ve_tree.proofs.tree.Tree.kind_of.Goals as goal

pub returns-clause-place : goal.returns-clause-place
returns-clause-place c = λ items tree place listed number. sort_under tree place c.args.n c.node.result.now listed number c.node.ensures ∙ c.in-Node.is
