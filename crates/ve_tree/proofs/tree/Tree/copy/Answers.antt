use Rattle.std.proofs.Common.{◌+◌, ap, ◌∙◌}
use Rattle.ve_tree.proofs.LiveLemmas.{nodes_counted}
use Rattle.ve_tree.proofs.tree.Tree.copy.Goals as goal

pub returns-in_err-arena-clause-step_a_node : goal.returns-in_err-arena-clause-step_a_node
returns-in_err-arena-clause-step_a_node g c items tree =
    c.copy.ensures.step_a_node ∙ ap (λ n. c.args.steps.now + n) (nodes_counted c.args.self.now.arena.slots c.args.self.now.root items tree)

pub returns-clause-step_a_node : goal.returns-clause-step_a_node
returns-clause-step_a_node g c items tree =
    c.copy.ensures.step_a_node ∙ ap (λ n. c.args.steps.now + n) (nodes_counted c.args.self.now.arena.slots c.args.self.now.root items tree)
