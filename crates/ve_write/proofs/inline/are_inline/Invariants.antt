use Rattle.std.proofs.Common.{◌-◌, length}
use Rattle.model_spelling.specs.Forest.{Forest}
use Rattle.model_spelling.specs.ForestNodes.{forest_nodes}
use Rattle.ve_html_tree.specs.Nodes.{ShowNodes}
use Rattle.ve_write.proofs.InlineLemmas.{Left}
use Rattle.ve_write.proofs.inline.are_inline.Given as goal

abbrev pub invariant-loop-n : goal.invariant-loop-n
invariant-loop-n l = (f : Forest) → ShowNodes l.forest (forest_nodes 0 0 f) → Left l.forest l.n f

abbrev pub decreases-loop-n : goal.decreases-loop-n
decreases-loop-n l = length l.forest - l.n
