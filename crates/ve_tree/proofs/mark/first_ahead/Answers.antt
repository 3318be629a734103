use Rattle.std.proofs.Common.{length, sym, subst}
use Rattle.ve_tree.specs.Way.{BeginsBefore}
use Rattle.ve_tree.proofs.ClimbLemmas.{root_whole}
use Rattle.ve_tree.proofs.LandmarkLemmas.{root_first}
use Rattle.ve_tree.proofs.mark.first_ahead.Goals as goal

pub returns : goal.returns
returns c = λ items tree.
    subst (BeginsBefore tree (length items) c.in_ok-first.first) (sym (root_whole tree c.node-top.result.now c.node-top.ensures))
    (root_first tree (length items) c.node-top.result.now c.in_ok-first.first c.node-top.ensures c.in_ok-first.was)
