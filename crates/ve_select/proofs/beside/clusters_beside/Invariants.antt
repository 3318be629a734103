use Rattle.std.proofs.Common.{true}
use Rattle.unicode_segmentation.specs.Grapheme.{graphemes}
use Rattle.unicode_segmentation.specs.Iter.{graphemes_left}
use Rattle.ve_select.specs.Passing.{IsPassing}
use Rattle.ve_select.proofs.beside.clusters_beside.Given as goal

abbrev pub invariant-loop-cluster : goal.invariant-loop-cluster
invariant-loop-cluster l = IsPassing l.bound (graphemes true l.text) (graphemes_left l.cluster-iterator) l.end l.below
