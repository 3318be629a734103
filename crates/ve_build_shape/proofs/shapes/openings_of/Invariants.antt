use Rattle.std.proofs.Common.{take}
use Rattle.ve_build_shape.specs.Round.{AreOpenings}
use Rattle.ve_build_shape.proofs.shapes.openings_of.Given as goal

abbrev pub invariant-loop-shape : goal.invariant-loop-shape
invariant-loop-shape l = AreOpenings l.fn.store l.fn.new l.new (take l.shape-index l.fn.shapes) l.openings
