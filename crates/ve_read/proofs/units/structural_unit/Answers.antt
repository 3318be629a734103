use Rattle.ve_read.proofs.UnitLemmas.{structural_white, structural_block_unit}
use Rattle.ve_read.proofs.units.structural_unit.Goals as goal

pub returns-in-White-clause-unit : goal.returns-in-White-clause-unit
returns-in-White-clause-unit c =
    structural_white c.args.forest.now c.args.kind c.args.n c.args.to.end c.args.to.byte c.part_at-part.result.end c.part_at-part.result.byte c.fit.result c.requires.within c.fit.ensures c.in-White.is
    c.part_at-part.ensures.part

pub returns-in_default-clause-unit : goal.returns-in_default-clause-unit
returns-in_default-clause-unit c =
    structural_block_unit c.args.forest.now c.args.kind c.args.n c.args.to.end c.args.to.byte c.part_at-part.result.end c.part_at-part.result.byte c.fit.result c.requires.within c.fit.ensures c.in_default.not-White
    c.part_at-part.ensures.part
