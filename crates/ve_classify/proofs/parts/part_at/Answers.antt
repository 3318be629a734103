use Rattle.ve_classify.proofs.PartLemmas.{passes}
use Rattle.ve_classify.proofs.parts.part_at.Goals as goal

pub returns-clause-part : goal.returns-clause-part
returns-clause-part c = λ text f at m more r run.
    passes text c.args.forest.now c.args.n at f more c.part_end-end.result c.args.to c.args.byte c.byte_at-byte.result m c.requires.within r run (c.part_end-end.ensures.end f at more r.stands) c.byte_at-byte.ensures.inside c.byte_at-byte.ensures.last
