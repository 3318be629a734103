use Rattle.ve_origin.proofs.BodyLemmas.{ends_at}
use Rattle.ve_origin.proofs.bodies.ends.Goals as goal

pub returns-else-at-len : goal.returns-else-at-len
returns-else-at-len c = ends_at c.args.depth c.args.at c.args.list.now.items c.get.result c.closes.result c.get.ensures c.closes.ensures
