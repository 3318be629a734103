use Rattle.ve_offsets.proofs.NearestModelLemmas.{nearest_is}
use Rattle.ve_offsets.proofs.nearest.nearest_content.Goals as goal

pub returns : goal.returns
returns c = nearest_is c.args.doc.list.now.items c.args.o c.search.result c.search.ensures.nearest c.search.ensures.none
