use Rattle.ve_offsets.proofs.SideLemmas.{back_is}
use Rattle.ve_offsets.proofs.nearest.content_back.Goals as goal

pub returns : goal.returns
returns c = back_is c.args.doc.list.now.items c.args.o c.search_back.result c.requires.within c.search_back.ensures.last c.search_back.ensures.none
