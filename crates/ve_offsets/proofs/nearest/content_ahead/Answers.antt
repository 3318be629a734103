use Rattle.ve_offsets.proofs.SideLemmas.{ahead_is}
use Rattle.ve_offsets.proofs.nearest.content_ahead.Goals as goal

pub returns : goal.returns
returns c = ahead_is c.args.doc.list.now.items c.args.o c.search_ahead.result c.search_ahead.ensures.first c.search_ahead.ensures.none
