use Rattle.std.proofs.Common.{arith}
use Rattle.ve_answers.proofs.NodeLemmas.{reply_at}
use Rattle.ve_answers.proofs.place.node.Goals as goal

pub returns-clause-reply : goal.returns-clause-reply
returns-clause-reply c = reply_at c.args.doc.store.now c.args.doc.list.now.items c.args.at c.node_within.result (omega (arith, c.if-len-at.false, c.len.ensures)) c.node_within.ensures
