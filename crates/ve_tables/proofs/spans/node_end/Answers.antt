use Rattle.std.proofs.Common.{arith}
use Rattle.ve_edits.proofs.RoundLemmas.{partner_within}
use Rattle.ve_tables.proofs.spans.node_end.Goals as goal

pub prove-unreachable-requires : goal.prove-unreachable-requires
prove-unreachable-requires c =
    let within = partner_within c.args.doc.store.now c.args.doc.list.now.items c.args.at c.requires.within in
    omega (arith, within, c.partner-other.ensures c.args.doc.store.now, c.len-len.ensures)

pub returns-clause-means : goal.returns-clause-means
returns-clause-means c = omega (arith, c.partner-other.ensures c.args.doc.store.now)
