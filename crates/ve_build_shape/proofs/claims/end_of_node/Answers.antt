use Rattle.std.proofs.Common.{[], arith}
use Rattle.ve_edits.proofs.RoundLemmas.{partner_within}
use Rattle.ve_build_shape.proofs.claims.end_of_node.Goals as goal

pub prove-unreachable-requires : goal.prove-unreachable-requires
prove-unreachable-requires c =
    let within = partner_within [] c.args.doc.list.now.items c.args.at c.requires.within in
    let same = c.partner-other.ensures [] in
    omega arith
