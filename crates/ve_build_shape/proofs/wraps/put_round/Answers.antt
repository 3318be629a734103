use Rattle.ve_build_shape.proofs.RoundLemmas.{node_collected}
use Rattle.ve_build_shape.proofs.wraps.put_round.Goals as goal

pub returns-clause-puts : goal.returns-clause-puts
returns-clause-puts c = λ values shapes listed are.
    node_collected values c.args.doc.list.now.items c.args.at c.args.count c.end_of_node-end.result shapes c.args.brackets.now c.as_slice-openings.result.now c.as_slice-closings.result.now
    c.args.edits.now c.change.new.self c.change-2.new.self (c.end_of_node-end.ensures.means values) c.as_slice-openings.ensures c.as_slice-closings.ensures listed are
    c.in_ok-change.ensures.makes c.in_ok-change-2.ensures.makes
