use Rattle.ve_build_shape.proofs.NodeLemmas.{matched_then, matched_else}
use Rattle.ve_build_shape.proofs.nodes.is_matched.Goals as goal

pub returns-then-closings-eq0 : goal.returns-then-closings-eq0
returns-then-closings-eq0 c = λ values.
    matched_then values c.args.doc.list.now.items c.args.from c.args.to c.unmatched-closings.result c.requires.order c.requires.within c.unmatched-closings.ensures c.if-closings-eq0.true

pub returns-else-closings-eq0 : goal.returns-else-closings-eq0
returns-else-closings-eq0 c = λ values.
    matched_else values c.args.doc.list.now.items c.args.from c.args.to c.unmatched-closings.result c.requires.order c.requires.within c.unmatched-closings.ensures c.if-closings-eq0.false
