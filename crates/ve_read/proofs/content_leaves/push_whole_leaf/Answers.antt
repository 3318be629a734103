use Rattle.ve_read.proofs.LeafLemmas.{on_ok_map, whole_leaf_read, whole_leaf_stops}
use Rattle.ve_read.proofs.content_leaves.push_whole_leaf.Goals as goal

pub returns-clause-ok : goal.returns-clause-ok
returns-clause-ok c =
    on_ok_map c.push_leaf.result
    (whole_leaf_read c.args.text.now c.args.forest.now c.args.n c.args.part.end c.args.part.byte c.node.result.now c.args.kind c.part_source-source.result.now c.in_ok-head.head c.args.reader.now
    c.node.ensures c.part_source-source.ensures c.in_ok-head.ensures c.push_leaf.new.self)
    c.push_leaf.ensures.ok

pub returns-clause-limit : goal.returns-clause-limit
returns-clause-limit c =
    whole_leaf_stops c.args.text.now c.args.forest.now c.args.n c.args.part.end c.args.part.byte c.node.result.now c.args.kind c.part_source-source.result.now c.in_ok-head.head c.args.reader.now
    c.node.ensures c.part_source-source.ensures c.in_ok-head.ensures c.push_leaf.result c.push_leaf.ensures.limit
