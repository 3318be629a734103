use Rattle.std.proofs.Common.{subst}
use Rattle.std.specs.Prelude.{chars}
use Rattle.ve_classify.specs.Fits.{IsFit}
use Rattle.ve_read.proofs.FitLemmas.{whole_else}
use Rattle.ve_read.proofs.BlockLemmas.{on_ok, block_part, may_be, leaf_read, leaf_stops}
use Rattle.ve_read.proofs.block_leaves.push_leaf.Goals as goal

pub unreachable-requires : goal.unreachable-requires
unreachable-requires c =
    whole_else c.args.fit (may_be c.args.text.now c.args.forest.now c.args.around c.args.n c.args.part.end c.args.part.byte c.args.fit c.requires.block c.requires.fit) c.requires.leaf c.in_default.not-Whole

pub part_source-source-requires-clause-part : goal.part_source-source-requires-clause-part
part_source-source-requires-clause-part c = block_part c.args.text.now c.args.forest.now _ c.args.n c.args.part.end c.args.part.byte c.requires.block

pub returns-clause-ok : goal.returns-clause-ok
returns-clause-ok c =
    on_ok c.push_block_leaf.result
    (leaf_read c.args.text.now c.args.forest.now c.args.around c.args.n c.args.part.end c.args.part.byte c.node.result.now c.in-Whole.kind c.part_source-source.result.now (chars c.args.white.now) c.in_ok-head.head c.args.reader.now
    (subst (IsFit c.args.forest.now c.args.n c.args.around) c.in-Whole.is c.requires.fit) c.node.ensures c.part_source-source.ensures c.in_ok-head.ensures c.push_block_leaf.new.self)
    c.push_block_leaf.ensures.ok

pub returns-clause-limit : goal.returns-clause-limit
returns-clause-limit c =
    leaf_stops c.args.text.now c.args.forest.now c.args.around c.args.n c.args.part.end c.args.part.byte c.node.result.now c.in-Whole.kind c.part_source-source.result.now (chars c.args.white.now) c.in_ok-head.head c.args.reader.now
    (subst (IsFit c.args.forest.now c.args.n c.args.around) c.in-Whole.is c.requires.fit) c.node.ensures c.part_source-source.ensures c.in_ok-head.ensures c.push_block_leaf.result
    c.push_block_leaf.ensures.limit
