use Rattle.std.proofs.Common.{[]}
use Rattle.ve_rebase.proofs.ConflictLemmas.{by_attributes, by_ranges, small_ops}
use Rattle.ve_rebase.proofs.join.clash.Goals as goal

pub attributes_meet-requires-clause-small : goal.attributes_meet-requires-clause-small
attributes_meet-requires-clause-small c = small_ops c.args.a.now c.ops-ops.result.now c.ops-ops.ensures.ops (c.ops-ops.ensures.normal [])

pub attributes_meet-requires-clause-others_small : goal.attributes_meet-requires-clause-others_small
attributes_meet-requires-clause-others_small c = small_ops c.args.b.now c.ops-others.result.now c.ops-others.ensures.ops (c.ops-others.ensures.normal [])

pub returns-then-both : goal.returns-then-both
returns-then-both c = λ values.
    by_attributes values c.args.a.now c.args.b.now c.ops-ops.result.now c.ops-others.result.now c.args.span c.args.other
    c.attributes_meet.result c.both_attributes-both.result
    (c.requires.span values) (c.requires.other values) c.both_attributes-both.ensures c.if-both.true
    c.ops-ops.ensures.ops c.ops-others.ensures.ops c.attributes_meet.ensures

pub returns-else-both : goal.returns-else-both
returns-else-both c = λ values.
    by_ranges values c.args.a.now c.args.b.now c.args.span c.args.other
    c.meets.result c.both_attributes-both.result
    (c.requires.span values) (c.requires.other values) c.both_attributes-both.ensures c.if-both.false
    c.meets.ensures
