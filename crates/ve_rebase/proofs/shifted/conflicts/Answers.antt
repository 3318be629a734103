use Rattle.std.proofs.Common.{◌≤◌, ◌^◌, ◌+◌, [], sym, ap, subst, ◌∙◌}
use Rattle.model_change.specs.Join.{some_meet}
use Rattle.ve_tx.specs.Normal.{total_size}
use Rattle.ve_rebase.specs.Places.{places, after_first}
use Rattle.ve_rebase.proofs.RangeLemmas.{apart_conflict, overlap_conflict, attributes_conflict, small_rest}
use Rattle.ve_rebase.proofs.shifted.conflicts.Goals as goal

pub returns-then-not-meets : goal.returns-then-not-meets
returns-then-not-meets c = λ values others.
    sym (apart_conflict c.args.a c.args.b c.requires.first c.requires.second (sym c.meets.ensures ∙ c.if-not-meets.true) values others)

pub returns-then-not-both : goal.returns-then-not-both
returns-then-not-both c = λ values others.
    sym (overlap_conflict c.args.a c.args.b c.both_attributes-both.result c.requires.first c.requires.second (sym c.meets.ensures ∙ c.if-not-meets.false)
    c.both_attributes-both.ensures c.if-not-both.true values others)

pub attributes_meet-requires-clause-small : goal.attributes_meet-requires-clause-small
attributes_meet-requires-clause-small c =
    subst (λ ops. c.args.a.span.first + total_size ops ≤ 2 ^ 62) (sym c.after_first-ops.ensures)
    (small_rest c.args.a c.ops.result.now c.requires.first c.ops.ensures.ops (c.ops.ensures.normal []))

pub attributes_meet-requires-clause-others_small : goal.attributes_meet-requires-clause-others_small
attributes_meet-requires-clause-others_small c =
    subst (λ ops. c.args.b.span.first + total_size ops ≤ 2 ^ 62) (sym c.after_first-others.ensures)
    (small_rest c.args.b c.ops-2.result.now c.requires.second c.ops-2.ensures.ops (c.ops-2.ensures.normal []))

pub returns : goal.returns
returns c = λ values others.
    attributes_conflict c.args.a c.args.b c.both_attributes-both.result c.attributes_meet.result c.ops.result.now c.ops-2.result.now c.requires.first c.requires.second
    c.both_attributes-both.ensures c.if-not-both.false c.ops.ensures.ops c.ops-2.ensures.ops
    (c.attributes_meet.ensures
    ∙ (ap (λ ops. some_meet (places c.args.a.span.first ops) (places c.args.b.span.first c.after_first-others.result.now)) c.after_first-ops.ensures
    ∙ ap (λ ops. some_meet (places c.args.a.span.first (after_first c.ops.result.now)) (places c.args.b.span.first ops)) c.after_first-others.ensures))
    values others
