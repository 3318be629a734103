use Rattle.std.proofs.Common.{◌<◌, ◌≤◌, length, arith}
use Rattle.std.proofs.lemmas.List.{length-map}
use Rattle.model_items.specs.Plain.{plain, plain_list}
use Rattle.model_items.specs.Offsets as model
use Rattle.ve_edits.proofs.SpanLemmas.{span_by_ends, or_first, or_second}
use Rattle.ve_edits.proofs.spans.is_bad_span.Goals as goal

pub returns-then-inside_leaf-clause-bad : goal.returns-then-inside_leaf-clause-bad
returns-then-inside_leaf-clause-bad c = λ values.
    let items = plain_list values c.args.doc.list.now.items in
    let n = length-map c.args.doc.list.now.items (plain values) in
    let a = model.is_inside_leaf items c.args.from in
    let b = model.is_inside_leaf items c.args.to in
    span_by_ends items c.args.from c.args.to a b c.inside_leaf.result (λ le. let some : c.args.to ≤ c.args.from = le in omega (arith, c.if-to-from.false)) (λ lt. let past : length items < c.args.to = lt in omega (arith, n, c.if-len-to.false, c.len.ensures))
    (or_first a b c.inside_leaf.result (c.inside_leaf.ensures values) c.if-inside_leaf.true)

pub returns-else-inside_leaf-clause-bad : goal.returns-else-inside_leaf-clause-bad
returns-else-inside_leaf-clause-bad c = λ values.
    let items = plain_list values c.args.doc.list.now.items in
    let n = length-map c.args.doc.list.now.items (plain values) in
    let a = model.is_inside_leaf items c.args.from in
    let b = model.is_inside_leaf items c.args.to in
    let r = c.inside_leaf-else-inside_leaf.result in
    span_by_ends items c.args.from c.args.to a b r (λ le. let some : c.args.to ≤ c.args.from = le in omega (arith, c.if-to-from.false)) (λ lt. let past : length items < c.args.to = lt in omega (arith, n, c.if-len-to.false, c.len.ensures))
    (or_second a b r c.inside_leaf.result (c.inside_leaf.ensures values) c.if-inside_leaf.false (c.inside_leaf-else-inside_leaf.ensures values))
