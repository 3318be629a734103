use Rattle.std.proofs.Common.{◌≡◌, ◌≤◌, ◌^◌, ◌+◌, ◌-◌, [], sym, ap, subst, ◌∙◌, arith}
use Rattle.ve_tx.specs.Normal.{total_size}
use Rattle.ve_rebase.specs.Totals.{with_ops, nothing}
use Rattle.ve_rebase.proofs.ReadLemmas.{total-within, idle_span, active_span, is_roomy}
use Rattle.ve_rebase.proofs.read.span_of.Goals as goal

pub count-counted-requires : goal.count-counted-requires
count-counted-requires c = subst (λ ops. total_size ops ≤ 2 ^ 60) (sym c.ops.ensures.ops) (total-within c.args.tx.now (c.ops.ensures.normal []))

pub overflow_sub-result : goal.overflow_sub-result
overflow_sub-result c =
    let r = is_roomy c.args.tx.now c.count-counted.result (c.in-Some.start, c.in-Some.end) (c.count-counted.ensures ∙ ap (with_ops nothing) c.ops.ensures.ops) (c.ops.ensures.normal []) (c.in-Some.ensures []) in
    omega arith

pub overflow_sub-result-in-Some : goal.overflow_sub-result-in-Some
overflow_sub-result-in-Some c =
    let r = is_roomy c.args.tx.now c.count-counted.result (c.in-Some.start, c.in-Some.end) (c.count-counted.ensures ∙ ap (with_ops nothing) c.ops.ensures.ops) (c.ops.ensures.normal []) (c.in-Some.ensures []) in
    omega arith

pub overflow_sub-result-in-Some-2 : goal.overflow_sub-result-in-Some-2
overflow_sub-result-in-Some-2 c =
    let r = is_roomy c.args.tx.now c.count-counted.result (c.in-Some.start, c.in-Some.end) (c.count-counted.ensures ∙ ap (with_ops nothing) c.ops.ensures.ops) (c.ops.ensures.normal []) (c.in-Some.ensures []) in
    omega arith

pub overflow_sub-result-in-Some-3 : goal.overflow_sub-result-in-Some-3
overflow_sub-result-in-Some-3 c =
    let r = is_roomy c.args.tx.now c.count-counted.result (c.in-Some.start, c.in-Some.end) (c.count-counted.ensures ∙ ap (with_ops nothing) c.ops.ensures.ops) (c.ops.ensures.normal []) (c.in-Some.ensures []) in
    omega arith

pub overflow_sub-result-in-Some-4 : goal.overflow_sub-result-in-Some-4
overflow_sub-result-in-Some-4 c =
    let r = is_roomy c.args.tx.now c.count-counted.result (c.in-Some.start, c.in-Some.end) (c.count-counted.ensures ∙ ap (with_ops nothing) c.ops.ensures.ops) (c.ops.ensures.normal []) (c.in-Some.ensures []) in
    omega arith

pub returns-in-Some : goal.returns-in-Some
returns-in-Some c = record {
  normal = c.ops.ensures.normal;
  fits =
      let r = is_roomy c.args.tx.now c.count-counted.result (c.in-Some.start, c.in-Some.end) (c.count-counted.ensures ∙ ap (with_ops nothing) c.ops.ensures.ops) (c.ops.ensures.normal []) (c.in-Some.ensures []) in
      let e : c.in-Some.start + (c.in-Some.end - c.in-Some.start) ≡ c.in-Some.end = omega arith in
      omega arith;
  span = λ values. active_span values c.args.tx.now c.count-counted.result (c.in-Some.start, c.in-Some.end) _ (c.count-counted.ensures ∙ ap (with_ops nothing) c.ops.ensures.ops) (c.in-Some.ensures values) c.sets_attributes_alone.ensures;
}

pub returns-in-None : goal.returns-in-None
returns-in-None c = record {
  normal = c.ops.ensures.normal;
  fits = omega arith;
  span = λ values. idle_span values c.args.tx.now c.count-counted.result (c.count-counted.ensures ∙ ap (with_ops nothing) c.ops.ensures.ops) (c.ops.ensures.normal values) (c.in-None.ensures values);
}
