use Rattle.std.proofs.Common.{◌≡◌, arith, length, drop, subst, sym, ◌∙◌, ap}
use Rattle.ve_tx.specs.Order.{IsKept, all_settled}
use Rattle.ve_tx.proofs.OrderLemmas.{given_back, first_below, first_kept}
use Rattle.ve_tx.proofs.order.Order.first.Goals as goal

pub settle_all-requires : goal.settle_all-requires
settle_all-requires c =
    first_below c.in_ok-chunks.chunks.items c.as_slice-2.result.now c.in_ok-numbers.numbers.items c.as_mut_slice.result.now c.args.count
    c.in_ok-numbers.ensures (c.in_ok-chunks.ensures ∙ c.as_slice.ensures.value) c.as_slice-2.ensures.value c.as_mut_slice.ensures.value

pub invariant_of-result : goal.invariant_of-result
invariant_of-result c =
    let row = c.in_ok-numbers.numbers.items in
    let back = given_back c.settle_all.new.homes (drop (length c.settle_all.new.homes) row) _ c.in_ok-numbers.numbers.len c.as_mut_slice.ensures.len c.settle_all.auto.homes in
    let set : c.settle_all.new.homes ≡ all_settled row 0 c.in_ok-chunks.chunks.items =
    c.settle_all.ensures ∙ ap (λ l. all_settled l 0 c.as_slice-2.result.now) c.as_mut_slice.ensures.value ∙ ap (all_settled row 0) c.as_slice-2.ensures.value in
    subst (λ l. IsKept c.in_ok-chunks.chunks.items l c.args.count) (sym back)
    (first_kept c.in_ok-chunks.chunks.items row c.settle_all.new.homes c.args.count (let range = c.ranges.count in omega (arith, range)) c.in_ok-numbers.ensures (c.in_ok-chunks.ensures ∙ c.as_slice.ensures.value) set)
