use Rattle.std.proofs.Common.{◌≡◌, length, sym, ap, ◌∙◌, subst, arith}
use Rattle.std.specs.BTreeMap.{get_by_text}
use Rattle.ve_tx.specs.Order.{counted}
use Rattle.ve_tx.specs.Many.{ordered, IsIndexed}
use Rattle.ve_tx.proofs.ManyLemmas.{length-counted, whole_list}
use Rattle.ve_tx.proofs.many.ManyAttrs.of.Goals as goal

pub invariant_of-result : goal.invariant_of-result
invariant_of-result c =
    let slots = c.args.attrs.items in
    let numbers = get_by_text c.in_ok-numbers.numbers in
    let count : c.len-count.result ≡ length slots = omega (arith, c.len-count.ensures, c.args.attrs.ok) in
    let order : c.in_ok-order.order ≡ counted 0 (length slots) = c.in_ok-order.ensures ∙ ap (counted 0) count in
    let indexed = subst (λ l. IsIndexed l numbers (counted 0 (length l))) c.as_slice.ensures.value c.in_ok-numbers.ensures in
    (subst (IsIndexed slots numbers) (sym order) indexed, count ∙ sym (length-counted 0 (length slots)) ∙ sym (ap length order))

pub returns : goal.returns
returns c =
    let slots = c.args.attrs.items in
    let count : c.len-count.result ≡ length slots = omega (arith, c.len-count.ensures, c.args.attrs.ok) in
    let order : c.in_ok-order.order ≡ counted 0 (length slots) = c.in_ok-order.ensures ∙ ap (counted 0) count in
    ap (ordered slots) order ∙ whole_list slots
