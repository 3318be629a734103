use Rattle.std.proofs.Common.{◌≡◌, ◌≤◌, ◌+◌, ◌∷◌, ◌++◌, [], length, take, drop, sym, ap, subst, ◌∙◌, arith}
use Rattle.std.proofs.lemmas.List.{take_more}
use Rattle.model_items.specs.Plain.{plain_list}
use Rattle.ve_tx.specs.Making.{standing}
use Rattle.ve_tx.specs.Normal.{size, total_size}
use Rattle.ve_tx.specs.Operation.{with_position, with_positions}
use Rattle.ve_tx.proofs.TurnedLemmas.{length-with_positions}
use Rattle.ve_tx.proofs.AlikeLemmas.{member_at}
use Rattle.ve_tx.proofs.RecitedLemmas.{op_at}
use Rattle.ve_tx.proofs.FilledLemmas.{Filling, filling-allowed, filling-next, filling-last}
use Rattle.ve_tx.proofs.filled.filled_along.Goals as goal

pub step-requires-clause-allowed : goal.step-requires-clause-allowed
step-requires-clause-allowed c =
    filling-allowed c.args.store.now (with_positions c.args.ops.now c.args.kept.now) (plain_list c.args.store.now c.args.list.now.items)
    (standing (plain_list c.args.store.now c.args.list.now.items) c.loop-i.cursor.at c.loop-i.cursor.head) c.loop-i.i
    (with_positions c.loop-i.made.ops.items c.loop-i.made.kept.items)
    (with_position c.index-ops-i.result c.position_at.result)
    (op_at c.args.ops.now c.args.kept.now c.loop-i.i c.index-ops-i.result c.position_at.result c.loop-i-test.true c.index-ops-i.is c.position_at.ensures)
    c.loop-i.invariant.3

pub loop-i-preserved : goal.loop-i-preserved
loop-i-preserved c =
    let L = plain_list c.args.store.now c.args.list.now.items in
    let tx = with_positions c.args.ops.now c.args.kept.now in
    let made = with_positions c.loop-i.made.ops.items c.loop-i.made.kept.items in
    let items = standing L c.in_ok-next.next.at c.in_ok-next.next.head in
    let op = c.index-ops-i.result in
    let part : drop c.loop-i.i c.args.ops.now ≡ op ∷ drop (c.loop-i.i + 1) c.args.ops.now = member_at c.args.ops.now c.loop-i.i op c.loop-i-test.true c.index-ops-i.is in
    let more : total_size (drop c.loop-i.i c.args.ops.now) ≡ size op + total_size (drop (c.loop-i.i + 1) c.args.ops.now) = ap total_size part in
    let copied : c.push.new.self.ops.items ≡ c.loop-i.made.ops.items ++ op ∷ [] = c.in_ok-push.ensures.ops ∙ ap (λ o. c.loop-i.made.ops.items ++ o ∷ []) c.in_ok-copy.ensures in
    let put : with_positions c.push.new.self.ops.items c.push.new.self.kept.items ≡ made ++ with_position op c.in_ok-next.position ∷ [] =
    c.in_ok-push.ensures.ok ∙ ap (λ o. made ++ with_position o c.in_ok-next.position ∷ []) c.in_ok-copy.ensures in (
      c.in_ok-push.ensures.even,
      copied ∙ ap (λ os. os ++ op ∷ []) c.loop-i.invariant.1 ∙ ap (λ o. take c.loop-i.i c.args.ops.now ++ o ∷ []) c.index-ops-i.is ∙ sym (take_more c.args.ops.now c.loop-i.i op c.loop-i-test.true),
      omega (arith, c.in_ok-next.ensures.at, c.loop-i.invariant.2, more),
      subst (λ all. Filling c.args.store.now tx L (c.loop-i.i + 1) all items) (sym put)
          (filling-next c.args.store.now tx L (standing L c.loop-i.cursor.at c.loop-i.cursor.head) items c.loop-i.i made (with_position op c.position_at.result)
          (with_position op c.in_ok-next.position)
          (op_at c.args.ops.now c.args.kept.now c.loop-i.i op c.position_at.result c.loop-i-test.true c.index-ops-i.is c.position_at.ensures)
          c.in_ok-next.ensures.passed c.in_ok-next.ensures.filled c.loop-i.invariant.3),
    )

pub returns-clause-filled : goal.returns-clause-filled
returns-clause-filled c =
    let tx = with_positions c.args.ops.now c.args.kept.now in
    let done : length tx ≤ c.loop-i.i = omega (arith, length-with_positions c.args.ops.now c.args.kept.now, c.loop-i-test.false) in
    filling-last c.args.store.now tx (plain_list c.args.store.now c.args.list.now.items)
    (standing (plain_list c.args.store.now c.args.list.now.items) c.loop-i.cursor.at c.loop-i.cursor.head) c.loop-i.i
    (with_positions c.loop-i.made.ops.items c.loop-i.made.kept.items) done c.loop-i.invariant.3
