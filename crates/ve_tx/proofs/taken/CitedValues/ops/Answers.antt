use Rattle.std.proofs.Common.{◌≤◌, ◌+◌, length, sym, subst, arith}
use Rattle.ve_tx.specs.Cites.{OperationCites}
use Rattle.ve_tx.specs.Operation.{with_position, with_positions, operation_by_value}
use Rattle.ve_tx.specs.Parcel.{operation_cited, operation_cited_in}
use Rattle.ve_tx.proofs.TurnedLemmas.{length-with_positions}
use Rattle.ve_tx.proofs.AlikeLemmas.{Going, going-next, going-last, going-filled}
use Rattle.ve_tx.proofs.RecitedLemmas.{op_at, op_cites}
use Rattle.ve_tx.proofs.TakenLemmas.{on_err, still_extends}
use Rattle.ve_tx.proofs.ValuesLemmas.{extends_on}
use Rattle.ve_tx.proofs.taken.CitedValues.ops.Goals as goal

pub op-requires-clause-cites : goal.op-requires-clause-cites
op-requires-clause-cites c =
    op_cites c.args.values.now c.args.ops.now c.args.kept.now c.loop-i.i c.index-ops-i.result c.loop-i-test.true c.index-ops-i.is c.requires.cites

pub loop-i-preserved : goal.loop-i-preserved
loop-i-preserved c = (
  c.in_ok-op.ensures.taken,
  c.in_ok-push.ensures.even,
  let tx = with_positions c.args.ops.now c.args.kept.now in
      let made = with_positions c.loop-i.made.ops.items c.loop-i.made.kept.items in
      let P = Going operation_by_value OperationCites operation_cited c.args.values.now c.args.store.now c.op.new.store tx (c.loop-i.i + 1) in
      subst P (sym c.in_ok-push.ensures.ok)
      (going-next operation_by_value OperationCites operation_cited c.args.values.now c.args.store.now c.loop-i.store c.op.new.store tx c.loop-i.i made
      (with_position c.index-ops-i.result c.position_at.result) (with_position c.in_ok-op.op c.position_at.result)
      (op_at c.args.ops.now c.args.kept.now c.loop-i.i c.index-ops-i.result c.position_at.result c.loop-i-test.true c.index-ops-i.is c.position_at.ensures)
      (c.in_ok-op.ensures.filled c.position_at.result) (c.in_ok-op.ensures.alike c.position_at.result) c.loop-i.invariant.2),
  still_extends c.args.store.now c.loop-i.store c.op.new.store (operation_cited_in c.args.values.now (with_position c.index-ops-i.result c.position_at.result))
      (c.in_ok-op.ensures.filled c.position_at.result) c.loop-i.invariant.3,
)

pub returns-clause-filled : goal.returns-clause-filled
returns-clause-filled c =
    let tx = with_positions c.args.ops.now c.args.kept.now in
    let done : length tx ≤ c.loop-i.i = omega (arith, length-with_positions c.args.ops.now c.args.kept.now, c.loop-i-test.false) in
    going-filled operation_by_value OperationCites operation_cited c.args.values.now c.args.store.now c.loop-i.store tx c.loop-i.i
    (with_positions c.loop-i.made.ops.items c.loop-i.made.kept.items) done c.loop-i.invariant.2

pub returns-clause-alike : goal.returns-clause-alike
returns-clause-alike c =
    let tx = with_positions c.args.ops.now c.args.kept.now in
    let done : length tx ≤ c.loop-i.i = omega (arith, length-with_positions c.args.ops.now c.args.kept.now, c.loop-i-test.false) in
    going-last operation_by_value OperationCites operation_cited c.args.values.now c.args.store.now c.loop-i.store tx c.loop-i.i
    (with_positions c.loop-i.made.ops.items c.loop-i.made.kept.items) done c.loop-i.invariant.2

pub returns-in_err-op-clause-grown : goal.returns-in_err-op-clause-grown
returns-in_err-op-clause-grown c =
    on_err c.from_residual.result (extends_on c.args.store.now c.loop-i.store c.op.new.store c.loop-i.invariant.3 c.in_err-op.ensures.grown)

pub returns-in_err-push-clause-grown : goal.returns-in_err-push-clause-grown
returns-in_err-push-clause-grown c =
    on_err c.from_residual-in_err-push.result
    (still_extends c.args.store.now c.loop-i.store c.op.new.store (operation_cited_in c.args.values.now (with_position c.index-ops-i.result c.position_at.result))
    (c.in_ok-op.ensures.filled c.position_at.result) c.loop-i.invariant.3)
