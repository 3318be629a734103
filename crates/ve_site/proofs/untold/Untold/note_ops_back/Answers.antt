use Rattle.std.proofs.Common.{◌+◌, List, drop, ap, ◌∙◌, sym, arith}
use Rattle.std.proofs.lemmas.List.{drop_all}
use Rattle.model_site.specs.Untold.{with_patches}
use Rattle.ve_tx.specs.Turned.{op_back}
use Rattle.ve_tx.specs.declared.op.Op.{Op}
use Rattle.ve_site.specs.Patches.{all_changed, all_turned, changed_at}
use Rattle.ve_site.proofs.PatchLemmas.{next_is, op_noted, room_left_back, stays_within, with_none}
use Rattle.ve_site.proofs.untold.Untold.note_ops_back.Goals as goal

pub loop-op-preserved : goal.loop-op-preserved
loop-op-preserved c =
    let ops = c.args.ops.now in
    let i = c.loop-op.op-index in
    let o = c.op-item.result in
    let rest = drop (i + 1) ops in
    let now = c.note_op_back-at.new.self in
    let f = c.note_op_back-at.ensures in
    let split = next_is i ops o c.loop-op-test.true c.op-item.is in
    record {
      noted = op_noted c.loop-op.at c.note_op_back-at.result (op_back o) (all_turned (drop i ops)) (all_turned rest) c.loop-op.self now (with_patches (all_changed 0 (all_turned c.args.ops.now)) c.args.self.now)
          (ap all_turned split) c.loop-op.invariant.noted f.noted f.after;
      room = room_left_back c.loop-op.at c.note_op_back-at.result o (drop i ops) rest split c.loop-op.invariant.room f.after;
      within = stays_within (changed_at c.loop-op.at (op_back o)) c.loop-op.self now f.noted;
    }

pub returns : goal.returns
returns c =
    let none = drop_all c.loop-op.op-index c.args.ops.now (omega (arith, c.loop-op-test.false)) in
    sym (with_none c.loop-op.self c.loop-op.invariant.within)
    ∙ (ap (λ (l : List Op). with_patches (all_changed c.loop-op.at (all_turned l)) c.loop-op.self) (sym none) ∙ c.loop-op.invariant.noted)
