use Rattle.std.proofs.Common.{◌<◌, ◌-◌, length, arith}
use Rattle.ve_editor.proofs.NoteLemmas.{noted-fits}
use Rattle.ve_editor.proofs.back.Back.note.Goals as goal

pub undoing-requires : goal.undoing-requires
undoing-requires c =
    let below : c.loop-left.left - 1 < length c.args.splices.now = omega (arith, c.loop-left-test.true, c.loop-left.invariant.within) in
    noted-fits 0 (length c.args.list.now.items) c.args.splices.now (c.loop-left.left - 1) c.index-splices-left.result below c.index-splices-left.is c.requires
