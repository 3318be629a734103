use Rattle.std.proofs.Common.{length, arith}
use Rattle.ve_tx.proofs.SplicedLemmas.{lie-gone, spliced-length}
use Rattle.ve_editor.proofs.verdict.length_after.Goals as goal

pub loop-splice-init : goal.loop-splice-init
loop-splice-init c =
    let list = c.args.list.now.items in
    let splices = c.args.change.now.splices.items in
    let few = lie-gone 0 (length list) splices c.requires in
    let len = c.len-kept.ensures in
    record { kept = omega arith; come = omega arith; gone = omega arith; whole = spliced-length 0 (length list) list splices c.requires (omega arith) }
