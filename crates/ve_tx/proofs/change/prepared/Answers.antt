use Rattle.std.proofs.Common.{arith}
use Rattle.ve_tx.proofs.NormalLemmas.{total-within}
use Rattle.ve_tx.proofs.ChangeLemmas.{brought-by_value}
use Rattle.ve_tx.proofs.change.prepared.Goals as goal

pub brought_by-requires : goal.brought_by-requires
brought_by-requires c = total-within c.args.ops.now c.args.kept.now c.requires.normal

pub returns-clause-room : goal.returns-clause-room
returns-clause-room c =
    let same = brought-by_value c.args.store.now c.args.ops.now c.args.kept.now in
    let few = c.in_ok-splices.ensures.thrifty in
    let taken = c.brought_by.ensures in
    let room = c.in_ok-reserve.ensures.ok in
    omega arith
