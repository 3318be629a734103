use Rattle.ve_tx.proofs.FilledLemmas.{allowed_here, passed_here, filled_here}
use Rattle.ve_tx.proofs.filled.step.Goals as goal

pub changed-requires-clause-present : goal.changed-requires-clause-present
changed-requires-clause-present c =
    (allowed_here c.args.store.now c.args.list.now.items c.args.cursor.at c.args.cursor.head c.get.result c.in_ok-present-in-Attribute.present c.args.op.now c.args.kept c.in-Attribute.is
    c.get.ensures c.in_ok-present-in-Attribute.ensures c.requires.allowed).1

pub changed-requires-clause-free : goal.changed-requires-clause-free
changed-requires-clause-free c =
    (allowed_here c.args.store.now c.args.list.now.items c.args.cursor.at c.args.cursor.head c.get.result c.in_ok-present-in-Attribute.present c.args.op.now c.args.kept c.in-Attribute.is
    c.get.ensures c.in_ok-present-in-Attribute.ensures c.requires.allowed).2

pub returns-in_ok-next-in-Attribute-clause-passed : goal.returns-in_ok-next-in-Attribute-clause-passed
returns-in_ok-next-in-Attribute-clause-passed c =
    passed_here c.args.store.now c.args.list.now.items c.args.cursor.at c.args.cursor.head c.get.result c.in_ok-present-in-Attribute.present c.args.op.now c.args.kept c.in-Attribute.is
    c.get.ensures c.in_ok-present-in-Attribute.ensures c.in_ok-next-in-Attribute.next c.in_ok-next-in-Attribute.ensures

pub returns-in_ok-next-in-Attribute-clause-filled : goal.returns-in_ok-next-in-Attribute-clause-filled
returns-in_ok-next-in-Attribute-clause-filled c =
    let allowed =
    allowed_here c.args.store.now c.args.list.now.items c.args.cursor.at c.args.cursor.head c.get.result c.in_ok-present-in-Attribute.present c.args.op.now c.args.kept c.in-Attribute.is
    c.get.ensures c.in_ok-present-in-Attribute.ensures c.requires.allowed in
    filled_here c.args.store.now c.args.list.now.items c.args.cursor.at c.args.cursor.head c.get.result c.in_ok-present-in-Attribute.present c.args.op.now c.args.kept c.in-Attribute.is
    c.get.ensures c.in_ok-present-in-Attribute.ensures c.position_to_keep-position.result (c.position_to_keep-position.ensures _ allowed.0)
