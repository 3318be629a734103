use Rattle.std.proofs.Common.{refl}
use Rattle.ve_write.proofs.SiblingLemmas.{no_closing}
use Rattle.ve_write.proofs.RunLemmas.{char_passed, leaf_passed, leaf_stopped}
use Rattle.ve_write.proofs.run.pass_one.Goals as goal

pub stays_inline-requires-clause-head : goal.stays_inline-requires-clause-head
stays_inline-requires-clause-head c = (c.requires.cites c.args.at _ c.in-Opening.ensures).0

pub stays_inline-requires-clause-marks : goal.stays_inline-requires-clause-marks
stays_inline-requires-clause-marks c = (c.requires.cites c.args.at _ c.in-Opening.ensures).1

pub unreachable-requires : goal.unreachable-requires
unreachable-requires c = no_closing c.args.list.now.items c.args.at c.get.result _ _ c.get.ensures c.in-Closing.is c.requires.open

pub returns-in-Char-clause-passed : goal.returns-in-Char-clause-passed
returns-in-Char-clause-passed c =
    char_passed c.args.store.now c.args.list.now.items c.args.at _ _ c.args.seen c.is_content-content.result c.either.result c.in-Char.ensures
    (c.is_content-content.ensures c.args.store.now (c.requires.cites c.args.at _ c.in-Char.ensures)) c.either.ensures

pub returns-then-not-branch-clause-passed : goal.returns-then-not-branch-clause-passed
returns-then-not-branch-clause-passed c =
    leaf_stopped c.args.store.now c.args.list.now.items c.args.at _ _ _ _ _ _ c.args.seen _ c.in-Opening.ensures c.in_ok-stays_inline-in-Opening.ensures c.if-not-branch.true

pub returns-else-not-branch-clause-passed : goal.returns-else-not-branch-clause-passed
returns-else-not-branch-clause-passed c =
    leaf_passed c.args.store.now c.args.list.now.items c.args.at _ _ _ _ _ _ c.args.seen _ c.siblings_end-end.result c.after_siblings.result c.in-Opening.ensures c.in_ok-stays_inline-in-Opening.ensures c.if-not-branch.false
    c.siblings_end-end.ensures.end c.after_siblings.ensures.follows
