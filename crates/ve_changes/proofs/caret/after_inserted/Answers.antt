use Rattle.ve_changes.proofs.TypedCaretLemmas.{after_is}
use Rattle.ve_changes.proofs.caret.after_inserted.Goals as goal

pub returns-in-Some : goal.returns-in-Some
returns-in-Some c =
    after_is c.args.tx.now c.in_ok-seen.seen c.ops.result.now c.ops-2.result.now c.first_passed.result c.in-Some.at c.ops.ensures.ops c.ops-2.ensures.ops c.in_ok-seen.ensures
    c.first_passed.ensures c.in-Some.ensures.1
