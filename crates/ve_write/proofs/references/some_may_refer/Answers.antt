use Rattle.std.proofs.Common.{sym, ◌∙◌, arith}
use Rattle.ve_write.proofs.ReferringLemmas.{one_refers, none_refers, none_yet}
use Rattle.ve_write.proofs.references.some_may_refer.Goals as goal

pub returns-then-may_refer : goal.returns-then-may_refer
returns-then-may_refer c = one_refers c.args.store.now c.loop-at.at c.get.result.now c.get.ensures (sym c.may_refer.ensures ∙ c.if-may_refer.true) c.loop-at.invariant

pub loop-at-preserved : goal.loop-at-preserved
loop-at-preserved c = none_yet c.args.store.now c.loop-at.at c.get.result.now c.get.ensures (sym c.may_refer.ensures ∙ c.if-may_refer.false) c.loop-at.invariant

pub returns : goal.returns
returns c = none_refers c.args.store.now c.loop-at.at (omega (arith, c.loop-at-test.false, c.len-at-end.ensures.count)) c.loop-at.invariant
