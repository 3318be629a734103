use Rattle.std.proofs.Common.{sym, ◌∙◌}
use Rattle.ve_write.proofs.ReferringLemmas.{empty_table}
use Rattle.ve_write.proofs.references.references.Goals as goal

pub returns : goal.returns
returns c = c.new.ensures ∙ empty_table c.args.store.now c.args.list.now.items (sym c.some_may_refer.ensures ∙ c.if-some_may_refer.false)
